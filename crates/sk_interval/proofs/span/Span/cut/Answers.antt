-- The code's two ends are the ends of the cut.
use Rattle.std.proofs.Common.{arith}
use Rattle.std.proofs.lemmas.Int.{ints, clamps}
use Rattle.sk_interval.specs.Laws.Sets.{cut_made, cut_none}
use Rattle.sk_interval.proofs.span.Span.cut.Goals as goal

pub returns-then-low-high : goal.returns-then-low-high
returns-then-low-high c =
    cut_made c.args.self.low c.args.self.high _ _ _ _ _
    (omega (arith, ints, clamps, c.max-low.ensures.value))
    (omega (arith, ints, clamps, c.min-high.ensures.value))

pub returns-else-low-high : goal.returns-else-low-high
returns-else-low-high c = cut_none c.args.self.low c.args.self.high (omega (arith, ints, clamps, c.max-low.ensures.value, c.min-high.ensures.value))
