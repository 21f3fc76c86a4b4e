-- The code's ends are those of the definition.
use Rattle.std.proofs.Common.{arith}
use Rattle.std.proofs.lemmas.Int.{ints, clamps}
use Rattle.sk_interval.specs.Laws.Sets.{span_same}
use Rattle.sk_interval.proofs.span.Span.between.Goals as goal

pub returns : goal.returns
returns c = span_same _ _ _ _ (omega (arith, ints, clamps)) (omega (arith, ints, clamps))
