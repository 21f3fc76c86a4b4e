use Rattle.std.proofs.Common.{arith, ◌+ℤ◌, pos}
use Rattle.std.proofs.lemmas.Int.{ints}
use Rattle.sk_lattice.proofs.Pushes.{one_more, none_above}
use Rattle.sk_lattice.proofs.thresholds.push_above.Goals as goal

pub returns-in_ok-push : goal.returns-in_ok-push
returns-in_ok-push c = one_more _ _ (c.args.literal.now +ℤ pos 1) _ c.in_ok-push.ensures.items (omega (arith, ints)) (omega (arith, ints)) (omega (arith, ints))

pub returns-else-literal-lt9223372036854775807 : goal.returns-else-literal-lt9223372036854775807
returns-else-literal-lt9223372036854775807 c = none_above c.args.marks.now.items (c.args.literal.now +ℤ pos 1) (omega (arith, ints))
