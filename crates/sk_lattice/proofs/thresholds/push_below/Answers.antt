use Rattle.std.proofs.Common.{arith, ◌-ℤ◌, pos}
use Rattle.std.proofs.lemmas.Int.{ints}
use Rattle.sk_lattice.proofs.Pushes.{one_more, none_below}
use Rattle.sk_lattice.proofs.thresholds.push_below.Goals as goal

pub returns-in_ok-push : goal.returns-in_ok-push
returns-in_ok-push c = one_more _ _ (c.args.literal.now -ℤ pos 1) _ c.in_ok-push.ensures.items (omega (arith, ints)) (omega (arith, ints)) (omega (arith, ints))

pub returns-else-literal-gtminus9223372036854775808 : goal.returns-else-literal-gtminus9223372036854775808
returns-else-literal-gtminus9223372036854775808 c = none_below c.args.marks.now.items (c.args.literal.now -ℤ pos 1) (omega (arith, ints))
