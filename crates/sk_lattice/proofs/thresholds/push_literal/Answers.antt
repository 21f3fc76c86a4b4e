use Rattle.std.proofs.Common.{arith}
use Rattle.std.proofs.lemmas.Int.{ints}
use Rattle.sk_lattice.proofs.Pushes.{one_more}
use Rattle.sk_lattice.proofs.thresholds.push_literal.Goals as goal

pub returns : goal.returns
returns c = one_more _ _ c.args.literal.now _ c.in_ok-push.ensures.items (omega (arith, ints)) (omega (arith, ints)) (omega (arith, ints))
