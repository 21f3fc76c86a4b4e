use Rattle.std.proofs.Common.{pos, ◌+ℤ◌, ◌-ℤ◌}
use Rattle.sk_lattice.specs.Thresholds.{in_range}
use Rattle.sk_lattice.proofs.Pushes.{three}
use Rattle.sk_lattice.proofs.thresholds.push_near.Goals as goal

pub returns : goal.returns
returns c =
    three _ _ _ _ (in_range (c.args.literal.now -ℤ pos 1)) (in_range c.args.literal.now) (in_range (c.args.literal.now +ℤ pos 1))
    c.in_ok-push_below.ensures c.in_ok-push_literal.ensures c.in_ok-push_above.ensures
