use Rattle.std.proofs.Common.{◌<◌, length, arith}
use Rattle.sk_solve.proofs.Passes.{there, next_key}
use Rattle.sk_solve.proofs.solving.raise_keys.Goals as goal

pub loop-at-preserved : goal.loop-at-preserved
loop-at-preserved g c =
    let within : c.loop-at.at < length c.args.list.now.keys = omega (arith, c.loop-at-test.true, c.keys-at-end.ensures) in
    let key = there c.args.list.now.keys c.loop-at.at within in
    next_key _ g.D.NumDom.domain c.args.list.now c.loop-at.at key.0 c.args.found.now c.loop-at.found c.raise_lines.new.found c.loop-at.changed c.in_ok-raised.raised key.1 c.loop-at.invariant (c.in_ok-raised.ensures key.0 key.1)
