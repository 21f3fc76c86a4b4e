use Rattle.std.proofs.Common.{◌∙◌, ◌<◌, length, arith}
use Rattle.sk_analyse.proofs.KeyList.{point_turn, there}
use Rattle.sk_analyse.proofs.key_list.all_keys.Goals as goal

pub loop-point-preserved : goal.loop-point-preserved
loop-point-preserved c =
    let nodes = c.args.arena.now.nodes in
    let within : c.loop-point.point < length nodes = omega (arith, c.loop-point-test.true, c.count-point-end.ensures.count) in
    let node = there nodes c.loop-point.point within in
    point_turn c.args.checked.now nodes c.loop-point.point node.0 c.loop-point.list c.push_keys_at.new.list node.1 within (c.in_ok-push_keys_at.ensures node.0 node.1)
    ∙ c.loop-point.invariant
