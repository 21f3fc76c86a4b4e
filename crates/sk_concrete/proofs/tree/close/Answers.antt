use Rattle.std.proofs.Common.{arith}
use Rattle.sk_concrete.proofs.Closing.{below_now, closed_next}
use Rattle.sk_concrete.proofs.tree.close.Goals as goal

pub push_tree-requires : goal.push_tree-requires
push_tree-requires c =
    below_now c.args.call.now c.args.rule.now c.args.forest.now c.args.worlds.now c.loop-world.forest c.loop-world.trees c.loop-world.world-index c.world-item.result
    (omega (arith, c.loop-world-test.true)) c.world-item.is c.loop-world.invariant c.requires.there

pub loop-world-preserved : goal.loop-world-preserved
loop-world-preserved c =
    closed_next c.args.call.now c.args.rule.now c.args.forest.now c.args.worlds.now c.loop-world.forest c.loop-world.trees c.loop-world.world-index c.world-item.result
    (omega (arith, c.loop-world-test.true)) c.world-item.is c.loop-world.invariant
    c.in_ok-outs.outs c.push_tree.new.forest c.in_ok-tree.tree c.push.new.self c.requires.there (rw c.as_slice.ensures at c.in_ok-outs.ensures)
    c.in_ok-tree.ensures.forest c.in_ok-tree.ensures.tree.0 c.in_ok-tree.ensures.tree.1 c.in_ok-push.ensures.ok
