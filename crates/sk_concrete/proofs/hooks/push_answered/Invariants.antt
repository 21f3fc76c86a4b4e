use Rattle.std.proofs.Common.{◌≡◌, ◌++◌, drop}
use Rattle.sk_concrete.specs.Worlds.{answered}
use Rattle.sk_concrete.proofs.hooks.push_answered.Given as goal

abbrev pub invariant-loop-tree : goal.invariant-loop-tree
invariant-loop-tree l = l.list ++ answered l.outs l.world (drop l.tree-index l.trees) ≡ l.fn.list ++ answered l.outs l.world l.trees
