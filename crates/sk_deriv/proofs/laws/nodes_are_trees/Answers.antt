use Rattle.sk_deriv.proofs.ForestLemmas.{nodes_are_trees}
use Rattle.sk_deriv.proofs.laws.nodes_are_trees.Goals as goal

pub returns : goal.returns
returns c = nodes_are_trees
