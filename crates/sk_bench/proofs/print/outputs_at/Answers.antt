use Rattle.std.proofs.Common.{sym, ap}
use Rattle.sk_deriv.proofs.ForestLemmas.{nodes_are_trees}
use Rattle.sk_deriv.specs.Tree.{outs_of}
use Rattle.sk_bench.proofs.print.outputs_at.Goals as goal

pub returns : goal.returns
returns c = sym (ap outs_of (nodes_are_trees c.args.forest.now c.args.root c.get-node.result.now c.get-node.ensures.forest c.get-node.ensures.node))
