use Rattle.std.proofs.Common.{◌≡◌, map, take, Some}
use Rattle.sk_term.specs.Terms.{sort_of_node}
use Rattle.sk_term.proofs.arena.sorts_of.Given as goal

abbrev pub invariant-loop-node : goal.invariant-loop-node
invariant-loop-node l = map Some l.sorts ≡ map (sort_of_node l.def) (take l.node-index l.nodes)
