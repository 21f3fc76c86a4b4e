use Rattle.std.proofs.Common.{◌≡◌, ◌++◌, drop, map, Some}
use Rattle.std.specs.List.{slice_get}
use Rattle.sk_term.specs.declared.node.TermNode.{TermNode}
use Rattle.sk_term.specs.Terms.{keys_at}
use Rattle.sk_constr.specs.Keys.{lines_of_key}
use Rattle.sk_constr.proofs.making.push_keys_at.Given as goal

abbrev pub invariant-loop-place : goal.invariant-loop-place
invariant-loop-place l =
    (node : TermNode) → slice_get l.arena.nodes l.point ≡ Some node →
    map Some l.list ++ map (lines_of_key l.checked l.arena.nodes) (keys_at l.checked node l.point l.place (drop l.place l.checked.hooks))
    ≡ map Some l.fn.list ++ map (lines_of_key l.checked l.arena.nodes) (keys_at l.checked node l.point 0 l.checked.hooks)
