use Rattle.std.proofs.Common.{◌≡◌, ◌++◌, drop, map, Some}
use Rattle.std.specs.List.{flat_map, enumerate_from}
use Rattle.sk_term.specs.Terms.{keys, keys_at}
use Rattle.sk_constr.specs.Keys.{lines_of_key}
use Rattle.sk_constr.proofs.making.all_keys.Given as goal

abbrev pub invariant-loop-point : goal.invariant-loop-point
invariant-loop-point l =
    map Some l.list ++ map (lines_of_key l.checked l.arena.nodes) (flat_map (λ at. keys_at l.checked at.1 at.0 0 l.checked.hooks) (enumerate_from l.point (drop l.point l.arena.nodes)))
    ≡ map (lines_of_key l.checked l.arena.nodes) (keys l.checked l.arena.nodes)
