use Rattle.std.proofs.Common.{◌≡◌, ◌++◌, drop}
use Rattle.sk_term.specs.Terms.{keys}
use Rattle.sk_term.proofs.Keys.{keys_from}
use Rattle.sk_analyse.proofs.key_list.all_keys.Given as goal

abbrev pub invariant-loop-point : goal.invariant-loop-point
invariant-loop-point l = l.list ++ keys_from l.checked l.point (drop l.point l.arena.nodes) ≡ keys l.checked l.arena.nodes
