use Rattle.std.proofs.Common.{◌≡◌, ◌++◌, drop, map}
use Rattle.sk_concrete.specs.declared.worlds.Worlds.{Worlds}
use Rattle.sk_concrete.specs.Worlds.{joined_ends}
use Rattle.sk_concrete.proofs.branches.push_joined_ends.Given as goal

abbrev pub invariant-loop-end : goal.invariant-loop-end
invariant-loop-end l =
    l.list ++ joined_ends l.exports l.place l.world (map (λ (end : Worlds). end.list) (drop l.end-index l.ends))
    ≡ l.fn.list ++ joined_ends l.exports l.place l.world (map (λ (end : Worlds). end.list) l.ends)
