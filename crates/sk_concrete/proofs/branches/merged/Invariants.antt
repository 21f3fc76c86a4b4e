use Rattle.std.proofs.Common.{◌≡◌, ◌++◌, drop, map}
use Rattle.sk_concrete.specs.declared.worlds.Worlds.{Worlds}
use Rattle.sk_concrete.specs.Worlds.{merged}
use Rattle.sk_concrete.proofs.branches.merged.Given as goal

abbrev pub invariant-loop-place : goal.invariant-loop-place
invariant-loop-place l =
    l.list ++ merged l.exports (map (λ (end : Worlds). end.list) l.ends) l.place (drop l.place l.before)
    ≡ merged l.exports (map (λ (end : Worlds). end.list) l.ends) 0 l.before
