use Rattle.std.proofs.Common.{◌≡◌, ◌++◌, drop}
use Rattle.std.specs.List.{flat_map}
use Rattle.sk_concrete.specs.Worlds.{filtered}
use Rattle.sk_concrete.proofs.filters.filtered.Given as goal

abbrev pub invariant-loop-world : goal.invariant-loop-world
invariant-loop-world l =
    l.list ++ flat_map (filtered l.names l.filter l.args l.outs) (drop l.world-index l.worlds) ≡ flat_map (filtered l.names l.filter l.args l.outs) l.worlds
