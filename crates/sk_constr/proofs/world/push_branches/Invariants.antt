use Rattle.std.proofs.Common.{◌≡◌, ◌++◌}
use Rattle.std.specs.List.{flat_map}
use Rattle.sk_constr.specs.declared.world.GenWorld.{GenWorld}
use Rattle.sk_constr.specs.Worlds.{branch_lines}
use Rattle.sk_constr.proofs.world.push_branches.Given as goal

abbrev pub invariant-loop-end : goal.invariant-loop-end
invariant-loop-end l =
    (l.lines ≡ l.fn.lines ++ flat_map (branch_lines l.to l.exports) l.yielded)
    × (l.positions ≡ l.fn.positions ++ flat_map (λ (end : GenWorld). end.positions) l.yielded)
