use Rattle.std.proofs.Common.{◌≡◌, ◌++◌, drop}
use Rattle.sk_constr.specs.Positions.{exported_sorts}
use Rattle.sk_constr.proofs.world.exported_sorts.Given as goal

abbrev pub invariant-loop-variable : goal.invariant-loop-variable
invariant-loop-variable l = l.flows ++ exported_sorts l.sorts (drop l.variable-index l.exports) ≡ exported_sorts l.sorts l.exports
