use Rattle.std.proofs.Common.{◌≡◌, ◌++◌, drop}
use Rattle.sk_constr.specs.Operands.{operands_at}
use Rattle.sk_constr.proofs.env.operands_at.Given as goal

abbrev pub invariant-loop-variable : goal.invariant-loop-variable
invariant-loop-variable l = l.operands ++ operands_at l.env (drop l.variable-index l.variables) ≡ operands_at l.env l.variables
