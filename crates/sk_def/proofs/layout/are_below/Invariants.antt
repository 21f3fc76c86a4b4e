use Rattle.std.proofs.Common.{ℕ, ◌<◌, get_or}
use Rattle.sk_def.specs.declared.ids.Var.{Var}
use Rattle.sk_def.proofs.layout.are_below.Given as goal

abbrev pub invariant-loop-variable : goal.invariant-loop-variable
invariant-loop-variable l = (k : ℕ) (d : Var) → k < l.variable-index → (get_or l.variables k d).0 < l.vars
