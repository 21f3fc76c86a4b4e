use Rattle.std.proofs.Common.{◌≡◌, ◌++◌, drop, length}
use Rattle.std.specs.Option.{option_map}
use Rattle.sk_deriv.specs.Env.{values_at}
use Rattle.sk_concrete.proofs.env.values_at.Given as goal

abbrev pub invariant-loop-variable : goal.invariant-loop-variable
invariant-loop-variable l =
    (values_at l.env l.variables ≡ option_map (λ rest. l.values ++ rest) (values_at l.env (drop l.variable-index l.variables)))
    × (length l.values ≡ l.variable-index)
