use Rattle.std.proofs.Common.{◌≡◌, ◌++◌, drop}
use Rattle.std.specs.Option.{option_map}
use Rattle.sk_deriv.specs.Env.{args_at}
use Rattle.sk_deriv.specs.Moves.{arg_in}
use Rattle.sk_concrete.proofs.env.args_at.Given as goal

abbrev pub invariant-loop-variable : goal.invariant-loop-variable
invariant-loop-variable l = args_at arg_in l.env l.variables ≡ option_map (λ rest. l.args ++ rest) (args_at arg_in l.env (drop l.variable-index l.variables))
