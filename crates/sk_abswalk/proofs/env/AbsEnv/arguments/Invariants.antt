use Rattle.std.proofs.Common.{◌≡◌, ◌++◌, drop}
use Rattle.std.specs.Option.{option_map}
use Rattle.sk_deriv.specs.Env.{args_at}
use Rattle.sk_abswalk.specs.Walk.{argument_in}
use Rattle.sk_abswalk.proofs.env.AbsEnv.arguments.Given as goal

abbrev pub invariant-loop-variable : goal.invariant-loop-variable
invariant-loop-variable g l = args_at argument_in l.self l.variables ≡ option_map (λ rest. l.args ++ rest) (args_at argument_in l.self (drop l.variable-index l.variables))
