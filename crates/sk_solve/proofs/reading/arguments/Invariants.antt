use Rattle.std.proofs.Common.{◌≡◌, ◌++◌, drop}
use Rattle.std.specs.Option.{option_map}
use Rattle.sk_deriv.specs.Env.{all_of}
use Rattle.sk_solve.specs.Solves.{argument_at}
use Rattle.sk_solve.proofs.reading.arguments.Given as goal

abbrev pub invariant-loop-operand : goal.invariant-loop-operand
invariant-loop-operand g l = all_of (argument_at l.positions) l.operands ≡ option_map (λ rest. l.given ++ rest) (all_of (argument_at l.positions) (drop l.operand-index l.operands))
