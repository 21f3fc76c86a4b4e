use Rattle.std.proofs.Common.{◌≡◌, ◌++◌, drop, length}
use Rattle.std.specs.Option.{option_map}
use Rattle.sk_deriv.specs.Env.{all_of}
use Rattle.sk_solve.specs.Solves.{operand_value}
use Rattle.sk_solve.proofs.reading.values.Given as goal

abbrev pub invariant-loop-operand : goal.invariant-loop-operand
invariant-loop-operand g l =
    (all_of (operand_value l.positions) l.operands ≡ option_map (λ rest. l.values ++ rest) (all_of (operand_value l.positions) (drop l.operand-index l.operands)))
    × (length l.values ≡ l.operand-index)
