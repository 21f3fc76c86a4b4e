use Rattle.std.proofs.Common.{◌≡◌, ◌++◌, drop}
use Rattle.std.specs.Prelude.{codes}
use Rattle.std.specs.List.{join_by}
use Rattle.sk_value.proofs.Texts.{entries_text}
use Rattle.sk_constr.specs.Texts.{operand_text}
use Rattle.sk_constr.proofs.print.operands_text.Given as goal

abbrev pub invariant-loop-operand : goal.invariant-loop-operand
invariant-loop-operand l =
    l.text.items ++ entries_text (operand_text l.names) l.is_first (drop l.operand-index l.operands) ≡ codes "(" ++ join_by (operand_text l.names) (codes ", ") l.operands
