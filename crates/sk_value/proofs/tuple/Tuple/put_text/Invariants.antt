use Rattle.std.proofs.Common.{◌++◌, drop}
use Rattle.std.specs.Prelude.{codes}
use Rattle.sk_value.specs.Texts.{flow_text, tuple_text}
use Rattle.sk_value.proofs.Texts.{Underway, entries_text}
use Rattle.sk_value.proofs.tuple.Tuple.put_text.Given as goal

abbrev pub invariant-loop-flow : goal.invariant-loop-flow
invariant-loop-flow l =
    Underway l.fn.out.items l.out.items (entries_text (flow_text l.names) l.is_first (drop l.flow-index l.self) ++ codes ")")
    (tuple_text l.names l.self)
