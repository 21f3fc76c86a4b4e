use Rattle.std.proofs.Common.{◌++◌, drop}
use Rattle.std.specs.Prelude.{codes}
use Rattle.sk_value.specs.Texts.{setting_text, settings, store_text}
use Rattle.sk_value.proofs.Texts.{Underway, entries_text}
use Rattle.sk_value.proofs.flow.put_store.Given as goal

abbrev pub invariant-loop-at : goal.invariant-loop-at
invariant-loop-at l =
    Underway l.fn.out.items l.out.items (entries_text setting_text l.is_first (settings (drop l.at l.names) (drop l.at l.store)) ++ codes "}")
    (store_text l.names l.store)
