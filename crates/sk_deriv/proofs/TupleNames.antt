-- Names that are added step by step.
use Rattle.std.proofs.Common.{◌≡◌, List, ℕ, [], ◌++◌, refl, sym, ap, ◌∙◌}
use Rattle.std.proofs.lemmas.List.{append-nil}
use Rattle.sk_base.specs.declared.flow.FlowSort.{FlowSort}
use Rattle.sk_term.specs.Meets.{HasGrown}
use Rattle.sk_deriv.specs.Meets.{Keeps}
use Rattle.sk_deriv.specs.Reading.{Reading, nothing}

pub keeps_self : (state : Reading) → Keeps state state
keeps_self state = record { sorts = refl; names = record { added = []; is = sym (append-nil state.names) } }

-- what was kept from the beginning on
pub grown_since : {sorts : List FlowSort} {names : List (List ℕ)} {begun now : Reading} → begun ≡ nothing sorts names → Keeps begun now → HasGrown names now.names
grown_since e k = record { added = k.names.added; is = k.names.is ∙ ap (λ (state : Reading). state.names ++ k.names.added) e }

pub same_sorts : {sorts : List FlowSort} {names : List (List ℕ)} {begun now : Reading} → begun ≡ nothing sorts names → Keeps begun now → now.sorts ≡ sorts
same_sorts e k = k.sorts ∙ ap (λ (state : Reading). state.sorts) e
