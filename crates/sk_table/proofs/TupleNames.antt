-- Names that are added step by step.
use Rattle.std.proofs.Common.{◌≡◌, List, ℕ, Bool, true, [], ◌++◌, refl, sym, ap, ◌∙◌}
use Rattle.std.proofs.lemmas.List.{append-nil}
use Rattle.sk_base.specs.declared.flow.FlowSort.{FlowSort}
use Rattle.sk_lattice.specs.Domain.{Domain}
use Rattle.sk_term.specs.Meets.{HasGrown}
use Rattle.sk_table.specs.Meets.{Keeps}
use Rattle.sk_table.specs.Tuples.{Reading, nothing}

pub keeps_self : {D : Type 0} (state : Reading D) → Keeps state state
keeps_self state = record { sorts = refl; known = refl; names = record { added = []; is = sym (append-nil state.names) }; same = λ k. refl }

-- what was kept from the beginning on
pub grown_since : {D : Type 0} (d : Domain D) {known : Bool} {sorts : List FlowSort} {names : List (List ℕ)} {begun now : Reading D} → begun ≡ nothing d known sorts names → Keeps begun now → HasGrown names now.names
grown_since {D = D} d e k = record { added = k.names.added; is = k.names.is ∙ ap (λ (state : Reading D). state.names ++ k.names.added) e }

pub same_known : {D : Type 0} (d : Domain D) {known : Bool} {sorts : List FlowSort} {names : List (List ℕ)} {begun now : Reading D} → begun ≡ nothing d known sorts names → Keeps begun now → now.known ≡ known
same_known {D = D} d e k = k.known ∙ ap (λ (state : Reading D). state.known) e

pub same_names : {D : Type 0} (d : Domain D) {known : Bool} {sorts : List FlowSort} {names : List (List ℕ)} {begun now : Reading D} → begun ≡ nothing d known sorts names → Keeps begun now → known ≡ true → now.names ≡ names
same_names {D = D} d e k h = k.same (ap (λ (state : Reading D). state.known) e ∙ h) ∙ ap (λ (state : Reading D). state.names) e
