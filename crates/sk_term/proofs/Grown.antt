-- Names that are added step by step.
use Rattle.std.proofs.Common.{◌≡◌, ℕ, List, ◌++◌, refl, ap, ◌∙◌, append_assoc, [], sym}
use Rattle.std.proofs.lemmas.List.{append-nil}
use Rattle.sk_term.specs.Meets.{HasGrown, Keeps}
use Rattle.sk_term.specs.Reading.{Reading, nothing}
use Rattle.sk_def.specs.declared.def.Def.{Def}

pub grown_more : {a b c : List (List ℕ)} → HasGrown a b → HasGrown b c → HasGrown a c
grown_more {a = a} g h = record { added = g.added ++ h.added; is = h.is ∙ ap (λ xs. xs ++ h.added) g.is ∙ append_assoc a g.added h.added }

pub keeps_more : {a b c : Reading} → Keeps a b → Keeps b c → Keeps a c
keeps_more k l = record { definition = l.definition ∙ k.definition; names = grown_more k.names l.names }

pub keeps_self : (state : Reading) → Keeps state state
keeps_self state = record { definition = refl; names = record { added = []; is = sym (append-nil state.names) } }

-- what was kept from the beginning on
pub same_definition : {d : Def} {names : List (List ℕ)} {begun now : Reading} → begun ≡ nothing d names → Keeps begun now → now.def ≡ d
same_definition e k = k.definition ∙ ap (λ (state : Reading). state.def) e

pub grown_since : {d : Def} {names : List (List ℕ)} {begun now : Reading} → begun ≡ nothing d names → Keeps begun now → HasGrown names now.names
grown_since e k = record { added = k.names.added; is = k.names.is ∙ ap (λ (state : Reading). state.names ++ k.names.added) e }
