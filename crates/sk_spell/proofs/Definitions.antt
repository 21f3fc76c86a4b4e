-- Definitions are read exactly.
use Rattle.std.proofs.Common.{ℕ, List, sym, subst}
use Rattle.sk_lex.specs.Symbols.{symbols}
use Rattle.sk_def.specs.declared.def.Def.{Def}
use Rattle.sk_deftext.specs.Written.{Says}
use Rattle.sk_deftext.proofs.Again.{said_is_read, said_has_text}
use Rattle.sk_spell.specs.DefinitionSpelling.{DefinitionIs, DefinitionsAreReadExactly}
use Rattle.sk_spell.specs.Texts.{TokensAre}
use Rattle.sk_spell.proofs.DefinitionBonesRead.{bones_are_read}
use Rattle.sk_spell.proofs.DefinitionLeads.{only_definitions}
use Rattle.sk_spell.proofs.DefinitionRead.{spelled_says}
use Rattle.sk_spell.proofs.DefinitionRuleRead.{rules_are_read}

-- the tokens of a text that says a definition are the definition's
says_spelled : (text : List ℕ) (d : Def) → Says text d → TokensAre (DefinitionIs d) text
says_spelled text d s =
    let r = said_is_read text d s in
    let P : Def → Type 0 = λ d. DefinitionIs d (symbols text r.tokens) in
    record { tokens = r.tokens; are = r.are; holds = subst P (sym r.def_is) (only_definitions (rules_are_read bones_are_read) (symbols text r.tokens) r.draft r.is) }

pub definitions_exactly : DefinitionsAreReadExactly
definitions_exactly text d = (λ s. (said_has_text text d s, says_spelled text d s), λ p. spelled_says text d p.0 p.1)
