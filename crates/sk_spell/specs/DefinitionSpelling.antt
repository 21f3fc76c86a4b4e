-- How definitions are written: `skel 1`, and then items one after the other.
use Rattle.std.specs.Prelude.{◌≡◌, ◌↔◌, ℕ, pos, List, [], ◌∷◌, ◌++◌, length, codes}
use Rattle.sk_lex.specs.Symbols.{Symbol, Named, Plain}
use Rattle.sk_lex.specs.declared.token.TokenKind.TheVariants as token
use Rattle.sk_def.specs.Fits.{ConstructorFits, HookFits, RuleFits}
use Rattle.sk_def.specs.declared.def.Con.{Con}
use Rattle.sk_def.specs.declared.def.Hook.{Hook}
use Rattle.sk_def.specs.declared.def.Rule.{Rule}
use Rattle.sk_def.specs.declared.def.Def.{Def}
use Rattle.sk_deftext.specs.Spelling.{no_declaration, with_sort, with_con, with_hook, with_rule, sort_symbols, con_symbols, hook_symbols, rule_symbols}
use Rattle.sk_deftext.specs.Written.{HasText, Says}
use Rattle.sk_spell.specs.Texts.{TokensAre}

-- Symbols lead from what is declared to a definition: they are items one after the other. Items of all kinds may come in
-- turn; each goes last among those of its kind, and cites only what is declared before it.
pub data ItemsLead (d : Def) : Def → List Symbol → Type 0 where
  no_item : ItemsLead d d []
  sort_item : {now : Def} {left : List Symbol} (name : List ℕ) → ItemsLead d (with_sort now name) left → ItemsLead d now (sort_symbols name ++ left)
  con_item : {now : Def} {left : List Symbol} (con : Con) → ConstructorFits (length now.sorts) con → ItemsLead d (with_con now con) left → ItemsLead d now (con_symbols now.sorts con ++ left)
  hook_item : {now : Def} {left : List Symbol} (hook : Hook) → HookFits (length now.sorts) hook → ItemsLead d (with_hook now hook) left → ItemsLead d now (hook_symbols now.sorts hook ++ left)
  rule_item : {now : Def} {left : List Symbol} (rule : Rule) → RuleFits now rule → ItemsLead d (with_rule now rule) left → ItemsLead d now (rule_symbols now rule ++ left)

-- the symbols of a definition: `skel 1`, and items that lead to it from nothing
pub record DefinitionIs (d : Def) (symbols : List Symbol) : Type 0 where
  pub items : List Symbol
  pub symbols_are : symbols ≡ Named (codes "skel") ∷ Plain (token.Number (pos 1)) ∷ items
  pub lead : ItemsLead d no_declaration items

-- A text says a definition exactly where the definition has a text (it fits, its names are different words that are no
-- keywords, and its variables are numbered by their first appearance), and the text's tokens are its own.
abbrev pub DefinitionsAreReadExactly : Type 0
DefinitionsAreReadExactly = (text : List ℕ) (d : Def) → Says text d ↔ HasText d × TokensAre (DefinitionIs d) text
