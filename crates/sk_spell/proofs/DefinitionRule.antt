-- What the reading of a rule has to give.
use Rattle.std.proofs.Common.{◌≡◌, ℕ, ◌<◌, List, [], ◌∷◌, ◌++◌, length}
use Rattle.std.specs.Prelude.{codes}
use Rattle.sk_lex.specs.Symbols.{Symbol, Named}
use Rattle.sk_def.specs.Fits.{RuleFits}
use Rattle.sk_def.specs.declared.def.Rule.{Rule}
use Rattle.sk_def.specs.declared.def.Def.{Def}
use Rattle.sk_deftext.specs.Reading.{rule_form}
use Rattle.sk_deftext.specs.Spelling.{with_rule, rule_symbols}
use Rattle.sk_deftext.specs.declared.draft.Draft.{Draft}
use Rattle.sk_deftext.specs.declared.expected.Expected.TheVariants as expected
use Rattle.sk_deftext.proofs.Items.{idle}
use Rattle.sk_spell.proofs.DefinitionRuns.{Final, Reads}

-- a rule was read after its first word: its symbols are its own, it fits, and the reading stands before the next item
pub record RuleRead (final : Final) (now : Def) (symbols : List Symbol) : Type 0 where
  pub rule : Rule
  pub left : List Symbol
  pub other : Draft
  pub symbols_are : Named (codes "rule") ∷ symbols ≡ rule_symbols now rule ++ left
  pub fits : RuleFits now rule
  pub reads : Reads final (expected.Item ∷ []) (idle (with_rule now rule) other) left
  pub less : length left < length symbols

-- each reading that stands after the first word of a rule reads a rule
abbrev pub RulesAreRead : Type 0
RulesAreRead =
    (final : Final) (now : Def) (other : Draft) (at : ℕ) (symbols : List Symbol) → Reads final rule_form (record (idle now other) { begun = at }) symbols → RuleRead final now symbols
