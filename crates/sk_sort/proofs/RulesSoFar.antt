-- One rule more of a definition.
use Rattle.std.proofs.Common.{◌≡◌, ℕ, ◌+◌, ◌<◌, List, ◌∷◌, drop, take, length, Option, Some, None, refl, sym, ap, subst, ◌∙◌, get_or, add-one}
use Rattle.std.specs.Option.{option_or, option_map}
use Rattle.std.proofs.Math.Seq.{drop-cons}
use Rattle.sk_def.specs.declared.def.Def.{Def}
use Rattle.sk_def.specs.declared.def.Rule.{Rule}
use Rattle.sk_sort.specs.declared.error.SortFault.{SortFault}
use Rattle.sk_sort.specs.Parts.{PartFault}
use Rattle.sk_sort.specs.Rules.{rule_fault}
use Rattle.sk_sort.specs.Definition.{bad_rule}

passes_on : (place : ℕ) (o : Option PartFault) (later : Option SortFault) → o ≡ None →
    option_or (option_map (λ (f : PartFault). SortFault.Bad f.why place f.part) o) later ≡ later
passes_on place None later e = refl
passes_on place (Some f) later e = cc

module _ (d : Def) (rules : List Rule) (same : rules ≡ d.rules) (place : ℕ) (within : place < length rules) (rule : Rule) (is : rule ≡ get_or rules place rule) where
  here : drop place rules ≡ rule ∷ drop (place + 1) rules
  here = drop-cons rules place rule within ∙ rw (← is, add-one) refl

  pub rule_passes : (whole : Option SortFault) → bad_rule d place (drop place rules) ≡ whole →
      rule_fault d (take place rules) rule ≡ None → bad_rule d (place + 1) (drop (place + 1) rules) ≡ whole
  rule_passes whole so_far passes =
      let fault : rule_fault d (take place d.rules) rule ≡ None = let P : List Rule → Type 0 = λ rs. rule_fault d (take place rs) rule ≡ None in subst P same passes in
      let first = ap (λ (rs : List Rule). bad_rule d place rs) here in
      sym (passes_on place (rule_fault d (take place d.rules) rule) (bad_rule d (place + 1) (drop (place + 1) rules)) fault) ∙ sym first ∙ so_far
