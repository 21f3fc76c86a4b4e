-- What a definition that was read fulfils.
use Rattle.std.proofs.Common.{◌≡◌, ◌≢◌, ℕ, zero, suc, ◌+◌, ◌≤◌, ◌<◌, List, [], ◌∷◌, length, map, refl, sym, ap, subst, ◌∙◌, arith, Some, None, Ok, Err}
use Rattle.std.specs.Prelude.{slice_get, option_and_then}
use Rattle.std.proofs.lemmas.List.{length-map}
use Rattle.std.proofs.lemmas.List.Elements.{All-nil}
use Rattle.sk_base.specs.declared.place.Place.{Place}
use Rattle.sk_lex.specs.Run.{Turn}
use Rattle.sk_lex.specs.Symbols.{Symbol, place_in}
use Rattle.sk_lex.specs.declared.token.Token.{Token}
use Rattle.sk_lex.proofs.Runs.{whole_keeps}
use Rattle.sk_def.specs.Fits.{ArgumentFits, ConstructorFits, HookFits, RuleFits}
use Rattle.sk_def.specs.Layout.{no_bone}
use Rattle.sk_def.specs.declared.def.Rule.{Rule}
use Rattle.sk_def.specs.declared.ids.Var.{Var}
use Rattle.sk_deftext.specs.Met.{Met}
use Rattle.sk_deftext.specs.Places.{PlacesFit}
use Rattle.sk_deftext.specs.Reading.{definition_rules, nothing, read_symbols, step, at_symbol}
use Rattle.sk_deftext.specs.Texts.{source_of}
use Rattle.sk_deftext.specs.declared.draft.Draft.{Draft}
use Rattle.sk_deftext.specs.declared.expected.Expected.{Expected}
use Rattle.sk_deftext.specs.declared.expected.Expected.TheVariants.{Skel, Version, Item}
use Rattle.sk_deftext.specs.declared.source.Source.{Source}
use Rattle.sk_deftext.proofs.Standing.{Standing, RulesPlaced}
use Rattle.sk_deftext.proofs.Kept.{Kept, step_keeps}

pub at_first : Standing nothing
at_first = record {
  definition = record {
    few_sorts = omega arith;
    few_constructors = omega arith;
    few_hooks = omega arith;
    constructors_fit = All-nil (ConstructorFits 0);
    hooks_fit = All-nil (HookFits 0);
    rules_fit = All-nil (RuleFits nothing.def);
  };
  named = record { con_room = tt; hook_room = tt };
  heads = record { sort_declared = tt; few_args = omega arith; args_declared = All-nil (ArgumentFits 0); few_inputs = omega arith; few_outputs = omega arith };
  rule_heads = record { hook_declared = tt; con_declared = tt };
  variables = record {
    few = omega arith;
    terms_below = All-nil (λ (v : Var). v.0 < 0);
    inputs_below = All-nil (λ (v : Var). v.0 < 0);
    args_below = All-nil (λ (v : Var). v.0 < 0);
    listed_below = All-nil (λ (v : Var). v.0 < 0);
    target_below = tt;
    opened_fits = tt;
  };
  bodies = record { nesting = omega arith; bones_fit = no_bone; unclosed_fit = tt };
  counted = record { few = omega arith; counted = omega arith };
  placed = record { hooks_placed = refl; rules_placed = tt };
}

meets_keeps : (at : ℕ) (met : Met) (turn : Turn Expected Draft) → Kept met → at_symbol at met ≡ Ok turn → Standing turn.state
meets_keeps at (Ok first) turn k e = let same : first ≡ turn = cc e in subst (λ (t : Turn Expected Draft). Standing t.state) same k.is
meets_keeps at (Err error) turn k e = absurd (cc e)

-- what holds of a draft at each token holds of what is read
pub read_stands : (symbols : List Symbol) (draft : Draft) → read_symbols symbols ≡ Ok draft → Standing draft
unfolding read_symbols
read_stands symbols draft e =
    whole_keeps definition_rules Standing
    (λ one state at symbol left turn s m. meets_keeps at (step state one at symbol) turn (step_keeps state s one at symbol) m)
    (Skel ∷ Version ∷ Item ∷ []) nothing symbols draft at_first e

some_at : {A B : Type 0} (f : A → B) (xs : List A) (i : ℕ) → i < length xs → slice_get (map f xs) i ≢ None
some_at f [] i h = absurd (omega (arith, h))
some_at f (x ∷ xs) zero h = λ e. absurd (cc e)
some_at f (x ∷ xs) (suc i) h = some_at f xs i (omega (arith, h))

parts_placed : (f : ℕ → Place) (marks : List (List ℕ)) (rules : List Rule) → RulesPlaced marks rules → (rule part : ℕ) (r : Rule) → slice_get rules rule ≡ Some r → part ≤ length r.bones + 1 →
    option_and_then (λ (places : List Place). slice_get places part) (slice_get (map (map f) marks) rule) ≢ None
parts_placed f [] [] p rule part r e few = absurd (cc e)
parts_placed f [] (first ∷ rules) p rule part r e few = absurd p
parts_placed f (m ∷ marks) [] p rule part r e few = absurd p
parts_placed f (m ∷ marks) (first ∷ rules) p zero part r e few =
    let same : first ≡ r = cc e in
    some_at f m part (omega (arith, p.0, few, ap (λ (x : Rule). length x.bones) same))
parts_placed f (m ∷ marks) (first ∷ rules) p (suc rule) part r e few = parts_placed f marks rules p.1 rule part r e few

pub source_placed : (text : List ℕ) (tokens : List Token) (draft : Draft) (source : Source) → source ≡ source_of text tokens draft → Standing draft → PlacesFit source
source_placed text tokens draft source e s = subst PlacesFit (sym e) (record {
  hooks_placed = length-map draft.hooks (place_in text tokens) ∙ s.placed.hooks_placed;
  rules_placed = λ rule part r f few. parts_placed (place_in text tokens) draft.rules draft.def.rules s.placed.rules_placed rule part r f few;
})
