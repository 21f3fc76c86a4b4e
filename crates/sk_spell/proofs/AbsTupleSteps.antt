-- What each symbol of a tuple is where it stands as it should.
use Rattle.std.proofs.Common.{◌≡◌, ℕ, ◌-◌, ◌<◌, ◌≤◌, Bool, true, false, List, [], ◌∷◌, ◌++◌, length, refl, sym, ap, subst, ◌∙◌, arith, Some, Result, Ok}
use Rattle.std.specs.Prelude.{MatchResult}
use Rattle.sk_base.specs.declared.flow.FlowSort.{FlowSort}
use Rattle.sk_base.specs.declared.flow.FlowSort.TheVariants as sort
use Rattle.sk_lex.specs.Symbols.{Symbol, Named, Plain, is_close}
use Rattle.sk_lex.specs.declared.token.TokenKind.TheVariants as token
use Rattle.sk_lattice.specs.Domain.{Domain}
use Rattle.sk_lattice.specs.DomainTexts.{DomainTexts}
use Rattle.sk_lattice.specs.Texts.{truths_text, bool_text}
use Rattle.sk_lattice.specs.declared.truth.AbsBool.{AbsBool}
use Rattle.sk_table.specs.declared.fault.TableError.{TableError}
use Rattle.sk_table.specs.Tuples as spec
use Rattle.sk_table.specs.Tuples.{Reading, met, more_taken, element_at, truths_named, truths_of, value, ended, is_listed, with_cell, place_for, named, step}
use Rattle.sk_spell.specs.AbsTupleSpelling.{BeginWithNumber}
use Rattle.sk_spell.proofs.AbsTupleForms.{IsTaken}
use Rattle.sk_spell.proofs.AbsTupleGrammar.{Expected, Grammar, truth_met, with_bool, with_val, with_truth, with_name, else_is}

-- the symbols of a number, from the first one on
pub record NumberStands {D : Type 0} (t : DomainTexts D) (a : D) (symbols left : List Symbol) : Type 0 where
  pub first : Symbol
  pub others : List Symbol
  pub are : symbols ≡ first ∷ (others ++ left)
  pub taken : (at : ℕ) → element_at t at (first ∷ (others ++ left)) ≡ Ok (a, length others)

abbrev pub IsSome : {D : Type 0} → List Symbol → Result (D × ℕ) ℕ → Type 0
IsSome symbols r = MatchResult r (λ p. (0 < p.1) × (p.1 ≤ length symbols)) (λ count. count ≤ length symbols)

abbrev to_count : {D : Type 0} → D → ℕ → Result (D × ℕ) (TableError × ℕ)
to_count a n = Ok (a, n)

pub number_stands : {D : Type 0} (t : DomainTexts D) → IsTaken t → (a : D) (symbols left : List Symbol) → BeginWithNumber t a symbols left → NumberStands t a symbols left
number_stands {D} t taken a symbols left n = by n.own n.symbols_are n.is_read where
  by : (own : List Symbol) → symbols ≡ own ++ left → t.taken symbols ≡ Ok (a, length own) → NumberStands t a symbols left
  by [] e r = let P : Result (D × ℕ) ℕ → Type 0 = IsSome symbols in absurd (omega (arith, (subst P r (taken symbols)).0))
  by (first ∷ others) e r = record {
    first = first;
    others = others;
    are = e;
    taken = λ at. ap (λ ss. more_taken at (t.taken ss)) (sym e) ∙ ap (more_taken at) r ∙ ap (to_count a) {x = length (first ∷ others) - 1} {y = length others} (omega arith);
  }

words_are : (some other : Bool) → truths_named (truths_text some other) ≡ Some (record { has_true = some; has_false = other })
words_are false false = refl
words_are true false = refl
words_are false true = refl
words_are true true = refl

truths_are : (set : AbsBool) → truths_of (Named (bool_text set)) ≡ Some set
truths_are set = words_are set.has_true set.has_false

module _ {D : Type 0} (d : Domain D) (t : DomainTexts D) (w : Grammar d t) where
  pub truth_step : (s : Reading D) (set : AbsBool) (at : ℕ) (left : List Symbol) → step d t s w.at_truth at (Named (bool_text set)) left ≡ met (with_val s set) []
  truth_step s set at left = w.truth_parts s at (Named (bool_text set)) left ∙ ap (truth_met d t (with_val s) [] at) (truths_are set)

  pub cell_truth_step : (s : Reading D) (set : AbsBool) (at : ℕ) (left : List Symbol) → step d t s w.at_cell_truth at (Named (bool_text set)) left ≡ met (with_truth s set) []
  cell_truth_step s set at left = w.cell_truths s at (Named (bool_text set)) left ∙ ap (truth_met d t (with_truth s) [] at) (truths_are set)

  pub item_step : (s : Reading D) (wanted : FlowSort) (at : ℕ) (symbol : Symbol) (left : List Symbol) → spec.next_sort s ≡ Some wanted → is_close symbol ≡ false →
      step d t s w.at_item at symbol left ≡ value t s wanted at symbol left
  item_step s wanted at symbol left n c = w.some_item s wanted at symbol left n ∙ else_is _ _ c

  pub bool_step : (s : Reading D) (set : AbsBool) (at : ℕ) (left : List Symbol) → value t s sort.Bool at (Named (bool_text set)) left ≡ met (with_bool s set) (w.at_after ∷ [])
  bool_step s set at left = w.bool_value s at (Named (bool_text set)) left ∙ ap (truth_met d t (with_bool s) (w.at_after ∷ []) at) (truths_are set)

  -- where a name may stand
  abbrev pub IsNamePlace : Expected d t → Type 0
  IsNamePlace one = (s : Reading D) (at : ℕ) (word : List ℕ) (left : List Symbol) → step d t s one at (Named word) left ≡ named s at (place_for s.known s.names word)

  pub first_place : IsNamePlace w.at_first_name
  first_place s at word left = w.first_names s at (Named word) left ∙ w.some_name s at word

  pub next_place : IsNamePlace w.at_next_name
  next_place s at word left = w.next_names s at (Named word) left ∙ w.some_name s at word

  pub name_step : (one : Expected d t) → IsNamePlace one → (s : Reading D) (word : List ℕ) (place : ℕ) (next : List (List ℕ)) (at : ℕ) (left : List Symbol) →
      place_for s.known s.names word ≡ Ok (place, next) →
      is_listed s.cells place ≡ false → step d t s one at (Named word) left ≡ met (with_name s place next) (w.at_equals ∷ w.at_number ∷ w.at_slash ∷ w.at_cell_truth ∷ w.at_mark ∷ [])
  name_step one is s word place next at left p n =
      is s at word left ∙ ap (named s at) p ∙ w.named_value s place next at ∙ else_is _ _ n

  pub mark_comma_step : (s : Reading D) (at : ℕ) (left : List Symbol) → step d t s w.at_mark at (Plain token.Comma) left ≡ met (with_cell s false) (w.at_next_name ∷ [])
  mark_comma_step s at left = w.marks s at (Plain token.Comma) left ∙ w.after_names (with_cell s false) at (Plain token.Comma) left

  pub mark_brace_step : (s : Reading D) (at : ℕ) (left : List Symbol) → step d t s w.at_mark at (Plain token.RightBrace) left ≡ met (ended d (with_cell s false)) []
  mark_brace_step s at left = w.marks s at (Plain token.RightBrace) left ∙ w.after_names (with_cell s false) at (Plain token.RightBrace) left
