-- The second phase goes on with the marks.
use Rattle.std.proofs.Common.{◌≡◌, ℕ, suc, ◌+◌, ◌*◌, ◌≤◌, false, not, ◌||◌, List, [], ◌∷◌, refl, ◌∙◌, ap, ap₂, arith}
use Rattle.std.specs.List.{list_any}
use Rattle.sk_rounds.specs.Walks.{Side, Inputs, Outputs, Call, Table, Walks, WalksLaws, FitTable}
use Rattle.sk_rounds.specs.Rounds.{Told, told, table_after, IsLast}
use Rattle.sk_rounds.specs.Marks.{Callers, CallerLaws, is_changed, changes_of, marks_after, marked_run, marked_after, walks_of, all_marked, none_marked, round_step, triples}
use Rattle.sk_rounds.specs.SecondPhase.{lowered, no_outputs, outputs_after, lower_step, outputs_step, is_fallen}
use Rattle.sk_rounds.specs.SecondLaws.{SecondMarkedLaws}
use Rattle.sk_rounds.proofs.Lists.{sum_zero}
use Rattle.sk_rounds.proofs.Sides.{side_refl}
use Rattle.sk_rounds.proofs.Rising.{after_good}
use Rattle.sk_rounds.proofs.Ending.{last_accepted}
use Rattle.sk_rounds.proofs.SecondPhase.{lowered_good, lowered_accepted, lower_below, outputs_fit, outputs_left}
use Rattle.sk_rounds.proofs.Marking.{follows, walks_counted, all_told, unchanged, unfallen, round_follows, round_sound, table_is, marks_are}

module _ (K E : Type 0) (w : Walks K E) (laws : WalksLaws w) (callers : Callers K) (alike : CallerLaws w callers) where
  -- nothing is marked between two tables that are one
  none_changed : (T : Table K E) (cs : List (Call K E)) → list_any (λ (c : Call K E). is_changed w T T c.key Outputs) cs ≡ false
  none_changed T [] = refl
  none_changed T (c ∷ cs) = ap₂ (λ a b. not a || b) (side_refl K E w laws (T c.key Outputs)) (none_changed T cs)

  none_marks : (T : Table K E) (tells : K → Told K E) → marks_after (is_changed w) T T tells ≡ (λ k. false)
  none_marks T tells = λ i k. ap₂ (λ a b. not a || b) (side_refl K E w laws (T k Inputs)) (none_changed T (tells k).calls) i

  none_left : (last : ℕ) → IsLast w last → marked_after w (suc last) ≡ none_marked w (table_after w last)
  none_left last h =
      let f = round_follows K E w laws callers alike last in
      let marks : (marked_after w (suc last)).marks ≡ (λ k. false) =
      marks_are K E w laws callers alike (is_changed w) (round_step w) (table_after w) (λ r. refl) (λ r. (after_good K E w laws r).fits) (round_sound K E w laws callers alike) (all_marked (table_after w 0)) refl (all_told K E w laws callers alike (table_after w 0)) last f
      ∙ ap (λ (U : Table K E). marks_after (is_changed w) (table_after w last) U (told w (table_after w last))) h.still
      ∙ none_marks (table_after w last) (told w (table_after w last)) in
      let table : (marked_after w (suc last)).table ≡ table_after w last =
      table_is K E w laws callers alike (is_changed w) (round_step w) (table_after w) (λ r. refl) (λ r. (after_good K E w laws r).fits) (round_sound K E w laws callers alike) (all_marked (table_after w 0)) refl (all_told K E w laws callers alike (table_after w 0)) last f ∙ h.still in
      λ i. record { table = table i; marks = marks i; kept = f.tells i }

  module _ (last : ℕ) (h : IsLast w last) where
    abbrev low : ℕ → Table K E
    low r = lowered w (table_after w last) r

    low_fits : (r : ℕ) → FitTable w (low r)
    low_fits r = (lowered_good K E w laws (table_after w last) (after_good K E w laws last) r).fits

    low_sound : (r : ℕ) (k : K) (p : Side) → is_fallen w (low r) (low (suc r)) k p ≡ false → low r k p ≡ low (suc r) k p
    low_sound r = unfallen K E w laws callers alike (low r) (low (suc r)) (lower_below K E w laws (low r) (lowered_accepted K E w laws (table_after w last) (after_good K E w laws last) (last_accepted K E w laws last h) r))

    same_lower : (r : ℕ) → (marked_run w (is_fallen w) (lower_step w) (none_marked w (table_after w last)) r).table ≡ low r
    same_lower r = (follows K E w laws callers alike (is_fallen w) (lower_step w) low (λ r. refl) low_fits low_sound (none_marked w (table_after w last)) refl refl r).table

    lower_walks : (r : ℕ) → walks_of w (is_fallen w) (lower_step w) (none_marked w (table_after w last)) (suc r) ≤ callers.most_callers * changes_of w (is_fallen w) low r
    lower_walks r =
        omega (
          arith,
          walks_counted K E w laws callers alike (is_fallen w) (lower_step w) low (λ r. refl) low_fits low_sound (none_marked w (table_after w last)) refl refl r,
          sum_zero w.keys,
        )

    module _ (down : ℕ) where
      abbrev out : ℕ → Table K E
      out r = outputs_after w (low down) r

      out_step : (r : ℕ) → out (suc r) ≡ outputs_step w (suc r) (out r) (told w (out r))
      out_step r = λ i k p. at k p i
        where
          at : (k : K) (p : Side) → out (suc r) k p ≡ outputs_step w (suc r) (out r) (told w (out r)) k p
          at k Inputs = refl
          at k Outputs = refl

      out_sound : (r : ℕ) (k : K) (p : Side) → is_changed w (out r) (out (suc r)) k p ≡ false → out r k p ≡ out (suc r) k p
      out_sound r = unchanged K E w laws callers alike (out r) (out (suc r)) (outputs_left K E w laws (low down) (low_fits down) r)

      same_outputs : (r : ℕ) → (marked_run w (is_changed w) (outputs_step w) (all_marked (no_outputs (low down))) r).table ≡ out r
      same_outputs r = (follows K E w laws callers alike (is_changed w) (outputs_step w) out out_step (outputs_fit K E w laws (low down) (low_fits down)) out_sound (all_marked (no_outputs (low down))) refl (all_told K E w laws callers alike (no_outputs (low down))) r).table

      outputs_walks : (r : ℕ) → walks_of w (is_changed w) (outputs_step w) (all_marked (no_outputs (low down))) (suc r) ≤ triples w (low down) + callers.most_callers * changes_of w (is_changed w) out r
      outputs_walks r = walks_counted K E w laws callers alike (is_changed w) (outputs_step w) out out_step (outputs_fit K E w laws (low down) (low_fits down)) out_sound (all_marked (no_outputs (low down))) refl (all_told K E w laws callers alike (no_outputs (low down))) r

  pub second_marks : SecondMarkedLaws w callers
  second_marks =
      record {
        none_left = none_left;
        same_lower = λ last r h. same_lower last h r;
        lower_walks = λ last r h. lower_walks last h r;
        same_outputs = λ last down r h. same_outputs last h down r;
        outputs_walks = λ last down r h. outputs_walks last h down r;
      }
