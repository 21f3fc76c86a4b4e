-- The second phase ends, and its table is accepted and lies below the climbed one.
use Rattle.std.proofs.Common.{◌≡◌, ℕ, zero, suc, ◌*◌, ◌<◌, ◌≤◌, Bool, true, false, cond, List, length, Option, Some, None, is_some, sum_by, refl, sym, ◌∙◌, ap, subst, inl, inr, arith, ◌≢◌, ◌+◌, MatchBool}
use Rattle.std.specs.List.{list_all}
use Rattle.std.proofs.lemmas.Bool.{cases_order, false≢true, cond_both, cases_Bool, both_ways}
use Rattle.sk_rounds.specs.Walks.{Side, Inputs, Outputs, Call, Table, Walks, WalksLaws, side_leq, Lies, is_key, FitSide, FitTable, CallsBelow}
use Rattle.sk_rounds.specs.Rounds.{is_still, Told, own_answer, told, demands_of, table_after, EndsAt, Bears, IsAccepted}
use Rattle.sk_rounds.specs.SecondPhase.{Meet, MeetLaws, only_keys, lowered, outputs_next, outputs_after, side_meet, met_outputs, second_bound}
use Rattle.sk_rounds.specs.Laws.{EndsWithin}
use Rattle.sk_rounds.specs.SecondLaws.{Lowest, SecondLaws}
use Rattle.sk_rounds.proofs.Lists.{list_all_entries, list_all_from, all_at, sum_falls, sum_capped}
use Rattle.sk_rounds.proofs.Sides.{weight, side_refl, side_trans, raised_fits, raised_left, raised_right, raised_stays, raised_falls, weight_capped}
use Rattle.sk_rounds.proofs.Bearing.{Outside, told_fits, told_nothing, f_fits, f_outside, f_below, bears_from, bears_less, gives_less, lies_refl, lies_trans}
use Rattle.sk_rounds.proofs.Rising.{still_same, lies_still, IsGood, after_good}
use Rattle.sk_rounds.proofs.Climbs.{Steps, row_ends}
use Rattle.sk_rounds.proofs.Ending.{last_accepted}

module _ (K E : Type 0) (w : Walks K E) (laws : WalksLaws w) where
  only_fits : (T : Table K E) → FitTable w T → FitTable w (only_keys T)
  only_fits T f k p = cond_both (is_some (T k Inputs)) (T k p) None (FitSide w k p) (λ _. f k p) (λ _. tt)

  only_below : (T : Table K E) → Lies w (only_keys T) T
  only_below T k p = cond_both (is_some (T k Inputs)) (T k p) None (λ z. side_leq w z (T k p) ≡ true) (λ _. side_refl K E w laws (T k p)) (λ _. refl)

  only_inputs : (T : Table K E) (k : K) → only_keys T k Inputs ≡ T k Inputs
  only_inputs T k = at (T k Inputs)
    where
      at : (x : Option E) → cond (is_some x) x None ≡ x
      at None = refl
      at (Some a) = refl

  only_good : (T : Table K E) → FitTable w T → Outside w T → IsGood w (only_keys T)
  only_good T f out =
      record {
        fits = only_fits T f;
        outside = λ k n p. cond_both (is_some (T k Inputs)) (T k p) None (λ z. z ≡ None) (λ _. out k n p) (λ _. refl);
      }

  lower_good : (T : Table K E) → IsGood w T → IsGood w (only_keys (demands_of w T))
  lower_good T g = only_good (demands_of w T) (f_fits K E w laws T g.fits) (f_outside K E w laws T g.fits g.outside)

  pub lower_below : (T : Table K E) → IsAccepted w T → Lies w (only_keys (demands_of w T)) T
  lower_below T a = lies_trans K E w laws (only_keys (demands_of w T)) (demands_of w T) T (only_below (demands_of w T)) (f_below K E w laws T T a)

  -- a table bears the same without the outputs of keys that it lacks
  only_bears : (T U : Table K E) → ((k : K) → U k Inputs ≡ None → (told w T k).gives ≡ None) → Bears w T U → Bears w T (only_keys U)
  only_bears T U none b =
      record {
        covers = same w.covers b.covers;
        justified = λ k. record { calls = same (told w T k).calls (b.justified k).calls; gives = gives k };
      }
    where
      same : (cs : List (Call K E)) → CallsBelow w cs (λ j. U j Inputs) → CallsBelow w cs (λ j. only_keys U j Inputs)
      same cs h = subst (λ (above : K → Option E). CallsBelow w cs above) (λ i j. sym (only_inputs U j) i) h

      gives : (k : K) → side_leq w (told w T k).gives (only_keys U k Outputs) ≡ true
      gives k =
          cond_both (is_some (U k Inputs)) (U k Outputs) None (λ z. side_leq w (told w T k).gives z ≡ true) (λ _. (b.justified k).gives)
          (λ e. subst (λ z. side_leq w z None ≡ true) (sym (none k (none_from (U k Inputs) e))) refl)
        where
          none_from : (x : Option E) → is_some x ≡ false → x ≡ None
          none_from None e = refl
          none_from (Some a) e = absurd (both_ways true e refl)

  lower_accepted : (T : Table K E) → IsGood w T → IsAccepted w T → IsAccepted w (only_keys (demands_of w T))
  lower_accepted T g a =
      only_bears (only_keys (demands_of w T)) (demands_of w T)
      (λ k e. ap (λ (t : Told K E). t.gives) (told_nothing K E w laws (only_keys (demands_of w T)) k (only_inputs (demands_of w T) k ∙ e)))
      (bears_less K E w laws (only_keys (demands_of w T)) T (demands_of w T) (lower_good T g).fits g.fits (lower_below T a) (bears_from K E w laws T (demands_of w T) g.fits g.outside (lies_refl K E w laws (demands_of w T))))

  -- an accepted table stays one, and falls
  pub lowered_good : (T : Table K E) → IsGood w T → (r : ℕ) → IsGood w (lowered w T r)
  lowered_good T g zero = g
  lowered_good T g (suc r) = lower_good (lowered w T r) (lowered_good T g r)

  pub lowered_accepted : (T : Table K E) → IsGood w T → IsAccepted w T → (r : ℕ) → IsAccepted w (lowered w T r)
  lowered_accepted T g a zero = a
  lowered_accepted T g a (suc r) = lower_accepted (lowered w T r) (lowered_good T g r) (lowered_accepted T g a r)

  pub lowered_below : (T : Table K E) → IsGood w T → IsAccepted w T → (r : ℕ) → Lies w (lowered w T r) T
  lowered_below T g a zero = lies_refl K E w laws T
  lowered_below T g a (suc r) = lies_trans K E w laws (lowered w T (suc r)) (lowered w T r) T (lower_below (lowered w T r) (lowered_accepted T g a r)) (lowered_below T g a r)

  -- the code's test of a descending round
  pub lowered_decided : (T : Table K E) → IsGood w T → IsAccepted w T → (r : ℕ) → MatchBool (is_still w (lowered w T (suc r)) (lowered w T r)) (lowered w T (suc r) ≡ lowered w T r) (lowered w T (suc r) ≢ lowered w T r)
  lowered_decided T g a r = at (is_still w (lowered w T (suc r)) (lowered w T r)) refl
    where
      at : (b : Bool) → is_still w (lowered w T (suc r)) (lowered w T r) ≡ b → MatchBool b (lowered w T (suc r) ≡ lowered w T r) (lowered w T (suc r) ≢ lowered w T r)
      at true e = sym (still_same K E w laws (lowered w T (suc r)) (lowered w T r) (lowered_good T g r) (lower_below (lowered w T r) (lowered_accepted T g a r)) e)
      at false e = λ same. both_ways (is_still w (lowered w T (suc r)) (lowered w T r)) e (lies_still K E w laws (lowered w T (suc r)) (lowered w T r) (subst (λ U. Lies w (lowered w T r) U) (sym same) (lies_refl K E w laws (lowered w T r))))

  find_lowest : (T : Table K E) → IsGood w T → IsAccepted w T → (fuel r : ℕ) → fuel + r ≡ 47 → ((m : ℕ) → m < r → lowered w T (suc m) ≢ lowered w T m) → Lowest w T
  find_lowest T g a zero r e earlier = record { last = r; is_lowest = record { earlier = earlier; ends = inr (omega arith); at_most = omega arith } }
  find_lowest T g a (suc fuel) r e earlier = at (is_still w (lowered w T (suc r)) (lowered w T r)) (lowered_decided T g a r) (find_lowest T g a fuel (suc r) (omega arith))
    where
      at : (b : Bool) → MatchBool b (lowered w T (suc r) ≡ lowered w T r) (lowered w T (suc r) ≢ lowered w T r) → (((m : ℕ) → m < suc r → lowered w T (suc m) ≢ lowered w T m) → Lowest w T) → Lowest w T
      at true h go = record { last = r; is_lowest = record { earlier = earlier; ends = inl h; at_most = omega arith } }
      at false h go = go more
        where
          more : (m : ℕ) → m < suc r → lowered w T (suc m) ≢ lowered w T m
          more m lt =
              elim (cases_order m r) [
                | inl same ↦ subst (λ i. lowered w T (suc i) ≢ lowered w T i) (sym same) h
                | inr (inl less) ↦ earlier m less
                | inr (inr greater) ↦ absurd (omega arith)
              ]

  -- the climb of the outputs
  pub outputs_fit : (T : Table K E) → FitTable w T → (r : ℕ) → FitTable w (outputs_after w T r)
  outputs_fit T f zero k Inputs = f k Inputs
  outputs_fit T f zero k Outputs = tt
  outputs_fit T f (suc r) k Inputs = outputs_fit T f r k Inputs
  outputs_fit T f (suc r) k Outputs = let g = outputs_fit T f r in raised_fits K E w laws (suc r) k Outputs (outputs_after w T r k Outputs) (told w (outputs_after w T r) k).gives (g k Outputs) (told_fits K E w laws (outputs_after w T r) g k)

  pub outputs_inputs : (T : Table K E) (r : ℕ) (k : K) → outputs_after w T r k Inputs ≡ T k Inputs
  outputs_inputs T zero k = refl
  outputs_inputs T (suc r) k = outputs_inputs T r k

  -- a pair that is no key of the program has no outputs at any round
  gives_none : (T : Table K E) → Outside w T → (r : ℕ) (k : K) → is_key w k ≡ false → (told w (outputs_after w T r) k).gives ≡ None
  gives_none T out r k n = ap (λ (t : Told K E). t.gives) (told_nothing K E w laws (outputs_after w T r) k (outputs_inputs T r k ∙ out k n Inputs))

  pub outputs_left : (T : Table K E) → FitTable w T → (r : ℕ) → Lies w (outputs_after w T r) (outputs_after w T (suc r))
  outputs_left T f r k Inputs = side_refl K E w laws (outputs_after w T r k Inputs)
  outputs_left T f r k Outputs = raised_left K E w laws (suc r) k Outputs (outputs_after w T r k Outputs) (told w (outputs_after w T r) k).gives (outputs_fit T f r k Outputs) (told_fits K E w laws (outputs_after w T r) (outputs_fit T f r) k)

  abbrev outputs_weight : Table K E → ℕ
  outputs_weight U = sum_by (λ k. weight w (U k Outputs)) w.keys

  -- whether what a key's walk gives lies below its outputs
  abbrev key_low : Table K E → K → Bool
  key_low U k = side_leq w (told w U k).gives (U k Outputs)

  gives_low : (T : Table K E) → IsGood w T → (r : ℕ) → list_all (key_low (outputs_after w T r)) w.keys ≡ true → (k : K) → key_low (outputs_after w T r) k ≡ true
  gives_low T g r e k =
      elim (cases_Bool (is_key w k)) [
        | inl h ↦ all_at (λ j. key_low (outputs_after w T r) j ≡ true) (w.same k) (key_low (outputs_after w T r) k ≡ true) (λ j s p. subst (λ i. key_low (outputs_after w T r) i ≡ true) (sym (laws.order.same_only k j s)) p) w.keys (list_all_entries (key_low (outputs_after w T r)) w.keys e) h
        | inr n ↦ subst (λ z. side_leq w z (outputs_after w T r k Outputs) ≡ true) (sym (gives_none T g.outside r k n)) refl
      ]

  low_stays : (U : Table K E) → ((k : K) → key_low U k ≡ true) → (r : ℕ) (k : K) (p : Side) → outputs_next w r U k p ≡ U k p
  low_stays U low r k Inputs = refl
  low_stays U low r k Outputs = raised_stays K E w laws r (U k Outputs) (told w U k).gives (low k)

  stays_low : (U : Table K E) → FitTable w U → (r : ℕ) → outputs_next w r U ≡ U → (k : K) → key_low U k ≡ true
  stays_low U f r e k = subst (λ z. side_leq w (told w U k).gives z ≡ true) (λ i. e i k Outputs) (raised_right K E w laws r k Outputs (U k Outputs) (told w U k).gives (f k Outputs) (told_fits K E w laws U f k))

  outputs_fall : (U : Table K E) → FitTable w U → (r : ℕ) → 3 < r → list_all (key_low U) w.keys ≡ false → outputs_weight (outputs_next w r U) < outputs_weight U
  outputs_fall U f r late e = sum_falls (λ k. weight w (outputs_next w r U k Outputs)) (λ k. weight w (U k Outputs)) (key_low U) le lt w.keys e
    where
      lt : (k : K) → key_low U k ≡ false → weight w (outputs_next w r U k Outputs) < weight w (U k Outputs)
      lt k n = raised_falls K E w laws r k Outputs (U k Outputs) (told w U k).gives late (f k Outputs) (told_fits K E w laws U f k) n

      le : (k : K) → weight w (outputs_next w r U k Outputs) ≤ weight w (U k Outputs)
      le k =
          elim (cases_Bool (key_low U k)) [
            | inl e ↦ subst (λ z. weight w z ≤ weight w (U k Outputs)) (sym (raised_stays K E w laws r (U k Outputs) (told w U k).gives e)) (omega arith)
            | inr n ↦ omega (arith, lt k n)
          ]

  decide : (T : Table K E) → IsGood w T → (r : ℕ) → Steps (outputs_after w T) outputs_weight r
  decide T g r =
      elim (cases_Bool (list_all (key_low (outputs_after w T r)) w.keys)) [
        | inl s ↦ inl (λ i k p. low_stays (outputs_after w T r) (gives_low T g r s) (suc r) k p i)
        | inr n ↦ inr (λ e. both_ways (list_all (key_low (outputs_after w T r)) w.keys) n (list_all_from (key_low (outputs_after w T r)) (stays_low (outputs_after w T r) (outputs_fit T g.fits r) (suc r) e) w.keys), λ late. outputs_fall (outputs_after w T r) (outputs_fit T g.fits r) (suc r) (omega arith) n)
      ]

  pub outputs_end : (T : Table K E) → IsGood w T → EndsWithin (outputs_after w T) (second_bound w)
  outputs_end T g =
      row_ends (outputs_after w T) outputs_weight (length w.keys * w.cap)
      (λ r. sum_capped (λ k. weight w (outputs_after w T r k Outputs)) w.cap (λ k. weight_capped K E w laws k Outputs (outputs_after w T r k Outputs) (outputs_fit T g.fits r k Outputs)) w.keys)
      (decide T g)

  module _ (meet : Meet E) (meets : MeetLaws w meet) where
    side_meet_left : (k : K) (p : Side) (x y : Option E) → FitSide w k p x → FitSide w k p y → side_leq w (side_meet meet x y) x ≡ true
    side_meet_left k p None y f g = refl
    side_meet_left k p (Some a) None f g = refl
    side_meet_left k p (Some a) (Some b) f g = meets.meet_left k p a b f g

    side_meet_right : (k : K) (p : Side) (x y : Option E) → FitSide w k p x → FitSide w k p y → side_leq w (side_meet meet x y) y ≡ true
    side_meet_right k p None y f g = refl
    side_meet_right k p (Some a) None f g = refl
    side_meet_right k p (Some a) (Some b) f g = meets.meet_right k p a b f g

    side_meet_fits : (k : K) (p : Side) (x y : Option E) → FitSide w k p x → FitSide w k p y → FitSide w k p (side_meet meet x y)
    side_meet_fits k p None y f g = tt
    side_meet_fits k p (Some a) None f g = tt
    side_meet_fits k p (Some a) (Some b) f g = meets.meet_fits k p a b f g

    side_meet_greatest : (k : K) (p : Side) (x y z : Option E) → FitSide w k p x → FitSide w k p y → FitSide w k p z → side_leq w z x ≡ true → side_leq w z y ≡ true → side_leq w z (side_meet meet x y) ≡ true
    side_meet_greatest k p x y None f g h le ge = refl
    side_meet_greatest k p None y (Some c) f g h le ge = absurd (false≢true le)
    side_meet_greatest k p (Some a) None (Some c) f g h le ge = absurd (false≢true ge)
    side_meet_greatest k p (Some a) (Some b) (Some c) f g h le ge = meets.meet_greatest k p a b c f g h le ge

    met_fits : (T U : Table K E) → FitTable w T → FitTable w U → FitTable w (met_outputs meet T U)
    met_fits T U f g k Inputs = f k Inputs
    met_fits T U f g k Outputs = side_meet_fits k Outputs (T k Outputs) (U k Outputs) (f k Outputs) (g k Outputs)

    pub met_below : (T U : Table K E) → FitTable w T → FitTable w U → Lies w (met_outputs meet T U) T
    met_below T U f g k Inputs = side_refl K E w laws (T k Inputs)
    met_below T U f g k Outputs = side_meet_left k Outputs (T k Outputs) (U k Outputs) (f k Outputs) (g k Outputs)

    met_below_second : (T U : Table K E) → FitTable w T → FitTable w U → ((k : K) → U k Inputs ≡ T k Inputs) → Lies w (met_outputs meet T U) U
    met_below_second T U f g e k Inputs = subst (λ z. side_leq w (T k Inputs) z ≡ true) (sym (e k)) (side_refl K E w laws (T k Inputs))
    met_below_second T U f g e k Outputs = side_meet_right k Outputs (T k Outputs) (U k Outputs) (f k Outputs) (g k Outputs)

    -- an accepted table and one with its inputs that bears its own_answer outputs
    met_bears : (T U : Table K E) → FitTable w T → FitTable w U → ((k : K) → U k Inputs ≡ T k Inputs) → IsAccepted w T → ((k : K) → key_low U k ≡ true) → IsAccepted w (met_outputs meet T U)
    met_bears T U f g e a low = record { covers = a.covers; justified = λ k. record { calls = (first.justified k).calls; gives = gives k } }
      where
        h : FitTable w (met_outputs meet T U)
        h = met_fits T U f g

        first : Bears w (met_outputs meet T U) T
        first = bears_less K E w laws (met_outputs meet T U) T T h f (met_below T U f g) a

        le : Lies w (met_outputs meet T U) U
        le = met_below_second T U f g e

        gives : (k : K) → side_leq w (told w (met_outputs meet T U) k).gives (met_outputs meet T U k Outputs) ≡ true
        gives k =
            side_meet_greatest k Outputs (T k Outputs) (U k Outputs) (told w (met_outputs meet T U) k).gives (f k Outputs) (g k Outputs) (told_fits K E w laws (met_outputs meet T U) h k) (first.justified k).gives
            (side_trans K E w laws (told w (met_outputs meet T U) k).gives (told w U k).gives (U k Outputs)
            (gives_less K E w laws (own_answer (met_outputs meet T U)) (own_answer U) k (T k Inputs) (U k Inputs) (λ j. h j Outputs) (λ j. g j Outputs) (λ j. le j Outputs) (f k Inputs) (g k Inputs) (le k Inputs))
            (low k))

    pub met_accepted : (T : Table K E) → IsGood w T → IsAccepted w T → (last : ℕ) → EndsAt (outputs_after w T) last → IsAccepted w (met_outputs meet T (outputs_after w T last))
    met_accepted T g a last e = let f = outputs_fit T g.fits last in met_bears T (outputs_after w T last) g.fits f (outputs_inputs T last) a (stays_low (outputs_after w T last) f (suc last) e.still)

    pub second_laws : SecondLaws w meet
    second_laws =
        record {
          lowest = λ last h. find_lowest (table_after w last) (after_good K E w laws last) (last_accepted K E w laws last h) 47 0 (omega arith) (λ m lt. absurd (omega arith));
          lowered_decided = λ last r h. lowered_decided (table_after w last) (after_good K E w laws last) (last_accepted K E w laws last h) r;
          climb_ends = λ last down h. outputs_end (lowered w (table_after w last) down) (low last down);
          fits = λ last down again h. met_fits (lowered w (table_after w last) down) (outputs_after w (lowered w (table_after w last) down) again) (low last down).fits (outputs_fit (lowered w (table_after w last) down) (low last down).fits again);
          accepted = λ last down again h e. met_accepted (lowered w (table_after w last) down) (low last down) (lowered_accepted (table_after w last) (after_good K E w laws last) (last_accepted K E w laws last h) down) again e;
          below = λ last down again h.
              lies_trans K E w laws (met_outputs meet (lowered w (table_after w last) down) (outputs_after w (lowered w (table_after w last) down) again)) (lowered w (table_after w last) down) (table_after w last)
              (met_below (lowered w (table_after w last) down) (outputs_after w (lowered w (table_after w last) down) again) (low last down).fits (outputs_fit (lowered w (table_after w last) down) (low last down).fits again))
              (lowered_below (table_after w last) (after_good K E w laws last) (last_accepted K E w laws last h) down);
        }
      where
        low : (last down : ℕ) → IsGood w (lowered w (table_after w last) down)
        low last down = lowered_good (table_after w last) (after_good K E w laws last) down
