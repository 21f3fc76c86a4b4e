-- Picks in any order stay below every accepted table, and where none is unstable they gave the least one.
use Rattle.std.proofs.Common.{◌≡◌, ℕ, zero, suc, ◌<◌, ◌≤◌, true, false, cond, List, [], ◌∷◌, ◌++◌, Option, None, refl, sym, ◌∙◌, ap, subst, inl, inr, ◌⊎◌, arith}
use Rattle.std.specs.List.{AllByRecursion, list_any}
use Rattle.std.proofs.lemmas.Bool.{cases_Bool, cond_both, cond-true}
use Rattle.sk_rounds.specs.Walks.{Side, Inputs, Outputs, Call, Table, Walks, WalksLaws, side_leq, Lies, is_key, FitSide, FitTable, CallsBelow}
use Rattle.sk_rounds.specs.Rounds.{is_still, Told, told, side_join, join_calls, first_table, Justified, IsAnalysed, IsAccepted}
use Rattle.sk_rounds.specs.Replay.{recomputed, all_recomputed, replayed, IsStable, AllStable, HasSweeps}
use Rattle.sk_rounds.specs.Laws.{ReplayLaws}
use Rattle.sk_rounds.proofs.Lists.{all_at, all_from, all_more}
use Rattle.sk_rounds.proofs.Sides.{side_join_left, side_join_right, side_join_least, side_join_fits}
use Rattle.sk_rounds.proofs.Bearing.{Outside, join_calls_fits, join_calls_over, join_calls_least, join_calls_outside, calls_below_more, told_fits, told_good, told_nothing, justified_nothing, justified_less, first_below, lies_antisym, lies_refl, lies_trans}
use Rattle.sk_rounds.proofs.Rising.{IsGood, total, first_good, total_capped, finite_total_falls, still_same}
use Rattle.sk_rounds.proofs.Ending.{analysed_accepted, analysed_fits, analysed_least}

-- what recomputing one key adds to the outputs of another
abbrev pub own_gives : {K E : Type 0} → Walks K E → Table K E → K → K → Option E
own_gives w T k j = cond (w.same j k) (told w T k).gives None

module _ (K E : Type 0) (w : Walks K E) (laws : WalksLaws w) where
  own_gives_fits : (T : Table K E) → FitTable w T → (k j : K) → FitSide w j Outputs (own_gives w T k j)
  own_gives_fits T f k j =
      cond_both (w.same j k) (told w T k).gives None (FitSide w j Outputs)
      (λ e. subst (λ i. FitSide w i Outputs (told w T k).gives) (sym (laws.order.same_only j k e)) (told_fits K E w laws T f k))
      (λ _. tt)

  own_gives_outside : (T : Table K E) → Outside w T → (k j : K) → is_key w j ≡ false → own_gives w T k j ≡ None
  own_gives_outside T out k j n =
      cond_both (w.same j k) (told w T k).gives None (λ z. z ≡ None)
      (λ e. ap (λ (t : Told K E). t.gives) (told_nothing K E w laws T k (out k (subst (λ i. is_key w i ≡ false) (laws.order.same_only j k e) n) Inputs)))
      (λ _. refl)

  pick_fits : (T : Table K E) → FitTable w T → (k : K) → FitTable w (recomputed w T k)
  pick_fits T f k j Inputs = side_join_fits K E w laws j Inputs (T j Inputs) (join_calls w j (told w T k).calls) (f j Inputs) (join_calls_fits K E w laws j (told w T k).calls (told_good K E w laws T f k))
  pick_fits T f k j Outputs = side_join_fits K E w laws j Outputs (T j Outputs) (own_gives w T k j) (f j Outputs) (own_gives_fits T f k j)

  pick_outside : (T : Table K E) → FitTable w T → Outside w T → (k : K) → Outside w (recomputed w T k)
  pick_outside T f out k j n Inputs = ap (side_join w (T j Inputs)) (join_calls_outside K E w laws j n (told w T k).calls (told_good K E w laws T f k)) ∙ out j n Inputs
  pick_outside T f out k j n Outputs = ap (side_join w (T j Outputs)) (own_gives_outside T out k j n) ∙ out j n Outputs

  pub pick_good : (T : Table K E) → IsGood w T → (k : K) → IsGood w (recomputed w T k)
  pick_good T g k = record { fits = pick_fits T g.fits k; outside = pick_outside T g.fits g.outside k }

  pub pick_left : (T : Table K E) → IsGood w T → (k : K) → Lies w T (recomputed w T k)
  pick_left T g k j Inputs = side_join_left K E w laws j Inputs (T j Inputs) (join_calls w j (told w T k).calls) (g.fits j Inputs) (join_calls_fits K E w laws j (told w T k).calls (told_good K E w laws T g.fits k))
  pick_left T g k j Outputs = side_join_left K E w laws j Outputs (T j Outputs) (own_gives w T k j) (g.fits j Outputs) (own_gives_fits T g.fits k j)

  pub pick_least : (T U : Table K E) (k : K) → Lies w T U → Justified w T U k → Lies w (recomputed w T k) U
  pick_least T U k le h j Inputs = side_join_least K E w laws (T j Inputs) (join_calls w j (told w T k).calls) (U j Inputs) (le j Inputs) (join_calls_least K E w laws (told w T k).calls (λ i. U i Inputs) h.calls j)
  pick_least T U k le h j Outputs =
      side_join_least K E w laws (T j Outputs) (own_gives w T k j) (U j Outputs) (le j Outputs)
      (cond_both (w.same j k) (told w T k).gives None (λ z. side_leq w z (U j Outputs) ≡ true)
      (λ e. subst (λ i. side_leq w (told w T k).gives (U i Outputs) ≡ true) (sym (laws.order.same_only j k e)) h.gives)
      (λ _. refl))

  -- what the walk of the key tells lies below the table in which it was recomputed
  pick_justifies : (T : Table K E) → IsGood w T → (k : K) → Justified w T (recomputed w T k) k
  pick_justifies T g k = record { calls = calls; gives = gives }
    where
      good : Rattle.sk_rounds.specs.Walks.GoodCalls w (told w T k).calls
      good = told_good K E w laws T g.fits k

      calls : CallsBelow w (told w T k).calls (λ j. recomputed w T k j Inputs)
      calls =
          calls_below_more K E w laws (told w T k).calls (λ j. join_calls w j (told w T k).calls) (λ j. recomputed w T k j Inputs)
          (λ j. side_join_right K E w laws j Inputs (T j Inputs) (join_calls w j (told w T k).calls) (g.fits j Inputs) (join_calls_fits K E w laws j (told w T k).calls good))
          (join_calls_over K E w laws (told w T k).calls good)

      gives : side_leq w (told w T k).gives (recomputed w T k k Outputs) ≡ true
      gives =
          subst (λ z. side_leq w z (recomputed w T k k Outputs) ≡ true) (cond-true (w.same k k) (told w T k).gives None (laws.order.same_refl k))
          (side_join_right K E w laws k Outputs (T k Outputs) (own_gives w T k k) (g.fits k Outputs) (own_gives_fits T g.fits k k))

  pub stable_justified : (T : Table K E) → IsGood w T → (k : K) → IsStable w T k → Justified w T T k
  stable_justified T g k e = subst (λ U. Justified w T U k) e (pick_justifies T g k)

  pub justified_stable : (T : Table K E) → IsGood w T → (k : K) → Justified w T T k → IsStable w T k
  justified_stable T g k h = lies_antisym K E w laws (recomputed w T k) T (pick_least T T k (lies_refl K E w laws T) h) (pick_left T g k)

  pub picked_good : (ks : List K) (T : Table K E) → IsGood w T → IsGood w (all_recomputed w T ks)
  picked_good [] T g = g
  picked_good (k ∷ ks) T g = picked_good ks (recomputed w T k) (pick_good T g k)

  picked_left : (ks : List K) (T : Table K E) → IsGood w T → Lies w T (all_recomputed w T ks)
  picked_left [] T g = lies_refl K E w laws T
  picked_left (k ∷ ks) T g = lies_trans K E w laws T (recomputed w T k) (all_recomputed w (recomputed w T k) ks) (pick_left T g k) (picked_left ks (recomputed w T k) (pick_good T g k))

  picked_below : (U : Table K E) → FitTable w U → IsAccepted w U → (ks : List K) (T : Table K E) → IsGood w T → Lies w T U → Lies w (all_recomputed w T ks) U
  picked_below U f a [] T g le = le
  picked_below U f a (k ∷ ks) T g le =
      picked_below U f a ks (recomputed w T k) (pick_good T g k) (pick_least T U k le (justified_less K E w laws T U U g.fits f le k (a.justified k)))

  -- every order of picks stays below every accepted table, on any domain
  pub replay_least : (U : Table K E) → FitTable w U → IsAccepted w U → (picks : List K) → Lies w (replayed w picks) U
  replay_least U f a picks = picked_below U f a picks (first_table w) (first_good K E w laws) (first_below K E w laws U a.covers)

  replay_good : (picks : List K) → IsGood w (replayed w picks)
  replay_good picks = picked_good picks (first_table w) (first_good K E w laws)

  replay_covers : (picks : List K) → CallsBelow w w.covers (λ j. replayed w picks j Inputs)
  replay_covers picks =
      calls_below_more K E w laws w.covers (λ j. first_table w j Inputs) (λ j. replayed w picks j Inputs) (λ j. picked_left picks (first_table w) (first_good K E w laws) j Inputs)
      (join_calls_over K E w laws w.covers laws.walk.covers_good)

  all_stable_at : (T : Table K E) → IsGood w T → AllStable w T → (k : K) → Justified w T T k
  all_stable_at T g h k =
      elim (cases_Bool (is_key w k)) [
        | inl e ↦ stable_justified T g k (all_at (IsStable w T) (w.same k) (IsStable w T k) (λ j s p. subst (IsStable w T) (sym (laws.order.same_only k j s)) p) w.keys h e)
        | inr n ↦ justified_nothing K E w laws T T k (g.outside k n Inputs)
      ]

  pub replay_accepted : (picks : List K) → AllStable w (replayed w picks) → IsAccepted w (replayed w picks)
  replay_accepted picks h = record { covers = replay_covers picks; justified = all_stable_at (replayed w picks) (replay_good picks) h }

  -- recomputing a key changes nothing, or the total falls
  decided : w.is_finite ≡ true → (T : Table K E) → IsGood w T → (k : K) → IsStable w T k ⊎ (total w (recomputed w T k) < total w T)
  decided fin T g k =
      elim (cases_Bool (is_still w T (recomputed w T k))) [
        | inl e ↦ inl (still_same K E w laws T (recomputed w T k) (pick_good T g k) (pick_left T g k) e)
        | inr n ↦ inr (finite_total_falls K E w laws fin T (recomputed w T k) g (pick_good T g k) (pick_left T g k) n)
      ]

  picked_lower : w.is_finite ≡ true → (ks : List K) (T : Table K E) → IsGood w T → total w (all_recomputed w T ks) ≤ total w T
  picked_lower fin [] T g = omega arith
  picked_lower fin (k ∷ ks) T g =
      let rest = picked_lower fin ks (recomputed w T k) (pick_good T g k) in
      elim (decided fin T g k) [
        | inl e ↦ subst (λ U. total w (all_recomputed w (recomputed w T k) ks) ≤ total w U) e rest
        | inr lt ↦ omega (arith, rest, lt)
      ]

  -- a list of picks changes nothing at any of them, or the total falls
  settled : w.is_finite ≡ true → (ks : List K) (T : Table K E) → IsGood w T → AllByRecursion (IsStable w T) ks ⊎ (total w (all_recomputed w T ks) < total w T)
  settled fin [] T g = inl tt
  settled fin (k ∷ ks) T g =
      elim (decided fin T g k) [
        | inl e ↦ elim (settled fin ks T g) [
          | inl all ↦ inl (e, all)
          | inr lt ↦ inr (subst (λ U. total w (all_recomputed w U ks) < total w T) (sym e) lt)
        ]
        | inr lt ↦ inr (omega (arith, lt, picked_lower fin ks (recomputed w T k) (pick_good T g k)))
      ]

  stays : (T : Table K E) → ((k : K) → IsStable w T k) → (ks : List K) → all_recomputed w T ks ≡ T
  stays T h [] = refl
  stays T h (k ∷ ks) = ap (λ U. all_recomputed w U ks) (h k) ∙ stays T h ks

  picked_both : (ks js : List K) (T : Table K E) → all_recomputed w T (ks ++ js) ≡ all_recomputed w (all_recomputed w T ks) js
  picked_both [] js T = refl
  picked_both (k ∷ ks) js T = picked_both ks js (recomputed w T k)

  -- a sweep at none of whose picks the table changes
  swept_stable : (T : Table K E) → IsGood w T → (sweep : List K) → AllByRecursion (IsStable w T) sweep → AllByRecursion (λ k. list_any (w.same k) sweep ≡ true) w.keys → (k : K) → IsStable w T k
  swept_stable T g sweep h has k = justified_stable T g k (all_stable_at T g (all_more (λ j. list_any (w.same j) sweep ≡ true) (IsStable w T) (λ j e. all_at (IsStable w T) (w.same j) (IsStable w T j) (λ i s p. subst (IsStable w T) (sym (laws.order.same_only j i s)) p) sweep h e) w.keys has) k)

  swept : w.is_finite ≡ true → (m : ℕ) (ks : List K) (T : Table K E) → IsGood w T → total w T ≤ m → HasSweeps w m ks → (k : K) → IsStable w (all_recomputed w T ks) k
  swept fin zero ks T g le h k =
      elim (decided fin (all_recomputed w T ks) (picked_good ks T g) k) [
        | inl e ↦ e
        | inr lt ↦ absurd (omega (arith, lt, picked_lower fin ks T g))
      ]
  swept fin (suc m) ks T g le h k =
      elim (settled fin h.0 T g) [
        | inl all ↦ (let s = swept_stable T g h.0 all h.3 in subst (λ U. IsStable w U k) (sym (stays T s ks)) (s k))
        | inr lt ↦ subst (λ U. IsStable w U k) (sym (ap (all_recomputed w T) h.2 ∙ picked_both h.0 h.1 T)) (swept fin m h.1 (all_recomputed w T h.0) (picked_good h.0 T g) (omega arith) h.4 k)
      ]

  below : (table : Table K E) (rounds : ℕ) → IsAnalysed w table rounds → (picks : List K) → Lies w (replayed w picks) table
  below table rounds a picks = replay_least table (analysed_fits K E w laws table rounds a) (analysed_accepted K E w laws table rounds a) picks

  agrees : w.is_finite ≡ true → (table : Table K E) (rounds : ℕ) → IsAnalysed w table rounds → (picks : List K) → AllStable w (replayed w picks) → replayed w picks ≡ table
  agrees fin table rounds a picks s =
      lies_antisym K E w laws (replayed w picks) table (below table rounds a picks)
      ((analysed_least K E w laws fin table rounds a).least (replayed w picks) (replay_good picks).fits (replay_accepted picks s))

  pub replay_laws : w.is_finite ≡ true → ReplayLaws w
  replay_laws fin =
      record {
        below = below;
        agrees = agrees fin;
        sweeps_end = λ picks m le s. all_from (IsStable w (replayed w picks)) (swept fin m picks (first_table w) (first_good K E w laws) (omega (arith, total_capped K E w laws (first_table w) (first_good K E w laws).fits, le)) s) w.keys;
      }
