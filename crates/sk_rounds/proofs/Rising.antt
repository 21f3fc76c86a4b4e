-- The tables of the rounds rise, and from round 4 on the total weight of a table that changes falls.
use Rattle.std.proofs.Common.{◌≡◌, ℕ, zero, suc, ◌+◌, ◌*◌, ◌<◌, ◌≤◌, true, false, length, sum_by, refl, sym, ◌∙◌, subst, inl, inr, arith}
use Rattle.std.proofs.lemmas.Bool.{cases_Bool, and_parts, and_from, and_cases}
use Rattle.sk_rounds.specs.Walks.{Side, Inputs, Outputs, Table, Walks, WalksLaws, side_leq, Lies, is_key, FitTable}
use Rattle.sk_rounds.specs.Rounds.{demands_of, first_table, next_table, table_after, key_still, is_still, Bears}
use Rattle.sk_rounds.proofs.Lists.{list_all_entries, list_all_from, all_at, sum_falls, sum_capped}
use Rattle.sk_rounds.proofs.Sides.{weight, side_refl, raised_fits, raised_left, raised_right, raised_least, raised_stays, raised_falls, weight_capped, finite_falls}
use Rattle.sk_rounds.proofs.Bearing.{Outside, f_fits, f_outside, f_below, first_fits, first_outside, lies_antisym}

-- what the tables of all rounds and of all picks are
pub record IsGood {K E : Type 0} (w : Walks K E) (T : Table K E) : Type 0 where
  pub fits : FitTable w T
  pub outside : Outside w T

-- both sides of a key
abbrev pub key_weight : {K E : Type 0} → Walks K E → Table K E → K → ℕ
key_weight w T k = weight w (T k Inputs) + weight w (T k Outputs)

-- the number that falls
abbrev pub total : {K E : Type 0} → Walks K E → Table K E → ℕ
total w T = sum_by (key_weight w T) w.keys

module _ (K E : Type 0) (w : Walks K E) (laws : WalksLaws w) where
  pub first_good : IsGood w (first_table w)
  first_good = record { fits = first_fits K E w laws; outside = first_outside K E w laws }

  next_fits : (r : ℕ) (T : Table K E) → FitTable w T → FitTable w (next_table w r T)
  next_fits r T f k p = raised_fits K E w laws r k p (T k p) (demands_of w T k p) (f k p) (f_fits K E w laws T f k p)

  pub next_good : (r : ℕ) (T : Table K E) → IsGood w T → IsGood w (next_table w r T)
  next_good r T g =
      record {
        fits = next_fits r T g.fits;
        outside = λ k n p. raised_stays K E w laws r (T k p) (demands_of w T k p) (subst (λ z. side_leq w z (T k p) ≡ true) (sym (f_outside K E w laws T g.fits g.outside k n p)) refl) ∙ g.outside k n p;
      }

  pub after_good : (r : ℕ) → IsGood w (table_after w r)
  after_good zero = first_good
  after_good (suc r) = next_good (suc r) (table_after w r) (after_good r)

  pub next_left : (r : ℕ) (T : Table K E) → IsGood w T → Lies w T (next_table w r T)
  next_left r T g k p = raised_left K E w laws r k p (T k p) (demands_of w T k p) (g.fits k p) (f_fits K E w laws T g.fits k p)

  pub next_right : (r : ℕ) (T : Table K E) → IsGood w T → Lies w (demands_of w T) (next_table w r T)
  next_right r T g k p = raised_right K E w laws r k p (T k p) (demands_of w T k p) (g.fits k p) (f_fits K E w laws T g.fits k p)

  pub next_least : w.is_finite ≡ true → (r : ℕ) (T U : Table K E) → Lies w T U → Bears w T U → Lies w (next_table w r T) U
  next_least fin r T U le b k p = raised_least K E w laws fin r (T k p) (demands_of w T k p) (U k p) (le k p) (f_below K E w laws T U b k p)

  -- a test over the keys of the program that passes says so of every key
  pub still_lies : (T U : Table K E) → Outside w U → is_still w T U ≡ true → Lies w U T
  still_lies T U out e k p =
      elim (cases_Bool (is_key w k)) [
        | inl h ↦ side p (all_at (λ j. key_still w T U j ≡ true) (w.same k) (key_still w T U k ≡ true) (λ j s q. subst (λ i. key_still w T U i ≡ true) (sym (laws.order.same_only k j s)) q) w.keys (list_all_entries (key_still w T U) w.keys e) h)
        | inr n ↦ subst (λ z. side_leq w z (T k p) ≡ true) (sym (out k n p)) refl
      ]
    where
      side : (s : Side) → key_still w T U k ≡ true → side_leq w (U k s) (T k s) ≡ true
      side Inputs q = (and_parts (side_leq w (U k Inputs) (T k Inputs)) (side_leq w (U k Outputs) (T k Outputs)) q).0
      side Outputs q = (and_parts (side_leq w (U k Inputs) (T k Inputs)) (side_leq w (U k Outputs) (T k Outputs)) q).1

  pub lies_still : (T U : Table K E) → Lies w U T → is_still w T U ≡ true
  lies_still T U le = list_all_from (key_still w T U) (λ k. and_from (side_leq w (U k Inputs) (T k Inputs)) (side_leq w (U k Outputs) (T k Outputs)) (le k Inputs) (le k Outputs)) w.keys

  -- two tables, side by side, of which one weighs less where a test fails
  total_falls : (T U V : Table K E) → ((k : K) (p : Side) → weight w (V k p) ≤ weight w (T k p)) → ((k : K) (p : Side) → side_leq w (U k p) (T k p) ≡ false → weight w (V k p) < weight w (T k p)) → is_still w T U ≡ false → total w V < total w T
  total_falls T U V le lt e =
      sum_falls (key_weight w V) (key_weight w T) (key_still w T U) (λ k. omega (arith, le k Inputs, le k Outputs))
      (λ k n. elim (and_cases (side_leq w (U k Inputs) (T k Inputs)) (side_leq w (U k Outputs) (T k Outputs)) n) [
        | inl h ↦ omega (arith, lt k Inputs h, le k Outputs)
        | inr h ↦ omega (arith, lt k Outputs h, le k Inputs)
      ])
      w.keys e

  pub total_capped : (T : Table K E) → FitTable w T → total w T ≤ 2 * length w.keys * w.cap
  total_capped T f =
      omega (arith, sum_capped (key_weight w T) (w.cap + w.cap) (λ k. omega (arith, weight_capped K E w laws k Inputs (T k Inputs) (f k Inputs), weight_capped K E w laws k Outputs (T k Outputs) (f k Outputs))) w.keys)

  -- a round from the fourth on
  pub next_falls : (r : ℕ) (T : Table K E) → 3 < r → IsGood w T → is_still w T (demands_of w T) ≡ false → total w (next_table w r T) < total w T
  next_falls r T late g e = total_falls T (demands_of w T) (next_table w r T) le lt e
    where
      lt : (k : K) (p : Side) → side_leq w (demands_of w T k p) (T k p) ≡ false → weight w (next_table w r T k p) < weight w (T k p)
      lt k p n = raised_falls K E w laws r k p (T k p) (demands_of w T k p) late (g.fits k p) (f_fits K E w laws T g.fits k p) n

      le : (k : K) (p : Side) → weight w (next_table w r T k p) ≤ weight w (T k p)
      le k p =
          elim (cases_Bool (side_leq w (demands_of w T k p) (T k p))) [
            | inl e ↦ subst (λ z. weight w z ≤ weight w (T k p)) (sym (raised_stays K E w laws r (T k p) (demands_of w T k p) e)) (omega arith)
            | inr n ↦ omega (arith, lt k p n)
          ]

  -- a round whose demands lie below the table changes nothing
  pub next_stays : (r : ℕ) (T : Table K E) → Lies w (demands_of w T) T → next_table w r T ≡ T
  next_stays r T h = λ i k p. raised_stays K E w laws r (T k p) (demands_of w T k p) (h k p) i

  -- where it changes nothing, the demands lie below the table
  pub stays_lies : (r : ℕ) (T : Table K E) → IsGood w T → next_table w r T ≡ T → Lies w (demands_of w T) T
  stays_lies r T g e = subst (λ U. Lies w (demands_of w T) U) e (next_right r T g)

  pub still_stays : (r : ℕ) (T : Table K E) → IsGood w T → is_still w T (demands_of w T) ≡ true → next_table w r T ≡ T
  still_stays r T g e = next_stays r T (still_lies T (demands_of w T) (f_outside K E w laws T g.fits g.outside) e)

  -- on finite domains a greater table weighs less, or is the same
  pub finite_total_falls : w.is_finite ≡ true → (T U : Table K E) → IsGood w T → IsGood w U → Lies w T U → is_still w T U ≡ false → total w U < total w T
  finite_total_falls fin T U g h le e = total_falls T U U more lt e
    where
      lt : (k : K) (p : Side) → side_leq w (U k p) (T k p) ≡ false → weight w (U k p) < weight w (T k p)
      lt k p n = finite_falls K E w laws fin k p (T k p) (U k p) (g.fits k p) (h.fits k p) (le k p) n

      more : (k : K) (p : Side) → weight w (U k p) ≤ weight w (T k p)
      more k p =
          elim (cases_Bool (side_leq w (U k p) (T k p))) [
            | inl e ↦ subst (λ z. weight w z ≤ weight w (T k p)) (lies_at k p e) (omega arith)
            | inr n ↦ omega (arith, lt k p n)
          ]
        where
          lies_at : (k : K) (p : Side) → side_leq w (U k p) (T k p) ≡ true → T k p ≡ U k p
          lies_at k p e = Rattle.sk_rounds.proofs.Sides.side_antisym K E w laws (T k p) (U k p) (le k p) e

  pub still_same : (T U : Table K E) → IsGood w U → Lies w T U → is_still w T U ≡ true → U ≡ T
  still_same T U h le e = lies_antisym K E w laws U T (still_lies T U h.outside e) le
