-- A row of steps ends where from the fourth on a number falls at each step that changes something.
use Rattle.std.proofs.Common.{◌≡◌, ◌≢◌, ℕ, zero, suc, ◌+◌, ◌<◌, ◌≤◌, sym, subst, inl, inr, ◌⊎◌, arith}
use Rattle.std.proofs.lemmas.Bool.{cases_order, cases_lt}
use Rattle.sk_rounds.specs.Rounds.{EndsAt}
use Rattle.sk_rounds.specs.Laws.{EndsWithin}

-- a step changes nothing, or it changes something and from the fourth on the number falls
abbrev pub Steps : {X : Type 0} → (ℕ → X) → (X → ℕ) → ℕ → Type 0
Steps row number r = (row (suc r) ≡ row r) ⊎ ((row (suc r) ≢ row r) × (3 ≤ r → number (row (suc r)) < number (row r)))

-- what is known after so many steps, each of which changed something
record Going {X : Type 0} (row : ℕ → X) (number : X → ℕ) (most r : ℕ) : Type 0 where
  changed : (m : ℕ) → m < r → row (suc m) ≢ row m
  low : 3 ≤ r → number (row r) + r ≤ 3 + most

going_on : {X : Type 0} (row : ℕ → X) (number : X → ℕ) (most r : ℕ) → number (row (suc r)) ≤ most → Going row number most r → row (suc r) ≢ row r → (3 ≤ r → number (row (suc r)) < number (row r)) → Going row number most (suc r)
going_on row number most r capped g now falls = record { changed = changed; low = low }
  where
    changed : (m : ℕ) → m < suc r → row (suc m) ≢ row m
    changed m lt =
        elim (cases_order m r) [
          | inl same ↦ subst (λ i. row (suc i) ≢ row i) (sym same) now
          | inr (inl less) ↦ g.changed m less
          | inr (inr more) ↦ absurd (omega arith)
        ]

    low : 3 ≤ suc r → number (row (suc r)) + suc r ≤ 3 + most
    low le =
        elim (cases_lt 2 r) [
          | inl late ↦ omega (arith, g.low late, falls late)
          | inr early ↦ omega (arith, capped)
        ]

in_time : {X : Type 0} (row : ℕ → X) (number : X → ℕ) (most r : ℕ) → Going row number most r → suc r ≤ 4 + most
in_time row number most r g =
    elim (cases_lt 2 r) [
      | inl late ↦ omega (arith, g.low late)
      | inr early ↦ omega arith
    ]

find : {X : Type 0} (row : ℕ → X) (number : X → ℕ) (most : ℕ) → ((r : ℕ) → number (row r) ≤ most) → ((r : ℕ) → Steps row number r) → (fuel r : ℕ) → Going row number most r → fuel + r ≡ 4 + most → EndsWithin row (4 + most)
find row number most capped decide zero r g e = absurd (omega (arith, in_time row number most r g))
find row number most capped decide (suc fuel) r g e =
    elim (decide r) [
      | inl s ↦ record { last = r; is_last = record { still = s; earlier = g.changed }; in_time = in_time row number most r g }
      | inr n ↦ find row number most capped decide fuel (suc r) (going_on row number most r (capped (suc r)) g n.0 n.1) (omega arith)
    ]

pub row_ends : {X : Type 0} (row : ℕ → X) (number : X → ℕ) (most : ℕ) → ((r : ℕ) → number (row r) ≤ most) → ((r : ℕ) → Steps row number r) → EndsWithin row (4 + most)
row_ends row number most capped decide =
    find row number most capped decide (4 + most) 0 (record { changed = λ m lt. absurd (omega arith); low = λ le. absurd (omega arith) }) (omega arith)

pub one_end : {X : Type 0} (row : ℕ → X) (m n : ℕ) → EndsAt row m → EndsAt row n → m ≡ n
one_end row m n h k =
    elim (cases_order m n) [
      | inl same ↦ same
      | inr (inl less) ↦ absurd (k.earlier m less h.still)
      | inr (inr more) ↦ absurd (h.earlier n more k.still)
    ]
