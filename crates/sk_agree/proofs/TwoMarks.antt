-- The least and the greatest number alone are thresholds.
use Rattle.std.proofs.Common.{◌≡◌, ℕ, zero, suc, ◌+◌, ◌<◌, ◌≤◌, ℤ, ◌<ℤ◌, List, [], ◌∷◌, Some, refl, subst, arith}
use Rattle.std.specs.Prelude.{slice_get}
use Rattle.std.proofs.lemmas.Int.{ints}
use Rattle.std.proofs.lemmas.Option.{same_Some}
use Rattle.sk_lattice.specs.Thresholds.{IsThresholds, LEAST, GREATEST}

abbrev pub two_marks : List ℤ
two_marks = LEAST ∷ GREATEST ∷ []

pub two_marks_are : IsThresholds two_marks
two_marks_are = record { at_most = omega arith; least = refl; greatest = last; increasing = rises }
  where
    last : (k : ℕ) → k < 2 → 2 ≤ k + 1 → slice_get two_marks k ≡ Some GREATEST
    last zero below end = absurd (omega (arith, end))
    last (suc zero) below end = refl
    last (suc (suc k)) below end = absurd (omega (arith, below))

    rises : (i j : ℕ) (m n : ℤ) → i < j → slice_get two_marks i ≡ Some m → slice_get two_marks j ≡ Some n → m <ℤ n
    rises zero zero m n below e f = absurd (omega (arith, below))
    rises zero (suc zero) m n below e f =
        subst (λ x. x <ℤ n) (same_Some LEAST m e) (subst (λ y. LEAST <ℤ y) (same_Some GREATEST n f) (omega (arith, ints)))
    rises zero (suc (suc j)) m n below e f = absurd cc
    rises (suc zero) zero m n below e f = absurd (omega (arith, below))
    rises (suc zero) (suc zero) m n below e f = absurd (omega (arith, below))
    rises (suc zero) (suc (suc j)) m n below e f = absurd cc
    rises (suc (suc i)) j m n below e f = absurd cc
