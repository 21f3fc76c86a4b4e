-- An operation gives just the numbers of its list of results.
use Rattle.std.proofs.Common.{◌≡◌, ◌≢◌, ℕ, zero, suc, ◌<◌, ℤ, pos, negsuc, ◌+ℤ◌, ◌-ℤ◌, ◌*ℤ◌, ◌≤ℤ◌, ◌<ℤ◌, nat_abs, Bool, true, false, cond, ◌&&◌, [], ◌∷◌, length, get_or, refl, sym, ap, ◌∙◌, arith}
use Rattle.std.specs.Prelude.{Contains, ◌↔◌, int_le, int_div, int_rem}
use Rattle.std.specs.Ordering.{int_eq}
use Rattle.std.proofs.lemmas.Bool.Decides.{Decides-int_eq}
use Rattle.std.proofs.lemmas.Bool.{and_parts}
use Rattle.std.proofs.lemmas.Int.{ints, quot-rem}
use Rattle.std.proofs.Math.IntN.{*ℤ_comm}
use Rattle.sk_value.specs.declared.arith.Arith.{Arith}
use Rattle.sk_value.specs.declared.arith.Arith.TheVariants.{Add, Sub, Mul, Div, Rem, Pick}
use Rattle.sk_value.specs.Numbers.{numbers_from, whole_results, Gives}

only_at : (x r : ℤ) (k : ℕ) → k < 1 → get_or (x ∷ []) k r ≡ r → r ≡ x
only_at x r zero lt e = sym e
only_at x r (suc k) lt e = absurd (omega arith)

-- the one number of a list
only : (x r : ℤ) → Contains (x ∷ []) r ↔ r ≡ x
only x r = ((λ c. only_at x r c.0 c.1 c.2), (λ e. (0, (omega arith), sym e)))

unless_zero : (n x r : ℤ) (t : Bool) → int_eq n (pos 0) ≡ t → Contains (cond t [] (x ∷ [])) r ↔ ((n ≢ pos 0) × (r ≡ x))
unless_zero n x r true e = ((λ c. absurd (omega (arith, c.1))), (λ h. absurd (h.0 ((Decides-int_eq n (pos 0)).0 e))))
unless_zero n x r false e = ((λ c. ((λ z. absurd (cc ((Decides-int_eq n (pos 0)).1 z))), (only x r).0 c)), (λ h. (only x r).1 h.1))

pub length-numbers_from : (first : ℤ) (count : ℕ) → length (numbers_from first count) ≡ count
length-numbers_from first zero = refl
length-numbers_from first (suc count) = ap suc (length-numbers_from (first +ℤ pos 1) count)

pub numbers_from-at : (first : ℤ) (count k : ℕ) (d : ℤ) → k < count → get_or (numbers_from first count) k d ≡ first +ℤ pos k
numbers_from-at first zero k d lt = absurd (omega arith)
numbers_from-at first (suc count) zero d lt = omega (arith, ints)
numbers_from-at first (suc count) (suc k) d lt =
    let later = numbers_from-at (first +ℤ pos 1) count k d (omega arith) in
    omega (arith, ints)

from_list : (first r : ℤ) (count : ℕ) → Contains (numbers_from first count) r → (first ≤ℤ r) × (r <ℤ (first +ℤ pos count))
from_list first r count c =
    let lt : c.0 < count = omega (arith, c.1, length-numbers_from first count) in
    let is : first +ℤ pos c.0 ≡ r = sym (numbers_from-at first count c.0 r lt) ∙ c.2 in
    ((omega (arith, ints)), (omega (arith, ints)))

at_gap : (first r : ℤ) (count : ℕ) (gap : ℤ) → gap ≡ r -ℤ first → first ≤ℤ r → r <ℤ (first +ℤ pos count) → Contains (numbers_from first count) r
at_gap first r count (pos k) e le lt =
    let below : k < count = omega (arith, ints) in
    (k, (omega (arith, length-numbers_from first count)), numbers_from-at first count k r below ∙ (omega (arith, ints)))
at_gap first r count (negsuc k) e le lt = absurd (omega (arith, ints))

between : (m n r : ℤ) (t : Bool) → int_le m n && int_le (n -ℤ m) (pos 63) ≡ t
    → Contains (cond t (numbers_from m (suc (nat_abs (n -ℤ m)))) []) r ↔ ((m ≤ℤ r) × (r ≤ℤ n) × ((n -ℤ m) ≤ℤ pos 63))
between m n r true e =
    let first : int_le m n ≡ true = (and_parts (int_le m n) (int_le (n -ℤ m) (pos 63)) e).0 in
    let second : int_le (n -ℤ m) (pos 63) ≡ true = (and_parts (int_le m n) (int_le (n -ℤ m) (pos 63)) e).1 in (
      (λ c. let parts = from_list m r (suc (nat_abs (n -ℤ m))) c in ((parts.0), (omega (arith, ints)), (omega (arith, ints)))),
      (λ h. at_gap m r (suc (nat_abs (n -ℤ m))) (r -ℤ m) refl h.0 (omega (arith, ints))),
    )
between m n r false e = ((λ c. absurd (omega (arith, c.1))), (λ h. absurd (grind (arith, ints))))

remainder : (m n : ℤ) → m -ℤ (n *ℤ int_div m n) ≡ int_rem m n
remainder m n = omega (arith, ints, quot-rem m n, *ℤ_comm n (int_div m n))

pub results_are_given : (op : Arith) (m n r : ℤ) → Contains (whole_results op m n) r ↔ Gives op m n r
results_are_given Add m n r = only (m +ℤ n) r
results_are_given Sub m n r = only (m -ℤ n) r
results_are_given Mul m n r = only (m *ℤ n) r
results_are_given Div m n r = unless_zero n (int_div m n) r (int_eq n (pos 0)) refl
results_are_given Rem m n r = rw (remainder m n) (unless_zero n (int_rem m n) r (int_eq n (pos 0)) refl)
results_are_given Pick m n r = between m n r (int_le m n && int_le (n -ℤ m) (pos 63)) refl
