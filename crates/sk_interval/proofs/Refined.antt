-- The sides of a refinement are empty together.
use Rattle.std.proofs.Common.{◌≡◌, ℤ, pos, ◌+ℤ◌, ◌-ℤ◌, ◌≤ℤ◌, ◌<ℤ◌, Bool, true, false, cond, refl, sym, ◌∙◌, arith}
use Rattle.std.specs.Prelude.{int_lt}
use Rattle.std.specs.Int.{int_max, int_min}
use Rattle.std.specs.Ordering.{int_eq}
use Rattle.std.proofs.lemmas.Int.{ints, clamps}
use Rattle.std.proofs.lemmas.Bool.{false≢true, both_ways}
use Rattle.sk_value.specs.declared.arith.Refine.{Refine}
use Rattle.sk_value.specs.declared.arith.Refine.TheVariants.{Below, AtLeast, Same, Differ}
use Rattle.sk_interval.specs.declared.bounds.Bounds.{Bounds}
use Rattle.sk_interval.specs.declared.bounds.Interval.{Interval}
use Rattle.sk_interval.specs.declared.bounds.Interval.TheVariants.{Empty, Range}
use Rattle.sk_interval.specs.Cuts.{cut, interval_holds, interval_is_empty, both}
use Rattle.sk_interval.specs.Comparisons.{is_single, without, left_bounds, right_bounds}
use Rattle.sk_interval.specs.Sets.{IntervalsAreSets}
use Rattle.sk_interval.specs.Laws.Sets.{leq_at, leq_by, in_cut, cut_within, same_test, at_low}
use Rattle.sk_interval.specs.Laws.Compare.{eq_from, eq_not, eq_test}

-- an interval with a number isn't empty, and one that isn't empty has a number
held : (a : Interval) (n : ℤ) → interval_holds a n ≡ true → interval_is_empty a ≡ false
held Empty n h = absurd (false≢true h)
held (Range a) n h = refl

none_held : (a : Interval) → ((n : ℤ) → interval_holds a n ≡ true → ⊥) → interval_is_empty a ≡ true
none_held Empty h = refl
none_held (Range a) h = absurd (h a.low (at_low a))

-- a cut of ends within the numbers is empty exactly where they are out of order
cut_empty : (low high : ℤ) (t : Bool) → int_lt high low ≡ t → (a b : Bounds) → a.low ≤ℤ low → high ≤ℤ b.high → interval_is_empty (cut low high) ≡ t
cut_empty low high true e a b h k =
    none_held (cut low high) (λ n g. let w = cut_within low high n g in absurd (omega (arith, ints)))
cut_empty low high false e a b h k =
    let p = a.low_fits in
    let q = b.high_fits in
    held (cut low high) low (in_cut low high low (omega (arith, ints)) (omega (arith, ints)) (omega (arith, ints)))

same_order : (m n p q : ℤ) → (m <ℤ n → p <ℤ q) → (p <ℤ q → m <ℤ n) → int_lt m n ≡ int_lt p q
same_order m n p q h k =
    same_test (int_lt m n) (int_lt p q)
    (λ e. let f = h (omega (arith, ints)) in sym (omega (arith, ints)))
    (λ e. let f = k (omega (arith, ints)) in sym (omega (arith, ints)))

cuts_together : (l h l2 h2 : ℤ) (a b : Bounds) → a.low ≤ℤ l → h ≤ℤ a.high → b.low ≤ℤ l2 → h2 ≤ℤ b.high → (h <ℤ l → h2 <ℤ l2) → (h2 <ℤ l2 → h <ℤ l) → interval_is_empty (cut l h) ≡ interval_is_empty (cut l2 h2)
cuts_together l h l2 h2 a b p q r s t u =
    cut_empty l h (int_lt h l) refl a a p q ∙ (same_order h l h2 l2 t u ∙ sym (cut_empty l2 h2 (int_lt h2 l2) refl b b r s))

-- both hold one and the same number alone
record AllOne (a b : Bounds) : Type 0 where
  pub low : a.low ≡ b.low
  pub high : a.high ≡ b.low
  pub single : b.low ≡ b.high

one_if : (a b : Bounds) (t u v : Bool) → is_single b ≡ t → int_eq a.low b.low ≡ u → int_eq a.high b.low ≡ v → interval_is_empty (cond t (cut (cond u (a.low +ℤ pos 1) a.low) (cond v (a.high -ℤ pos 1) a.high)) (Range a)) ≡ true → AllOne a b
one_if a b true true true e f g h = record { low = eq_from a.low b.low f; high = eq_from a.high b.low g; single = eq_from b.low b.high e }
one_if a b true true false e f g h =
    let p = eq_from a.low b.low f in
    let q = eq_not a.high b.low g in
    let r = a.ordered in
    let s = a.high_fits in
    absurd (both_ways _ (held (cut (a.low +ℤ pos 1) a.high) a.high (in_cut (a.low +ℤ pos 1) a.high a.high (omega (arith, ints)) (omega (arith, ints)) s)) h)
one_if a b true false true e f g h =
    let p = eq_not a.low b.low f in
    let q = eq_from a.high b.low g in
    let r = a.ordered in
    let s = a.low_fits in
    absurd (both_ways _ (held (cut a.low (a.high -ℤ pos 1)) a.low (in_cut a.low (a.high -ℤ pos 1) a.low (omega (arith, ints)) (omega (arith, ints)) s)) h)
one_if a b true false false e f g h =
    let r = a.ordered in
    let s = a.low_fits in
    absurd (both_ways _ (held (cut a.low a.high) a.low (in_cut a.low a.high a.low (omega (arith, ints)) (omega (arith, ints)) s)) h)
one_if a b false u v e f g h = absurd (false≢true h)

differ_empty : (a b : Bounds) → interval_is_empty (without a b) ≡ true → interval_is_empty (without b a) ≡ true
differ_empty a b h =
    let one = one_if a b (is_single b) (int_eq a.low b.low) (int_eq a.high b.low) refl refl refl h in
    rw (eq_test a.low a.high (one.low ∙ sym one.high), eq_test b.low a.low (sym one.low), eq_test b.high a.low (sym (one.low ∙ one.single)))
    (none_held (cut (b.low +ℤ pos 1) (b.high -ℤ pos 1)) (λ n e. let w = cut_within (b.low +ℤ pos 1) (b.high -ℤ pos 1) n e in let s = one.single in absurd (omega (arith, ints))))

bounds_refined : (op : Refine) (a b : Bounds) → interval_is_empty (left_bounds op a b) ≡ interval_is_empty (right_bounds op a b)
bounds_refined Below a b =
    let p = a.ordered in
    let q = b.ordered in
    cuts_together a.low (int_min a.high (b.high -ℤ pos 1)) (int_max b.low (a.low +ℤ pos 1)) b.high a b
    (omega (arith, ints)) (omega (arith, ints, clamps)) (omega (arith, ints, clamps)) (omega (arith, ints))
    (λ h. omega (arith, ints, clamps)) (λ h. omega (arith, ints, clamps))
bounds_refined AtLeast a b =
    let p = a.ordered in
    let q = b.ordered in
    cuts_together (int_max a.low b.low) a.high b.low (int_min b.high a.high) a b
    (omega (arith, ints, clamps)) (omega (arith, ints)) (omega (arith, ints)) (omega (arith, ints, clamps))
    (λ h. omega (arith, ints, clamps)) (λ h. omega (arith, ints, clamps))
bounds_refined Same a b = refl
bounds_refined Differ a b = same_test (interval_is_empty (without a b)) (interval_is_empty (without b a)) (differ_empty a b) (differ_empty b a)

refined : (op : Refine) (a b : Interval) → interval_is_empty (both (left_bounds op) a b) ≡ interval_is_empty (both (right_bounds op) a b)
refined op Empty b = refl
refined op (Range a) Empty = refl
refined op (Range a) (Range b) = bounds_refined op a b

pub intervals_are_sets : IntervalsAreSets
intervals_are_sets = record {
  cut = λ low high n. ((λ h. let w = cut_within low high n h in (w.above, w.below, w.fits)), λ h. in_cut low high n h.0 h.1 h.2);
  order = λ a b. ((λ h n k. leq_at a b n h k), leq_by a b);
  refined = refined;
}
