-- Intervals below another that holds their ends.
use Rattle.std.proofs.Common.{◌≡◌, ◌≢◌, ℕ, zero, suc, ◌-◌, ◌^◌, ◌*◌, ◌/◌, ◌<◌, ◌≤◌, ℤ, pos, negsuc, ◌≤ℤ◌, true, Option, Some, None, inl, inr, refl, ap, arith}
use Rattle.std.proofs.Math.Nat.{div-mul-le_self, mul-le-mul_left}
use Rattle.std.specs.Prelude.{int_lt, int_le, int_div}
use Rattle.std.specs.Int.{int_max, int_min}
use Rattle.std.proofs.lemmas.Int.{ints}
use Rattle.std.proofs.lemmas.Bool.{cond_both, cases_lt, false≢true, ltb-true}
use Rattle.sk_value.specs.Numbers.{IsNumber, is_number}
use Rattle.sk_lattice.specs.Thresholds.{LEAST}
use Rattle.sk_interval.specs.declared.bounds.Bounds.{Bounds}
use Rattle.sk_interval.specs.declared.bounds.Interval.{Interval}
use Rattle.sk_interval.specs.declared.bounds.Interval.TheVariants.{Empty, Range}
use Rattle.sk_interval.specs.declared.span.Span.{Span}
use Rattle.sk_interval.specs.Ends.{le_from}
use Rattle.sk_interval.specs.Cuts.{cut, interval_holds, interval_leq}
use Rattle.sk_interval.specs.Arithmetic.{corners, join_spans, quotients}
use Rattle.sk_interval.specs.Laws.Sets.{leq_by, range_within, in_range, cut_within}
use Rattle.sk_interval.specs.Intervals.{interval_domain}
use Rattle.sk_least.specs.Domains.{Held}

-- a number that passes the test is in range
pub number_from : (z : ℤ) → is_number z ≡ true → IsNumber z
number_from (pos n) e = record { sfits = ltb-true n (2 ^ 63) e }
number_from (negsuc n) e = record { sfits = ltb-true n (2 ^ 63) e }

-- bounds hold what lies between their ends
pub held_in : (a : Bounds) (n : ℤ) → a.low ≤ℤ n → n ≤ℤ a.high → Held interval_domain (Range a) n
held_in a n p q =
    let low_fits = a.low_fits in
    let high_fits = a.high_fits in
    record { fits = omega (arith, ints); held = in_range a n p q }

-- a cut lies below an interval that holds its ends, where it has numbers
pub cut_below : (low high : ℤ) (c : Interval) → (low ≤ℤ high → interval_holds c low ≡ true) → (low ≤ℤ high → interval_holds c high ≡ true) → interval_leq (cut low high) c ≡ true
cut_below low high c h k = leq_by (cut low high) c (λ n e.
    let w = cut_within low high n e in
    let o : low ≤ℤ high = omega (arith, ints) in
    between c (h o) (k o) n w.above w.below)
  where
    between : (c : Interval) → interval_holds c low ≡ true → interval_holds c high ≡ true → (n : ℤ) → low ≤ℤ n → n ≤ℤ high → interval_holds c n ≡ true
    between Empty h k n p q = absurd (false≢true h)
    between (Range c) h k n p q =
        let v = range_within c low h in
        let w = range_within c high k in
        in_range c n (omega (arith, ints)) (omega (arith, ints))

-- the lesser and the greater of two are one of them
pub of_min : (P : ℤ → Type 0) (p q : ℤ) → P p → P q → P (int_min p q)
of_min P p q h k = cond_both (int_lt q p) q p P (λ _. k) (λ _. h)

pub of_max : (P : ℤ → Type 0) (p q : ℤ) → P p → P q → P (int_max p q)
of_max P p q h k = cond_both (int_lt q p) p q P (λ _. h) (λ _. k)

-- what holds of the results at all ends holds of the least and the greatest of them
pub record OfEnds (P : ℤ → Type 0) (s : Span) : Type 0 where
  pub low : P s.low
  pub high : P s.high

pub of_corners : (P : ℤ → Type 0) (f : ℤ → ℤ → ℤ) (a b c d : ℤ) → P (f a c) → P (f a d) → P (f b c) → P (f b d) → OfEnds P (corners f a b c d)
of_corners P f a b c d p q r s = record {
  low = of_min P (int_min (f a c) (f a d)) (int_min (f b c) (f b d)) (of_min P (f a c) (f a d) p q) (of_min P (f b c) (f b d) r s);
  high = of_max P (int_max (f a c) (f a d)) (int_max (f b c) (f b d)) (of_max P (f a c) (f a d) p q) (of_max P (f b c) (f b d) r s);
}

-- both ends of a span that is there
abbrev pub OfSpan : (ℤ → Type 0) → Option Span → Type 0
OfSpan P (Some s) = OfEnds P s
OfSpan P None = Unit {0}

-- the hull of spans lies below an interval that holds their ends
pub spans_below : (s t : Option Span) (c : Interval) → OfSpan (λ n. interval_holds c n ≡ true) s → OfSpan (λ n. interval_holds c n ≡ true) t → interval_leq (join_spans s t) c ≡ true
spans_below (Some s) (Some t) c h k =
    cut_below (int_min s.low t.low) (int_max s.high t.high) c
    (λ _. of_min (λ n. interval_holds c n ≡ true) s.low t.low h.low k.low) (λ _. of_max (λ n. interval_holds c n ≡ true) s.high t.high h.high k.high)
spans_below (Some s) None c h k = cut_below s.low s.high c (λ _. h.low) (λ _. h.high)
spans_below None (Some t) c h k = cut_below t.low t.high c (λ _. k.low) (λ _. k.high)
spans_below None None c h k = refl

-- the ends of quotients, where there are divisors
pub of_quotients : (P : ℤ → Type 0) (a : Bounds) (low high : ℤ) → (low ≤ℤ high → OfEnds P (corners int_div a.low a.high low high)) → OfSpan P (quotients a low high)
of_quotients P a low high h =
    cond_both (int_le low high) (Some (corners int_div a.low a.high low high)) None (OfSpan P) (λ e. h (le_from low high e)) (λ _. tt)

-- a quotient of numbers is a number, but for that of the least number by -1
pub quotient_fits : (m n : ℤ) → IsNumber m → n ≢ pos 0 → (m ≡ LEAST → n ≡ negsuc 0 → ⊥) → IsNumber (int_div m n)
quotient_fits (pos x) (pos y) f z h =
    let p : x / y * y ≤ x = div-mul-le_self x y in
    let q : x / y ≤ x / y * y = at_least (x / y) y (omega (arith, ints)) in
    omega (arith, ints)
  where
    at_least : (k l : ℕ) → 0 < l → k ≤ k * l
    at_least k l h = let p : k * 1 ≤ k * l = mul-le-mul_left k h in omega arith
quotient_fits (pos x) (negsuc y) f z h =
    let p : x / suc y * suc y ≤ x = div-mul-le_self x (suc y) in
    omega (arith, ints)
quotient_fits (negsuc x) (pos y) f z h =
    let p : suc x / y * y ≤ suc x = div-mul-le_self (suc x) y in
    omega (arith, ints)
quotient_fits (negsuc x) (negsuc zero) f z h =
    let p : suc x / 1 * 1 ≤ suc x = div-mul-le_self (suc x) 1 in
    elim (cases_lt x (2 ^ 63 - 1)) [
      | inl k ↦ omega (arith, ints)
      | inr k ↦ absurd (h (ap negsuc (greatest k)) refl)
    ]
  where
    greatest : 2 ^ 63 - 1 ≤ x → x ≡ 2 ^ 63 - 1
    greatest k = omega (arith, ints)
quotient_fits (negsuc x) (negsuc (suc y)) f z h =
    let p : suc x / suc (suc y) * suc (suc y) ≤ suc x = div-mul-le_self (suc x) (suc (suc y)) in
    let q : suc x / suc (suc y) * 2 ≤ suc x / suc (suc y) * suc (suc y) = mul-le-mul_left (suc x / suc (suc y)) (omega arith) in
    omega (arith, ints)
