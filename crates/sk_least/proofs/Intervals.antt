-- The operations on intervals are least.
use Rattle.std.proofs.Common.{◌≡◌, ◌≢◌, ℕ, suc, ◌-◌, ◌%◌, ◌<◌, ◌≤◌, ℤ, pos, negsuc, ◌+ℤ◌, ◌-ℤ◌, ◌*ℤ◌, neg_ℤ, ◌≤ℤ◌, Bool, true, false, not, ◌&&◌, cond, inl, inr, refl, sym, ◌∙◌, subst, arith}
use Rattle.std.proofs.Math.Nat.{mod-eq_of_lt}
use Rattle.std.specs.Prelude.{int_lt, int_div, int_rem, unsigned_abs}
use Rattle.std.specs.Int.{int_max, int_min}
use Rattle.std.specs.Ordering.{int_eq}
use Rattle.std.proofs.lemmas.Int.{ints, clamps}
use Rattle.std.proofs.lemmas.Bool.{and_parts, and_from, or_parts, cond_both, cases_lt, false≢true, both_ways, not-true}
use Rattle.std.proofs.lemmas.Bool.Decides.{Decides-int_eq}
use Rattle.sk_value.specs.declared.arith.Arith.{Arith}
use Rattle.sk_value.specs.declared.arith.Arith.TheVariants.{Add, Sub, Mul, Div, Rem, Pick}
use Rattle.sk_value.specs.declared.arith.Compare.{Compare}
use Rattle.sk_value.specs.declared.arith.Compare.TheVariants.{Lt, Le, Eq}
use Rattle.sk_value.specs.declared.arith.Refine.{Refine}
use Rattle.sk_value.specs.declared.arith.Refine.TheVariants.{Below, AtLeast, Same, Differ}
use Rattle.sk_value.specs.Numbers.{IsNumber}
use Rattle.sk_lattice.specs.declared.truth.AbsBool.{AbsBool}
use Rattle.sk_lattice.specs.Truth.{bool_holds, bool_leq}
use Rattle.sk_lattice.specs.Thresholds.{LEAST}
use Rattle.sk_lattice.proofs.Parts.{bool_leq_by}
use Rattle.sk_interval.specs.declared.bounds.Bounds.{Bounds}
use Rattle.sk_interval.specs.declared.bounds.Interval.{Interval}
use Rattle.sk_interval.specs.declared.bounds.Interval.TheVariants.{Empty, Range}
use Rattle.sk_interval.specs.Ends.{le_from, le_test, le_false, lt_from, lt_test, lt_not, lt_false}
use Rattle.sk_interval.specs.Cuts.{cut, interval_holds, interval_is_empty, interval_leq, meet_bounds}
use Rattle.sk_interval.specs.Arithmetic.{corners, reach, is_zero, remainder_low, remainder_high, remainder, quotients, divide, no_pick, pick, bounds_arith, interval_neg}
use Rattle.sk_interval.specs.Comparisons.{is_single, is_one_number, bounds_compare, low_without, high_without, without, left_bounds, right_bounds, interval_compare}
use Rattle.sk_interval.specs.Laws.Sets.{leq_by, range_within, cut_within, holds_number, meet_within}
use Rattle.sk_interval.specs.Intervals.{interval_domain}
use Rattle.sk_least.specs.Domains.{Held, HoldsResults, HoldsNegations, HasAnswers, HoldsFirsts, HoldsSeconds, products_fit, quotients_fit, intervals_least_on, IntervalsAreLeast}
use Rattle.sk_least.proofs.Ends.{number_from, held_in, cut_below, of_corners, OfEnds, spans_below, of_quotients, quotient_fits}

abbrev Holds : Interval → ℤ → Type 0
Holds a n = Held interval_domain a n

at_start : (a : Bounds) → Holds (Range a) a.low
at_start a = held_in a a.low (omega (arith, ints)) a.ordered

at_end : (a : Bounds) → Holds (Range a) a.high
at_end a = held_in a a.high a.ordered (omega (arith, ints))

eq_from : (m n : ℤ) → int_eq m n ≡ true → m ≡ n
eq_from m n h = (Decides-int_eq m n).0 h

eq_test : (m n : ℤ) → m ≡ n → int_eq m n ≡ true
eq_test m n h = (Decides-int_eq m n).1 h

eq_not : (m n : ℤ) → int_eq m n ≡ false → m ≢ n
eq_not m n h e = both_ways (int_eq m n) h (eq_test m n e)

differ_test : (m n : ℤ) → m ≢ n → int_eq m n ≡ false
differ_test m n h = by_value (int_eq m n) refl
  where
    by_value : (t : Bool) → int_eq m n ≡ t → t ≡ false
    by_value true e = absurd (h (eq_from m n e))
    by_value false e = refl

-- nothing lies below where there is no result
unless_below : (t : Bool) (x c : Interval) → (t ≡ false → interval_leq x c ≡ true) → interval_leq (cond t Empty x) c ≡ true
unless_below t x c h = cond_both t Empty x (λ y. interval_leq y c ≡ true) (λ _. refl) h

filled : (a : Interval) → interval_is_empty a ≡ false → (n : ℤ) × Holds a n
filled Empty h = absurd (false≢true (sym h))
filled (Range a) h = (a.low, at_start a)

-- ---- sums, differences, products and picks
sum_below : (a b : Bounds) (c : Interval) → ((m n : ℤ) → Holds (Range a) m → Holds (Range b) n → IsNumber (m +ℤ n) → interval_holds c (m +ℤ n) ≡ true) → interval_leq (bounds_arith Add a b) c ≡ true
sum_below a b c step = leq_by (cut (a.low +ℤ b.low) (a.high +ℤ b.high)) c (λ r e.
    let w = cut_within (a.low +ℤ b.low) (a.high +ℤ b.high) r e in
    of_parts r (int_max a.low (r -ℤ b.high)) w.fits w.above w.below refl)
  where
    of_parts : (r m : ℤ) → IsNumber r → (a.low +ℤ b.low) ≤ℤ r → r ≤ℤ (a.high +ℤ b.high) → m ≡ int_max a.low (r -ℤ b.high) → interval_holds c r ≡ true
    of_parts r m f p q e =
        let o = a.ordered in
        let u = b.ordered in
        let s : (m +ℤ (r -ℤ m)) ≡ r = omega (arith, ints) in
        subst (λ k. interval_holds c k ≡ true) s
        (step m (r -ℤ m) (held_in a m (omega (arith, ints, clamps)) (omega (arith, ints, clamps))) (held_in b (r -ℤ m) (omega (arith, ints, clamps)) (omega (arith, ints, clamps))) (subst IsNumber (sym s) f))

difference_below : (a b : Bounds) (c : Interval) → ((m n : ℤ) → Holds (Range a) m → Holds (Range b) n → IsNumber (m -ℤ n) → interval_holds c (m -ℤ n) ≡ true) → interval_leq (bounds_arith Sub a b) c ≡ true
difference_below a b c step = leq_by (cut (a.low -ℤ b.high) (a.high -ℤ b.low)) c (λ r e.
    let w = cut_within (a.low -ℤ b.high) (a.high -ℤ b.low) r e in
    of_parts r (int_max a.low (r +ℤ b.low)) w.fits w.above w.below refl)
  where
    of_parts : (r m : ℤ) → IsNumber r → (a.low -ℤ b.high) ≤ℤ r → r ≤ℤ (a.high -ℤ b.low) → m ≡ int_max a.low (r +ℤ b.low) → interval_holds c r ≡ true
    of_parts r m f p q e =
        let o = a.ordered in
        let u = b.ordered in
        let s : (m -ℤ (m -ℤ r)) ≡ r = omega (arith, ints) in
        subst (λ k. interval_holds c k ≡ true) s
        (step m (m -ℤ r) (held_in a m (omega (arith, ints, clamps)) (omega (arith, ints, clamps))) (held_in b (m -ℤ r) (omega (arith, ints, clamps)) (omega (arith, ints, clamps))) (subst IsNumber (sym s) f))

product_below : (a b : Bounds) (c : Interval) → products_fit (Range a) (Range b) ≡ true → ((m n : ℤ) → Holds (Range a) m → Holds (Range b) n → IsNumber (m *ℤ n) → interval_holds c (m *ℤ n) ≡ true) → interval_leq (bounds_arith Mul a b) c ≡ true
product_below a b c fit step =
    let low = and_parts _ _ (and_parts _ _ fit).0 in
    let high = and_parts _ _ (and_parts _ _ fit).1 in
    let ends = of_corners (λ n. interval_holds c n ≡ true) (λ m n. m *ℤ n) a.low a.high b.low b.high
    (step a.low b.low (at_start a) (at_start b) (number_from _ low.0)) (step a.low b.high (at_start a) (at_end b) (number_from _ low.1))
    (step a.high b.low (at_end a) (at_start b) (number_from _ high.0)) (step a.high b.high (at_end a) (at_end b) (number_from _ high.1)) in
    cut_below _ _ c (λ _. ends.low) (λ _. ends.high)

pick_below : (a b : Bounds) (c : Interval) → ((m n r : ℤ) → Holds (Range a) m → Holds (Range b) n → m ≤ℤ r → r ≤ℤ n → (n -ℤ m) ≤ℤ pos 63 → IsNumber r → interval_holds c r ≡ true) → interval_leq (pick a b) c ≡ true
pick_below a b c step = unless_below (no_pick a b) (cut (int_max a.low (b.low -ℤ pos 63)) (int_min b.high (a.high +ℤ pos 63))) c (λ e.
    let parts = or_parts (int_lt b.high a.low) (int_lt (a.high +ℤ pos 63) b.low) e in
    let p = lt_not b.high a.low parts.0 in
    let q = lt_not (a.high +ℤ pos 63) b.low parts.1 in
    leq_by (cut (int_max a.low (b.low -ℤ pos 63)) (int_min b.high (a.high +ℤ pos 63))) c (λ r e.
    let w = cut_within (int_max a.low (b.low -ℤ pos 63)) (int_min b.high (a.high +ℤ pos 63)) r e in
    of_parts r (int_min a.high r) (int_max b.low r) p q w.above w.below w.fits refl refl))
  where
    of_parts : (r m n : ℤ) → a.low ≤ℤ b.high → b.low ≤ℤ (a.high +ℤ pos 63) → int_max a.low (b.low -ℤ pos 63) ≤ℤ r → r ≤ℤ int_min b.high (a.high +ℤ pos 63) → IsNumber r → m ≡ int_min a.high r → n ≡ int_max b.low r → interval_holds c r ≡ true
    of_parts r m n p q h k f e g =
        let o = a.ordered in
        let u = b.ordered in
        step m n r (held_in a m (omega (arith, ints, clamps)) (omega (arith, ints, clamps))) (held_in b n (omega (arith, ints, clamps)) (omega (arith, ints, clamps)))
        (omega (arith, ints, clamps)) (omega (arith, ints, clamps)) (omega (arith, ints, clamps)) f

-- ---- quotients
quotient_below : (a b : Bounds) (c : Interval) → quotients_fit (Range a) (Range b) ≡ true → ((m n : ℤ) → Holds (Range a) m → Holds (Range b) n → n ≢ pos 0 → IsNumber (int_div m n) → interval_holds c (int_div m n) ≡ true) → interval_leq (divide a b) c ≡ true
quotient_below a b c fit step =
    spans_below (quotients a b.low (int_min b.high (negsuc 0))) (quotients a (int_max b.low (pos 1)) b.high) c
    (of_quotients (λ n. interval_holds c n ≡ true) a b.low (int_min b.high (negsuc 0)) (λ o.
    at_ends b.low (int_min b.high (negsuc 0)) (at_start b) (held_in b (int_min b.high (negsuc 0)) o (omega (arith, ints, clamps))) (λ e. omega (arith, ints, clamps)) (λ e. omega (arith, ints, clamps))))
    (of_quotients (λ n. interval_holds c n ≡ true) a (int_max b.low (pos 1)) b.high (λ o.
    at_ends (int_max b.low (pos 1)) b.high (held_in b (int_max b.low (pos 1)) (omega (arith, ints, clamps)) o) (at_end b) (λ e. omega (arith, ints, clamps)) (λ e. omega (arith, ints, clamps))))
  where
    at : (m n : ℤ) → Holds (Range a) m → Holds (Range b) n → n ≢ pos 0 → interval_holds c (int_div m n) ≡ true
    at m n h k z = step m n h k z (quotient_fits m n h.fits z (λ e f.
        both_ways (interval_holds (Range a) LEAST && interval_holds (Range b) (negsuc 0)) (not-true _ fit)
        (and_from _ _ (subst (λ x. interval_holds (Range a) x ≡ true) e h.held) (subst (λ x. interval_holds (Range b) x ≡ true) f k.held))))

    at_ends : (low high : ℤ) → Holds (Range b) low → Holds (Range b) high → low ≢ pos 0 → high ≢ pos 0 → OfEnds (λ n. interval_holds c n ≡ true) (corners int_div a.low a.high low high)
    at_ends low high h k y z =
        of_corners (λ n. interval_holds c n ≡ true) int_div a.low a.high low high
        (at a.low low (at_start a) h y) (at a.low high (at_start a) k z) (at a.high low (at_end a) h y) (at a.high high (at_end a) k z)

-- ---- remainders
-- a divisor as far from zero as any
record Farthest (b : Bounds) : Type 0 where
  number : ℤ
  held : Holds (Range b) number
  far : unsigned_abs number ≡ reach b
  nonzero : number ≢ pos 0

farthest : (b : Bounds) → is_zero b ≡ false → Farthest b
farthest b z =
    elim (cases_lt (unsigned_abs b.low) (unsigned_abs b.high)) [
      | inl h ↦ record { number = b.high; held = at_end b; far = omega (arith, ints); nonzero = λ e. omega (arith, ints) }
      | inr h ↦ record { number = b.low; held = at_start b; far = omega (arith, ints); nonzero = λ e. both_ways (is_zero b) z (and_from _ _ (eq_test b.low (pos 0) e) (eq_test b.high (pos 0) (omega (arith, ints)))) }
    ]

-- the remainder of a number nearer to zero than the divisor
small : (m n : ℤ) → unsigned_abs m < unsigned_abs n → int_rem m n ≡ m
small (pos x) n h = let e : x % unsigned_abs n ≡ x = mod-eq_of_lt h in omega (arith, ints)
small (negsuc x) n h = let e : suc x % unsigned_abs n ≡ suc x = mod-eq_of_lt h in omega (arith, ints)

remainder_below : (a b : Bounds) (c : Interval) → interval_holds (Range a) (pos 0) ≡ true → ((m n : ℤ) → Holds (Range a) m → Holds (Range b) n → n ≢ pos 0 → IsNumber (int_rem m n) → interval_holds c (int_rem m n) ≡ true) → interval_leq (remainder a b) c ≡ true
remainder_below a b c zero step = unless_below (is_zero b) (cut (remainder_low a b) (remainder_high a b)) c (λ z.
    let k = farthest b z in
    let v = range_within a (pos 0) zero in
    let some : 0 < reach b = far_from k in
    cut_below (remainder_low a b) (remainder_high a b) c
    (λ _. cond_both (int_lt a.low (pos 0)) (int_max a.low (neg_ℤ (pos (reach b - 1)))) (pos 0) (λ n. interval_holds c n ≡ true)
    (λ e. let l = lt_from a.low (pos 0) e in near k (int_max a.low (neg_ℤ (pos (reach b - 1)))) (omega (arith, ints, clamps)) (omega (arith, ints, clamps)) (low_near a.low (reach b) (omega (arith, ints)) some))
    (λ _. near k (pos 0) v.above v.below some))
    (λ _. cond_both (int_lt (pos 0) a.high) (int_min a.high (pos (reach b - 1))) (pos 0) (λ n. interval_holds c n ≡ true)
    (λ e. let l = lt_from (pos 0) a.high e in near k (int_min a.high (pos (reach b - 1))) (omega (arith, ints, clamps)) (omega (arith, ints, clamps)) (high_near a.high (reach b) (omega (arith, ints)) some))
    (λ _. near k (pos 0) v.above v.below some)))
  where
    far_from : Farthest b → 0 < reach b
    far_from k =
        let e = k.far in
        let z = k.nonzero in
        elim (cases_lt 0 (reach b)) [ inl h ↦ h | inr h ↦ absurd (z (none k.number (unsigned_abs k.number) (reach b) refl e h)) ]
      where
        none : (n : ℤ) (l m : ℕ) → l ≡ unsigned_abs n → l ≡ m → m ≤ 0 → n ≡ pos 0
        none n l m e f h = omega (arith, ints)

    near : Farthest b → (m : ℤ) → a.low ≤ℤ m → m ≤ℤ a.high → unsigned_abs m < reach b → interval_holds c m ≡ true
    near k m p q h =
        let held = held_in a m p q in
        let s : int_rem m k.number ≡ m = small m k.number (subst (λ l. unsigned_abs m < l) (sym k.far) h) in
        subst (λ r. interval_holds c r ≡ true) s (step m k.number held k.held k.nonzero (subst IsNumber (sym s) held.fits))

    low_near : (l : ℤ) (r : ℕ) → l ≤ℤ pos 0 → 0 < r → unsigned_abs (int_max l (neg_ℤ (pos (r - 1)))) < r
    low_near l r h k = omega (arith, ints, clamps)

    high_near : (l : ℤ) (r : ℕ) → pos 0 ≤ℤ l → 0 < r → unsigned_abs (int_min l (pos (r - 1))) < r
    high_near l r h k = omega (arith, ints, clamps)

arith_at : (op : Arith) (a b : Bounds) (c : Interval) → intervals_least_on op (Range a) (Range b) ≡ true → HoldsResults interval_domain op (Range a) (Range b) c → interval_leq (bounds_arith op a b) c ≡ true
arith_at Add a b c on step = sum_below a b c (λ m n h k. step m n (m +ℤ n) h k refl)
arith_at Sub a b c on step = difference_below a b c (λ m n h k. step m n (m -ℤ n) h k refl)
arith_at Mul a b c on step = product_below a b c on (λ m n h k. step m n (m *ℤ n) h k refl)
arith_at Div a b c on step = quotient_below a b c on (λ m n h k z. step m n (int_div m n) h k (z, refl))
arith_at Rem a b c on step = remainder_below a b c on (λ m n h k z. step m n (int_rem m n) h k (z, refl))
arith_at Pick a b c on step = pick_below a b c (λ m n r h k p q l. step m n r h k (p, q, l))

pub arith_below : (op : Arith) (a b c : Interval) → intervals_least_on op a b ≡ true → HoldsResults interval_domain op a b c → interval_leq (interval_domain.arith op a b) c ≡ true
arith_below op Empty b c on step = refl
arith_below op (Range a) Empty c on step = refl
arith_below op (Range a) (Range b) c on step = arith_at op a b c on step

neg_below : (a c : Interval) → HoldsNegations interval_domain a c → interval_leq (interval_neg a) c ≡ true
neg_below Empty c step = refl
neg_below (Range a) c step = leq_by (cut (neg_ℤ a.high) (neg_ℤ a.low)) c (λ r e.
    let w = cut_within (neg_ℤ a.high) (neg_ℤ a.low) r e in
    let s : neg_ℤ (neg_ℤ r) ≡ r = omega (arith, ints) in
    subst (λ k. interval_holds c k ≡ true) s (step (neg_ℤ r) (held_in a (neg_ℤ r) (omega (arith, ints)) (omega (arith, ints))) (subst IsNumber (sym s) w.fits)))

-- ---- comparisons
-- two numbers of bounds that don't both hold one and the same number alone
record Apart (a b : Bounds) : Type 0 where
  left : ℤ
  right : ℤ
  in_left : Holds (Range a) left
  in_right : Holds (Range b) right
  apart : left ≢ right

apart_by : (a b : Bounds) (s t u : Bool) → int_eq a.low a.high ≡ s → int_eq b.low b.high ≡ t → int_eq a.low b.low ≡ u → (s && (t && u)) ≡ false → Apart a b
apart_by a b s t false e f g h = record { left = a.low; right = b.low; in_left = at_start a; in_right = at_start b; apart = eq_not a.low b.low g }
apart_by a b false t true e f g h =
    record { left = a.high; right = b.low; in_left = at_end a; in_right = at_start b; apart = λ k. eq_not a.low a.high e (eq_from a.low b.low g ∙ sym k) }
apart_by a b true false true e f g h =
    record { left = a.low; right = b.high; in_left = at_start a; in_right = at_end b; apart = λ k. eq_not b.low b.high f (sym (eq_from a.low b.low g) ∙ k) }
apart_by a b true true true e f g h = absurd (false≢true (sym h))

compare_at : (op : Compare) (a b : Bounds) (c : AbsBool) → HasAnswers interval_domain op (Range a) (Range b) c → (t : Bool) → bool_holds (bounds_compare op a b) t ≡ true → bool_holds c t ≡ true
compare_at Lt a b c step true h = subst (λ t. bool_holds c t ≡ true) h (step a.low b.high (at_start a) (at_end b))
compare_at Lt a b c step false h = subst (λ t. bool_holds c t ≡ true) (lt_false a.high b.low (le_from b.low a.high h)) (step a.high b.low (at_end a) (at_start b))
compare_at Le a b c step true h = subst (λ t. bool_holds c t ≡ true) h (step a.low b.high (at_start a) (at_end b))
compare_at Le a b c step false h = subst (λ t. bool_holds c t ≡ true) (le_false a.high b.low (lt_from b.low a.high h)) (step a.high b.low (at_end a) (at_start b))
compare_at Eq a b c step true h =
    let w = filled (meet_bounds a b) (not-true (interval_is_empty (meet_bounds a b)) h) in
    let m = meet_within a b w.0 w.1.held in
    subst (λ t. bool_holds c t ≡ true) (eq_test w.0 w.0 refl) (step w.0 w.0 (record { fits = w.1.fits; held = m.0 }) (record { fits = w.1.fits; held = m.1 }))
compare_at Eq a b c step false h =
    let w = apart_by a b (int_eq a.low a.high) (int_eq b.low b.high) (int_eq a.low b.low) refl refl refl (not-true (is_one_number a b) h) in
    subst (λ t. bool_holds c t ≡ true) (differ_test w.left w.right w.apart) (step w.left w.right w.in_left w.in_right)

compare_below : (op : Compare) (a b : Interval) (c : AbsBool) → HasAnswers interval_domain op a b c → bool_leq (interval_compare op a b) c ≡ true
compare_below op Empty b c step = refl
compare_below op (Range a) Empty c step = refl
compare_below op (Range a) (Range b) c step = bool_leq_by (bounds_compare op a b) c (compare_at op a b c step)

-- ---- refinements
-- what is left of the first without the second's single number
without_below : (a b : Bounds) (c : Interval) → ((m n : ℤ) → Holds (Range a) m → Holds (Range b) n → m ≢ n → interval_holds c m ≡ true) → interval_leq (without a b) c ≡ true
without_below a b c step =
    cond_both (is_single b) (cut (low_without a b) (high_without a b)) (Range a) (λ x. interval_leq x c ≡ true)
    (λ e.
    cut_below (low_without a b) (high_without a b) c
    (λ o. let w = low_in (int_eq a.low b.low) (int_eq a.high b.low) refl refl o in step (low_without a b) b.low (held_in a (low_without a b) w.0 w.1) (at_start b) w.2)
    (λ o. let w = high_in (int_eq a.low b.low) (int_eq a.high b.low) refl refl o in step (high_without a b) b.low (held_in a (high_without a b) w.0 w.1) (at_start b) w.2))
    (λ e. leq_by (Range a) c (λ n h. other n (range_within a n h).above (range_within a n h).below (eq_not b.low b.high e)))
  where
    low_in : (t u : Bool) → int_eq a.low b.low ≡ t → int_eq a.high b.low ≡ u → cond t (a.low +ℤ pos 1) a.low ≤ℤ cond u (a.high -ℤ pos 1) a.high → (a.low ≤ℤ cond t (a.low +ℤ pos 1) a.low) × (cond t (a.low +ℤ pos 1) a.low ≤ℤ a.high) × (cond t (a.low +ℤ pos 1) a.low ≢ b.low)
    low_in true true e f o = let p = eq_from a.low b.low e in (omega (arith, ints), omega (arith, ints), λ k. omega (arith, ints))
    low_in true false e f o = let p = eq_from a.low b.low e in (omega (arith, ints), omega (arith, ints), λ k. omega (arith, ints))
    low_in false true e f o = let p = eq_not a.low b.low e in (omega (arith, ints), omega (arith, ints), p)
    low_in false false e f o = let p = eq_not a.low b.low e in (omega (arith, ints), omega (arith, ints), p)

    high_in : (t u : Bool) → int_eq a.low b.low ≡ t → int_eq a.high b.low ≡ u → cond t (a.low +ℤ pos 1) a.low ≤ℤ cond u (a.high -ℤ pos 1) a.high → (a.low ≤ℤ cond u (a.high -ℤ pos 1) a.high) × (cond u (a.high -ℤ pos 1) a.high ≤ℤ a.high) × (cond u (a.high -ℤ pos 1) a.high ≢ b.low)
    high_in true true e f o = let p = eq_from a.high b.low f in (omega (arith, ints), omega (arith, ints), λ k. omega (arith, ints))
    high_in false true e f o = let p = eq_from a.high b.low f in (omega (arith, ints), omega (arith, ints), λ k. omega (arith, ints))
    high_in true false e f o = let p = eq_not a.high b.low f in (omega (arith, ints), omega (arith, ints), p)
    high_in false false e f o = let p = eq_not a.high b.low f in (omega (arith, ints), omega (arith, ints), p)

    other : (n : ℤ) → a.low ≤ℤ n → n ≤ℤ a.high → b.low ≢ b.high → interval_holds c n ≡ true
    other n p q z = by_end (int_eq n b.low) refl
      where
        by_end : (t : Bool) → int_eq n b.low ≡ t → interval_holds c n ≡ true
        by_end true e = step n b.high (held_in a n p q) (at_end b) (λ k. z (sym (eq_from n b.low e) ∙ k))
        by_end false e = step n b.low (held_in a n p q) (at_start b) (eq_not n b.low e)

left_at : (op : Refine) (a b : Bounds) (c : Interval) → HoldsFirsts interval_domain op (Range a) (Range b) c → interval_leq (left_bounds op a b) c ≡ true
left_at Below a b c step = leq_by (cut a.low (int_min a.high (b.high -ℤ pos 1))) c (λ m e.
    let w = cut_within a.low (int_min a.high (b.high -ℤ pos 1)) m e in
    step m b.high (held_in a m w.above (omega (arith, ints, clamps))) (at_end b) (lt_test m b.high (omega (arith, ints, clamps))))
left_at AtLeast a b c step = leq_by (cut (int_max a.low b.low) a.high) c (λ m e.
    let w = cut_within (int_max a.low b.low) a.high m e in
    step m b.low (held_in a m (omega (arith, ints, clamps)) w.below) (at_start b) (le_test b.low m (omega (arith, ints, clamps))))
left_at Same a b c step = leq_by (meet_bounds a b) c (λ m e.
    let w = meet_within a b m e in
    let f = holds_number (Range a) m w.0 in
    step m m (record { fits = f; held = w.0 }) (record { fits = f; held = w.1 }) (eq_test m m refl))
left_at Differ a b c step = without_below a b c (λ m n h k z. step m n h k (rw (differ_test m n z) refl))

right_at : (op : Refine) (a b : Bounds) (c : Interval) → HoldsSeconds interval_domain op (Range a) (Range b) c → interval_leq (right_bounds op a b) c ≡ true
right_at Below a b c step = leq_by (cut (int_max b.low (a.low +ℤ pos 1)) b.high) c (λ n e.
    let w = cut_within (int_max b.low (a.low +ℤ pos 1)) b.high n e in
    step a.low n (at_start a) (held_in b n (omega (arith, ints, clamps)) w.below) (lt_test a.low n (omega (arith, ints, clamps))))
right_at AtLeast a b c step = leq_by (cut b.low (int_min b.high a.high)) c (λ n e.
    let w = cut_within b.low (int_min b.high a.high) n e in
    step a.high n (at_end a) (held_in b n w.above (omega (arith, ints, clamps))) (le_test n a.high (omega (arith, ints, clamps))))
right_at Same a b c step = leq_by (meet_bounds a b) c (λ m e.
    let w = meet_within a b m e in
    let f = holds_number (Range a) m w.0 in
    step m m (record { fits = f; held = w.0 }) (record { fits = f; held = w.1 }) (eq_test m m refl))
right_at Differ a b c step = without_below b a c (λ n m k h z. step m n h k (rw (differ_test m n (λ e. z (sym e))) refl))

left_below : (op : Refine) (a b c : Interval) → HoldsFirsts interval_domain op a b c → interval_leq (interval_domain.refine op a b).0 c ≡ true
left_below op Empty b c step = refl
left_below op (Range a) Empty c step = refl
left_below op (Range a) (Range b) c step = left_at op a b c step

right_below : (op : Refine) (a b c : Interval) → HoldsSeconds interval_domain op a b c → interval_leq (interval_domain.refine op a b).1 c ≡ true
right_below op Empty b c step = refl
right_below op (Range a) Empty c step = refl
right_below op (Range a) (Range b) c step = right_at op a b c step

pub intervals_least : IntervalsAreLeast
intervals_least = record {
  filled = filled;
  inclusion = λ a c h. leq_by a c (λ n e. h n (record { fits = holds_number a n e; held = e }));
  of = λ n c f h. cut_below n n c (λ _. h) (λ _. h);
  zero_alone = λ n h. let w = cut_within (pos 0) (pos 0) n h in omega (arith, ints);
  arith = arith_below;
  neg = neg_below;
  compare = compare_below;
  refine_left = left_below;
  refine_right = right_below;
}
