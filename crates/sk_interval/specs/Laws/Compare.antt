-- Comparisons and refinements of intervals are sound and monotone.
use Rattle.std.proofs.Common.{◌≡◌, ◌≢◌, ℤ, pos, ◌+ℤ◌, ◌-ℤ◌, ◌≤ℤ◌, Bool, true, false, not, ◌&&◌, cond, refl, sym, arith}
use Rattle.std.specs.Prelude.{int_lt, int_le}
use Rattle.std.specs.Int.{int_max, int_min}
use Rattle.std.specs.Ordering.{int_eq}
use Rattle.std.proofs.lemmas.Int.{ints, clamps}
use Rattle.std.proofs.lemmas.Bool.{and_parts, and_from, false≢true, both_ways, not-true}
use Rattle.std.proofs.lemmas.Bool.Decides.{Decides-int_eq}
use Rattle.sk_value.specs.declared.arith.Compare.{Compare}
use Rattle.sk_value.specs.declared.arith.Compare.TheVariants.{Lt, Le, Eq}
use Rattle.sk_value.specs.declared.arith.Refine.{Refine}
use Rattle.sk_value.specs.declared.arith.Refine.TheVariants.{Below, AtLeast, Same, Differ}
use Rattle.sk_lattice.specs.Truth.{bool_holds, bool_leq}
use Rattle.sk_value.specs.Numbers.{compares, keeps}
use Rattle.sk_interval.specs.declared.bounds.Bounds.{Bounds}
use Rattle.sk_interval.specs.declared.bounds.Interval.{Interval}
use Rattle.sk_interval.specs.declared.bounds.Interval.TheVariants.{Empty, Range}
use Rattle.sk_interval.specs.Ends.{le_from, le_test, le_not, lt_from, lt_test, lt_not}
use Rattle.sk_interval.specs.Cuts.{cut, interval_holds, interval_is_empty, interval_leq, both, meet_bounds}
use Rattle.sk_interval.specs.Comparisons.{is_single, is_one_number, low_without, high_without, truths, bounds_compare, interval_compare, left_bounds, right_bounds}
use Rattle.sk_interval.specs.Laws.Sets.{Within, range_within, in_range, in_cut, cut_within, leq_by, in_meet}
use Rattle.sk_interval.specs.Laws.Corners.{Ends}
use Rattle.sk_interval.specs.Laws.Arith.{cut_more, ends_of}

pub eq_from : (m n : ℤ) → int_eq m n ≡ true → m ≡ n
eq_from m n h = (Decides-int_eq m n).0 h

pub eq_test : (m n : ℤ) → m ≡ n → int_eq m n ≡ true
eq_test m n h = (Decides-int_eq m n).1 h

pub eq_not : (m n : ℤ) → int_eq m n ≡ false → m ≢ n
eq_not m n h e = both_ways (int_eq m n) h (eq_test m n e)

-- ---- comparisons
truth_holds : (t x y : Bool) → (t ≡ true → x ≡ true) → (t ≡ false → y ≡ true) → bool_holds (truths x y) t ≡ true
truth_holds true x y h k = h refl
truth_holds false x y h k = k refl

truth_leq : (x y x2 y2 : Bool) → (x ≡ true → x2 ≡ true) → (y ≡ true → y2 ≡ true) → bool_leq (truths x y) (truths x2 y2) ≡ true
truth_leq true true x2 y2 h k = and_from x2 y2 (h refl) (k refl)
truth_leq true false x2 y2 h k = and_from x2 true (h refl) refl
truth_leq false true x2 y2 h k = k refl
truth_leq false false x2 y2 h k = refl

-- an interval that holds a number isn't empty
some_number : (a : Interval) (n : ℤ) → interval_holds a n ≡ true → not (interval_is_empty a) ≡ true
some_number Empty n h = h
some_number (Range a) n h = refl

more_numbers : (a b : Interval) → interval_leq a b ≡ true → not (interval_is_empty a) ≡ true → not (interval_is_empty b) ≡ true
more_numbers Empty b h k = absurd (false≢true k)
more_numbers (Range a) Empty h k = h
more_numbers (Range a) (Range b) h k = refl

-- both hold one and the same number alone
record OneNumber (a b : Bounds) : Type 0 where
  pub left : a.low ≡ a.high
  pub right : b.low ≡ b.high
  pub same : a.low ≡ b.low

one_from : (a b : Bounds) → (is_one_number a b) ≡ true → OneNumber a b
one_from a b h =
    let e = and_parts (is_single a) (is_single b && int_eq a.low b.low) h in
    let f = and_parts (is_single b) (int_eq a.low b.low) e.1 in
    record { left = eq_from a.low a.high e.0; right = eq_from b.low b.high f.0; same = eq_from a.low b.low f.1 }

one_test : (a b : Bounds) → OneNumber a b → (is_one_number a b) ≡ true
one_test a b h =
    and_from (is_single a) (is_single b && int_eq a.low b.low) (eq_test a.low a.high h.left)
    (and_from (is_single b) (int_eq a.low b.low) (eq_test b.low b.high h.right) (eq_test a.low b.low h.same))

not_one : (t : Bool) → (t ≡ true → ⊥) → not t ≡ true
not_one true h = absurd (h refl)
not_one false h = refl

meet_more : (a a2 b b2 : Bounds) → Ends a2.low a2.high a.low a.high → Ends b2.low b2.high b.low b.high → interval_leq (meet_bounds a b) (meet_bounds a2 b2) ≡ true
meet_more a a2 b b2 p q =
    cut_more (int_max a.low b.low) (int_min a.high b.high) (int_max a2.low b2.low) (int_min a2.high b2.high) (omega (arith, ints, clamps)) (omega (arith, ints, clamps))

compare_at : (op : Compare) (a b : Bounds) (m n : ℤ) → Within a.low a.high m → Within b.low b.high n → bool_holds (bounds_compare op a b) (compares op m n) ≡ true
compare_at Lt a b m n w v =
    truth_holds (int_lt m n) (int_lt a.low b.high) (int_le b.low a.high)
    (λ e. let h = lt_from m n e in lt_test a.low b.high (omega (arith, ints)))
    (λ e. let h = lt_not m n e in le_test b.low a.high (omega (arith, ints)))
compare_at Le a b m n w v =
    truth_holds (int_le m n) (int_le a.low b.high) (int_lt b.low a.high)
    (λ e. let h = le_from m n e in le_test a.low b.high (omega (arith, ints)))
    (λ e. let h = le_not m n e in lt_test b.low a.high (omega (arith, ints)))
compare_at Eq a b m n w v =
    truth_holds (int_eq m n) (not (interval_is_empty (meet_bounds a b))) (not (is_one_number a b))
    (λ e.
    let h = eq_from m n e in
    some_number (meet_bounds a b) m (in_meet a b m (in_range a m w.above w.below) (in_range b m (omega (arith, ints)) (omega (arith, ints)))))
    (λ e. not_one (is_one_number a b) (λ f. let one = one_from a b f in eq_not m n e (omega (arith, ints))))

compare_more : (op : Compare) (a a2 b b2 : Bounds) → Ends a2.low a2.high a.low a.high → Ends b2.low b2.high b.low b.high → bool_leq (bounds_compare op a b) (bounds_compare op a2 b2) ≡ true
compare_more Lt a a2 b b2 p q =
    truth_leq (int_lt a.low b.high) (int_le b.low a.high) (int_lt a2.low b2.high) (int_le b2.low a2.high)
    (λ e. let h = lt_from a.low b.high e in lt_test a2.low b2.high (omega (arith, ints)))
    (λ e. let h = le_from b.low a.high e in le_test b2.low a2.high (omega (arith, ints)))
compare_more Le a a2 b b2 p q =
    truth_leq (int_le a.low b.high) (int_lt b.low a.high) (int_le a2.low b2.high) (int_lt b2.low a2.high)
    (λ e. let h = le_from a.low b.high e in le_test a2.low b2.high (omega (arith, ints)))
    (λ e. let h = lt_from b.low a.high e in lt_test b2.low a2.high (omega (arith, ints)))
compare_more Eq a a2 b b2 p q =
    truth_leq
    (not (interval_is_empty (meet_bounds a b))) (not (is_one_number a b))
    (not (interval_is_empty (meet_bounds a2 b2))) (not (is_one_number a2 b2))
    (λ e. more_numbers (meet_bounds a b) (meet_bounds a2 b2) (meet_more a a2 b b2 p q) e)
    (λ e.
    not_one (is_one_number a2 b2) (λ f.
    let one = one_from a2 b2 f in
    let less : OneNumber a b = record { left = omega (arith, ints); right = omega (arith, ints); same = omega (arith, ints) } in
    both_ways (is_one_number a b) (not-true (is_one_number a b) e) (one_test a b less)))

pub compare_holds : (op : Compare) (a b : Interval) (m n : ℤ) → interval_holds a m ≡ true → interval_holds b n ≡ true → bool_holds (interval_compare op a b) (compares op m n) ≡ true
compare_holds op Empty b m n h k = absurd (false≢true h)
compare_holds op (Range a) Empty m n h k = absurd (false≢true k)
compare_holds op (Range a) (Range b) m n h k = compare_at op a b m n (range_within a m h) (range_within b n k)

pub compare_leq : (op : Compare) (a a2 b b2 : Interval) → interval_leq a a2 ≡ true → interval_leq b b2 ≡ true → bool_leq (interval_compare op a b) (interval_compare op a2 b2) ≡ true
compare_leq op Empty a2 b b2 h k = refl
compare_leq op (Range a) a2 Empty b2 h k = refl
compare_leq op (Range a) Empty (Range b) b2 h k = absurd (false≢true h)
compare_leq op (Range a) (Range a2) (Range b) Empty h k = absurd (false≢true k)
compare_leq op (Range a) (Range a2) (Range b) (Range b2) h k = compare_more op a a2 b b2 (ends_of a a2 h) (ends_of b b2 k)

-- ---- the ends without a number
low_end : (l k m : ℤ) (t : Bool) → int_eq l k ≡ t → l ≤ℤ m → m ≢ k → cond t (l +ℤ pos 1) l ≤ℤ m
low_end l k m true e h z = let f = eq_from l k e in omega (arith, ints)
low_end l k m false e h z = h

high_end : (l k m : ℤ) (t : Bool) → int_eq l k ≡ t → m ≤ℤ l → m ≢ k → m ≤ℤ cond t (l -ℤ pos 1) l
high_end l k m true e h z = let f = eq_from l k e in omega (arith, ints)
high_end l k m false e h z = h

low_ends : (l l2 k k2 : ℤ) (t t2 : Bool) → int_eq l k ≡ t → int_eq l2 k2 ≡ t2 → l2 ≤ℤ l → k ≡ k2 → cond t2 (l2 +ℤ pos 1) l2 ≤ℤ cond t (l +ℤ pos 1) l
low_ends l l2 k k2 true true e f h s = omega (arith, ints)
low_ends l l2 k k2 true false e f h s = omega (arith, ints)
low_ends l l2 k k2 false true e f h s = let p = eq_not l k e in let q = eq_from l2 k2 f in omega (arith, ints)
low_ends l l2 k k2 false false e f h s = h

high_ends : (l l2 k k2 : ℤ) (t t2 : Bool) → int_eq l k ≡ t → int_eq l2 k2 ≡ t2 → l ≤ℤ l2 → k ≡ k2 → cond t (l -ℤ pos 1) l ≤ℤ cond t2 (l2 -ℤ pos 1) l2
high_ends l l2 k k2 true true e f h s = omega (arith, ints)
high_ends l l2 k k2 true false e f h s = omega (arith, ints)
high_ends l l2 k k2 false true e f h s = let p = eq_not l k e in let q = eq_from l2 k2 f in omega (arith, ints)
high_ends l l2 k k2 false false e f h s = h

low_inside : (l k : ℤ) (t : Bool) → l ≤ℤ cond t (l +ℤ pos 1) l
low_inside l k true = omega (arith, ints)
low_inside l k false = omega (arith, ints)

high_inside : (l k : ℤ) (t : Bool) → cond t (l -ℤ pos 1) l ≤ℤ l
high_inside l k true = omega (arith, ints)
high_inside l k false = omega (arith, ints)

without_if : (a b : Bounds) (m n : ℤ) (t : Bool) → is_single b ≡ t → Within a.low a.high m → Within b.low b.high n → m ≢ n → interval_holds (cond t (cut (low_without a b) (high_without a b)) (Range a)) m ≡ true
without_if a b m n true e w v z =
    let s = eq_from b.low b.high e in
    let other : m ≢ b.low = λ f. z (omega (arith, ints)) in
    in_cut (low_without a b) (high_without a b) m
    (low_end a.low b.low m (int_eq a.low b.low) refl w.above other)
    (high_end a.high b.low m (int_eq a.high b.low) refl w.below other)
    w.fits
without_if a b m n false e w v z = in_range a m w.above w.below

without_ifs : (a a2 b b2 : Bounds) (t t2 : Bool) → is_single b ≡ t → is_single b2 ≡ t2 → Ends a2.low a2.high a.low a.high → Ends b2.low b2.high b.low b.high → interval_leq (cond t (cut (low_without a b) (high_without a b)) (Range a)) (cond t2 (cut (low_without a2 b2) (high_without a2 b2)) (Range a2)) ≡ true
without_ifs a a2 b b2 true true e f p q =
    let s = eq_from b2.low b2.high f in
    let same : b.low ≡ b2.low = omega (arith, ints) in
    cut_more (low_without a b) (high_without a b) (low_without a2 b2) (high_without a2 b2)
    (low_ends a.low a2.low b.low b2.low (int_eq a.low b.low) (int_eq a2.low b2.low) refl refl p.low same)
    (high_ends a.high a2.high b.low b2.low (int_eq a.high b.low) (int_eq a2.high b2.low) refl refl p.high same)
without_ifs a a2 b b2 true false e f p q =
    leq_by (cut (low_without a b) (high_without a b)) (Range a2) (λ n h.
    let w = cut_within (low_without a b) (high_without a b) n h in
    let low = low_inside a.low b.low (int_eq a.low b.low) in
    let high = high_inside a.high b.low (int_eq a.high b.low) in
    in_range a2 n (omega (arith, ints)) (omega (arith, ints)))
without_ifs a a2 b b2 false true e f p q =
    let s = eq_from b2.low b2.high f in
    absurd (eq_not b.low b.high e (omega (arith, ints)))
without_ifs a a2 b b2 false false e f p q = leq_by (Range a) (Range a2) (λ n h. let w = range_within a n h in in_range a2 n (omega (arith, ints)) (omega (arith, ints)))

-- ---- refinements
left_at : (op : Refine) (a b : Bounds) (m n : ℤ) → Within a.low a.high m → Within b.low b.high n → keeps op m n ≡ true → interval_holds (left_bounds op a b) m ≡ true
left_at Below a b m n w v e = let h = lt_from m n e in in_cut a.low (int_min a.high (b.high -ℤ pos 1)) m w.above (omega (arith, ints, clamps)) w.fits
left_at AtLeast a b m n w v e = let h = le_from n m e in in_cut (int_max a.low b.low) a.high m (omega (arith, ints, clamps)) w.below w.fits
left_at Same a b m n w v e = let h = eq_from m n e in in_meet a b m (in_range a m w.above w.below) (in_range b m (omega (arith, ints)) (omega (arith, ints)))
left_at Differ a b m n w v e = without_if a b m n (is_single b) refl w v (eq_not m n (not-true (int_eq m n) e))

right_at : (op : Refine) (a b : Bounds) (m n : ℤ) → Within a.low a.high m → Within b.low b.high n → keeps op m n ≡ true → interval_holds (right_bounds op a b) n ≡ true
right_at Below a b m n w v e = let h = lt_from m n e in in_cut (int_max b.low (a.low +ℤ pos 1)) b.high n (omega (arith, ints, clamps)) v.below v.fits
right_at AtLeast a b m n w v e = let h = le_from n m e in in_cut b.low (int_min b.high a.high) n v.above (omega (arith, ints, clamps)) v.fits
right_at Same a b m n w v e = let h = eq_from m n e in in_meet a b n (in_range a n (omega (arith, ints)) (omega (arith, ints))) (in_range b n v.above v.below)
right_at Differ a b m n w v e = without_if b a n m (is_single a) refl v w (λ f. eq_not m n (not-true (int_eq m n) e) (sym f))

left_more : (op : Refine) (a a2 b b2 : Bounds) → Ends a2.low a2.high a.low a.high → Ends b2.low b2.high b.low b.high → interval_leq (left_bounds op a b) (left_bounds op a2 b2) ≡ true
left_more Below a a2 b b2 p q = cut_more a.low (int_min a.high (b.high -ℤ pos 1)) a2.low (int_min a2.high (b2.high -ℤ pos 1)) p.low (omega (arith, ints, clamps))
left_more AtLeast a a2 b b2 p q = cut_more (int_max a.low b.low) a.high (int_max a2.low b2.low) a2.high (omega (arith, ints, clamps)) p.high
left_more Same a a2 b b2 p q = meet_more a a2 b b2 p q
left_more Differ a a2 b b2 p q = without_ifs a a2 b b2 (is_single b) (is_single b2) refl refl p q

right_more : (op : Refine) (a a2 b b2 : Bounds) → Ends a2.low a2.high a.low a.high → Ends b2.low b2.high b.low b.high → interval_leq (right_bounds op a b) (right_bounds op a2 b2) ≡ true
right_more Below a a2 b b2 p q = cut_more (int_max b.low (a.low +ℤ pos 1)) b.high (int_max b2.low (a2.low +ℤ pos 1)) b2.high (omega (arith, ints, clamps)) q.high
right_more AtLeast a a2 b b2 p q = cut_more b.low (int_min b.high a.high) b2.low (int_min b2.high a2.high) q.low (omega (arith, ints, clamps))
right_more Same a a2 b b2 p q = meet_more a a2 b b2 p q
right_more Differ a a2 b b2 p q = without_ifs b b2 a a2 (is_single a) (is_single a2) refl refl q p

pub refine_left : (op : Refine) (a b : Interval) (m n : ℤ) → interval_holds a m ≡ true → interval_holds b n ≡ true → keeps op m n ≡ true → interval_holds (both (left_bounds op) a b) m ≡ true
refine_left op Empty b m n h k e = absurd (false≢true h)
refine_left op (Range a) Empty m n h k e = absurd (false≢true k)
refine_left op (Range a) (Range b) m n h k e = left_at op a b m n (range_within a m h) (range_within b n k) e

pub refine_right : (op : Refine) (a b : Interval) (m n : ℤ) → interval_holds a m ≡ true → interval_holds b n ≡ true → keeps op m n ≡ true → interval_holds (both (right_bounds op) a b) n ≡ true
refine_right op Empty b m n h k e = absurd (false≢true h)
refine_right op (Range a) Empty m n h k e = absurd (false≢true k)
refine_right op (Range a) (Range b) m n h k e = right_at op a b m n (range_within a m h) (range_within b n k) e

pub refine_left_leq : (op : Refine) (a a2 b b2 : Interval) → interval_leq a a2 ≡ true → interval_leq b b2 ≡ true → interval_leq (both (left_bounds op) a b) (both (left_bounds op) a2 b2) ≡ true
refine_left_leq op Empty a2 b b2 h k = refl
refine_left_leq op (Range a) a2 Empty b2 h k = refl
refine_left_leq op (Range a) Empty (Range b) b2 h k = absurd (false≢true h)
refine_left_leq op (Range a) (Range a2) (Range b) Empty h k = absurd (false≢true k)
refine_left_leq op (Range a) (Range a2) (Range b) (Range b2) h k = left_more op a a2 b b2 (ends_of a a2 h) (ends_of b b2 k)

pub refine_right_leq : (op : Refine) (a a2 b b2 : Interval) → interval_leq a a2 ≡ true → interval_leq b b2 ≡ true → interval_leq (both (right_bounds op) a b) (both (right_bounds op) a2 b2) ≡ true
refine_right_leq op Empty a2 b b2 h k = refl
refine_right_leq op (Range a) a2 Empty b2 h k = refl
refine_right_leq op (Range a) Empty (Range b) b2 h k = absurd (false≢true h)
refine_right_leq op (Range a) (Range a2) (Range b) Empty h k = absurd (false≢true k)
refine_right_leq op (Range a) (Range a2) (Range b) (Range b2) h k = right_more op a a2 b b2 (ends_of a a2 h) (ends_of b b2 k)
