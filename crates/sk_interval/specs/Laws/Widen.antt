-- Widening at thresholds.
use Rattle.std.proofs.Common.{◌≡◌, ◌≢◌, ℕ, ◌+◌, ◌-◌, ◌<◌, ◌≤◌, ℤ, ◌≤ℤ◌, ◌<ℤ◌, Bool, true, false, cond, List, [], ◌∷◌, length, refl, ap, ◌∙◌, inl, inr, arith}
use Rattle.std.specs.Prelude.{int_lt, int_le}
use Rattle.std.specs.Int.{int_max, int_min}
use Rattle.std.specs.List.{count_by}
use Rattle.std.proofs.lemmas.Int.{ints, clamps}
use Rattle.std.proofs.lemmas.List.Sums.{count_by-le-length}
use Rattle.std.proofs.lemmas.Bool.{false≢true, false_from_ne_true}
use Rattle.sk_lattice.specs.Thresholds.{IsThresholds}
use Rattle.sk_lattice.specs.DomainLaws.{WidenLaws}
use Rattle.sk_interval.specs.declared.bounds.Bounds.{Bounds}
use Rattle.sk_interval.specs.declared.bounds.Interval.{Interval}
use Rattle.sk_interval.specs.declared.bounds.Interval.TheVariants.{Empty, Range}
use Rattle.sk_lattice.specs.Thresholds.{LEAST, GREATEST}
use Rattle.sk_interval.specs.Ends.{le_from, le_test, le_not, lt_from, lt_test, is_number}
use Rattle.sk_interval.specs.Cuts.{cut, interval_leq, hull}
use Rattle.sk_interval.specs.Widening.{floor_mark, ceiling_mark, widen_low, widen_high, interval_widen, interval_rank}
use Rattle.sk_interval.specs.Intervals.{interval_domain}
use Rattle.sk_interval.specs.Laws.Marks.{In, in_at, in_same, floor_below, floor_least, floor_in, ceiling_above, ceiling_greatest, ceiling_in, count_above}
use Rattle.sk_interval.specs.Laws.Sets.{bounds, range_within, in_cut, leq_by, leq_from, cut_is, cut_bounds}

-- ---- the ends of a widening
-- a low end that is a number at most two others
record LowEnd (l x y : ℤ) : Type 0 where
  pub least : LEAST ≤ℤ l
  pub left : l ≤ℤ x
  pub right : l ≤ℤ y

low_if : (x y r : ℤ) (t : Bool) → int_le x y ≡ t → LEAST ≤ℤ x → LEAST ≤ℤ r → r ≤ℤ y → LowEnd (cond t x r) x y
low_if x y r true e h k l = let f = le_from x y e in record { least = h; left = omega (arith, ints); right = f }
low_if x y r false e h k l = let f = le_not x y e in record { least = k; left = omega (arith, ints); right = l }

low_is : (a b : Bounds) (marks : List ℤ) → LowEnd (widen_low a b marks) a.low b.low
low_is a b marks =
    let p = a.low_fits in
    let q = b.low_fits in
    low_if a.low b.low (floor_mark marks b.low) (int_le a.low b.low) refl (omega (arith, ints)) (floor_least marks b.low) (floor_below marks b.low (omega (arith, ints)))

record HighEnd (h x y : ℤ) : Type 0 where
  pub greatest : h ≤ℤ GREATEST
  pub left : x ≤ℤ h
  pub right : y ≤ℤ h

high_if : (x y r : ℤ) (t : Bool) → int_le y x ≡ t → x ≤ℤ GREATEST → r ≤ℤ GREATEST → y ≤ℤ r → HighEnd (cond t x r) x y
high_if x y r true e h k l = let f = le_from y x e in record { greatest = h; left = omega (arith, ints); right = f }
high_if x y r false e h k l = let f = le_not y x e in record { greatest = k; left = omega (arith, ints); right = l }

high_is : (a b : Bounds) (marks : List ℤ) → HighEnd (widen_high a b marks) a.high b.high
high_is a b marks =
    let p = a.high_fits in
    let q = b.high_fits in
    high_if a.high b.high (ceiling_mark marks b.high) (int_le b.high a.high) refl (omega (arith, ints)) (ceiling_greatest marks b.high) (ceiling_above marks b.high (omega (arith, ints)))

widen_left : (a b : Interval) (marks : List ℤ) → interval_leq a (interval_widen a b marks) ≡ true
widen_left Empty b marks = refl
widen_left (Range a) Empty marks = leq_by (Range a) (Range a) (λ n h. h)
widen_left (Range a) (Range b) marks =
    let p = low_is a b marks in
    let q = high_is a b marks in
    leq_by (Range a) (cut (widen_low a b marks) (widen_high a b marks)) (λ n h.
    let w = range_within a n h in
    in_cut (widen_low a b marks) (widen_high a b marks) n (below_all _ _ _ p.left w.above) (below_all _ _ _ w.below q.left) w.fits)
  where
    below_all : (x y z : ℤ) → x ≤ℤ y → y ≤ℤ z → x ≤ℤ z
    below_all x y z h k = omega (arith, ints)

widen_right : (a b : Interval) (marks : List ℤ) → interval_leq b (interval_widen a b marks) ≡ true
widen_right Empty b marks = leq_by b b (λ n h. h)
widen_right (Range a) Empty marks = refl
widen_right (Range a) (Range b) marks =
    let p = low_is a b marks in
    let q = high_is a b marks in
    leq_by (Range b) (cut (widen_low a b marks) (widen_high a b marks)) (λ n h.
    let w = range_within b n h in
    in_cut (widen_low a b marks) (widen_high a b marks) n (below_all _ _ _ p.right w.above) (below_all _ _ _ w.below q.right) w.fits)
  where
    below_all : (x y z : ℤ) → x ≤ℤ y → y ≤ℤ z → x ≤ℤ z
    below_all x y z h k = omega (arith, ints)

-- ---- what the first holds adds nothing
same_low : (x y z : ℤ) (f : ℤ → ℤ) (t : Bool) → int_le x y ≡ t → x ≤ℤ z → cond (int_le x (int_min y z)) x (f (int_min y z)) ≡ cond t x (f y)
same_low x y z f true e h = let g = le_from x y e in rw (le_test x (int_min y z) (omega (arith, ints, clamps))) refl
same_low x y z f false e h =
    let g = le_not x y e in
    let same : int_min y z ≡ y = omega (arith, ints, clamps) in
    rw (same, e) refl

same_high : (x y z : ℤ) (f : ℤ → ℤ) (t : Bool) → int_le y x ≡ t → z ≤ℤ x → cond (int_le (int_max y z) x) x (f (int_max y z)) ≡ cond t x (f y)
same_high x y z f true e h = let g = le_from y x e in rw (le_test (int_max y z) x (omega (arith, ints, clamps))) refl
same_high x y z f false e h =
    let g = le_not y x e in
    let same : int_max y z ≡ y = omega (arith, ints, clamps) in
    rw (same, e) refl

-- the hull of two bounds
hull_ends : Bounds → Bounds → Bounds
hull_ends b c =
    let p = b.low_fits in
    let q = c.low_fits in
    let r = b.high_fits in
    let s = c.high_fits in
    let t = b.ordered in
    let u = c.ordered in
    bounds (int_min b.low c.low) (int_max b.high c.high) (omega (arith, ints, clamps)) (omega (arith, ints, clamps)) (omega (arith, ints, clamps))

hull_is : (b c : Bounds) → Range (hull_ends b c) ≡ hull (Range b) (Range c)
unfolding hull_ends
hull_is b c =
    let p = b.low_fits in
    let q = c.low_fits in
    let r = b.high_fits in
    let s = c.high_fits in
    cut_is (int_min b.low c.low) (int_max b.high c.high) (hull_ends b c) (omega (arith, ints, clamps)) (omega (arith, ints, clamps))

hull_low : (b c : Bounds) → (hull_ends b c).low ≡ int_min b.low c.low
unfolding hull_ends
hull_low b c = refl

hull_high : (b c : Bounds) → (hull_ends b c).high ≡ int_max b.high c.high
unfolding hull_ends
hull_high b c = refl

bounds_new : (a b c : Bounds) (marks : List ℤ) → a.low ≤ℤ c.low → c.high ≤ℤ a.high → interval_widen (Range a) (hull (Range b) (Range c)) marks ≡ interval_widen (Range a) (Range b) marks
bounds_new a b c marks h k =
    rw (← hull_is b c) (
    same_cut (widen_low a (hull_ends b c) marks) (widen_low a b marks) (widen_high a (hull_ends b c) marks) (widen_high a b marks)
    (ap (λ (x : ℤ). cond (int_le a.low x) a.low (floor_mark marks x)) (hull_low b c) ∙ same_low a.low b.low c.low (λ x. floor_mark marks x) (int_le a.low b.low) refl h)
    (ap (λ (x : ℤ). cond (int_le x a.high) a.high (ceiling_mark marks x)) (hull_high b c) ∙ same_high a.high b.high c.high (λ x. ceiling_mark marks x) (int_le b.high a.high) refl k))
  where
    same_cut : (l l2 h h2 : ℤ) → l ≡ l2 → h ≡ h2 → cut l h ≡ cut l2 h2
    same_cut l l2 h h2 e f = rw (e, f) refl

-- a widening by what lies below changes nothing
widen_below : (a c : Bounds) (marks : List ℤ) → a.low ≤ℤ c.low → c.high ≤ℤ a.high → interval_widen (Range a) (Range c) marks ≡ Range a
widen_below a c marks h k = rw (le_test a.low c.low h, le_test c.high a.high k) (cut_bounds a)

widen_new : (a b c : Interval) (marks : List ℤ) → interval_leq c a ≡ true → interval_widen a (hull b c) marks ≡ interval_widen a b marks
widen_new Empty b Empty marks h = join_none b
  where
    join_none : (b : Interval) → hull b Empty ≡ b
    join_none Empty = refl
    join_none (Range b) = refl
widen_new Empty b (Range c) marks h = absurd (false≢true h)
widen_new (Range a) Empty Empty marks h = refl
widen_new (Range a) (Range b) Empty marks h = refl
widen_new (Range a) Empty (Range c) marks h = let e = leq_from c a h in widen_below a c marks e.0 e.1
widen_new (Range a) (Range b) (Range c) marks h = let e = leq_from c a h in bounds_new a b c marks e.0 e.1

-- ---- the rank
abbrev outside : ℤ → ℤ → List ℤ → ℕ
outside low high marks = count_by (λ m. int_lt m low) marks + count_by (λ m. int_lt high m) marks

rank_cut : (low high : ℤ) (marks : List ℤ) → LEAST ≤ℤ low → low ≤ℤ high → high ≤ℤ GREATEST → interval_rank (cut low high) marks ≡ outside low high marks
rank_cut low high marks h k l =
    rw (← cut_is low high (bounds low high (is_number low h (omega (arith, ints))) (is_number high (omega (arith, ints)) l) k) (omega (arith, ints, clamps)) (omega (arith, ints, clamps))) refl

-- marks below an end that goes down to a mark
fewer_below : (x r : ℤ) (marks : List ℤ) → In marks r → r <ℤ x → count_by (λ m. int_lt m r) marks < count_by (λ m. int_lt m x) marks
fewer_below x r marks h k =
    count_above (λ m. int_lt m r) (λ m. int_lt m x) marks r
    (λ m e. let f = lt_from m r e in lt_test m x (omega (arith, ints)))
    h
    (false_from_ne_true (int_lt r r) (λ e. let f = lt_from r r e in omega (arith, ints)))
    (lt_test r x k)

fewer_above : (x r : ℤ) (marks : List ℤ) → In marks r → x <ℤ r → count_by (λ m. int_lt r m) marks < count_by (λ m. int_lt x m) marks
fewer_above x r marks h k =
    count_above (λ m. int_lt r m) (λ m. int_lt x m) marks r
    (λ m e. let f = lt_from r m e in lt_test x m (omega (arith, ints)))
    h
    (false_from_ne_true (int_lt r r) (λ e. let f = lt_from r r e in omega (arith, ints)))
    (lt_test x r k)

module _ (marks : List ℤ) (is : IsThresholds marks) where
  least_in : In marks LEAST
  least_in = in_at marks 0 LEAST is.least

  greatest_in : In marks GREATEST
  greatest_in = in_at marks (length marks - 1) GREATEST (is.greatest (length marks - 1) (omega (arith, some)) (omega arith))
    where
      some : 0 < length marks
      some = some_in marks LEAST least_in
        where
          some_in : (ms : List ℤ) (t : ℤ) → In ms t → 0 < length ms
          some_in [] t h = absurd h
          some_in (m ∷ ms) t h = omega arith

  pub floor_marked : (n : ℤ) → In marks (floor_mark marks n)
  floor_marked n = elim (floor_in marks n) [ inl e ↦ in_same marks (floor_mark marks n) LEAST e least_in | inr h ↦ h ]

  pub ceiling_marked : (n : ℤ) → In marks (ceiling_mark marks n)
  ceiling_marked n = elim (ceiling_in marks n) [ inl e ↦ in_same marks (ceiling_mark marks n) GREATEST e greatest_in | inr h ↦ h ]

  below_falls : (a b : Bounds) → b.low <ℤ a.low → count_by (λ m. int_lt m (floor_mark marks b.low)) marks < count_by (λ m. int_lt m a.low) marks
  below_falls a b h =
      let p = b.low_fits in
      let q = floor_below marks b.low (omega (arith, ints)) in
      fewer_below a.low (floor_mark marks b.low) marks (floor_marked b.low) (omega (arith, ints))

  above_falls : (a b : Bounds) → a.high <ℤ b.high → count_by (λ m. int_lt (ceiling_mark marks b.high) m) marks < count_by (λ m. int_lt a.high m) marks
  above_falls a b h =
      let p = b.high_fits in
      let q = ceiling_above marks b.high (omega (arith, ints)) in
      fewer_above a.high (ceiling_mark marks b.high) marks (ceiling_marked b.high) (omega (arith, ints))

  outside_falls : (a b : Bounds) (t u : Bool) → int_le a.low b.low ≡ t → int_le b.high a.high ≡ u → cut (cond t a.low (floor_mark marks b.low)) (cond u a.high (ceiling_mark marks b.high)) ≢ Range a → outside (cond t a.low (floor_mark marks b.low)) (cond u a.high (ceiling_mark marks b.high)) marks < outside a.low a.high marks
  outside_falls a b true true e f h = absurd (h (cut_bounds a))
  outside_falls a b true false e f h = let p = above_falls a b (le_not b.high a.high f) in omega arith
  outside_falls a b false true e f h = let p = below_falls a b (le_not a.low b.low e) in omega arith
  outside_falls a b false false e f h =
      let p = above_falls a b (le_not b.high a.high f) in
      let q = below_falls a b (le_not a.low b.low e) in
      omega arith

  rank_range : (a : Bounds) → interval_rank (Range a) marks < interval_rank Empty marks
  rank_range a =
      let p = count_by-le-length (λ m. int_lt m a.low) marks in
      let q = count_by-le-length (λ m. int_lt a.high m) marks in
      omega arith

  rank_falls : (a b : Interval) → interval_widen a b marks ≢ a → interval_rank (interval_widen a b marks) marks < interval_rank a marks
  rank_falls Empty Empty h = absurd (h refl)
  rank_falls Empty (Range b) h = rank_range b
  rank_falls (Range a) Empty h = absurd (h refl)
  rank_falls (Range a) (Range b) h =
      let p = low_is a b marks in
      let q = high_is a b marks in
      rw (rank_cut (widen_low a b marks) (widen_high a b marks) marks p.least (between _ _ _ _ p.left a.ordered q.left) q.greatest)
      (outside_falls a b (int_le a.low b.low) (int_le b.high a.high) refl refl h)
    where
      between : (w x y z : ℤ) → w ≤ℤ x → x ≤ℤ y → y ≤ℤ z → w ≤ℤ z
      between w x y z h k l = omega (arith, ints)

  rank_at_most : (a : Interval) → interval_rank a marks ≤ interval_rank Empty marks
  rank_at_most Empty = omega arith
  rank_at_most (Range a) = let p = rank_range a in omega arith

  pub widening : WidenLaws interval_domain marks
  widening = record {
    widen_left = λ a b. widen_left a b marks;
    widen_right = λ a b. widen_right a b marks;
    widen_new = λ a b c h. widen_new a b c marks h;
    rank_falls = rank_falls;
    rank_at_most = rank_at_most;
  }
