-- Intervals by the numbers that they hold.
use Rattle.std.proofs.Common.{◌≡◌, ℤ, ◌≤ℤ◌, ◌<ℤ◌, Bool, true, false, ◌&&◌, refl, sym, ap, subst, ◌∙◌, arith}
use Rattle.std.proofs.Props.{props}
use Rattle.std.specs.Prelude.{int_le}
use Rattle.std.specs.Int.{int_max, int_min}
use Rattle.std.proofs.lemmas.Int.{ints, clamps}
use Rattle.std.proofs.lemmas.Bool.{and_parts, and_from, false≢true, both_ways}
use Rattle.sk_value.specs.Numbers.{IsNumber}
use Rattle.sk_lattice.specs.DomainLaws.{OrderLaws, BoundLaws}
use Rattle.sk_interval.specs.declared.bounds.Bounds.{Bounds}
use Rattle.sk_interval.specs.declared.bounds.Interval.{Interval}
use Rattle.sk_interval.specs.declared.bounds.Interval.TheVariants.{Empty, Range}
use Rattle.sk_lattice.specs.Thresholds.{LEAST, GREATEST}
use Rattle.sk_interval.specs.Ends.{are_bounds, le_from, le_test, number_above, number_below}
use Rattle.sk_interval.specs.Cuts.{interval_if, cut, interval_holds, interval_is_empty, interval_leq, hull, meet_bounds, intersection}
use Rattle.sk_interval.specs.Arithmetic.{span, span_of, span_hull, corners}
use Rattle.sk_interval.specs.Intervals.{interval_domain}

-- n lies from low to high and is a number
pub record Within (low high n : ℤ) : Type 0 where
  pub above : low ≤ℤ n
  pub below : n ≤ℤ high
  pub fits : IsNumber n

-- bounds with the same ends are one
abbrev pub bounds : (low high : ℤ) → IsNumber low → IsNumber high → low ≤ℤ high → Bounds
bounds low high p q r = record { low = low; high = high; low_fits = p; high_fits = q; ordered = r }

number_prop : (n : ℤ) (p p2 : IsNumber n) → p ≡ p2
number_prop n = hlevel props

le_prop : (m n : ℤ) (p p2 : m ≤ℤ n) → p ≡ p2
le_prop m n = hlevel props

same_ends : (low high : ℤ) (p p2 : IsNumber low) (q q2 : IsNumber high) (r r2 : low ≤ℤ high) → bounds low high p q r ≡ bounds low high p2 q2 r2
same_ends low high p p2 q q2 r r2 =
    ap (λ x. bounds low high x q r) (number_prop low p p2)
    ∙ (ap (λ x. bounds low high p2 x r) (number_prop high q q2) ∙ ap (λ x. bounds low high p2 q2 x) (le_prop low high r r2))

same_bounds : (low low2 high high2 : ℤ) (p : IsNumber low) (p2 : IsNumber low2) (q : IsNumber high) (q2 : IsNumber high2) (r : low ≤ℤ high) (r2 : low2 ≤ℤ high2) → low ≡ low2 → high ≡ high2 → bounds low high p q r ≡ bounds low2 high2 p2 q2 r2
same_bounds low low2 high high2 p p2 q q2 r r2 e f =
    subst
    (λ (x : ℤ). (p2 : IsNumber x) (r2 : x ≤ℤ high2) → bounds low high p q r ≡ bounds x high2 p2 q2 r2)
    e
    (λ p2 r2. subst (λ (y : ℤ). (q2 : IsNumber y) (r2 : low ≤ℤ y) → bounds low high p q r ≡ bounds low y p2 q2 r2) f (λ q2 r2. same_ends low high p p2 q q2 r r2) q2 r2)
    p2
    r2

pub bounds_are : (a b : Bounds) → a.low ≡ b.low → a.high ≡ b.high → a ≡ b
bounds_are a b e f = same_bounds a.low b.low a.high b.high a.low_fits b.low_fits a.high_fits b.high_fits a.ordered b.ordered e f

-- two tests at once
both_from : (m n p q : ℤ) → (int_le m n && int_le p q) ≡ true → (m ≤ℤ n) × (p ≤ℤ q)
both_from m n p q h = let e = and_parts (int_le m n) (int_le p q) h in (le_from m n e.0, le_from p q e.1)

both_test : (m n p q : ℤ) → m ≤ℤ n → p ≤ℤ q → (int_le m n && int_le p q) ≡ true
both_test m n p q h k = and_from (int_le m n) (int_le p q) (le_test m n h) (le_test p q k)

-- what the bounds hold
pub range_within : (a : Bounds) (n : ℤ) → interval_holds (Range a) n ≡ true → Within a.low a.high n
range_within a n h =
    let e = both_from a.low n n a.high h in
    let low_fits = a.low_fits in
    let high_fits = a.high_fits in
    record { above = e.0; below = e.1; fits = omega (arith, ints) }

pub in_range : (a : Bounds) (n : ℤ) → a.low ≤ℤ n → n ≤ℤ a.high → interval_holds (Range a) n ≡ true
in_range a n h k = both_test a.low n n a.high h k

pub at_low : (a : Bounds) → interval_holds (Range a) a.low ≡ true
at_low a = in_range a a.low (omega (arith, ints)) a.ordered

pub at_high : (a : Bounds) → interval_holds (Range a) a.high ≡ true
at_high a = in_range a a.high a.ordered (omega (arith, ints))

-- the order of bounds
pub leq_from : (a b : Bounds) → interval_leq (Range a) (Range b) ≡ true → (b.low ≤ℤ a.low) × (a.high ≤ℤ b.high)
leq_from a b h = both_from b.low a.low a.high b.high h

pub leq_test : (a b : Bounds) → b.low ≤ℤ a.low → a.high ≤ℤ b.high → interval_leq (Range a) (Range b) ≡ true
leq_test a b h k = both_test b.low a.low a.high b.high h k

-- what a cut holds
if_holds : (low high n : ℤ) (t : Bool) (e : are_bounds low high ≡ t) → LEAST ≤ℤ low → low ≤ℤ n → n ≤ℤ high → high ≤ℤ GREATEST → interval_holds (interval_if low high t e) n ≡ true
if_holds low high n true e p q r s = both_test low n n high q r
if_holds low high n false e p q r s =
    let both : are_bounds low high ≡ true = and_from (int_le LEAST low) (int_le low high && int_le high GREATEST) (le_test LEAST low p) (both_test low high high GREATEST (omega (arith, ints)) s) in
    absurd (both_ways _ e both)

if_within : (low high n : ℤ) (t : Bool) (e : are_bounds low high ≡ t) → interval_holds (interval_if low high t e) n ≡ true → (low ≤ℤ n) × (n ≤ℤ high)
if_within low high n true e h = both_from low n n high h
if_within low high n false e h = absurd (false≢true h)

pub in_cut : (low high n : ℤ) → low ≤ℤ n → n ≤ℤ high → IsNumber n → interval_holds (cut low high) n ≡ true
unfolding cut
in_cut low high n p q r =
    if_holds (int_max low LEAST) (int_min high GREATEST) n _ refl
    (omega (arith, ints, clamps)) (omega (arith, ints, clamps)) (omega (arith, ints, clamps)) (omega (arith, ints, clamps))

pub cut_within : (low high n : ℤ) → interval_holds (cut low high) n ≡ true → Within low high n
unfolding cut
cut_within low high n h =
    let w = if_within (int_max low LEAST) (int_min high GREATEST) n _ refl h in
    let p = w.0 in
    let q = w.1 in
    record { above = omega (arith, ints, clamps); below = omega (arith, ints, clamps); fits = omega (arith, ints, clamps) }

-- the order is inclusion
pub leq_at : (a b : Interval) (n : ℤ) → interval_leq a b ≡ true → interval_holds a n ≡ true → interval_holds b n ≡ true
leq_at Empty b n h k = absurd (false≢true k)
leq_at (Range a) Empty n h k = absurd (false≢true h)
leq_at (Range a) (Range b) n h k =
    let w = range_within a n k in
    let e = leq_from a b h in
    in_range b n (omega (arith, ints)) (omega (arith, ints))

pub leq_by : (a b : Interval) → ((n : ℤ) → interval_holds a n ≡ true → interval_holds b n ≡ true) → interval_leq a b ≡ true
leq_by Empty b h = refl
leq_by (Range a) Empty h = h a.low (at_low a)
leq_by (Range a) (Range b) h = leq_test a b (range_within b a.low (h a.low (at_low a))).above (range_within b a.high (h a.high (at_high a))).below

pub holds_number : (a : Interval) (n : ℤ) → interval_holds a n ≡ true → IsNumber n
holds_number Empty n h = absurd (false≢true h)
holds_number (Range a) n h = (range_within a n h).fits

-- intervals with the same numbers are one
pub leq_antisym : (a b : Interval) → interval_leq a b ≡ true → interval_leq b a ≡ true → a ≡ b
leq_antisym Empty Empty h k = refl
leq_antisym Empty (Range b) h k = absurd (false≢true k)
leq_antisym (Range a) Empty h k = absurd (false≢true h)
leq_antisym (Range a) (Range b) h k =
    let e = leq_from a b h in
    let f = leq_from b a k in
    ap Range (bounds_are a b (omega (arith, ints)) (omega (arith, ints)))

-- bounds are their own cut
pub cut_bounds : (a : Bounds) → cut a.low a.high ≡ Range a
cut_bounds a =
    leq_antisym (cut a.low a.high) (Range a)
    (leq_by (cut a.low a.high) (Range a) (λ n h. let w = cut_within a.low a.high n h in in_range a n w.above w.below))
    (leq_by (Range a) (cut a.low a.high) (λ n h. let w = range_within a n h in in_cut a.low a.high n w.above w.below w.fits))

-- bounds that hold the same numbers as a cut
pub cut_is : (low high : ℤ) (a : Bounds) → a.low ≡ int_max low LEAST → a.high ≡ int_min high GREATEST → Range a ≡ cut low high
cut_is low high a e f =
    leq_antisym (Range a) (cut low high)
    (leq_by (Range a) (cut low high) (λ n h. let w = range_within a n h in in_cut low high n (omega (arith, ints, clamps)) (omega (arith, ints, clamps)) w.fits))
    (leq_by (cut low high) (Range a) (λ n h. let w = cut_within low high n h in in_range a n (omega (arith, ints, clamps)) (omega (arith, ints, clamps))))

pub cut_made : (low high l h : ℤ) (p : IsNumber l) (q : IsNumber h) (r : l ≤ℤ h) → l ≡ int_max low LEAST → h ≡ int_min high GREATEST → Range (bounds l h p q r) ≡ cut low high
cut_made low high l h p q r e f = cut_is low high (bounds l h p q r) e f

pub cut_none : (low high : ℤ) → int_min high GREATEST <ℤ int_max low LEAST → Empty ≡ cut low high
cut_none low high h =
    leq_antisym Empty (cut low high)
    refl
    (leq_by (cut low high) Empty (λ n k. let w = cut_within low high n k in absurd (omega (arith, ints, clamps))))

pub cut_same : (low low2 high high2 : ℤ) → low ≡ low2 → high ≡ high2 → cut low high ≡ cut low2 high2
cut_same low low2 high high2 e f = cc

pub span_same : (low low2 high high2 : ℤ) → low ≡ low2 → high ≡ high2 → span low high ≡ span low2 high2
span_same low low2 high high2 e f = cc

pub same_test : (x y : Bool) → (x ≡ true → y ≡ true) → (y ≡ true → x ≡ true) → x ≡ y
same_test true y h k = sym (h refl)
same_test false true h k = k refl
same_test false false h k = refl

pub through : (x y z : ℤ) → x ≡ y → y ≡ z → x ≡ z
through x y z e f = e ∙ f

pub corners_are : (f : ℤ → ℤ → ℤ) (a b c d p q r s : ℤ) → p ≡ f a c → q ≡ f a d → r ≡ f b c → s ≡ f b d → span_hull (span_of p q) (span_of r s) ≡ corners f a b c d
corners_are f a b c d p q r s e g h i = cc

pub order : OrderLaws interval_domain
order = record {
  leq_refl = λ a. leq_by a a (λ n h. h);
  leq_trans = λ a b c h k. leq_by a c (λ n e. leq_at b c n k (leq_at a b n h e));
  leq_antisym = leq_antisym;
  leq_holds = leq_at;
  leq_any = λ a. leq_by a (cut LEAST GREATEST) (λ n h. let f = holds_number a n h in in_cut LEAST GREATEST n (number_above n f) (number_below n f) f);
  empty_leq = λ a. refl;
  any_holds = λ n h. in_cut LEAST GREATEST n (number_above n h) (number_below n h) h;
  empty_holds = λ n. refl;
  of_holds = λ n h. in_cut n n n (omega (arith, ints)) (omega (arith, ints)) h;
  empty_is_empty = refl;
  is_empty_only = empty_only;
}
  where
    empty_only : (a : Interval) → interval_is_empty a ≡ true → a ≡ Empty
    empty_only Empty h = refl
    empty_only (Range a) h = absurd (false≢true h)

-- what a hull holds
hull_left : (a b : Interval) (n : ℤ) → interval_holds a n ≡ true → interval_holds (hull a b) n ≡ true
hull_left Empty b n h = absurd (false≢true h)
hull_left (Range a) Empty n h = h
hull_left (Range a) (Range b) n h = let w = range_within a n h in in_cut (int_min a.low b.low) (int_max a.high b.high) n (omega (arith, ints, clamps)) (omega (arith, ints, clamps)) w.fits

hull_right : (a b : Interval) (n : ℤ) → interval_holds b n ≡ true → interval_holds (hull a b) n ≡ true
hull_right Empty b n h = h
hull_right (Range a) Empty n h = absurd (false≢true h)
hull_right (Range a) (Range b) n h = let w = range_within b n h in in_cut (int_min a.low b.low) (int_max a.high b.high) n (omega (arith, ints, clamps)) (omega (arith, ints, clamps)) w.fits

hull_least : (a b c : Interval) → interval_leq a c ≡ true → interval_leq b c ≡ true → interval_leq (hull a b) c ≡ true
hull_least Empty b c h k = k
hull_least (Range a) Empty c h k = h
hull_least (Range a) (Range b) Empty h k = absurd (false≢true h)
hull_least (Range a) (Range b) (Range c) h k =
    leq_by (hull (Range a) (Range b)) (Range c) (λ n e.
    let w = cut_within (int_min a.low b.low) (int_max a.high b.high) n e in
    let f = leq_from a c h in
    let g = leq_from b c k in
    in_range c n (omega (arith, ints, clamps)) (omega (arith, ints, clamps)))

-- what an intersection holds
pub meet_within : (a b : Bounds) (n : ℤ) → interval_holds (meet_bounds a b) n ≡ true → (interval_holds (Range a) n ≡ true) × (interval_holds (Range b) n ≡ true)
meet_within a b n h =
    let w = cut_within (int_max a.low b.low) (int_min a.high b.high) n h in
    (in_range a n (omega (arith, ints, clamps)) (omega (arith, ints, clamps)), in_range b n (omega (arith, ints, clamps)) (omega (arith, ints, clamps)))

pub in_meet : (a b : Bounds) (n : ℤ) → interval_holds (Range a) n ≡ true → interval_holds (Range b) n ≡ true → interval_holds (meet_bounds a b) n ≡ true
in_meet a b n h k =
    let w = range_within a n h in
    let v = range_within b n k in
    in_cut (int_max a.low b.low) (int_min a.high b.high) n (omega (arith, ints, clamps)) (omega (arith, ints, clamps)) w.fits

common_within : (a b : Interval) (n : ℤ) → interval_holds (intersection a b) n ≡ true → (interval_holds a n ≡ true) × (interval_holds b n ≡ true)
common_within Empty b n h = absurd (false≢true h)
common_within (Range a) Empty n h = absurd (false≢true h)
common_within (Range a) (Range b) n h = meet_within a b n h

in_common : (a b : Interval) (n : ℤ) → interval_holds a n ≡ true → interval_holds b n ≡ true → interval_holds (intersection a b) n ≡ true
in_common Empty b n h k = absurd (false≢true h)
in_common (Range a) Empty n h k = absurd (false≢true k)
in_common (Range a) (Range b) n h k = in_meet a b n h k

pub bound_laws : BoundLaws interval_domain
bound_laws = record {
  join_left = λ a b. leq_by a (hull a b) (hull_left a b);
  join_right = λ a b. leq_by b (hull a b) (hull_right a b);
  join_least = hull_least;
  meet_left = λ a b. leq_by (intersection a b) a (λ n h. (common_within a b n h).0);
  meet_right = λ a b. leq_by (intersection a b) b (λ n h. (common_within a b n h).1);
  meet_greatest = λ a b c h k. leq_by c (intersection a b) (λ n e. in_common a b n (leq_at c a n h e) (leq_at c b n k e));
  meet_holds = in_common;
}
