-- Arithmetic on intervals is sound and monotone.
use Rattle.std.proofs.Common.{◌≡◌, ◌≢◌, ℕ, suc, ◌-◌, ◌%◌, ◌<◌, ◌≤◌, max, ℤ, pos, negsuc, ◌+ℤ◌, ◌-ℤ◌, ◌*ℤ◌, neg_ℤ, ◌≤ℤ◌, ◌<ℤ◌, Bool, true, false, ◌&&◌, cond, Option, Some, None, refl, ◌⊎◌, inl, inr, arith}
use Rattle.std.specs.Prelude.{int_lt, int_le, int_div, int_rem, unsigned_abs}
use Rattle.std.specs.Int.{int_max, int_min}
use Rattle.std.specs.Ordering.{int_eq}
use Rattle.std.proofs.lemmas.Int.{ints, clamps, by_lt_z}
use Rattle.std.proofs.lemmas.Bool.{and_parts, and_from, false≢true, both_ways, or_cases, or_left, or_right, cases_lt}
use Rattle.std.proofs.lemmas.Bool.Decides.{Decides-int_eq}
use Rattle.sk_value.specs.declared.arith.Arith.{Arith}
use Rattle.sk_value.specs.declared.arith.Arith.TheVariants.{Add, Sub, Mul, Div, Rem, Pick}
use Rattle.sk_value.specs.Numbers.{IsNumber, Gives}
use Rattle.sk_interval.specs.declared.bounds.Bounds.{Bounds}
use Rattle.sk_interval.specs.declared.span.Span.{Span}
use Rattle.sk_interval.specs.declared.bounds.Interval.{Interval}
use Rattle.sk_interval.specs.declared.bounds.Interval.TheVariants.{Empty, Range}
use Rattle.sk_interval.specs.Ends.{le_from, le_test, lt_from, lt_test}
use Rattle.sk_interval.specs.Cuts.{cut, interval_holds, interval_leq, both}
use Rattle.sk_interval.specs.Arithmetic.{bounds_arith, interval_neg, corners, quotients, join_spans, divide, reach, is_zero, remainder_low, remainder_high, remainder, no_pick, pick}
use Rattle.sk_interval.specs.Laws.Sets.{Within, range_within, in_cut, cut_within, leq_by, leq_from}
use Rattle.sk_interval.specs.Laws.Corners.{Between, Ends, Positive, Negative, product_first, product_second, positive_first, positive_second, negative_first, negative_second, corners_above, corners_below, corners_low, corners_high}

-- an interval within an operation's bounds lies within a wider operation's
pub cut_more : (l h l2 h2 : ℤ) → l2 ≤ℤ l → h ≤ℤ h2 → interval_leq (cut l h) (cut l2 h2) ≡ true
cut_more l h l2 h2 p q = leq_by (cut l h) (cut l2 h2) (λ n e. let w = cut_within l h n e in in_cut l2 h2 n (omega (arith, ints)) (omega (arith, ints)) w.fits)

-- ---- products
abbrev Any : ℤ → Type 0
Any y = Unit {0}

abbrev times : ℤ → ℤ → ℤ
times m n = m *ℤ n

times_first : (a x b y : ℤ) → Any y → a ≤ℤ x → x ≤ℤ b → Between (times a y) (times b y) (times x y)
times_first a x b y _ h k = product_first a x b y h k

times_second : (x c y d : ℤ) → Any c → Any d → c ≤ℤ y → y ≤ℤ d → Between (times x c) (times x d) (times x y)
times_second x c y d _ _ h k = product_second x c y d h k

mul_holds : (a b : Bounds) (m n r : ℤ) → Within a.low a.high m → Within b.low b.high n → r ≡ m *ℤ n → IsNumber r → interval_holds (bounds_arith Mul a b) r ≡ true
mul_holds a b m n r w v e fits =
    let low = corners_above times Any times_first times_second a.low a.high b.low b.high m n tt tt tt w.above w.below v.above v.below in
    let high = corners_below times Any times_first times_second a.low a.high b.low b.high m n tt tt tt w.above w.below v.above v.below in
    in_cut (corners times a.low a.high b.low b.high).low (corners times a.low a.high b.low b.high).high r (rw e low) (rw e high) fits

pub ends_of : (a a2 : Bounds) → interval_leq (Range a) (Range a2) ≡ true → Ends a2.low a2.high a.low a.high
ends_of a a2 h = let e = leq_from a a2 h in record { low = e.0; ordered = a.ordered; high = e.1 }

mul_more : (a a2 b b2 : Bounds) → Ends a2.low a2.high a.low a.high → Ends b2.low b2.high b.low b.high → interval_leq (bounds_arith Mul a b) (bounds_arith Mul a2 b2) ≡ true
mul_more a a2 b b2 p q =
    cut_more
    (corners times a.low a.high b.low b.high).low (corners times a.low a.high b.low b.high).high
    (corners times a2.low a2.high b2.low b2.high).low (corners times a2.low a2.high b2.low b2.high).high
    (corners_low times Any times_first times_second a.low a.high b.low b.high a2.low a2.high b2.low b2.high tt tt tt tt p q)
    (corners_high times Any times_first times_second a.low a.high b.low b.high a2.low a2.high b2.low b2.high tt tt tt tt p q)

-- ---- quotients
-- r lies in a span that is there
abbrev InSpan : Option Span → ℤ → Type 0
InSpan (Some s) r = (s.low ≤ℤ r) × (r ≤ℤ s.high)
InSpan None r = ⊥

-- a span, if it is there, lies in another
abbrev SpanLeq : Option Span → Option Span → Type 0
SpanLeq (Some s) (Some t) = (t.low ≤ℤ s.low) × (s.high ≤ℤ t.high)
SpanLeq (Some s) None = ⊥
SpanLeq None t = Unit {0}

join_left : (s t : Option Span) (r : ℤ) → InSpan s r → IsNumber r → interval_holds (join_spans s t) r ≡ true
join_left (Some s) (Some t) r h fits = in_cut (int_min s.low t.low) (int_max s.high t.high) r (omega (arith, ints, clamps)) (omega (arith, ints, clamps)) fits
join_left (Some s) None r h fits = in_cut s.low s.high r h.0 h.1 fits
join_left None t r h fits = absurd h

join_right : (s t : Option Span) (r : ℤ) → InSpan t r → IsNumber r → interval_holds (join_spans s t) r ≡ true
join_right (Some s) (Some t) r h fits = in_cut (int_min s.low t.low) (int_max s.high t.high) r (omega (arith, ints, clamps)) (omega (arith, ints, clamps)) fits
join_right None (Some t) r h fits = in_cut t.low t.high r h.0 h.1 fits
join_right s None r h fits = absurd h

joins_more : (s t s2 t2 : Option Span) → SpanLeq s s2 → SpanLeq t t2 → interval_leq (join_spans s t) (join_spans s2 t2) ≡ true
joins_more None None s2 t2 h k = refl
joins_more (Some s) t None t2 h k = absurd h
joins_more (Some s) (Some t) (Some s2) None h k = absurd k
joins_more (Some s) (Some t) (Some s2) (Some t2) h k =
    cut_more (int_min s.low t.low) (int_max s.high t.high) (int_min s2.low t2.low) (int_max s2.high t2.high)
    (omega (arith, ints, clamps)) (omega (arith, ints, clamps))
joins_more (Some s) None (Some s2) None h k = cut_more s.low s.high s2.low s2.high h.0 h.1
joins_more (Some s) None (Some s2) (Some t2) h k =
    cut_more s.low s.high (int_min s2.low t2.low) (int_max s2.high t2.high) (omega (arith, ints, clamps)) (omega (arith, ints, clamps))
joins_more None (Some t) s2 None h k = absurd k
joins_more None (Some t) None (Some t2) h k = cut_more t.low t.high t2.low t2.high k.0 k.1
joins_more None (Some t) (Some s2) (Some t2) h k =
    cut_more t.low t.high (int_min s2.low t2.low) (int_max s2.high t2.high) (omega (arith, ints, clamps)) (omega (arith, ints, clamps))

span_holds : (t : Bool) (s : Span) (r : ℤ) → t ≡ true → s.low ≤ℤ r → r ≤ℤ s.high → InSpan (cond t (Some s) None) r
span_holds true s r e h k = (h, k)
span_holds false s r e h k = absurd (false≢true e)

span_more : (t t2 : Bool) (s s2 : Span) → (t ≡ true → t2 ≡ true) → (t ≡ true → (s2.low ≤ℤ s.low) × (s.high ≤ℤ s2.high)) → SpanLeq (cond t (Some s) None) (cond t2 (Some s2) None)
span_more true true s s2 e h = h refl
span_more true false s s2 e h = absurd (false≢true (e refl))
span_more false t2 s s2 e h = tt

-- divisors of one sign
module _ (Good : ℤ → Type 0)
    (first : (a x b y : ℤ) → Good y → a ≤ℤ x → x ≤ℤ b → Between (int_div a y) (int_div b y) (int_div x y))
    (second : (x c y d : ℤ) → Good c → Good d → c ≤ℤ y → y ≤ℤ d → Between (int_div x c) (int_div x d) (int_div x y))
  where
    quotients_hold : (a : Bounds) (low high m n : ℤ) → Good low → Good n → Good high → Within a.low a.high m → low ≤ℤ n → n ≤ℤ high → InSpan (quotients a low high) (int_div m n)
    quotients_hold a low high m n gl gn gh w h k =
        span_holds (int_le low high) (corners int_div a.low a.high low high) (int_div m n)
        (le_test low high (omega (arith, ints)))
        (corners_above int_div Good first second a.low a.high low high m n gl gn gh w.above w.below h k)
        (corners_below int_div Good first second a.low a.high low high m n gl gn gh w.above w.below h k)

    quotients_more : (a a2 : Bounds) (low high low2 high2 : ℤ) → Ends a2.low a2.high a.low a.high → low2 ≤ℤ low → high ≤ℤ high2 → (low ≤ℤ high → Good low) → (low ≤ℤ high → Good high) → (low ≤ℤ high → Good low2) → (low ≤ℤ high → Good high2) → SpanLeq (quotients a low high) (quotients a2 low2 high2)
    quotients_more a a2 low high low2 high2 p h k gl gh gl2 gh2 =
        span_more (int_le low high) (int_le low2 high2) (corners int_div a.low a.high low high) (corners int_div a2.low a2.high low2 high2)
        (λ e. let o = le_from low high e in le_test low2 high2 (omega (arith, ints)))
        (λ e.
        let o = le_from low high e in
        let q : Ends low2 high2 low high = record { low = h; ordered = o; high = k } in (
          corners_low int_div Good first second a.low a.high low high a2.low a2.high low2 high2 (gl o) (gh o) (gl2 o) (gh2 o) p q,
          corners_high int_div Good first second a.low a.high low high a2.low a2.high low2 high2 (gl o) (gh o) (gl2 o) (gh2 o) p q,
        ))

div_holds : (a b : Bounds) (m n : ℤ) → Within a.low a.high m → Within b.low b.high n → n ≢ pos 0 → IsNumber (int_div m n) → interval_holds (divide a b) (int_div m n) ≡ true
div_holds a b m n w v z fits =
    by_lt_z n (pos 0)
    (λ l. join_left (quotients a b.low (int_min b.high (negsuc 0))) (quotients a (int_max b.low (pos 1)) b.high) (int_div m n) (by_negative l) fits)
    (λ l. join_right (quotients a b.low (int_min b.high (negsuc 0))) (quotients a (int_max b.low (pos 1)) b.high) (int_div m n) (by_positive l) fits)
  where
    by_negative : n <ℤ pos 0 → InSpan (quotients a b.low (int_min b.high (negsuc 0))) (int_div m n)
    by_negative l =
        quotients_hold Negative negative_first negative_second a b.low (int_min b.high (negsuc 0)) m n
        (omega (arith, ints)) l (omega (arith, ints, clamps)) w v.above (omega (arith, ints, clamps))

    by_positive : pos 0 ≤ℤ n → InSpan (quotients a (int_max b.low (pos 1)) b.high) (int_div m n)
    by_positive l =
        quotients_hold Positive positive_first positive_second a (int_max b.low (pos 1)) b.high m n
        (omega (arith, ints, clamps)) (omega (arith, ints)) (omega (arith, ints)) w (omega (arith, ints, clamps)) v.below

div_more : (a a2 b b2 : Bounds) → Ends a2.low a2.high a.low a.high → Ends b2.low b2.high b.low b.high → interval_leq (divide a b) (divide a2 b2) ≡ true
div_more a a2 b b2 p q =
    joins_more
    (quotients a b.low (int_min b.high (negsuc 0))) (quotients a (int_max b.low (pos 1)) b.high)
    (quotients a2 b2.low (int_min b2.high (negsuc 0))) (quotients a2 (int_max b2.low (pos 1)) b2.high)
    (quotients_more Negative negative_first negative_second a a2 b.low (int_min b.high (negsuc 0)) b2.low (int_min b2.high (negsuc 0)) p
    q.low (omega (arith, ints, clamps))
    (λ o. omega (arith, ints, clamps)) (λ o. omega (arith, ints, clamps)) (λ o. omega (arith, ints, clamps)) (λ o. omega (arith, ints, clamps)))
    (quotients_more Positive positive_first positive_second a a2 (int_max b.low (pos 1)) b.high (int_max b2.low (pos 1)) b2.high p
    (omega (arith, ints, clamps)) q.high
    (λ o. omega (arith, ints, clamps)) (λ o. omega (arith, ints, clamps)) (λ o. omega (arith, ints, clamps)) (λ o. omega (arith, ints, clamps)))

-- ---- empty in some cases
unless_holds : (t : Bool) (x : Interval) (n : ℤ) → (t ≡ true → ⊥) → interval_holds x n ≡ true → interval_holds (cond t Empty x) n ≡ true
unless_holds true x n e h = absurd (e refl)
unless_holds false x n e h = h

unless_more : (t t2 : Bool) (x x2 : Interval) → (t2 ≡ true → t ≡ true) → interval_leq x x2 ≡ true → interval_leq (cond t Empty x) (cond t2 Empty x2) ≡ true
unless_more true t2 x x2 e h = refl
unless_more false true x x2 e h = absurd (false≢true (e refl))
unless_more false false x x2 e h = h

-- ---- remainders
record Remains (m : ℤ) (n : ℕ) (r : ℤ) : Type 0 where
  pub low : int_min m (pos 0) ≤ℤ r
  pub high : r ≤ℤ int_max m (pos 0)
  pub above : neg_ℤ (pos (n - 1)) ≤ℤ r
  pub below : r ≤ℤ pos (n - 1)

mod_at_most : (x n : ℕ) → 0 < n → (x % n ≤ x) × (x % n < n)
mod_at_most x n h = omega arith

remains : (m : ℤ) (n : ℤ) → n ≢ pos 0 → Remains m (unsigned_abs n) (int_rem m n)
remains (pos x) n z =
    let h = mod_at_most x (unsigned_abs n) (omega (arith, ints)) in
    record { low = omega (arith, ints, clamps); high = omega (arith, ints, clamps); above = omega (arith, ints); below = omega (arith, ints) }
remains (negsuc x) n z =
    let h = mod_at_most (suc x) (unsigned_abs n) (omega (arith, ints)) in
    record { low = omega (arith, ints, clamps); high = omega (arith, ints, clamps); above = omega (arith, ints); below = omega (arith, ints) }

low_end : (l m r : ℤ) (k : ℕ) (t : Bool) → int_lt l (pos 0) ≡ t → l ≤ℤ m → int_min m (pos 0) ≤ℤ r → neg_ℤ (pos k) ≤ℤ r → cond t (int_max l (neg_ℤ (pos k))) (pos 0) ≤ℤ r
low_end l m r k true e h p q = omega (arith, ints, clamps)
low_end l m r k false e h p q = omega (arith, ints, clamps)

high_end : (l m r : ℤ) (k : ℕ) (t : Bool) → int_lt (pos 0) l ≡ t → m ≤ℤ l → r ≤ℤ int_max m (pos 0) → r ≤ℤ pos k → r ≤ℤ cond t (int_min l (pos k)) (pos 0)
high_end l m r k true e h p q = omega (arith, ints, clamps)
high_end l m r k false e h p q = omega (arith, ints, clamps)

low_ends : (l l2 : ℤ) (k k2 : ℕ) (t t2 : Bool) → int_lt l (pos 0) ≡ t → int_lt l2 (pos 0) ≡ t2 → l2 ≤ℤ l → k ≤ k2 → cond t2 (int_max l2 (neg_ℤ (pos k2))) (pos 0) ≤ℤ cond t (int_max l (neg_ℤ (pos k))) (pos 0)
low_ends l l2 k k2 true true e f h p = omega (arith, ints, clamps)
low_ends l l2 k k2 true false e f h p = absurd (omega (arith, ints))
low_ends l l2 k k2 false true e f h p = omega (arith, ints, clamps)
low_ends l l2 k k2 false false e f h p = omega (arith, ints)

high_ends : (l l2 : ℤ) (k k2 : ℕ) (t t2 : Bool) → int_lt (pos 0) l ≡ t → int_lt (pos 0) l2 ≡ t2 → l ≤ℤ l2 → k ≤ k2 → cond t (int_min l (pos k)) (pos 0) ≤ℤ cond t2 (int_min l2 (pos k2)) (pos 0)
high_ends l l2 k k2 true true e f h p = omega (arith, ints, clamps)
high_ends l l2 k k2 true false e f h p = absurd (omega (arith, ints))
high_ends l l2 k k2 false true e f h p = omega (arith, ints, clamps)
high_ends l l2 k k2 false false e f h p = omega (arith, ints)

-- whether both ends are zero
zero_from : (c d : ℤ) → (int_eq c (pos 0) && int_eq d (pos 0)) ≡ true → (c ≡ pos 0) × (d ≡ pos 0)
zero_from c d e =
    let parts = and_parts (int_eq c (pos 0)) (int_eq d (pos 0)) e in
    ((Decides-int_eq c (pos 0)).0 parts.0, (Decides-int_eq d (pos 0)).0 parts.1)

zero_test : (c d : ℤ) → c ≡ pos 0 → d ≡ pos 0 → (int_eq c (pos 0) && int_eq d (pos 0)) ≡ true
zero_test c d h k = and_from (int_eq c (pos 0)) (int_eq d (pos 0)) ((Decides-int_eq c (pos 0)).1 h) ((Decides-int_eq d (pos 0)).1 k)

-- divisors that aren't zero alone reach past zero
reach_some : (b : Bounds) → is_zero b ≡ false → 0 < reach b
reach_some b h =
    elim (cases_lt 0 (max (unsigned_abs b.low) (unsigned_abs b.high))) [
      | inl k ↦ k
      | inr k ↦ absurd (both_ways (is_zero b) h (zero_test b.low b.high (omega (arith, ints)) (omega (arith, ints))))
    ]

pub remainder_low_is : (a b : Bounds) (k : ℕ) (r : ℤ) → a.low <ℤ pos 0 → is_zero b ≡ false → k ≡ reach b → r ≡ int_max a.low (pos 1 -ℤ pos k) → r ≡ remainder_low a b
remainder_low_is a b k r h z e f =
    let some = reach_some b z in
    let same : (pos 1 -ℤ pos k) ≡ neg_ℤ (pos (reach b - 1)) = turned k (reach b) e some in
    rw (lt_test a.low (pos 0) h, ← same) f
  where
    turned : (k l : ℕ) → k ≡ l → 0 < l → (pos 1 -ℤ pos k) ≡ neg_ℤ (pos (l - 1))
    turned k l e h = omega (arith, ints)

pub remainder_high_is : (a b : Bounds) (k : ℕ) (r : ℤ) → pos 0 <ℤ a.high → is_zero b ≡ false → k ≡ reach b → r ≡ int_min a.high (pos k -ℤ pos 1) → r ≡ remainder_high a b
remainder_high_is a b k r h z e f =
    let some = reach_some b z in
    let same : (pos k -ℤ pos 1) ≡ pos (reach b - 1) = turned k (reach b) e some in
    rw (lt_test (pos 0) a.high h, ← same) f
  where
    turned : (k l : ℕ) → k ≡ l → 0 < l → (pos k -ℤ pos 1) ≡ pos (l - 1)
    turned k l e h = omega (arith, ints)

rem_holds : (a b : Bounds) (m n : ℤ) → Within a.low a.high m → Within b.low b.high n → n ≢ pos 0 → IsNumber (int_rem m n) → interval_holds (remainder a b) (int_rem m n) ≡ true
rem_holds a b m n w v z fits =
    let h = remains m n z in
    let near : unsigned_abs n ≤ reach b = near_zero in
    unless_holds (is_zero b) (cut (remainder_low a b) (remainder_high a b)) (int_rem m n)
    (λ e. let zero = zero_from b.low b.high e in z (omega (arith, ints)))
    (in_cut (remainder_low a b) (remainder_high a b) (int_rem m n)
    (low_end a.low m (int_rem m n) (reach b - 1) (int_lt a.low (pos 0)) refl w.above h.low (wider_low (unsigned_abs n) (reach b) (int_rem m n) near h.above))
    (high_end a.high m (int_rem m n) (reach b - 1) (int_lt (pos 0) a.high) refl w.below h.high (wider_high (unsigned_abs n) (reach b) (int_rem m n) near h.below))
    fits)
  where
    near_zero : unsigned_abs n ≤ max (unsigned_abs b.low) (unsigned_abs b.high)
    near_zero = omega (arith, ints)

    wider_low : (k l : ℕ) (r : ℤ) → k ≤ l → neg_ℤ (pos (k - 1)) ≤ℤ r → neg_ℤ (pos (l - 1)) ≤ℤ r
    wider_low k l r h p = omega (arith, ints)

    wider_high : (k l : ℕ) (r : ℤ) → k ≤ l → r ≤ℤ pos (k - 1) → r ≤ℤ pos (l - 1)
    wider_high k l r h p = omega (arith, ints)

rem_more : (a a2 b b2 : Bounds) → Ends a2.low a2.high a.low a.high → Ends b2.low b2.high b.low b.high → interval_leq (remainder a b) (remainder a2 b2) ≡ true
rem_more a a2 b b2 p q =
    unless_more (is_zero b) (is_zero b2)
    (cut (remainder_low a b) (remainder_high a b)) (cut (remainder_low a2 b2) (remainder_high a2 b2))
    (λ e. let zero = zero_from b2.low b2.high e in zero_test b.low b.high (omega (arith, ints)) (omega (arith, ints)))
    (cut_more (remainder_low a b) (remainder_high a b) (remainder_low a2 b2) (remainder_high a2 b2)
    (low_ends a.low a2.low (reach b - 1) (reach b2 - 1) (int_lt a.low (pos 0)) (int_lt a2.low (pos 0)) refl refl p.low wider)
    (high_ends a.high a2.high (reach b - 1) (reach b2 - 1) (int_lt (pos 0) a.high) (int_lt (pos 0) a2.high) refl refl p.high wider))
  where
    wider : max (unsigned_abs b.low) (unsigned_abs b.high) - 1 ≤ max (unsigned_abs b2.low) (unsigned_abs b2.high) - 1
    wider = omega (arith, ints)

-- ---- picks
apart_from : (a b : Bounds) → no_pick a b ≡ true → (b.high <ℤ a.low) ⊎ ((a.high +ℤ pos 63) <ℤ b.low)
apart_from a b e =
    elim (or_cases (int_lt b.high a.low) (int_lt (a.high +ℤ pos 63) b.low) e) [
      | inl h ↦ inl (lt_from b.high a.low h)
      | inr h ↦ inr (lt_from (a.high +ℤ pos 63) b.low h)
    ]

pick_holds : (a b : Bounds) (m n r : ℤ) → Within a.low a.high m → Within b.low b.high n → m ≤ℤ r → r ≤ℤ n → (n -ℤ m) ≤ℤ pos 63 → IsNumber r → interval_holds (pick a b) r ≡ true
pick_holds a b m n r w v h k l fits =
    unless_holds (no_pick a b) (cut (int_max a.low (b.low -ℤ pos 63)) (int_min b.high (a.high +ℤ pos 63))) r
    (λ e. elim (apart_from a b e) [ inl p ↦ omega (arith, ints) | inr p ↦ omega (arith, ints) ])
    (in_cut (int_max a.low (b.low -ℤ pos 63)) (int_min b.high (a.high +ℤ pos 63)) r (omega (arith, ints, clamps)) (omega (arith, ints, clamps)) fits)

pick_more : (a a2 b b2 : Bounds) → Ends a2.low a2.high a.low a.high → Ends b2.low b2.high b.low b.high → interval_leq (pick a b) (pick a2 b2) ≡ true
pick_more a a2 b b2 p q =
    unless_more (no_pick a b) (no_pick a2 b2)
    (cut (int_max a.low (b.low -ℤ pos 63)) (int_min b.high (a.high +ℤ pos 63)))
    (cut (int_max a2.low (b2.low -ℤ pos 63)) (int_min b2.high (a2.high +ℤ pos 63)))
    (λ e.
    elim (apart_from a2 b2 e) [
      | inl h ↦ or_left (int_lt b.high a.low) (int_lt (a.high +ℤ pos 63) b.low) (lt_test b.high a.low (omega (arith, ints)))
      | inr h ↦ or_right (int_lt b.high a.low) (int_lt (a.high +ℤ pos 63) b.low) (lt_test (a.high +ℤ pos 63) b.low (omega (arith, ints)))
    ])
    (cut_more
    (int_max a.low (b.low -ℤ pos 63)) (int_min b.high (a.high +ℤ pos 63))
    (int_max a2.low (b2.low -ℤ pos 63)) (int_min b2.high (a2.high +ℤ pos 63))
    (omega (arith, ints, clamps)) (omega (arith, ints, clamps)))

-- ---- all operations
bounds_hold : (op : Arith) (a b : Bounds) (m n r : ℤ) → Within a.low a.high m → Within b.low b.high n → Gives op m n r → IsNumber r → interval_holds (bounds_arith op a b) r ≡ true
bounds_hold Add a b m n r w v e fits = in_cut (a.low +ℤ b.low) (a.high +ℤ b.high) r (omega (arith, ints)) (omega (arith, ints)) fits
bounds_hold Sub a b m n r w v e fits = in_cut (a.low -ℤ b.high) (a.high -ℤ b.low) r (omega (arith, ints)) (omega (arith, ints)) fits
bounds_hold Mul a b m n r w v e fits = mul_holds a b m n r w v e fits
bounds_hold Div a b m n r w v e fits = rw e.1 (div_holds a b m n w v e.0 (rw e.1 at fits))
bounds_hold Rem a b m n r w v e fits = rw e.1 (rem_holds a b m n w v e.0 (rw e.1 at fits))
bounds_hold Pick a b m n r w v e fits = pick_holds a b m n r w v e.0 e.1 e.2 fits

bounds_more : (op : Arith) (a a2 b b2 : Bounds) → Ends a2.low a2.high a.low a.high → Ends b2.low b2.high b.low b.high → interval_leq (bounds_arith op a b) (bounds_arith op a2 b2) ≡ true
bounds_more Add a a2 b b2 p q = cut_more (a.low +ℤ b.low) (a.high +ℤ b.high) (a2.low +ℤ b2.low) (a2.high +ℤ b2.high) (omega (arith, ints)) (omega (arith, ints))
bounds_more Sub a a2 b b2 p q = cut_more (a.low -ℤ b.high) (a.high -ℤ b.low) (a2.low -ℤ b2.high) (a2.high -ℤ b2.low) (omega (arith, ints)) (omega (arith, ints))
bounds_more Mul a a2 b b2 p q = mul_more a a2 b b2 p q
bounds_more Div a a2 b b2 p q = div_more a a2 b b2 p q
bounds_more Rem a a2 b b2 p q = rem_more a a2 b b2 p q
bounds_more Pick a a2 b b2 p q = pick_more a a2 b b2 p q

pub arith_holds : (op : Arith) (a b : Interval) (m n r : ℤ) → interval_holds a m ≡ true → interval_holds b n ≡ true → Gives op m n r → IsNumber r → interval_holds (both (bounds_arith op) a b) r ≡ true
arith_holds op Empty b m n r h k e fits = absurd (false≢true h)
arith_holds op (Range a) Empty m n r h k e fits = absurd (false≢true k)
arith_holds op (Range a) (Range b) m n r h k e fits = bounds_hold op a b m n r (range_within a m h) (range_within b n k) e fits

pub arith_leq : (op : Arith) (a a2 b b2 : Interval) → interval_leq a a2 ≡ true → interval_leq b b2 ≡ true → interval_leq (both (bounds_arith op) a b) (both (bounds_arith op) a2 b2) ≡ true
arith_leq op Empty a2 b b2 h k = refl
arith_leq op (Range a) a2 Empty b2 h k = refl
arith_leq op (Range a) Empty (Range b) b2 h k = absurd (false≢true h)
arith_leq op (Range a) (Range a2) (Range b) Empty h k = absurd (false≢true k)
arith_leq op (Range a) (Range a2) (Range b) (Range b2) h k = bounds_more op a a2 b b2 (ends_of a a2 h) (ends_of b b2 k)

pub neg_holds : (a : Interval) (n : ℤ) → IsNumber (neg_ℤ n) → interval_holds a n ≡ true → interval_holds (interval_neg a) (neg_ℤ n) ≡ true
neg_holds Empty n fits h = absurd (false≢true h)
neg_holds (Range a) n fits h = let w = range_within a n h in in_cut (neg_ℤ a.high) (neg_ℤ a.low) (neg_ℤ n) (omega (arith, ints)) (omega (arith, ints)) fits

pub neg_leq : (a a2 : Interval) → interval_leq a a2 ≡ true → interval_leq (interval_neg a) (interval_neg a2) ≡ true
neg_leq Empty a2 h = refl
neg_leq (Range a) Empty h = absurd (false≢true h)
neg_leq (Range a) (Range a2) h =
    let e = leq_from a a2 h in
    cut_more (neg_ℤ a.high) (neg_ℤ a.low) (neg_ℤ a2.high) (neg_ℤ a2.low) (omega (arith, ints)) (omega (arith, ints))
