-- Arithmetic on intervals, by the ends of the results.
use Rattle.std.specs.Prelude.{ℕ, ◌-◌, max, ℤ, pos, negsuc, ◌+ℤ◌, ◌-ℤ◌, ◌*ℤ◌, neg_ℤ, Bool, ◌&&◌, ◌||◌, if◌then◌else◌, Option, Some, None, int_lt, int_le, int_div, unsigned_abs}
use Rattle.std.specs.Int.{int_max, int_min}
use Rattle.std.specs.Ordering.{int_eq}
use Rattle.sk_value.specs.declared.arith.Arith.{Arith}
use Rattle.sk_value.specs.declared.arith.Arith.TheVariants.{Add, Sub, Mul, Div, Rem, Pick}
use Rattle.sk_interval.specs.declared.bounds.Bounds.{Bounds}
use Rattle.sk_interval.specs.declared.bounds.Interval.{Interval}
use Rattle.sk_interval.specs.declared.bounds.Interval.TheVariants.{Empty, Range}
use Rattle.sk_interval.specs.declared.span.Span.{Span}
use Rattle.sk_interval.specs.Cuts.{cut}

-- two ends, before the number range is looked at
abbrev pub span : ℤ → ℤ → Span
span low high = record { low = low; high = high }

-- the least and the greatest of two
abbrev pub span_of : ℤ → ℤ → Span
span_of p q = span (int_min p q) (int_max p q)

-- the hull of two spans
abbrev pub span_hull : Span → Span → Span
span_hull s t = span (int_min s.low t.low) (int_max s.high t.high)

-- the least and the greatest of the four results at the ends
abbrev pub corners : (ℤ → ℤ → ℤ) → ℤ → ℤ → ℤ → ℤ → Span
corners f a b c d = span_hull (span_of (f a c) (f a d)) (span_of (f b c) (f b d))

-- the numbers of a span
abbrev pub cut_span : Span → Interval
cut_span s = cut s.low s.high

-- the quotients by the divisors from low to high, if any
abbrev pub quotients : Bounds → ℤ → ℤ → Option Span
quotients a low high = if int_le low high then Some (corners int_div a.low a.high low high) else None

-- the hull of what is there, cut
abbrev pub join_spans : Option Span → Option Span → Interval
join_spans (Some s) (Some t) = cut_span (span_hull s t)
join_spans (Some s) None = cut_span s
join_spans None (Some t) = cut_span t
join_spans None None = Empty

-- by the negative divisors and by the positive ones
abbrev pub divide : Bounds → Bounds → Interval
divide a b = join_spans (quotients a b.low (int_min b.high (negsuc 0))) (quotients a (int_max b.low (pos 1)) b.high)

-- the greatest distance from zero
abbrev pub reach : Bounds → ℕ
reach b = max (unsigned_abs b.low) (unsigned_abs b.high)

-- whether the bounds hold zero alone
abbrev pub is_zero : Bounds → Bool
is_zero b = int_eq b.low (pos 0) && int_eq b.high (pos 0)

-- the least remainder: not below the dividends, nor as far from zero as the divisors
abbrev pub remainder_low : Bounds → Bounds → ℤ
remainder_low a b = if int_lt a.low (pos 0) then int_max a.low (neg_ℤ (pos (reach b - 1))) else pos 0

-- the greatest remainder, likewise
abbrev pub remainder_high : Bounds → Bounds → ℤ
remainder_high a b = if int_lt (pos 0) a.high then int_min a.high (pos (reach b - 1)) else pos 0

-- the remainders have the signs of the dividends; nothing is divided by zero alone
abbrev pub remainder : Bounds → Bounds → Interval
remainder a b = if is_zero b then Empty else cut (remainder_low a b) (remainder_high a b)

-- whether each number of the second lies more than 63 above each of the first
abbrev pub is_far : Bounds → Bounds → Bool
is_far a b = int_lt (a.high +ℤ pos 63) b.low

-- whether no number of the first is at most one of the second and near it
abbrev pub no_pick : Bounds → Bounds → Bool
no_pick a b = int_lt b.high a.low || is_far a b

-- no result is below the first, nor more than 63 below the second
abbrev pub pick_low : Bounds → Bounds → ℤ
pick_low a b = int_max a.low (b.low -ℤ pos 63)

-- no result is above the second, nor more than 63 above the first
abbrev pub pick_high : Bounds → Bounds → ℤ
pick_high a b = int_min b.high (a.high +ℤ pos 63)

-- the numbers from one of the first to one of the second, at most 63 apart
abbrev pub pick : Bounds → Bounds → Interval
pick a b = if no_pick a b then Empty else cut (pick_low a b) (pick_high a b)

-- the ends of the results
abbrev pub bounds_arith : Arith → Bounds → Bounds → Interval
bounds_arith Add a b = cut (a.low +ℤ b.low) (a.high +ℤ b.high)
bounds_arith Sub a b = cut (a.low -ℤ b.high) (a.high -ℤ b.low)
bounds_arith Mul a b = cut_span (corners (λ m n. m *ℤ n) a.low a.high b.low b.high)
bounds_arith Div a b = divide a b
bounds_arith Rem a b = remainder a b
bounds_arith Pick a b = pick a b

-- the negations
abbrev pub interval_neg : Interval → Interval
interval_neg Empty = Empty
interval_neg (Range a) = cut (neg_ℤ a.high) (neg_ℤ a.low)
