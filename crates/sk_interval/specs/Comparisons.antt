-- Comparisons of intervals, and what a kept comparison leaves of both sides.
use Rattle.std.specs.Prelude.{ℤ, pos, ◌+ℤ◌, ◌-ℤ◌, Bool, false, not, ◌&&◌, if◌then◌else◌, int_lt, int_le}
use Rattle.std.specs.Int.{int_max, int_min}
use Rattle.std.specs.Ordering.{int_eq}
use Rattle.sk_value.specs.declared.arith.Compare.{Compare}
use Rattle.sk_value.specs.declared.arith.Compare.TheVariants.{Lt, Le, Eq}
use Rattle.sk_value.specs.declared.arith.Refine.{Refine}
use Rattle.sk_value.specs.declared.arith.Refine.TheVariants.{Below, AtLeast, Same, Differ}
use Rattle.sk_lattice.specs.declared.truth.AbsBool.{AbsBool}
use Rattle.sk_interval.specs.declared.bounds.Bounds.{Bounds}
use Rattle.sk_interval.specs.declared.bounds.Interval.{Interval}
use Rattle.sk_interval.specs.declared.bounds.Interval.TheVariants.{Empty, Range}
use Rattle.sk_interval.specs.Cuts.{cut, interval_is_empty, meet_bounds}

-- whether the bounds hold one number alone
abbrev pub is_single : Bounds → Bool
is_single a = int_eq a.low a.high

-- whether both hold one and the same number alone
abbrev pub is_one_number : Bounds → Bounds → Bool
is_one_number a b = is_single a && (is_single b && int_eq a.low b.low)

-- whether true and whether false is among the answers
abbrev pub truths : Bool → Bool → AbsBool
truths t f = record { has_true = t; has_false = f }

-- which answers numbers of both may have
abbrev pub bounds_compare : Compare → Bounds → Bounds → AbsBool
bounds_compare Lt a b = truths (int_lt a.low b.high) (int_le b.low a.high)
bounds_compare Le a b = truths (int_le a.low b.high) (int_lt b.low a.high)
bounds_compare Eq a b = truths (not (interval_is_empty (meet_bounds a b))) (not (is_one_number a b))

-- an empty side has no answer
abbrev pub interval_compare : Compare → Interval → Interval → AbsBool
interval_compare op (Range a) (Range b) = bounds_compare op a b
interval_compare op (Range a) Empty = truths false false
interval_compare op Empty b = truths false false

-- the low end, or the next number where it is the second's
abbrev pub low_without : Bounds → Bounds → ℤ
low_without a b = if int_eq a.low b.low then a.low +ℤ pos 1 else a.low

-- the high end, or the number before it where it is the second's
abbrev pub high_without : Bounds → Bounds → ℤ
high_without a b = if int_eq a.high b.low then a.high -ℤ pos 1 else a.high

-- the first without the second's number at its ends, where that is a single one
abbrev pub without : Bounds → Bounds → Interval
without a b = if is_single b then cut (low_without a b) (high_without a b) else Range a

-- what is left of the first
abbrev pub left_bounds : Refine → Bounds → Bounds → Interval
left_bounds Below a b = cut a.low (int_min a.high (b.high -ℤ pos 1))
left_bounds AtLeast a b = cut (int_max a.low b.low) a.high
left_bounds Same a b = meet_bounds a b
left_bounds Differ a b = without a b

-- what is left of the second
abbrev pub right_bounds : Refine → Bounds → Bounds → Interval
right_bounds Below a b = cut (int_max b.low (a.low +ℤ pos 1)) b.high
right_bounds AtLeast a b = cut b.low (int_min b.high a.high)
right_bounds Same a b = meet_bounds a b
right_bounds Differ a b = without b a
