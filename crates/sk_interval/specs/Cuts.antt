-- Intervals as sets of numbers: what they hold, their order, hull and intersection.
use Rattle.std.proofs.Common.{refl}
use Rattle.std.specs.Prelude.{◌≡◌, ℤ, Bool, true, false, ◌&&◌, int_le}
use Rattle.std.specs.Int.{int_max, int_min}
use Rattle.sk_lattice.specs.Thresholds.{LEAST, GREATEST}
use Rattle.sk_interval.specs.declared.bounds.Bounds.{Bounds}
use Rattle.sk_interval.specs.declared.bounds.Interval.{Interval}
use Rattle.sk_interval.specs.declared.bounds.Interval.TheVariants.{Empty, Range}
use Rattle.sk_interval.specs.Ends.{are_bounds, low_fits_from, high_fits_from, ordered_from}

-- [low, high] where these are numbers in order, else empty
abbrev pub interval_if : (low high : ℤ) (t : Bool) → are_bounds low high ≡ t → Interval
interval_if low high true e = Range (record { low = low; high = high; low_fits = low_fits_from low high e; high_fits = high_fits_from low high e; ordered = ordered_from low high e })
interval_if low high false e = Empty

-- the numbers from low to high: [low, high] met with the number range
unfoldable pub cut : ℤ → ℤ → Interval
cut low high = interval_if (int_max low LEAST) (int_min high GREATEST) (are_bounds (int_max low LEAST) (int_min high GREATEST)) refl

-- whether n lies between the bounds
abbrev pub interval_holds : Interval → ℤ → Bool
interval_holds Empty n = false
interval_holds (Range a) n = int_le a.low n && int_le n a.high

-- whether nothing is held
abbrev pub interval_is_empty : Interval → Bool
interval_is_empty Empty = true
interval_is_empty (Range a) = false

-- whether the first lies within the second
abbrev pub interval_leq : Interval → Interval → Bool
interval_leq Empty b = true
interval_leq (Range a) Empty = false
interval_leq (Range a) (Range b) = int_le b.low a.low && int_le a.high b.high

-- from the lower low end to the higher high end
abbrev pub hull_bounds : Bounds → Bounds → Interval
hull_bounds a b = cut (int_min a.low b.low) (int_max a.high b.high)

-- the hull
abbrev pub hull : Interval → Interval → Interval
hull Empty b = b
hull (Range a) Empty = Range a
hull (Range a) (Range b) = hull_bounds a b

-- an operation on an empty argument is empty
abbrev pub both : (Bounds → Bounds → Interval) → Interval → Interval → Interval
both f (Range a) (Range b) = f a b
both f (Range a) Empty = Empty
both f Empty b = Empty

-- from the higher low end to the lower high end
abbrev pub meet_bounds : Bounds → Bounds → Interval
meet_bounds a b = cut (int_max a.low b.low) (int_min a.high b.high)

-- the intersection
abbrev pub intersection : Interval → Interval → Interval
intersection = both meet_bounds
