-- Intervals as sets of numbers.
use Rattle.std.specs.Prelude.{◌≡◌, ◌↔◌, ℤ, ◌≤ℤ◌, true}
use Rattle.sk_value.specs.declared.arith.Refine.{Refine}
use Rattle.sk_value.specs.Numbers.{IsNumber}
use Rattle.sk_interval.specs.Cuts.{cut}
use Rattle.sk_interval.specs.declared.bounds.Interval.{Interval}
use Rattle.sk_interval.specs.Intervals.{interval_domain}

-- a cut holds the numbers between its ends, the order is inclusion, and the sides of a refinement are empty together
pub record IntervalsAreSets : Type 0 where
  pub cut : (low high n : ℤ) → (interval_domain.holds (cut low high) n ≡ true) ↔ ((low ≤ℤ n) × (n ≤ℤ high) × IsNumber n)
  pub order : (a b : Interval) → (interval_domain.leq a b ≡ true) ↔ ((n : ℤ) → interval_domain.holds a n ≡ true → interval_domain.holds b n ≡ true)
  pub refined : (op : Refine) (a b : Interval) → interval_domain.is_empty (interval_domain.refine op a b).0 ≡ interval_domain.is_empty (interval_domain.refine op a b).1
