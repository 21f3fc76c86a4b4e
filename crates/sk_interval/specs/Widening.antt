-- Widening of intervals at thresholds, and the rank that it lowers.
use Rattle.std.specs.Prelude.{ℕ, ◌+◌, ◌*◌, ℤ, if◌then◌else◌, List, [], ◌∷◌, length, ◌≤ℤ◌, int_lt, int_le}
use Rattle.std.specs.Int.{int_max, int_min}
use Rattle.std.specs.List.{Contains, count_by}
use Rattle.sk_value.specs.Numbers.{IsNumber}
use Rattle.sk_lattice.specs.Thresholds.{LEAST, GREATEST, IsThresholds}
use Rattle.sk_interval.specs.declared.bounds.Bounds.{Bounds}
use Rattle.sk_interval.specs.declared.bounds.Interval.{Interval}
use Rattle.sk_interval.specs.declared.bounds.Interval.TheVariants.{Empty, Range}
use Rattle.sk_interval.specs.Cuts.{cut}

-- the greatest mark at most n
abbrev pub floor_mark : List ℤ → ℤ → ℤ
floor_mark [] n = LEAST
floor_mark (m ∷ ms) n = if int_le m n then int_max m (floor_mark ms n) else floor_mark ms n

-- the least mark at least n
abbrev pub ceiling_mark : List ℤ → ℤ → ℤ
ceiling_mark [] n = GREATEST
ceiling_mark (m ∷ ms) n = if int_le n m then int_min m (ceiling_mark ms n) else ceiling_mark ms n

-- the low end stays where the new one is no lower, else it goes down to a mark
abbrev pub widen_low : Bounds → Bounds → List ℤ → ℤ
widen_low a b marks = if int_le a.low b.low then a.low else floor_mark marks b.low

-- the high end likewise
abbrev pub widen_high : Bounds → Bounds → List ℤ → ℤ
widen_high a b marks = if int_le b.high a.high then a.high else ceiling_mark marks b.high

-- an end that the new interval passes goes out to the next mark
abbrev pub interval_widen : Interval → Interval → List ℤ → Interval
interval_widen Empty b marks = b
interval_widen (Range a) Empty marks = Range a
interval_widen (Range a) (Range b) marks = cut (widen_low a b marks) (widen_high a b marks)

-- how many marks lie below the low end, and above the high end
abbrev pub marks_below : Bounds → List ℤ → ℕ
marks_below a = count_by (λ m. int_lt m a.low)

abbrev pub marks_above : Bounds → List ℤ → ℕ
marks_above a = count_by (λ m. int_lt a.high m)

-- how many marks lie outside an interval; the empty one ranks above all others
abbrev pub interval_rank : Interval → List ℤ → ℕ
interval_rank Empty marks = 2 * length marks + 1
interval_rank (Range a) marks = marks_below a marks + marks_above a marks

-- a mark at most n, and no mark between
pub record IsFloor (marks : List ℤ) (n floor : ℤ) : Type 0 where
  pub mark : Contains marks floor
  pub below : floor ≤ℤ n
  pub nearest : (m : ℤ) → Contains marks m → m ≤ℤ n → m ≤ℤ floor

-- a mark at least n, and no mark between
pub record IsCeiling (marks : List ℤ) (n ceiling : ℤ) : Type 0 where
  pub mark : Contains marks ceiling
  pub above : n ≤ℤ ceiling
  pub nearest : (m : ℤ) → Contains marks m → n ≤ℤ m → ceiling ≤ℤ m

-- each number has its nearest thresholds
abbrev pub MarksAreNearest : Type 0
MarksAreNearest = (marks : List ℤ) → IsThresholds marks → (n : ℤ) → IsNumber n → IsFloor marks n (floor_mark marks n) × IsCeiling marks n (ceiling_mark marks n)
