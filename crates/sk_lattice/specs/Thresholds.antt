-- The thresholds of a program.
use Rattle.std.specs.Prelude.{◌≡◌, ◌↔◌, ◌+◌, ◌-◌, ◌^◌, ◌<◌, ◌≤◌, ℕ, ℤ, pos, negsuc, ◌+ℤ◌, ◌-ℤ◌, ◌<ℤ◌, if◌then◌else◌, List, [], ◌∷◌, ◌++◌, length, slice_get, Some}
use Rattle.std.specs.List.{Contains}
use Rattle.sk_value.specs.Numbers.{is_number}

-- the least and the greatest number
abbrev pub LEAST : ℤ
LEAST = negsuc (2 ^ 63 - 1)

abbrev pub GREATEST : ℤ
GREATEST = pos (2 ^ 63 - 1)

-- a number, and nothing past the range
abbrev pub in_range : ℤ → List ℤ
in_range m = if is_number m then m ∷ [] else []

-- those of v - 1, v, v + 1 that are numbers
abbrev pub near : ℤ → List ℤ
near v = in_range (v -ℤ pos 1) ++ (in_range v ++ in_range (v +ℤ pos 1))

-- the marks of every program
abbrev pub standard : List ℤ
standard = LEAST ∷ negsuc 0 ∷ pos 0 ∷ pos 1 ∷ GREATEST ∷ []

abbrev pub near_all : List ℤ → List ℤ
near_all [] = []
near_all (v ∷ vs) = near v ++ near_all vs

abbrev pub all_marks : List ℤ → List ℤ
all_marks literals = standard ++ near_all literals

-- the marks are just those of the literals
pub record AreMarksOf (literals marks : List ℤ) : Type 0 where
  pub same : (m : ℤ) → Contains marks m ↔ Contains (all_marks literals) m

-- at most 2 ^ 32 numbers, increasing from the least to the greatest
pub record IsThresholds (marks : List ℤ) : Type 0 where
  pub at_most : length marks ≤ 2 ^ 32
  pub least : slice_get marks 0 ≡ Some LEAST
  pub greatest : (k : ℕ) → k < length marks → length marks ≤ k + 1 → slice_get marks k ≡ Some GREATEST
  pub increasing : (i j : ℕ) (m n : ℤ) → i < j → slice_get marks i ≡ Some m → slice_get marks j ≡ Some n → m <ℤ n
