-- Whole numbers: the range of a number, and what the operations give before the range is looked at.
use Rattle.std.specs.Prelude.{◌≡◌, ◌≢◌, ℕ, zero, suc, ◌^◌, ℤ, pos, negsuc, nat_abs, ◌+ℤ◌, ◌-ℤ◌, ◌*ℤ◌, ◌≤ℤ◌, int_lt, int_le, int_div, int_rem, FitsSigned, nat_lt, Bool, not, ◌&&◌, if◌then◌else◌, List, [], ◌∷◌, Contains, ◌↔◌}
use Rattle.std.specs.Int.{w64}
use Rattle.std.specs.Ordering.{int_eq}
use Rattle.sk_value.specs.declared.arith.Arith.{Arith}
use Rattle.sk_value.specs.declared.arith.Arith.TheVariants.{Add, Sub, Mul, Div, Rem, Pick}
use Rattle.sk_value.specs.declared.arith.Compare.{Compare}
use Rattle.sk_value.specs.declared.arith.Compare.TheVariants.{Lt, Le, Eq}
use Rattle.sk_value.specs.declared.arith.Refine.{Refine}
use Rattle.sk_value.specs.declared.arith.Refine.TheVariants.{Below, AtLeast, Same, Differ}

-- a number from -2^63 to 2^63 - 1
abbrev pub IsNumber : ℤ → Type 0
IsNumber z = FitsSigned w64 z

-- whether it is one
abbrev pub is_number : ℤ → Bool
is_number (pos n) = nat_lt n (2 ^ 63)
is_number (negsuc n) = nat_lt n (2 ^ 63)

-- so many numbers, from the first one on
abbrev pub numbers_from : ℤ → ℕ → List ℤ
numbers_from first zero = []
numbers_from first (suc more) = first ∷ numbers_from (first +ℤ pos 1) more

-- The whole numbers that the operation gives on m and n, in order, before the range is looked at: the quotient
-- is cut toward zero, nothing is divided by zero, and Pick gives the numbers from m to n where there are 1 to 64.
abbrev pub whole_results : Arith → ℤ → ℤ → List ℤ
whole_results Add m n = (m +ℤ n) ∷ []
whole_results Sub m n = (m -ℤ n) ∷ []
whole_results Mul m n = (m *ℤ n) ∷ []
whole_results Div m n = if int_eq n (pos 0) then [] else int_div m n ∷ []
whole_results Rem m n = if int_eq n (pos 0) then [] else (m -ℤ (n *ℤ int_div m n)) ∷ []
whole_results Pick m n = if int_le m n && int_le (n -ℤ m) (pos 63) then numbers_from m (suc (nat_abs (n -ℤ m))) else []

-- whether m compares so with n
abbrev pub compares : Compare → ℤ → ℤ → Bool
compares Lt m n = int_lt m n
compares Le m n = int_le m n
compares Eq m n = int_eq m n

-- whether the pair of m and n is kept
abbrev pub keeps : Refine → ℤ → ℤ → Bool
keeps Below m n = int_lt m n
keeps AtLeast m n = int_le n m
keeps Same m n = int_eq m n
keeps Differ m n = not (int_eq m n)

-- r is a whole number that the operation gives on m and n
abbrev pub Gives : Arith → ℤ → ℤ → ℤ → Type 0
Gives Add m n r = r ≡ m +ℤ n
Gives Sub m n r = r ≡ m -ℤ n
Gives Mul m n r = r ≡ m *ℤ n
Gives Div m n r = (n ≢ pos 0) × (r ≡ int_div m n)
Gives Rem m n r = (n ≢ pos 0) × (r ≡ int_rem m n)
Gives Pick m n r = (m ≤ℤ r) × (r ≤ℤ n) × ((n -ℤ m) ≤ℤ pos 63)

-- r is a result of the operation on m and n, all of them numbers
pub record HasResult (op : Arith) (m n r : ℤ) : Type 0 where
  pub left : IsNumber m
  pub right : IsNumber n
  pub result : IsNumber r
  pub gives : Gives op m n r

-- the law that both say the same: an operation gives just the numbers of its list
abbrev pub ResultsAreGiven : Type 0
ResultsAreGiven = (op : Arith) (m n r : ℤ) → Contains (whole_results op m n) r ↔ Gives op m n r
