-- The thresholds of a program are one list.
use Rattle.std.proofs.Common.{◌≡◌, ◌+◌, ◌<◌, ℕ, ℤ, ◌<ℤ◌, List, Some, get_or, length, arith}
use Rattle.std.specs.Prelude.{slice_get}
use Rattle.std.specs.List.{AllPairs}
use Rattle.std.proofs.lemmas.Int.{ints}
use Rattle.std.proofs.lemmas.Option.{slice_get-get_or}
use Rattle.sk_deriv.proofs.Sorted.{same_lists, member_from_contains, contains_from_member}
use Rattle.sk_lattice.specs.Thresholds.{IsThresholds, AreMarksOf}

-- in an increasing list each lies below those after it
pairs : (xs : List ℤ) → ((i j : ℕ) (m n : ℤ) → i < j → slice_get xs i ≡ Some m → slice_get xs j ≡ Some n → m <ℤ n) → AllPairs (λ m n. m <ℤ n) xs
pairs xs h i j d l m = h i j (get_or xs i d) (get_or xs j d) l (slice_get-get_or xs i d (omega (arith, l, m))) (slice_get-get_or xs j d m)

pub marks_are_one : (literals a b : List ℤ) → IsThresholds a → AreMarksOf literals a → IsThresholds b → AreMarksOf literals b → a ≡ b
marks_are_one literals a b up of down also =
    same_lists (λ m n. m <ℤ n) (λ m h. omega (arith, ints, h)) (λ l m n h k. omega (arith, ints, h, k)) a b (pairs a up.increasing) (pairs b down.increasing)
    (λ m k. member_from_contains b m ((also.same m).1 ((of.same m).0 (contains_from_member a m k))))
    (λ m k. member_from_contains a m ((of.same m).1 ((also.same m).0 (contains_from_member b m k))))
