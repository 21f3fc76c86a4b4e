-- Places within the branches of a branch bone, counted by their sizes.
use Rattle.std.proofs.Common.{◌≡◌, ℕ, zero, suc, ◌+◌, ◌≤◌, ◌<◌, ◌-◌, List, [], ◌∷◌, length, take, sum, refl, ap, arith, inl, inr}
use Rattle.std.specs.Prelude.{slice_index, ◌⊎◌}
use Rattle.std.proofs.lemmas.Bool.{cases_lt}
use Rattle.std.proofs.lemmas.List.Sums.{sum_by-cons}

-- the place lies in the branch of this number, where the branches begin at place 0
pub record IsWithin (counts : List ℕ) (branch place : ℕ) : Type 0 where
  pub from : sum (take branch counts) ≤ place
  pub below : place < sum (take branch counts) + slice_index counts branch

-- a size more
pub one_more : (count : ℕ) (counts : List ℕ) → sum (count ∷ counts) ≡ count + sum counts
one_more count counts = sum_by-cons (λ (n : ℕ). n) count counts

-- a branch ends within them all
pub branch_ends : (counts : List ℕ) (branch : ℕ) → sum (take branch counts) + slice_index counts branch ≤ sum counts
branch_ends [] zero = omega arith
branch_ends [] (suc branch) = omega arith
branch_ends (count ∷ counts) zero = omega (arith, one_more count counts)
branch_ends (count ∷ counts) (suc branch) =
    omega (arith, one_more count counts, one_more count (take branch counts), branch_ends counts branch)

not_in_none : (branch place : ℕ) → IsWithin [] branch place → ⊥
not_in_none zero place w = omega (arith, w.below)
not_in_none (suc branch) place w = omega (arith, w.below)

-- no place lies in two branches
pub one_branch_only : (counts : List ℕ) (a b place : ℕ) → IsWithin counts a place → IsWithin counts b place → a ≡ b
one_branch_only [] a b place p q = absurd (not_in_none a place p)
one_branch_only (count ∷ counts) zero zero place p q = refl
one_branch_only (count ∷ counts) zero (suc b) place p q = absurd (omega (arith, p.below, q.from, one_more count (take b counts)))
one_branch_only (count ∷ counts) (suc a) zero place p q = absurd (omega (arith, q.below, p.from, one_more count (take a counts)))
one_branch_only (count ∷ counts) (suc a) (suc b) place p q =
    ap suc (one_branch_only counts a b (place - count)
    (record { from = omega (arith, p.from, one_more count (take a counts)); below = omega (arith, p.from, p.below, one_more count (take a counts)) })
    (record { from = omega (arith, q.from, one_more count (take b counts)); below = omega (arith, q.from, q.below, one_more count (take b counts)) }))

-- each place below the sum lies in a branch
pub branch_of_place : (counts : List ℕ) (place : ℕ) → place < sum counts → (branch : ℕ) × (branch < length counts) × IsWithin counts branch place
branch_of_place [] place h = absurd (omega (arith, h))
branch_of_place (count ∷ counts) place h = by (cases_lt place count) (λ w. branch_of_place counts (place - count) w)
  where
    by : (place < count) ⊎ (count ≤ place) →
        (place - count < sum counts → (branch : ℕ) × (branch < length counts) × IsWithin counts branch (place - count)) →
        (branch : ℕ) × (branch < length (count ∷ counts)) × IsWithin (count ∷ counts) branch place
    by (inl w) later = (0, omega arith, record { from = omega arith; below = omega (arith, w) })
    by (inr w) later =
        let r = later (omega (arith, h, w, one_more count counts)) in (
          suc r.0,
          omega (arith, r.1),
          record {
            from = omega (arith, w, r.2.from, one_more count (take r.0 counts));
            below = omega (arith, w, r.2.below, one_more count (take r.0 counts));
          },
        )
