-- The cells of stores, read and written on both sides.
use Rattle.std.proofs.Common.{◌≡◌, ℕ, zero, suc, Bool, true, List, [], ◌∷◌, replicate, None, refl}
use Rattle.std.specs.Prelude.{slice_set}
use Rattle.std.proofs.lemmas.Bool.{and_parts, and_from, false≢true}
use lib.Pointwise.{pointwise}
use Rattle.sk_filter.specs.Arguments.{State}
use Rattle.sk_filter.specs.Results.{value_at}
use Rattle.sk_lattice.specs.declared.cell.AbsCell.{AbsCell}
use Rattle.sk_lattice.specs.Domain.{Domain}
use Rattle.sk_lattice.specs.Covers.{cell_covers}
use Rattle.sk_lattice.specs.Padding.{unset_cell}
use Rattle.sk_absfilter.specs.Abstract.{cell_at}

-- entries put at one place of two lists
pub pairs_set : {A B : Type 0} (test : A → B → Bool) (xs : List A) (ys : List B) (n : ℕ) (x : A) (y : B) → pointwise test xs ys ≡ true → test x y ≡ true → pointwise test (slice_set xs n x) (slice_set ys n y) ≡ true
pairs_set test [] [] n x y h k = refl
pairs_set test [] (b ∷ ys) n x y h k = absurd (false≢true h)
pairs_set test (a ∷ xs) [] n x y h k = absurd (false≢true h)
pairs_set test (a ∷ xs) (b ∷ ys) zero x y h k = and_from _ _ k (and_parts _ _ h).1
pairs_set test (a ∷ xs) (b ∷ ys) (suc n) x y h k = let p = and_parts _ _ h in and_from _ _ p.0 (pairs_set test xs ys n x y p.1 k)

module _ (D : Type 0) (d : Domain D) where
  pub cell_at_covered : (cells : List (AbsCell D)) (s : State) (n : ℕ) → pointwise (cell_covers d) cells s ≡ true → cell_covers d (cell_at d cells n) (value_at s n) ≡ true
  cell_at_covered [] [] n h = refl
  cell_at_covered [] (y ∷ s) n h = absurd (false≢true h)
  cell_at_covered (x ∷ cells) [] n h = absurd (false≢true h)
  cell_at_covered (x ∷ cells) (y ∷ s) zero h = (and_parts _ _ h).0
  cell_at_covered (x ∷ cells) (y ∷ s) (suc n) h = cell_at_covered cells s n (and_parts _ _ h).1

  pub unset_covered : (names : ℕ) → pointwise (cell_covers d) (replicate names (unset_cell d)) (replicate names None) ≡ true
  unset_covered zero = refl
  unset_covered (suc names) = unset_covered names
