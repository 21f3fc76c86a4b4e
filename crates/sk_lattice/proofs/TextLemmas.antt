-- Texts of cells and of the names that may be set.
use Rattle.std.proofs.Common.{◌≡◌, ℕ, zero, suc, ◌≤◌, Bool, true, false, not, cond, List, [], ◌∷◌, ◌++◌, length, drop, Option, Some, refl, sym, ap, ◌∙◌, arith, append_assoc}
use Rattle.std.specs.Prelude.{codes, slice_get, min}
use Rattle.std.specs.List.{filter, zip}
use Rattle.sk_base.specs.Sink.{AppendsPrefix}
use Rattle.sk_value.proofs.Texts.{Underway, begun, further, stopped, refused}
use Rattle.sk_lattice.specs.declared.cell.AbsCell.{AbsCell}
use Rattle.sk_lattice.specs.Domain.{Domain}
use Rattle.sk_lattice.specs.Empty.{val_is_empty}
use Rattle.sk_lattice.specs.Texts.{entries}

-- the first of three parts was put in part, or the second was refused
pub first_stopped : (old next a b c : List ℕ) → AppendsPrefix (Some old) (Some next) a → AppendsPrefix (Some old) (Some next) (a ++ b ++ c)
first_stopped old next a b c last = stopped old old next (a ++ b ++ c) (a ++ b ++ c) a (b ++ c) (begun old (a ++ b ++ c)) (append_assoc a b c) last

pub second_refused : (old now next a b c : List ℕ) → now ≡ old ++ a → next ≡ now → AppendsPrefix (Some old) (Some next) (a ++ b ++ c)
second_refused old now next a b c put same =
    refused old now next (b ++ c) (a ++ b ++ c) (further old old now (a ++ b ++ c) (a ++ b ++ c) a (b ++ c) (begun old (a ++ b ++ c)) (append_assoc a b c) put) same

four : (a b c d : List ℕ) → a ++ b ++ c ++ d ≡ a ++ (b ++ (c ++ d))
four a b c d = append_assoc (a ++ b) c d ∙ append_assoc a b (c ++ d)

-- of four parts the first was put
first_put : (old now a b c d : List ℕ) → now ≡ old ++ a → Underway old now (b ++ (c ++ d)) (a ++ b ++ c ++ d)
first_put old now a b c d put = further old old now (a ++ b ++ c ++ d) (a ++ b ++ c ++ d) a (b ++ (c ++ d)) (begun old (a ++ b ++ c ++ d)) (four a b c d) put

pub second_of_four_refused : (old now next a b c d : List ℕ) → now ≡ old ++ a → next ≡ now → AppendsPrefix (Some old) (Some next) (a ++ b ++ c ++ d)
second_of_four_refused old now next a b c d put same = refused old now next (b ++ (c ++ d)) (a ++ b ++ c ++ d) (first_put old now a b c d put) same

pub third_of_four_stopped : (old now mid next a b c d : List ℕ) → now ≡ old ++ a → mid ≡ now ++ b → AppendsPrefix (Some mid) (Some next) c → AppendsPrefix (Some old) (Some next) (a ++ b ++ c ++ d)
third_of_four_stopped old now mid next a b c d put more last =
    stopped old mid next (c ++ d) (a ++ b ++ c ++ d) c d (further old now mid (b ++ (c ++ d)) (a ++ b ++ c ++ d) b (c ++ d) (first_put old now a b c d put) refl more) refl last

module _ (D : Type 0) (d : Domain D) where
  kept_one : (t : Bool) (name : List ℕ) (cell : AbsCell D) (others : List (List ℕ × AbsCell D)) → t ≡ false → cond (not t) ((name, cell) ∷ others) others ≡ (name, cell) ∷ others
  kept_one t name cell others h = ap (λ u. cond (not u) ((name, cell) ∷ others) others) h

  left_out : (t : Bool) (entry : List ℕ × AbsCell D) (others : List (List ℕ × AbsCell D)) → t ≡ true → cond (not t) (entry ∷ others) others ≡ others
  left_out t entry others h = ap (λ u. cond (not u) (entry ∷ others) others) h

  pub entries_step : (names : List (List ℕ)) (cells : List (AbsCell D)) (at : ℕ) (name : List ℕ) (cell : AbsCell D) → slice_get names at ≡ Some name → slice_get cells at ≡ Some cell → val_is_empty d cell.val ≡ false
      → entries d (drop at names) (drop at cells) ≡ (name, cell) ∷ entries d (drop (suc at) names) (drop (suc at) cells)
  entries_step [] cells at name cell e f n = absurd (cc)
  entries_step (x ∷ names) [] at name cell e f n = absurd (cc)
  entries_step (x ∷ names) (y ∷ cells) zero name cell e f n =
      let p : x ≡ name = cc in
      let q : y ≡ cell = cc in
      rw (p, q) (kept_one (val_is_empty d cell.val) name cell (entries d names cells) n)
  entries_step (x ∷ names) (y ∷ cells) (suc at) name cell e f n = entries_step names cells at name cell e f n

  pub entries_skip : (names : List (List ℕ)) (cells : List (AbsCell D)) (at : ℕ) (cell : AbsCell D) → slice_get cells at ≡ Some cell → val_is_empty d cell.val ≡ true
      → entries d (drop at names) (drop at cells) ≡ entries d (drop (suc at) names) (drop (suc at) cells)
  entries_skip [] cells zero cell e n = refl
  entries_skip [] cells (suc at) cell e n = refl
  entries_skip (x ∷ names) [] at cell e n = absurd (cc)
  entries_skip (x ∷ names) (y ∷ cells) zero cell e n = let q : y ≡ cell = cc in rw q (left_out (val_is_empty d cell.val) (x, cell) (entries d names cells) n)
  entries_skip (x ∷ names) (y ∷ cells) (suc at) cell e n = entries_skip names cells at cell e n

  entries_none : (names : List (List ℕ)) → entries d names [] ≡ []
  entries_none [] = refl
  entries_none (x ∷ names) = refl

  pub entries_done : (names : List (List ℕ)) (cells : List (AbsCell D)) (at : ℕ) → min (length cells) (length names) ≤ at → entries d (drop at names) (drop at cells) ≡ []
  entries_done [] cells zero le = refl
  entries_done [] cells (suc at) le = refl
  entries_done (x ∷ names) [] zero le = refl
  entries_done (x ∷ names) [] (suc at) le = entries_none (drop at names)
  entries_done (x ∷ names) (y ∷ cells) zero le = absurd (omega arith)
  entries_done (x ∷ names) (y ∷ cells) (suc at) le = entries_done names cells at (omega arith)
