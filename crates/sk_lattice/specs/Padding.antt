-- Stores that gain cells of unset names until they have one for each name.
use Rattle.std.specs.Prelude.{◌≡◌, ℕ, ◌-◌, ◌≤◌, true, false, List, ◌++◌, length, replicate}
use Rattle.sk_lattice.specs.declared.cell.AbsCell.{AbsCell}
use Rattle.sk_lattice.specs.declared.store.AbsStore.TheVariants.{Cells}
use Rattle.sk_lattice.specs.declared.flow.AbsFlow.{AbsFlow}
use Rattle.sk_lattice.specs.declared.flow.AbsFlow.TheVariants as flow
use Rattle.sk_lattice.specs.Domain.{Domain}

-- the cell of a name that is surely unset: it has no value, and may be unset
abbrev pub unset_cell : {D : Type 0} → Domain D → AbsCell D
unset_cell d = record { val = record { num = d.empty; truth = record { has_true = false; has_false = false } }; unset = true }

-- a store with fewer cells than names gains such cells until it has so many
abbrev pub padded_cells : {D : Type 0} → Domain D → ℕ → List (AbsCell D) → List (AbsCell D)
padded_cells d names cells = cells ++ replicate (names - length cells) (unset_cell d)

abbrev pub padded_flow : {D : Type 0} → Domain D → ℕ → AbsFlow D → AbsFlow D
padded_flow d names (flow.Store (Cells cells)) = flow.Store (Cells (padded_cells d names cells))
padded_flow d names x = x

-- the store has its old cells, and some of those that it was to gain
pub record IsPartlyPadded {D : Type 0} (d : Domain D) (names : ℕ) (old new : List (AbsCell D)) : Type 0 where
  pub gained : ℕ
  pub at_most : gained ≤ names - length old
  pub cells : new ≡ old ++ replicate gained (unset_cell d)

abbrev pub FlowIsPartlyPadded : {D : Type 0} → Domain D → ℕ → AbsFlow D → AbsFlow D → Type 0
FlowIsPartlyPadded {D} d names (flow.Store (Cells old)) x = (new : List (AbsCell D)) × (x ≡ flow.Store (Cells new)) × IsPartlyPadded d names old new
FlowIsPartlyPadded d names old new = new ≡ old
