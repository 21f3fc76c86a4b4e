-- The empty one of each sort, which covers nothing, and tuples of which no part is empty.
use Rattle.std.specs.Prelude.{◌≡◌, ◌≤◌, Bool, true, false, ◌&&◌, not, if◌then◌else◌, List, length}
use Rattle.std.specs.List.{list_any, list_all}
use Rattle.sk_lattice.specs.declared.value.AbsVal.{AbsVal}
use Rattle.sk_lattice.specs.declared.cell.AbsCell.{AbsCell}
use Rattle.sk_lattice.specs.declared.store.AbsStore.{AbsStore}
use Rattle.sk_lattice.specs.declared.store.AbsStore.TheVariants.{Empty, Cells}
use Rattle.sk_lattice.specs.declared.flow.AbsFlow.{AbsFlow}
use Rattle.sk_lattice.specs.declared.flow.AbsFlow.TheVariants as flow
use Rattle.sk_lattice.specs.Domain.{Domain}
use Rattle.sk_lattice.specs.Truth.{bool_is_empty}

abbrev pub val_is_empty : {D : Type 0} → Domain D → AbsVal D → Bool
val_is_empty d a = d.is_empty a.num && bool_is_empty a.truth

abbrev pub cell_is_empty : {D : Type 0} → Domain D → AbsCell D → Bool
cell_is_empty d c = val_is_empty d c.val && not c.unset

-- the store of these cells; it is empty where a cell is
abbrev pub store_of : {D : Type 0} → Domain D → List (AbsCell D) → AbsStore D
store_of d cells = if list_any (cell_is_empty d) cells then Empty else Cells cells

abbrev pub flow_is_empty : {D : Type 0} → Domain D → AbsFlow D → Bool
flow_is_empty d (flow.Int a) = d.is_empty a
flow_is_empty d (flow.Bool a) = bool_is_empty a
flow_is_empty d (flow.Val a) = val_is_empty d a
flow_is_empty d (flow.Store Empty) = true
flow_is_empty d (flow.Store (Cells xs)) = false

-- whether a flow isn't empty, and no cell of its store is
abbrev pub flow_is_proper : {D : Type 0} → Domain D → AbsFlow D → Bool
flow_is_proper d (flow.Int a) = not (d.is_empty a)
flow_is_proper d (flow.Bool a) = not (bool_is_empty a)
flow_is_proper d (flow.Val a) = not (val_is_empty d a)
flow_is_proper d (flow.Store Empty) = false
flow_is_proper d (flow.Store (Cells xs)) = list_all (λ c. not (cell_is_empty d c)) xs

-- whether no part of a tuple is empty
abbrev pub is_proper : {D : Type 0} → Domain D → List (AbsFlow D) → Bool
is_proper d = list_all (flow_is_proper d)

-- what every tuple is: at most 8 flows, no part of which is empty
pub record IsTuple {D : Type 0} (d : Domain D) (flows : List (AbsFlow D)) : Type 0 where
  pub few : length flows ≤ 8
  pub proper : is_proper d flows ≡ true
