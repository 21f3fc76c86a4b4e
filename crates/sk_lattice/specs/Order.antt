-- The order of abstract values, part by part.
use Rattle.std.specs.Prelude.{Bool, true, false, ◌&&◌, ◌||◌, not, List, length, nat_eq}
use lib.Pointwise.{pointwise}
use Rattle.sk_lattice.specs.declared.value.AbsVal.{AbsVal}
use Rattle.sk_lattice.specs.declared.cell.AbsCell.{AbsCell}
use Rattle.sk_lattice.specs.declared.store.AbsStore.{AbsStore}
use Rattle.sk_lattice.specs.declared.store.AbsStore.TheVariants.{Empty, Cells}
use Rattle.sk_lattice.specs.declared.flow.AbsFlow.{AbsFlow}
use Rattle.sk_lattice.specs.declared.flow.AbsFlow.TheVariants as flow
use Rattle.sk_lattice.specs.Domain.{Domain}
use Rattle.sk_lattice.specs.Truth.{bool_leq}

abbrev pub val_leq : {D : Type 0} → Domain D → AbsVal D → AbsVal D → Bool
val_leq d a b = d.leq a.num b.num && bool_leq a.truth b.truth

abbrev pub cell_leq : {D : Type 0} → Domain D → AbsCell D → AbsCell D → Bool
cell_leq d a b = val_leq d a.val b.val && (not a.unset || b.unset)

-- the empty store lies below all
abbrev pub store_leq : {D : Type 0} → Domain D → AbsStore D → AbsStore D → Bool
store_leq d Empty t = true
store_leq d (Cells xs) Empty = false
store_leq d (Cells xs) (Cells ys) = pointwise (cell_leq d) xs ys

-- flows of different sorts are not compared
abbrev pub flow_leq : {D : Type 0} → Domain D → AbsFlow D → AbsFlow D → Bool
flow_leq d (flow.Int a) (flow.Int b) = d.leq a b
flow_leq d (flow.Bool a) (flow.Bool b) = bool_leq a b
flow_leq d (flow.Val a) (flow.Val b) = val_leq d a b
flow_leq d (flow.Store s) (flow.Store t) = store_leq d s t
flow_leq d _ _ = false

abbrev pub tuple_leq : {D : Type 0} → Domain D → List (AbsFlow D) → List (AbsFlow D) → Bool
tuple_leq d = pointwise (flow_leq d)

-- whether two stores that aren't empty have one number of cells
abbrev pub stores_fit : {D : Type 0} → AbsStore D → AbsStore D → Bool
stores_fit (Cells xs) (Cells ys) = nat_eq (length xs) (length ys)
stores_fit _ _ = true

-- whether two flows are of one sort
abbrev pub flows_fit : {D : Type 0} → AbsFlow D → AbsFlow D → Bool
flows_fit (flow.Int a) (flow.Int b) = true
flows_fit (flow.Bool a) (flow.Bool b) = true
flows_fit (flow.Val a) (flow.Val b) = true
flows_fit (flow.Store s) (flow.Store t) = stores_fit s t
flows_fit _ _ = false

-- whether two tuples have the same sorts, and their stores one number of cells
abbrev pub tuples_fit : {D : Type 0} → List (AbsFlow D) → List (AbsFlow D) → Bool
tuples_fit = pointwise flows_fit
