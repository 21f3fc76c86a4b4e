-- What an abstract value covers.
use Rattle.std.specs.Prelude.{Bool, false, Option, Some, None, List}
use lib.Pointwise.{pointwise}
use Rattle.sk_value.specs.declared.value.Value.{Value}
use Rattle.sk_value.specs.declared.value.Value.TheVariants as value
use Rattle.sk_value.specs.declared.flow.Flow.{Flow}
use Rattle.sk_value.specs.declared.flow.Flow.TheVariants as concrete
use Rattle.sk_lattice.specs.declared.value.AbsVal.{AbsVal}
use Rattle.sk_lattice.specs.declared.cell.AbsCell.{AbsCell}
use Rattle.sk_lattice.specs.declared.store.AbsStore.{AbsStore}
use Rattle.sk_lattice.specs.declared.store.AbsStore.TheVariants.{Empty, Cells}
use Rattle.sk_lattice.specs.declared.flow.AbsFlow.{AbsFlow}
use Rattle.sk_lattice.specs.declared.flow.AbsFlow.TheVariants as flow
use Rattle.sk_lattice.specs.Domain.{Domain}
use Rattle.sk_lattice.specs.Truth.{bool_holds}

-- the part of the value's kind has it
abbrev pub val_covers : {D : Type 0} → Domain D → AbsVal D → Value → Bool
val_covers d a (value.Int n) = d.holds a.num n
val_covers d a (value.Bool t) = bool_holds a.truth t

-- a set name's value is covered, an unset name may be unset
abbrev pub cell_covers : {D : Type 0} → Domain D → AbsCell D → Option Value → Bool
cell_covers d c (Some v) = val_covers d c.val v
cell_covers d c None = c.unset

-- name by name; the empty store covers nothing
abbrev pub store_covers : {D : Type 0} → Domain D → AbsStore D → List (Option Value) → Bool
store_covers d Empty s = false
store_covers d (Cells xs) s = pointwise (cell_covers d) xs s

abbrev pub flow_covers : {D : Type 0} → Domain D → AbsFlow D → Flow → Bool
flow_covers d (flow.Int a) (concrete.Int n) = d.holds a n
flow_covers d (flow.Bool a) (concrete.Bool t) = bool_holds a t
flow_covers d (flow.Val a) (concrete.Val v) = val_covers d a v
flow_covers d (flow.Store s) (concrete.Store t) = store_covers d s t
flow_covers d _ _ = false

-- entry by entry
abbrev pub tuple_covers : {D : Type 0} → Domain D → List (AbsFlow D) → List Flow → Bool
tuple_covers d = pointwise (flow_covers d)
