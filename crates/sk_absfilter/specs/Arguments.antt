-- The abstract arguments of a filter, by their sorts: what they are where they have the sorts that are asked for, else nothing.
use Rattle.std.specs.Prelude.{ℕ, ℤ, List, [], ◌∷◌, Option, Some, None}
use Rattle.sk_lattice.specs.declared.truth.AbsBool.{AbsBool}
use Rattle.sk_lattice.specs.declared.value.AbsVal.{AbsVal}
use Rattle.sk_lattice.specs.declared.cell.AbsCell.{AbsCell}
use Rattle.sk_lattice.specs.declared.store.AbsStore.{AbsStore}
use Rattle.sk_lattice.specs.declared.store.AbsStore.TheVariants.{Cells}
use Rattle.sk_lattice.specs.declared.flow.AbsFlow.TheVariants as flow
use Rattle.sk_absfilter.specs.declared.arg.AbsArg.{AbsArg}
use Rattle.sk_absfilter.specs.declared.arg.AbsArg.TheVariants.{Number, Name, Flow}

abbrev pub the_number : {D : Type 0} → List (AbsArg D) → Option ℤ
the_number (Number z ∷ []) = Some z
the_number _ = None

abbrev pub the_int : {D : Type 0} → List (AbsArg D) → Option D
the_int (Flow (flow.Int a) ∷ []) = Some a
the_int _ = None

abbrev pub the_ints : {D : Type 0} → List (AbsArg D) → Option (D × D)
the_ints (Flow (flow.Int a) ∷ Flow (flow.Int b) ∷ []) = Some (a, b)
the_ints _ = None

abbrev pub the_bool : {D : Type 0} → List (AbsArg D) → Option AbsBool
the_bool (Flow (flow.Bool a) ∷ []) = Some a
the_bool _ = None

abbrev pub the_bools : {D : Type 0} → List (AbsArg D) → Option (AbsBool × AbsBool)
the_bools (Flow (flow.Bool a) ∷ Flow (flow.Bool b) ∷ []) = Some (a, b)
the_bools _ = None

abbrev pub the_val : {D : Type 0} → List (AbsArg D) → Option (AbsVal D)
the_val (Flow (flow.Val v) ∷ []) = Some v
the_val _ = None

abbrev pub the_store : {D : Type 0} → List (AbsArg D) → Option (AbsStore D)
the_store (Flow (flow.Store s) ∷ []) = Some s
the_store _ = None

-- the cells of a store that isn't empty, and a name of it
abbrev pub the_cell : {D : Type 0} → List (AbsArg D) → Option (List (AbsCell D) × ℕ)
the_cell (Flow (flow.Store (Cells cells)) ∷ Name n ∷ []) = Some (cells, n)
the_cell _ = None

-- the cells of such a store, a name of it, and a val
abbrev pub the_cell_and_val : {D : Type 0} → List (AbsArg D) → Option (List (AbsCell D) × ℕ × AbsVal D)
the_cell_and_val (Flow (flow.Store (Cells cells)) ∷ Name n ∷ Flow (flow.Val v) ∷ []) = Some (cells, n, v)
the_cell_and_val _ = None
