-- Join, meet and widening of abstract values, part by part.
use Rattle.std.specs.Prelude.{ℤ, Bool, ◌&&◌, ◌||◌, if◌then◌else◌, Option, Some, None, List}
use Rattle.std.specs.List.{list_any}
use Rattle.sk_base.specs.Lists.{zip_with}
use Rattle.sk_lattice.specs.declared.truth.AbsBool.{AbsBool}
use Rattle.sk_lattice.specs.declared.value.AbsVal.{AbsVal}
use Rattle.sk_lattice.specs.declared.cell.AbsCell.{AbsCell}
use Rattle.sk_lattice.specs.declared.store.AbsStore.{AbsStore}
use Rattle.sk_lattice.specs.declared.store.AbsStore.TheVariants.{Empty, Cells}
use Rattle.sk_lattice.specs.declared.flow.AbsFlow.{AbsFlow}
use Rattle.sk_lattice.specs.declared.flow.AbsFlow.TheVariants as flow
use Rattle.sk_lattice.specs.Domain.{Domain}
use Rattle.sk_lattice.specs.declared.merge.Merge.{Merge}
use Rattle.sk_lattice.specs.declared.merge.Merge.TheVariants as merge
use Rattle.sk_lattice.specs.Empty.{store_of, flow_is_empty}

-- the ways in which two values are put together: join, meet, and widening at thresholds
pub data Way : Type 0 where
  Join : Way
  Meet : Way
  Widen : List ℤ → Way

-- the way that the code names
abbrev pub way_of : Merge → Way
way_of merge.Join = Join
way_of merge.Meet = Meet
way_of (merge.Widen marks) = Widen marks.now

-- how two elements are put together
abbrev pub num_merge : {D : Type 0} → Domain D → Way → D → D → D
num_merge d Join = d.join
num_merge d Meet = d.meet
num_merge d (Widen marks) = λ a b. d.widen a b marks

-- how two marks are put together
abbrev pub mark_merge : Way → Bool → Bool → Bool
mark_merge Join a b = a || b
mark_merge Meet a b = a && b
mark_merge (Widen marks) a b = a || b

abbrev pub bool_merge : Way → AbsBool → AbsBool → AbsBool
bool_merge m a b = record { has_true = mark_merge m a.has_true b.has_true; has_false = mark_merge m a.has_false b.has_false }

abbrev pub val_merge : {D : Type 0} → Domain D → Way → AbsVal D → AbsVal D → AbsVal D
val_merge d m a b = record { num = num_merge d m a.num b.num; truth = bool_merge m a.truth b.truth }

abbrev pub cell_merge : {D : Type 0} → Domain D → Way → AbsCell D → AbsCell D → AbsCell D
cell_merge d m a b = record { val = val_merge d m a.val b.val; unset = mark_merge m a.unset b.unset }

-- an empty store joins and widens as nothing, and meets to nothing
abbrev pub store_merge : {D : Type 0} → Domain D → Way → AbsStore D → AbsStore D → AbsStore D
store_merge d Meet (Cells xs) (Cells ys) = store_of d (zip_with (cell_merge d Meet) xs ys)
store_merge d Meet (Cells xs) Empty = Empty
store_merge d Meet Empty t = Empty
store_merge d m Empty t = t
store_merge d m (Cells xs) Empty = Cells xs
store_merge d m (Cells xs) (Cells ys) = Cells (zip_with (cell_merge d m) xs ys)

-- flows of one sort part by part; the first of two sorts
abbrev pub flow_merge : {D : Type 0} → Domain D → Way → AbsFlow D → AbsFlow D → AbsFlow D
flow_merge d m (flow.Int a) (flow.Int b) = flow.Int (num_merge d m a b)
flow_merge d m (flow.Bool a) (flow.Bool b) = flow.Bool (bool_merge m a b)
flow_merge d m (flow.Val a) (flow.Val b) = flow.Val (val_merge d m a b)
flow_merge d m (flow.Store s) (flow.Store t) = flow.Store (store_merge d m s t)
flow_merge d m x _ = x

abbrev pub tuple_merge : {D : Type 0} → Domain D → Way → List (AbsFlow D) → List (AbsFlow D) → List (AbsFlow D)
tuple_merge d m = zip_with (flow_merge d m)

-- the meet of two tuples, or none where an entry of it is empty
abbrev pub tuple_meet : {D : Type 0} → Domain D → List (AbsFlow D) → List (AbsFlow D) → Option (List (AbsFlow D))
tuple_meet d a b = let m = tuple_merge d Meet a b in if list_any (flow_is_empty d) m then None else Some m
