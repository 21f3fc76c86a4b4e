-- A number for each abstract tuple that falls where a widening changes it.
use Rattle.std.specs.Prelude.{◌≡◌, ◌≢◌, ◌<◌, ◌≤◌, ℕ, ◌+◌, ◌*◌, ℤ, Bool, true, if◌then◌else◌, List, length, sum_by}
use Rattle.sk_base.specs.declared.flow.FlowSort.{FlowSort}
use Rattle.sk_lattice.specs.declared.truth.AbsBool.{AbsBool}
use Rattle.sk_lattice.specs.declared.value.AbsVal.{AbsVal}
use Rattle.sk_lattice.specs.declared.cell.AbsCell.{AbsCell}
use Rattle.sk_lattice.specs.declared.store.AbsStore.TheVariants.{Empty, Cells}
use Rattle.sk_lattice.specs.declared.flow.AbsFlow.{AbsFlow}
use Rattle.sk_lattice.specs.declared.flow.AbsFlow.TheVariants as flow
use Rattle.sk_lattice.specs.Domain.{Domain}
use Rattle.sk_lattice.specs.Empty.{is_proper}
use Rattle.sk_lattice.specs.Merge.{Join, Widen, tuple_merge}
use Rattle.sk_lattice.specs.Order.{tuple_leq}
use Rattle.sk_lattice.specs.Shapes.{has_sorts}

-- 1 for a mark that is not set
abbrev pub mark_rank : Bool → ℕ
mark_rank m = if m then 0 else 1

-- how many truth values are lacking
abbrev pub bool_rank : AbsBool → ℕ
bool_rank a = mark_rank a.has_true + mark_rank a.has_false

abbrev pub val_rank : {D : Type 0} → Domain D → List ℤ → AbsVal D → ℕ
val_rank d marks a = d.rank a.num marks + bool_rank a.truth

abbrev pub cell_rank : {D : Type 0} → Domain D → List ℤ → AbsCell D → ℕ
cell_rank d marks c = val_rank d marks c.val + mark_rank c.unset

abbrev pub flow_rank : {D : Type 0} → Domain D → List ℤ → AbsFlow D → ℕ
flow_rank d marks (flow.Int a) = d.rank a marks
flow_rank d marks (flow.Bool a) = bool_rank a
flow_rank d marks (flow.Val a) = val_rank d marks a
flow_rank d marks (flow.Store Empty) = 0
flow_rank d marks (flow.Store (Cells xs)) = sum_by (cell_rank d marks) xs

-- the sum over all parts
abbrev pub tuple_rank : {D : Type 0} → Domain D → List ℤ → List (AbsFlow D) → ℕ
tuple_rank d marks = sum_by (flow_rank d marks)

-- a widening of a tuple lowers its rank where it changes it, sees only what is new, and is the join where the domain
-- is finite; every rank is bounded by the number of parts
pub record RankLaws {D : Type 0} (d : Domain D) (finite : Bool) (marks : List ℤ) : Type 0 where
  pub rank_falls : (names : ℕ) (sorts : List FlowSort) (a b : List (AbsFlow D)) → has_sorts names sorts a ≡ true → has_sorts names sorts b ≡ true → is_proper d a ≡ true → tuple_merge d (Widen marks) a b ≢ a → tuple_rank d marks (tuple_merge d (Widen marks) a b) < tuple_rank d marks a
  pub rank_at_most : (names : ℕ) → 1 ≤ names → (sorts : List FlowSort) (a : List (AbsFlow D)) → has_sorts names sorts a ≡ true → tuple_rank d marks a ≤ length sorts * (names * (d.rank d.empty marks + 3))
  pub widen_new : (names : ℕ) (sorts : List FlowSort) (a b c : List (AbsFlow D)) → has_sorts names sorts a ≡ true → has_sorts names sorts b ≡ true → is_proper d b ≡ true → tuple_leq d c a ≡ true → tuple_merge d (Widen marks) a (tuple_merge d Join b c) ≡ tuple_merge d (Widen marks) a b
  pub widen_is_join : finite ≡ true → (a b : List (AbsFlow D)) → tuple_merge d (Widen marks) a b ≡ tuple_merge d Join a b
