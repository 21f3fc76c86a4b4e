-- The sorts of abstract flows and tuples over so many names.
use Rattle.std.specs.Prelude.{◌≡◌, ℕ, ℤ, Bool, true, false, List, length, nat_eq, Some}
use lib.Pointwise.{pointwise}
use Rattle.sk_base.specs.declared.flow.FlowSort.{FlowSort}
use Rattle.sk_base.specs.declared.flow.FlowSort.TheVariants as sort
use Rattle.sk_lattice.specs.declared.store.AbsStore.TheVariants.{Empty, Cells}
use Rattle.sk_lattice.specs.declared.flow.AbsFlow.{AbsFlow}
use Rattle.sk_lattice.specs.declared.flow.AbsFlow.TheVariants as flow
use Rattle.sk_lattice.specs.Domain.{Domain}
use Rattle.sk_lattice.specs.Merge.{Join, Widen, tuple_merge, tuple_meet}
use Rattle.sk_lattice.specs.Order.{tuples_fit}

-- whether a flow has the sort, and a store that isn't empty has one cell per name
abbrev pub flow_has_sort : {D : Type 0} → ℕ → FlowSort → AbsFlow D → Bool
flow_has_sort names sort.Int (flow.Int a) = true
flow_has_sort names sort.Bool (flow.Bool a) = true
flow_has_sort names sort.Val (flow.Val a) = true
flow_has_sort names sort.Store (flow.Store Empty) = true
flow_has_sort names sort.Store (flow.Store (Cells xs)) = nat_eq (length xs) names
flow_has_sort names _ _ = false

-- whether the flows have these sorts, one for each
abbrev pub has_sorts : {D : Type 0} → ℕ → List FlowSort → List (AbsFlow D) → Bool
has_sorts names = pointwise (flow_has_sort names)

-- tuples of the same sorts fit, and what is put together of them has these sorts
pub record ShapeLaws {D : Type 0} (d : Domain D) : Type 0 where
  pub sorts_fit : (names : ℕ) (sorts : List FlowSort) (a b : List (AbsFlow D)) → has_sorts names sorts a ≡ true → has_sorts names sorts b ≡ true → tuples_fit a b ≡ true
  pub join_sorts : (names : ℕ) (sorts : List FlowSort) (a b : List (AbsFlow D)) → has_sorts names sorts a ≡ true → has_sorts names sorts b ≡ true → has_sorts names sorts (tuple_merge d Join a b) ≡ true
  pub widen_sorts : (marks : List ℤ) (names : ℕ) (sorts : List FlowSort) (a b : List (AbsFlow D)) → has_sorts names sorts a ≡ true → has_sorts names sorts b ≡ true → has_sorts names sorts (tuple_merge d (Widen marks) a b) ≡ true
  pub meet_sorts : (names : ℕ) (sorts : List FlowSort) (a b m : List (AbsFlow D)) → has_sorts names sorts a ≡ true → has_sorts names sorts b ≡ true → tuple_meet d a b ≡ Some m → has_sorts names sorts m ≡ true
