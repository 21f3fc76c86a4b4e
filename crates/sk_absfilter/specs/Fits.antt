-- Arguments and results of the sorts that a filter takes and gives.
use Rattle.std.specs.Prelude.{◌≡◌, ℕ, Bool, true, false, List, map, Some, None}
use lib.Pointwise.{pointwise}
use Rattle.sk_def.specs.declared.filter.Filter.{Filter}
use Rattle.sk_def.specs.declared.sorts.VarSort.{VarSort}
use Rattle.sk_def.specs.Signatures.{parameters, results}
use Rattle.sk_lattice.specs.Domain.{Domain}
use Rattle.sk_lattice.specs.Shapes.{flow_has_sort}
use Rattle.sk_absfilter.specs.declared.arg.AbsArg.{AbsArg}
use Rattle.sk_absfilter.specs.Abstract.{Outcome, abstract_result}

-- whether an argument has the sort of a variable; a store that isn't empty has one cell per name
abbrev pub arg_has_sort : {D : Type 0} → ℕ → VarSort → AbsArg D → Bool
arg_has_sort names VarSort.Number (AbsArg.Number z) = true
arg_has_sort names VarSort.Name (AbsArg.Name n) = true
arg_has_sort names (VarSort.Flow sort) (AbsArg.Flow a) = flow_has_sort names sort a
arg_has_sort names _ _ = false

-- whether the arguments have these sorts, one for each
abbrev pub args_have_sorts : {D : Type 0} → ℕ → List VarSort → List (AbsArg D) → Bool
args_have_sorts names = pointwise (arg_has_sort names)

-- whether the flows of a tuple, where there is one, have these sorts
abbrev pub outcome_has_sorts : {D : Type 0} → ℕ → List VarSort → Outcome D → Bool
outcome_has_sorts names sorts None = true
outcome_has_sorts names sorts (Some flows) = args_have_sorts names sorts (map AbsArg.Flow flows)

-- on arguments of the sorts that a filter takes, its abstract result has the sorts that it gives
abbrev pub FiltersKeepSorts : {D : Type 0} → Domain D → Type 0
FiltersKeepSorts {D} d =
    (filter : Filter) (names : ℕ) (args : List (AbsArg D)) → args_have_sorts names (parameters filter) args ≡ true →
    outcome_has_sorts names (results filter) (abstract_result d filter names args) ≡ true
