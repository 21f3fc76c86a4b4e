-- What holds of the abstract filters over every domain that meets the laws.
use Rattle.std.specs.Prelude.{◌≡◌, ℕ, Bool, true, false, List, Some, None, All}
use Rattle.std.specs.List.{AllZip}
use Rattle.sk_def.specs.declared.filter.Filter.{Filter}
use Rattle.sk_value.specs.declared.flow.Flow.{Flow}
use Rattle.sk_filter.specs.declared.arg.Arg.{Arg}
use Rattle.sk_filter.specs.Results.{results_of}
use Rattle.sk_lattice.specs.Domain.{Domain}
use Rattle.sk_lattice.specs.Order.{flow_leq, tuple_leq}
use Rattle.sk_lattice.specs.Covers.{flow_covers, tuple_covers}
use Rattle.sk_absfilter.specs.declared.arg.AbsArg.{AbsArg}
use Rattle.sk_absfilter.specs.Abstract.{Outcome, abstract_result}

-- nothing is covered by none
abbrev pub outcome_covers : {D : Type 0} → Domain D → Outcome D → List Flow → Bool
outcome_covers d None t = false
outcome_covers d (Some a) t = tuple_covers d a t

-- none lies below every tuple
abbrev pub outcome_leq : {D : Type 0} → Domain D → Outcome D → Outcome D → Bool
outcome_leq d None b = true
outcome_leq d (Some a) None = false
outcome_leq d (Some a) (Some b) = tuple_leq d a b

-- a leaf is covered by itself, and what flows by what may flow
abbrev pub ArgCovers : {D : Type 0} → Domain D → AbsArg D → Arg → Type 0
ArgCovers d (AbsArg.Number z) (Arg.Number y) = z ≡ y
ArgCovers d (AbsArg.Name n) (Arg.Name m) = n ≡ m
ArgCovers d (AbsArg.Flow a) (Arg.Flow v) = flow_covers d a v ≡ true
ArgCovers d _ _ = ⊥

-- a leaf lies below itself, and what may flow below what is greater
abbrev pub ArgLeq : {D : Type 0} → Domain D → AbsArg D → AbsArg D → Type 0
ArgLeq d (AbsArg.Number z) (AbsArg.Number y) = z ≡ y
ArgLeq d (AbsArg.Name n) (AbsArg.Name m) = n ≡ m
ArgLeq d (AbsArg.Flow a) (AbsArg.Flow b) = flow_leq d a b ≡ true
ArgLeq d _ _ = ⊥

-- where each argument is covered, the abstract result covers each result
abbrev pub FiltersAreSound : {D : Type 0} → Domain D → Type 0
FiltersAreSound {D} d =
    (filter : Filter) (names : ℕ) (args : List (AbsArg D)) (values : List Arg) → AllZip (ArgCovers d) args values →
    All (λ t. outcome_covers d (abstract_result d filter names args) t ≡ true) (results_of filter names values)

-- greater arguments give a greater or equal result
abbrev pub FiltersAreMonotone : {D : Type 0} → Domain D → Type 0
FiltersAreMonotone {D} d =
    (filter : Filter) (names : ℕ) (args greater : List (AbsArg D)) → AllZip (ArgLeq d) args greater →
    outcome_leq d (abstract_result d filter names args) (abstract_result d filter names greater) ≡ true
