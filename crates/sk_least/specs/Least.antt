-- The abstract result of a filter is the least outcome that covers its results.
use Rattle.std.specs.Prelude.{◌≡◌, ℕ, Bool, true, List, Option, Some, None, All, ⊤}
use Rattle.std.specs.List.{AllZip}
use Rattle.std.specs.Option.{option_map_or}
use Rattle.sk_def.specs.declared.filter.Filter.{Filter}
use Rattle.sk_value.specs.declared.arith.Arith.{Arith}
use Rattle.sk_value.specs.Numbers.{IsNumber}
use Rattle.sk_filter.specs.declared.arg.Arg.{Arg}
use Rattle.sk_filter.specs.Results.{results_of}
use Rattle.sk_deriv.specs.Meets.{flow_holds_numbers}
use Rattle.sk_lattice.specs.Domain.{Domain}
use Rattle.sk_sign.specs.declared.sign.Sign.{Sign}
use Rattle.sk_sign.specs.Signs.{sign_domain}
use Rattle.sk_interval.specs.Intervals.{interval_domain}
use Rattle.sk_absfilter.specs.declared.arg.AbsArg.{AbsArg}
use Rattle.sk_absfilter.specs.Arguments.{the_ints}
use Rattle.sk_absfilter.specs.Abstract.{Outcome, abstract_result}
use Rattle.sk_absfilter.specs.Laws.{ArgCovers, outcome_covers, outcome_leq}
use Rattle.sk_least.specs.Domains.{LeastLaws, intervals_least_on}

-- the numbers of an argument are in range
abbrev pub ArgFits : Arg → Type 0
ArgFits (Arg.Number z) = IsNumber z
ArgFits (Arg.Name n) = ⊤
ArgFits (Arg.Flow v) = flow_holds_numbers v ≡ true

-- a literal is in range
abbrev pub LeafFits : {D : Type 0} → AbsArg D → Type 0
LeafFits (AbsArg.Number z) = IsNumber z
LeafFits _ = ⊤

-- the outcome covers each result of the filter on all values that the arguments cover
abbrev pub CoversResults : {D : Type 0} → Domain D → Filter → ℕ → List (AbsArg D) → Outcome D → Type 0
CoversResults d filter names args outcome =
    (values : List Arg) → AllZip (ArgCovers d) args values → All ArgFits values → All (λ t. outcome_covers d outcome t ≡ true) (results_of filter names values)

-- it does, and lies below every outcome that does
pub record IsLeastOutcome {D : Type 0} (d : Domain D) (filter : Filter) (names : ℕ) (args : List (AbsArg D)) (outcome : Outcome D) : Type 0 where
  pub covers : CoversResults d filter names args outcome
  pub least : (other : Outcome D) → CoversResults d filter names args other → outcome_leq d outcome other ≡ true

-- the arithmetic that a filter does on two numbers
abbrev pub arith_of : Filter → Option Arith
arith_of Filter.Add = Some Arith.Add
arith_of Filter.Sub = Some Arith.Sub
arith_of Filter.Mul = Some Arith.Mul
arith_of Filter.Div = Some Arith.Div
arith_of Filter.Rem = Some Arith.Rem
arith_of Filter.Pick = Some Arith.Pick
arith_of _ = None

-- whether the test holds of a filter's arithmetic on its arguments, if it does any
abbrev pub arithmetic_passes : {D : Type 0} → (Arith → D → D → Bool) → Filter → List (AbsArg D) → Bool
arithmetic_passes least_on filter args = option_map_or (λ op. option_map_or (λ p. least_on op p.0 p.1) (the_ints args) true) (arith_of filter) true

-- The law of a domain: the abstract result of every filter is the least outcome that covers its results, where its
-- arithmetic passes.
abbrev pub FiltersAreLeast : {D : Type 0} → Domain D → (Arith → D → D → Bool) → Type 0
FiltersAreLeast {D} d least_on =
    (filter : Filter) (names : ℕ) (args : List (AbsArg D)) → All LeafFits args → arithmetic_passes least_on filter args ≡ true →
    IsLeastOutcome d filter names args (abstract_result d filter names args)

-- it holds of every domain whose operations are least
abbrev pub LeastFiltersFollow : {D : Type 0} → Domain D → Type 0
LeastFiltersFollow {D} d = (least_on : Arith → D → D → Bool) → LeastLaws d least_on → FiltersAreLeast d least_on

-- of signs for every filter and all arguments
abbrev pub SignFiltersAreLeast : Type 0
SignFiltersAreLeast =
    (filter : Filter) (names : ℕ) (args : List (AbsArg Sign)) → All LeafFits args →
    IsLeastOutcome sign_domain filter names args (abstract_result sign_domain filter names args)

-- of intervals for every filter, but for products, quotients and remainders only where their arguments pass
abbrev pub IntervalFiltersAreLeast : Type 0
IntervalFiltersAreLeast = FiltersAreLeast interval_domain intervals_least_on
