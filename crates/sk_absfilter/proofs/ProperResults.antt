-- No component of a filter's abstract result is empty.
use Rattle.std.proofs.Common.{◌≡◌, ℕ, true, List, Some, None}
use Rattle.std.specs.List.{list_all}
use Rattle.std.specs.Option.{option_and_then}
use Rattle.std.proofs.lemmas.Bool.{cond_both}
use Rattle.sk_def.specs.declared.filter.Filter.{Filter}
use Rattle.sk_lattice.specs.declared.flow.AbsFlow.{AbsFlow}
use Rattle.sk_lattice.specs.Domain.{Domain}
use Rattle.sk_lattice.specs.Empty.{is_proper}
use Rattle.sk_absfilter.specs.declared.arg.AbsArg.{AbsArg}
use Rattle.sk_absfilter.specs.Abstract.{Outcome, raw_result, arg_is_proper, proper_tuple, abstract_result}

module _ (D : Type 0) (d : Domain D) where
  kept_proper : (o : Outcome D) (flows : List (AbsFlow D)) → option_and_then (proper_tuple d) o ≡ Some flows → is_proper d flows ≡ true
  kept_proper None flows e = absurd cc
  kept_proper (Some a) flows e = cond_both (is_proper d a) (Some a) None (λ o. o ≡ Some flows → is_proper d flows ≡ true) (λ p e. cc) (λ _ e. absurd cc) e

  pub result_proper : (filter : Filter) (names : ℕ) (args : List (AbsArg D)) (flows : List (AbsFlow D)) → abstract_result d filter names args ≡ Some flows → is_proper d flows ≡ true
  result_proper filter names args flows e =
      cond_both (list_all (arg_is_proper d) args) (option_and_then (proper_tuple d) (raw_result d filter names args)) None (λ o. o ≡ Some flows → is_proper d flows ≡ true)
      (λ _ e. kept_proper (raw_result d filter names args) flows e) (λ _ e. absurd cc) e
