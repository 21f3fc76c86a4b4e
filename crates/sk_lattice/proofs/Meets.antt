-- Where the meet of two tuples is there.
use Rattle.std.proofs.Common.{◌≡◌, false, List, Some, None}
use Rattle.std.proofs.lemmas.Bool.{cond_both, cond-false}
use Rattle.std.specs.List.{list_any}
use Rattle.sk_lattice.specs.declared.flow.AbsFlow.{AbsFlow}
use Rattle.sk_lattice.specs.Domain.{Domain}
use Rattle.sk_lattice.specs.Empty.{flow_is_empty}
use Rattle.sk_lattice.specs.Merge.{Meet, tuple_merge, tuple_meet}

module _ (D : Type 0) (d : Domain D) where
  pub meet_is : (a b m : List (AbsFlow D)) → tuple_meet d a b ≡ Some m → tuple_merge d Meet a b ≡ m
  meet_is a b m h =
      cond_both (list_any (flow_is_empty d) (tuple_merge d Meet a b)) None (Some (tuple_merge d Meet a b)) (λ o. o ≡ Some m → tuple_merge d Meet a b ≡ m) (λ _ e. cc) (λ _ e. cc) h

  pub meet_filled : (a b m : List (AbsFlow D)) → tuple_meet d a b ≡ Some m → list_any (flow_is_empty d) (tuple_merge d Meet a b) ≡ false
  meet_filled a b m h =
      cond_both (list_any (flow_is_empty d) (tuple_merge d Meet a b)) None (Some (tuple_merge d Meet a b)) (λ o. o ≡ Some m → list_any (flow_is_empty d) (tuple_merge d Meet a b) ≡ false) (λ _ e. cc) (λ f e. f) h

  pub meet_there : (a b : List (AbsFlow D)) → list_any (flow_is_empty d) (tuple_merge d Meet a b) ≡ false → tuple_meet d a b ≡ Some (tuple_merge d Meet a b)
  meet_there a b h = cond-false (list_any (flow_is_empty d) (tuple_merge d Meet a b)) None (Some (tuple_merge d Meet a b)) h
