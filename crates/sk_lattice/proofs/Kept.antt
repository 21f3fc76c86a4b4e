-- What the calls on tuples make are tuples: at most 8 flows, no part of which is empty.
use Rattle.std.proofs.Common.{◌≡◌, ◌≤◌, ℤ, true, false, List, Some, None, refl, sym, ap, ◌∙◌, subst}
use lib.Pointwise.{pointwise_long}
use Rattle.std.specs.List.{list_any}
use Rattle.sk_lattice.specs.declared.flow.AbsFlow.{AbsFlow}
use Rattle.sk_lattice.specs.Domain.{Domain}
use Rattle.sk_lattice.specs.DomainLaws.{DomainLaws}
use Rattle.sk_lattice.specs.Empty.{IsTuple, flow_is_empty}
use Rattle.sk_lattice.specs.Merge.{Join, Meet, Widen, flow_merge, tuple_merge, tuple_meet}
use Rattle.sk_lattice.specs.Order.{flow_leq, flows_fit, tuple_leq, tuples_fit}
use Rattle.sk_lattice.specs.Thresholds.{IsThresholds}
use Rattle.std.proofs.lemmas.Bool.{cond-true}
use Rattle.sk_lattice.proofs.Meets.{meet_there}
use Rattle.sk_lattice.proofs.SortLemmas.{length_zip}
use Rattle.sk_lattice.proofs.Tuples.{tuple_laws, all_meets_proper}

module _ (D : Type 0) (d : Domain D) (laws : DomainLaws d) where
  above : (a b : List (AbsFlow D)) → tuple_leq d a b ≡ true → IsTuple d a → IsTuple d b
  above a b h t = record {
    few = subst (λ n. n ≤ 8) (pointwise_long (flow_leq d) a b h) t.few;
    proper = (tuple_laws D d laws).proper_more a b h t.proper;
  }

  pub joined : (a b inside xs ys out : List (AbsFlow D)) → inside ≡ a → xs ≡ a → ys ≡ b → out ≡ tuple_merge d Join xs ys → tuples_fit a b ≡ true → IsTuple d inside → IsTuple d out
  joined a b inside xs ys out same left right is fit t =
      rw (is, left, right) (above a (tuple_merge d Join a b) ((tuple_laws D d laws).join_left a b fit) (rw same at t))

  pub widened : (marks : List ℤ) → IsThresholds marks → (a b inside xs ys out : List (AbsFlow D)) → inside ≡ a → xs ≡ a → ys ≡ b → out ≡ tuple_merge d (Widen marks) xs ys → tuples_fit a b ≡ true → IsTuple d inside → IsTuple d out
  widened marks are a b inside xs ys out same left right is fit t =
      rw (is, left, right) (above a (tuple_merge d (Widen marks) a b) ((tuple_laws D d laws).widen_left marks are a b fit) (rw same at t))

  pub met : (a b inside xs ys out : List (AbsFlow D)) → inside ≡ a → xs ≡ a → ys ≡ b → out ≡ tuple_merge d Meet xs ys → list_any (flow_is_empty d) out ≡ false → tuples_fit a b ≡ true → IsTuple d inside → IsTuple d out
  met a b inside xs ys out same left right is full fit t = record {
    few = rw (is, left, right, length_zip (flow_merge d Meet) a b (pointwise_long flows_fit a b fit), ← same) t.few;
    proper = rw (is, left, right) (all_meets_proper D d laws a b fit (rw (is, left, right) at full));
  }

  -- the answers of the meet
  pub no_meet : (a b xs ys out : List (AbsFlow D)) → xs ≡ a → ys ≡ b → out ≡ tuple_merge d Meet xs ys → list_any (flow_is_empty d) out ≡ true → None ≡ tuple_meet d a b
  no_meet a b xs ys out left right is some = sym (cond-true (list_any (flow_is_empty d) (tuple_merge d Meet a b)) None (Some (tuple_merge d Meet a b)) (rw (is, left, right) at some))

  pub the_meet : (a b xs ys out : List (AbsFlow D)) → xs ≡ a → ys ≡ b → out ≡ tuple_merge d Meet xs ys → list_any (flow_is_empty d) out ≡ false → Some out ≡ tuple_meet d a b
  the_meet a b xs ys out left right is full = sym (meet_there D d a b (rw (is, left, right) at full) ∙ ap Some (rw (is, left, right) refl))
