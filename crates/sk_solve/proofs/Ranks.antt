-- A tuple that a join changes ranks lower, and none ranks above every tuple.
use Rattle.std.proofs.Common.{◌≡◌, ℕ, zero, suc, ◌+◌, ◌*◌, ◌<◌, ◌≤◌, ℤ, ◌<ℤ◌, true, false, List, [], ◌∷◌, length, Some, None, refl, sym, ◌∙◌, subst, arith}
use Rattle.std.proofs.lemmas.Int.{ints}
use Rattle.std.specs.Prelude.{slice_get}
use Rattle.std.proofs.lemmas.Bool.{and_parts, eqb-true, both_ways}
use Rattle.std.proofs.lemmas.List.Sums.{sum_by-cons}
use Rattle.sk_base.specs.declared.flow.FlowSort.{FlowSort}
use Rattle.sk_base.specs.declared.flow.FlowSort.TheVariants as sort
use Rattle.sk_lattice.specs.declared.store.AbsStore.TheVariants.{Empty, Cells}
use Rattle.sk_lattice.specs.declared.flow.AbsFlow.{AbsFlow}
use Rattle.sk_lattice.specs.declared.flow.AbsFlow.TheVariants as flow
use Rattle.sk_lattice.specs.Domain.{Domain}
use Rattle.sk_lattice.specs.DomainLaws.{DomainLaws, FiniteLaw}
use Rattle.sk_lattice.specs.Empty.{is_proper}
use Rattle.sk_lattice.specs.Order.{tuple_leq}
use Rattle.sk_lattice.specs.Ranks.{flow_rank, tuple_rank, RankLaws}
use Rattle.sk_lattice.specs.Shapes.{flow_has_sort, has_sorts}
use Rattle.sk_lattice.specs.Thresholds.{IsThresholds, LEAST, GREATEST}
use Rattle.sk_lattice.proofs.SortLemmas.{shape_laws}
use Rattle.sk_lattice.proofs.Tuples.{tuple_laws}
use Rattle.sk_lattice.proofs.Widening.{rank_laws}
use Rattle.sk_absfilter.specs.Abstract.{Outcome}
use Rattle.sk_absfilter.specs.Laws.{outcome_leq}
use Rattle.sk_solve.specs.Solves.{outcome_fits}
use Rattle.sk_solve.specs.Climbing.{ends, joined, slot_rank}

same_some : {A : Type 0} {x y : A} → Some x ≡ Some y → x ≡ y
same_some e = cc

ends_rise : (i j : ℕ) (m n : ℤ) → i < j → slice_get ends i ≡ Some m → slice_get ends j ≡ Some n → m <ℤ n
ends_rise zero zero m n l e k = absurd (omega arith)
ends_rise zero (suc zero) m n l e k =
    let first : LEAST ≡ m = same_some e in
    let last : GREATEST ≡ n = same_some k in
    let less : LEAST <ℤ GREATEST = omega (arith, ints) in
    subst (λ z. z <ℤ n) first (subst (λ z. LEAST <ℤ z) last less)
ends_rise zero (suc (suc j)) m n l e k = absurd cc
ends_rise (suc zero) zero m n l e k = absurd (omega arith)
ends_rise (suc zero) (suc zero) m n l e k = absurd (omega arith)
ends_rise (suc zero) (suc (suc j)) m n l e k = absurd cc
ends_rise (suc (suc i)) j m n l e k = absurd cc

last_end : (k : ℕ) → k < 2 → 2 ≤ k + 1 → slice_get ends k ≡ Some GREATEST
last_end zero l h = absurd (omega arith)
last_end (suc zero) l h = refl
last_end (suc (suc k)) l h = absurd (omega arith)

are_ends : IsThresholds ends
are_ends = record { at_most = omega arith; least = refl; greatest = last_end; increasing = ends_rise }

module _ (D : Type 0) (d : Domain D) (laws : DomainLaws d) (is_finite : FiniteLaw true d) where
  ranks : RankLaws d true ends
  ranks = rank_laws D d laws ends are_ends true is_finite

  cap : ℕ → ℕ
  cap names = (names + 1) * (d.rank d.empty ends + 3)

  -- what has a sort ranks at most so high, over any number of names
  one_part : (names : ℕ) (s : FlowSort) (x : AbsFlow D) → flow_has_sort 1 s x ≡ true → flow_rank d ends x ≤ cap names
  unfolding cap
  one_part names s x p =
      let q : has_sorts 1 (s ∷ []) (x ∷ []) ≡ true = both p in
      omega (arith, sum_by-cons (flow_rank d ends) x [], ranks.rank_at_most 1 (omega arith) (s ∷ []) (x ∷ []) q)
    where
      both : flow_has_sort 1 s x ≡ true → has_sorts 1 (s ∷ []) (x ∷ []) ≡ true
      both p = rw p refl

  flow_capped : (names : ℕ) (s : FlowSort) (x : AbsFlow D) → flow_has_sort names s x ≡ true → flow_rank d ends x ≤ cap names
  unfolding cap
  flow_capped names sort.Int (flow.Int a) p = one_part names sort.Int (flow.Int a) refl
  flow_capped names sort.Bool (flow.Bool a) p = one_part names sort.Bool (flow.Bool a) refl
  flow_capped names sort.Val (flow.Val a) p = one_part names sort.Val (flow.Val a) refl
  flow_capped names sort.Store (flow.Store Empty) p = omega arith
  flow_capped zero sort.Store (flow.Store (Cells [])) p = omega arith
  flow_capped zero sort.Store (flow.Store (Cells (c ∷ cs))) p = absurd (omega (arith, eqb-true (suc (length cs)) 0 p))
  flow_capped (suc m) sort.Store (flow.Store (Cells cs)) p =
      let q : has_sorts (suc m) (sort.Store ∷ []) (flow.Store (Cells cs) ∷ []) ≡ true = rw p refl in
      omega (arith, sum_by-cons (flow_rank d ends) (flow.Store (Cells cs)) [], ranks.rank_at_most (suc m) (omega arith) (sort.Store ∷ []) (flow.Store (Cells cs) ∷ []) q)
  flow_capped names _ _ p = cc

  tuple_capped : (names : ℕ) (sorts : List FlowSort) (a : List (AbsFlow D)) → has_sorts names sorts a ≡ true → tuple_rank d ends a ≤ length sorts * cap names
  tuple_capped names [] [] p = omega arith
  tuple_capped names [] (x ∷ xs) p = absurd cc
  tuple_capped names (s ∷ ss) [] p = absurd cc
  tuple_capped names (s ∷ ss) (x ∷ xs) p =
      let u = and_parts (flow_has_sort names s x) (has_sorts names ss xs) p in
      omega (arith, sum_by-cons (flow_rank d ends) x xs, flow_capped names s x u.0, tuple_capped names ss xs u.1)

  -- a join with what doesn't lie below ranks lower
  pub joined_falls : (names : ℕ) (sorts : List FlowSort) (have : Outcome D) (asked : List (AbsFlow D)) → outcome_fits d names sorts have ≡ true → outcome_fits d names sorts (Some asked) ≡ true → outcome_leq d (Some asked) have ≡ false →
      slot_rank d names sorts (Some (joined d have asked)) < slot_rank d names sorts have
  unfolding cap
  joined_falls names sorts None asked h k n = omega (arith, tuple_capped names sorts asked (and_parts (has_sorts names sorts asked) (is_proper d asked) k).0)
  joined_falls names sorts (Some t) asked h k n =
      let p = and_parts (has_sorts names sorts t) (is_proper d t) h in
      let q = and_parts (has_sorts names sorts asked) (is_proper d asked) k in
      let same = ranks.widen_is_join refl t asked in
      let above = (tuple_laws D d laws).join_right t asked ((shape_laws D d).sorts_fit names sorts t asked p.0 q.0) in
      subst (λ z. tuple_rank d ends z < tuple_rank d ends t) same
      (ranks.rank_falls names sorts t asked p.0 q.0 p.1
      (λ e. both_ways (tuple_leq d asked t) n (subst (λ z. tuple_leq d asked z ≡ true) (sym same ∙ e) above)))
