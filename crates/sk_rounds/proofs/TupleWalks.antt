-- Over every domain that meets the laws, tuples are ordered, widened and met as the rounds need it.
use Rattle.std.proofs.Common.{◌≡◌, ◌≢◌, ℕ, zero, suc, ◌+◌, ◌*◌, ◌<◌, ◌≤◌, max, ℤ, Bool, true, List, [], ◌∷◌, map, length, Option, Some, None, refl, sym, subst, arith, mul-le-mul_right}
use Rattle.std.proofs.lemmas.Bool.{and_parts, and_from, eqb-true, false≢true}
use Rattle.std.proofs.lemmas.List.Sums.{sum_by-cons}
use Rattle.sk_base.specs.declared.flow.FlowSort.{FlowSort}
use Rattle.sk_base.specs.declared.flow.FlowSort.TheVariants as sort
use Rattle.sk_lattice.specs.declared.store.AbsStore.TheVariants.{Empty, Cells}
use Rattle.sk_lattice.specs.declared.flow.AbsFlow.{AbsFlow}
use Rattle.sk_lattice.specs.declared.flow.AbsFlow.TheVariants as flow
use Rattle.sk_lattice.specs.Domain.{Domain}
use Rattle.sk_lattice.specs.DomainLaws.{DomainLaws, FiniteLaw}
use Rattle.sk_lattice.specs.Empty.{is_proper}
use Rattle.sk_lattice.specs.Merge.{Join, Widen, tuple_merge, tuple_meet}
use Rattle.sk_lattice.specs.Order.{tuple_leq, tuples_fit}
use Rattle.sk_lattice.specs.Ranks.{flow_rank, tuple_rank, RankLaws}
use Rattle.sk_lattice.specs.Shapes.{flow_has_sort, has_sorts}
use Rattle.sk_lattice.specs.Thresholds.{IsThresholds}
use Rattle.sk_lattice.proofs.SortLemmas.{shape_laws}
use Rattle.sk_lattice.proofs.Tuples.{tuple_laws}
use Rattle.sk_lattice.proofs.Widening.{rank_laws}
use Rattle.sk_rounds.specs.Walks.{Side, side_leq, FitSide, OrderLaws, WidenLaws}
use Rattle.sk_rounds.specs.SecondPhase.{MeetLaws}
use Rattle.sk_rounds.specs.Tuples.{tuple_fits, Reading, ReadingLaws, rank_cap, walks_over}

-- a store without its cells
cleared : {D : Type 0} → AbsFlow D → AbsFlow D
cleared (flow.Int a) = flow.Int a
cleared (flow.Bool a) = flow.Bool a
cleared (flow.Val a) = flow.Val a
cleared (flow.Store s) = flow.Store Empty

-- a side's sorts, where a tuple fits it
record HasSide {D : Type 0} (d : Domain D) (names : ℕ) (side : Option (List FlowSort)) (t : List (AbsFlow D)) : Type 0 where
  sorts : List FlowSort
  side_is : side ≡ Some sorts
  sorted : has_sorts names sorts t ≡ true
  proper : is_proper d t ≡ true

module _ (D : Type 0) (d : Domain D) (laws : DomainLaws d) where
  has_side : (names : ℕ) (side : Option (List FlowSort)) (t : List (AbsFlow D)) → tuple_fits d names side t ≡ true → HasSide d names side t
  has_side names None t f = absurd (false≢true f)
  has_side names (Some sorts) t f = let p = and_parts (has_sorts names sorts t) (is_proper d t) f in record { sorts = sorts; side_is = refl; sorted = p.0; proper = p.1 }

  -- two tuples that fit one side have its sorts
  both_sorted : (names : ℕ) (side : Option (List FlowSort)) (a b : List (AbsFlow D)) → tuple_fits d names side b ≡ true → (h : HasSide d names side a) → has_sorts names h.sorts b ≡ true
  both_sorted names side a b g h = (and_parts (has_sorts names h.sorts b) (is_proper d b) (subst (λ s. tuple_fits d names s b ≡ true) h.side_is g)).0

  from_side : (names : ℕ) (side : Option (List FlowSort)) (a b : List (AbsFlow D)) (h : HasSide d names side a) → has_sorts names h.sorts b ≡ true → is_proper d b ≡ true → tuple_fits d names side b ≡ true
  from_side names side a b h p q = subst (λ s. tuple_fits d names s b ≡ true) (sym h.side_is) (and_from (has_sorts names h.sorts b) (is_proper d b) p q)

  pub fit : (names : ℕ) (side : Option (List FlowSort)) (a b : List (AbsFlow D)) → tuple_fits d names side a ≡ true → tuple_fits d names side b ≡ true → tuples_fit a b ≡ true
  fit names side a b f g = let h = has_side names side a f in (shape_laws D d).sorts_fit names h.sorts a b h.sorted (both_sorted names side a b g h)

  join_left : (names : ℕ) (side : Option (List FlowSort)) (a b : List (AbsFlow D)) → tuple_fits d names side a ≡ true → tuple_fits d names side b ≡ true → tuple_leq d a (tuple_merge d Join a b) ≡ true
  join_left names side a b f g = (tuple_laws D d laws).join_left a b (fit names side a b f g)

  join_fits : (names : ℕ) (side : Option (List FlowSort)) (a b : List (AbsFlow D)) → tuple_fits d names side a ≡ true → tuple_fits d names side b ≡ true → tuple_fits d names side (tuple_merge d Join a b) ≡ true
  join_fits names side a b f g =
      let h = has_side names side a f in
      from_side names side a (tuple_merge d Join a b) h
      ((shape_laws D d).join_sorts names h.sorts a b h.sorted (both_sorted names side a b g h))
      ((tuple_laws D d laws).proper_more a (tuple_merge d Join a b) (join_left names side a b f g) h.proper)

  pub order_laws : (K : Type 0) (finite : Bool) (marks : List ℤ) (r : Reading K D) → ReadingLaws r → OrderLaws (walks_over d finite marks r)
  order_laws K finite marks r reading =
      let t = tuple_laws D d laws in
      record {
        same_refl = reading.same_refl;
        same_only = reading.same_only;
        leq_refl = t.leq_refl;
        leq_trans = t.leq_trans;
        leq_antisym = t.leq_antisym;
        join_left = λ k side. join_left r.names (r.sorts k side);
        join_right = λ k side a b f g. t.join_right a b (fit r.names (r.sorts k side) a b f g);
        join_least = t.join_least;
        join_fits = λ k side. join_fits r.names (r.sorts k side);
      }

  -- The meet of two tuples is the greatest side below both.

  meet_below : (K : Type 0) (finite : Bool) (marks : List ℤ) (r : Reading K D) (c : List (AbsFlow D)) (x : Option (List (AbsFlow D))) → ((m : List (AbsFlow D)) → x ≡ Some m → tuple_leq d m c ≡ true) → side_leq (walks_over d finite marks r) x (Some c) ≡ true
  meet_below K finite marks r c None h = refl
  meet_below K finite marks r c (Some m) h = h m refl

  meet_fits : (K : Type 0) (finite : Bool) (marks : List ℤ) (r : Reading K D) (k : K) (side : Side) (a b : List (AbsFlow D)) → tuple_fits d r.names (r.sorts k side) a ≡ true → tuple_fits d r.names (r.sorts k side) b ≡ true →
      (x : Option (List (AbsFlow D))) → tuple_meet d a b ≡ x → FitSide (walks_over d finite marks r) k side x
  meet_fits K finite marks r k side a b f g None e = tt
  meet_fits K finite marks r k side a b f g (Some m) e =
      let h = has_side r.names (r.sorts k side) a f in
      from_side r.names (r.sorts k side) a m h
      ((shape_laws D d).meet_sorts r.names h.sorts a b m h.sorted (both_sorted r.names (r.sorts k side) a b g h) e)
      ((tuple_laws D d laws).meet_proper a b m (fit r.names (r.sorts k side) a b f g) e)

  pub meet_laws : (K : Type 0) (finite : Bool) (marks : List ℤ) (r : Reading K D) → MeetLaws (walks_over d finite marks r) (tuple_meet d)
  meet_laws K finite marks r =
      let t = tuple_laws D d laws in
      record {
        meet_left = λ k side a b f g. meet_below K finite marks r a (tuple_meet d a b) (λ m e. t.meet_left a b m (fit r.names (r.sorts k side) a b f g) e);
        meet_right = λ k side a b f g. meet_below K finite marks r b (tuple_meet d a b) (λ m e. t.meet_right a b m (fit r.names (r.sorts k side) a b f g) e);
        meet_greatest = λ k side a b c f g h le ge.
            let m = t.meet_greatest a b c (has_side r.names (r.sorts k side) c h).proper le ge in
            subst (λ z. side_leq (walks_over d finite marks r) (Some c) z ≡ true) (sym m.is) m.above;
        meet_fits = λ k side a b f g. meet_fits K finite marks r k side a b f g (tuple_meet d a b) refl;
      }

  module _ (marks : List ℤ) (are : IsThresholds marks) (finite : Bool) (is_finite : FiniteLaw finite d) where
    ranks : RankLaws d finite marks
    ranks = rank_laws D d laws marks are finite is_finite

    -- where there is no name, stores rank as without cells
    cleared_sort : (s : FlowSort) (x : AbsFlow D) → flow_has_sort 0 s x ≡ true → flow_has_sort 1 s (cleared x) ≡ true
    unfolding cleared
    cleared_sort sort.Int (flow.Int a) p = refl
    cleared_sort sort.Bool (flow.Bool a) p = refl
    cleared_sort sort.Val (flow.Val a) p = refl
    cleared_sort sort.Store (flow.Store a) p = refl
    cleared_sort _ _ p = cc

    cleared_rank : (s : FlowSort) (x : AbsFlow D) → flow_has_sort 0 s x ≡ true → flow_rank d marks (cleared x) ≡ flow_rank d marks x
    unfolding cleared
    cleared_rank s (flow.Int a) p = refl
    cleared_rank s (flow.Bool a) p = refl
    cleared_rank s (flow.Val a) p = refl
    cleared_rank s (flow.Store Empty) p = refl
    cleared_rank s (flow.Store (Cells [])) p = refl
    cleared_rank sort.Store (flow.Store (Cells (c ∷ cs))) p = absurd (omega (arith, eqb-true (suc (length cs)) 0 p))
    cleared_rank _ (flow.Store (Cells (c ∷ cs))) p = cc

    all_cleared : (sorts : List FlowSort) (a : List (AbsFlow D)) → has_sorts 0 sorts a ≡ true → (has_sorts 1 sorts (map cleared a) ≡ true) × (tuple_rank d marks (map cleared a) ≡ tuple_rank d marks a)
    all_cleared [] [] p = (refl, refl)
    all_cleared (s ∷ ss) (x ∷ xs) p =
        let u = and_parts (flow_has_sort 0 s x) (has_sorts 0 ss xs) p in
        let rest = all_cleared ss xs u.1 in
        (and_from _ _ (cleared_sort s x u.0) rest.0, omega (arith, sum_by-cons (flow_rank d marks) x xs, sum_by-cons (flow_rank d marks) (cleared x) (map cleared xs), cleared_rank s x u.0, rest.1))
    all_cleared _ _ p = cc

    rank_at_most : (names : ℕ) (sorts : List FlowSort) (a : List (AbsFlow D)) → has_sorts names sorts a ≡ true → tuple_rank d marks a ≤ length sorts * (max names 1 * (d.rank d.empty marks + 3))
    rank_at_most zero sorts a p = let c = all_cleared sorts a p in subst (λ n. n ≤ length sorts * (1 * (d.rank d.empty marks + 3))) c.1 (ranks.rank_at_most 1 (omega arith) sorts (map cleared a) c.0)
    rank_at_most (suc m) sorts a p =
        subst (λ n. tuple_rank d marks a ≤ length sorts * (n * (d.rank d.empty marks + 3))) (omega arith) (ranks.rank_at_most (suc m) (omega arith) sorts a p)

    rank_capped : (names : ℕ) (side : Option (List FlowSort)) → ((sorts : List FlowSort) → side ≡ Some sorts → length sorts ≤ 4) → (a : List (AbsFlow D)) → tuple_fits d names side a ≡ true → tuple_rank d marks a < rank_cap d marks names
    rank_capped names side few a f =
        let h = has_side names side a f in
        let c = max names 1 * (d.rank d.empty marks + 3) in
        omega (arith, rank_at_most names h.sorts a h.sorted, mul-le-mul_right {m = length h.sorts} {n = 4} c (few h.sorts h.side_is))

    widen_left : (names : ℕ) (side : Option (List FlowSort)) (a b : List (AbsFlow D)) → tuple_fits d names side a ≡ true → tuple_fits d names side b ≡ true → tuple_leq d a (tuple_merge d (Widen marks) a b) ≡ true
    widen_left names side a b f g = (tuple_laws D d laws).widen_left marks are a b (fit names side a b f g)

    widen_fits : (names : ℕ) (side : Option (List FlowSort)) (a b : List (AbsFlow D)) → tuple_fits d names side a ≡ true → tuple_fits d names side b ≡ true → tuple_fits d names side (tuple_merge d (Widen marks) a b) ≡ true
    widen_fits names side a b f g =
        let h = has_side names side a f in
        from_side names side a (tuple_merge d (Widen marks) a b) h
        ((shape_laws D d).widen_sorts marks names h.sorts a b h.sorted (both_sorted names side a b g h))
        ((tuple_laws D d laws).proper_more a (tuple_merge d (Widen marks) a b) (widen_left names side a b f g) h.proper)

    rank_falls : (names : ℕ) (side : Option (List FlowSort)) (a b : List (AbsFlow D)) → tuple_fits d names side a ≡ true → tuple_fits d names side b ≡ true → tuple_merge d (Widen marks) a b ≢ a → tuple_rank d marks (tuple_merge d (Widen marks) a b) < tuple_rank d marks a
    rank_falls names side a b f g n = let h = has_side names side a f in ranks.rank_falls names h.sorts a b h.sorted (both_sorted names side a b g h) h.proper n

    pub widen_laws : (K : Type 0) (r : Reading K D) → ReadingLaws r → WidenLaws (walks_over d finite marks r)
    widen_laws K r reading =
        record {
          widen_left = λ k side. widen_left r.names (r.sorts k side);
          widen_right = λ k side a b f g. (tuple_laws D d laws).widen_right marks are a b (fit r.names (r.sorts k side) a b f g);
          widen_fits = λ k side. widen_fits r.names (r.sorts k side);
          widen_finite = ranks.widen_is_join;
          rank_falls = λ k side. rank_falls r.names (r.sorts k side);
          rank_capped = λ k side. rank_capped r.names (r.sorts k side) (reading.few_sorts k side);
        }
