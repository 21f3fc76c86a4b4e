-- Greater arguments give a greater or equal result.
use Rattle.std.proofs.Common.{◌≡◌, ℕ, zero, suc, pos, Bool, true, false, not, ◌&&◌, ◌||◌, cond, List, [], ◌∷◌, replicate, Some, None, refl, sym, ap, subst}
use Rattle.std.specs.Prelude.{slice_set}
use Rattle.std.specs.List.{AllZip, list_all}
use Rattle.std.specs.Option.{option_and_then}
use Rattle.std.proofs.lemmas.Bool.{and_parts, and_from, cond_both, false≢true, not-true}
use lib.Pointwise.{pointwise}
use Rattle.sk_def.specs.declared.filter.Filter.{Filter}
use Rattle.sk_value.specs.declared.arith.Arith.{Arith}
use Rattle.sk_value.specs.declared.arith.Compare.{Compare}
use Rattle.sk_value.specs.declared.arith.Refine.{Refine}
use Rattle.sk_value.specs.declared.arith.Refine.TheVariants as refine
use Rattle.sk_lattice.specs.declared.cell.AbsCell.{AbsCell}
use Rattle.sk_lattice.specs.declared.store.AbsStore.TheVariants.{Cells}
use Rattle.sk_lattice.specs.declared.flow.AbsFlow.{AbsFlow}
use Rattle.sk_lattice.specs.declared.flow.AbsFlow.TheVariants as flow
use Rattle.sk_lattice.specs.Domain.{Domain}
use Rattle.sk_lattice.specs.DomainLaws.{DomainLaws}
use Rattle.sk_lattice.specs.Truth.{bool_leq}
use Rattle.sk_lattice.specs.Order.{cell_leq, flow_leq}
use Rattle.sk_lattice.specs.Empty.{val_is_empty, is_proper}
use Rattle.sk_lattice.specs.Padding.{unset_cell}
use Rattle.sk_lattice.specs.Laws.{TupleLaws}
use Rattle.sk_lattice.proofs.Parts.{bool_more, cell_leq_refl, num_filled, val_filled, implied}
use Rattle.sk_absfilter.specs.declared.arg.AbsArg.{AbsArg}
use Rattle.sk_absfilter.specs.Truths.{truths_given, truths_of_pairs}
use Rattle.sk_absfilter.specs.Abstract.{Outcome, one, passing, sides, some_pair, numbers_alone, truths_alone, set_cell, cell_at, may_be_set, raw_result, arg_is_proper, proper_tuple, abstract_result}
use Rattle.sk_absfilter.specs.Laws.{ArgLeq, FiltersAreMonotone}
use Rattle.sk_absfilter.proofs.Above.{Below, number_below, int_below, ints_below, bool_below, bools_below, val_below, store_below, cell_below, cell_and_val_below}
use Rattle.sk_absfilter.proofs.CoveredCells.{pairs_set}
use Rattle.sk_absfilter.proofs.CoveredTruths.{given_more, pairs_more}

module _ (D : Type 0) (d : Domain D) (laws : DomainLaws d) (tuples : TupleLaws d) where
  one_below : (a b : AbsFlow D) → flow_leq d a b ≡ true → Below d (one a) (one b)
  one_below a b h = and_from _ _ h refl

  same_below : (a : AbsFlow D) → Below d (one a) (one a)
  same_below a = tuples.leq_refl (a ∷ [])

  arith_below : (op : Arith) (a x b y : D) → d.leq a x ≡ true → d.leq b y ≡ true → Below d (one (flow.Int (d.arith op a b))) (one (flow.Int (d.arith op x y)))
  arith_below op a x b y h k = one_below (flow.Int (d.arith op a b)) (flow.Int (d.arith op x y)) (laws.monotone.arith_leq op a x b y h k)

  compare_below : (op : Compare) (a x b y : D) → d.leq a x ≡ true → d.leq b y ≡ true → Below d (one (flow.Bool (d.compare op a b))) (one (flow.Bool (d.compare op x y)))
  compare_below op a x b y h k = one_below (flow.Bool (d.compare op a b)) (flow.Bool (d.compare op x y)) (laws.monotone.compare_leq op a x b y h k)

  refine_below : (op : Refine) (a x b y : D) → d.leq a x ≡ true → d.leq b y ≡ true → Below d (sides (d.refine op a b)) (sides (d.refine op x y))
  refine_below op a x b y h k = and_from _ _ (laws.monotone.refine_left_leq op a x b y h k) (and_from _ _ (laws.monotone.refine_right_leq op a x b y h k) refl)

  -- a test that passes whenever another does
  passing_below : (test wide : Bool) → (test ≡ true → wide ≡ true) → Below d (passing test) (passing wide)
  passing_below true wide h = subst (λ b. Below d (Some []) (passing b)) (sym (h refl)) refl
  passing_below false wide h = refl

  filled : (a x : D) → d.leq a x ≡ true → not (d.is_empty a) ≡ true → not (d.is_empty x) ≡ true
  filled a x h e = ap not (num_filled D d laws a x h (not-true (d.is_empty a) e))

  pair_more : (op : Refine) (a x b y : D) → d.leq a x ≡ true → d.leq b y ≡ true → some_pair d (d.refine op a b) ≡ true → some_pair d (d.refine op x y) ≡ true
  pair_more op a x b y h k e =
      let p = and_parts _ _ e in
      and_from _ _ (filled (d.refine op a b).0 (d.refine op x y).0 (laws.monotone.refine_left_leq op a x b y h k) p.0)
      (filled (d.refine op a b).1 (d.refine op x y).1 (laws.monotone.refine_right_leq op a x b y h k) p.1)

  meet_more : (a x z : D) → d.leq a x ≡ true → d.leq (d.meet a z) (d.meet x z) ≡ true
  meet_more a x z h = laws.bounds.meet_greatest x z (d.meet a z) (laws.order.leq_trans (d.meet a z) a x (laws.bounds.meet_left a z) h) (laws.bounds.meet_right a z)

  cell_at_more : (a x : List (AbsCell D)) (n : ℕ) → pointwise (cell_leq d) a x ≡ true → cell_leq d (cell_at d a n) (cell_at d x n) ≡ true
  cell_at_more [] [] n h = cell_leq_refl D d laws (unset_cell d)
  cell_at_more [] (e ∷ x) n h = absurd (false≢true h)
  cell_at_more (c ∷ a) [] n h = absurd (false≢true h)
  cell_at_more (c ∷ a) (e ∷ x) zero h = (and_parts _ _ h).0
  cell_at_more (c ∷ a) (e ∷ x) (suc n) h = cell_at_more a x n (and_parts _ _ h).1

  may_be_set_more : (c e : AbsCell D) → cell_leq d c e ≡ true → bool_leq (may_be_set d c) (may_be_set d e) ≡ true
  may_be_set_more c e h =
      let p = and_parts _ _ h in
      and_from _ _ (implied (not (val_is_empty d c.val)) (not (val_is_empty d e.val)) (λ f. ap not (val_filled D d laws c.val e.val p.0 (not-true (val_is_empty d c.val) f)))) p.1

  raw_below : (filter : Filter) (names : ℕ) (args greater : List (AbsArg D)) → AllZip (ArgLeq d) args greater → Below d (raw_result d filter names args) (raw_result d filter names greater)
  raw_below Filter.Lit names args greater h = number_below D d _ (λ z. same_below (flow.Int (d.of z))) args greater h
  raw_below Filter.Zero names args greater h = same_below (flow.Int (d.of (pos 0)))
  raw_below Filter.One names args greater h = same_below (flow.Int (d.of (pos 1)))
  raw_below Filter.Yes names args greater h = refl
  raw_below Filter.No names args greater h = refl
  raw_below Filter.Add names args greater h = ints_below D d _ (arith_below Arith.Add) args greater h
  raw_below Filter.Sub names args greater h = ints_below D d _ (arith_below Arith.Sub) args greater h
  raw_below Filter.Mul names args greater h = ints_below D d _ (arith_below Arith.Mul) args greater h
  raw_below Filter.Neg names args greater h = int_below D d _ (λ a x e. one_below (flow.Int (d.neg a)) (flow.Int (d.neg x)) (laws.monotone.neg_leq a x e)) args greater h
  raw_below Filter.Div names args greater h = ints_below D d _ (arith_below Arith.Div) args greater h
  raw_below Filter.Rem names args greater h = ints_below D d _ (arith_below Arith.Rem) args greater h
  raw_below Filter.Lt names args greater h = ints_below D d _ (compare_below Compare.Lt) args greater h
  raw_below Filter.Le names args greater h = ints_below D d _ (compare_below Compare.Le) args greater h
  raw_below Filter.Eq names args greater h = ints_below D d _ (compare_below Compare.Eq) args greater h
  raw_below Filter.Not names args greater h =
      bool_below D d _ (λ a x e. one_below (flow.Bool (truths_given not a)) (flow.Bool (truths_given not x)) (given_more not a x e)) args greater h
  raw_below Filter.And names args greater h =
      bools_below D d _ (λ a x b y p q. one_below (flow.Bool (truths_of_pairs (λ s t. s && t) a b)) (flow.Bool (truths_of_pairs (λ s t. s && t) x y)) (pairs_more (λ s t. s && t) a x b y p q)) args greater h
  raw_below Filter.Or names args greater h =
      bools_below D d _ (λ a x b y p q. one_below (flow.Bool (truths_of_pairs (λ s t. s || t) a b)) (flow.Bool (truths_of_pairs (λ s t. s || t) x y)) (pairs_more (λ s t. s || t) a x b y p q)) args greater h
  raw_below Filter.IsTrue names args greater h = bool_below D d _ (λ a x e. passing_below a.has_true x.has_true (bool_more a x e true)) args greater h
  raw_below Filter.IsFalse names args greater h = bool_below D d _ (λ a x e. passing_below a.has_false x.has_false (bool_more a x e false)) args greater h
  raw_below Filter.IsZero names args greater h =
      int_below D d _ (λ a x e. passing_below (not (d.is_empty (d.meet a (d.of (pos 0))))) (not (d.is_empty (d.meet x (d.of (pos 0))))) (filled (d.meet a (d.of (pos 0))) (d.meet x (d.of (pos 0))) (meet_more a x (d.of (pos 0)) e))) args greater h
  raw_below Filter.NonZero names args greater h =
      int_below D d _ (λ a x e. let z = d.of (pos 0) in passing_below (some_pair d (d.refine refine.Differ a z)) (some_pair d (d.refine refine.Differ x z)) (pair_more refine.Differ a x z z e (laws.order.leq_refl z))) args greater h
  raw_below Filter.IsPos names args greater h =
      int_below D d _ (λ a x e. let z = d.of (pos 0) in passing_below (some_pair d (d.refine refine.Below z a)) (some_pair d (d.refine refine.Below z x)) (pair_more refine.Below z z a x (laws.order.leq_refl z) e)) args greater h
  raw_below Filter.IsNeg names args greater h =
      int_below D d _ (λ a x e. let z = d.of (pos 0) in passing_below (some_pair d (d.refine refine.Below a z)) (some_pair d (d.refine refine.Below x z)) (pair_more refine.Below a x z z e (laws.order.leq_refl z))) args greater h
  raw_below Filter.Below names args greater h = ints_below D d _ (refine_below refine.Below) args greater h
  raw_below Filter.AtLeast names args greater h = ints_below D d _ (refine_below refine.AtLeast) args greater h
  raw_below Filter.Same names args greater h = ints_below D d _ (refine_below refine.Same) args greater h
  raw_below Filter.Differ names args greater h = ints_below D d _ (refine_below refine.Differ) args greater h
  raw_below Filter.OfInt names args greater h = int_below D d _ (λ a x e. one_below (flow.Val (numbers_alone a)) (flow.Val (numbers_alone x)) (and_from _ _ e refl)) args greater h
  raw_below Filter.OfBool names args greater h = bool_below D d _ (λ a x e. one_below (flow.Val (truths_alone d a)) (flow.Val (truths_alone d x)) (and_from _ _ (laws.order.leq_refl d.empty) e)) args greater h
  raw_below Filter.AsInt names args greater h = val_below D d _ (λ a x e. one_below (flow.Int a.num) (flow.Int x.num) (and_parts _ _ e).0) args greater h
  raw_below Filter.AsBool names args greater h = val_below D d _ (λ a x e. one_below (flow.Bool a.truth) (flow.Bool x.truth) (and_parts _ _ e).1) args greater h
  raw_below Filter.Empty names args greater h = same_below (flow.Store (Cells (replicate names (unset_cell d))))
  raw_below Filter.Read names args greater h =
      cell_below D d _ (λ a x n e. one_below (flow.Val (cell_at d a n).val) (flow.Val (cell_at d x n).val) (and_parts _ _ (cell_at_more a x n e)).0) args greater h
  raw_below Filter.Write names args greater h =
      cell_and_val_below D d _ (λ a x n v y p q. one_below (flow.Store (Cells (slice_set a n (set_cell v)))) (flow.Store (Cells (slice_set x n (set_cell y)))) (pairs_set (cell_leq d) a x n (set_cell v) (set_cell y) p (and_from _ _ q refl))) args greater h
  raw_below Filter.Forget names args greater h =
      cell_below D d _ (λ a x n e. one_below (flow.Store (Cells (slice_set a n (unset_cell d)))) (flow.Store (Cells (slice_set x n (unset_cell d)))) (pairs_set (cell_leq d) a x n (unset_cell d) (unset_cell d) e (cell_leq_refl D d laws (unset_cell d)))) args greater h
  raw_below Filter.Bound names args greater h =
      cell_below D d _ (λ a x n e. one_below (flow.Bool (may_be_set d (cell_at d a n))) (flow.Bool (may_be_set d (cell_at d x n))) (may_be_set_more (cell_at d a n) (cell_at d x n) (cell_at_more a x n e))) args greater h
  raw_below Filter.KeepInt names args greater h = int_below D d _ (λ a x e. one_below (flow.Int a) (flow.Int x) e) args greater h
  raw_below Filter.KeepBool names args greater h = bool_below D d _ (λ a x e. one_below (flow.Bool a) (flow.Bool x) e) args greater h
  raw_below Filter.KeepVal names args greater h = val_below D d _ (λ a x e. one_below (flow.Val a) (flow.Val x) e) args greater h
  raw_below Filter.KeepStore names args greater h = store_below D d _ (λ a x e. one_below (flow.Store a) (flow.Store x) e) args greater h
  raw_below Filter.AnyBool names args greater h = refl
  raw_below Filter.Pick names args greater h = ints_below D d _ (arith_below Arith.Pick) args greater h

  arg_proper_more : (a b : AbsArg D) → ArgLeq d a b → arg_is_proper d a ≡ true → arg_is_proper d b ≡ true
  arg_proper_more (AbsArg.Number z) (AbsArg.Number y) h e = refl
  arg_proper_more (AbsArg.Name n) (AbsArg.Name m) h e = refl
  arg_proper_more (AbsArg.Flow a) (AbsArg.Flow b) h e = (and_parts _ _ (tuples.proper_more (a ∷ []) (b ∷ []) (and_from _ _ h refl) (and_from _ _ e refl))).0
  arg_proper_more _ _ h e = absurd h

  args_proper_more : (args greater : List (AbsArg D)) → AllZip (ArgLeq d) args greater → list_all (arg_is_proper d) args ≡ true → list_all (arg_is_proper d) greater ≡ true
  args_proper_more [] [] h e = refl
  args_proper_more [] (b ∷ greater) h e = absurd h
  args_proper_more (a ∷ args) [] h e = absurd h
  args_proper_more (a ∷ args) (b ∷ greater) h e = let p = and_parts _ _ e in and_from _ _ (arg_proper_more a b h.0 p.0) (args_proper_more args greater h.1 p.1)

  kept_below : (a b : Outcome D) → Below d a b → Below d (option_and_then (proper_tuple d) a) (option_and_then (proper_tuple d) b)
  kept_below None b h = refl
  kept_below (Some a) None h = absurd (false≢true h)
  kept_below (Some a) (Some b) h =
      cond_both (is_proper d a) (Some a) None (λ o. Below d o (proper_tuple d b)) (λ e. subst (λ p. Below d (Some a) (cond p (Some b) None)) (sym (tuples.proper_more a b h e)) h) (λ _. refl)

  pub monotone : FiltersAreMonotone d
  monotone filter names args greater h =
      let low = option_and_then (proper_tuple d) (raw_result d filter names args) in
      let high = option_and_then (proper_tuple d) (raw_result d filter names greater) in
      cond_both (list_all (arg_is_proper d) args) low None (λ o. Below d o (abstract_result d filter names greater))
      (λ e. subst (λ p. Below d low (cond p high None)) (sym (args_proper_more args greater h e)) (kept_below (raw_result d filter names args) (raw_result d filter names greater) (raw_below filter names args greater h)))
      (λ _. refl)
