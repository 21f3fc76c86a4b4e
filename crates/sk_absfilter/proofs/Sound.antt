-- Each filter's abstract result covers its results.
use Rattle.std.proofs.Common.{◌≡◌, ℕ, ℤ, pos, negsuc, neg_ℤ, Bool, true, false, not, ◌&&◌, ◌||◌, cond, ◌^◌, List, [], ◌∷◌, map, replicate, Option, Some, None, refl, sym, ap, subst}
use Rattle.std.specs.Prelude.{slice_set, is_some, int_lt}
use Rattle.std.specs.Ordering.{int_eq}
use Rattle.std.specs.List.{AllZip, AllByRecursion, Contains, filter, list_all}
use Rattle.std.specs.Option.{option_and_then}
use Rattle.std.proofs.lemmas.List.Elements.{All-from_recursion, recursion_from_All, All-contains_itself, All-weaker}
use Rattle.std.proofs.lemmas.Bool.{and_parts, and_from, cond_both, false≢true, ltb-true}
use Rattle.std.proofs.lemmas.Bool.Decides.{Decides-int_eq}
use lib.Pointwise.{pointwise}
use Rattle.sk_def.specs.declared.filter.Filter.{Filter}
use Rattle.sk_value.specs.declared.value.Value.{Value}
use Rattle.sk_value.specs.declared.value.Value.TheVariants as value
use Rattle.sk_value.specs.declared.flow.Flow.{Flow}
use Rattle.sk_value.specs.declared.flow.Flow.TheVariants as concrete
use Rattle.sk_value.specs.declared.arith.Arith.{Arith}
use Rattle.sk_value.specs.declared.arith.Compare.{Compare}
use Rattle.sk_value.specs.declared.arith.Refine.{Refine}
use Rattle.sk_value.specs.declared.arith.Refine.TheVariants as refine
use Rattle.sk_value.specs.Numbers.{IsNumber, is_number, whole_results, compares, keeps, ResultsAreGiven}
use Rattle.sk_filter.specs.declared.arg.Arg.{Arg}
use Rattle.sk_filter.specs.Arguments.{Values, State}
use Rattle.sk_filter.specs.Results as results
use Rattle.sk_filter.specs.Results.{results_of, numbers, pair_where, int_in, bool_in, value_at}
use Rattle.sk_lattice.specs.declared.truth.AbsBool.{AbsBool}
use Rattle.sk_lattice.specs.declared.value.AbsVal.{AbsVal}
use Rattle.sk_lattice.specs.declared.cell.AbsCell.{AbsCell}
use Rattle.sk_lattice.specs.declared.store.AbsStore.TheVariants.{Empty, Cells}
use Rattle.sk_lattice.specs.declared.flow.AbsFlow.{AbsFlow}
use Rattle.sk_lattice.specs.declared.flow.AbsFlow.TheVariants as flow
use Rattle.sk_lattice.specs.Domain.{Domain}
use Rattle.sk_lattice.specs.DomainLaws.{DomainLaws}
use Rattle.sk_lattice.specs.Truth.{bool_holds}
use Rattle.sk_lattice.specs.Covers.{val_covers, cell_covers, flow_covers, tuple_covers}
use Rattle.sk_lattice.specs.Empty.{cell_is_empty, flow_is_proper, is_proper}
use Rattle.sk_lattice.specs.Padding.{unset_cell}
use Rattle.sk_lattice.proofs.Parts.{num_nonempty, bool_nonempty, val_nonempty, cell_nonempty}
use Rattle.sk_absfilter.specs.declared.arg.AbsArg.{AbsArg}
use Rattle.sk_absfilter.specs.Truths.{truths_given, truths_of_pairs, only_truth}
use Rattle.sk_absfilter.specs.Abstract.{Outcome, one, number, passing, sides, some_pair, numbers_alone, truths_alone, set_cell, cell_at, may_be_set, raw_result, arg_is_proper, proper_tuple, abstract_result}
use Rattle.sk_absfilter.specs.Laws.{ArgCovers, outcome_covers, FiltersAreSound}
use Rattle.sk_absfilter.proofs.Covered.{Covered, number_covered, int_covered, ints_covered, bool_covered, bools_covered, val_covered, store_covered, cell_covered, cell_and_val_covered}
use Rattle.sk_absfilter.proofs.CoveredCells.{pairs_set, cell_at_covered, unset_covered}
use Rattle.sk_absfilter.proofs.CoveredTruths.{given_holds, pairs_hold}

-- a number that passes the test is in range
in_range : (z : ℤ) → is_number z ≡ true → IsNumber z
in_range (pos n) e = record { sfits = ltb-true n (2 ^ 63) e }
in_range (negsuc n) e = record { sfits = ltb-true n (2 ^ 63) e }

module _ (given : ResultsAreGiven) (D : Type 0) (d : Domain D) (laws : DomainLaws d) where
  one_covered : (a : AbsFlow D) (v : Flow) → flow_covers d a v ≡ true → Covered d (one a) (results.one v)
  one_covered a v h = (and_from _ _ h refl, tt)

  -- numbers are covered where each of them that is in range is held
  each_covered : (a : D) (zs : List ℤ) → AllByRecursion (λ z. IsNumber z → d.holds a z ≡ true) zs → Covered d (one (flow.Int a)) (numbers zs)
  each_covered a [] h = tt
  each_covered a (z ∷ zs) h =
      cond_both (is_number z) (z ∷ filter is_number zs) (filter is_number zs) (λ l. Covered d (one (flow.Int a)) (map (λ z. concrete.Int z ∷ []) l))
      (λ e. (and_from _ _ (h.0 (in_range z e)) refl, each_covered a zs h.1)) (λ _. each_covered a zs h.1)

  literal_covered : (z : ℤ) → Covered d (number d z) (results.number z)
  literal_covered z = each_covered (d.of z) (z ∷ []) ((λ r. laws.order.of_holds z r), tt)

  arith_covered : (op : Arith) (a b : D) (m n : ℤ) → d.holds a m ≡ true → d.holds b n ≡ true → Covered d (one (flow.Int (d.arith op a b))) (numbers (whole_results op m n))
  arith_covered op a b m n h k =
      let zs = whole_results op m n in
      each_covered (d.arith op a b) zs
      (recursion_from_All (λ z. IsNumber z → d.holds (d.arith op a b) z ≡ true) zs
      (All-weaker (Contains zs) (λ z. IsNumber z → d.holds (d.arith op a b) z ≡ true) (λ z c r. laws.sound.arith_holds op a b m n z h k ((given op m n z).0 c) r) zs (All-contains_itself zs)))

  neg_covered : (a : D) (m : ℤ) → d.holds a m ≡ true → Covered d (one (flow.Int (d.neg a))) (results.number (neg_ℤ m))
  neg_covered a m h = each_covered (d.neg a) (neg_ℤ m ∷ []) ((λ r. laws.sound.neg_holds a m r h), tt)

  compare_covered : (op : Compare) (a b : D) (m n : ℤ) → d.holds a m ≡ true → d.holds b n ≡ true → Covered d (one (flow.Bool (d.compare op a b))) (results.one (concrete.Bool (compares op m n)))
  compare_covered op a b m n h k = one_covered (flow.Bool (d.compare op a b)) (concrete.Bool (compares op m n)) (laws.sound.compare_holds op a b m n h k)

  refine_covered : (op : Refine) (a b : D) (m n : ℤ) → d.holds a m ≡ true → d.holds b n ≡ true → Covered d (sides (d.refine op a b)) (pair_where (keeps op m n) m n)
  refine_covered op a b m n h k =
      cond_both (keeps op m n) ((concrete.Int m ∷ concrete.Int n ∷ []) ∷ []) [] (Covered d (sides (d.refine op a b)))
      (λ e. (and_from _ _ (laws.sound.refine_left op a b m n h k e) (and_from _ _ (laws.sound.refine_right op a b m n h k e) refl), tt)) (λ _. tt)

  -- the empty tuple is covered where the abstract test passes whenever the test does
  passing_covered : (wide test : Bool) → (test ≡ true → wide ≡ true) → Covered d (passing wide) (results.passing test)
  passing_covered wide true h = subst (λ b. Covered d (passing b) ([] ∷ [])) (sym (h refl)) (refl, tt)
  passing_covered wide false h = tt

  -- a refined pair of which a pair of numbers is kept
  pair_there : (op : Refine) (a b : D) (m n : ℤ) → d.holds a m ≡ true → d.holds b n ≡ true → keeps op m n ≡ true → some_pair d (d.refine op a b) ≡ true
  pair_there op a b m n h k e =
      and_from _ _ (ap not (num_nonempty D d laws (d.refine op a b).0 m (laws.sound.refine_left op a b m n h k e)))
      (ap not (num_nonempty D d laws (d.refine op a b).1 n (laws.sound.refine_right op a b m n h k e)))

  zero_held : d.holds (d.of (pos 0)) (pos 0) ≡ true
  zero_held = laws.order.of_holds (pos 0) (in_range (pos 0) refl)

  zero_met : (a : D) (m : ℤ) → d.holds a m ≡ true → int_eq m (pos 0) ≡ true → not (d.is_empty (d.meet a (d.of (pos 0)))) ≡ true
  zero_met a m h e =
      let held : d.holds a (pos 0) ≡ true = subst (λ z. d.holds a z ≡ true) ((Decides-int_eq m (pos 0)).0 e) h in
      ap not (num_nonempty D d laws (d.meet a (d.of (pos 0))) (pos 0) (laws.bounds.meet_holds a (d.of (pos 0)) (pos 0) held zero_held))

  is_true_covered : (a : AbsBool) (t : Bool) → bool_holds a t ≡ true → Covered d (passing a.has_true) (results.passing t)
  is_true_covered a true h = passing_covered a.has_true true (λ _. h)
  is_true_covered a false h = tt

  is_false_covered : (a : AbsBool) (t : Bool) → bool_holds a t ≡ true → Covered d (passing a.has_false) (results.passing (not t))
  is_false_covered a true h = tt
  is_false_covered a false h = passing_covered a.has_false true (λ _. h)

  as_int_covered : (a : AbsVal D) (v : Value) → val_covers d a v ≡ true → Covered d (one (flow.Int a.num)) (int_in v)
  as_int_covered a (value.Int z) h = one_covered (flow.Int a.num) (concrete.Int z) h
  as_int_covered a (value.Bool b) h = tt

  as_bool_covered : (a : AbsVal D) (v : Value) → val_covers d a v ≡ true → Covered d (one (flow.Bool a.truth)) (bool_in v)
  as_bool_covered a (value.Int z) h = tt
  as_bool_covered a (value.Bool b) h = one_covered (flow.Bool a.truth) (concrete.Bool b) h

  read_covered : (c : AbsCell D) (v : Option Value) → cell_covers d c v ≡ true → Covered d (one (flow.Val c.val)) (results.on v (λ v. results.one (concrete.Val v)))
  read_covered c None h = tt
  read_covered c (Some v) h = one_covered (flow.Val c.val) (concrete.Val v) h

  bound_covered : (c : AbsCell D) (v : Option Value) → cell_covers d c v ≡ true → bool_holds (may_be_set d c) (is_some v) ≡ true
  bound_covered c None h = h
  bound_covered c (Some v) h = ap not (val_nonempty D d laws c.val v h)

  raw_covered : (filter : Filter) (names : ℕ) (args : List (AbsArg D)) (values : List Arg) → AllZip (ArgCovers d) args values → Covered d (raw_result d filter names args) (results_of filter names values)
  raw_covered Filter.Lit names args values h = number_covered D d _ _ literal_covered args values h
  raw_covered Filter.Zero names args values h = one_covered (flow.Int (d.of (pos 0))) (concrete.Int (pos 0)) zero_held
  raw_covered Filter.One names args values h = one_covered (flow.Int (d.of (pos 1))) (concrete.Int (pos 1)) (laws.order.of_holds (pos 1) (in_range (pos 1) refl))
  raw_covered Filter.Yes names args values h = one_covered (flow.Bool (only_truth true)) (concrete.Bool true) refl
  raw_covered Filter.No names args values h = one_covered (flow.Bool (only_truth false)) (concrete.Bool false) refl
  raw_covered Filter.Add names args values h = ints_covered D d _ _ (arith_covered Arith.Add) args values h
  raw_covered Filter.Sub names args values h = ints_covered D d _ _ (arith_covered Arith.Sub) args values h
  raw_covered Filter.Mul names args values h = ints_covered D d _ _ (arith_covered Arith.Mul) args values h
  raw_covered Filter.Neg names args values h = int_covered D d _ _ neg_covered args values h
  raw_covered Filter.Div names args values h = ints_covered D d _ _ (arith_covered Arith.Div) args values h
  raw_covered Filter.Rem names args values h = ints_covered D d _ _ (arith_covered Arith.Rem) args values h
  raw_covered Filter.Lt names args values h = ints_covered D d _ _ (compare_covered Compare.Lt) args values h
  raw_covered Filter.Le names args values h = ints_covered D d _ _ (compare_covered Compare.Le) args values h
  raw_covered Filter.Eq names args values h = ints_covered D d _ _ (compare_covered Compare.Eq) args values h
  raw_covered Filter.Not names args values h =
      bool_covered D d _ _ (λ a t p. one_covered (flow.Bool (truths_given not a)) (concrete.Bool (not t)) (given_holds not a t p)) args values h
  raw_covered Filter.And names args values h =
      bools_covered D d _ _ (λ a b s t p q. one_covered (flow.Bool (truths_of_pairs (λ x y. x && y) a b)) (concrete.Bool (s && t)) (pairs_hold (λ x y. x && y) a b s t p q)) args values h
  raw_covered Filter.Or names args values h =
      bools_covered D d _ _ (λ a b s t p q. one_covered (flow.Bool (truths_of_pairs (λ x y. x || y) a b)) (concrete.Bool (s || t)) (pairs_hold (λ x y. x || y) a b s t p q)) args values h
  raw_covered Filter.IsTrue names args values h = bool_covered D d _ _ is_true_covered args values h
  raw_covered Filter.IsFalse names args values h = bool_covered D d _ _ is_false_covered args values h
  raw_covered Filter.IsZero names args values h =
      int_covered D d _ _ (λ a m p. passing_covered (not (d.is_empty (d.meet a (d.of (pos 0))))) (int_eq m (pos 0)) (zero_met a m p)) args values h
  raw_covered Filter.NonZero names args values h =
      int_covered D d _ _ (λ a m p. passing_covered (some_pair d (d.refine refine.Differ a (d.of (pos 0)))) (not (int_eq m (pos 0))) (pair_there refine.Differ a (d.of (pos 0)) m (pos 0) p zero_held)) args values h
  raw_covered Filter.IsPos names args values h =
      int_covered D d _ _ (λ a m p. passing_covered (some_pair d (d.refine refine.Below (d.of (pos 0)) a)) (int_lt (pos 0) m) (pair_there refine.Below (d.of (pos 0)) a (pos 0) m zero_held p)) args values h
  raw_covered Filter.IsNeg names args values h =
      int_covered D d _ _ (λ a m p. passing_covered (some_pair d (d.refine refine.Below a (d.of (pos 0)))) (int_lt m (pos 0)) (pair_there refine.Below a (d.of (pos 0)) m (pos 0) p zero_held)) args values h
  raw_covered Filter.Below names args values h = ints_covered D d _ _ (refine_covered refine.Below) args values h
  raw_covered Filter.AtLeast names args values h = ints_covered D d _ _ (refine_covered refine.AtLeast) args values h
  raw_covered Filter.Same names args values h = ints_covered D d _ _ (refine_covered refine.Same) args values h
  raw_covered Filter.Differ names args values h = ints_covered D d _ _ (refine_covered refine.Differ) args values h
  raw_covered Filter.OfInt names args values h = int_covered D d _ _ (λ a m p. one_covered (flow.Val (numbers_alone a)) (concrete.Val (value.Int m)) p) args values h
  raw_covered Filter.OfBool names args values h = bool_covered D d _ _ (λ a t p. one_covered (flow.Val (truths_alone d a)) (concrete.Val (value.Bool t)) p) args values h
  raw_covered Filter.AsInt names args values h = val_covered D d _ _ as_int_covered args values h
  raw_covered Filter.AsBool names args values h = val_covered D d _ _ as_bool_covered args values h
  raw_covered Filter.Empty names args values h = one_covered (flow.Store (Cells (replicate names (unset_cell d)))) (concrete.Store (replicate names None)) (unset_covered D d names)
  raw_covered Filter.Read names args values h = cell_covered D d _ _ (λ cells s n p. read_covered (cell_at d cells n) (value_at s n) (cell_at_covered D d cells s n p)) args values h
  raw_covered Filter.Write names args values h =
      cell_and_val_covered D d _ _ (λ cells s n a v p q. one_covered (flow.Store (Cells (slice_set cells n (set_cell a)))) (concrete.Store (slice_set s n (Some v))) (pairs_set (cell_covers d) cells s n (set_cell a) (Some v) p q)) args values h
  raw_covered Filter.Forget names args values h =
      cell_covered D d _ _ (λ cells s n p. one_covered (flow.Store (Cells (slice_set cells n (unset_cell d)))) (concrete.Store (slice_set s n None)) (pairs_set (cell_covers d) cells s n (unset_cell d) None p refl)) args values h
  raw_covered Filter.Bound names args values h =
      cell_covered D d _ _ (λ cells s n p. one_covered (flow.Bool (may_be_set d (cell_at d cells n))) (concrete.Bool (is_some (value_at s n))) (bound_covered (cell_at d cells n) (value_at s n) (cell_at_covered D d cells s n p))) args values h
  raw_covered Filter.KeepInt names args values h = int_covered D d _ _ (λ a m p. one_covered (flow.Int a) (concrete.Int m) p) args values h
  raw_covered Filter.KeepBool names args values h = bool_covered D d _ _ (λ a t p. one_covered (flow.Bool a) (concrete.Bool t) p) args values h
  raw_covered Filter.KeepVal names args values h = val_covered D d _ _ (λ a v p. one_covered (flow.Val a) (concrete.Val v) p) args values h
  raw_covered Filter.KeepStore names args values h = store_covered D d _ _ (λ a s p. one_covered (flow.Store a) (concrete.Store s) p) args values h
  raw_covered Filter.AnyBool names args values h = (refl, (refl, tt))
  raw_covered Filter.Pick names args values h = ints_covered D d _ _ (arith_covered Arith.Pick) args values h

  -- what covers something isn't empty
  cells_proper : (cells : List (AbsCell D)) (s : State) → pointwise (cell_covers d) cells s ≡ true → list_all (λ c. not (cell_is_empty d c)) cells ≡ true
  cells_proper [] s h = refl
  cells_proper (x ∷ cells) [] h = absurd (false≢true h)
  cells_proper (x ∷ cells) (y ∷ s) h = let p = and_parts _ _ h in and_from _ _ (ap not (cell_nonempty D d laws x y p.0)) (cells_proper cells s p.1)

  flow_proper : (a : AbsFlow D) (v : Flow) → flow_covers d a v ≡ true → flow_is_proper d a ≡ true
  flow_proper (flow.Int a) (concrete.Int n) h = ap not (num_nonempty D d laws a n h)
  flow_proper (flow.Bool a) (concrete.Bool t) h = ap not (bool_nonempty a t h)
  flow_proper (flow.Val a) (concrete.Val v) h = ap not (val_nonempty D d laws a v h)
  flow_proper (flow.Store Empty) (concrete.Store s) h = absurd (false≢true h)
  flow_proper (flow.Store (Cells cells)) (concrete.Store s) h = cells_proper cells s h
  flow_proper _ _ h = absurd cc

  tuple_proper : (a : List (AbsFlow D)) (t : Values) → tuple_covers d a t ≡ true → is_proper d a ≡ true
  tuple_proper [] t h = refl
  tuple_proper (x ∷ a) [] h = absurd (false≢true h)
  tuple_proper (x ∷ a) (v ∷ t) h = let p = and_parts _ _ h in and_from _ _ (flow_proper x v p.0) (tuple_proper a t p.1)

  arg_proper : (a : AbsArg D) (v : Arg) → ArgCovers d a v → arg_is_proper d a ≡ true
  arg_proper (AbsArg.Number z) v h = refl
  arg_proper (AbsArg.Name n) v h = refl
  arg_proper (AbsArg.Flow a) (Arg.Number z) h = absurd h
  arg_proper (AbsArg.Flow a) (Arg.Name n) h = absurd h
  arg_proper (AbsArg.Flow a) (Arg.Flow v) h = flow_proper a v h

  args_proper : (args : List (AbsArg D)) (values : List Arg) → AllZip (ArgCovers d) args values → list_all (arg_is_proper d) args ≡ true
  args_proper [] values h = refl
  args_proper (a ∷ args) [] h = absurd h
  args_proper (a ∷ args) (v ∷ values) h = and_from _ _ (arg_proper a v h.0) (args_proper args values h.1)

  kept : (o : Outcome D) (t : Values) → outcome_covers d o t ≡ true → outcome_covers d (option_and_then (proper_tuple d) o) t ≡ true
  kept None t h = h
  kept (Some a) t h = subst (λ b. outcome_covers d (cond b (Some a) None) t ≡ true) (sym (tuple_proper a t h)) h

  each_kept : (o : Outcome D) (ts : List Values) → Covered d o ts → Covered d (option_and_then (proper_tuple d) o) ts
  each_kept o [] h = tt
  each_kept o (t ∷ ts) h = (kept o t h.0, each_kept o ts h.1)

  pub sound : FiltersAreSound d
  sound filter names args values h =
      All-from_recursion (λ t. outcome_covers d (abstract_result d filter names args) t ≡ true) (results_of filter names values)
      (subst (λ b. Covered d (cond b (option_and_then (proper_tuple d) (raw_result d filter names args)) None) (results_of filter names values)) (sym (args_proper args values h))
      (each_kept (raw_result d filter names args) (results_of filter names values) (raw_covered filter names args values h)))
