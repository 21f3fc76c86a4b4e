-- The abstract result of each filter is the least outcome that covers its results.
use Rattle.std.proofs.Common.{◌≡◌, ℕ, zero, suc, ℤ, pos, neg_ℤ, Bool, true, false, not, ◌&&◌, ◌||◌, List, [], ◌∷◌, replicate, Option, Some, None, refl, sym, ap, subst, ◌∙◌, arith, lit<}
use Rattle.std.specs.Prelude.{slice_set, is_some, int_lt}
use Rattle.std.specs.Ordering.{int_eq}
use Rattle.std.specs.List.{AllZip, AllByRecursion, All, Contains, list_all}
use Rattle.std.specs.Option.{option_and_then}
use Rattle.std.proofs.lemmas.List.Elements.{All-from_recursion, recursion_from_All}
use Rattle.std.proofs.lemmas.Bool.{and_parts, and_from, cond_both, false≢true, both_ways, not-true}
use lib.Pointwise.{pointwise}
use Rattle.sk_def.specs.declared.filter.Filter.{Filter}
use Rattle.sk_def.specs.declared.filter.Filter.TheVariants as named
use Rattle.sk_value.specs.declared.value.Value.{Value}
use Rattle.sk_value.specs.declared.value.Value.TheVariants as value
use Rattle.sk_value.specs.declared.flow.Flow.TheVariants as concrete
use Rattle.sk_value.specs.declared.arith.Arith.{Arith}
use Rattle.sk_value.specs.declared.arith.Compare.{Compare}
use Rattle.sk_value.specs.declared.arith.Refine.{Refine}
use Rattle.sk_value.specs.declared.arith.Refine.TheVariants as refine
use Rattle.sk_value.specs.Numbers.{IsNumber, whole_results, compares, keeps, ResultsAreGiven}
use Rattle.sk_filter.specs.declared.arg.Arg.{Arg}
use Rattle.sk_filter.specs.Arguments.{Values, State}
use Rattle.sk_filter.specs.Results.{results_of, numbers, value_at}
use Rattle.sk_filter.specs.Results as results
use Rattle.sk_lattice.specs.declared.truth.AbsBool.{AbsBool}
use Rattle.sk_lattice.specs.declared.value.AbsVal.{AbsVal}
use Rattle.sk_lattice.specs.declared.cell.AbsCell.{AbsCell}
use Rattle.sk_lattice.specs.declared.store.AbsStore.{AbsStore}
use Rattle.sk_lattice.specs.declared.store.AbsStore.TheVariants.{Empty, Cells}
use Rattle.sk_lattice.specs.declared.flow.AbsFlow.TheVariants as flow
use Rattle.sk_lattice.specs.Domain.{Domain}
use Rattle.sk_lattice.specs.DomainLaws.{DomainLaws}
use Rattle.sk_lattice.specs.Truth.{bool_holds}
use Rattle.sk_lattice.specs.Covers.{val_covers, cell_covers}
use Rattle.sk_lattice.specs.Empty.{val_is_empty, cell_is_empty}
use Rattle.sk_lattice.specs.Padding.{unset_cell}
use Rattle.sk_lattice.proofs.Parts.{bool_leq_by}
use Rattle.sk_absfilter.specs.declared.arg.AbsArg.{AbsArg}
use Rattle.sk_absfilter.specs.Arguments.{the_number, the_int, the_ints, the_bool, the_bools, the_val, the_store, the_cell, the_cell_and_val}
use Rattle.sk_absfilter.specs.Truths.{both_truths, only_truth, truths_given, truths_of_pairs}
use Rattle.sk_absfilter.specs.Abstract.{Outcome, on, on_both, on_all, one, sides, passing, some_pair, numbers_alone, truths_alone, set_cell, cell_at, may_be_set, raw_result, arg_is_proper, proper_tuple}
use Rattle.sk_absfilter.specs.Laws.{ArgCovers, outcome_covers, outcome_leq, FiltersAreSound}
use Rattle.sk_least.specs.Domains.{Held, LeastLaws}
use Rattle.sk_least.specs.Least.{ArgFits, LeafFits, arithmetic_passes, FiltersAreLeast}
use Rattle.sk_least.proofs.InRange.{PlaceFits, ArgInRange, args_pass}
use Rattle.sk_least.proofs.Found.{truth_given, truth_of_pair, at_number}
use Rattle.sk_least.proofs.States.{some_truth, StateFits, Filled, val_has, cells_have, val_below_by, store_below_by, place_has, comes_from, filled_set, written, forgotten}
use Rattle.sk_least.proofs.Outcomes.{int_part, bool_part, val_part, store_part, left_part, right_part, int_covered, bool_covered, val_covered, store_covered, sides_covered, test_below, int_below, bool_below, val_below, store_below, sides_below}

alone : (z : ℤ) → Contains (z ∷ []) z
alone z = (0, omega arith, refl)

module _ (D : Type 0) (d : Domain D) where
  -- what is given of the arguments: none is empty, literals are in range, arithmetic is to be least on them, and an outcome
  -- covers each result of the filter
  record Given (filter : Filter) (names : ℕ) (least_on : Arith → D → D → Bool) (o : Outcome D) (args : List (AbsArg D)) : Type 0 where
    proper : list_all (arg_is_proper d) args ≡ true
    leaves : AllByRecursion LeafFits args
    passes : arithmetic_passes least_on filter args ≡ true
    covers : (values : List Arg) → AllZip (ArgCovers d) args values → AllByRecursion ArgInRange values → AllByRecursion (λ t. outcome_covers d o t ≡ true) (results_of filter names values)

  abbrev Kept : Outcome D → Outcome D → Type 0
  Kept x o = outcome_leq d (option_and_then (proper_tuple d) x) o ≡ true

  -- arguments of the sorts that are asked for; with others there is no result
  module _ (o : Outcome D) (G : List (AbsArg D) → Type 0) where
    of_number : (f : ℤ → Outcome D) → ((z : ℤ) → G (AbsArg.Number z ∷ []) → Kept (f z) o) → (args : List (AbsArg D)) → G args → Kept (on (the_number args) f) o
    of_number f step (AbsArg.Number z ∷ []) g = step z g
    of_number f step _ g = refl

    of_int : (f : D → Outcome D) → ((a : D) → G (AbsArg.Flow (flow.Int a) ∷ []) → Kept (f a) o) → (args : List (AbsArg D)) → G args → Kept (on (the_int args) f) o
    of_int f step (AbsArg.Flow (flow.Int a) ∷ []) g = step a g
    of_int f step _ g = refl

    of_ints : (f : D → D → Outcome D) → ((a b : D) → G (AbsArg.Flow (flow.Int a) ∷ AbsArg.Flow (flow.Int b) ∷ []) → Kept (f a b) o) → (args : List (AbsArg D)) → G args → Kept (on_both (the_ints args) f) o
    of_ints f step (AbsArg.Flow (flow.Int a) ∷ AbsArg.Flow (flow.Int b) ∷ []) g = step a b g
    of_ints f step _ g = refl

    of_bool : (f : AbsBool → Outcome D) → ((a : AbsBool) → G (AbsArg.Flow (flow.Bool a) ∷ []) → Kept (f a) o) → (args : List (AbsArg D)) → G args → Kept (on (the_bool args) f) o
    of_bool f step (AbsArg.Flow (flow.Bool a) ∷ []) g = step a g
    of_bool f step _ g = refl

    of_bools : (f : AbsBool → AbsBool → Outcome D) → ((a b : AbsBool) → G (AbsArg.Flow (flow.Bool a) ∷ AbsArg.Flow (flow.Bool b) ∷ []) → Kept (f a b) o) → (args : List (AbsArg D)) → G args → Kept (on_both (the_bools args) f) o
    of_bools f step (AbsArg.Flow (flow.Bool a) ∷ AbsArg.Flow (flow.Bool b) ∷ []) g = step a b g
    of_bools f step _ g = refl

    of_val : (f : AbsVal D → Outcome D) → ((a : AbsVal D) → G (AbsArg.Flow (flow.Val a) ∷ []) → Kept (f a) o) → (args : List (AbsArg D)) → G args → Kept (on (the_val args) f) o
    of_val f step (AbsArg.Flow (flow.Val a) ∷ []) g = step a g
    of_val f step _ g = refl

    of_store : (f : AbsStore D → Outcome D) → ((a : AbsStore D) → G (AbsArg.Flow (flow.Store a) ∷ []) → Kept (f a) o) → (args : List (AbsArg D)) → G args → Kept (on (the_store args) f) o
    of_store f step (AbsArg.Flow (flow.Store a) ∷ []) g = step a g
    of_store f step _ g = refl

    of_cell : (f : List (AbsCell D) → ℕ → Outcome D) → ((xs : List (AbsCell D)) (n : ℕ) → G (AbsArg.Flow (flow.Store (Cells xs)) ∷ AbsArg.Name n ∷ []) → Kept (f xs n) o) → (args : List (AbsArg D)) → G args → Kept (on_both (the_cell args) f) o
    of_cell f step (AbsArg.Flow (flow.Store (Cells xs)) ∷ AbsArg.Name n ∷ []) g = step xs n g
    of_cell f step _ g = refl

    of_cell_and_val : (f : List (AbsCell D) → ℕ → AbsVal D → Outcome D) → ((xs : List (AbsCell D)) (n : ℕ) (a : AbsVal D) → G (AbsArg.Flow (flow.Store (Cells xs)) ∷ AbsArg.Name n ∷ AbsArg.Flow (flow.Val a) ∷ []) → Kept (f xs n a) o) → (args : List (AbsArg D)) → G args → Kept (on_all (the_cell_and_val args) f) o
    of_cell_and_val f step (AbsArg.Flow (flow.Store (Cells xs)) ∷ AbsArg.Name n ∷ AbsArg.Flow (flow.Val a) ∷ []) g = step xs n a g
    of_cell_and_val f step _ g = refl

  module _ (laws : DomainLaws d) (given : ResultsAreGiven) (least_on : Arith → D → D → Bool) (least : LeastLaws d least_on) where
    -- values that arguments cover
    record ArgHas (a : AbsArg D) : Type 0 where
      arg : Arg
      covers : ArgCovers d a arg
      fits : ArgInRange arg

    record ArgsHave (args : List (AbsArg D)) : Type 0 where
      values : List Arg
      covers : AllZip (ArgCovers d) args values
      fits : AllByRecursion ArgInRange values

    arg_has : (a : AbsArg D) → arg_is_proper d a ≡ true → LeafFits a → ArgHas a
    arg_has (AbsArg.Number z) h f = record { arg = Arg.Number z; covers = refl; fits = f }
    arg_has (AbsArg.Name n) h f = record { arg = Arg.Name n; covers = refl; fits = tt }
    arg_has (AbsArg.Flow (flow.Int a)) h f = let w = least.filled a (not-true _ h) in record { arg = Arg.Flow (concrete.Int w.0); covers = w.1.held; fits = w.1.fits }
    arg_has (AbsArg.Flow (flow.Bool a)) h f = let w = some_truth a (not-true _ h) in record { arg = Arg.Flow (concrete.Bool w.0); covers = w.1; fits = tt }
    arg_has (AbsArg.Flow (flow.Val a)) h f = let w = val_has D d laws least_on least a (not-true _ h) in record { arg = Arg.Flow (concrete.Val w.value); covers = w.covers; fits = w.fits }
    arg_has (AbsArg.Flow (flow.Store Empty)) h f = absurd (false≢true h)
    arg_has (AbsArg.Flow (flow.Store (Cells xs))) h f = let w = cells_have D d laws least_on least xs h in record { arg = Arg.Flow (concrete.Store w.state); covers = w.covers; fits = w.fits }

    args_have : (args : List (AbsArg D)) → list_all (arg_is_proper d) args ≡ true → AllByRecursion LeafFits args → ArgsHave args
    args_have [] h f = record { values = []; covers = tt; fits = tt }
    args_have (a ∷ args) h f =
        let p = and_parts _ _ h in
        let v = arg_has a p.0 f.0 in
        let w = args_have args p.1 f.1 in
        record { values = v.arg ∷ w.values; covers = (v.covers, w.covers); fits = (v.fits, w.fits) }

    module _ (names : ℕ) (o : Outcome D) where
      abbrev Each : List Values → Type 0
      Each = AllByRecursion (λ t. outcome_covers d o t ≡ true)

      -- filters that have one result whatever their arguments are
      constant : (filter : Filter) (args : List (AbsArg D)) → Given filter names least_on o args → (t : Values) → ((values : List Arg) → results_of filter names values ≡ (t ∷ [])) → outcome_covers d o t ≡ true
      constant filter args g t e =
          let w = args_have args g.proper g.leaves in
          (subst Each (e w.values) (g.covers w.values w.covers w.fits)).0

      literal : (z : ℤ) → Given Filter.Lit names least_on o (AbsArg.Number z ∷ []) → Kept (one (flow.Int (d.of z))) o
      literal z g =
          int_below D d laws o (d.of z) (least.of z (int_part D d o) g.leaves.0
          (int_covered D d o z (at_number (λ t. outcome_covers d o t ≡ true) (z ∷ []) z (g.covers (Arg.Number z ∷ []) (refl, tt) (g.leaves.0, tt)) (alone z) g.leaves.0)))

      arithmetic : (op : Arith) (a b : D) → least_on op a b ≡ true → ((m n : ℤ) → Held d a m → Held d b n → Each (numbers (whole_results op m n))) → Kept (one (flow.Int (d.arith op a b))) o
      arithmetic op a b p step =
          int_below D d laws o (d.arith op a b) (least.arith op a b (int_part D d o) p (λ m n r h k e f.
          int_covered D d o r (at_number (λ t. outcome_covers d o t ≡ true) (whole_results op m n) r (step m n h k) ((given op m n r).1 e) f)))

      compared : (op : Compare) (a b : D) → ((m n : ℤ) → Held d a m → Held d b n → outcome_covers d o (concrete.Bool (compares op m n) ∷ []) ≡ true) → Kept (one (flow.Bool (d.compare op a b))) o
      compared op a b step =
          bool_below D d laws o (d.compare op a b) (least.compare op a b (bool_part D d o) (λ m n h k. bool_covered D d o (compares op m n) (step m n h k)))

      refined : (op : Refine) (a b : D) → ((m n : ℤ) → Held d a m → Held d b n → Each (results.pair_where (keeps op m n) m n)) → Kept (sides (d.refine op a b)) o
      refined op a b step =
          sides_below D d laws o (d.refine op a b)
          (least.refine_left op a b (left_part D d o) (λ m n h k e. (sides_covered D d o m n (there m n e (step m n h k))).0))
          (least.refine_right op a b (right_part D d o) (λ m n h k e. (sides_covered D d o m n (there m n e (step m n h k))).1))
        where
          there : (m n : ℤ) → keeps op m n ≡ true → Each (results.pair_where (keeps op m n) m n) → outcome_covers d o (concrete.Int m ∷ concrete.Int n ∷ []) ≡ true
          there m n e h = (subst (λ t. Each (results.pair_where t m n)) e h).0

      -- a test by a refined pair passes only where a pair of numbers is kept
      tested : (op : Refine) (a b : D) → ((m n : ℤ) → Held d a m → Held d b n → keeps op m n ≡ true → outcome_covers d o [] ≡ true) → Kept (passing (some_pair d (d.refine op a b))) o
      tested op a b step = test_below D d o (some_pair d (d.refine op a b)) (by_outcome (outcome_covers d o []) refl)
        where
          by_outcome : (t : Bool) → outcome_covers d o [] ≡ t → some_pair d (d.refine op a b) ≡ true → outcome_covers d o [] ≡ true
          by_outcome true e h = e
          by_outcome false e h =
              let below = least.refine_left op a b d.empty (λ m n p q k. absurd (both_ways (outcome_covers d o []) e (step m n p q k))) in
              let same = laws.order.leq_antisym (d.refine op a b).0 d.empty below (laws.order.empty_leq (d.refine op a b).0) in
              absurd (both_ways (not (d.is_empty (d.refine op a b).0)) (ap (λ x. not (d.is_empty x)) same ∙ ap not laws.order.empty_is_empty) (and_parts _ _ h).0)

      negated : (a : D) → Given Filter.Neg names least_on o (AbsArg.Flow (flow.Int a) ∷ []) → Kept (one (flow.Int (d.neg a))) o
      negated a g =
          int_below D d laws o (d.neg a) (least.neg a (int_part D d o) (λ n h f.
          int_covered D d o (neg_ℤ n) (at_number (λ t. outcome_covers d o t ≡ true) (neg_ℤ n ∷ []) (neg_ℤ n) (g.covers (Arg.Flow (concrete.Int n) ∷ []) (h.held, tt) (h.fits, tt)) (alone (neg_ℤ n)) f)))

      is_true : (a : AbsBool) → Given Filter.IsTrue names least_on o (AbsArg.Flow (flow.Bool a) ∷ []) → Kept (passing a.has_true) o
      is_true a g = test_below D d o a.has_true (λ h. (g.covers (Arg.Flow (concrete.Bool true) ∷ []) (h, tt) (tt, tt)).0)

      is_false : (a : AbsBool) → Given Filter.IsFalse names least_on o (AbsArg.Flow (flow.Bool a) ∷ []) → Kept (passing a.has_false) o
      is_false a g = test_below D d o a.has_false (λ h. (g.covers (Arg.Flow (concrete.Bool false) ∷ []) (h, tt) (tt, tt)).0)

      -- the number that zero's element holds
      zero_is : (n : ℤ) → Held d (d.of (pos 0)) n → n ≡ pos 0
      zero_is n h = least.zero_alone n h.held

      is_zero : (a : D) → Given Filter.IsZero names least_on o (AbsArg.Flow (flow.Int a) ∷ []) → Kept (passing (not (d.is_empty (d.meet a (d.of (pos 0)))))) o
      is_zero a g = test_below D d o (not (d.is_empty (d.meet a (d.of (pos 0))))) (λ h.
          let w = least.filled (d.meet a (d.of (pos 0))) (not-true _ h) in
          let e = least.zero_alone w.0 (laws.order.leq_holds (d.meet a (d.of (pos 0))) (d.of (pos 0)) w.0 (laws.bounds.meet_right a (d.of (pos 0))) w.1.held) in
          let p = laws.order.leq_holds (d.meet a (d.of (pos 0))) a w.0 (laws.bounds.meet_left a (d.of (pos 0))) w.1.held in
          (g.covers (Arg.Flow (concrete.Int (pos 0)) ∷ []) (subst (λ n. d.holds a n ≡ true) e p, tt) (subst IsNumber e w.1.fits, tt)).0)

      -- a number of the argument that passes the test
      passed : (filter : Filter) (a : D) (test : ℤ → Bool) → ((n : ℤ) → results_of filter names (Arg.Flow (concrete.Int n) ∷ []) ≡ results.passing (test n)) → Given filter names least_on o (AbsArg.Flow (flow.Int a) ∷ []) → (n : ℤ) → Held d a n → test n ≡ true → outcome_covers d o [] ≡ true
      passed filter a test same g n h e =
          (subst Each (same n ∙ ap results.passing e) (g.covers (Arg.Flow (concrete.Int n) ∷ []) (h.held, tt) (h.fits, tt))).0

      non_zero : (a : D) → Given Filter.NonZero names least_on o (AbsArg.Flow (flow.Int a) ∷ []) → Kept (passing (some_pair d (d.refine refine.Differ a (d.of (pos 0))))) o
      non_zero a g = tested refine.Differ a (d.of (pos 0)) (λ m n h k e.
          passed Filter.NonZero a (λ m. not (int_eq m (pos 0))) (λ n. refl) g m h (subst (λ z. not (int_eq m z) ≡ true) (zero_is n k) e))

      is_pos : (a : D) → Given Filter.IsPos names least_on o (AbsArg.Flow (flow.Int a) ∷ []) → Kept (passing (some_pair d (d.refine refine.Below (d.of (pos 0)) a))) o
      is_pos a g = tested refine.Below (d.of (pos 0)) a (λ m n h k e.
          passed Filter.IsPos a (λ n. int_lt (pos 0) n) (λ n. refl) g n k (subst (λ z. int_lt z n ≡ true) (zero_is m h) e))

      is_neg : (a : D) → Given Filter.IsNeg names least_on o (AbsArg.Flow (flow.Int a) ∷ []) → Kept (passing (some_pair d (d.refine refine.Below a (d.of (pos 0))))) o
      is_neg a g = tested refine.Below a (d.of (pos 0)) (λ m n h k e.
          passed Filter.IsNeg a (λ n. int_lt n (pos 0)) (λ n. refl) g m h (subst (λ z. int_lt m z ≡ true) (zero_is n k) e))

      negation : (a : AbsBool) → Given Filter.Not names least_on o (AbsArg.Flow (flow.Bool a) ∷ []) → Kept (one (flow.Bool (truths_given not a))) o
      negation a g = bool_below D d laws o (truths_given not a) (bool_leq_by (truths_given not a) (bool_part D d o) (λ t h.
          let w = truth_given not a t h in
          subst (λ t. bool_holds (bool_part D d o) t ≡ true) w.is (bool_covered D d o (not w.member) (g.covers (Arg.Flow (concrete.Bool w.member) ∷ []) (w.inside, tt) (tt, tt)).0)))

      of_pairs : (f : Bool → Bool → Bool) (a b : AbsBool) → ((s t : Bool) → bool_holds a s ≡ true → bool_holds b t ≡ true → outcome_covers d o (concrete.Bool (f s t) ∷ []) ≡ true) → Kept (one (flow.Bool (truths_of_pairs f a b))) o
      of_pairs f a b step = bool_below D d laws o (truths_of_pairs f a b) (bool_leq_by (truths_of_pairs f a b) (bool_part D d o) (λ t h.
          let w = truth_of_pair f a b t h in
          subst (λ t. bool_holds (bool_part D d o) t ≡ true) w.is (bool_covered D d o (f w.left w.right) (step w.left w.right w.in_left w.in_right))))

      -- a number, a set of truth values and a val that are the least to cover all that they cover
      an_int : (a : D) → ((n : ℤ) → Held d a n → outcome_covers d o (concrete.Int n ∷ []) ≡ true) → Kept (one (flow.Int a)) o
      an_int a step = int_below D d laws o a (least.inclusion a (int_part D d o) (λ n h. int_covered D d o n (step n h)))

      a_bool : (a : AbsBool) → ((t : Bool) → bool_holds a t ≡ true → outcome_covers d o (concrete.Bool t ∷ []) ≡ true) → Kept (one (flow.Bool a)) o
      a_bool a step = bool_below D d laws o a (bool_leq_by a (bool_part D d o) (λ t h. bool_covered D d o t (step t h)))

      a_val : (a : AbsVal D) → ((v : Value) → PlaceFits (Some v) → val_covers d a v ≡ true → outcome_covers d o (concrete.Val v ∷ []) ≡ true) → Kept (one (flow.Val a)) o
      a_val a step = val_below D d laws o a (val_below_by D d laws least_on least a (val_part D d o) (λ v f h. val_covered D d o v (step v f h)))

      a_store : (xs : List (AbsCell D)) → Filled D d laws least_on least xs → ((s : State) → StateFits s → pointwise (cell_covers d) xs s ≡ true → outcome_covers d o (concrete.Store s ∷ []) ≡ true) → Kept (one (flow.Store (Cells xs))) o
      a_store xs f step = store_below D d laws o (Cells xs) (store_below_by D d laws least_on least xs (store_part D d o) f (λ s g h. store_covered D d o s (step s g h)))

      of_int_val : (a : D) → Given Filter.OfInt names least_on o (AbsArg.Flow (flow.Int a) ∷ []) → Kept (one (flow.Val (numbers_alone a))) o
      of_int_val a g = a_val (numbers_alone a) at
        where
          at : (v : Value) → PlaceFits (Some v) → val_covers d (numbers_alone a) v ≡ true → outcome_covers d o (concrete.Val v ∷ []) ≡ true
          at (value.Int n) f h = (g.covers (Arg.Flow (concrete.Int n) ∷ []) (h, tt) (f, tt)).0
          at (value.Bool true) f h = absurd (false≢true h)
          at (value.Bool false) f h = absurd (false≢true h)

      of_bool_val : (a : AbsBool) → Given Filter.OfBool names least_on o (AbsArg.Flow (flow.Bool a) ∷ []) → Kept (one (flow.Val (truths_alone d a))) o
      of_bool_val a g = a_val (truths_alone d a) at
        where
          at : (v : Value) → PlaceFits (Some v) → val_covers d (truths_alone d a) v ≡ true → outcome_covers d o (concrete.Val v ∷ []) ≡ true
          at (value.Int n) f h = absurd (both_ways (d.holds d.empty n) (laws.order.empty_holds n) h)
          at (value.Bool t) f h = (g.covers (Arg.Flow (concrete.Bool t) ∷ []) (h, tt) (tt, tt)).0

      cells_of : (filter : Filter) (xs : List (AbsCell D)) (args : List (AbsArg D)) → Given filter names least_on o (AbsArg.Flow (flow.Store (Cells xs)) ∷ args) → Filled D d laws least_on least xs
      cells_of filter xs args g = (and_parts _ _ g.proper).0

      read : (xs : List (AbsCell D)) (n : ℕ) → Given Filter.Read names least_on o (AbsArg.Flow (flow.Store (Cells xs)) ∷ AbsArg.Name n ∷ []) → Kept (one (flow.Val (cell_at d xs n).val)) o
      read xs n g = a_val (cell_at d xs n).val (λ v f h.
          let w = place_has D d laws least_on least xs n (Some v) (and_parts _ _ g.proper).0 f h in
          (subst (λ x. Each (results.on x (λ v. results.one (concrete.Val v)))) w.place (g.covers (Arg.Flow (concrete.Store w.state) ∷ Arg.Name n ∷ []) (w.covers, (refl, tt)) (w.fits, (tt, tt)))).0)

      bound : (xs : List (AbsCell D)) (n : ℕ) → Given Filter.Bound names least_on o (AbsArg.Flow (flow.Store (Cells xs)) ∷ AbsArg.Name n ∷ []) → Kept (one (flow.Bool (may_be_set d (cell_at d xs n)))) o
      bound xs n g = a_bool (may_be_set d (cell_at d xs n)) at
        where
          there : (x : Option Value) → PlaceFits x → cell_covers d (cell_at d xs n) x ≡ true → outcome_covers d o (concrete.Bool (is_some x) ∷ []) ≡ true
          there x f h =
              let w = place_has D d laws least_on least xs n x (and_parts _ _ g.proper).0 f h in
              (subst (λ x. Each (results.one (concrete.Bool (is_some x)))) w.place (g.covers (Arg.Flow (concrete.Store w.state) ∷ Arg.Name n ∷ []) (w.covers, (refl, tt)) (w.fits, (tt, tt)))).0

          at : (t : Bool) → bool_holds (may_be_set d (cell_at d xs n)) t ≡ true → outcome_covers d o (concrete.Bool t ∷ []) ≡ true
          at true h = let w = val_has D d laws least_on least (cell_at d xs n).val (not-true _ h) in there (Some w.value) w.fits w.covers
          at false h = there None tt h

      write : (xs : List (AbsCell D)) (n : ℕ) (a : AbsVal D) → Given Filter.Write names least_on o (AbsArg.Flow (flow.Store (Cells xs)) ∷ AbsArg.Name n ∷ AbsArg.Flow (flow.Val a) ∷ []) → Kept (one (flow.Store (Cells (slice_set xs n (set_cell a))))) o
      write xs n a g =
          let p = and_parts _ _ g.proper in
          let filled = (and_parts _ _ p.1).0 in
          let w = val_has D d laws least_on least a (not-true _ filled) in
          a_store (slice_set xs n (set_cell a)) (filled_set D d laws least_on least xs n (set_cell a) p.0 (ap not (cell_filled (not-true _ filled)))) (λ s f h.
          let r = comes_from D d laws least_on least xs n (set_cell a) s p.0 (record { place = Some w.value; covers = w.covers; fits = w.fits }) f h in
          let v = written D d laws least_on least a r.place r.place_covers in
          let covers = subst (λ x. cell_covers d (set_cell a) x ≡ true) v.1 r.place_covers in
          let fits = subst PlaceFits v.1 r.place_fits in
          subst (λ s. outcome_covers d o (concrete.Store s ∷ []) ≡ true) (ap (λ x. slice_set r.state n x) (sym v.1) ∙ r.same)
          (g.covers (Arg.Flow (concrete.Store r.state) ∷ Arg.Name n ∷ Arg.Flow (concrete.Val v.0) ∷ []) (r.covers, (refl, (covers, tt))) (r.fits, (tt, (fits, tt)))).0)
        where
          cell_filled : val_is_empty d a ≡ false → cell_is_empty d (set_cell a) ≡ false
          cell_filled e = ap (λ x. x && true) e

      forget : (xs : List (AbsCell D)) (n : ℕ) → Given Filter.Forget names least_on o (AbsArg.Flow (flow.Store (Cells xs)) ∷ AbsArg.Name n ∷ []) → Kept (one (flow.Store (Cells (slice_set xs n (unset_cell d))))) o
      forget xs n g =
          let p = and_parts _ _ g.proper in
          a_store (slice_set xs n (unset_cell d)) (filled_set D d laws least_on least xs n (unset_cell d) p.0 (unset_filled (val_is_empty d (unset_cell d).val))) (λ s f h.
          let r = comes_from D d laws least_on least xs n (unset_cell d) s p.0 (record { place = None; covers = refl; fits = tt }) f h in
          let e = forgotten D d laws least_on least r.place r.place_covers in
          subst (λ s. outcome_covers d o (concrete.Store s ∷ []) ≡ true) (ap (λ x. slice_set r.state n x) (sym e) ∙ r.same)
          (g.covers (Arg.Flow (concrete.Store r.state) ∷ Arg.Name n ∷ []) (r.covers, (refl, tt)) (r.fits, (tt, tt))).0)
        where
          unset_filled : (t : Bool) → not (t && false) ≡ true
          unset_filled true = refl
          unset_filled false = refl

      keep_store : (a : AbsStore D) → Given Filter.KeepStore names least_on o (AbsArg.Flow (flow.Store a) ∷ []) → Kept (one (flow.Store a)) o
      keep_store Empty g = refl
      keep_store (Cells xs) g = a_store xs (and_parts _ _ g.proper).0 (λ s f h. (g.covers (Arg.Flow (concrete.Store s) ∷ []) (h, tt) (f, tt)).0)

      no_names : (args : List (AbsArg D)) → Given Filter.Empty names least_on o args → Kept (one (flow.Store (Cells (replicate names (unset_cell d))))) o
      no_names args g = a_store (replicate names (unset_cell d)) (all_filled names) (λ s f h.
          subst (λ s. outcome_covers d o (concrete.Store s ∷ []) ≡ true) (sym (all_unset names s h)) (constant Filter.Empty args g (concrete.Store (replicate names None) ∷ []) (λ values. refl)))
        where
          filled : (t : Bool) → not (t && false) ≡ true
          filled true = refl
          filled false = refl

          all_filled : (k : ℕ) → list_all (λ c. not (cell_is_empty d c)) (replicate k (unset_cell d)) ≡ true
          all_filled zero = refl
          all_filled (suc k) = and_from _ _ (filled (val_is_empty d (unset_cell d).val)) (all_filled k)

          all_unset : (k : ℕ) (s : State) → pointwise (cell_covers d) (replicate k (unset_cell d)) s ≡ true → s ≡ replicate k None
          all_unset zero [] h = refl
          all_unset zero (x ∷ s) h = absurd (false≢true h)
          all_unset (suc k) [] h = absurd (false≢true h)
          all_unset (suc k) (x ∷ s) h =
              let p = and_parts _ _ h in
              ap (λ y. y ∷ s) (forgotten D d laws least_on least x p.0) ∙ ap (λ l. None ∷ l) (all_unset k s p.1)

      -- one known truth value, and both
      known : (filter : Filter) (args : List (AbsArg D)) (t : Bool) → Given filter names least_on o args → ((values : List Arg) → results_of filter names values ≡ results.one (concrete.Bool t)) → Kept (one (flow.Bool (only_truth t))) o
      known filter args t g e = a_bool (only_truth t) (at t (constant filter args g (concrete.Bool t ∷ []) e))
        where
          at : (t : Bool) → outcome_covers d o (concrete.Bool t ∷ []) ≡ true → (u : Bool) → bool_holds (only_truth t) u ≡ true → outcome_covers d o (concrete.Bool u ∷ []) ≡ true
          at true c true h = c
          at true c false h = absurd (false≢true h)
          at false c true h = absurd (false≢true h)
          at false c false h = c

      any_bool : (args : List (AbsArg D)) → Given Filter.AnyBool names least_on o args → Kept (one (flow.Bool both_truths)) o
      any_bool args g = a_bool both_truths at
        where
          at : (u : Bool) → bool_holds both_truths u ≡ true → outcome_covers d o (concrete.Bool u ∷ []) ≡ true
          at true h = let w = args_have args g.proper g.leaves in (g.covers w.values w.covers w.fits).0
          at false h = let w = args_have args g.proper g.leaves in (g.covers w.values w.covers w.fits).1.0

      a_number : (filter : Filter) (args : List (AbsArg D)) (n : ℤ) → IsNumber n → Given filter names least_on o args → ((values : List Arg) → results_of filter names values ≡ results.one (concrete.Int n)) → Kept (one (flow.Int (d.of n))) o
      a_number filter args n f g e = int_below D d laws o (d.of n) (least.of n (int_part D d o) f (int_covered D d o n (constant filter args g (concrete.Int n ∷ []) e)))

      ints_given : (filter : Filter) (a b : D) → Given filter names least_on o (AbsArg.Flow (flow.Int a) ∷ AbsArg.Flow (flow.Int b) ∷ []) → (m n : ℤ) → Held d a m → Held d b n → Each (results_of filter names (Arg.Flow (concrete.Int m) ∷ Arg.Flow (concrete.Int n) ∷ []))
      ints_given filter a b g m n h k = g.covers (Arg.Flow (concrete.Int m) ∷ Arg.Flow (concrete.Int n) ∷ []) (h.held, (k.held, tt)) (h.fits, (k.fits, tt))

      bools_given : (filter : Filter) (a b : AbsBool) → Given filter names least_on o (AbsArg.Flow (flow.Bool a) ∷ AbsArg.Flow (flow.Bool b) ∷ []) → (s t : Bool) → bool_holds a s ≡ true → bool_holds b t ≡ true → Each (results_of filter names (Arg.Flow (concrete.Bool s) ∷ Arg.Flow (concrete.Bool t) ∷ []))
      bools_given filter a b g s t h k = g.covers (Arg.Flow (concrete.Bool s) ∷ Arg.Flow (concrete.Bool t) ∷ []) (h, (k, tt)) (tt, (tt, tt))

      raw_below : (filter : Filter) (args : List (AbsArg D)) → Given filter names least_on o args → Kept (raw_result d filter names args) o
      raw_below Filter.Lit args g = of_number o (Given Filter.Lit names least_on o) (λ z. one (flow.Int (d.of z))) literal args g
      raw_below Filter.Zero args g = a_number Filter.Zero args (pos 0) (record { sfits = lit< tt }) g (λ values. refl)
      raw_below Filter.One args g = a_number Filter.One args (pos 1) (record { sfits = lit< tt }) g (λ values. refl)
      raw_below Filter.Yes args g = known Filter.Yes args true g (λ values. refl)
      raw_below Filter.No args g = known Filter.No args false g (λ values. refl)
      raw_below Filter.Add args g = of_ints o (Given Filter.Add names least_on o) (λ a b. one (flow.Int (d.arith Arith.Add a b))) (λ a b g. arithmetic Arith.Add a b g.passes (ints_given Filter.Add a b g)) args g
      raw_below Filter.Sub args g = of_ints o (Given Filter.Sub names least_on o) (λ a b. one (flow.Int (d.arith Arith.Sub a b))) (λ a b g. arithmetic Arith.Sub a b g.passes (ints_given Filter.Sub a b g)) args g
      raw_below Filter.Mul args g = of_ints o (Given Filter.Mul names least_on o) (λ a b. one (flow.Int (d.arith Arith.Mul a b))) (λ a b g. arithmetic Arith.Mul a b g.passes (ints_given Filter.Mul a b g)) args g
      raw_below Filter.Neg args g = of_int o (Given Filter.Neg names least_on o) (λ a. one (flow.Int (d.neg a))) negated args g
      raw_below Filter.Div args g = of_ints o (Given Filter.Div names least_on o) (λ a b. one (flow.Int (d.arith Arith.Div a b))) (λ a b g. arithmetic Arith.Div a b g.passes (ints_given Filter.Div a b g)) args g
      raw_below Filter.Rem args g = of_ints o (Given Filter.Rem names least_on o) (λ a b. one (flow.Int (d.arith Arith.Rem a b))) (λ a b g. arithmetic Arith.Rem a b g.passes (ints_given Filter.Rem a b g)) args g
      raw_below Filter.Lt args g = of_ints o (Given Filter.Lt names least_on o) (λ a b. one (flow.Bool (d.compare Compare.Lt a b))) (λ a b g. compared Compare.Lt a b (λ m n h k. (ints_given Filter.Lt a b g m n h k).0)) args g
      raw_below Filter.Le args g = of_ints o (Given Filter.Le names least_on o) (λ a b. one (flow.Bool (d.compare Compare.Le a b))) (λ a b g. compared Compare.Le a b (λ m n h k. (ints_given Filter.Le a b g m n h k).0)) args g
      raw_below Filter.Eq args g = of_ints o (Given Filter.Eq names least_on o) (λ a b. one (flow.Bool (d.compare Compare.Eq a b))) (λ a b g. compared Compare.Eq a b (λ m n h k. (ints_given Filter.Eq a b g m n h k).0)) args g
      raw_below Filter.Not args g = of_bool o (Given Filter.Not names least_on o) (λ a. one (flow.Bool (truths_given not a))) negation args g
      raw_below Filter.And args g = of_bools o (Given Filter.And names least_on o) (λ a b. one (flow.Bool (truths_of_pairs (λ x y. x && y) a b))) (λ a b g. of_pairs (λ x y. x && y) a b (λ s t h k. (bools_given Filter.And a b g s t h k).0)) args g
      raw_below Filter.Or args g = of_bools o (Given Filter.Or names least_on o) (λ a b. one (flow.Bool (truths_of_pairs (λ x y. x || y) a b))) (λ a b g. of_pairs (λ x y. x || y) a b (λ s t h k. (bools_given Filter.Or a b g s t h k).0)) args g
      raw_below Filter.IsTrue args g = of_bool o (Given Filter.IsTrue names least_on o) (λ a. passing a.has_true) is_true args g
      raw_below Filter.IsFalse args g = of_bool o (Given Filter.IsFalse names least_on o) (λ a. passing a.has_false) is_false args g
      raw_below Filter.IsZero args g = of_int o (Given Filter.IsZero names least_on o) (λ a. passing (not (d.is_empty (d.meet a (d.of (pos 0)))))) is_zero args g
      raw_below Filter.NonZero args g = of_int o (Given Filter.NonZero names least_on o) (λ a. passing (some_pair d (d.refine refine.Differ a (d.of (pos 0))))) non_zero args g
      raw_below Filter.IsPos args g = of_int o (Given Filter.IsPos names least_on o) (λ a. passing (some_pair d (d.refine refine.Below (d.of (pos 0)) a))) is_pos args g
      raw_below Filter.IsNeg args g = of_int o (Given Filter.IsNeg names least_on o) (λ a. passing (some_pair d (d.refine refine.Below a (d.of (pos 0))))) is_neg args g
      raw_below Filter.Below args g = of_ints o (Given named.Below names least_on o) (λ a b. sides (d.refine refine.Below a b)) (λ a b g. refined refine.Below a b (ints_given named.Below a b g)) args g
      raw_below Filter.AtLeast args g = of_ints o (Given Filter.AtLeast names least_on o) (λ a b. sides (d.refine refine.AtLeast a b)) (λ a b g. refined refine.AtLeast a b (ints_given Filter.AtLeast a b g)) args g
      raw_below Filter.Same args g = of_ints o (Given Filter.Same names least_on o) (λ a b. sides (d.refine refine.Same a b)) (λ a b g. refined refine.Same a b (ints_given Filter.Same a b g)) args g
      raw_below Filter.Differ args g = of_ints o (Given Filter.Differ names least_on o) (λ a b. sides (d.refine refine.Differ a b)) (λ a b g. refined refine.Differ a b (ints_given Filter.Differ a b g)) args g
      raw_below Filter.OfInt args g = of_int o (Given Filter.OfInt names least_on o) (λ a. one (flow.Val (numbers_alone a))) of_int_val args g
      raw_below Filter.OfBool args g = of_bool o (Given Filter.OfBool names least_on o) (λ a. one (flow.Val (truths_alone d a))) of_bool_val args g
      raw_below Filter.AsInt args g = of_val o (Given Filter.AsInt names least_on o) (λ v. one (flow.Int v.num)) (λ a g. an_int a.num (λ n h. (g.covers (Arg.Flow (concrete.Val (value.Int n)) ∷ []) (h.held, tt) (h.fits, tt)).0)) args g
      raw_below Filter.AsBool args g = of_val o (Given Filter.AsBool names least_on o) (λ v. one (flow.Bool v.truth)) (λ a g. a_bool a.truth (λ t h. (g.covers (Arg.Flow (concrete.Val (value.Bool t)) ∷ []) (h, tt) (tt, tt)).0)) args g
      raw_below Filter.Empty args g = no_names args g
      raw_below Filter.Read args g = of_cell o (Given Filter.Read names least_on o) (λ xs n. one (flow.Val (cell_at d xs n).val)) read args g
      raw_below Filter.Write args g = of_cell_and_val o (Given Filter.Write names least_on o) (λ xs n v. one (flow.Store (Cells (slice_set xs n (set_cell v))))) write args g
      raw_below Filter.Forget args g = of_cell o (Given Filter.Forget names least_on o) (λ xs n. one (flow.Store (Cells (slice_set xs n (unset_cell d))))) forget args g
      raw_below Filter.Bound args g = of_cell o (Given Filter.Bound names least_on o) (λ xs n. one (flow.Bool (may_be_set d (cell_at d xs n)))) bound args g
      raw_below Filter.KeepInt args g = of_int o (Given Filter.KeepInt names least_on o) (λ a. one (flow.Int a)) (λ a g. an_int a (λ n h. (g.covers (Arg.Flow (concrete.Int n) ∷ []) (h.held, tt) (h.fits, tt)).0)) args g
      raw_below Filter.KeepBool args g = of_bool o (Given Filter.KeepBool names least_on o) (λ a. one (flow.Bool a)) (λ a g. a_bool a (λ t h. (g.covers (Arg.Flow (concrete.Bool t) ∷ []) (h, tt) (tt, tt)).0)) args g
      raw_below Filter.KeepVal args g = of_val o (Given Filter.KeepVal names least_on o) (λ v. one (flow.Val v)) (λ a g. a_val a (λ v f h. (g.covers (Arg.Flow (concrete.Val v) ∷ []) (h, tt) (f, tt)).0)) args g
      raw_below Filter.KeepStore args g = of_store o (Given Filter.KeepStore names least_on o) (λ s. one (flow.Store s)) keep_store args g
      raw_below Filter.AnyBool args g = any_bool args g
      raw_below Filter.Pick args g = of_ints o (Given Filter.Pick names least_on o) (λ a b. one (flow.Int (d.arith Arith.Pick a b))) (λ a b g. arithmetic Arith.Pick a b g.passes (ints_given Filter.Pick a b g)) args g

    pub filters_least : FiltersAreSound d → FiltersAreLeast d least_on
    filters_least sound filter names args leaves passes = record {
      covers = λ values h f. sound filter names args values h;
      least = λ o covers.
          cond_both (list_all (arg_is_proper d) args) (option_and_then (proper_tuple d) (raw_result d filter names args)) None (λ x. outcome_leq d x o ≡ true)
          (λ p. raw_below names o filter args (record {
            proper = p;
            leaves = recursion_from_All LeafFits args leaves;
            passes = passes;
            covers = λ values h f. recursion_from_All (λ t. outcome_covers d o t ≡ true) (results_of filter names values) (covers values h (All-from_recursion ArgFits values (args_pass values f)));
          }))
          (λ _. refl);
    }
