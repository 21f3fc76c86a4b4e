-- The parts of outcomes, and outcomes below others by their parts.
use Rattle.std.proofs.Common.{◌≡◌, ℤ, Bool, true, false, not, ◌&&◌, List, [], ◌∷◌, Some, None, refl, ap, ◌∙◌}
use Rattle.std.specs.Option.{option_and_then}
use Rattle.std.proofs.lemmas.Bool.{and_parts, and_from, cond_both, false≢true, both_ways}
use Rattle.sk_value.specs.declared.value.Value.{Value}
use Rattle.sk_value.specs.declared.flow.Flow.TheVariants as concrete
use Rattle.sk_filter.specs.Arguments.{State}
use Rattle.sk_lattice.specs.declared.truth.AbsBool.{AbsBool}
use Rattle.sk_lattice.specs.declared.value.AbsVal.{AbsVal}
use Rattle.sk_lattice.specs.declared.store.AbsStore.{AbsStore}
use Rattle.sk_lattice.specs.declared.store.AbsStore.TheVariants.{Empty, Cells}
use Rattle.sk_lattice.specs.declared.flow.AbsFlow.{AbsFlow}
use Rattle.sk_lattice.specs.declared.flow.AbsFlow.TheVariants as flow
use Rattle.sk_lattice.specs.Domain.{Domain}
use Rattle.sk_lattice.specs.DomainLaws.{DomainLaws}
use Rattle.sk_lattice.specs.Truth.{bool_holds, bool_leq, bool_is_empty}
use Rattle.sk_lattice.specs.Order.{val_leq, store_leq}
use Rattle.sk_lattice.specs.Covers.{val_covers, store_covers}
use Rattle.sk_lattice.specs.Empty.{val_is_empty, is_proper}
use Rattle.sk_lattice.proofs.Parts.{bool_more}
use Rattle.sk_absfilter.specs.Truths.{no_truth}
use Rattle.sk_absfilter.specs.Abstract.{Outcome, one, passing, sides, proper_tuple}
use Rattle.sk_absfilter.specs.Laws.{outcome_covers, outcome_leq}

-- a set of truth values below the empty one is empty
bool_nothing : (a : AbsBool) → bool_leq a no_truth ≡ true → bool_is_empty a ≡ true
bool_nothing a h = by_value a.has_true a.has_false (bool_more a no_truth h true) (bool_more a no_truth h false)
  where
    by_value : (t f : Bool) → (t ≡ true → false ≡ true) → (f ≡ true → false ≡ true) → (not t && not f) ≡ true
    by_value true f h k = absurd (false≢true (h refl))
    by_value false true h k = absurd (false≢true (k refl))
    by_value false false h k = refl

module _ (D : Type 0) (d : Domain D) where
  -- the val of nothing
  abbrev pub no_val : AbsVal D
  no_val = record { num = d.empty; truth = no_truth }

  -- what an outcome of one flow of a sort is; another outcome has the empty one of the sort
  abbrev pub int_part : Outcome D → D
  int_part (Some (flow.Int a ∷ [])) = a
  int_part _ = d.empty

  abbrev pub bool_part : Outcome D → AbsBool
  bool_part (Some (flow.Bool a ∷ [])) = a
  bool_part _ = no_truth

  abbrev pub val_part : Outcome D → AbsVal D
  val_part (Some (flow.Val a ∷ [])) = a
  val_part _ = no_val

  abbrev pub store_part : Outcome D → AbsStore D
  store_part (Some (flow.Store a ∷ [])) = a
  store_part _ = Empty

  -- the two elements of an outcome of two
  abbrev pub left_part : Outcome D → D
  left_part (Some (flow.Int a ∷ flow.Int b ∷ [])) = a
  left_part _ = d.empty

  abbrev pub right_part : Outcome D → D
  right_part (Some (flow.Int a ∷ flow.Int b ∷ [])) = b
  right_part _ = d.empty

  -- the part of what is covered covers it
  pub int_covered : (o : Outcome D) (n : ℤ) → outcome_covers d o (concrete.Int n ∷ []) ≡ true → d.holds (int_part o) n ≡ true
  int_covered (Some (flow.Int a ∷ [])) n h = (and_parts _ _ h).0
  int_covered (Some (flow.Int a ∷ b ∷ l)) n h = absurd (false≢true (and_parts _ _ h).1)
  int_covered _ n h = absurd (false≢true h)

  pub bool_covered : (o : Outcome D) (t : Bool) → outcome_covers d o (concrete.Bool t ∷ []) ≡ true → bool_holds (bool_part o) t ≡ true
  bool_covered (Some (flow.Bool a ∷ [])) t h = (and_parts _ _ h).0
  bool_covered (Some (flow.Bool a ∷ b ∷ l)) t h = absurd (false≢true (and_parts _ _ h).1)
  bool_covered _ t h = absurd (false≢true h)

  pub val_covered : (o : Outcome D) (v : Value) → outcome_covers d o (concrete.Val v ∷ []) ≡ true → val_covers d (val_part o) v ≡ true
  val_covered (Some (flow.Val a ∷ [])) v h = (and_parts _ _ h).0
  val_covered (Some (flow.Val a ∷ b ∷ l)) v h = absurd (false≢true (and_parts _ _ h).1)
  val_covered _ v h = absurd (false≢true h)

  pub store_covered : (o : Outcome D) (s : State) → outcome_covers d o (concrete.Store s ∷ []) ≡ true → store_covers d (store_part o) s ≡ true
  store_covered (Some (flow.Store a ∷ [])) s h = (and_parts _ _ h).0
  store_covered (Some (flow.Store a ∷ b ∷ l)) s h = absurd (false≢true (and_parts _ _ h).1)
  store_covered _ s h = absurd (false≢true h)

  pub sides_covered : (o : Outcome D) (m n : ℤ) → outcome_covers d o (concrete.Int m ∷ concrete.Int n ∷ []) ≡ true → (d.holds (left_part o) m ≡ true) × (d.holds (right_part o) n ≡ true)
  sides_covered (Some (flow.Int a ∷ flow.Int b ∷ [])) m n h = let p = and_parts _ _ h in (p.0, (and_parts _ _ p.1).0)
  sides_covered (Some (flow.Int a ∷ flow.Int b ∷ c ∷ l)) m n h = absurd (false≢true (and_parts _ _ (and_parts _ _ h).1).1)
  sides_covered (Some (flow.Int a ∷ [])) m n h = absurd (false≢true (and_parts _ _ h).1)
  sides_covered (Some (flow.Int a ∷ flow.Bool b ∷ l)) m n h = absurd (false≢true (and_parts _ _ h).1)
  sides_covered (Some (flow.Int a ∷ flow.Val b ∷ l)) m n h = absurd (false≢true (and_parts _ _ h).1)
  sides_covered (Some (flow.Int a ∷ flow.Store b ∷ l)) m n h = absurd (false≢true (and_parts _ _ h).1)
  sides_covered _ m n h = absurd (false≢true h)

  -- an outcome that covers the empty tuple lies above it
  pub none_covered : (o : Outcome D) → outcome_covers d o [] ≡ true → outcome_leq d (Some []) o ≡ true
  none_covered (Some []) h = refl
  none_covered (Some (a ∷ l)) h = absurd (false≢true h)
  none_covered None h = absurd (false≢true h)

  -- a tuple that is kept where no part of it is empty
  kept : (tuple : List (AbsFlow D)) (o : Outcome D) → (is_proper d tuple ≡ true → outcome_leq d (Some tuple) o ≡ true) → outcome_leq d (proper_tuple d tuple) o ≡ true
  kept tuple o h = cond_both (is_proper d tuple) (Some tuple) None (λ x. outcome_leq d x o ≡ true) h (λ _. refl)

  pub test_below : (o : Outcome D) (t : Bool) → (t ≡ true → outcome_covers d o [] ≡ true) → outcome_leq d (option_and_then (proper_tuple d) (passing t)) o ≡ true
  test_below o true h = none_covered o (h refl)
  test_below o false h = refl

  module _ (laws : DomainLaws d) where
    num_nothing : (a : D) → d.leq a d.empty ≡ true → not (d.is_empty a) ≡ true → ⊥
    num_nothing a h e =
        let same : a ≡ d.empty = laws.order.leq_antisym a d.empty h (laws.order.empty_leq a) in
        both_ways (not (d.is_empty a)) (ap (λ x. not (d.is_empty x)) same ∙ ap not laws.order.empty_is_empty) e

    val_nothing : (a : AbsVal D) → val_leq d a no_val ≡ true → not (val_is_empty d a) ≡ true → ⊥
    val_nothing a h e =
        let p = and_parts _ _ h in
        both_ways (not (val_is_empty d a)) (ap not (and_from _ _ (empty_num (d.is_empty a.num) refl p.0) (bool_nothing a.truth p.1))) e
      where
        empty_num : (t : Bool) → d.is_empty a.num ≡ t → d.leq a.num d.empty ≡ true → d.is_empty a.num ≡ true
        empty_num true e h = e
        empty_num false e h = absurd (num_nothing a.num h (ap not e))

    -- an outcome of one flow lies below another where the flow lies below its part
    pub int_below : (o : Outcome D) (a : D) → d.leq a (int_part o) ≡ true → outcome_leq d (option_and_then (proper_tuple d) (one (flow.Int a))) o ≡ true
    int_below o a h = kept (flow.Int a ∷ []) o (λ e. there o h (and_parts _ _ e).0)
      where
        there : (o : Outcome D) → d.leq a (int_part o) ≡ true → not (d.is_empty a) ≡ true → outcome_leq d (Some (flow.Int a ∷ [])) o ≡ true
        there (Some (flow.Int c ∷ [])) h e = and_from _ _ h refl
        there (Some (flow.Int c ∷ b ∷ l)) h e = absurd (num_nothing a h e)
        there _ h e = absurd (num_nothing a h e)

    pub bool_below : (o : Outcome D) (a : AbsBool) → bool_leq a (bool_part o) ≡ true → outcome_leq d (option_and_then (proper_tuple d) (one (flow.Bool a))) o ≡ true
    bool_below o a h = kept (flow.Bool a ∷ []) o (λ e. there o h (and_parts _ _ e).0)
      where
        nothing : bool_leq a no_truth ≡ true → not (bool_is_empty a) ≡ true → ⊥
        nothing h e = both_ways (not (bool_is_empty a)) (ap not (bool_nothing a h)) e

        there : (o : Outcome D) → bool_leq a (bool_part o) ≡ true → not (bool_is_empty a) ≡ true → outcome_leq d (Some (flow.Bool a ∷ [])) o ≡ true
        there (Some (flow.Bool c ∷ [])) h e = and_from _ _ h refl
        there (Some (flow.Bool c ∷ b ∷ l)) h e = absurd (nothing h e)
        there _ h e = absurd (nothing h e)

    pub val_below : (o : Outcome D) (a : AbsVal D) → val_leq d a (val_part o) ≡ true → outcome_leq d (option_and_then (proper_tuple d) (one (flow.Val a))) o ≡ true
    val_below o a h = kept (flow.Val a ∷ []) o (λ e. there o h (and_parts _ _ e).0)
      where
        there : (o : Outcome D) → val_leq d a (val_part o) ≡ true → not (val_is_empty d a) ≡ true → outcome_leq d (Some (flow.Val a ∷ [])) o ≡ true
        there (Some (flow.Val c ∷ [])) h e = and_from _ _ h refl
        there (Some (flow.Val c ∷ b ∷ l)) h e = absurd (val_nothing a h e)
        there _ h e = absurd (val_nothing a h e)

    pub store_below : (o : Outcome D) (a : AbsStore D) → store_leq d a (store_part o) ≡ true → outcome_leq d (option_and_then (proper_tuple d) (one (flow.Store a))) o ≡ true
    store_below o Empty h = refl
    store_below o (Cells xs) h = kept (flow.Store (Cells xs) ∷ []) o (λ e. there o h)
      where
        there : (o : Outcome D) → store_leq d (Cells xs) (store_part o) ≡ true → outcome_leq d (Some (flow.Store (Cells xs) ∷ [])) o ≡ true
        there (Some (flow.Store c ∷ [])) h = and_from _ _ h refl
        there (Some (flow.Store c ∷ b ∷ l)) h = absurd (false≢true h)
        there _ h = absurd (false≢true h)

    pub sides_below : (o : Outcome D) (p : D × D) → d.leq p.0 (left_part o) ≡ true → d.leq p.1 (right_part o) ≡ true → outcome_leq d (option_and_then (proper_tuple d) (sides p)) o ≡ true
    sides_below o p h k = kept (flow.Int p.0 ∷ flow.Int p.1 ∷ []) o (λ e. let q = and_parts _ _ e in there o h k q.0)
      where
        there : (o : Outcome D) → d.leq p.0 (left_part o) ≡ true → d.leq p.1 (right_part o) ≡ true → not (d.is_empty p.0) ≡ true → outcome_leq d (Some (flow.Int p.0 ∷ flow.Int p.1 ∷ [])) o ≡ true
        there (Some (flow.Int a ∷ flow.Int b ∷ [])) h k e = and_from _ _ h (and_from _ _ k refl)
        there (Some (flow.Int a ∷ flow.Int b ∷ c ∷ l)) h k e = absurd (num_nothing p.0 h e)
        there (Some (flow.Int a ∷ [])) h k e = absurd (num_nothing p.0 h e)
        there (Some (flow.Int a ∷ flow.Bool b ∷ l)) h k e = absurd (num_nothing p.0 h e)
        there (Some (flow.Int a ∷ flow.Val b ∷ l)) h k e = absurd (num_nothing p.0 h e)
        there (Some (flow.Int a ∷ flow.Store b ∷ l)) h k e = absurd (num_nothing p.0 h e)
        there _ h k e = absurd (num_nothing p.0 h e)
