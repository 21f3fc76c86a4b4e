-- Values that vals, cells and stores cover, and which of them lie below others that cover all of these.
use Rattle.std.proofs.Common.{◌≡◌, ℕ, zero, suc, Bool, true, false, not, List, [], ◌∷◌, Option, Some, None, refl, sym, ap, inl, inr}
use Rattle.std.specs.Prelude.{slice_set}
use Rattle.std.specs.List.{AllByRecursion, list_all}
use Rattle.std.proofs.lemmas.Bool.{and_parts, and_from, and_cases, false≢true, both_ways, not-false, not-true}
use lib.Pointwise.{pointwise}
use Rattle.sk_value.specs.declared.value.Value.{Value}
use Rattle.sk_value.specs.declared.value.Value.TheVariants as value
use Rattle.sk_value.specs.declared.arith.Arith.{Arith}
use Rattle.sk_filter.specs.Arguments.{State}
use Rattle.sk_filter.specs.Results.{value_at}
use Rattle.sk_lattice.specs.declared.truth.AbsBool.{AbsBool}
use Rattle.sk_lattice.specs.declared.value.AbsVal.{AbsVal}
use Rattle.sk_lattice.specs.declared.cell.AbsCell.{AbsCell}
use Rattle.sk_lattice.specs.declared.store.AbsStore.{AbsStore}
use Rattle.sk_lattice.specs.declared.store.AbsStore.TheVariants.{Empty, Cells}
use Rattle.sk_lattice.specs.Domain.{Domain}
use Rattle.sk_lattice.specs.DomainLaws.{DomainLaws}
use Rattle.sk_lattice.specs.Truth.{bool_holds, bool_is_empty}
use Rattle.sk_lattice.specs.Order.{val_leq, cell_leq, store_leq}
use Rattle.sk_lattice.specs.Covers.{val_covers, cell_covers, store_covers}
use Rattle.sk_lattice.specs.Empty.{val_is_empty, cell_is_empty}
use Rattle.sk_lattice.specs.Padding.{unset_cell}
use Rattle.sk_lattice.proofs.Parts.{bool_leq_by, implied}
use Rattle.sk_absfilter.specs.Abstract.{cell_at, set_cell}
use Rattle.sk_least.specs.Domains.{LeastLaws}
use Rattle.sk_least.proofs.InRange.{ValueFits, PlaceFits}

-- a truth value of a set that isn't empty
pub some_truth : (a : AbsBool) → bool_is_empty a ≡ false → (t : Bool) × (bool_holds a t ≡ true)
some_truth a h =
    elim (and_cases (not a.has_true) (not a.has_false) h) [
      | inl e ↦ (true, not-false a.has_true e)
      | inr e ↦ (false, not-false a.has_false e)
    ]

-- a state with numbers in range
abbrev pub StateFits : State → Type 0
StateFits s = AllByRecursion PlaceFits s

module _ (D : Type 0) (d : Domain D) (laws : DomainLaws d) (least_on : Arith → D → D → Bool) (least : LeastLaws d least_on) where
  -- no cell of a list is empty
  abbrev pub Filled : List (AbsCell D) → Type 0
  Filled xs = list_all (λ c. not (cell_is_empty d c)) xs ≡ true

  -- a value that a val covers, what a cell covers, and a state that cells cover
  pub record ValHas (a : AbsVal D) : Type 0 where
    pub value : Value
    pub covers : val_covers d a value ≡ true
    pub fits : ValueFits value

  pub record CellHas (c : AbsCell D) : Type 0 where
    pub place : Option Value
    pub covers : cell_covers d c place ≡ true
    pub fits : PlaceFits place

  pub record CellsHave (xs : List (AbsCell D)) : Type 0 where
    pub state : State
    pub covers : pointwise (cell_covers d) xs state ≡ true
    pub fits : StateFits state

  pub val_has : (a : AbsVal D) → val_is_empty d a ≡ false → ValHas a
  val_has a h =
      elim (and_cases (d.is_empty a.num) (bool_is_empty a.truth) h) [
        | inl e ↦ let w = least.filled a.num e in record { value = value.Int w.0; covers = w.1.held; fits = w.1.fits }
        | inr e ↦ let w = some_truth a.truth e in record { value = value.Bool w.0; covers = w.1; fits = tt }
      ]

  pub cell_has : (c : AbsCell D) → cell_is_empty d c ≡ false → CellHas c
  cell_has c h =
      elim (and_cases (val_is_empty d c.val) (not c.unset) h) [
        | inl e ↦ let w = val_has c.val e in record { place = Some w.value; covers = w.covers; fits = w.fits }
        | inr e ↦ record { place = None; covers = not-false c.unset e; fits = tt }
      ]

  pub cells_have : (xs : List (AbsCell D)) → Filled xs → CellsHave xs
  cells_have [] h = record { state = []; covers = refl; fits = tt }
  cells_have (c ∷ xs) h =
      let p = and_parts _ _ h in
      let v = cell_has c (not-true _ p.0) in
      let w = cells_have xs p.1 in
      record { state = v.place ∷ w.state; covers = and_from _ _ v.covers w.covers; fits = (v.fits, w.fits) }

  -- vals, cells and stores below others that cover all that they cover
  pub val_below_by : (a c : AbsVal D) → ((v : Value) → ValueFits v → val_covers d a v ≡ true → val_covers d c v ≡ true) → val_leq d a c ≡ true
  val_below_by a c h =
      and_from _ _ (least.inclusion a.num c.num (λ n e. h (value.Int n) e.fits e.held)) (bool_leq_by a.truth c.truth (λ t e. h (value.Bool t) tt e))

  pub cell_below_by : (a c : AbsCell D) → ((x : Option Value) → PlaceFits x → cell_covers d a x ≡ true → cell_covers d c x ≡ true) → cell_leq d a c ≡ true
  cell_below_by a c h = and_from _ _ (val_below_by a.val c.val (λ v f e. h (Some v) f e)) (implied a.unset c.unset (λ e. h None tt e))

  cells_below_by : (xs ys : List (AbsCell D)) → Filled xs → ((s : State) → StateFits s → pointwise (cell_covers d) xs s ≡ true → pointwise (cell_covers d) ys s ≡ true) → pointwise (cell_leq d) xs ys ≡ true
  cells_below_by [] [] f h = refl
  cells_below_by [] (y ∷ ys) f h = absurd (false≢true (h [] tt refl))
  cells_below_by (x ∷ xs) [] f h = let w = cells_have (x ∷ xs) f in absurd (none w.state w.covers (h w.state w.fits w.covers))
    where
      none : (s : State) → pointwise (cell_covers d) (x ∷ xs) s ≡ true → pointwise (cell_covers d) [] s ≡ true → ⊥
      none [] h k = false≢true h
      none (v ∷ s) h k = false≢true k
  cells_below_by (x ∷ xs) (y ∷ ys) f h =
      let p = and_parts _ _ f in
      let v = cell_has x (not-true _ p.0) in
      let w = cells_have xs p.1 in
      and_from _ _
      (cell_below_by x y (λ u g e. (and_parts _ _ (h (u ∷ w.state) (g, w.fits) (and_from _ _ e w.covers))).0))
      (cells_below_by xs ys p.1 (λ s g e. (and_parts _ _ (h (v.place ∷ s) (v.fits, g) (and_from _ _ v.covers e))).1))

  pub store_below_by : (xs : List (AbsCell D)) (t : AbsStore D) → Filled xs → ((s : State) → StateFits s → pointwise (cell_covers d) xs s ≡ true → store_covers d t s ≡ true) → store_leq d (Cells xs) t ≡ true
  store_below_by xs Empty f h = let w = cells_have xs f in h w.state w.fits w.covers
  store_below_by xs (Cells ys) f h = cells_below_by xs ys f h

  -- a state that cells cover, with this place
  pub record PlaceHas (xs : List (AbsCell D)) (n : ℕ) (x : Option Value) : Type 0 where
    pub state : State
    pub covers : pointwise (cell_covers d) xs state ≡ true
    pub fits : StateFits state
    pub place : value_at state n ≡ x

  no_value : (v : Value) → cell_covers d (unset_cell d) (Some v) ≡ true → ⊥
  no_value (value.Int n) h = both_ways (d.holds d.empty n) (laws.order.empty_holds n) h
  no_value (value.Bool true) h = false≢true h
  no_value (value.Bool false) h = false≢true h

  pub place_has : (xs : List (AbsCell D)) (n : ℕ) (x : Option Value) → Filled xs → PlaceFits x → cell_covers d (cell_at d xs n) x ≡ true → PlaceHas xs n x
  place_has [] n (Some v) f g h = absurd (no_value v h)
  place_has [] n None f g h = record { state = []; covers = refl; fits = tt; place = refl }
  place_has (c ∷ xs) zero x f g h =
      let w = cells_have xs (and_parts _ _ f).1 in
      record { state = x ∷ w.state; covers = and_from _ _ h w.covers; fits = (g, w.fits); place = refl }
  place_has (c ∷ xs) (suc n) x f g h =
      let p = and_parts _ _ f in
      let v = cell_has c (not-true _ p.0) in
      let w = place_has xs n x p.1 g h in
      record { state = v.place ∷ w.state; covers = and_from _ _ v.covers w.covers; fits = (v.fits, w.fits); place = w.place }

  -- a state that the cells cover, and what the new cell covers, that together are a state
  pub record ComesFrom (xs : List (AbsCell D)) (n : ℕ) (c : AbsCell D) (s : State) : Type 0 where
    pub state : State
    pub covers : pointwise (cell_covers d) xs state ≡ true
    pub fits : StateFits state
    pub place : Option Value
    pub place_covers : cell_covers d c place ≡ true
    pub place_fits : PlaceFits place
    pub same : slice_set state n place ≡ s

  pub comes_from : (xs : List (AbsCell D)) (n : ℕ) (c : AbsCell D) (s : State) → Filled xs → CellHas c → StateFits s → pointwise (cell_covers d) (slice_set xs n c) s ≡ true → ComesFrom xs n c s
  comes_from [] n c [] f w g h = record { state = []; covers = refl; fits = tt; place = w.place; place_covers = w.covers; place_fits = w.fits; same = refl }
  comes_from [] n c (x ∷ s) f w g h = absurd (false≢true h)
  comes_from (y ∷ xs) zero c [] f w g h = absurd (false≢true h)
  comes_from (y ∷ xs) (suc n) c [] f w g h = absurd (false≢true h)
  comes_from (y ∷ xs) zero c (x ∷ s) f w g h =
      let v = cell_has y (not-true _ (and_parts _ _ f).0) in
      let p = and_parts _ _ h in
      record { state = v.place ∷ s; covers = and_from _ _ v.covers p.1; fits = (v.fits, g.1); place = x; place_covers = p.0; place_fits = g.0; same = refl }
  comes_from (y ∷ xs) (suc n) c (x ∷ s) f w g h =
      let p = and_parts _ _ h in
      let r = comes_from xs n c s (and_parts _ _ f).1 w g.1 p.1 in
      record {
        state = x ∷ r.state;
        covers = and_from _ _ p.0 r.covers;
        fits = (g.0, r.fits);
        place = r.place;
        place_covers = r.place_covers;
        place_fits = r.place_fits;
        same = ap (λ l. x ∷ l) r.same;
      }

  pub filled_set : (xs : List (AbsCell D)) (n : ℕ) (c : AbsCell D) → Filled xs → not (cell_is_empty d c) ≡ true → Filled (slice_set xs n c)
  filled_set [] n c f h = refl
  filled_set (y ∷ xs) zero c f h = and_from _ _ h (and_parts _ _ f).1
  filled_set (y ∷ xs) (suc n) c f h = and_from _ _ (and_parts _ _ f).0 (filled_set xs n c (and_parts _ _ f).1 h)

  -- what is written to a name is a value, and an unset name has none
  pub written : (a : AbsVal D) (x : Option Value) → cell_covers d (set_cell a) x ≡ true → (v : Value) × (x ≡ Some v)
  written a (Some v) h = (v, refl)
  written a None h = absurd (false≢true h)

  pub forgotten : (x : Option Value) → cell_covers d (unset_cell d) x ≡ true → x ≡ None
  forgotten (Some v) h = absurd (no_value v h)
  forgotten None h = refl
