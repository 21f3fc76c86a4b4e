-- The laws of stores, flows and tuples.
use Rattle.std.proofs.Common.{◌≡◌, Bool, true, false, not, List, [], ◌∷◌, length, Option, refl, ap, arith}
use Rattle.std.proofs.lemmas.Bool.{and_parts, and_from, or_from, eqb-true, cond_both, cond-false, not-true, or_parts}
use Rattle.sk_value.specs.declared.value.Value.{Value}
use Rattle.sk_value.specs.declared.flow.Flow.{Flow}
use Rattle.sk_value.specs.declared.flow.Flow.TheVariants as concrete
use Rattle.sk_lattice.specs.declared.cell.AbsCell.{AbsCell}
use Rattle.sk_lattice.specs.declared.store.AbsStore.{AbsStore}
use Rattle.sk_lattice.specs.declared.store.AbsStore.TheVariants.{Empty, Cells}
use Rattle.sk_lattice.specs.declared.flow.AbsFlow.{AbsFlow}
use Rattle.sk_lattice.specs.declared.flow.AbsFlow.TheVariants as flow
use lib.Pointwise.{pointwise}
use Rattle.std.specs.List.{list_any, list_all}
use Rattle.sk_base.specs.Lists.{zip_with}
use Rattle.sk_lattice.specs.Domain.{Domain}
use Rattle.sk_lattice.specs.DomainLaws.{DomainLaws}
use Rattle.sk_lattice.specs.Truth.{bool_is_empty}
use Rattle.sk_lattice.specs.Empty.{val_is_empty, cell_is_empty, flow_is_empty, store_of, flow_is_proper, is_proper}
use Rattle.sk_lattice.specs.Order.{cell_leq, store_leq, flow_leq, tuple_leq, stores_fit, flows_fit, tuples_fit}
use Rattle.sk_lattice.specs.Covers.{cell_covers, store_covers, flow_covers, tuple_covers}
use Rattle.sk_lattice.specs.Merge.{Way, Join, Meet, Widen, cell_merge, store_merge, flow_merge, tuple_merge}
use Rattle.sk_lattice.specs.Laws.{TupleLaws, MeetCovers, MeetAbove}
use Rattle.sk_lattice.proofs.Antisymmetry.{tuple_antisym}
use Rattle.sk_lattice.proofs.Meets.{meet_is, meet_filled, meet_there}
use Rattle.sk_lattice.proofs.Parts.{Above, bool_leq_refl, bool_leq_trans, bool_more, bool_left, bool_right, bool_least, bool_meet_left, bool_meet_right, bool_meet_holds, bool_nonempty, num_left, num_right, num_nonempty, val_leq_refl, val_leq_trans, val_covers_more, val_left, val_right, val_least, val_meet_left, val_meet_right, val_meet_covers, val_nonempty, cell_leq_refl, cell_leq_trans, cell_covers_more, cell_left, cell_right, cell_least, cell_meet_left, cell_meet_right, cell_meet_covers, cell_nonempty, bool_filled, num_filled, val_filled, cell_filled, bool_greatest, val_greatest, cell_greatest}

pairs_refl : {A : Type 0} (f : A → A → Bool) → ((x : A) → f x x ≡ true) → (xs : List A) → pointwise f xs xs ≡ true
pairs_refl f step [] = refl
pairs_refl f step (x ∷ xs) = and_from _ _ (step x) (pairs_refl f step xs)

pairs_trans : {A B C : Type 0} (f : A → B → Bool) (g : B → C → Bool) (h : A → C → Bool) → ((x : A) (y : B) (z : C) → f x y ≡ true → g y z ≡ true → h x z ≡ true) → (xs : List A) (ys : List B) (zs : List C) → pointwise f xs ys ≡ true → pointwise g ys zs ≡ true → pointwise h xs zs ≡ true
pairs_trans f g h step [] [] [] p q = refl
pairs_trans f g h step (x ∷ xs) (y ∷ ys) (z ∷ zs) p q =
    let a = and_parts _ _ p in
    let b = and_parts _ _ q in
    and_from _ _ (step x y z a.0 b.0) (pairs_trans f g h step xs ys zs a.1 b.1)
pairs_trans f g h step _ _ _ p q = cc

pairs_more : {A B C : Type 0} (f : A → B → Bool) (g : A → C → Bool) (h : B → C → Bool) → ((x : A) (y : B) (z : C) → f x y ≡ true → g x z ≡ true → h y z ≡ true) → (xs : List A) (ys : List B) (zs : List C) → pointwise f xs ys ≡ true → pointwise g xs zs ≡ true → pointwise h ys zs ≡ true
pairs_more f g h step [] [] [] p q = refl
pairs_more f g h step (x ∷ xs) (y ∷ ys) (z ∷ zs) p q =
    let a = and_parts _ _ p in
    let b = and_parts _ _ q in
    and_from _ _ (step x y z a.0 b.0) (pairs_more f g h step xs ys zs a.1 b.1)
pairs_more f g h step _ _ _ p q = cc

-- what is put together of two lists that fit, beside either
zip_left : {A : Type 0} (fit f : A → A → Bool) (g : A → A → A) → ((x y : A) → fit x y ≡ true → f x (g x y) ≡ true) → (xs ys : List A) → pointwise fit xs ys ≡ true → pointwise f xs (zip_with g xs ys) ≡ true
zip_left fit f g step [] [] p = refl
zip_left fit f g step (x ∷ xs) (y ∷ ys) p = let a = and_parts _ _ p in and_from _ _ (step x y a.0) (zip_left fit f g step xs ys a.1)
zip_left fit f g step _ _ p = cc

zip_right : {A : Type 0} (fit f : A → A → Bool) (g : A → A → A) → ((x y : A) → fit x y ≡ true → f y (g x y) ≡ true) → (xs ys : List A) → pointwise fit xs ys ≡ true → pointwise f ys (zip_with g xs ys) ≡ true
zip_right fit f g step [] [] p = refl
zip_right fit f g step (x ∷ xs) (y ∷ ys) p = let a = and_parts _ _ p in and_from _ _ (step x y a.0) (zip_right fit f g step xs ys a.1)
zip_right fit f g step _ _ p = cc

zip_under_left : {A : Type 0} (fit f : A → A → Bool) (g : A → A → A) → ((x y : A) → fit x y ≡ true → f (g x y) x ≡ true) → (xs ys : List A) → pointwise fit xs ys ≡ true → pointwise f (zip_with g xs ys) xs ≡ true
zip_under_left fit f g step [] [] p = refl
zip_under_left fit f g step (x ∷ xs) (y ∷ ys) p = let a = and_parts _ _ p in and_from _ _ (step x y a.0) (zip_under_left fit f g step xs ys a.1)
zip_under_left fit f g step _ _ p = cc

zip_under_right : {A : Type 0} (fit f : A → A → Bool) (g : A → A → A) → ((x y : A) → fit x y ≡ true → f (g x y) y ≡ true) → (xs ys : List A) → pointwise fit xs ys ≡ true → pointwise f (zip_with g xs ys) ys ≡ true
zip_under_right fit f g step [] [] p = refl
zip_under_right fit f g step (x ∷ xs) (y ∷ ys) p = let a = and_parts _ _ p in and_from _ _ (step x y a.0) (zip_under_right fit f g step xs ys a.1)
zip_under_right fit f g step _ _ p = cc

zip_both : {A C : Type 0} (f : A → C → Bool) (g : A → A → A) → ((x y : A) (z : C) → f x z ≡ true → f y z ≡ true → f (g x y) z ≡ true) → (xs ys : List A) (zs : List C) → pointwise f xs zs ≡ true → pointwise f ys zs ≡ true → pointwise f (zip_with g xs ys) zs ≡ true
zip_both f g step [] [] [] p q = refl
zip_both f g step (x ∷ xs) (y ∷ ys) (z ∷ zs) p q =
    let a = and_parts _ _ p in
    let b = and_parts _ _ q in
    and_from _ _ (step x y z a.0 b.0) (zip_both f g step xs ys zs a.1 b.1)
zip_both f g step _ _ _ p q = cc

zip_over : {A C : Type 0} (f : C → A → Bool) (g : A → A → A) → ((x y : A) (z : C) → f z x ≡ true → f z y ≡ true → f z (g x y) ≡ true) → (xs ys : List A) (zs : List C) → pointwise f zs xs ≡ true → pointwise f zs ys ≡ true → pointwise f zs (zip_with g xs ys) ≡ true
zip_over f g step [] [] [] p q = refl
zip_over f g step (x ∷ xs) (y ∷ ys) (z ∷ zs) p q =
    let a = and_parts _ _ p in
    let b = and_parts _ _ q in
    and_from _ _ (step x y z a.0 b.0) (zip_over f g step xs ys zs a.1 b.1)
zip_over f g step _ _ _ p q = cc

-- what passes a test beside another list has no entry of a kind that fails it
none_of : {A C : Type 0} (f : A → C → Bool) (e : A → Bool) → ((x : A) (z : C) → f x z ≡ true → e x ≡ false) → (xs : List A) (zs : List C) → pointwise f xs zs ≡ true → list_any e xs ≡ false
none_of f e step [] zs p = refl
none_of f e step (x ∷ xs) [] p = cc
none_of f e step (x ∷ xs) (z ∷ zs) p = let a = and_parts _ _ p in or_from _ _ (step x z a.0) (none_of f e step xs zs a.1)

abbrev always : {A : Type 0} → A → A → Bool
always x y = true

even_pairs : {A : Type 0} (xs ys : List A) → length xs ≡ length ys → pointwise always xs ys ≡ true
even_pairs [] [] h = refl
even_pairs [] (y ∷ ys) h = absurd (omega arith)
even_pairs (x ∷ xs) [] h = absurd (omega arith)
even_pairs (x ∷ xs) (y ∷ ys) h = even_pairs xs ys (omega arith)

module _ (D : Type 0) (d : Domain D) (laws : DomainLaws d) where
  store_refl : (s : AbsStore D) → store_leq d s s ≡ true
  store_refl Empty = refl
  store_refl (Cells xs) = pairs_refl (cell_leq d) (cell_leq_refl D d laws) xs

  store_trans : (s t u : AbsStore D) → store_leq d s t ≡ true → store_leq d t u ≡ true → store_leq d s u ≡ true
  store_trans Empty t u h k = refl
  store_trans (Cells xs) (Cells ys) (Cells zs) h k = pairs_trans (cell_leq d) (cell_leq d) (cell_leq d) (cell_leq_trans D d laws) xs ys zs h k
  store_trans (Cells xs) Empty u h k = cc
  store_trans (Cells xs) (Cells ys) Empty h k = k

  store_more : (s t : AbsStore D) (c : List (Option Value)) → store_leq d s t ≡ true → store_covers d s c ≡ true → store_covers d t c ≡ true
  store_more Empty t c h e = cc
  store_more (Cells xs) Empty c h e = h
  store_more (Cells xs) (Cells ys) c h e = pairs_more (cell_leq d) (cell_covers d) (cell_covers d) (cell_covers_more D d laws) xs ys c h e

  store_left : (m : Way) → Above m → (s t : AbsStore D) → stores_fit s t ≡ true → store_leq d s (store_merge d m s t) ≡ true
  store_left Meet h s t f = absurd h
  store_left Join h Empty t f = refl
  store_left (Widen marks) h Empty t f = refl
  store_left Join h (Cells xs) Empty f = store_refl (Cells xs)
  store_left (Widen marks) h (Cells xs) Empty f = store_refl (Cells xs)
  store_left Join h (Cells xs) (Cells ys) f = zip_left always (cell_leq d) (cell_merge d Join) (λ x y _. cell_left D d laws Join h x y) xs ys (even_pairs xs ys (eqb-true _ _ f))
  store_left (Widen marks) h (Cells xs) (Cells ys) f = zip_left always (cell_leq d) (cell_merge d (Widen marks)) (λ x y _. cell_left D d laws (Widen marks) h x y) xs ys (even_pairs xs ys (eqb-true _ _ f))

  store_right : (m : Way) → Above m → (s t : AbsStore D) → stores_fit s t ≡ true → store_leq d t (store_merge d m s t) ≡ true
  store_right Meet h s t f = absurd h
  store_right Join h Empty t f = store_refl t
  store_right (Widen marks) h Empty t f = store_refl t
  store_right Join h (Cells xs) Empty f = refl
  store_right (Widen marks) h (Cells xs) Empty f = refl
  store_right Join h (Cells xs) (Cells ys) f = zip_right always (cell_leq d) (cell_merge d Join) (λ x y _. cell_right D d laws Join h x y) xs ys (even_pairs xs ys (eqb-true _ _ f))
  store_right (Widen marks) h (Cells xs) (Cells ys) f = zip_right always (cell_leq d) (cell_merge d (Widen marks)) (λ x y _. cell_right D d laws (Widen marks) h x y) xs ys (even_pairs xs ys (eqb-true _ _ f))

  store_least : (s t u : AbsStore D) → store_leq d s u ≡ true → store_leq d t u ≡ true → store_leq d (store_merge d Join s t) u ≡ true
  store_least Empty t u h k = k
  store_least (Cells xs) Empty u h k = h
  store_least (Cells xs) (Cells ys) Empty h k = h
  store_least (Cells xs) (Cells ys) (Cells zs) h k = zip_both (cell_leq d) (cell_merge d Join) (cell_least D d laws) xs ys zs h k

  store_of_leq : (xs : List (AbsCell D)) (t : AbsStore D) → store_leq d (Cells xs) t ≡ true → store_leq d (store_of d xs) t ≡ true
  store_of_leq xs t h = cond_both (list_any (cell_is_empty d) xs) Empty (Cells xs) (λ s. store_leq d s t ≡ true) (λ _. refl) (λ _. h)

  store_meet_left : (s t : AbsStore D) → stores_fit s t ≡ true → store_leq d (store_merge d Meet s t) s ≡ true
  store_meet_left Empty t f = refl
  store_meet_left (Cells xs) Empty f = refl
  store_meet_left (Cells xs) (Cells ys) f =
      store_of_leq (zip_with (cell_merge d Meet) xs ys) (Cells xs) (zip_under_left always (cell_leq d) (cell_merge d Meet) (λ x y _. cell_meet_left D d laws x y) xs ys (even_pairs xs ys (eqb-true _ _ f)))

  store_meet_right : (s t : AbsStore D) → stores_fit s t ≡ true → store_leq d (store_merge d Meet s t) t ≡ true
  store_meet_right Empty t f = refl
  store_meet_right (Cells xs) Empty f = refl
  store_meet_right (Cells xs) (Cells ys) f =
      store_of_leq (zip_with (cell_merge d Meet) xs ys) (Cells ys) (zip_under_right always (cell_leq d) (cell_merge d Meet) (λ x y _. cell_meet_right D d laws x y) xs ys (even_pairs xs ys (eqb-true _ _ f)))

  store_of_covers : (xs : List (AbsCell D)) (c : List (Option Value)) → pointwise (cell_covers d) xs c ≡ true → store_covers d (store_of d xs) c ≡ true
  store_of_covers xs c h = rw (cond-false (list_any (cell_is_empty d) xs) Empty (Cells xs) (none_of (cell_covers d) (cell_is_empty d) (cell_nonempty D d laws) xs c h)) h

  store_meet_covers : (s t : AbsStore D) (c : List (Option Value)) → store_covers d s c ≡ true → store_covers d t c ≡ true → store_covers d (store_merge d Meet s t) c ≡ true
  store_meet_covers Empty t c h k = h
  store_meet_covers (Cells xs) Empty c h k = k
  store_meet_covers (Cells xs) (Cells ys) c h k = store_of_covers (zip_with (cell_merge d Meet) xs ys) c (zip_both (cell_covers d) (cell_merge d Meet) (cell_meet_covers D d laws) xs ys c h k)

  flow_refl : (a : AbsFlow D) → flow_leq d a a ≡ true
  flow_refl (flow.Int a) = laws.order.leq_refl a
  flow_refl (flow.Bool a) = bool_leq_refl a
  flow_refl (flow.Val a) = val_leq_refl D d laws a
  flow_refl (flow.Store s) = store_refl s

  flow_trans : (a b c : AbsFlow D) → flow_leq d a b ≡ true → flow_leq d b c ≡ true → flow_leq d a c ≡ true
  flow_trans (flow.Int a) (flow.Int b) (flow.Int c) h k = laws.order.leq_trans a b c h k
  flow_trans (flow.Bool a) (flow.Bool b) (flow.Bool c) h k = bool_leq_trans a b c h k
  flow_trans (flow.Val a) (flow.Val b) (flow.Val c) h k = val_leq_trans D d laws a b c h k
  flow_trans (flow.Store a) (flow.Store b) (flow.Store c) h k = store_trans a b c h k
  flow_trans _ _ _ h k = cc

  flow_more : (a b : AbsFlow D) (c : Flow) → flow_leq d a b ≡ true → flow_covers d a c ≡ true → flow_covers d b c ≡ true
  flow_more (flow.Int a) (flow.Int b) (concrete.Int n) h e = laws.order.leq_holds a b n h e
  flow_more (flow.Bool a) (flow.Bool b) (concrete.Bool t) h e = bool_more a b h t e
  flow_more (flow.Val a) (flow.Val b) (concrete.Val v) h e = val_covers_more D d laws a b v h e
  flow_more (flow.Store a) (flow.Store b) (concrete.Store c) h e = store_more a b c h e
  flow_more _ _ _ h e = cc

  flow_left : (m : Way) → Above m → (a b : AbsFlow D) → flows_fit a b ≡ true → flow_leq d a (flow_merge d m a b) ≡ true
  flow_left m h (flow.Int a) (flow.Int b) f = num_left D d laws m h a b
  flow_left m h (flow.Bool a) (flow.Bool b) f = bool_left m h a b
  flow_left m h (flow.Val a) (flow.Val b) f = val_left D d laws m h a b
  flow_left m h (flow.Store a) (flow.Store b) f = store_left m h a b f
  flow_left m h _ _ f = cc

  flow_right : (m : Way) → Above m → (a b : AbsFlow D) → flows_fit a b ≡ true → flow_leq d b (flow_merge d m a b) ≡ true
  flow_right m h (flow.Int a) (flow.Int b) f = num_right D d laws m h a b
  flow_right m h (flow.Bool a) (flow.Bool b) f = bool_right m h a b
  flow_right m h (flow.Val a) (flow.Val b) f = val_right D d laws m h a b
  flow_right m h (flow.Store a) (flow.Store b) f = store_right m h a b f
  flow_right m h _ _ f = cc

  flow_least : (a b c : AbsFlow D) → flow_leq d a c ≡ true → flow_leq d b c ≡ true → flow_leq d (flow_merge d Join a b) c ≡ true
  flow_least (flow.Int a) (flow.Int b) (flow.Int c) h k = laws.bounds.join_least a b c h k
  flow_least (flow.Bool a) (flow.Bool b) (flow.Bool c) h k = bool_least a b c h k
  flow_least (flow.Val a) (flow.Val b) (flow.Val c) h k = val_least D d laws a b c h k
  flow_least (flow.Store a) (flow.Store b) (flow.Store c) h k = store_least a b c h k
  flow_least _ _ _ h k = cc

  flow_meet_left : (a b : AbsFlow D) → flows_fit a b ≡ true → flow_leq d (flow_merge d Meet a b) a ≡ true
  flow_meet_left (flow.Int a) (flow.Int b) f = laws.bounds.meet_left a b
  flow_meet_left (flow.Bool a) (flow.Bool b) f = bool_meet_left a b
  flow_meet_left (flow.Val a) (flow.Val b) f = val_meet_left D d laws a b
  flow_meet_left (flow.Store a) (flow.Store b) f = store_meet_left a b f
  flow_meet_left _ _ f = cc

  flow_meet_right : (a b : AbsFlow D) → flows_fit a b ≡ true → flow_leq d (flow_merge d Meet a b) b ≡ true
  flow_meet_right (flow.Int a) (flow.Int b) f = laws.bounds.meet_right a b
  flow_meet_right (flow.Bool a) (flow.Bool b) f = bool_meet_right a b
  flow_meet_right (flow.Val a) (flow.Val b) f = val_meet_right D d laws a b
  flow_meet_right (flow.Store a) (flow.Store b) f = store_meet_right a b f
  flow_meet_right _ _ f = cc

  flow_meet_covers : (a b : AbsFlow D) (c : Flow) → flow_covers d a c ≡ true → flow_covers d b c ≡ true → flow_covers d (flow_merge d Meet a b) c ≡ true
  flow_meet_covers (flow.Int a) (flow.Int b) (concrete.Int n) h k = laws.bounds.meet_holds a b n h k
  flow_meet_covers (flow.Bool a) (flow.Bool b) (concrete.Bool t) h k = bool_meet_holds a b t h k
  flow_meet_covers (flow.Val a) (flow.Val b) (concrete.Val v) h k = val_meet_covers D d laws a b v h k
  flow_meet_covers (flow.Store a) (flow.Store b) (concrete.Store c) h k = store_meet_covers a b c h k
  flow_meet_covers _ _ _ h k = cc

  flow_nonempty : (a : AbsFlow D) (c : Flow) → flow_covers d a c ≡ true → flow_is_empty d a ≡ false
  flow_nonempty (flow.Int a) (concrete.Int n) h = num_nonempty D d laws a n h
  flow_nonempty (flow.Bool a) (concrete.Bool t) h = bool_nonempty a t h
  flow_nonempty (flow.Val a) (concrete.Val v) h = val_nonempty D d laws a v h
  flow_nonempty (flow.Store Empty) (concrete.Store c) h = cc
  flow_nonempty (flow.Store (Cells xs)) (concrete.Store c) h = refl
  flow_nonempty _ _ h = cc

  meet_covers : (a b : List (AbsFlow D)) (t : List Flow) → tuple_covers d a t ≡ true → tuple_covers d b t ≡ true → MeetCovers d a b t
  meet_covers a b t h k =
      let m = tuple_merge d Meet a b in
      let covered : tuple_covers d m t ≡ true = zip_both (flow_covers d) (flow_merge d Meet) flow_meet_covers a b t h k in
      record {
        meet = m;
        is = meet_there D d a b (none_of (flow_covers d) (flow_is_empty d) flow_nonempty m t covered);
        covers = covered;
      }

  -- no cell is empty above cells that aren't
  cells_filled : (xs ys : List (AbsCell D)) → pointwise (cell_leq d) xs ys ≡ true → list_all (λ c. not (cell_is_empty d c)) xs ≡ true → list_all (λ c. not (cell_is_empty d c)) ys ≡ true
  cells_filled [] [] h e = refl
  cells_filled [] (y ∷ ys) h e = cc
  cells_filled (x ∷ xs) [] h e = cc
  cells_filled (x ∷ xs) (y ∷ ys) h e =
      let p = and_parts _ _ h in
      let q = and_parts _ _ e in
      and_from _ _ (ap not (cell_filled D d laws x y p.0 (not-true (cell_is_empty d x) q.0))) (cells_filled xs ys p.1 q.1)

  flow_filled : (a b : AbsFlow D) → flow_leq d a b ≡ true → flow_is_proper d a ≡ true → flow_is_proper d b ≡ true
  flow_filled (flow.Int a) (flow.Int b) h e = ap not (num_filled D d laws a b h (not-true (d.is_empty a) e))
  flow_filled (flow.Bool a) (flow.Bool b) h e = ap not (bool_filled a b h (not-true (bool_is_empty a) e))
  flow_filled (flow.Val a) (flow.Val b) h e = ap not (val_filled D d laws a b h (not-true (val_is_empty d a) e))
  flow_filled (flow.Store Empty) (flow.Store t) h e = cc
  flow_filled (flow.Store (Cells xs)) (flow.Store Empty) h e = h
  flow_filled (flow.Store (Cells xs)) (flow.Store (Cells ys)) h e = cells_filled xs ys h e
  flow_filled _ _ h e = cc

  pub proper_more : (a b : List (AbsFlow D)) → tuple_leq d a b ≡ true → is_proper d a ≡ true → is_proper d b ≡ true
  proper_more [] [] h e = refl
  proper_more [] (y ∷ ys) h e = cc
  proper_more (x ∷ xs) [] h e = cc
  proper_more (x ∷ xs) (y ∷ ys) h e =
      let p = and_parts _ _ h in
      let q = and_parts _ _ e in
      and_from _ _ (flow_filled x y p.0 q.0) (proper_more xs ys p.1 q.1)

  none_empty : {A : Type 0} (e : A → Bool) (xs : List A) → list_all (λ x. not (e x)) xs ≡ true → list_any e xs ≡ false
  none_empty e [] h = refl
  none_empty e (x ∷ xs) h = let p = and_parts _ _ h in or_from _ _ (not-true (e x) p.0) (none_empty e xs p.1)

  all_filled : {A : Type 0} (e : A → Bool) (xs : List A) → list_any e xs ≡ false → list_all (λ x. not (e x)) xs ≡ true
  all_filled e [] h = refl
  all_filled e (x ∷ xs) h = let p = or_parts _ _ h in and_from _ _ (ap not p.0) (all_filled e xs p.1)

  store_of_at : (xs : List (AbsCell D)) → list_all (λ c. not (cell_is_empty d c)) xs ≡ true → store_of d xs ≡ Cells xs
  store_of_at xs h = cond-false (list_any (cell_is_empty d) xs) Empty (Cells xs) (none_empty (cell_is_empty d) xs h)

  store_greatest : (s t u : AbsStore D) → flow_is_proper d (flow.Store u) ≡ true → store_leq d u s ≡ true → store_leq d u t ≡ true → store_leq d u (store_merge d Meet s t) ≡ true
  store_greatest s t Empty e h k = refl
  store_greatest Empty t (Cells zs) e h k = h
  store_greatest (Cells xs) Empty (Cells zs) e h k = k
  store_greatest (Cells xs) (Cells ys) (Cells zs) e h k =
      let low : pointwise (cell_leq d) zs (zip_with (cell_merge d Meet) xs ys) ≡ true = zip_over (cell_leq d) (cell_merge d Meet) (cell_greatest D d laws) xs ys zs h k in
      rw (store_of_at (zip_with (cell_merge d Meet) xs ys) (cells_filled zs (zip_with (cell_merge d Meet) xs ys) low e)) low

  flow_greatest : (a b c : AbsFlow D) → flow_is_proper d c ≡ true → flow_leq d c a ≡ true → flow_leq d c b ≡ true → flow_leq d c (flow_merge d Meet a b) ≡ true
  flow_greatest (flow.Int a) (flow.Int b) (flow.Int c) e h k = laws.bounds.meet_greatest a b c h k
  flow_greatest (flow.Bool a) (flow.Bool b) (flow.Bool c) e h k = bool_greatest a b c h k
  flow_greatest (flow.Val a) (flow.Val b) (flow.Val c) e h k = val_greatest D d laws a b c h k
  flow_greatest (flow.Store s) (flow.Store t) (flow.Store u) e h k = store_greatest s t u e h k
  flow_greatest _ _ _ e h k = cc

  meet_low : (a b c : List (AbsFlow D)) → is_proper d c ≡ true → tuple_leq d c a ≡ true → tuple_leq d c b ≡ true → tuple_leq d c (tuple_merge d Meet a b) ≡ true
  meet_low [] [] [] e h k = refl
  meet_low (x ∷ xs) (y ∷ ys) (z ∷ zs) e h k =
      let p = and_parts _ _ e in
      let q = and_parts _ _ h in
      let r = and_parts _ _ k in
      and_from _ _ (flow_greatest x y z p.0 q.0 r.0) (meet_low xs ys zs p.1 q.1 r.1)
  meet_low _ _ _ e h k = cc

  flow_proper_full : (a : AbsFlow D) → flow_is_proper d a ≡ true → flow_is_empty d a ≡ false
  flow_proper_full (flow.Int a) h = not-true (d.is_empty a) h
  flow_proper_full (flow.Bool a) h = not-true (bool_is_empty a) h
  flow_proper_full (flow.Val a) h = not-true (val_is_empty d a) h
  flow_proper_full (flow.Store Empty) h = cc
  flow_proper_full (flow.Store (Cells xs)) h = refl

  proper_full : (a : List (AbsFlow D)) → is_proper d a ≡ true → list_any (flow_is_empty d) a ≡ false
  proper_full [] h = refl
  proper_full (x ∷ xs) h = let p = and_parts _ _ h in or_from _ _ (flow_proper_full x p.0) (proper_full xs p.1)

  meet_greatest : (a b c : List (AbsFlow D)) → is_proper d c ≡ true → tuple_leq d c a ≡ true → tuple_leq d c b ≡ true → MeetAbove d a b c
  meet_greatest a b c e h k =
      let m = tuple_merge d Meet a b in
      let low : tuple_leq d c m ≡ true = meet_low a b c e h k in
      record { meet = m; is = meet_there D d a b (proper_full m (proper_more c m low e)); above = low }

  store_of_proper : (xs : List (AbsCell D)) → flow_is_empty d (flow.Store (store_of d xs)) ≡ false → flow_is_proper d (flow.Store (store_of d xs)) ≡ true
  store_of_proper xs h =
      cond_both (list_any (cell_is_empty d) xs) Empty (Cells xs) (λ s. flow_is_empty d (flow.Store s) ≡ false → flow_is_proper d (flow.Store s) ≡ true) (λ _ e. cc) (λ f e. all_filled (cell_is_empty d) xs f) h

  store_meet_proper : (s t : AbsStore D) → flow_is_empty d (flow.Store (store_merge d Meet s t)) ≡ false → flow_is_proper d (flow.Store (store_merge d Meet s t)) ≡ true
  store_meet_proper Empty t e = cc
  store_meet_proper (Cells xs) Empty e = cc
  store_meet_proper (Cells xs) (Cells ys) e = store_of_proper (zip_with (cell_merge d Meet) xs ys) e

  flow_meet_proper : (a b : AbsFlow D) → flows_fit a b ≡ true → flow_is_empty d (flow_merge d Meet a b) ≡ false → flow_is_proper d (flow_merge d Meet a b) ≡ true
  flow_meet_proper (flow.Int a) (flow.Int b) f e = ap not e
  flow_meet_proper (flow.Bool a) (flow.Bool b) f e = ap not e
  flow_meet_proper (flow.Val a) (flow.Val b) f e = ap not e
  flow_meet_proper (flow.Store s) (flow.Store t) f e = store_meet_proper s t e
  flow_meet_proper _ _ f e = cc

  pub all_meets_proper : (a b : List (AbsFlow D)) → tuples_fit a b ≡ true → list_any (flow_is_empty d) (tuple_merge d Meet a b) ≡ false → is_proper d (tuple_merge d Meet a b) ≡ true
  all_meets_proper [] [] f e = refl
  all_meets_proper (x ∷ xs) (y ∷ ys) f e =
      let p = and_parts _ _ f in
      let q = or_parts _ _ e in
      and_from _ _ (flow_meet_proper x y p.0 q.0) (all_meets_proper xs ys p.1 q.1)
  all_meets_proper _ _ f e = cc

  pub tuple_laws : TupleLaws d
  tuple_laws = record {
    leq_refl = pairs_refl (flow_leq d) flow_refl;
    leq_trans = pairs_trans (flow_leq d) (flow_leq d) (flow_leq d) flow_trans;
    leq_antisym = tuple_antisym D d laws;
    covers_more = pairs_more (flow_leq d) (flow_covers d) (flow_covers d) flow_more;
    join_left = zip_left flows_fit (flow_leq d) (flow_merge d Join) (flow_left Join tt);
    join_right = zip_right flows_fit (flow_leq d) (flow_merge d Join) (flow_right Join tt);
    join_least = zip_both (flow_leq d) (flow_merge d Join) flow_least;
    widen_left = λ marks h. zip_left flows_fit (flow_leq d) (flow_merge d (Widen marks)) (flow_left (Widen marks) h);
    widen_right = λ marks h. zip_right flows_fit (flow_leq d) (flow_merge d (Widen marks)) (flow_right (Widen marks) h);
    meet_left = λ a b m f h. rw (← meet_is D d a b m h) (zip_under_left flows_fit (flow_leq d) (flow_merge d Meet) flow_meet_left a b f);
    meet_right = λ a b m f h. rw (← meet_is D d a b m h) (zip_under_right flows_fit (flow_leq d) (flow_merge d Meet) flow_meet_right a b f);
    meet_covers = meet_covers;
    meet_greatest = meet_greatest;
    meet_proper = λ a b m f h. rw (← meet_is D d a b m h) (all_meets_proper a b f (meet_filled D d a b m h));
    proper_more = proper_more;
  }
