-- Tuples of the same sorts fit, and what is put together of them has these sorts.
use Rattle.std.proofs.Common.{◌≡◌, ℕ, suc, true, List, [], ◌∷◌, length, eqb, refl, sym, ◌∙◌, ap, subst, arith}
use Rattle.std.proofs.lemmas.Bool.{and_parts, and_from, eqb-true, eq-eqb, cond_both}
use Rattle.std.specs.List.{list_any}
use Rattle.sk_base.specs.Lists.{zip_with}
use Rattle.sk_base.specs.declared.flow.FlowSort.{FlowSort}
use Rattle.sk_base.specs.declared.flow.FlowSort.TheVariants as sort
use Rattle.sk_lattice.specs.declared.cell.AbsCell.{AbsCell}
use Rattle.sk_lattice.specs.declared.store.AbsStore.{AbsStore}
use Rattle.sk_lattice.specs.declared.store.AbsStore.TheVariants.{Empty, Cells}
use Rattle.sk_lattice.specs.declared.flow.AbsFlow.{AbsFlow}
use Rattle.sk_lattice.specs.declared.flow.AbsFlow.TheVariants as flow
use Rattle.sk_lattice.specs.Domain.{Domain}
use Rattle.sk_lattice.specs.Empty.{store_of, cell_is_empty}
use Rattle.sk_lattice.specs.Merge.{Way, Join, Meet, Widen, cell_merge, store_merge, flow_merge, tuple_merge}
use Rattle.sk_lattice.specs.Order.{flows_fit, tuples_fit}
use Rattle.sk_lattice.specs.Shapes.{flow_has_sort, has_sorts, ShapeLaws}
use Rattle.sk_lattice.proofs.Meets.{meet_is}

pub length_zip : {A : Type 0} (f : A → A → A) (xs ys : List A) → length xs ≡ length ys → length (zip_with f xs ys) ≡ length xs
length_zip f [] ys e = refl
length_zip f (x ∷ xs) [] e = absurd (omega arith)
length_zip f (x ∷ xs) (y ∷ ys) e = ap suc (length_zip f xs ys (omega arith))

module _ (D : Type 0) (d : Domain D) where
  flow_fit : (names : ℕ) (s : FlowSort) (x y : AbsFlow D) → flow_has_sort names s x ≡ true → flow_has_sort names s y ≡ true → flows_fit x y ≡ true
  flow_fit names sort.Int (flow.Int a) (flow.Int b) p q = refl
  flow_fit names sort.Bool (flow.Bool a) (flow.Bool b) p q = refl
  flow_fit names sort.Val (flow.Val a) (flow.Val b) p q = refl
  flow_fit names sort.Store (flow.Store Empty) (flow.Store Empty) p q = refl
  flow_fit names sort.Store (flow.Store Empty) (flow.Store (Cells ys)) p q = refl
  flow_fit names sort.Store (flow.Store (Cells xs)) (flow.Store Empty) p q = refl
  flow_fit names sort.Store (flow.Store (Cells xs)) (flow.Store (Cells ys)) p q = eq-eqb (length xs) (length ys) (eqb-true (length xs) names p ∙ sym (eqb-true (length ys) names q))
  flow_fit names _ _ _ p q = cc

  sorts_fit : (names : ℕ) (sorts : List FlowSort) (a b : List (AbsFlow D)) → has_sorts names sorts a ≡ true → has_sorts names sorts b ≡ true → tuples_fit a b ≡ true
  sorts_fit names [] [] [] p q = refl
  sorts_fit names (s ∷ ss) (x ∷ xs) (y ∷ ys) p q =
      let u = and_parts _ _ p in
      let v = and_parts _ _ q in
      and_from _ _ (flow_fit names s x y u.0 v.0) (sorts_fit names ss xs ys u.1 v.1)
  sorts_fit names _ _ _ p q = cc

  cells_sort : (way : Way) (names : ℕ) (xs ys : List (AbsCell D)) → eqb (length xs) names ≡ true → eqb (length ys) names ≡ true → eqb (length (zip_with (cell_merge d way) xs ys)) names ≡ true
  cells_sort way names xs ys p q =
      let e = eqb-true (length xs) names p in
      eq-eqb (length (zip_with (cell_merge d way) xs ys)) names (length_zip (cell_merge d way) xs ys (e ∙ sym (eqb-true (length ys) names q)) ∙ e)

  store_of_sort : (names : ℕ) (xs : List (AbsCell D)) → eqb (length xs) names ≡ true → flow_has_sort names sort.Store (flow.Store (store_of d xs)) ≡ true
  store_of_sort names xs e = cond_both (list_any (cell_is_empty d) xs) Empty (Cells xs) (λ s. flow_has_sort names sort.Store (flow.Store s) ≡ true) (λ _. refl) (λ _. e)

  store_sort : (way : Way) (names : ℕ) (s t : AbsStore D) → flow_has_sort names sort.Store (flow.Store s) ≡ true → flow_has_sort names sort.Store (flow.Store t) ≡ true → flow_has_sort names sort.Store (flow.Store (store_merge d way s t)) ≡ true
  store_sort Join names Empty t p q = q
  store_sort (Widen marks) names Empty t p q = q
  store_sort Meet names Empty t p q = refl
  store_sort Join names (Cells xs) Empty p q = p
  store_sort (Widen marks) names (Cells xs) Empty p q = p
  store_sort Meet names (Cells xs) Empty p q = refl
  store_sort Join names (Cells xs) (Cells ys) p q = cells_sort Join names xs ys p q
  store_sort (Widen marks) names (Cells xs) (Cells ys) p q = cells_sort (Widen marks) names xs ys p q
  store_sort Meet names (Cells xs) (Cells ys) p q = store_of_sort names (zip_with (cell_merge d Meet) xs ys) (cells_sort Meet names xs ys p q)

  flow_sort : (way : Way) (names : ℕ) (s : FlowSort) (x y : AbsFlow D) → flow_has_sort names s x ≡ true → flow_has_sort names s y ≡ true → flow_has_sort names s (flow_merge d way x y) ≡ true
  flow_sort way names sort.Int (flow.Int a) (flow.Int b) p q = refl
  flow_sort way names sort.Bool (flow.Bool a) (flow.Bool b) p q = refl
  flow_sort way names sort.Val (flow.Val a) (flow.Val b) p q = refl
  flow_sort way names sort.Store (flow.Store s) (flow.Store t) p q = store_sort way names s t p q
  flow_sort way names _ _ _ p q = cc

  pub merge_sorts : (way : Way) (names : ℕ) (sorts : List FlowSort) (a b : List (AbsFlow D)) → has_sorts names sorts a ≡ true → has_sorts names sorts b ≡ true → has_sorts names sorts (tuple_merge d way a b) ≡ true
  merge_sorts way names [] [] [] p q = refl
  merge_sorts way names (s ∷ ss) (x ∷ xs) (y ∷ ys) p q =
      let u = and_parts _ _ p in
      let v = and_parts _ _ q in
      and_from _ _ (flow_sort way names s x y u.0 v.0) (merge_sorts way names ss xs ys u.1 v.1)
  merge_sorts way names _ _ _ p q = cc

  pub shape_laws : ShapeLaws d
  shape_laws = record {
    sorts_fit = sorts_fit;
    join_sorts = merge_sorts Join;
    widen_sorts = λ marks. merge_sorts (Widen marks);
    meet_sorts = λ names sorts a b m p q e. subst (λ t. has_sorts names sorts t ≡ true) (meet_is D d a b m e) (merge_sorts Meet names sorts a b p q);
  }
