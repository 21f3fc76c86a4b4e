-- A widening sees only what is new, and is the join where it is so on elements.
use Rattle.std.proofs.Common.{◌≡◌, ℕ, ℤ, Bool, true, false, not, ◌||◌, List, [], ◌∷◌, length, refl, sym, ◌∙◌, ap, ap₂, arith}
use Rattle.std.proofs.lemmas.Bool.{and_parts, eqb-true, false≢true}
use lib.Pointwise.{pointwise}
use Rattle.sk_base.specs.Lists.{zip_with}
use Rattle.sk_base.specs.declared.flow.FlowSort.{FlowSort}
use Rattle.sk_base.specs.declared.flow.FlowSort.TheVariants as sort
use Rattle.sk_lattice.specs.declared.truth.AbsBool.{AbsBool}
use Rattle.sk_lattice.specs.declared.value.AbsVal.{AbsVal}
use Rattle.sk_lattice.specs.declared.cell.AbsCell.{AbsCell}
use Rattle.sk_lattice.specs.declared.store.AbsStore.{AbsStore}
use Rattle.sk_lattice.specs.declared.store.AbsStore.TheVariants.{Empty, Cells}
use Rattle.sk_lattice.specs.declared.flow.AbsFlow.{AbsFlow}
use Rattle.sk_lattice.specs.declared.flow.AbsFlow.TheVariants as flow
use Rattle.sk_lattice.specs.Domain.{Domain}
use Rattle.sk_lattice.specs.DomainLaws.{DomainLaws, FiniteLaw}
use Rattle.sk_lattice.specs.Empty.{flow_is_proper, is_proper}
use Rattle.sk_lattice.specs.Merge.{Join, Widen, bool_merge, val_merge, cell_merge, store_merge, flow_merge, tuple_merge}
use Rattle.sk_lattice.specs.Thresholds.{IsThresholds}
use Rattle.sk_lattice.specs.Order.{val_leq, cell_leq, store_leq, flow_leq, tuple_leq}
use Rattle.sk_lattice.specs.Ranks.{RankLaws}
use Rattle.sk_lattice.specs.Shapes.{flow_has_sort, has_sorts}
use Rattle.sk_lattice.specs.Truth.{bool_leq}
use Rattle.sk_lattice.proofs.Falling.{rank_falls, tuple_capped}

mark_new : (a b c : Bool) → (not c || a) ≡ true → (a || (b || c)) ≡ (a || b)
mark_new true b c h = refl
mark_new false true c h = refl
mark_new false false true h = absurd (false≢true h)
mark_new false false false h = refl

zip_new : {A : Type 0} (below : A → A → Bool) (widen join : A → A → A) → ((x y z : A) → below z x ≡ true → widen x (join y z) ≡ widen x y) → (xs ys zs : List A) → length xs ≡ length ys → pointwise below zs xs ≡ true → zip_with widen xs (zip_with join ys zs) ≡ zip_with widen xs ys
zip_new below widen join step [] ys zs e h = refl
zip_new below widen join step (x ∷ xs) [] zs e h = absurd (omega arith)
zip_new below widen join step (x ∷ xs) (y ∷ ys) [] e h = absurd (false≢true h)
zip_new below widen join step (x ∷ xs) (y ∷ ys) (z ∷ zs) e h =
    let p = and_parts _ _ h in ap₂ (λ u us. u ∷ us) (step x y z p.0) (zip_new below widen join step xs ys zs (omega arith) p.1)

module _ (D : Type 0) (d : Domain D) (laws : DomainLaws d) (marks : List ℤ) (are : IsThresholds marks) where
  bool_new : (a b c : AbsBool) → bool_leq c a ≡ true → bool_merge (Widen marks) a (bool_merge Join b c) ≡ bool_merge (Widen marks) a b
  bool_new a b c h =
      let p = and_parts (not c.has_true || a.has_true) (not c.has_false || a.has_false) h in
      λ i. record { has_true = mark_new a.has_true b.has_true c.has_true p.0 i; has_false = mark_new a.has_false b.has_false c.has_false p.1 i }

  val_new : (a b c : AbsVal D) → val_leq d c a ≡ true → val_merge d (Widen marks) a (val_merge d Join b c) ≡ val_merge d (Widen marks) a b
  val_new a b c h =
      let p = and_parts (d.leq c.num a.num) (bool_leq c.truth a.truth) h in
      λ i. record { num = (laws.widening marks are).widen_new a.num b.num c.num p.0 i; truth = bool_new a.truth b.truth c.truth p.1 i }

  cell_new : (a b c : AbsCell D) → cell_leq d c a ≡ true → cell_merge d (Widen marks) a (cell_merge d Join b c) ≡ cell_merge d (Widen marks) a b
  cell_new a b c h =
      let p = and_parts (val_leq d c.val a.val) (not c.unset || a.unset) h in
      λ i. record { val = val_new a.val b.val c.val p.0 i; unset = mark_new a.unset b.unset c.unset p.1 i }

  store_new : (names : ℕ) (a b c : AbsStore D) → flow_has_sort names sort.Store (flow.Store a) ≡ true → flow_has_sort names sort.Store (flow.Store b) ≡ true → flow_is_proper d (flow.Store b) ≡ true → store_leq d c a ≡ true → store_merge d (Widen marks) a (store_merge d Join b c) ≡ store_merge d (Widen marks) a b
  store_new names a Empty c p q e h = absurd (false≢true e)
  store_new names Empty (Cells ys) Empty p q e h = refl
  store_new names Empty (Cells ys) (Cells zs) p q e h = absurd (false≢true h)
  store_new names (Cells xs) (Cells ys) Empty p q e h = refl
  store_new names (Cells xs) (Cells ys) (Cells zs) p q e h =
      ap Cells (zip_new (cell_leq d) (cell_merge d (Widen marks)) (cell_merge d Join) cell_new xs ys zs (eqb-true (length xs) names p ∙ sym (eqb-true (length ys) names q)) h)

  flow_new : (names : ℕ) (s : FlowSort) (a b c : AbsFlow D) → flow_has_sort names s a ≡ true → flow_has_sort names s b ≡ true → flow_is_proper d b ≡ true → flow_leq d c a ≡ true → flow_merge d (Widen marks) a (flow_merge d Join b c) ≡ flow_merge d (Widen marks) a b
  flow_new names sort.Int (flow.Int a) (flow.Int b) (flow.Int c) p q e h = ap flow.Int ((laws.widening marks are).widen_new a b c h)
  flow_new names sort.Bool (flow.Bool a) (flow.Bool b) (flow.Bool c) p q e h = ap flow.Bool (bool_new a b c h)
  flow_new names sort.Val (flow.Val a) (flow.Val b) (flow.Val c) p q e h = ap flow.Val (val_new a b c h)
  flow_new names sort.Store (flow.Store a) (flow.Store b) (flow.Store c) p q e h = ap flow.Store (store_new names a b c p q e h)
  flow_new names _ _ _ _ p q e h = cc

  widen_new : (names : ℕ) (sorts : List FlowSort) (a b c : List (AbsFlow D)) → has_sorts names sorts a ≡ true → has_sorts names sorts b ≡ true → is_proper d b ≡ true → tuple_leq d c a ≡ true → tuple_merge d (Widen marks) a (tuple_merge d Join b c) ≡ tuple_merge d (Widen marks) a b
  widen_new names [] [] [] [] p q e h = refl
  widen_new names (s ∷ ss) (x ∷ xs) (y ∷ ys) (z ∷ zs) p q e h =
      let t = and_parts (flow_has_sort names s x) (has_sorts names ss xs) p in
      let u = and_parts (flow_has_sort names s y) (has_sorts names ss ys) q in
      let v = and_parts (flow_is_proper d y) (is_proper d ys) e in
      let w = and_parts (flow_leq d z x) (tuple_leq d zs xs) h in
      ap₂ (λ r rs. r ∷ rs) (flow_new names s x y z t.0 u.0 v.0 w.0) (widen_new names ss xs ys zs t.1 u.1 v.1 w.1)
  widen_new names _ _ _ _ p q e h = cc

  module _ (same : (a b : D) → d.widen a b marks ≡ d.join a b) where
    cell_same : cell_merge d (Widen marks) ≡ cell_merge d Join
    cell_same = λ i a b. record { val = record { num = same a.val.num b.val.num i; truth = bool_merge Join a.val.truth b.val.truth }; unset = a.unset || b.unset }

    store_same : (s t : AbsStore D) → store_merge d (Widen marks) s t ≡ store_merge d Join s t
    store_same Empty t = refl
    store_same (Cells xs) Empty = refl
    store_same (Cells xs) (Cells ys) = ap (λ f. Cells (zip_with f xs ys)) cell_same

    flow_same : (x y : AbsFlow D) → flow_merge d (Widen marks) x y ≡ flow_merge d Join x y
    flow_same (flow.Int a) (flow.Int b) = ap flow.Int (same a b)
    flow_same (flow.Bool a) (flow.Bool b) = refl
    flow_same (flow.Val a) (flow.Val b) = ap flow.Val (λ i. record { num = same a.num b.num i; truth = bool_merge Join a.truth b.truth })
    flow_same (flow.Store s) (flow.Store t) = ap flow.Store (store_same s t)
    flow_same _ _ = refl

    tuple_same : (a b : List (AbsFlow D)) → tuple_merge d (Widen marks) a b ≡ tuple_merge d Join a b
    tuple_same a b = ap (λ f. zip_with f a b) (λ i x y. flow_same x y i)

  pub rank_laws : (finite : Bool) → FiniteLaw finite d → RankLaws d finite marks
  rank_laws finite is_finite = record {
    rank_falls = rank_falls D d laws marks are;
    rank_at_most = tuple_capped D d laws marks are;
    widen_new = widen_new;
    widen_is_join = λ e a b. tuple_same (λ x y. is_finite e x y marks are) a b;
  }
