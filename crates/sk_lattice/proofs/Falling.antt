-- A widening leaves a tuple as it is or lowers its rank, and every rank is bounded.
use Rattle.std.proofs.Common.{◌≡◌, ◌≢◌, ℕ, zero, suc, ◌+◌, ◌*◌, ◌<◌, ◌≤◌, ℤ, Bool, true, false, ◌||◌, List, [], ◌∷◌, length, sum_by, refl, sym, ◌∙◌, ap, ap₂, subst, inl, inr, ◌⊎◌, arith}
use Rattle.std.proofs.lemmas.Bool.{and_parts, eqb-true, cases_Bool, both_ways, false≢true}
use Rattle.std.proofs.lemmas.List.Sums.{sum_by-cons}
use Rattle.sk_base.specs.Lists.{zip_with}
use Rattle.sk_base.specs.declared.flow.FlowSort.{FlowSort}
use Rattle.sk_base.specs.declared.flow.FlowSort.TheVariants as sort
use Rattle.sk_lattice.specs.declared.truth.AbsBool.{AbsBool}
use Rattle.sk_lattice.specs.declared.value.AbsVal.{AbsVal}
use Rattle.sk_lattice.specs.declared.cell.AbsCell.{AbsCell}
use Rattle.sk_lattice.specs.declared.store.AbsStore.{AbsStore}
use Rattle.sk_lattice.specs.declared.store.AbsStore.TheVariants.{Empty, Cells}
use Rattle.sk_lattice.specs.declared.flow.AbsFlow.{AbsFlow}
use Rattle.sk_lattice.specs.declared.flow.AbsFlow.TheVariants as flow
use Rattle.sk_lattice.specs.Domain.{Domain}
use Rattle.sk_lattice.specs.DomainLaws.{DomainLaws}
use Rattle.sk_lattice.specs.Empty.{flow_is_proper, is_proper}
use Rattle.sk_lattice.specs.Merge.{Widen, bool_merge, val_merge, cell_merge, store_merge, flow_merge, tuple_merge}
use Rattle.sk_lattice.specs.Thresholds.{IsThresholds}
use Rattle.sk_lattice.specs.Ranks.{mark_rank, bool_rank, val_rank, cell_rank, flow_rank, tuple_rank}
use Rattle.sk_lattice.specs.Shapes.{flow_has_sort, has_sorts}

-- the second is the first, or ranks lower
abbrev pub Falls : {A : Type 0} → (A → ℕ) → A → A → Type 0
Falls rank x y = (y ≡ x) ⊎ (rank y < rank x)

-- two parts, of which each stays or falls
both_fall : {A B C : Type 0} (r : A → ℕ) (s : B → ℕ) (make : A → B → C) (x x2 : A) (y y2 : B) → Falls r x x2 → Falls s y y2 → (make x2 y2 ≡ make x y) ⊎ (r x2 + s y2 < r x + s y)
both_fall r s make x x2 y y2 (inl e) (inl f) = inl (ap₂ make e f)
both_fall r s make x x2 y y2 (inl e) (inr g) = inr (omega (arith, ap r e, g))
both_fall r s make x x2 y y2 (inr g) (inl f) = inr (omega (arith, ap s f, g))
both_fall r s make x x2 y y2 (inr g) (inr h) = inr (omega (arith, g, h))

moved : {A C : Type 0} (rank : A → ℕ) (other : C → ℕ) (make : A → C) (x y : A) → ((z : A) → other (make z) ≡ rank z) → Falls rank x y → Falls other (make x) (make y)
moved rank other make x y e (inl h) = inl (ap make h)
moved rank other make x y e (inr h) = inr (omega (arith, e x, e y, h))

mark_falls : (a b : Bool) → Falls mark_rank a (a || b)
mark_falls true b = inl refl
mark_falls false true = inr (omega arith)
mark_falls false false = inl refl

zip_falls : {A : Type 0} (f : A → A → A) (rank : A → ℕ) → ((x y : A) → Falls rank x (f x y)) → (xs ys : List A) → length xs ≡ length ys → Falls (sum_by rank) xs (zip_with f xs ys)
zip_falls f rank step [] ys e = inl refl
zip_falls f rank step (x ∷ xs) [] e = absurd (omega arith)
zip_falls f rank step (x ∷ xs) (y ∷ ys) e =
    elim (both_fall rank (sum_by rank) (λ u us. u ∷ us) x (f x y) xs (zip_with f xs ys) (step x y) (zip_falls f rank step xs ys (omega arith))) [
      | inl h ↦ inl h
      | inr h ↦ inr (omega (arith, sum_by-cons rank x xs, sum_by-cons rank (f x y) (zip_with f xs ys), h))
    ]

mark_capped : (m : Bool) → mark_rank m ≤ 1
mark_capped true = omega arith
mark_capped false = omega arith

sum_capped : {A : Type 0} (f : A → ℕ) (c : ℕ) → ((x : A) → f x ≤ c) → (xs : List A) → sum_by f xs ≤ length xs * c
sum_capped f c h [] = omega arith
sum_capped f c h (x ∷ xs) = omega (arith, sum_by-cons f x xs, h x, sum_capped f c h xs)

module _ (D : Type 0) (d : Domain D) (laws : DomainLaws d) (marks : List ℤ) (are : IsThresholds marks) where
  num_falls : (a b : D) → Falls (λ n. d.rank n marks) a (d.widen a b marks)
  num_falls a b =
      elim (cases_Bool (d.leq (d.widen a b marks) a)) [
        | inl e ↦ inl (laws.order.leq_antisym (d.widen a b marks) a e ((laws.widening marks are).widen_left a b))
        | inr n ↦ inr ((laws.widening marks are).rank_falls a b (λ same. both_ways (d.leq (d.widen a b marks) a) n (subst (λ z. d.leq z a ≡ true) (sym same) (laws.order.leq_refl a))))
      ]

  bool_falls : (a b : AbsBool) → Falls bool_rank a (bool_merge (Widen marks) a b)
  bool_falls a b =
      both_fall mark_rank mark_rank make a.has_true (a.has_true || b.has_true) a.has_false (a.has_false || b.has_false) (mark_falls a.has_true b.has_true) (mark_falls a.has_false b.has_false)
    where
      make : Bool → Bool → AbsBool
      make t f = record { has_true = t; has_false = f }

  val_falls : (a b : AbsVal D) → Falls (val_rank d marks) a (val_merge d (Widen marks) a b)
  val_falls a b =
      both_fall (λ n. d.rank n marks) bool_rank make a.num (d.widen a.num b.num marks) a.truth (bool_merge (Widen marks) a.truth b.truth) (num_falls a.num b.num) (bool_falls a.truth b.truth)
    where
      make : D → AbsBool → AbsVal D
      make n t = record { num = n; truth = t }

  cell_falls : (a b : AbsCell D) → Falls (cell_rank d marks) a (cell_merge d (Widen marks) a b)
  cell_falls a b =
      both_fall (val_rank d marks) mark_rank make a.val (val_merge d (Widen marks) a.val b.val) a.unset (a.unset || b.unset) (val_falls a.val b.val) (mark_falls a.unset b.unset)
    where
      make : AbsVal D → Bool → AbsCell D
      make v u = record { val = v; unset = u }

  store_falls : (names : ℕ) (s t : AbsStore D) → flow_has_sort names sort.Store (flow.Store s) ≡ true → flow_has_sort names sort.Store (flow.Store t) ≡ true → flow_is_proper d (flow.Store s) ≡ true → Falls (λ u. flow_rank d marks (flow.Store u)) s (store_merge d (Widen marks) s t)
  store_falls names Empty t p q e = absurd (false≢true e)
  store_falls names (Cells xs) Empty p q e = inl refl
  store_falls names (Cells xs) (Cells ys) p q e =
      moved (sum_by (cell_rank d marks)) (λ u. flow_rank d marks (flow.Store u)) Cells xs (zip_with (cell_merge d (Widen marks)) xs ys) (λ z. refl) (zip_falls (cell_merge d (Widen marks)) (cell_rank d marks) cell_falls xs ys (eqb-true (length xs) names p ∙ sym (eqb-true (length ys) names q)))

  flow_falls : (names : ℕ) (s : FlowSort) (x y : AbsFlow D) → flow_has_sort names s x ≡ true → flow_has_sort names s y ≡ true → flow_is_proper d x ≡ true → Falls (flow_rank d marks) x (flow_merge d (Widen marks) x y)
  flow_falls names sort.Int (flow.Int a) (flow.Int b) p q e = moved (λ n. d.rank n marks) (flow_rank d marks) flow.Int a (d.widen a b marks) (λ z. refl) (num_falls a b)
  flow_falls names sort.Bool (flow.Bool a) (flow.Bool b) p q e = moved bool_rank (flow_rank d marks) flow.Bool a (bool_merge (Widen marks) a b) (λ z. refl) (bool_falls a b)
  flow_falls names sort.Val (flow.Val a) (flow.Val b) p q e = moved (val_rank d marks) (flow_rank d marks) flow.Val a (val_merge d (Widen marks) a b) (λ z. refl) (val_falls a b)
  flow_falls names sort.Store (flow.Store s) (flow.Store t) p q e = moved (λ u. flow_rank d marks (flow.Store u)) (flow_rank d marks) flow.Store s (store_merge d (Widen marks) s t) (λ z. refl) (store_falls names s t p q e)
  flow_falls names _ _ _ p q e = cc

  tuple_falls : (names : ℕ) (sorts : List FlowSort) (a b : List (AbsFlow D)) → has_sorts names sorts a ≡ true → has_sorts names sorts b ≡ true → is_proper d a ≡ true → Falls (tuple_rank d marks) a (tuple_merge d (Widen marks) a b)
  tuple_falls names [] [] [] p q e = inl refl
  tuple_falls names (s ∷ ss) (x ∷ xs) (y ∷ ys) p q e =
      let u = and_parts (flow_has_sort names s x) (has_sorts names ss xs) p in
      let v = and_parts (flow_has_sort names s y) (has_sorts names ss ys) q in
      let w = and_parts (flow_is_proper d x) (is_proper d xs) e in
      elim (both_fall (flow_rank d marks) (tuple_rank d marks) (λ z zs. z ∷ zs) x (flow_merge d (Widen marks) x y) xs (tuple_merge d (Widen marks) xs ys) (flow_falls names s x y u.0 v.0 w.0) (tuple_falls names ss xs ys u.1 v.1 w.1)) [
        | inl h ↦ inl h
        | inr h ↦ inr (omega (arith, sum_by-cons (flow_rank d marks) x xs, sum_by-cons (flow_rank d marks) (flow_merge d (Widen marks) x y) (tuple_merge d (Widen marks) xs ys), h))
      ]
  tuple_falls names _ _ _ p q e = cc

  pub rank_falls : (names : ℕ) (sorts : List FlowSort) (a b : List (AbsFlow D)) → has_sorts names sorts a ≡ true → has_sorts names sorts b ≡ true → is_proper d a ≡ true → tuple_merge d (Widen marks) a b ≢ a → tuple_rank d marks (tuple_merge d (Widen marks) a b) < tuple_rank d marks a
  rank_falls names sorts a b p q e n = elim (tuple_falls names sorts a b p q e) [ inl same ↦ absurd (n same) | inr h ↦ h ]

  -- ranks of parts, with `d.rank d.empty marks` the greatest of a number
  num_capped : (a : D) → d.rank a marks ≤ d.rank d.empty marks
  num_capped a = (laws.widening marks are).rank_at_most a

  val_capped : (a : AbsVal D) → val_rank d marks a ≤ d.rank d.empty marks + 2
  val_capped a = omega (arith, num_capped a.num, mark_capped a.truth.has_true, mark_capped a.truth.has_false)

  cell_capped : (c : AbsCell D) → cell_rank d marks c ≤ d.rank d.empty marks + 3
  cell_capped c = omega (arith, val_capped c.val, mark_capped c.unset)

  part_capped : (names n c : ℕ) → 1 ≤ names → n ≤ c → n ≤ names * c
  part_capped zero n c some h = absurd (omega arith)
  part_capped (suc m) n c some h = omega arith

  flow_capped : (names : ℕ) → 1 ≤ names → (s : FlowSort) (x : AbsFlow D) → flow_has_sort names s x ≡ true → flow_rank d marks x ≤ names * (d.rank d.empty marks + 3)
  flow_capped names some sort.Int (flow.Int a) p = part_capped names (d.rank a marks) (d.rank d.empty marks + 3) some (omega (arith, num_capped a))
  flow_capped names some sort.Bool (flow.Bool a) p = part_capped names (bool_rank a) (d.rank d.empty marks + 3) some (omega (arith, mark_capped a.has_true, mark_capped a.has_false))
  flow_capped names some sort.Val (flow.Val a) p = part_capped names (val_rank d marks a) (d.rank d.empty marks + 3) some (omega (arith, val_capped a))
  flow_capped names some sort.Store (flow.Store (Cells xs)) p = omega (arith, sum_capped (cell_rank d marks) (d.rank d.empty marks + 3) cell_capped xs, ap (λ n. n * (d.rank d.empty marks + 3)) (eqb-true (length xs) names p))
  flow_capped names some sort.Store (flow.Store Empty) p = omega arith
  flow_capped names some _ _ p = cc

  pub tuple_capped : (names : ℕ) → 1 ≤ names → (sorts : List FlowSort) (a : List (AbsFlow D)) → has_sorts names sorts a ≡ true → tuple_rank d marks a ≤ length sorts * (names * (d.rank d.empty marks + 3))
  tuple_capped names some [] [] p = omega arith
  tuple_capped names some (s ∷ ss) (x ∷ xs) p =
      let u = and_parts (flow_has_sort names s x) (has_sorts names ss xs) p in
      omega (arith, sum_by-cons (flow_rank d marks) x xs, flow_capped names some s x u.0, tuple_capped names some ss xs u.1)
  tuple_capped names some _ _ p = cc
