-- Tuples that lie below each other are equal.
use Rattle.std.proofs.Common.{◌≡◌, Bool, true, false, not, ◌||◌, List, [], ◌∷◌, refl, ap, ap₂}
use Rattle.std.proofs.lemmas.Bool.{and_parts, false≢true}
use lib.Pointwise.{pointwise}
use Rattle.sk_lattice.specs.declared.truth.AbsBool.{AbsBool}
use Rattle.sk_lattice.specs.declared.value.AbsVal.{AbsVal}
use Rattle.sk_lattice.specs.declared.cell.AbsCell.{AbsCell}
use Rattle.sk_lattice.specs.declared.store.AbsStore.{AbsStore}
use Rattle.sk_lattice.specs.declared.store.AbsStore.TheVariants.{Empty, Cells}
use Rattle.sk_lattice.specs.declared.flow.AbsFlow.{AbsFlow}
use Rattle.sk_lattice.specs.declared.flow.AbsFlow.TheVariants as flow
use Rattle.sk_lattice.specs.Domain.{Domain}
use Rattle.sk_lattice.specs.DomainLaws.{DomainLaws}
use Rattle.sk_lattice.specs.Order.{val_leq, cell_leq, store_leq, flow_leq, tuple_leq}
use Rattle.sk_lattice.specs.Truth.{bool_leq}

-- lists that lie below each other
pairs_antisym : {A : Type 0} (f : A → A → Bool) → ((x y : A) → f x y ≡ true → f y x ≡ true → x ≡ y) → (xs ys : List A) → pointwise f xs ys ≡ true → pointwise f ys xs ≡ true → xs ≡ ys
pairs_antisym f step [] [] p q = refl
pairs_antisym f step (x ∷ xs) (y ∷ ys) p q =
    let a = and_parts _ _ p in
    let b = and_parts _ _ q in
    ap₂ (λ u us. u ∷ us) (step x y a.0 b.0) (pairs_antisym f step xs ys a.1 b.1)
pairs_antisym f step _ _ p q = cc

mark_antisym : (a b : Bool) → (not a || b) ≡ true → (not b || a) ≡ true → a ≡ b
mark_antisym true true p q = refl
mark_antisym false false p q = refl
mark_antisym true false p q = absurd (false≢true p)
mark_antisym false true p q = absurd (false≢true q)

bool_antisym : (a b : AbsBool) → bool_leq a b ≡ true → bool_leq b a ≡ true → a ≡ b
bool_antisym a b p q =
    let x = and_parts _ _ p in
    let y = and_parts _ _ q in
    λ i. record { has_true = mark_antisym a.has_true b.has_true x.0 y.0 i; has_false = mark_antisym a.has_false b.has_false x.1 y.1 i }

module _ (D : Type 0) (d : Domain D) (laws : DomainLaws d) where
  val_antisym : (a b : AbsVal D) → val_leq d a b ≡ true → val_leq d b a ≡ true → a ≡ b
  val_antisym a b p q =
      let x = and_parts (d.leq a.num b.num) (bool_leq a.truth b.truth) p in
      let y = and_parts (d.leq b.num a.num) (bool_leq b.truth a.truth) q in
      λ i. record { num = laws.order.leq_antisym a.num b.num x.0 y.0 i; truth = bool_antisym a.truth b.truth x.1 y.1 i }

  cell_antisym : (a b : AbsCell D) → cell_leq d a b ≡ true → cell_leq d b a ≡ true → a ≡ b
  cell_antisym a b p q =
      let x = and_parts (val_leq d a.val b.val) (not a.unset || b.unset) p in
      let y = and_parts (val_leq d b.val a.val) (not b.unset || a.unset) q in
      λ i. record { val = val_antisym a.val b.val x.0 y.0 i; unset = mark_antisym a.unset b.unset x.1 y.1 i }

  store_antisym : (s t : AbsStore D) → store_leq d s t ≡ true → store_leq d t s ≡ true → s ≡ t
  store_antisym Empty Empty p q = refl
  store_antisym (Cells xs) (Cells ys) p q = ap Cells (pairs_antisym (cell_leq d) cell_antisym xs ys p q)
  store_antisym Empty (Cells ys) p q = absurd (false≢true q)
  store_antisym (Cells xs) Empty p q = absurd (false≢true p)

  flow_antisym : (x y : AbsFlow D) → flow_leq d x y ≡ true → flow_leq d y x ≡ true → x ≡ y
  flow_antisym (flow.Int a) (flow.Int b) p q = ap flow.Int (laws.order.leq_antisym a b p q)
  flow_antisym (flow.Bool a) (flow.Bool b) p q = ap flow.Bool (bool_antisym a b p q)
  flow_antisym (flow.Val a) (flow.Val b) p q = ap flow.Val (val_antisym a b p q)
  flow_antisym (flow.Store s) (flow.Store t) p q = ap flow.Store (store_antisym s t p q)
  flow_antisym _ _ p q = cc

  pub tuple_antisym : (a b : List (AbsFlow D)) → tuple_leq d a b ≡ true → tuple_leq d b a ≡ true → a ≡ b
  tuple_antisym = pairs_antisym (flow_leq d) flow_antisym
