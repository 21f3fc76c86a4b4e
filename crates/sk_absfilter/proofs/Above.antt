-- Arguments above others, by the sorts of the lesser ones; what holds of the results for given sorts holds of all arguments.
use Rattle.std.proofs.Common.{◌≡◌, ℕ, ℤ, true, List, [], ◌∷◌, refl, subst}
use Rattle.std.specs.List.{AllZip}
use Rattle.std.proofs.lemmas.Bool.{false≢true}
use lib.Pointwise.{pointwise}
use Rattle.sk_lattice.specs.declared.truth.AbsBool.{AbsBool}
use Rattle.sk_lattice.specs.declared.value.AbsVal.{AbsVal}
use Rattle.sk_lattice.specs.declared.cell.AbsCell.{AbsCell}
use Rattle.sk_lattice.specs.declared.store.AbsStore.{AbsStore}
use Rattle.sk_lattice.specs.declared.store.AbsStore.TheVariants.{Empty, Cells}
use Rattle.sk_lattice.specs.declared.flow.AbsFlow.TheVariants as flow
use Rattle.sk_lattice.specs.Domain.{Domain}
use Rattle.sk_lattice.specs.Truth.{bool_leq}
use Rattle.sk_lattice.specs.Order.{val_leq, cell_leq, store_leq}
use Rattle.sk_absfilter.specs.declared.arg.AbsArg.{AbsArg}
use Rattle.sk_absfilter.specs.Arguments.{the_number, the_int, the_ints, the_bool, the_bools, the_val, the_store, the_cell, the_cell_and_val}
use Rattle.sk_absfilter.specs.Abstract.{Outcome, on, on_both, on_all}
use Rattle.sk_absfilter.specs.Laws.{ArgLeq, outcome_leq}
use Rattle.sk_absfilter.proofs.Beside.{beside_one, beside_two, beside_three, flipped}

abbrev pub Below : {D : Type 0} → Domain D → Outcome D → Outcome D → Type 0
Below d a b = outcome_leq d a b ≡ true

abbrev Above : {D : Type 0} → Domain D → AbsArg D → AbsArg D → Type 0
Above d b a = ArgLeq d a b

module _ (D : Type 0) (d : Domain D) (P : AbsArg D → Type 0) where
  above_number : (z : ℤ) → ((y : ℤ) → z ≡ y → P (AbsArg.Number y)) → (b : AbsArg D) → ArgLeq d (AbsArg.Number z) b → P b
  above_number z k (AbsArg.Number y) h = k y h
  above_number z k (AbsArg.Name n) h = absurd h
  above_number z k (AbsArg.Flow a) h = absurd h

  above_name : (n : ℕ) → ((m : ℕ) → n ≡ m → P (AbsArg.Name m)) → (b : AbsArg D) → ArgLeq d (AbsArg.Name n) b → P b
  above_name n k (AbsArg.Number z) h = absurd h
  above_name n k (AbsArg.Name m) h = k m h
  above_name n k (AbsArg.Flow a) h = absurd h

  above_int : (a : D) → ((x : D) → d.leq a x ≡ true → P (AbsArg.Flow (flow.Int x))) → (b : AbsArg D) → ArgLeq d (AbsArg.Flow (flow.Int a)) b → P b
  above_int a k (AbsArg.Number z) h = absurd h
  above_int a k (AbsArg.Name m) h = absurd h
  above_int a k (AbsArg.Flow (flow.Int x)) h = k x h
  above_int a k (AbsArg.Flow (flow.Bool x)) h = absurd (false≢true h)
  above_int a k (AbsArg.Flow (flow.Val x)) h = absurd (false≢true h)
  above_int a k (AbsArg.Flow (flow.Store x)) h = absurd (false≢true h)

  above_bool : (a : AbsBool) → ((x : AbsBool) → bool_leq a x ≡ true → P (AbsArg.Flow (flow.Bool x))) → (b : AbsArg D) → ArgLeq d (AbsArg.Flow (flow.Bool a)) b → P b
  above_bool a k (AbsArg.Number z) h = absurd h
  above_bool a k (AbsArg.Name m) h = absurd h
  above_bool a k (AbsArg.Flow (flow.Int x)) h = absurd (false≢true h)
  above_bool a k (AbsArg.Flow (flow.Bool x)) h = k x h
  above_bool a k (AbsArg.Flow (flow.Val x)) h = absurd (false≢true h)
  above_bool a k (AbsArg.Flow (flow.Store x)) h = absurd (false≢true h)

  above_val : (a : AbsVal D) → ((x : AbsVal D) → val_leq d a x ≡ true → P (AbsArg.Flow (flow.Val x))) → (b : AbsArg D) → ArgLeq d (AbsArg.Flow (flow.Val a)) b → P b
  above_val a k (AbsArg.Number z) h = absurd h
  above_val a k (AbsArg.Name m) h = absurd h
  above_val a k (AbsArg.Flow (flow.Int x)) h = absurd (false≢true h)
  above_val a k (AbsArg.Flow (flow.Bool x)) h = absurd (false≢true h)
  above_val a k (AbsArg.Flow (flow.Val x)) h = k x h
  above_val a k (AbsArg.Flow (flow.Store x)) h = absurd (false≢true h)

  above_store : (a : AbsStore D) → ((x : AbsStore D) → store_leq d a x ≡ true → P (AbsArg.Flow (flow.Store x))) → (b : AbsArg D) → ArgLeq d (AbsArg.Flow (flow.Store a)) b → P b
  above_store a k (AbsArg.Number z) h = absurd h
  above_store a k (AbsArg.Name m) h = absurd h
  above_store a k (AbsArg.Flow (flow.Int x)) h = absurd (false≢true h)
  above_store a k (AbsArg.Flow (flow.Bool x)) h = absurd (false≢true h)
  above_store a k (AbsArg.Flow (flow.Val x)) h = absurd (false≢true h)
  above_store a k (AbsArg.Flow (flow.Store x)) h = k x h

  above_cells : (a : List (AbsCell D)) → ((x : List (AbsCell D)) → pointwise (cell_leq d) a x ≡ true → P (AbsArg.Flow (flow.Store (Cells x)))) → (b : AbsArg D) → ArgLeq d (AbsArg.Flow (flow.Store (Cells a))) b → P b
  above_cells a k b h = above_store (Cells a) of_store b h where
    of_store : (x : AbsStore D) → store_leq d (Cells a) x ≡ true → P (AbsArg.Flow (flow.Store x))
    of_store Empty h = absurd (false≢true h)
    of_store (Cells x) h = k x h

module _ (D : Type 0) (d : Domain D) where
  pub number_below : (f : ℤ → Outcome D) → ((z : ℤ) → Below d (f z) (f z)) → (args greater : List (AbsArg D)) → AllZip (ArgLeq d) args greater → Below d (on (the_number args) f) (on (the_number greater) f)
  number_below f step (AbsArg.Number z ∷ []) greater h =
      beside_one (Above d) (λ xs. Below d (f z) (on (the_number xs) f)) (AbsArg.Number z)
      (above_number D d (λ b. Below d (f z) (on (the_number (b ∷ [])) f)) z (λ y e. subst (λ w. Below d (f z) (f w)) e (step z))) greater (flipped (ArgLeq d) _ _ h)
  number_below f step _ greater h = refl

  pub int_below : (f : D → Outcome D) → ((a x : D) → d.leq a x ≡ true → Below d (f a) (f x)) → (args greater : List (AbsArg D)) → AllZip (ArgLeq d) args greater → Below d (on (the_int args) f) (on (the_int greater) f)
  int_below f step (AbsArg.Flow (flow.Int a) ∷ []) greater h =
      beside_one (Above d) (λ xs. Below d (f a) (on (the_int xs) f)) (AbsArg.Flow (flow.Int a))
      (above_int D d (λ b. Below d (f a) (on (the_int (b ∷ [])) f)) a (step a)) greater (flipped (ArgLeq d) _ _ h)
  int_below f step _ greater h = refl

  pub ints_below : (f : D → D → Outcome D) → ((a x b y : D) → d.leq a x ≡ true → d.leq b y ≡ true → Below d (f a b) (f x y)) → (args greater : List (AbsArg D)) → AllZip (ArgLeq d) args greater → Below d (on_both (the_ints args) f) (on_both (the_ints greater) f)
  ints_below f step (AbsArg.Flow (flow.Int a) ∷ AbsArg.Flow (flow.Int b) ∷ []) greater h =
      beside_two (Above d) (λ xs. Below d (f a b) (on_both (the_ints xs) f)) (AbsArg.Flow (flow.Int a)) (AbsArg.Flow (flow.Int b))
      (λ u v p q. above_int D d (λ u. Below d (f a b) (on_both (the_ints (u ∷ v ∷ [])) f)) a
      (λ x e. above_int D d (λ v. Below d (f a b) (on_both (the_ints (AbsArg.Flow (flow.Int x) ∷ v ∷ [])) f)) b (λ y k. step a x b y e k) v q) u p) greater (flipped (ArgLeq d) _ _ h)
  ints_below f step _ greater h = refl

  pub bool_below : (f : AbsBool → Outcome D) → ((a x : AbsBool) → bool_leq a x ≡ true → Below d (f a) (f x)) → (args greater : List (AbsArg D)) → AllZip (ArgLeq d) args greater → Below d (on (the_bool args) f) (on (the_bool greater) f)
  bool_below f step (AbsArg.Flow (flow.Bool a) ∷ []) greater h =
      beside_one (Above d) (λ xs. Below d (f a) (on (the_bool xs) f)) (AbsArg.Flow (flow.Bool a))
      (above_bool D d (λ b. Below d (f a) (on (the_bool (b ∷ [])) f)) a (step a)) greater (flipped (ArgLeq d) _ _ h)
  bool_below f step _ greater h = refl

  pub bools_below : (f : AbsBool → AbsBool → Outcome D) → ((a x b y : AbsBool) → bool_leq a x ≡ true → bool_leq b y ≡ true → Below d (f a b) (f x y)) → (args greater : List (AbsArg D)) → AllZip (ArgLeq d) args greater → Below d (on_both (the_bools args) f) (on_both (the_bools greater) f)
  bools_below f step (AbsArg.Flow (flow.Bool a) ∷ AbsArg.Flow (flow.Bool b) ∷ []) greater h =
      beside_two (Above d) (λ xs. Below d (f a b) (on_both (the_bools xs) f)) (AbsArg.Flow (flow.Bool a)) (AbsArg.Flow (flow.Bool b))
      (λ u v p q. above_bool D d (λ u. Below d (f a b) (on_both (the_bools (u ∷ v ∷ [])) f)) a
      (λ x e. above_bool D d (λ v. Below d (f a b) (on_both (the_bools (AbsArg.Flow (flow.Bool x) ∷ v ∷ [])) f)) b (λ y k. step a x b y e k) v q) u p) greater (flipped (ArgLeq d) _ _ h)
  bools_below f step _ greater h = refl

  pub val_below : (f : AbsVal D → Outcome D) → ((a x : AbsVal D) → val_leq d a x ≡ true → Below d (f a) (f x)) → (args greater : List (AbsArg D)) → AllZip (ArgLeq d) args greater → Below d (on (the_val args) f) (on (the_val greater) f)
  val_below f step (AbsArg.Flow (flow.Val a) ∷ []) greater h =
      beside_one (Above d) (λ xs. Below d (f a) (on (the_val xs) f)) (AbsArg.Flow (flow.Val a))
      (above_val D d (λ b. Below d (f a) (on (the_val (b ∷ [])) f)) a (step a)) greater (flipped (ArgLeq d) _ _ h)
  val_below f step _ greater h = refl

  pub store_below : (f : AbsStore D → Outcome D) → ((a x : AbsStore D) → store_leq d a x ≡ true → Below d (f a) (f x)) → (args greater : List (AbsArg D)) → AllZip (ArgLeq d) args greater → Below d (on (the_store args) f) (on (the_store greater) f)
  store_below f step (AbsArg.Flow (flow.Store a) ∷ []) greater h =
      beside_one (Above d) (λ xs. Below d (f a) (on (the_store xs) f)) (AbsArg.Flow (flow.Store a))
      (above_store D d (λ b. Below d (f a) (on (the_store (b ∷ [])) f)) a (step a)) greater (flipped (ArgLeq d) _ _ h)
  store_below f step _ greater h = refl

  pub cell_below : (f : List (AbsCell D) → ℕ → Outcome D) → ((a x : List (AbsCell D)) (n : ℕ) → pointwise (cell_leq d) a x ≡ true → Below d (f a n) (f x n)) → (args greater : List (AbsArg D)) → AllZip (ArgLeq d) args greater → Below d (on_both (the_cell args) f) (on_both (the_cell greater) f)
  cell_below f step (AbsArg.Flow (flow.Store (Cells a)) ∷ AbsArg.Name n ∷ []) greater h =
      beside_two (Above d) (λ xs. Below d (f a n) (on_both (the_cell xs) f)) (AbsArg.Flow (flow.Store (Cells a))) (AbsArg.Name n)
      (λ u v p q. above_cells D d (λ u. Below d (f a n) (on_both (the_cell (u ∷ v ∷ [])) f)) a
      (λ x e. above_name D d (λ v. Below d (f a n) (on_both (the_cell (AbsArg.Flow (flow.Store (Cells x)) ∷ v ∷ [])) f)) n
      (λ m k. subst (λ w. Below d (f a n) (f x w)) k (step a x n e)) v q) u p) greater (flipped (ArgLeq d) _ _ h)
  cell_below f step _ greater h = refl

  pub cell_and_val_below : (f : List (AbsCell D) → ℕ → AbsVal D → Outcome D) → ((a x : List (AbsCell D)) (n : ℕ) (v y : AbsVal D) → pointwise (cell_leq d) a x ≡ true → val_leq d v y ≡ true → Below d (f a n v) (f x n y)) → (args greater : List (AbsArg D)) → AllZip (ArgLeq d) args greater → Below d (on_all (the_cell_and_val args) f) (on_all (the_cell_and_val greater) f)
  cell_and_val_below f step (AbsArg.Flow (flow.Store (Cells a)) ∷ AbsArg.Name n ∷ AbsArg.Flow (flow.Val v) ∷ []) greater h =
      beside_three (Above d) (λ xs. Below d (f a n v) (on_all (the_cell_and_val xs) f)) (AbsArg.Flow (flow.Store (Cells a))) (AbsArg.Name n) (AbsArg.Flow (flow.Val v))
      (λ s t u p q r. above_cells D d (λ s. Below d (f a n v) (on_all (the_cell_and_val (s ∷ t ∷ u ∷ [])) f)) a
      (λ x e. above_name D d (λ t. Below d (f a n v) (on_all (the_cell_and_val (AbsArg.Flow (flow.Store (Cells x)) ∷ t ∷ u ∷ [])) f)) n
      (λ m k. above_val D d (λ u. Below d (f a n v) (on_all (the_cell_and_val (AbsArg.Flow (flow.Store (Cells x)) ∷ AbsArg.Name m ∷ u ∷ [])) f)) v
      (λ y l. subst (λ w. Below d (f a n v) (f x w y)) k (step a x n v y e l)) u r) t q) s p) greater (flipped (ArgLeq d) _ _ h)
  cell_and_val_below f step _ greater h = refl
