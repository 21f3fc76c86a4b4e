-- Arguments that cover values, by the sorts of the values; what holds of the results for given sorts holds of all arguments.
use Rattle.std.proofs.Common.{◌≡◌, ℕ, ℤ, Bool, true, List, [], ◌∷◌, sym, subst}
use Rattle.std.specs.List.{AllZip, AllByRecursion}
use Rattle.std.proofs.lemmas.Bool.{false≢true}
use lib.Pointwise.{pointwise}
use Rattle.sk_value.specs.declared.value.Value.{Value}
use Rattle.sk_value.specs.declared.flow.Flow.TheVariants as concrete
use Rattle.sk_filter.specs.declared.arg.Arg.{Arg}
use Rattle.sk_filter.specs.Arguments as arguments
use Rattle.sk_filter.specs.Arguments.{Values, State}
use Rattle.sk_filter.specs.Results as results
use Rattle.sk_lattice.specs.declared.truth.AbsBool.{AbsBool}
use Rattle.sk_lattice.specs.declared.value.AbsVal.{AbsVal}
use Rattle.sk_lattice.specs.declared.cell.AbsCell.{AbsCell}
use Rattle.sk_lattice.specs.declared.store.AbsStore.{AbsStore}
use Rattle.sk_lattice.specs.declared.store.AbsStore.TheVariants.{Empty, Cells}
use Rattle.sk_lattice.specs.declared.flow.AbsFlow.TheVariants as flow
use Rattle.sk_lattice.specs.Domain.{Domain}
use Rattle.sk_lattice.specs.Truth.{bool_holds}
use Rattle.sk_lattice.specs.Covers.{val_covers, cell_covers, store_covers}
use Rattle.sk_absfilter.specs.declared.arg.AbsArg.{AbsArg}
use Rattle.sk_absfilter.specs.Arguments.{the_number, the_int, the_ints, the_bool, the_bools, the_val, the_store, the_cell, the_cell_and_val}
use Rattle.sk_absfilter.specs.Abstract.{Outcome, on, on_both, on_all}
use Rattle.sk_absfilter.specs.Laws.{ArgCovers, outcome_covers}
use Rattle.sk_absfilter.proofs.Beside.{beside_one, beside_two, beside_three}

-- each of a list of results is covered
abbrev pub Covered : {D : Type 0} → Domain D → Outcome D → List Values → Type 0
Covered d o = AllByRecursion (λ t. outcome_covers d o t ≡ true)

module _ (D : Type 0) (d : Domain D) (P : AbsArg D → Type 0) where
  number_arg : (z : ℤ) → ((y : ℤ) → y ≡ z → P (AbsArg.Number y)) → (a : AbsArg D) → ArgCovers d a (Arg.Number z) → P a
  number_arg z k (AbsArg.Number y) h = k y h
  number_arg z k (AbsArg.Name n) h = absurd h
  number_arg z k (AbsArg.Flow a) h = absurd h

  name_arg : (n : ℕ) → ((m : ℕ) → m ≡ n → P (AbsArg.Name m)) → (a : AbsArg D) → ArgCovers d a (Arg.Name n) → P a
  name_arg n k (AbsArg.Number z) h = absurd h
  name_arg n k (AbsArg.Name m) h = k m h
  name_arg n k (AbsArg.Flow a) h = absurd h

  int_arg : (n : ℤ) → ((x : D) → d.holds x n ≡ true → P (AbsArg.Flow (flow.Int x))) → (a : AbsArg D) → ArgCovers d a (Arg.Flow (concrete.Int n)) → P a
  int_arg n k (AbsArg.Number z) h = absurd h
  int_arg n k (AbsArg.Name m) h = absurd h
  int_arg n k (AbsArg.Flow (flow.Int x)) h = k x h
  int_arg n k (AbsArg.Flow (flow.Bool x)) h = absurd (false≢true h)
  int_arg n k (AbsArg.Flow (flow.Val x)) h = absurd (false≢true h)
  int_arg n k (AbsArg.Flow (flow.Store x)) h = absurd (false≢true h)

  bool_arg : (t : Bool) → ((x : AbsBool) → bool_holds x t ≡ true → P (AbsArg.Flow (flow.Bool x))) → (a : AbsArg D) → ArgCovers d a (Arg.Flow (concrete.Bool t)) → P a
  bool_arg t k (AbsArg.Number z) h = absurd h
  bool_arg t k (AbsArg.Name m) h = absurd h
  bool_arg t k (AbsArg.Flow (flow.Int x)) h = absurd (false≢true h)
  bool_arg t k (AbsArg.Flow (flow.Bool x)) h = k x h
  bool_arg t k (AbsArg.Flow (flow.Val x)) h = absurd (false≢true h)
  bool_arg t k (AbsArg.Flow (flow.Store x)) h = absurd (false≢true h)

  val_arg : (v : Value) → ((x : AbsVal D) → val_covers d x v ≡ true → P (AbsArg.Flow (flow.Val x))) → (a : AbsArg D) → ArgCovers d a (Arg.Flow (concrete.Val v)) → P a
  val_arg v k (AbsArg.Number z) h = absurd h
  val_arg v k (AbsArg.Name m) h = absurd h
  val_arg v k (AbsArg.Flow (flow.Int x)) h = absurd (false≢true h)
  val_arg v k (AbsArg.Flow (flow.Bool x)) h = absurd (false≢true h)
  val_arg v k (AbsArg.Flow (flow.Val x)) h = k x h
  val_arg v k (AbsArg.Flow (flow.Store x)) h = absurd (false≢true h)

  store_arg : (s : State) → ((x : AbsStore D) → store_covers d x s ≡ true → P (AbsArg.Flow (flow.Store x))) → (a : AbsArg D) → ArgCovers d a (Arg.Flow (concrete.Store s)) → P a
  store_arg s k (AbsArg.Number z) h = absurd h
  store_arg s k (AbsArg.Name m) h = absurd h
  store_arg s k (AbsArg.Flow (flow.Int x)) h = absurd (false≢true h)
  store_arg s k (AbsArg.Flow (flow.Bool x)) h = absurd (false≢true h)
  store_arg s k (AbsArg.Flow (flow.Val x)) h = absurd (false≢true h)
  store_arg s k (AbsArg.Flow (flow.Store x)) h = k x h

  cells_arg : (s : State) → ((cells : List (AbsCell D)) → pointwise (cell_covers d) cells s ≡ true → P (AbsArg.Flow (flow.Store (Cells cells)))) → (a : AbsArg D) → ArgCovers d a (Arg.Flow (concrete.Store s)) → P a
  cells_arg s k a h = store_arg s (λ x. of_store x) a h where
    of_store : (x : AbsStore D) → store_covers d x s ≡ true → P (AbsArg.Flow (flow.Store x))
    of_store Empty h = absurd (false≢true h)
    of_store (Cells cells) h = k cells h

module _ (D : Type 0) (d : Domain D) where
  pub number_covered : (f : ℤ → Outcome D) (g : ℤ → List Values) → ((z : ℤ) → Covered d (f z) (g z)) → (args : List (AbsArg D)) (values : List Arg) → AllZip (ArgCovers d) args values → Covered d (on (the_number args) f) (results.on (arguments.the_number values) g)
  number_covered f g step args (Arg.Number z ∷ []) h =
      beside_one (ArgCovers d) (λ xs. Covered d (on (the_number xs) f) (g z)) (Arg.Number z)
      (number_arg D d (λ a. Covered d (on (the_number (a ∷ [])) f) (g z)) z (λ y e. subst (λ w. Covered d (f w) (g z)) (sym e) (step z))) args h
  number_covered f g step args _ h = tt

  pub int_covered : (f : D → Outcome D) (g : ℤ → List Values) → ((a : D) (m : ℤ) → d.holds a m ≡ true → Covered d (f a) (g m)) → (args : List (AbsArg D)) (values : List Arg) → AllZip (ArgCovers d) args values → Covered d (on (the_int args) f) (results.on (arguments.the_int values) g)
  int_covered f g step args (Arg.Flow (concrete.Int m) ∷ []) h =
      beside_one (ArgCovers d) (λ xs. Covered d (on (the_int xs) f) (g m)) (Arg.Flow (concrete.Int m))
      (int_arg D d (λ a. Covered d (on (the_int (a ∷ [])) f) (g m)) m (λ a h. step a m h)) args h
  int_covered f g step args _ h = tt

  pub ints_covered : (f : D → D → Outcome D) (g : ℤ → ℤ → List Values) → ((a b : D) (m n : ℤ) → d.holds a m ≡ true → d.holds b n ≡ true → Covered d (f a b) (g m n)) → (args : List (AbsArg D)) (values : List Arg) → AllZip (ArgCovers d) args values → Covered d (on_both (the_ints args) f) (results.on_both (arguments.the_ints values) g)
  ints_covered f g step args (Arg.Flow (concrete.Int m) ∷ Arg.Flow (concrete.Int n) ∷ []) h =
      beside_two (ArgCovers d) (λ xs. Covered d (on_both (the_ints xs) f) (g m n)) (Arg.Flow (concrete.Int m)) (Arg.Flow (concrete.Int n))
      (λ u v p q. int_arg D d (λ a. Covered d (on_both (the_ints (a ∷ v ∷ [])) f) (g m n)) m
      (λ a h. int_arg D d (λ b. Covered d (on_both (the_ints (AbsArg.Flow (flow.Int a) ∷ b ∷ [])) f) (g m n)) n (λ b k. step a b m n h k) v q) u p) args h
  ints_covered f g step args _ h = tt

  pub bool_covered : (f : AbsBool → Outcome D) (g : Bool → List Values) → ((a : AbsBool) (t : Bool) → bool_holds a t ≡ true → Covered d (f a) (g t)) → (args : List (AbsArg D)) (values : List Arg) → AllZip (ArgCovers d) args values → Covered d (on (the_bool args) f) (results.on (arguments.the_bool values) g)
  bool_covered f g step args (Arg.Flow (concrete.Bool t) ∷ []) h =
      beside_one (ArgCovers d) (λ xs. Covered d (on (the_bool xs) f) (g t)) (Arg.Flow (concrete.Bool t))
      (bool_arg D d (λ a. Covered d (on (the_bool (a ∷ [])) f) (g t)) t (λ a h. step a t h)) args h
  bool_covered f g step args _ h = tt

  pub bools_covered : (f : AbsBool → AbsBool → Outcome D) (g : Bool → Bool → List Values) → ((a b : AbsBool) (s t : Bool) → bool_holds a s ≡ true → bool_holds b t ≡ true → Covered d (f a b) (g s t)) → (args : List (AbsArg D)) (values : List Arg) → AllZip (ArgCovers d) args values → Covered d (on_both (the_bools args) f) (results.on_both (arguments.the_bools values) g)
  bools_covered f g step args (Arg.Flow (concrete.Bool s) ∷ Arg.Flow (concrete.Bool t) ∷ []) h =
      beside_two (ArgCovers d) (λ xs. Covered d (on_both (the_bools xs) f) (g s t)) (Arg.Flow (concrete.Bool s)) (Arg.Flow (concrete.Bool t))
      (λ u v p q. bool_arg D d (λ a. Covered d (on_both (the_bools (a ∷ v ∷ [])) f) (g s t)) s
      (λ a h. bool_arg D d (λ b. Covered d (on_both (the_bools (AbsArg.Flow (flow.Bool a) ∷ b ∷ [])) f) (g s t)) t (λ b k. step a b s t h k) v q) u p) args h
  bools_covered f g step args _ h = tt

  pub val_covered : (f : AbsVal D → Outcome D) (g : Value → List Values) → ((a : AbsVal D) (v : Value) → val_covers d a v ≡ true → Covered d (f a) (g v)) → (args : List (AbsArg D)) (values : List Arg) → AllZip (ArgCovers d) args values → Covered d (on (the_val args) f) (results.on (arguments.the_val values) g)
  val_covered f g step args (Arg.Flow (concrete.Val v) ∷ []) h =
      beside_one (ArgCovers d) (λ xs. Covered d (on (the_val xs) f) (g v)) (Arg.Flow (concrete.Val v))
      (val_arg D d (λ a. Covered d (on (the_val (a ∷ [])) f) (g v)) v (λ a h. step a v h)) args h
  val_covered f g step args _ h = tt

  pub store_covered : (f : AbsStore D → Outcome D) (g : State → List Values) → ((a : AbsStore D) (s : State) → store_covers d a s ≡ true → Covered d (f a) (g s)) → (args : List (AbsArg D)) (values : List Arg) → AllZip (ArgCovers d) args values → Covered d (on (the_store args) f) (results.on (arguments.the_store values) g)
  store_covered f g step args (Arg.Flow (concrete.Store s) ∷ []) h =
      beside_one (ArgCovers d) (λ xs. Covered d (on (the_store xs) f) (g s)) (Arg.Flow (concrete.Store s))
      (store_arg D d (λ a. Covered d (on (the_store (a ∷ [])) f) (g s)) s (λ a h. step a s h)) args h
  store_covered f g step args _ h = tt

  pub cell_covered : (f : List (AbsCell D) → ℕ → Outcome D) (g : State → ℕ → List Values) → ((cells : List (AbsCell D)) (s : State) (n : ℕ) → pointwise (cell_covers d) cells s ≡ true → Covered d (f cells n) (g s n)) → (args : List (AbsArg D)) (values : List Arg) → AllZip (ArgCovers d) args values → Covered d (on_both (the_cell args) f) (results.on_both (arguments.the_cell values) g)
  cell_covered f g step args (Arg.Flow (concrete.Store s) ∷ Arg.Name n ∷ []) h =
      beside_two (ArgCovers d) (λ xs. Covered d (on_both (the_cell xs) f) (g s n)) (Arg.Flow (concrete.Store s)) (Arg.Name n)
      (λ u v p q. cells_arg D d (λ a. Covered d (on_both (the_cell (a ∷ v ∷ [])) f) (g s n)) s
      (λ cells c. name_arg D d (λ b. Covered d (on_both (the_cell (AbsArg.Flow (flow.Store (Cells cells)) ∷ b ∷ [])) f) (g s n)) n
      (λ m e. subst (λ k. Covered d (f cells k) (g s n)) (sym e) (step cells s n c)) v q) u p) args h
  cell_covered f g step args _ h = tt

  pub cell_and_val_covered : (f : List (AbsCell D) → ℕ → AbsVal D → Outcome D) (g : State → ℕ → Value → List Values) → ((cells : List (AbsCell D)) (s : State) (n : ℕ) (a : AbsVal D) (v : Value) → pointwise (cell_covers d) cells s ≡ true → val_covers d a v ≡ true → Covered d (f cells n a) (g s n v)) → (args : List (AbsArg D)) (values : List Arg) → AllZip (ArgCovers d) args values → Covered d (on_all (the_cell_and_val args) f) (results.on_all (arguments.the_cell_and_val values) g)
  cell_and_val_covered f g step args (Arg.Flow (concrete.Store s) ∷ Arg.Name n ∷ Arg.Flow (concrete.Val v) ∷ []) h =
      beside_three (ArgCovers d) (λ xs. Covered d (on_all (the_cell_and_val xs) f) (g s n v)) (Arg.Flow (concrete.Store s)) (Arg.Name n) (Arg.Flow (concrete.Val v))
      (λ x y z p q r. cells_arg D d (λ a. Covered d (on_all (the_cell_and_val (a ∷ y ∷ z ∷ [])) f) (g s n v)) s
      (λ cells c. name_arg D d (λ b. Covered d (on_all (the_cell_and_val (AbsArg.Flow (flow.Store (Cells cells)) ∷ b ∷ z ∷ [])) f) (g s n v)) n
      (λ m e. val_arg D d (λ w. Covered d (on_all (the_cell_and_val (AbsArg.Flow (flow.Store (Cells cells)) ∷ AbsArg.Name m ∷ w ∷ [])) f) (g s n v)) v
      (λ a k. subst (λ k. Covered d (f cells k a) (g s n v)) (sym e) (step cells s n a v c k)) z r) y q) x p) args h
  cell_and_val_covered f g step args _ h = tt
