-- On arguments of the sorts that a filter takes, its abstract result has the sorts that it gives.
use Rattle.std.proofs.Common.{◌≡◌, ℕ, Bool, true, false, List, [], ◌∷◌, length, nat_eq, Option, Some, None, refl, ◌∙◌}
use Rattle.std.specs.Prelude.{slice_set}
use Rattle.std.specs.List.{list_all}
use Rattle.std.specs.Option.{option_and_then}
use Rattle.std.proofs.lemmas.Bool.{and_parts, and_from, cond_both, eq-eqb, eqb-true}
use Rattle.std.proofs.lemmas.List.{length-set, length-replicate}
use Rattle.sk_base.specs.declared.flow.FlowSort.TheVariants.{Val, Store}
use Rattle.sk_def.specs.declared.filter.Filter.{Filter}
use Rattle.sk_def.specs.declared.filter.Filter.TheVariants as filter
use Rattle.sk_def.specs.declared.sorts.VarSort.{VarSort}
use Rattle.sk_def.specs.Signatures.{parameters, results}
use Rattle.sk_lattice.specs.declared.value.AbsVal.{AbsVal}
use Rattle.sk_lattice.specs.declared.cell.AbsCell.{AbsCell}
use Rattle.sk_lattice.specs.declared.store.AbsStore.{AbsStore}
use Rattle.sk_lattice.specs.declared.store.AbsStore.TheVariants.{Cells}
use Rattle.sk_lattice.specs.declared.flow.AbsFlow.TheVariants as flow
use Rattle.sk_lattice.specs.Domain.{Domain}
use Rattle.sk_lattice.specs.Empty.{is_proper}
use Rattle.sk_lattice.specs.Padding.{unset_cell}
use Rattle.sk_lattice.specs.Shapes.{flow_has_sort}
use Rattle.sk_absfilter.specs.declared.arg.AbsArg.{AbsArg}
use Rattle.sk_absfilter.specs.Arguments.{the_number, the_int, the_ints, the_bool, the_bools, the_val, the_store, the_cell, the_cell_and_val}
use Rattle.sk_absfilter.specs.Abstract.{Outcome, passing, set_cell, on, on_both, on_all, raw_result, arg_is_proper, proper_tuple}
use Rattle.sk_absfilter.specs.Fits.{args_have_sorts, outcome_has_sorts, FiltersKeepSorts}

set_long : {A : Type 0} (xs : List A) (at : ℕ) (x : A) (names : ℕ) → nat_eq (length xs) names ≡ true → nat_eq (length (slice_set xs at x)) names ≡ true
set_long xs at x names h = eq-eqb _ _ (length-set xs at x ∙ eqb-true _ _ h)

module _ (D : Type 0) (d : Domain D) (names : ℕ) where
  abbrev Fits : List VarSort → Outcome D → Type 0
  Fits sorts o = outcome_has_sorts names sorts o ≡ true

  on_fits : {X : Type 0} (sorts : List VarSort) (f : X → Outcome D) → ((x : X) → Fits sorts (f x)) → (given : Option X) → Fits sorts (on given f)
  on_fits sorts f step None = refl
  on_fits sorts f step (Some x) = step x

  passing_fits : (holds : Bool) → Fits [] (passing holds)
  passing_fits true = refl
  passing_fits false = refl

  store_fits : (args : List (AbsArg D)) → args_have_sorts names (VarSort.Flow Store ∷ []) args ≡ true → (sorts : List VarSort) (f : AbsStore D → Outcome D) → ((s : AbsStore D) → flow_has_sort names Store (flow.Store s) ≡ true → Fits sorts (f s)) → Fits sorts (on (the_store args) f)
  store_fits (AbsArg.Flow (flow.Store s) ∷ []) h sorts f step = step s (and_parts _ _ h).0
  store_fits _ h sorts f step = refl

  cell_fits : (args : List (AbsArg D)) → args_have_sorts names (VarSort.Flow Store ∷ VarSort.Name ∷ []) args ≡ true → (sorts : List VarSort) (f : List (AbsCell D) → ℕ → Outcome D) → ((cells : List (AbsCell D)) (n : ℕ) → nat_eq (length cells) names ≡ true → Fits sorts (f cells n)) → Fits sorts (on_both (the_cell args) f)
  cell_fits (AbsArg.Flow (flow.Store (Cells cells)) ∷ AbsArg.Name n ∷ []) h sorts f step = step cells n (and_parts _ _ h).0
  cell_fits _ h sorts f step = refl

  cell_and_val_fits : (args : List (AbsArg D)) → args_have_sorts names (VarSort.Flow Store ∷ VarSort.Name ∷ VarSort.Flow Val ∷ []) args ≡ true → (sorts : List VarSort) (f : List (AbsCell D) → ℕ → AbsVal D → Outcome D) → ((cells : List (AbsCell D)) (n : ℕ) (v : AbsVal D) → nat_eq (length cells) names ≡ true → Fits sorts (f cells n v)) → Fits sorts (on_all (the_cell_and_val args) f)
  cell_and_val_fits (AbsArg.Flow (flow.Store (Cells cells)) ∷ AbsArg.Name n ∷ AbsArg.Flow (flow.Val v) ∷ []) h sorts f step = step cells n v (and_parts _ _ h).0
  cell_and_val_fits _ h sorts f step = refl

  raw_fits : (filter : Filter) (args : List (AbsArg D)) → args_have_sorts names (parameters filter) args ≡ true → Fits (results filter) (raw_result d filter names args)
  raw_fits Filter.Lit args h = on_fits (results filter.Lit) _ (λ z. refl) (the_number args)
  raw_fits Filter.Zero args h = refl
  raw_fits Filter.One args h = refl
  raw_fits Filter.Yes args h = refl
  raw_fits Filter.No args h = refl
  raw_fits Filter.Add args h = on_fits (results filter.Add) _ (λ p. refl) (the_ints args)
  raw_fits Filter.Sub args h = on_fits (results filter.Sub) _ (λ p. refl) (the_ints args)
  raw_fits Filter.Mul args h = on_fits (results filter.Mul) _ (λ p. refl) (the_ints args)
  raw_fits Filter.Neg args h = on_fits (results filter.Neg) _ (λ a. refl) (the_int args)
  raw_fits Filter.Div args h = on_fits (results filter.Div) _ (λ p. refl) (the_ints args)
  raw_fits Filter.Rem args h = on_fits (results filter.Rem) _ (λ p. refl) (the_ints args)
  raw_fits Filter.Lt args h = on_fits (results filter.Lt) _ (λ p. refl) (the_ints args)
  raw_fits Filter.Le args h = on_fits (results filter.Le) _ (λ p. refl) (the_ints args)
  raw_fits Filter.Eq args h = on_fits (results filter.Eq) _ (λ p. refl) (the_ints args)
  raw_fits Filter.Not args h = on_fits (results filter.Not) _ (λ a. refl) (the_bool args)
  raw_fits Filter.And args h = on_fits (results filter.And) _ (λ p. refl) (the_bools args)
  raw_fits Filter.Or args h = on_fits (results filter.Or) _ (λ p. refl) (the_bools args)
  raw_fits Filter.IsTrue args h = on_fits (results filter.IsTrue) _ (λ a. passing_fits _) (the_bool args)
  raw_fits Filter.IsFalse args h = on_fits (results filter.IsFalse) _ (λ a. passing_fits _) (the_bool args)
  raw_fits Filter.IsZero args h = on_fits (results filter.IsZero) _ (λ a. passing_fits _) (the_int args)
  raw_fits Filter.NonZero args h = on_fits (results filter.NonZero) _ (λ a. passing_fits _) (the_int args)
  raw_fits Filter.IsPos args h = on_fits (results filter.IsPos) _ (λ a. passing_fits _) (the_int args)
  raw_fits Filter.IsNeg args h = on_fits (results filter.IsNeg) _ (λ a. passing_fits _) (the_int args)
  raw_fits Filter.Below args h = on_fits (results filter.Below) _ (λ p. refl) (the_ints args)
  raw_fits Filter.AtLeast args h = on_fits (results filter.AtLeast) _ (λ p. refl) (the_ints args)
  raw_fits Filter.Same args h = on_fits (results filter.Same) _ (λ p. refl) (the_ints args)
  raw_fits Filter.Differ args h = on_fits (results filter.Differ) _ (λ p. refl) (the_ints args)
  raw_fits Filter.OfInt args h = on_fits (results filter.OfInt) _ (λ a. refl) (the_int args)
  raw_fits Filter.OfBool args h = on_fits (results filter.OfBool) _ (λ a. refl) (the_bool args)
  raw_fits Filter.AsInt args h = on_fits (results filter.AsInt) _ (λ v. refl) (the_val args)
  raw_fits Filter.AsBool args h = on_fits (results filter.AsBool) _ (λ v. refl) (the_val args)
  raw_fits Filter.Empty args h = and_from _ _ (eq-eqb _ _ (length-replicate names (unset_cell d))) refl
  raw_fits Filter.Read args h = on_fits (results filter.Read) _ (λ p. refl) (the_cell args)
  raw_fits Filter.Write args h = cell_and_val_fits args h (results filter.Write) _ (λ cells n v e. and_from _ _ (set_long cells n (set_cell v) names e) refl)
  raw_fits Filter.Forget args h = cell_fits args h (results filter.Forget) _ (λ cells n e. and_from _ _ (set_long cells n (unset_cell d) names e) refl)
  raw_fits Filter.Bound args h = on_fits (results filter.Bound) _ (λ p. refl) (the_cell args)
  raw_fits Filter.KeepInt args h = on_fits (results filter.KeepInt) _ (λ a. refl) (the_int args)
  raw_fits Filter.KeepBool args h = on_fits (results filter.KeepBool) _ (λ a. refl) (the_bool args)
  raw_fits Filter.KeepVal args h = on_fits (results filter.KeepVal) _ (λ v. refl) (the_val args)
  raw_fits Filter.KeepStore args h = store_fits args h (results filter.KeepStore) _ (λ s e. and_from _ _ e refl)
  raw_fits Filter.AnyBool args h = refl
  raw_fits Filter.Pick args h = on_fits (results filter.Pick) _ (λ p. refl) (the_ints args)

  kept_fits : (sorts : List VarSort) (o : Outcome D) → Fits sorts o → Fits sorts (option_and_then (proper_tuple d) o)
  kept_fits sorts None h = refl
  kept_fits sorts (Some a) h = cond_both (is_proper d a) (Some a) None (Fits sorts) (λ _. h) (λ _. refl)

pub sorts_kept : (D : Type 0) (d : Domain D) → FiltersKeepSorts d
sorts_kept D d filter names args h =
    cond_both (list_all (arg_is_proper d) args) (option_and_then (proper_tuple d) (raw_result d filter names args)) None (Fits D d names (results filter))
    (λ _. kept_fits D d names (results filter) (raw_result d filter names args) (raw_fits D d names filter args h)) (λ _. refl)
