-- The abstract results of filters have the sorts of their results.
use Rattle.std.proofs.Common.{◌≡◌, ℕ, Bool, true, List, [], ◌∷◌, length, Option, Some, None, refl, ◌∙◌}
use Rattle.std.specs.Prelude.{nat_eq, replicate, slice_set}
use Rattle.std.specs.List.{AllZip, list_all}
use Rattle.std.specs.Option.{option_and_then}
use Rattle.std.proofs.lemmas.Bool.{cond_both, eq-eqb, eqb-true}
use Rattle.std.proofs.lemmas.List.{length-set, length-replicate}
use Rattle.sk_def.specs.declared.filter.Filter.{Filter}
use Rattle.sk_def.specs.declared.filter.Filter.TheVariants as the
use Rattle.sk_def.specs.declared.sorts.VarSort.{VarSort}
use Rattle.sk_def.specs.declared.sorts.VarSort.TheVariants as variable
use Rattle.sk_def.specs.Signatures.{parameters, results}
use Rattle.sk_lattice.specs.declared.cell.AbsCell.{AbsCell}
use Rattle.sk_lattice.specs.declared.store.AbsStore.TheVariants.{Cells}
use Rattle.sk_lattice.specs.declared.flow.AbsFlow.{AbsFlow}
use Rattle.sk_lattice.specs.declared.flow.AbsFlow.TheVariants as flow
use Rattle.sk_lattice.specs.Domain.{Domain}
use Rattle.sk_lattice.specs.Padding.{unset_cell}
use Rattle.sk_lattice.specs.Empty.{is_proper}
use Rattle.sk_lattice.specs.Shapes.{flow_has_sort}
use Rattle.sk_absfilter.specs.declared.arg.AbsArg.{AbsArg}
use Rattle.sk_absfilter.specs.Arguments.{the_number, the_int, the_ints, the_bool, the_bools, the_val, the_cell}
use Rattle.sk_absfilter.specs.Abstract.{Outcome, arg_is_proper, proper_tuple, raw_result, abstract_result, on, on_both, passing, set_cell}
use Rattle.sk_abswalk.specs.Walk.{Flows}
use Rattle.sk_abswalk.proofs.Relations.{IfThere}

-- a value has the sort of a variable, and values have such sorts, one for each
abbrev pub FlowFits : {D : Type 0} → ℕ → VarSort → AbsFlow D → Type 0
FlowFits names variable.Number a = ⊥
FlowFits names variable.Name a = ⊥
FlowFits names (variable.Term t) a = ⊥
FlowFits names (variable.Flow s) a = flow_has_sort names s a ≡ true

abbrev pub FlowsFit : {D : Type 0} → ℕ → List VarSort → Flows D → Type 0
FlowsFit names = AllZip (FlowFits names)

-- so has an argument
abbrev pub ArgFits : {D : Type 0} → ℕ → VarSort → AbsArg D → Type 0
ArgFits names variable.Number (AbsArg.Number z) = Unit {0}
ArgFits names variable.Name (AbsArg.Name n) = Unit {0}
ArgFits names (variable.Flow s) (AbsArg.Flow a) = flow_has_sort names s a ≡ true
ArgFits names _ _ = ⊥

module _ {D : Type 0} (P : Flows D → Type 0) where
  if_on : {X : Type 0} (given : Option X) (f : X → Outcome D) → ((x : X) → IfThere P (f x)) → IfThere P (on given f)
  if_on None f h = tt
  if_on (Some x) f h = h x

  if_on_both : {X Y : Type 0} (given : Option (X × Y)) (f : X → Y → Outcome D) → ((x : X) (y : Y) → IfThere P (f x y)) → IfThere P (on_both given f)
  if_on_both None f h = tt
  if_on_both (Some p) f h = h p.0 p.1

  if_passing : (b : Bool) → P [] → IfThere P (passing b)
  if_passing b h = cond_both b (Some []) None (IfThere P) (λ _. h) (λ _. tt)

module _ (D : Type 0) (d : Domain D) (names : ℕ) where
  cells_fit : (cells : List (AbsCell D)) → length cells ≡ names → nat_eq (length cells) names ≡ true
  cells_fit cells e = eq-eqb (length cells) names e

  written : (args : List (AbsArg D)) → AllZip (ArgFits names) (parameters Filter.Write) args → IfThere (FlowsFit names (results Filter.Write)) (raw_result d Filter.Write names args)
  written (AbsArg.Flow (flow.Store (Cells cells)) ∷ AbsArg.Name n ∷ AbsArg.Flow (flow.Val v) ∷ []) h =
      (cells_fit (slice_set cells n (set_cell v)) (length-set cells n (set_cell v) ∙ eqb-true (length cells) names h.0), tt)
  written _ h = tt

  forgotten : (args : List (AbsArg D)) → AllZip (ArgFits names) (parameters Filter.Forget) args → IfThere (FlowsFit names (results Filter.Forget)) (raw_result d Filter.Forget names args)
  forgotten (AbsArg.Flow (flow.Store (Cells cells)) ∷ AbsArg.Name n ∷ []) h =
      (cells_fit (slice_set cells n (unset_cell d)) (length-set cells n (unset_cell d) ∙ eqb-true (length cells) names h.0), tt)
  forgotten _ h = tt

  kept : (args : List (AbsArg D)) → AllZip (ArgFits names) (parameters Filter.KeepStore) args → IfThere (FlowsFit names (results Filter.KeepStore)) (raw_result d Filter.KeepStore names args)
  kept (AbsArg.Flow (flow.Store s) ∷ []) h = (h.0, tt)
  kept _ h = tt

  raw_fits : (filter : Filter) (args : List (AbsArg D)) → AllZip (ArgFits names) (parameters filter) args → IfThere (FlowsFit names (results filter)) (raw_result d filter names args)
  raw_fits Filter.Lit args h = if_on (FlowsFit names (results Filter.Lit)) (the_number args) _ (λ _. (refl, tt))
  raw_fits Filter.Zero args h = (refl, tt)
  raw_fits Filter.One args h = (refl, tt)
  raw_fits Filter.Yes args h = (refl, tt)
  raw_fits Filter.No args h = (refl, tt)
  raw_fits Filter.Add args h = if_on_both (FlowsFit names (results Filter.Add)) (the_ints args) _ (λ _ _. (refl, tt))
  raw_fits Filter.Sub args h = if_on_both (FlowsFit names (results Filter.Sub)) (the_ints args) _ (λ _ _. (refl, tt))
  raw_fits Filter.Mul args h = if_on_both (FlowsFit names (results Filter.Mul)) (the_ints args) _ (λ _ _. (refl, tt))
  raw_fits Filter.Neg args h = if_on (FlowsFit names (results Filter.Neg)) (the_int args) _ (λ _. (refl, tt))
  raw_fits Filter.Div args h = if_on_both (FlowsFit names (results Filter.Div)) (the_ints args) _ (λ _ _. (refl, tt))
  raw_fits Filter.Rem args h = if_on_both (FlowsFit names (results Filter.Rem)) (the_ints args) _ (λ _ _. (refl, tt))
  raw_fits Filter.Lt args h = if_on_both (FlowsFit names (results Filter.Lt)) (the_ints args) _ (λ _ _. (refl, tt))
  raw_fits Filter.Le args h = if_on_both (FlowsFit names (results Filter.Le)) (the_ints args) _ (λ _ _. (refl, tt))
  raw_fits Filter.Eq args h = if_on_both (FlowsFit names (results Filter.Eq)) (the_ints args) _ (λ _ _. (refl, tt))
  raw_fits Filter.Not args h = if_on (FlowsFit names (results Filter.Not)) (the_bool args) _ (λ _. (refl, tt))
  raw_fits Filter.And args h = if_on_both (FlowsFit names (results Filter.And)) (the_bools args) _ (λ _ _. (refl, tt))
  raw_fits Filter.Or args h = if_on_both (FlowsFit names (results Filter.Or)) (the_bools args) _ (λ _ _. (refl, tt))
  raw_fits Filter.IsTrue args h = if_on (FlowsFit names (results Filter.IsTrue)) (the_bool args) _ (λ a. if_passing (FlowsFit names []) _ tt)
  raw_fits Filter.IsFalse args h = if_on (FlowsFit names (results Filter.IsFalse)) (the_bool args) _ (λ a. if_passing (FlowsFit names []) _ tt)
  raw_fits Filter.IsZero args h = if_on (FlowsFit names (results Filter.IsZero)) (the_int args) _ (λ a. if_passing (FlowsFit names []) _ tt)
  raw_fits Filter.NonZero args h = if_on (FlowsFit names (results Filter.NonZero)) (the_int args) _ (λ a. if_passing (FlowsFit names []) _ tt)
  raw_fits Filter.IsPos args h = if_on (FlowsFit names (results Filter.IsPos)) (the_int args) _ (λ a. if_passing (FlowsFit names []) _ tt)
  raw_fits Filter.IsNeg args h = if_on (FlowsFit names (results Filter.IsNeg)) (the_int args) _ (λ a. if_passing (FlowsFit names []) _ tt)
  raw_fits Filter.Below args h = if_on_both (FlowsFit names (results the.Below)) (the_ints args) _ (λ _ _. (refl, (refl, tt)))
  raw_fits Filter.AtLeast args h = if_on_both (FlowsFit names (results Filter.AtLeast)) (the_ints args) _ (λ _ _. (refl, (refl, tt)))
  raw_fits Filter.Same args h = if_on_both (FlowsFit names (results Filter.Same)) (the_ints args) _ (λ _ _. (refl, (refl, tt)))
  raw_fits Filter.Differ args h = if_on_both (FlowsFit names (results Filter.Differ)) (the_ints args) _ (λ _ _. (refl, (refl, tt)))
  raw_fits Filter.OfInt args h = if_on (FlowsFit names (results Filter.OfInt)) (the_int args) _ (λ _. (refl, tt))
  raw_fits Filter.OfBool args h = if_on (FlowsFit names (results Filter.OfBool)) (the_bool args) _ (λ _. (refl, tt))
  raw_fits Filter.AsInt args h = if_on (FlowsFit names (results Filter.AsInt)) (the_val args) _ (λ _. (refl, tt))
  raw_fits Filter.AsBool args h = if_on (FlowsFit names (results Filter.AsBool)) (the_val args) _ (λ _. (refl, tt))
  raw_fits Filter.Empty args h = (cells_fit (replicate names (unset_cell d)) (length-replicate names (unset_cell d)), tt)
  raw_fits Filter.Read args h = if_on_both (FlowsFit names (results Filter.Read)) (the_cell args) _ (λ _ _. (refl, tt))
  raw_fits Filter.Write args h = written args h
  raw_fits Filter.Forget args h = forgotten args h
  raw_fits Filter.Bound args h = if_on_both (FlowsFit names (results Filter.Bound)) (the_cell args) _ (λ _ _. (refl, tt))
  raw_fits Filter.KeepInt args h = if_on (FlowsFit names (results Filter.KeepInt)) (the_int args) _ (λ _. (refl, tt))
  raw_fits Filter.KeepBool args h = if_on (FlowsFit names (results Filter.KeepBool)) (the_bool args) _ (λ _. (refl, tt))
  raw_fits Filter.KeepVal args h = if_on (FlowsFit names (results Filter.KeepVal)) (the_val args) _ (λ _. (refl, tt))
  raw_fits Filter.KeepStore args h = kept args h
  raw_fits Filter.AnyBool args h = (refl, tt)
  raw_fits Filter.Pick args h = if_on_both (FlowsFit names (results Filter.Pick)) (the_ints args) _ (λ _ _. (refl, tt))

  proper_fits : (P : Flows D → Type 0) (o : Outcome D) → IfThere P o → IfThere P (option_and_then (proper_tuple d) o)
  proper_fits P None h = tt
  proper_fits P (Some a) h = cond_both (is_proper d a) (Some a) None (IfThere P) (λ _. h) (λ _. tt)

  pub filter_fits : (filter : Filter) (args : List (AbsArg D)) → AllZip (ArgFits names) (parameters filter) args → IfThere (FlowsFit names (results filter)) (abstract_result d filter names args)
  filter_fits filter args h =
      cond_both (list_all (arg_is_proper d) args) (option_and_then (proper_tuple d) (raw_result d filter names args)) None (IfThere (FlowsFit names (results filter)))
      (λ _. proper_fits (FlowsFit names (results filter)) (raw_result d filter names args) (raw_fits filter args h)) (λ _. tt)
