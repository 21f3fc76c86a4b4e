-- A filter's abstract result has as many values as the filter has results.
use Rattle.std.proofs.Common.{◌≡◌, ℕ, Bool, List, [], length, Option, Some, None, refl}
use Rattle.std.specs.List.{list_all}
use Rattle.std.specs.Option.{option_and_then}
use Rattle.std.proofs.lemmas.Bool.{cond_both}
use Rattle.sk_def.specs.declared.filter.Filter.{Filter}
use Rattle.sk_def.specs.declared.filter.Filter.TheVariants as filter
use Rattle.sk_def.specs.Signatures.{results}
use Rattle.sk_lattice.specs.Domain.{Domain}
use Rattle.sk_lattice.specs.Empty.{is_proper}
use Rattle.sk_absfilter.specs.declared.arg.AbsArg.{AbsArg}
use Rattle.sk_absfilter.specs.Arguments.{the_number, the_int, the_ints, the_bool, the_bools, the_val, the_store, the_cell, the_cell_and_val}
use Rattle.sk_absfilter.specs.Abstract.{Outcome, on, on_both, on_all, passing, raw_result, arg_is_proper, proper_tuple, abstract_result}
use Rattle.sk_abswalk.specs.Walk.{Flows}
use Rattle.sk_agree.proofs.Relations.{IfThere}

passing_long : (D : Type 0) (n : ℕ) (b : Bool) → 0 ≡ n → IfThere (λ (l : Flows D). length l ≡ n) (passing b)
passing_long D n b h = cond_both b (Some []) None (IfThere (λ (l : Flows D). length l ≡ n)) (λ _. h) (λ _. tt)

module _ {D : Type 0} (n : ℕ) where
  -- so many values, where there is a tuple
  abbrev pub IsLong : Outcome D → Type 0
  IsLong = IfThere (λ (l : Flows D). length l ≡ n)

  on_long : {X : Type 0} (given : Option X) (f : X → Outcome D) → ((x : X) → IsLong (f x)) → IsLong (on given f)
  on_long None f h = tt
  on_long (Some x) f h = h x

  on_both_long : {X Y : Type 0} (given : Option (X × Y)) (f : X → Y → Outcome D) → ((x : X) (y : Y) → IsLong (f x y)) → IsLong (on_both given f)
  on_both_long None f h = tt
  on_both_long (Some p) f h = h p.0 p.1

  on_all_long : {X Y Z : Type 0} (given : Option (X × Y × Z)) (f : X → Y → Z → Outcome D) → ((x : X) (y : Y) (z : Z) → IsLong (f x y z)) → IsLong (on_all given f)
  on_all_long None f h = tt
  on_all_long (Some p) f h = h p.0 p.1 p.2

  proper_long : (d : Domain D) (o : Outcome D) → IsLong o → IsLong (option_and_then (proper_tuple d) o)
  proper_long d None h = tt
  proper_long d (Some a) h = cond_both (is_proper d a) (Some a) None IsLong (λ _. h) (λ _. tt)

module _ (D : Type 0) (d : Domain D) (names : ℕ) where
  raw_long : (filter : Filter) (args : List (AbsArg D)) → IsLong {D = D} (length (results filter)) (raw_result d filter names args)
  raw_long Filter.Lit args = on_long (length (results filter.Lit)) (the_number args) _ (λ _. refl)
  raw_long Filter.Zero args = refl
  raw_long Filter.One args = refl
  raw_long Filter.Yes args = refl
  raw_long Filter.No args = refl
  raw_long Filter.Add args = on_both_long (length (results filter.Add)) (the_ints args) _ (λ _ _. refl)
  raw_long Filter.Sub args = on_both_long (length (results filter.Sub)) (the_ints args) _ (λ _ _. refl)
  raw_long Filter.Mul args = on_both_long (length (results filter.Mul)) (the_ints args) _ (λ _ _. refl)
  raw_long Filter.Neg args = on_long (length (results filter.Neg)) (the_int args) _ (λ _. refl)
  raw_long Filter.Div args = on_both_long (length (results filter.Div)) (the_ints args) _ (λ _ _. refl)
  raw_long Filter.Rem args = on_both_long (length (results filter.Rem)) (the_ints args) _ (λ _ _. refl)
  raw_long Filter.Lt args = on_both_long (length (results filter.Lt)) (the_ints args) _ (λ _ _. refl)
  raw_long Filter.Le args = on_both_long (length (results filter.Le)) (the_ints args) _ (λ _ _. refl)
  raw_long Filter.Eq args = on_both_long (length (results filter.Eq)) (the_ints args) _ (λ _ _. refl)
  raw_long Filter.Not args = on_long (length (results filter.Not)) (the_bool args) _ (λ _. refl)
  raw_long Filter.And args = on_both_long (length (results filter.And)) (the_bools args) _ (λ _ _. refl)
  raw_long Filter.Or args = on_both_long (length (results filter.Or)) (the_bools args) _ (λ _ _. refl)
  raw_long Filter.IsTrue args = on_long (length (results filter.IsTrue)) (the_bool args) _ (λ a. passing_long D 0 _ refl)
  raw_long Filter.IsFalse args = on_long (length (results filter.IsFalse)) (the_bool args) _ (λ a. passing_long D 0 _ refl)
  raw_long Filter.IsZero args = on_long (length (results filter.IsZero)) (the_int args) _ (λ a. passing_long D 0 _ refl)
  raw_long Filter.NonZero args = on_long (length (results filter.NonZero)) (the_int args) _ (λ a. passing_long D 0 _ refl)
  raw_long Filter.IsPos args = on_long (length (results filter.IsPos)) (the_int args) _ (λ a. passing_long D 0 _ refl)
  raw_long Filter.IsNeg args = on_long (length (results filter.IsNeg)) (the_int args) _ (λ a. passing_long D 0 _ refl)
  raw_long Filter.Below args = on_both_long (length (results filter.Below)) (the_ints args) _ (λ _ _. refl)
  raw_long Filter.AtLeast args = on_both_long (length (results filter.AtLeast)) (the_ints args) _ (λ _ _. refl)
  raw_long Filter.Same args = on_both_long (length (results filter.Same)) (the_ints args) _ (λ _ _. refl)
  raw_long Filter.Differ args = on_both_long (length (results filter.Differ)) (the_ints args) _ (λ _ _. refl)
  raw_long Filter.OfInt args = on_long (length (results filter.OfInt)) (the_int args) _ (λ _. refl)
  raw_long Filter.OfBool args = on_long (length (results filter.OfBool)) (the_bool args) _ (λ _. refl)
  raw_long Filter.AsInt args = on_long (length (results filter.AsInt)) (the_val args) _ (λ _. refl)
  raw_long Filter.AsBool args = on_long (length (results filter.AsBool)) (the_val args) _ (λ _. refl)
  raw_long Filter.Empty args = refl
  raw_long Filter.Read args = on_both_long (length (results filter.Read)) (the_cell args) _ (λ _ _. refl)
  raw_long Filter.Write args = on_all_long (length (results filter.Write)) (the_cell_and_val args) _ (λ _ _ _. refl)
  raw_long Filter.Forget args = on_both_long (length (results filter.Forget)) (the_cell args) _ (λ _ _. refl)
  raw_long Filter.Bound args = on_both_long (length (results filter.Bound)) (the_cell args) _ (λ _ _. refl)
  raw_long Filter.KeepInt args = on_long (length (results filter.KeepInt)) (the_int args) _ (λ _. refl)
  raw_long Filter.KeepBool args = on_long (length (results filter.KeepBool)) (the_bool args) _ (λ _. refl)
  raw_long Filter.KeepVal args = on_long (length (results filter.KeepVal)) (the_val args) _ (λ _. refl)
  raw_long Filter.KeepStore args = on_long (length (results filter.KeepStore)) (the_store args) _ (λ _. refl)
  raw_long Filter.AnyBool args = refl
  raw_long Filter.Pick args = on_both_long (length (results filter.Pick)) (the_ints args) _ (λ _ _. refl)

  pub filter_long : (filter : Filter) (args : List (AbsArg D)) → IsLong {D = D} (length (results filter)) (abstract_result d filter names args)
  filter_long filter args =
      cond_both (list_all (arg_is_proper d) args) (option_and_then (proper_tuple d) (raw_result d filter names args)) None (IsLong {D = D} (length (results filter)))
      (λ _. proper_long (length (results filter)) d (raw_result d filter names args) (raw_long filter args)) (λ _. tt)
