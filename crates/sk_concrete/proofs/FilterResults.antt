-- The results of filters are of their sorts.
use Rattle.std.proofs.Common.{◌≡◌, ℕ, ℤ, Bool, true, false, List, [], ◌∷◌, map, Option, Some, None, refl}
use Rattle.std.specs.Prelude.{filter, neg_ℤ}
use Rattle.std.specs.List.{list_all}
use Rattle.sk_def.specs.declared.filter.Filter.{Filter}
use Rattle.sk_def.specs.declared.filter.Filter.TheVariants as the
use Rattle.sk_def.specs.Signatures.{results}
use Rattle.sk_value.specs.declared.value.Value.{Value}
use Rattle.sk_value.specs.declared.flow.Flow.{Flow}
use Rattle.sk_value.specs.declared.arith.Arith.{Arith}
use Rattle.sk_value.specs.Numbers.{is_number, whole_results}
use Rattle.sk_filter.specs.declared.arg.Arg.{Arg}
use Rattle.sk_filter.specs.Arguments.{Values, the_number, the_int, the_ints, the_bool, the_bools, the_val, the_store, the_cell, the_cell_and_val}
use Rattle.sk_filter.specs.Results.{numbers, passing, pair_where, int_in, bool_in, value_at, on, on_both, on_all, results_of}
use Rattle.sk_concrete.proofs.Fitted.{flows_fit}

abbrev AllOf : Filter → List Values → Type 0
AllOf f vss = list_all (flows_fit (map Some (results f))) vss ≡ true

module _ (p : Values → Bool) where
  abbrev All_ : List Values → Type 0
  All_ vss = list_all p vss ≡ true

  all_on : {X : Type 0} (given : Option X) (f : X → List Values) → ((x : X) → All_ (f x)) → All_ (on given f)
  all_on None f h = refl
  all_on (Some x) f h = h x

  all_on_both : {X Y : Type 0} (given : Option (X × Y)) (f : X → Y → List Values) → ((x : X) (y : Y) → All_ (f x y)) → All_ (on_both given f)
  all_on_both None f h = refl
  all_on_both (Some q) f h = h q.0 q.1

  all_on_all : {X Y Z : Type 0} (given : Option (X × Y × Z)) (f : X → Y → Z → List Values) → ((x : X) (y : Y) (z : Z) → All_ (f x y z)) → All_ (on_all given f)
  all_on_all None f h = refl
  all_on_all (Some q) f h = h q.0 q.1 q.2

  all_passing : (b : Bool) → p [] ≡ true → All_ (passing b)
  all_passing true h = rw h refl
  all_passing false h = refl

  all_pair : (b : Bool) (x y : ℤ) → p (Flow.Int x ∷ Flow.Int y ∷ []) ≡ true → All_ (pair_where b x y)
  all_pair true x y h = rw h refl
  all_pair false x y h = refl

  all_listed : (zs : List ℤ) → ((z : ℤ) → p (Flow.Int z ∷ []) ≡ true) → All_ (map (λ z. Flow.Int z ∷ []) zs)
  all_listed [] h = refl
  all_listed (z ∷ zs) h = rw (h z) (all_listed zs h)

  all_numbers : (zs : List ℤ) → ((z : ℤ) → p (Flow.Int z ∷ []) ≡ true) → All_ (numbers zs)
  all_numbers zs h = all_listed (filter is_number zs) h

abbrev fit : Filter → Values → Bool
fit f = flows_fit (map Some (results f))

int_found : (v : Value) → AllOf Filter.AsInt (int_in v)
int_found (Value.Int z) = refl
int_found (Value.Bool b) = refl

bool_found : (v : Value) → AllOf Filter.AsBool (bool_in v)
bool_found (Value.Int z) = refl
bool_found (Value.Bool b) = refl

pub results_fit : (f : Filter) (names : ℕ) (args : List Arg) → list_all (flows_fit (map Some (results f))) (results_of f names args) ≡ true
results_fit Filter.Lit names args = all_on (fit Filter.Lit) (the_number args) _ (λ z. all_numbers (fit Filter.Lit) (z ∷ []) (λ z. refl))
results_fit Filter.Zero names args = refl
results_fit Filter.One names args = refl
results_fit Filter.Yes names args = refl
results_fit Filter.No names args = refl
results_fit Filter.Add names args = all_on_both (fit Filter.Add) (the_ints args) _ (λ a b. all_numbers (fit Filter.Add) (whole_results Arith.Add a b) (λ z. refl))
results_fit Filter.Sub names args = all_on_both (fit Filter.Sub) (the_ints args) _ (λ a b. all_numbers (fit Filter.Sub) (whole_results Arith.Sub a b) (λ z. refl))
results_fit Filter.Mul names args = all_on_both (fit Filter.Mul) (the_ints args) _ (λ a b. all_numbers (fit Filter.Mul) (whole_results Arith.Mul a b) (λ z. refl))
results_fit Filter.Neg names args = all_on (fit Filter.Neg) (the_int args) _ (λ a. all_numbers (fit Filter.Neg) (neg_ℤ a ∷ []) (λ z. refl))
results_fit Filter.Div names args = all_on_both (fit Filter.Div) (the_ints args) _ (λ a b. all_numbers (fit Filter.Div) (whole_results Arith.Div a b) (λ z. refl))
results_fit Filter.Rem names args = all_on_both (fit Filter.Rem) (the_ints args) _ (λ a b. all_numbers (fit Filter.Rem) (whole_results Arith.Rem a b) (λ z. refl))
results_fit Filter.Lt names args = all_on_both (fit Filter.Lt) (the_ints args) _ (λ a b. refl)
results_fit Filter.Le names args = all_on_both (fit Filter.Le) (the_ints args) _ (λ a b. refl)
results_fit Filter.Eq names args = all_on_both (fit Filter.Eq) (the_ints args) _ (λ a b. refl)
results_fit Filter.Not names args = all_on (fit Filter.Not) (the_bool args) _ (λ a. refl)
results_fit Filter.And names args = all_on_both (fit Filter.And) (the_bools args) _ (λ a b. refl)
results_fit Filter.Or names args = all_on_both (fit Filter.Or) (the_bools args) _ (λ a b. refl)
results_fit Filter.IsTrue names args = all_on (fit Filter.IsTrue) (the_bool args) _ (λ a. all_passing (fit Filter.IsTrue) _ refl)
results_fit Filter.IsFalse names args = all_on (fit Filter.IsFalse) (the_bool args) _ (λ a. all_passing (fit Filter.IsFalse) _ refl)
results_fit Filter.IsZero names args = all_on (fit Filter.IsZero) (the_int args) _ (λ a. all_passing (fit Filter.IsZero) _ refl)
results_fit Filter.NonZero names args = all_on (fit Filter.NonZero) (the_int args) _ (λ a. all_passing (fit Filter.NonZero) _ refl)
results_fit Filter.IsPos names args = all_on (fit Filter.IsPos) (the_int args) _ (λ a. all_passing (fit Filter.IsPos) _ refl)
results_fit Filter.IsNeg names args = all_on (fit Filter.IsNeg) (the_int args) _ (λ a. all_passing (fit Filter.IsNeg) _ refl)
results_fit Filter.Below names args = all_on_both (fit the.Below) (the_ints args) _ (λ a b. all_pair (fit the.Below) _ a b refl)
results_fit Filter.AtLeast names args = all_on_both (fit Filter.AtLeast) (the_ints args) _ (λ a b. all_pair (fit Filter.AtLeast) _ a b refl)
results_fit Filter.Same names args = all_on_both (fit Filter.Same) (the_ints args) _ (λ a b. all_pair (fit Filter.Same) _ a b refl)
results_fit Filter.Differ names args = all_on_both (fit Filter.Differ) (the_ints args) _ (λ a b. all_pair (fit Filter.Differ) _ a b refl)
results_fit Filter.OfInt names args = all_on (fit Filter.OfInt) (the_int args) _ (λ a. refl)
results_fit Filter.OfBool names args = all_on (fit Filter.OfBool) (the_bool args) _ (λ a. refl)
results_fit Filter.AsInt names args = all_on (fit Filter.AsInt) (the_val args) _ int_found
results_fit Filter.AsBool names args = all_on (fit Filter.AsBool) (the_val args) _ bool_found
results_fit Filter.Empty names args = refl
results_fit Filter.Read names args = all_on_both (fit Filter.Read) (the_cell args) _ (λ s n. all_on (fit Filter.Read) (value_at s n) _ (λ v. refl))
results_fit Filter.Write names args = all_on_all (fit Filter.Write) (the_cell_and_val args) _ (λ s n v. refl)
results_fit Filter.Forget names args = all_on_both (fit Filter.Forget) (the_cell args) _ (λ s n. refl)
results_fit Filter.Bound names args = all_on_both (fit Filter.Bound) (the_cell args) _ (λ s n. refl)
results_fit Filter.KeepInt names args = all_on (fit Filter.KeepInt) (the_int args) _ (λ a. refl)
results_fit Filter.KeepBool names args = all_on (fit Filter.KeepBool) (the_bool args) _ (λ a. refl)
results_fit Filter.KeepVal names args = all_on (fit Filter.KeepVal) (the_val args) _ (λ v. refl)
results_fit Filter.KeepStore names args = all_on (fit Filter.KeepStore) (the_store args) _ (λ s. refl)
results_fit Filter.AnyBool names args = refl
results_fit Filter.Pick names args = all_on_both (fit Filter.Pick) (the_ints args) _ (λ a b. all_numbers (fit Filter.Pick) (whole_results Arith.Pick a b) (λ z. refl))
