-- The results of the filters, over whole numbers of any size; a result outside the range of numbers is none.
use Rattle.std.specs.Prelude.{ℕ, Bool, true, false, not, ◌&&◌, ◌||◌, if◌then◌else◌, ℤ, pos, neg_ℤ, List, [], ◌∷◌, map, filter, replicate, Option, Some, None, slice_get, slice_set, is_some, unwrap_or}
use Rattle.std.specs.Option.{option_map_or}
use Rattle.std.specs.Ordering.{int_eq}
use Rattle.std.specs.Prelude.{int_lt}
use Rattle.sk_def.specs.declared.filter.Filter.{Filter}
use Rattle.sk_value.specs.declared.value.Value.{Value}
use Rattle.sk_value.specs.declared.flow.Flow.{Flow}
use Rattle.sk_value.specs.declared.arith.Arith.{Arith}
use Rattle.sk_value.specs.declared.arith.Compare.{Compare}
use Rattle.sk_value.specs.declared.arith.Refine.TheVariants as refine
use Rattle.sk_value.specs.Numbers.{is_number, whole_results, compares, keeps}
use Rattle.sk_filter.specs.declared.arg.Arg.{Arg}
use Rattle.sk_filter.specs.Arguments.{Values, State, the_number, the_int, the_ints, the_bool, the_bools, the_val, the_store, the_cell, the_cell_and_val}

-- one result of one value
abbrev pub one : Flow → List Values
one v = (v ∷ []) ∷ []

-- each of the whole numbers that is in range, as a result
abbrev pub numbers : List ℤ → List Values
numbers zs = map (λ z. Flow.Int z ∷ []) (filter is_number zs)

abbrev pub number : ℤ → List Values
number z = numbers (z ∷ [])

-- one empty tuple where the test holds, and one pair of numbers
abbrev pub passing : Bool → List Values
passing holds = if holds then [] ∷ [] else []

abbrev pub pair_where : Bool → ℤ → ℤ → List Values
pair_where holds a b = if holds then (Flow.Int a ∷ Flow.Int b ∷ []) ∷ [] else []

-- the number, or the truth value, that a val is
abbrev pub int_in : Value → List Values
int_in (Value.Int z) = one (Flow.Int z)
int_in (Value.Bool b) = []

abbrev pub bool_in : Value → List Values
bool_in (Value.Int z) = []
bool_in (Value.Bool b) = one (Flow.Bool b)

-- the value of a name in a state
abbrev pub value_at : State → ℕ → Option Value
value_at s n = unwrap_or (slice_get s n) None

-- what a filter does with the arguments that it looks at, where they are of its sorts; else it has no result
abbrev pub on : {X : Type 0} → Option X → (X → List Values) → List Values
on given f = option_map_or f given []

abbrev pub on_both : {X Y : Type 0} → Option (X × Y) → (X → Y → List Values) → List Values
on_both given f = option_map_or (λ p. f p.0 p.1) given []

abbrev pub on_all : {X Y Z : Type 0} → Option (X × Y × Z) → (X → Y → Z → List Values) → List Values
on_all given f = option_map_or (λ p. f p.0 p.1 p.2) given []

-- the results of a filter in order, over this number of names
abbrev pub results_of : Filter → ℕ → List Arg → List Values
results_of Filter.Lit names args = on (the_number args) number
results_of Filter.Zero names args = one (Flow.Int (pos 0))
results_of Filter.One names args = one (Flow.Int (pos 1))
results_of Filter.Yes names args = one (Flow.Bool true)
results_of Filter.No names args = one (Flow.Bool false)
results_of Filter.Add names args = on_both (the_ints args) (λ a b. numbers (whole_results Arith.Add a b))
results_of Filter.Sub names args = on_both (the_ints args) (λ a b. numbers (whole_results Arith.Sub a b))
results_of Filter.Mul names args = on_both (the_ints args) (λ a b. numbers (whole_results Arith.Mul a b))
results_of Filter.Neg names args = on (the_int args) (λ a. number (neg_ℤ a))
results_of Filter.Div names args = on_both (the_ints args) (λ a b. numbers (whole_results Arith.Div a b))
results_of Filter.Rem names args = on_both (the_ints args) (λ a b. numbers (whole_results Arith.Rem a b))
results_of Filter.Lt names args = on_both (the_ints args) (λ a b. one (Flow.Bool (compares Compare.Lt a b)))
results_of Filter.Le names args = on_both (the_ints args) (λ a b. one (Flow.Bool (compares Compare.Le a b)))
results_of Filter.Eq names args = on_both (the_ints args) (λ a b. one (Flow.Bool (compares Compare.Eq a b)))
results_of Filter.Not names args = on (the_bool args) (λ a. one (Flow.Bool (not a)))
results_of Filter.And names args = on_both (the_bools args) (λ a b. one (Flow.Bool (a && b)))
results_of Filter.Or names args = on_both (the_bools args) (λ a b. one (Flow.Bool (a || b)))
results_of Filter.IsTrue names args = on (the_bool args) passing
results_of Filter.IsFalse names args = on (the_bool args) (λ a. passing (not a))
results_of Filter.IsZero names args = on (the_int args) (λ a. passing (int_eq a (pos 0)))
results_of Filter.NonZero names args = on (the_int args) (λ a. passing (not (int_eq a (pos 0))))
results_of Filter.IsPos names args = on (the_int args) (λ a. passing (int_lt (pos 0) a))
results_of Filter.IsNeg names args = on (the_int args) (λ a. passing (int_lt a (pos 0)))
results_of Filter.Below names args = on_both (the_ints args) (λ a b. pair_where (keeps refine.Below a b) a b)
results_of Filter.AtLeast names args = on_both (the_ints args) (λ a b. pair_where (keeps refine.AtLeast a b) a b)
results_of Filter.Same names args = on_both (the_ints args) (λ a b. pair_where (keeps refine.Same a b) a b)
results_of Filter.Differ names args = on_both (the_ints args) (λ a b. pair_where (keeps refine.Differ a b) a b)
results_of Filter.OfInt names args = on (the_int args) (λ a. one (Flow.Val (Value.Int a)))
results_of Filter.OfBool names args = on (the_bool args) (λ a. one (Flow.Val (Value.Bool a)))
results_of Filter.AsInt names args = on (the_val args) int_in
results_of Filter.AsBool names args = on (the_val args) bool_in
results_of Filter.Empty names args = one (Flow.Store (replicate names None))
results_of Filter.Read names args = on_both (the_cell args) (λ s n. on (value_at s n) (λ v. one (Flow.Val v)))
results_of Filter.Write names args = on_all (the_cell_and_val args) (λ s n v. one (Flow.Store (slice_set s n (Some v))))
results_of Filter.Forget names args = on_both (the_cell args) (λ s n. one (Flow.Store (slice_set s n None)))
results_of Filter.Bound names args = on_both (the_cell args) (λ s n. one (Flow.Bool (is_some (value_at s n))))
results_of Filter.KeepInt names args = on (the_int args) (λ a. one (Flow.Int a))
results_of Filter.KeepBool names args = on (the_bool args) (λ a. one (Flow.Bool a))
results_of Filter.KeepVal names args = on (the_val args) (λ v. one (Flow.Val v))
results_of Filter.KeepStore names args = on (the_store args) (λ s. one (Flow.Store s))
results_of Filter.AnyBool names args = (Flow.Bool true ∷ []) ∷ (Flow.Bool false ∷ []) ∷ []
results_of Filter.Pick names args = on_both (the_ints args) (λ a b. numbers (whole_results Arith.Pick a b))

-- whether a derivation picks one of a filter's results
abbrev pub is_choice : Filter → Bool
is_choice Filter.AnyBool = true
is_choice Filter.Pick = true
is_choice _ = false
