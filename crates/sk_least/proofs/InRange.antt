-- Values whose numbers are in range, as facts about each number.
use Rattle.std.proofs.Common.{◌≡◌, ℤ, pos, negsuc, true, List, [], ◌∷◌, Option, Some, None, refl, arith}
use Rattle.std.specs.Prelude.{⊤}
use Rattle.std.specs.List.{AllByRecursion, list_all}
use Rattle.std.proofs.lemmas.Bool.{and_from}
use Rattle.sk_value.specs.declared.value.Value.{Value}
use Rattle.sk_value.specs.declared.value.Value.TheVariants as value
use Rattle.sk_value.specs.declared.flow.Flow.{Flow}
use Rattle.sk_value.specs.declared.flow.Flow.TheVariants as concrete
use Rattle.sk_value.specs.Numbers.{IsNumber, is_number}
use Rattle.sk_filter.specs.declared.arg.Arg.{Arg}
use Rattle.sk_deriv.specs.Moves.{holds_number, place_holds_number}
use Rattle.sk_deriv.specs.Meets.{flow_holds_numbers}
use Rattle.sk_least.specs.Least.{ArgFits}

-- a number in range passes the test
pub number_passes : (z : ℤ) → IsNumber z → is_number z ≡ true
number_passes (pos n) h = grind arith
number_passes (negsuc n) h = grind arith

abbrev pub ValueFits : Value → Type 0
ValueFits (value.Int n) = IsNumber n
ValueFits (value.Bool t) = ⊤

abbrev pub PlaceFits : Option Value → Type 0
PlaceFits (Some v) = ValueFits v
PlaceFits None = ⊤

abbrev pub FlowFits : Flow → Type 0
FlowFits (concrete.Int n) = IsNumber n
FlowFits (concrete.Bool t) = ⊤
FlowFits (concrete.Val v) = ValueFits v
FlowFits (concrete.Store s) = AllByRecursion PlaceFits s

abbrev pub ArgInRange : Arg → Type 0
ArgInRange (Arg.Number z) = IsNumber z
ArgInRange (Arg.Name n) = ⊤
ArgInRange (Arg.Flow v) = FlowFits v

value_passes : (v : Value) → ValueFits v → holds_number v ≡ true
value_passes (value.Int n) f = number_passes n f
value_passes (value.Bool t) f = refl

place_passes : (p : Option Value) → PlaceFits p → place_holds_number p ≡ true
place_passes (Some v) f = value_passes v f
place_passes None f = refl

places_pass : (s : List (Option Value)) → AllByRecursion PlaceFits s → list_all place_holds_number s ≡ true
places_pass [] f = refl
places_pass (p ∷ s) f = and_from (place_holds_number p) (list_all place_holds_number s) (place_passes p f.0) (places_pass s f.1)

flow_passes : (v : Flow) → FlowFits v → flow_holds_numbers v ≡ true
flow_passes (concrete.Int n) f = number_passes n f
flow_passes (concrete.Bool t) f = refl
flow_passes (concrete.Val v) f = value_passes v f
flow_passes (concrete.Store s) f = places_pass s f

arg_passes : (a : Arg) → ArgInRange a → ArgFits a
arg_passes (Arg.Number z) f = f
arg_passes (Arg.Name n) f = tt
arg_passes (Arg.Flow v) f = flow_passes v f

-- arguments whose numbers are in range pass the test
pub args_pass : (args : List Arg) → AllByRecursion ArgInRange args → AllByRecursion ArgFits args
args_pass [] f = tt
args_pass (a ∷ args) f = (arg_passes a f.0, args_pass args f.1)
