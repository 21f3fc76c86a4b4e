-- What the code of a step means.
use Rattle.std.specs.Prelude.{◌≡◌, ◌<◌, ℕ, Bool, true, List, length, map, Option, Some, None, Result, Ok, Err, ⊤}
use Rattle.std.specs.List.{list_all}
use Rattle.sk_base.specs.declared.flow.FlowSort.{FlowSort}
use Rattle.sk_value.specs.Numbers.{is_number}
use Rattle.sk_value.specs.Padding.{padded_flow}
use Rattle.sk_value.specs.declared.flow.Flow.{Flow}
use Rattle.sk_term.specs.Meets.{HasGrown}
use Rattle.sk_deriv.specs.Moves.{holds_number, place_holds_number, have_sorts}
use Rattle.sk_deriv.specs.Reading.{Reading}
use Rattle.sk_deriv.specs.declared.fault.TupleError.{TupleError}
use Rattle.sk_deriv.specs.declared.fault.TupleFault.{TupleFault}
use Rattle.sk_deriv.specs.declared.fault.TupleFault.TheVariants as fault
use Rattle.sk_deriv.specs.declared.fault.Refusal.{Refusal}
use Rattle.sk_deriv.specs.declared.fault.Refusal.TheVariants.{Bad, NoMemory}

abbrev pub error_of : Refusal → Option TupleError
error_of (Bad error) = Some error
error_of NoMemory = None

-- the error and the place of a fault, none for want of memory
abbrev pub bad_of : TupleFault → Option (TupleError × ℕ)
bad_of (fault.Bad error at) = Some (error, at)
bad_of fault.NoMemory = None

-- it holds after a refusal with an error
abbrev pub OnRefusal : {A : Type 0} → Result A Refusal → Type 0 → Type 0
OnRefusal (Err (Bad error)) P = P
OnRefusal (Err NoMemory) P = ⊤
OnRefusal (Ok value) P = ⊤

-- it holds after want of memory
abbrev pub OnStarved : {A : Type 0} → Result A Refusal → Type 0 → Type 0
OnStarved (Err (Bad error)) P = ⊤
OnStarved (Err NoMemory) P = P
OnStarved (Ok value) P = ⊤

abbrev pub OnFault : {A : Type 0} → Result A TupleFault → Type 0 → Type 0
OnFault (Err (fault.Bad error at)) P = P
OnFault (Err fault.NoMemory) P = ⊤
OnFault (Ok value) P = ⊤

-- the sorts stay, and names were added
pub record Keeps (before now : Reading) : Type 0 where
  pub sorts : now.sorts ≡ before.sorts
  pub names : HasGrown before.names now.names

-- whether all numbers in a value are in range
abbrev pub flow_holds_numbers : Flow → Bool
flow_holds_numbers (Flow.Int z) = is_number z
flow_holds_numbers (Flow.Bool b) = true
flow_holds_numbers (Flow.Val v) = holds_number v
flow_holds_numbers (Flow.Store s) = list_all place_holds_number s

-- all numbers that were read are in range
pub record HoldsNumbers (state : Reading) : Type 0 where
  pub flows : list_all flow_holds_numbers state.flows ≡ true
  pub store : list_all place_holds_number state.store ≡ true

-- what was read up to a place past the first: once the stores have a place for each name, the values have the sorts
pub record IsRead (sorts : List FlowSort) (from end : ℕ) (state : Reading) : Type 0 where
  pub sorted : have_sorts (length state.names) sorts (map (padded_flow (length state.names)) state.flows) ≡ true
  pub many : length state.flows ≡ length sorts
  pub past : from < end
