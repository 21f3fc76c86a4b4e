-- Stores that gain unset places until they have one for each name.
use Rattle.std.specs.Prelude.{◌≡◌, ℕ, ◌-◌, ◌≤◌, List, ◌++◌, length, replicate, Option, None}
use Rattle.sk_value.specs.declared.value.Value.{Value}
use Rattle.sk_value.specs.declared.flow.Flow.{Flow}

-- a store with fewer places than names gains unset ones until it has so many
abbrev pub padded_store : ℕ → List (Option Value) → List (Option Value)
padded_store names store = store ++ replicate (names - length store) None

abbrev pub padded_flow : ℕ → Flow → Flow
padded_flow names (Flow.Store store) = Flow.Store (padded_store names store)
padded_flow names flow = flow

-- the store has its old places, and some of the unset ones that it was to gain
pub record IsPartlyPadded (names : ℕ) (old new : List (Option Value)) : Type 0 where
  pub gained : ℕ
  pub at_most : gained ≤ names - length old
  pub places : new ≡ old ++ replicate gained None

abbrev pub FlowIsPartlyPadded : ℕ → Flow → Flow → Type 0
FlowIsPartlyPadded names (Flow.Store old) flow = (new : List (Option Value)) × (flow ≡ Flow.Store new) × IsPartlyPadded names old new
FlowIsPartlyPadded names old new = new ≡ old
