-- Sides of keys in the rounds, and the slots that hold one side of all keys.
use Rattle.std.specs.Prelude.{ℕ, ◌<◌, ◌≤◌, ◌+◌, ◌*◌, ℤ, nat_lt, Bool, true, if◌then◌else◌, List, length, map, Some, None, slice_get, unwrap_or}
use Rattle.std.specs.List.{AllByRecursion}
use Rattle.sk_deriv.specs.Moves.{Setting}
use Rattle.sk_lattice.specs.Domain.{Domain}
use Rattle.sk_lattice.specs.Order.{tuples_fit}
use Rattle.sk_absfilter.specs.Abstract.{Outcome}
use Rattle.sk_table.specs.declared.triple.Cover.{Cover}
use Rattle.sk_rounds.specs.Walks.{Inputs, Walks, WalksLaws, GoodCalls, FitSide}
use Rattle.sk_rounds.specs.Rounds.{side_join}
use Rattle.sk_abswalk.specs.Walk.{Flows}
use Rattle.sk_abswalk.specs.Reading.{Key, same_key, key_of, keyed, walks_of}

-- whether the tuples of two sides, where both have one, have the same sorts
abbrev pub sides_fit : {D : Type 0} → Outcome D → Outcome D → Bool
sides_fit (Some a) (Some b) = tuples_fit a b
sides_fit _ _ = true

-- what stands at a key in slots by point and then by hook, for so many hooks
abbrev pub side_of : {D : Type 0} → ℕ → List (Outcome D) → Key → Outcome D
side_of hooks slots k = if nat_lt k.0.0 hooks then unwrap_or (slice_get slots (k.1 * hooks + k.0.0)) None else None

-- a key has a slot
pub record HasPlace {D : Type 0} (hooks : ℕ) (slots : List (Outcome D)) (k : Key) : Type 0 where
  pub hook_within : k.0.0 < hooks
  pub place_within : k.1 * hooks + k.0.0 < length slots

-- one side with a call joined into that of its key
abbrev pub with_call : {D : Type 0} → Walks Key (Flows D) → (Key → Outcome D) → Cover D → Key → Outcome D
with_call w side c k = if same_key (key_of c) k then side_join w (side k) (Some c.ins) else side k

-- One side of all keys can take up calls: the walks of some job meet their laws, the sides and the calls fit, and each
-- call's key has a slot.
pub record CanHear {D : Type 0} (d : Domain D) (hooks : ℕ) (slots : List (Outcome D)) (calls : List (Cover D)) : Type 0 where
  pub finite : Bool
  pub marks : List ℤ
  pub setting : Setting
  pub covers : List (Cover D)
  pub laws : WalksLaws (walks_of d finite marks setting covers)
  pub good : GoodCalls (walks_of d finite marks setting covers) (map keyed calls)
  pub fit : (k : Key) → FitSide (walks_of d finite marks setting covers) k Inputs (side_of hooks slots k)
  pub few : hooks ≤ 8
  pub places : AllByRecursion (λ c. HasPlace hooks slots (key_of c)) calls
