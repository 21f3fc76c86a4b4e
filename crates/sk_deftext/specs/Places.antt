-- Where the parts of a definition stand.
use Rattle.std.specs.Prelude.{◌≡◌, ◌≢◌, ℕ, ◌+◌, ◌-◌, ◌≤◌, ◌==◌, if◌then◌else◌, List, length, slice_get, option_and_then, Option, Some, None}
use Rattle.sk_base.specs.Place.{place_at}
use Rattle.sk_base.specs.declared.place.Place.{Place}
use Rattle.sk_def.specs.declared.def.Rule.{Rule}
use Rattle.sk_deftext.specs.declared.source.Places.{Places}
use Rattle.sk_deftext.specs.declared.source.Source.{Source}

-- the place of a part of a rule: 0 is its header, the bones have their numbers from 1 on, and the closing comes last
abbrev pub place_of_part : Places → ℕ → ℕ → Option Place
place_of_part places rule part = option_and_then (λ (marks : List Place). slice_get marks part) (slice_get places.rules rule)

-- the column after some bytes that end in this line and column of their own, where the column before them was this
abbrev pub column_after : ℕ → ℕ → ℕ → ℕ
column_after column line own = if line == 1 then column + (own - 1) else own

-- the byte and the place where a reading of places stands
pub record Stands (text : List ℕ) (at : ℕ) (place : Place) : Type 0 where
  pub within : at ≤ length text
  pub place_is : place ≡ place_at text at

-- each hook and each part of each rule has its place
pub record PlacesFit (source : Source) : Type 0 where
  pub hooks_placed : length source.places.hooks ≡ length source.def.hooks
  pub rules_placed : (rule part : ℕ) (r : Rule) → slice_get source.def.rules rule ≡ Some r → part ≤ length r.bones + 1 → place_of_part source.places rule part ≢ None
