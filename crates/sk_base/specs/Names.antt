-- Names as a list of different identifiers, numbered by their places.
use Rattle.std.specs.Prelude.{ℕ, List, [], ◌∷◌, ◌++◌, length, Option, None, Some, position, nat_lt, if◌then◌else◌}
use Rattle.std.specs.Str.{bytes_eq}

-- the first place of a name
abbrev pub place_of_name : List (List ℕ) → List ℕ → Option ℕ
place_of_name names name = position (λ entry. bytes_eq name entry) names

-- where a name stands once it is added, and the names with it: a new one goes last; none where it is new and 64 stand
abbrev pub with_name : List (List ℕ) → List ℕ → Option (ℕ × List (List ℕ))
with_name names name = at_place (place_of_name names name) where
  at_place : Option ℕ → Option (ℕ × List (List ℕ))
  at_place (Some place) = Some (place, names)
  at_place None = if nat_lt (length names) 64 then Some (length names, names ++ name ∷ []) else None
