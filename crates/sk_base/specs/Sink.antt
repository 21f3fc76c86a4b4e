-- What a put does to the bytes and the room that a sink tells.
use Rattle.std.specs.Prelude.{◌≡◌, ℕ, ◌-◌, ◌≤◌, List, ◌++◌, ⊤, Option, None, Some, Result, MatchResult, IsOk}
use Rattle.std.specs.Io.KnownBytes.{Appends}

-- the told bytes grow by the front part of bs
pub record AppendsPrefix (old new : Option (List ℕ)) (bs : List ℕ) : Type 0 where
  pub kept : List ℕ
  pub rest : List ℕ
  pub parts : bs ≡ kept ++ rest
  pub appended : Appends old new kept

-- Ok appended all the bytes, and a failure a prefix of them
abbrev pub PutAppends : {T E : Type 0} → Option (List ℕ) → Option (List ℕ) → Result T E → List ℕ → Type 0
PutAppends old new result bs = MatchResult result (λ _. Appends old new bs) (λ _. AppendsPrefix old new bs)

-- where a room is told, so many bytes that fit are taken, and lower it
abbrev pub PutFits : {T E : Type 0} → Option ℕ → Option ℕ → Result T E → ℕ → Type 0
PutFits None new result count = ⊤
PutFits (Some room) new result count = count ≤ room → IsOk result × (new ≡ Some (room - count))
