-- Refused texts, and the line that says so.
use Rattle.std.specs.Prelude.{ℕ, List, ◌++◌, codes, decimal, length, Option, Some, None}
use Rattle.sk_base.specs.Place.{place_at}
use Rattle.sk_base.specs.declared.place.Place.{Place}
use Rattle.sk_bench.specs.declared.refused.Refusal.{Refusal}
use Rattle.sk_bench.specs.declared.refused.Unaccepted.{Unaccepted}
use Rattle.sk_bench.specs.declared.refused.Unaccepted.TheVariants as unaccepted

-- an error's name, and its place
pub record Refused : Type 0 where
  pub code : List ℕ
  pub place : Place

-- what code says of a refusal
abbrev pub refused_of : Refusal → Refused
refused_of refusal = record { code = refusal.code.now; place = refusal.place }

-- the refusal of a text that lacks a line, at its end
abbrev pub missing : List ℕ → List ℕ → Refused
missing code text = record { code = code; place = place_at text (length text) }

-- the refusal of a text, none for want of memory
abbrev pub refusal_of : Unaccepted → Option Refused
refusal_of (unaccepted.Refused refusal) = Some (refused_of refusal)
refusal_of unaccepted.NoMemory = None

-- the line for a refused text of this kind
abbrev pub refused_line : List ℕ → Refused → List ℕ
refused_line kind refused =
    codes "refused " ++ kind ++ codes " " ++ decimal refused.place.line ++ codes ":" ++ decimal refused.place.column ++ codes " " ++ refused.code ++ codes "\n"
