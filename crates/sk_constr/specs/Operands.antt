-- What the arguments of a line are: leaves of the program, and entries of positions.
use Rattle.std.specs.Prelude.{ℕ, ◌+◌, List, [], ◌∷◌, Option, Some, None}
use Rattle.std.specs.Option.{option_and_then}
use Rattle.std.specs.List.{filter_map}
use Rattle.sk_def.specs.declared.ids.Var.{Var}
use Rattle.sk_deriv.specs.declared.entry.Entry.{Entry}
use Rattle.sk_deriv.specs.Env.{Env, entry_of}
use Rattle.sk_constr.specs.declared.line.Place.{Place}
use Rattle.sk_constr.specs.declared.line.Operand.{Operand}

-- what the variables of a rule stand for, where a value is known by its place: an entry of a position
abbrev pub PlaceEnv : Type 0
PlaceEnv = Env Place

-- the entries of a position that these variables take, counted from this one
abbrev pub places_from : ℕ → ℕ → List Var → List Place
places_from position entry [] = []
places_from position entry (v ∷ vs) = record { position = position; entry = entry } ∷ places_from position (entry + 1) vs

abbrev pub places : ℕ → List Var → List Place
places position vars = places_from position 0 vars

-- the operand that a variable's entry is; the point of a subterm is none
abbrev pub operand_in : Entry Place → Option Operand
operand_in (Entry.Number z) = Some (Operand.Number z)
operand_in (Entry.Name n) = Some (Operand.Name n)
operand_in (Entry.Flow place) = Some (Operand.At place.position place.entry)
operand_in (Entry.Point p) = None

abbrev pub operand_of : PlaceEnv → Var → Option Operand
operand_of env v = option_and_then operand_in (entry_of env v)

-- the operands of variables, in order
abbrev pub operands_at : PlaceEnv → List Var → List Operand
operands_at env vars = filter_map (operand_of env) vars
