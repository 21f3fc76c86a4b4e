-- The arguments of a filter, by their sorts: what they are where they have the sorts that are asked for, else nothing.
use Rattle.std.specs.Prelude.{ℕ, ℤ, Bool, List, [], ◌∷◌, Option, Some, None}
use Rattle.sk_value.specs.declared.value.Value.{Value}
use Rattle.sk_value.specs.declared.flow.Flow.{Flow}
use Rattle.sk_filter.specs.declared.arg.Arg.{Arg}

-- a tuple of values, and the value of each name of the job
abbrev pub Values : Type 0
Values = List Flow

abbrev pub State : Type 0
State = List (Option Value)

abbrev pub the_number : List Arg → Option ℤ
the_number (Arg.Number z ∷ []) = Some z
the_number _ = None

abbrev pub the_int : List Arg → Option ℤ
the_int (Arg.Flow (Flow.Int a) ∷ []) = Some a
the_int _ = None

abbrev pub the_ints : List Arg → Option (ℤ × ℤ)
the_ints (Arg.Flow (Flow.Int a) ∷ Arg.Flow (Flow.Int b) ∷ []) = Some (a, b)
the_ints _ = None

abbrev pub the_bool : List Arg → Option Bool
the_bool (Arg.Flow (Flow.Bool a) ∷ []) = Some a
the_bool _ = None

abbrev pub the_bools : List Arg → Option (Bool × Bool)
the_bools (Arg.Flow (Flow.Bool a) ∷ Arg.Flow (Flow.Bool b) ∷ []) = Some (a, b)
the_bools _ = None

abbrev pub the_val : List Arg → Option Value
the_val (Arg.Flow (Flow.Val v) ∷ []) = Some v
the_val _ = None

abbrev pub the_store : List Arg → Option State
the_store (Arg.Flow (Flow.Store s) ∷ []) = Some s
the_store _ = None

-- a store and a name of it
abbrev pub the_cell : List Arg → Option (State × ℕ)
the_cell (Arg.Flow (Flow.Store s) ∷ Arg.Name n ∷ []) = Some (s, n)
the_cell _ = None

-- a store, a name of it, and a value
abbrev pub the_cell_and_val : List Arg → Option (State × ℕ × Value)
the_cell_and_val (Arg.Flow (Flow.Store s) ∷ Arg.Name n ∷ Arg.Flow (Flow.Val v) ∷ []) = Some (s, n, v)
the_cell_and_val _ = None
