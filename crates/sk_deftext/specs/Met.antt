-- What comes of a symbol of a definition.
use Rattle.std.specs.Prelude.{ℕ, nat_lt, Bool, if◌then◌else◌, List, [], Option, Some, None, Result, Ok, Err}
use Rattle.sk_lex.specs.Run.{Turn}
use Rattle.sk_deftext.specs.declared.draft.Draft.{Draft}
use Rattle.sk_deftext.specs.declared.expected.Expected.{Expected}
use Rattle.sk_deftext.specs.declared.fault.DefError.{DefError}
use Rattle.sk_deftext.specs.declared.fault.DefError.TheVariants.{Unexpected, Unknown}

-- what comes of a symbol
abbrev pub Met : Type 0
Met = Result (Turn Expected Draft) DefError

-- it is met: this is expected in its place, and this was read
abbrev pub turn_of : Draft → List Expected → Turn Expected Draft
turn_of draft expected = record { expected = expected; state = draft; more = 0 }

abbrev pub met : Draft → List Expected → Met
met draft expected = Ok (turn_of draft expected)

-- a symbol that has to be of one form
abbrev pub asked : Draft → Bool → Met
asked draft fits = if fits then met draft [] else Err Unexpected

-- one more entry of a list that has so many
abbrev pub one_more : {A : Type 0} → ℕ → ℕ → DefError → Option A → (A → Met) → Met
one_more count most too_many None turn = if nat_lt count most then Err Unknown else Err too_many
one_more count most too_many (Some entry) turn = if nat_lt count most then turn entry else Err too_many
