-- What the code of a reader means.
use Rattle.std.specs.Prelude.{ℕ, Option, Some, None, Result, Ok, Err, ⊤}
use Rattle.sk_lex.specs.Run.{Turn}
use Rattle.sk_lex.specs.declared.reader.Taken.{Taken}
use Rattle.sk_lex.specs.declared.reader.Refused.{Refused}
use Rattle.sk_lex.specs.declared.reader.Refused.TheVariants.{Bad, NoMemory}

-- a turn after which the reader stands so
abbrev pub turn_of : {Expected State : Type 0} → State → Taken Expected → Turn Expected State
turn_of state taken = record { expected = taken.expected.now; state = state; more = taken.more }

-- the code of a refusal and its place, none for want of memory
abbrev pub bad_of : {Code : Type 0} → Refused Code → Option (Code × ℕ)
bad_of (Bad code at) = Some (code, at)
bad_of NoMemory = None

-- it holds of every answer but want of memory
abbrev pub OnAnswer : {A Code : Type 0} → Result A (Refused Code) → Type 0 → Type 0
OnAnswer (Err (Bad code at)) P = P
OnAnswer (Err NoMemory) P = ⊤
OnAnswer (Ok value) P = P

-- it holds after a refusal with a code
abbrev pub OnBad : {A Code : Type 0} → Result A (Refused Code) → Type 0 → Type 0
OnBad (Err (Bad code at)) P = P
OnBad (Err NoMemory) P = ⊤
OnBad (Ok value) P = ⊤

-- it holds after want of memory
abbrev pub OnStarved : {A Code : Type 0} → Result A (Refused Code) → Type 0 → Type 0
OnStarved (Err (Bad code at)) P = ⊤
OnStarved (Err NoMemory) P = P
OnStarved (Ok value) P = ⊤
