-- What the code of a step means.
use Rattle.std.specs.Prelude.{◌≡◌, ℕ, ◌≤◌, ◌⊎◌, List, ◌++◌, length, Option, Some, None, Result, Ok, Err, ⊤}
use Rattle.sk_term.specs.Reading.{Reading, Met}
use Rattle.sk_term.specs.declared.fault.TermError.{TermError}
use Rattle.sk_term.specs.declared.fault.TermFault.{TermFault}
use Rattle.sk_term.specs.declared.fault.TermFault.TheVariants as fault
use Rattle.sk_term.specs.declared.fault.Refusal.{Refusal}
use Rattle.sk_term.specs.declared.fault.Refusal.TheVariants.{Bad, NoMemory}

abbrev pub error_of : Refusal → Option TermError
error_of (Bad error) = Some error
error_of NoMemory = None

-- the error and the place of a fault, none for want of memory
abbrev pub bad_of : TermFault → Option (TermError × ℕ)
bad_of (fault.Bad error at) = Some (error, at)
bad_of fault.NoMemory = None

-- it holds after a refusal with an error
abbrev pub OnRefusal : {A : Type 0} → Result A Refusal → Type 0 → Type 0
OnRefusal (Err (Bad error)) P = P
OnRefusal (Err NoMemory) P = ⊤
OnRefusal (Ok value) P = ⊤

-- it holds after want of memory
abbrev pub OnStarved : {A : Type 0} → Result A Refusal → Type 0 → Type 0
OnStarved (Err (Bad error)) P = ⊤
OnStarved (Err NoMemory) P = P
OnStarved (Ok value) P = ⊤

abbrev pub OnFault : {A : Type 0} → Result A TermFault → Type 0 → Type 0
OnFault (Err (fault.Bad error at)) P = P
OnFault (Err fault.NoMemory) P = ⊤
OnFault (Ok value) P = ⊤

-- the names once a symbol came to this: those that were read then, or, where it is refused, those that stood
abbrev pub names_met : List (List ℕ) → Met → List (List ℕ)
names_met before (Ok turn) = turn.state.names
names_met before (Err error) = before

-- the names once memory was refused: those that stood, or those once the symbol came to this
abbrev pub StandAt : List (List ℕ) → List (List ℕ) → Met → Type 0
StandAt now before met = (now ≡ before) ⊎ (now ≡ names_met before met)

-- names were added, and those before them stay
pub record HasGrown (before now : List (List ℕ)) : Type 0 where
  pub added : List (List ℕ)
  pub is : now ≡ before ++ added

-- the definition stays, and names were added
pub record Keeps (before now : Reading) : Type 0 where
  pub definition : now.def ≡ before.def
  pub names : HasGrown before.names now.names

-- the definition has no more constructors than it may
abbrev pub IsWithin : Reading → Type 0
IsWithin state = length state.def.cons ≤ 128
