-- What the top call promises of any plan.
use Rattle.std.specs.Prelude.{◌≡◌, ◌⊎◌, ℕ, ◌≤◌, ◌<◌, IfSome, List, [], ◌∷◌, length, Option, Some}
use Rattle.std.specs.Io.KnownBytes.{Appends}
use Rattle.sk_base.specs.Files.{Folder, Progress}
use Rattle.sk_base.specs.Sink.{AppendsPrefix}
use Rattle.sk_bench.specs.declared.status.Ending.{Ending}
use Rattle.sk_bench.specs.declared.status.Status.{Status}
use Rattle.sk_bench.specs.declared.status.Status.TheVariants as status
use Rattle.sk_bench.specs.Status.{status_of}
use Rattle.sk_bench.specs.Plan.{Plan, Ended, Ends, Leads, Reaches, IsTold, IsSteady, IsTooLong, IsSteadyTooLong}

-- the status is one of these
abbrev pub IsOneOf : Status → List Status → Type 0
IsOneOf answer [] = ⊥
IsOneOf answer (other ∷ others) = (answer ≡ other) ⊎ IsOneOf answer others

-- the told bytes of the sink grew by the text with which the plan ended, over what the files gave
abbrev pub Writes : Folder → Progress → Progress → Plan → Ending → Option (List ℕ) → Option (List ℕ) → Type 0
Writes folder now was plan ending old new = (text : List ℕ) × Ended folder now was plan ending text × Appends old new text

-- they grew by a prefix of such a text, and a told room is too small for it
abbrev pub WritesPrefix : Folder → Progress → Progress → Plan → Option ℕ → Option (List ℕ) → Option (List ℕ) → Type 0
WritesPrefix folder now was plan room old new =
    (ending : Ending) × (text : List ℕ) × Ended folder now was plan ending text × AppendsPrefix old new text × IfSome room (λ told. told < length text)

-- where the files tell how the plan ends, the status says so, but for a fault and want of memory
abbrev pub EndsAsTold : Folder → Plan → Status → Type 0
EndsAsTold folder plan answer =
    (ending : Ending) (text : List ℕ) → Ends (IsTold folder) plan ending text
    → IsOneOf answer (status_of ending ∷ status.ReadFault ∷ status.WriteFault ∷ status.NoMemory ∷ [])

-- where they tell that a file has more bytes than its limit, the status says so, but for a fault and want of memory
abbrev pub StopsAsTold : Folder → Plan → Status → Type 0
StopsAsTold folder plan answer =
    Reaches (IsTold folder) (IsTooLong folder) plan → IsOneOf answer (status.TooLong ∷ status.ReadFault ∷ status.NoMemory ∷ [])

-- with steady files and room for the text, only want of memory stands in the way
abbrev pub IsComplete : Folder → Plan → Option ℕ → Status → Type 0
IsComplete folder plan room answer =
    (ending : Ending) (text : List ℕ) (told : ℕ) → Ends (IsSteady folder) plan ending text → room ≡ Some told → length text ≤ told
    → IsOneOf answer (status_of ending ∷ status.NoMemory ∷ [])

-- with steady files within their limits, and room for every text with which the plan may end, there is no fault: the text is
-- written or memory was refused
abbrev pub IsFaultless : Folder → Plan → Option ℕ → Status → Type 0
IsFaultless folder plan room answer =
    (told : ℕ) → Leads (IsSteady folder) told plan → room ≡ Some told → ¬ IsOneOf answer (status.ReadFault ∷ status.WriteFault ∷ status.TooLong ∷ [])

-- where steady files tell that one of them has more bytes than its limit, only want of memory stands in the way of saying so
abbrev pub IsCompleteTooLong : Folder → Plan → Status → Type 0
IsCompleteTooLong folder plan answer =
    Reaches (IsSteady folder) (IsSteadyTooLong folder) plan → IsOneOf answer (status.TooLong ∷ status.NoMemory ∷ [])
