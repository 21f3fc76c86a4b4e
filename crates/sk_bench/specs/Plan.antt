-- What a command does with the outside: it reads files one after another, each as the ones before say, and then writes a text.
use Rattle.std.specs.Prelude.{◌≡◌, ◌⊎◌, ⊤, ℕ, ◌+◌, ◌<◌, ◌≤◌, IsTrue, IsFalse, IfSome, List, length, Some}
use Rattle.sk_base.specs.Files.{Folder, Progress, read_once, turn_after}
use Rattle.sk_bench.specs.declared.status.Ending.{Ending}
use Rattle.sk_bench.specs.Asked.{Asked, IsAnswer, Means}

-- the text that is written in the end, what such a text is to answer, or the file whose turn it is, its limit, and what its
-- bytes lead to
pub data Plan : Type 0 where
  Write : Ending → List ℕ → Plan
  Read : List ℕ → ℕ → (List ℕ → Plan) → Plan
  WriteAnswer : Asked → Plan

-- these are the bytes of the file, as far as it tells them
abbrev pub Agrees : Folder → List ℕ → List ℕ → Type 0
Agrees folder name bytes = IfSome (folder.told name) (λ told. bytes ≡ told)

-- the file tells that these are its bytes
abbrev pub IsTold : Folder → List ℕ → List ℕ → Type 0
IsTold folder name bytes = folder.told name ≡ Some bytes

-- the file is steady and tells that these are its bytes
abbrev pub IsSteady : Folder → List ℕ → List ℕ → Type 0
IsSteady folder name bytes = IsTrue (folder.steady name) × (folder.told name ≡ Some bytes)

-- the plan came to its end with this text: each file whose turn came had bytes within its limit, those that it tells where it
-- tells them, and gave just so many; and as many files were selected as had their turn. So `now` is what stands after the last
-- one, where `was` stood before the first. Where the text answers what was asked, what it says is so
abbrev pub Ended : Folder → Progress → Progress → Plan → Ending → List ℕ → Type 0
Ended folder now was (Write as_said said) ending text = (ending ≡ as_said) × (text ≡ said) × (now ≡ was)
Ended folder now was (Read name limit next) ending text =
    (bytes : List ℕ) × Agrees folder name bytes × (length bytes ≤ limit) × Ended folder now (read_once was (length bytes)) (next bytes) ending text
Ended folder now was (WriteAnswer asked) ending text = IsAnswer asked ending text × Means asked ending × (now ≡ was)

-- the files say that the plan ends with this text: each whose turn comes has bytes of which P holds, within its limit
abbrev pub Ends : (List ℕ → List ℕ → Type 0) → Plan → Ending → List ℕ → Type 0
Ends P (Write as_said said) ending text = (ending ≡ as_said) × (text ≡ said)
Ends P (Read name limit next) ending text = (bytes : List ℕ) × P name bytes × (length bytes ≤ limit) × Ends P (next bytes) ending text
Ends P (WriteAnswer asked) ending text = IsAnswer asked ending text

-- the turn comes of a file of which Q holds, after files with bytes of which P holds, within their limits
abbrev pub Reaches : (List ℕ → List ℕ → Type 0) → (List ℕ → ℕ → Type 0) → Plan → Type 0
Reaches P Q (Write ending text) = ⊥
Reaches P Q (Read name limit next) = Q name limit ⊎ ((bytes : List ℕ) × P name bytes × (length bytes ≤ limit) × Reaches P Q (next bytes))
Reaches P Q (WriteAnswer asked) = ⊥

-- the turn comes of a file of which Q holds, after files that gave bytes within their limits, and as many files were selected
-- as had their turn
abbrev pub Stops : Folder → (List ℕ → ℕ → Type 0) → ℕ → ℕ → Plan → Type 0
Stops folder Q now was (Write ending text) = ⊥
Stops folder Q now was (Read name limit next) =
    (Q name limit × (now ≡ turn_after was))
    ⊎ ((bytes : List ℕ) × Agrees folder name bytes × (length bytes ≤ limit) × Stops folder Q now (turn_after was) (next bytes))
Stops folder Q now was (WriteAnswer asked) = ⊥

-- any file
abbrev pub IsAny : List ℕ → ℕ → Type 0
IsAny name limit = ⊤

-- the plan was given up: as many files were selected as had their turn, and none that had no turn
abbrev pub IsGivenUp : Folder → ℕ → ℕ → Plan → Type 0
IsGivenUp folder now was plan = (now ≡ was) ⊎ Stops folder IsAny now was plan

-- each file whose turn comes has bytes of which P holds, within its limit, and every text with which the plan may end has at
-- most so many bytes
abbrev pub Leads : (List ℕ → List ℕ → Type 0) → ℕ → Plan → Type 0
Leads P room (Write ending text) = length text ≤ room
Leads P room (Read name limit next) = (bytes : List ℕ) × P name bytes × (length bytes ≤ limit) × Leads P room (next bytes)
Leads P room (WriteAnswer asked) = (ending : Ending) (text : List ℕ) → IsAnswer asked ending text → length text ≤ room

-- the file isn't steady
abbrev pub IsShaky : Folder → List ℕ → ℕ → Type 0
IsShaky folder name limit = IsFalse (folder.steady name)

-- the file gave one byte more than its limit, and has more where it tells
abbrev pub GaveTooMuch : Folder → ℕ → List ℕ → ℕ → Type 0
GaveTooMuch folder given name limit = (given ≡ limit + 1) × IfSome (folder.told name) (λ told. limit < length told)

-- the file tells more bytes than its limit
abbrev pub IsTooLong : Folder → List ℕ → ℕ → Type 0
IsTooLong folder name limit = (bytes : List ℕ) × IsTold folder name bytes × (limit < length bytes)

-- the same, of a steady file
abbrev pub IsSteadyTooLong : Folder → List ℕ → ℕ → Type 0
IsSteadyTooLong folder name limit = IsTrue (folder.steady name) × IsTooLong folder name limit
