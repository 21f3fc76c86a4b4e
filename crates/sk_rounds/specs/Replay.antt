-- Recomputing one key at a time, in any order.
use Rattle.std.specs.Prelude.{◌≡◌, ℕ, zero, suc, true, if◌then◌else◌, List, [], ◌∷◌, ◌++◌, None}
use Rattle.std.specs.List.{AllByRecursion, list_any}
use Rattle.sk_rounds.specs.Walks.{Inputs, Outputs, Table, Walks}
use Rattle.sk_rounds.specs.Rounds.{told, side_join, join_calls, first_table}

-- the key's outputs are joined with what its walk gives, and its calls into the inputs of their keys
abbrev pub recomputed : {K E : Type 0} → Walks K E → Table K E → K → Table K E
recomputed w T k j Inputs = side_join w (T j Inputs) (join_calls w j (told w T k).calls)
recomputed w T k j Outputs = side_join w (T j Outputs) (if w.same j k then (told w T k).gives else None)

-- one key after another is recomputed
abbrev pub all_recomputed : {K E : Type 0} → Walks K E → Table K E → List K → Table K E
all_recomputed w T [] = T
all_recomputed w T (k ∷ picks) = all_recomputed w (recomputed w T k) picks

-- the first table after these picks
abbrev pub replayed : {K E : Type 0} → Walks K E → List K → Table K E
replayed w picks = all_recomputed w (first_table w) picks

-- recomputing the key changes nothing
abbrev pub IsStable : {K E : Type 0} → Walks K E → Table K E → K → Type 0
IsStable w T k = recomputed w T k ≡ T

-- every key of the program is stable
abbrev pub AllStable : {K E : Type 0} → Walks K E → Table K E → Type 0
AllStable w T = AllByRecursion (IsStable w T) w.keys

-- a prefix of the picks has every key of the program, and the rest has one such sweep less
abbrev pub HasSweeps : {K E : Type 0} → Walks K E → ℕ → List K → Type 0
HasSweeps w zero picks = Unit {0}
HasSweeps {K} w (suc m) picks = (sweep rest : List K) × (picks ≡ sweep ++ rest) × AllByRecursion (λ k. list_any (w.same k) sweep ≡ true) w.keys × HasSweeps w m rest
