-- The rounds of the analyser: what a reading of a table demands, the next table of a round, and the last one.
use Rattle.std.specs.Prelude.{◌≡◌, ◌≢◌, ℕ, zero, suc, ◌+◌, ◌*◌, ◌<◌, Bool, true, if◌then◌else◌, ◌&&◌, ◌||◌, List, [], ◌∷◌, ◌++◌, length, Option, Some, None, nat_le, flat_map}
use Rattle.std.specs.List.{list_all}
use Rattle.sk_rounds.specs.Walks.{Inputs, Outputs, Call, Table, Walks, side_leq, CallsBelow}

-- what the walk of a key tells
pub record Told (K E : Type 0) : Type 0 where
  pub gives : Option E
  pub calls : List (Call K E)

-- a call is answered by the outputs of its key, whatever its inputs
abbrev pub own_answer : {K E : Type 0} → Table K E → K → Option E
own_answer T k = T k Outputs

abbrev pub told_at : {K E : Type 0} → Walks K E → (K → Option E) → K → Option E → Told K E
told_at w answers k None = record { gives = None; calls = [] }
told_at w answers k (Some a) = record { gives = w.gives answers k a; calls = w.calls answers k a }

-- the walk of a key from its inputs; a key that the table lacks tells nothing
abbrev pub told : {K E : Type 0} → Walks K E → Table K E → K → Told K E
told w T k = told_at w (own_answer T) k (T k Inputs)

-- the join of two tuples; none adds nothing
abbrev pub side_join : {K E : Type 0} → Walks K E → Option E → Option E → Option E
side_join w x None = x
side_join w None (Some b) = Some b
side_join w (Some a) (Some b) = Some (w.join a b)

-- the join of the calls of one key, none where there is none
abbrev pub join_calls : {K E : Type 0} → Walks K E → K → List (Call K E) → Option E
join_calls w k [] = None
join_calls w k (c ∷ calls) = if w.same c.key k then side_join w (Some c.args) (join_calls w k calls) else join_calls w k calls

-- a key's inputs are the join of its cover lines and calls, its outputs what its walk gives
abbrev pub heard : {K E : Type 0} → Walks K E → (K → Told K E) → Table K E
heard w tells k Inputs = join_calls w k (w.covers ++ flat_map (λ j. (tells j).calls) w.keys)
heard w tells k Outputs = (tells k).gives

-- what one reading of a table demands: all keys of the table are walked, and all of it is heard
abbrev pub demands_of : {K E : Type 0} → Walks K E → Table K E → Table K E
demands_of w T = heard w (told w T)

-- the table of the cover lines, without outputs
abbrev pub first_table : {K E : Type 0} → Walks K E → Table K E
first_table w k Inputs = join_calls w k w.covers
first_table w k Outputs = None

-- the join up to round 3 and where the domain is finite, else the widening of the old tuple by the join
abbrev pub stretch : {K E : Type 0} → Walks K E → ℕ → E → E → E
stretch w r a b = if nat_le r 3 || w.is_finite then w.join a b else w.widen a (w.join a b)

abbrev pub grown : {K E : Type 0} → Walks K E → ℕ → Option E → Option E → Option E
grown w r x None = x
grown w r None (Some b) = Some b
grown w r (Some a) (Some b) = Some (stretch w r a b)

-- a side stays where what is demanded lies below it
abbrev pub raised : {K E : Type 0} → Walks K E → ℕ → Option E → Option E → Option E
raised w r old new = if side_leq w new old then old else grown w r old new

-- the table after round r; both sides of a key that the table lacks are none
abbrev pub next_table : {K E : Type 0} → Walks K E → ℕ → Table K E → Table K E
next_table w r T k s = raised w r (T k s) (demands_of w T k s)

-- the table after so many rounds
abbrev pub table_after : {K E : Type 0} → Walks K E → ℕ → Table K E
table_after w zero = first_table w
table_after w (suc r) = next_table w (suc r) (table_after w r)

-- step `last + 1` of a row is the first that changes nothing
pub record EndsAt {X : Type 0} (row : ℕ → X) (last : ℕ) : Type 0 where
  pub still : row (suc last) ≡ row last
  pub earlier : (r : ℕ) → r < last → row (suc r) ≢ row r

-- round `last + 1` is the first that changes nothing
abbrev pub IsLast : {K E : Type 0} → Walks K E → ℕ → Type 0
IsLast w last = EndsAt (table_after w) last

-- the analyser's answer: the table at the first round that changes nothing, and the number of that round
pub record IsAnalysed {K E : Type 0} (w : Walks K E) (table : Table K E) (rounds : ℕ) : Type 0 where
  pub last : ℕ
  pub is_last : IsLast w last
  pub table_is : table ≡ table_after w last
  pub rounds_is : rounds ≡ suc last

-- four rounds, and one for each tuple that a side can get
abbrev pub round_bound : {K E : Type 0} → Walks K E → ℕ
round_bound w = 4 + 2 * length w.keys * w.cap

-- whether both sides of a key in the second table lie below those in the first
abbrev pub key_still : {K E : Type 0} → Walks K E → Table K E → Table K E → K → Bool
key_still w T U k = side_leq w (U k Inputs) (T k Inputs) && side_leq w (U k Outputs) (T k Outputs)

-- whether it is so for all keys of the program
abbrev pub is_still : {K E : Type 0} → Walks K E → Table K E → Table K E → Bool
is_still w T U = list_all (key_still w T U) w.keys

-- what a key's walk in the first table tells lies below the second table
pub record Justified {K E : Type 0} (w : Walks K E) (T U : Table K E) (k : K) : Type 0 where
  pub calls : CallsBelow w (told w T k).calls (λ j. U j Inputs)
  pub gives : side_leq w (told w T k).gives (U k Outputs) ≡ true

-- every key is justified, and the cover lines lie below the inputs of their keys
pub record Bears {K E : Type 0} (w : Walks K E) (T U : Table K E) : Type 0 where
  pub covers : CallsBelow w w.covers (λ j. U j Inputs)
  pub justified : (k : K) → Justified w T U k

-- a table is accepted where it bears what its own walks tell
abbrev pub IsAccepted : {K E : Type 0} → Walks K E → Table K E → Type 0
IsAccepted w T = Bears w T T
