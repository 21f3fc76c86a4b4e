-- Acceptance as a checker of tables reads it, and tables as lists of rows.
use Rattle.std.specs.Prelude.{◌≡◌, true, if◌then◌else◌, List, [], ◌∷◌, Option, Some, None, Result, Ok, IsSome, flat_map}
use Rattle.std.specs.List.{AllByRecursion}
use Rattle.sk_rounds.specs.Walks.{Side, Inputs, Outputs, Call, Table, Walks, side_leq, CallsBelow, FitAnswers}

-- the answer to a call: none where it is undefined, and else a side
abbrev pub Answers : Type 0 → Type 0 → Type 0
Answers K E = K → E → Option (Option E)

-- a walk under answers: what it gives, or the first call whose answer is undefined
abbrev pub Asks : Type 0 → Type 0 → Type 0
Asks K E = Answers K E → K → E → Result (Option E) (Call K E)

abbrev pub answer_at : {K E : Type 0} → Walks K E → Option E → E → Option E → Option (Option E)
answer_at w outputs a None = None
answer_at w outputs a (Some b) = if w.leq a b then Some outputs else None

-- what a table answers to a call: the outputs of its key, where the key's inputs lie above the call's
abbrev pub answer : {K E : Type 0} → Walks K E → Table K E → Answers K E
answer w T k a = answer_at w (T k Outputs) a (T k Inputs)

-- A walk under answers is the walk with its calls answered by key, where these agree on the calls that it asks; and
-- where it gives something, all these calls have answers.
pub record AskLaws {K E : Type 0} (w : Walks K E) (asks : Asks K E) : Type 0 where
  pub goes : (answers : Answers K E) (by_key : K → Option E) (k : K) (a : E) → FitAnswers w by_key → w.fits k Inputs a ≡ true →
      AllByRecursion (λ (c : Call K E). answers c.key c.args ≡ Some (by_key c.key)) (w.calls by_key k a) → asks answers k a ≡ Ok (w.gives by_key k a)
  pub went : (answers : Answers K E) (by_key : K → Option E) (k : K) (a : E) (gives : Option E) → FitAnswers w by_key → w.fits k Inputs a ≡ true →
      ((j : K) (b : E) (side : Option E) → answers j b ≡ Some side → side ≡ by_key j) → asks answers k a ≡ Ok gives →
      AllByRecursion (λ (c : Call K E). IsSome (answers c.key c.args)) (w.calls by_key k a)

-- a key is justified where its walk, answered from the table, gives something below its outputs
pub record JustifiedBy {K E : Type 0} (w : Walks K E) (asks : Asks K E) (T : Table K E) (k : K) (a : E) : Type 0 where
  pub gives : Option E
  pub is : asks (answer w T) k a ≡ Ok gives
  pub below : side_leq w gives (T k Outputs) ≡ true

-- all keys of the table are justified, and the cover lines lie below the inputs of their keys
pub record AcceptedBy {K E : Type 0} (w : Walks K E) (asks : Asks K E) (T : Table K E) : Type 0 where
  pub covers : CallsBelow w w.covers (λ j. T j Inputs)
  pub justified : (k : K) (a : E) → T k Inputs ≡ Some a → JustifiedBy w asks T k a

-- a row of a table that is written
pub record Row (K E : Type 0) : Type 0 where
  pub key : K
  pub inputs : E
  pub outputs : Option E

abbrev pub row_at : {K E : Type 0} → K → Option E → Option E → List (Row K E)
row_at k None outputs = []
row_at k (Some a) outputs = record { key = k; inputs = a; outputs = outputs } ∷ []

-- the rows of a table, in the order of the program's keys
abbrev pub rows : {K E : Type 0} → Walks K E → Table K E → List (Row K E)
rows w T = flat_map (λ k. row_at k (T k Inputs) (T k Outputs)) w.keys

abbrev pub row_side : {K E : Type 0} → Row K E → Side → Option E
row_side row Inputs = Some row.inputs
row_side row Outputs = row.outputs

-- the table of a list of rows: the first of each key counts
abbrev pub table_of : {K E : Type 0} → Walks K E → List (Row K E) → Table K E
table_of w [] k s = None
table_of w (row ∷ rows) k s = if w.same row.key k then row_side row s else table_of w rows k s
