-- Rounds that walk only the marked keys.
use Rattle.std.specs.Prelude.{ℕ, zero, suc, ◌≡◌, ◌+◌, ◌≤◌, Bool, true, false, if◌then◌else◌, not, ◌||◌, [], Option, None, is_some, count_by, sum_by}
use Rattle.std.specs.List.{AllByRecursion, list_any}
use Rattle.sk_rounds.specs.Walks.{Side, Inputs, Outputs, Call, Table, Walks, side_leq}
use Rattle.sk_rounds.specs.Rounds.{Told, told, heard, first_table, raised, table_after}

-- which keys a walk of a key may call, and how many keys at most can call one
pub record Callers (K : Type 0) : Type 0 where
  pub may_call : K → K → Bool
  pub most_callers : ℕ

-- walks see only the answers to their own calls, and call only what they may
pub record CallerLaws {K E : Type 0} (w : Walks K E) (callers : Callers K) : Type 0 where
  pub gives_alike : (answers others : K → Option E) (k : K) (a : E) → AllByRecursion (λ (c : Call K E). answers c.key ≡ others c.key) (w.calls answers k a) → w.gives others k a ≡ w.gives answers k a
  pub calls_alike : (answers others : K → Option E) (k : K) (a : E) → AllByRecursion (λ (c : Call K E). answers c.key ≡ others c.key) (w.calls answers k a) → w.calls others k a ≡ w.calls answers k a
  pub may_calls : (answers : K → Option E) (k : K) (a : E) → AllByRecursion (λ (c : Call K E). callers.may_call k c.key ≡ true) (w.calls answers k a)
  pub few_callers : (k : K) → count_by (λ j. callers.may_call j k) w.keys ≤ callers.most_callers
  pub some_caller : 1 ≤ callers.most_callers

-- whether a side differs between a table and the next
abbrev pub Differs : Type 0 → Type 0 → Type 0
Differs K E = Table K E → Table K E → K → Side → Bool

-- the test where tables rise
abbrev pub is_changed : {K E : Type 0} → Walks K E → Differs K E
is_changed w T U k s = not (side_leq w (U k s) (T k s))

abbrev pub one_if : Bool → ℕ
one_if b = if b then 1 else 0

-- how many sides of keys differ
abbrev pub changes_in : {K E : Type 0} → Walks K E → Differs K E → Table K E → Table K E → ℕ
changes_in w differs T U = sum_by (λ k. one_if (differs T U k Inputs) + one_if (differs T U k Outputs)) w.keys

-- the pairs of a step and a side that differed in it
abbrev pub changes_of : {K E : Type 0} → Walks K E → Differs K E → (ℕ → Table K E) → ℕ → ℕ
changes_of w differs row zero = 0
changes_of w differs row (suc r) = changes_of w differs row r + changes_in w differs (row r) (row (suc r))

-- the changes of the first rounds
abbrev pub changes : {K E : Type 0} → Walks K E → ℕ → ℕ
changes w = changes_of w (is_changed w) (table_after w)

-- a step makes the next table of the last one and of what its walks tell
abbrev pub Step : Type 0 → Type 0 → Type 0
Step K E = ℕ → Table K E → (K → Told K E) → Table K E

-- a table, its marked keys, and what the last walk of each key told
pub record Marked (K E : Type 0) : Type 0 where
  pub table : Table K E
  pub marks : K → Bool
  pub kept : K → Told K E

-- the marked keys are walked, and of the others the last walk is kept
abbrev pub told_now : {K E : Type 0} → Walks K E → Marked K E → K → Told K E
told_now w m k = if m.marks k then told w m.table k else m.kept k

-- a key is marked where its inputs changed or the outputs of a key that it called
abbrev pub marks_after : {K E : Type 0} → Differs K E → Table K E → Table K E → (K → Told K E) → K → Bool
marks_after {K} {E} differs T U tells k = differs T U k Inputs || list_any (λ (c : Call K E). differs T U c.key Outputs) (tells k).calls

abbrev pub marked_next : {K E : Type 0} → Walks K E → Differs K E → Step K E → ℕ → Marked K E → Marked K E
marked_next w differs step r m =
    let tells = told_now w m in
    let U = step r m.table tells in
    record { table = U; marks = marks_after differs m.table U tells; kept = tells }

abbrev pub marked_run : {K E : Type 0} → Walks K E → Differs K E → Step K E → Marked K E → ℕ → Marked K E
marked_run w differs step m zero = m
marked_run w differs step m (suc r) = marked_next w differs step (suc r) (marked_run w differs step m r)

-- the walks of the first steps
abbrev pub walks_of : {K E : Type 0} → Walks K E → Differs K E → Step K E → Marked K E → ℕ → ℕ
walks_of w differs step m zero = 0
walks_of w differs step m (suc r) = walks_of w differs step m r + count_by (marked_run w differs step m r).marks w.keys

-- every key of the table is marked, and no walk told anything
abbrev pub all_marked : {K E : Type 0} → Table K E → Marked K E
all_marked T = record { table = T; marks = λ k. is_some (T k Inputs); kept = λ k. record { gives = None; calls = [] } }

-- no key is marked, and every walk is kept
abbrev pub none_marked : {K E : Type 0} → Walks K E → Table K E → Marked K E
none_marked w T = record { table = T; marks = λ k. false; kept = told w T }

abbrev pub round_step : {K E : Type 0} → Walks K E → Step K E
round_step w r T tells k s = raised w r (T k s) (heard w tells k s)

abbrev pub marked_after : {K E : Type 0} → Walks K E → ℕ → Marked K E
marked_after w = marked_run w (is_changed w) (round_step w) (all_marked (first_table w))

-- the walks of the first rounds
abbrev pub walks : {K E : Type 0} → Walks K E → ℕ → ℕ
walks w = walks_of w (is_changed w) (round_step w) (all_marked (first_table w))

-- how many triples a table has
abbrev pub triples : {K E : Type 0} → Walks K E → Table K E → ℕ
triples w T = count_by (λ k. is_some (T k Inputs)) w.keys
