-- The second phase: the climbed table is lowered by what it demands, and its outputs climb again with the inputs kept.
use Rattle.std.specs.Prelude.{◌≡◌, ◌≢◌, ℕ, zero, suc, ◌+◌, ◌*◌, ◌<◌, ◌≤◌, ◌⊎◌, true, not, if◌then◌else◌, length, Option, Some, None, is_some}
use Rattle.sk_rounds.specs.Walks.{Side, Inputs, Outputs, Table, Walks, side_leq, FitSide}
use Rattle.sk_rounds.specs.Rounds.{told, demands_of, heard, raised}
use Rattle.sk_rounds.specs.Marks.{Step, Differs}

-- a meet is none where a component of it is empty
abbrev pub Meet : Type 0 → Type 0
Meet E = E → E → Option E

-- the greatest lower bound of two sides
pub record MeetLaws {K E : Type 0} (w : Walks K E) (meet : Meet E) : Type 0 where
  pub meet_left : (k : K) (s : Side) (a b : E) → w.fits k s a ≡ true → w.fits k s b ≡ true → side_leq w (meet a b) (Some a) ≡ true
  pub meet_right : (k : K) (s : Side) (a b : E) → w.fits k s a ≡ true → w.fits k s b ≡ true → side_leq w (meet a b) (Some b) ≡ true
  pub meet_greatest : (k : K) (s : Side) (a b c : E) → w.fits k s a ≡ true → w.fits k s b ≡ true → w.fits k s c ≡ true → w.leq c a ≡ true → w.leq c b ≡ true → side_leq w (Some c) (meet a b) ≡ true
  pub meet_fits : (k : K) (s : Side) (a b : E) → w.fits k s a ≡ true → w.fits k s b ≡ true → FitSide w k s (meet a b)

-- a key without inputs falls away with its outputs
abbrev pub only_keys : {K E : Type 0} → Table K E → Table K E
only_keys T k s = if is_some (T k Inputs) then T k s else None

-- the table after so many descending rounds, each of which makes it what it demands
abbrev pub lowered : {K E : Type 0} → Walks K E → Table K E → ℕ → Table K E
lowered w T zero = T
lowered w T (suc r) = only_keys (demands_of w (lowered w T r))

-- descending round `last + 1` is the first that changes nothing, or the 48th; the lowered table is that after it
pub record IsLowest {K E : Type 0} (w : Walks K E) (T : Table K E) (last : ℕ) : Type 0 where
  pub earlier : (r : ℕ) → r < last → lowered w T (suc r) ≢ lowered w T r
  pub ends : (lowered w T (suc last) ≡ lowered w T last) ⊎ (suc last ≡ 48)
  pub at_most : suc last ≤ 48

abbrev pub no_outputs : {K E : Type 0} → Table K E → Table K E
no_outputs T k Inputs = T k Inputs
no_outputs T k Outputs = None

-- one more round of the outputs alone
abbrev pub outputs_next : {K E : Type 0} → Walks K E → ℕ → Table K E → Table K E
outputs_next w r U k Inputs = U k Inputs
outputs_next w r U k Outputs = raised w r (U k Outputs) (told w U k).gives

abbrev pub outputs_after : {K E : Type 0} → Walks K E → Table K E → ℕ → Table K E
outputs_after w T zero = no_outputs T
outputs_after w T (suc r) = outputs_next w (suc r) (outputs_after w T r)

abbrev pub side_meet : {E : Type 0} → Meet E → Option E → Option E → Option E
side_meet meet None y = None
side_meet meet (Some a) None = None
side_meet meet (Some a) (Some b) = meet a b

-- the keys and inputs of the first table, and the meet of the outputs of both
abbrev pub met_outputs : {K E : Type 0} → Meet E → Table K E → Table K E → Table K E
met_outputs meet T U k Inputs = T k Inputs
met_outputs meet T U k Outputs = side_meet meet (T k Outputs) (U k Outputs)

-- four rounds, and one for each tuple that an output can get
abbrev pub second_bound : {K E : Type 0} → Walks K E → ℕ
second_bound w = 4 + length w.keys * w.cap

-- the steps of both, of what walks tell
abbrev pub lower_step : {K E : Type 0} → Walks K E → Step K E
lower_step w r T tells = only_keys (heard w tells)

abbrev pub outputs_step : {K E : Type 0} → Walks K E → Step K E
outputs_step w r U tells k Inputs = U k Inputs
outputs_step w r U tells k Outputs = raised w r (U k Outputs) (tells k).gives

-- the test where tables fall
abbrev pub is_fallen : {K E : Type 0} → Walks K E → Differs K E
is_fallen w T U k s = not (side_leq w (T k s) (U k s))
