-- What holds of the rounds: they end in time, in one table, which is accepted, and on finite domains the least.
use Rattle.std.specs.Prelude.{◌≡◌, ◌≢◌, ◌↔◌, MatchBool, ℕ, suc, ◌*◌, ◌≤◌, List, length}
use Rattle.sk_rounds.specs.Walks.{Table, Walks, Lies, FitTable}
use Rattle.sk_rounds.specs.Rounds.{table_after, demands_of, is_still, EndsAt, IsLast, round_bound, IsAnalysed, IsAccepted}
use Rattle.sk_rounds.specs.Accepted.{Asks, AskLaws, AcceptedBy, rows, table_of}
use Rattle.sk_rounds.specs.Replay.{replayed, AllStable, HasSweeps}

-- a row of steps ends, and no later than so
pub record EndsWithin {X : Type 0} (row : ℕ → X) (most : ℕ) : Type 0 where
  pub last : ℕ
  pub is_last : EndsAt row last
  pub in_time : suc last ≤ most

-- the rounds end within the bound and in one table, which is accepted, and a test tells whether a round is the last
pub record RoundsLaws {K E : Type 0} (w : Walks K E) : Type 0 where
  pub ends : EndsWithin (table_after w) (round_bound w)
  pub one_end : (m n : ℕ) → IsLast w m → IsLast w n → m ≡ n
  pub in_time : (table : Table K E) (rounds : ℕ) → IsAnalysed w table rounds → rounds ≤ round_bound w
  pub accepted : (table : Table K E) (rounds : ℕ) → IsAnalysed w table rounds → IsAccepted w table
  pub fits : (table : Table K E) (rounds : ℕ) → IsAnalysed w table rounds → FitTable w table
  pub decided : (r : ℕ) → MatchBool (is_still w (table_after w r) (demands_of w (table_after w r))) (table_after w (suc r) ≡ table_after w r) (table_after w (suc r) ≢ table_after w r)

-- the table is accepted, and lies below every accepted table of tuples that fit
pub record IsLeastAccepted {K E : Type 0} (w : Walks K E) (T : Table K E) : Type 0 where
  pub fits : FitTable w T
  pub accepted : IsAccepted w T
  pub least : (U : Table K E) → FitTable w U → IsAccepted w U → Lies w T U

-- on finite domains: the analyser's table is the one that is the least accepted
pub record LeastLaws {K E : Type 0} (w : Walks K E) : Type 0 where
  pub least : (table : Table K E) (rounds : ℕ) → IsAnalysed w table rounds → IsLeastAccepted w table
  pub least_only : (table : Table K E) (rounds : ℕ) → IsAnalysed w table rounds → (U : Table K E) → IsLeastAccepted w U → U ≡ table

-- acceptance over a table's answers is acceptance over what its walks tell, and a table is what its rows say
pub record TableLaws {K E : Type 0} (w : Walks K E) : Type 0 where
  pub accepted_same : (asks : Asks K E) → AskLaws w asks → (T : Table K E) → FitTable w T → IsAccepted w T ↔ AcceptedBy w asks T
  pub table_rows : (table : Table K E) (rounds : ℕ) → IsAnalysed w table rounds → table_of w (rows w table) ≡ table

-- on finite domains: every order of picks stays below the analyser's table, and gives it where no key is unstable; and
-- after enough sweeps none is
pub record ReplayLaws {K E : Type 0} (w : Walks K E) : Type 0 where
  pub below : (table : Table K E) (rounds : ℕ) → IsAnalysed w table rounds → (picks : List K) → Lies w (replayed w picks) table
  pub agrees : (table : Table K E) (rounds : ℕ) → IsAnalysed w table rounds → (picks : List K) → AllStable w (replayed w picks) → replayed w picks ≡ table
  pub sweeps_end : (picks : List K) (m : ℕ) → 2 * length w.keys * w.cap ≤ m → HasSweeps w m picks → AllStable w (replayed w picks)
