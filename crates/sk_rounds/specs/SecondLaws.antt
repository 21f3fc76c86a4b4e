-- What holds of marked rounds and of the second phase.
use Rattle.std.specs.Prelude.{◌≡◌, ◌≢◌, MatchBool, ℕ, suc, ◌+◌, ◌*◌, ◌≤◌}
use Rattle.sk_rounds.specs.Walks.{Table, Walks, Lies, FitTable}
use Rattle.sk_rounds.specs.Rounds.{table_after, is_still, EndsAt, IsLast, IsAccepted}
use Rattle.sk_rounds.specs.Laws.{EndsWithin}
use Rattle.sk_rounds.specs.Marks.{Callers, is_changed, changes, changes_of, marked_after, marked_run, walks, walks_of, triples, all_marked, none_marked}
use Rattle.sk_rounds.specs.SecondPhase.{IsLowest, Meet, lowered, no_outputs, outputs_after, met_outputs, second_bound, lower_step, outputs_step, is_fallen}

-- the marked rounds are the rounds, and their walks are counted by what changed
pub record MarkedLaws {K E : Type 0} (w : Walks K E) (callers : Callers K) : Type 0 where
  pub same_rounds : (r : ℕ) → (marked_after w r).table ≡ table_after w r
  pub few_walks : (last : ℕ) → IsLast w last → walks w (suc last) ≤ triples w (table_after w last) + callers.most_callers * changes w (suc last)

-- the descending rounds end
pub record Lowest {K E : Type 0} (w : Walks K E) (T : Table K E) : Type 0 where
  pub last : ℕ
  pub is_lowest : IsLowest w T last

-- the table of the second phase, from any number of descending rounds, fits, is accepted and lies below the climbed one
pub record SecondLaws {K E : Type 0} (w : Walks K E) (meet : Meet E) : Type 0 where
  pub lowest : (last : ℕ) → IsLast w last → Lowest w (table_after w last)
  pub lowered_decided : (last r : ℕ) → IsLast w last → MatchBool (is_still w (lowered w (table_after w last) (suc r)) (lowered w (table_after w last) r)) (lowered w (table_after w last) (suc r) ≡ lowered w (table_after w last) r) (lowered w (table_after w last) (suc r) ≢ lowered w (table_after w last) r)
  pub climb_ends : (last down : ℕ) → IsLast w last → EndsWithin (outputs_after w (lowered w (table_after w last) down)) (second_bound w)
  pub fits : (last down again : ℕ) → IsLast w last → FitTable w (met_outputs meet (lowered w (table_after w last) down) (outputs_after w (lowered w (table_after w last) down) again))
  pub accepted : (last down again : ℕ) → IsLast w last → EndsAt (outputs_after w (lowered w (table_after w last) down)) again → IsAccepted w (met_outputs meet (lowered w (table_after w last) down) (outputs_after w (lowered w (table_after w last) down) again))
  pub below : (last down again : ℕ) → IsLast w last → Lies w (met_outputs meet (lowered w (table_after w last) down) (outputs_after w (lowered w (table_after w last) down) again)) (table_after w last)

-- the second phase goes on with the marks: its walks are counted by its changes
pub record SecondMarkedLaws {K E : Type 0} (w : Walks K E) (callers : Callers K) : Type 0 where
  pub none_left : (last : ℕ) → IsLast w last → marked_after w (suc last) ≡ none_marked w (table_after w last)
  pub same_lower : (last r : ℕ) → IsLast w last → (marked_run w (is_fallen w) (lower_step w) (none_marked w (table_after w last)) r).table ≡ lowered w (table_after w last) r
  pub lower_walks : (last r : ℕ) → IsLast w last → walks_of w (is_fallen w) (lower_step w) (none_marked w (table_after w last)) (suc r) ≤ callers.most_callers * changes_of w (is_fallen w) (lowered w (table_after w last)) r
  pub same_outputs : (last down r : ℕ) → IsLast w last → (marked_run w (is_changed w) (outputs_step w) (all_marked (no_outputs (lowered w (table_after w last) down))) r).table ≡ outputs_after w (lowered w (table_after w last) down) r
  pub outputs_walks : (last down r : ℕ) → IsLast w last → walks_of w (is_changed w) (outputs_step w) (all_marked (no_outputs (lowered w (table_after w last) down))) (suc r) ≤ triples w (lowered w (table_after w last) down) + callers.most_callers * changes_of w (is_changed w) (outputs_after w (lowered w (table_after w last) down)) r
