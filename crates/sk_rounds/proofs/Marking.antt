-- Rounds that walk the marked keys alone are the rounds, and their walks are counted by what changed.
use Rattle.std.proofs.Common.{◌≡◌, ℕ, zero, suc, ◌+◌, ◌*◌, ◌≤◌, Bool, true, false, ◌||◌, [], Option, Some, None, is_some, sum_by, count_by, refl, sym, ◌∙◌, ap, ap₂, subst, arith}
use Rattle.std.specs.List.{AllByRecursion, list_any}
use Rattle.std.proofs.lemmas.Bool.{cond_both, or_parts, not-false, false≢true, true≢false}
use Rattle.sk_rounds.specs.Walks.{Side, Inputs, Outputs, Call, Table, Walks, WalksLaws, side_leq, Lies, FitTable, is_key}
use Rattle.sk_rounds.specs.Rounds.{Told, own_answer, told_at, told, first_table, table_after}
use Rattle.sk_rounds.specs.Marks.{Callers, CallerLaws, Differs, is_changed, one_if, changes_in, changes_of, changes, Step, Marked, told_now, marks_after, marked_run, walks_of, all_marked, round_step, walks, triples}
use Rattle.sk_rounds.specs.SecondPhase.{is_fallen}
use Rattle.sk_rounds.specs.SecondLaws.{MarkedLaws}
use Rattle.sk_rounds.proofs.Lists.{all_at, all_more, all_both, sum_below, sum_both, sum_times, sum_swap, sum_has, list_any_entries}
use Rattle.sk_rounds.proofs.Sides.{side_antisym}
use Rattle.sk_rounds.proofs.Bearing.{told_nothing, told_good, lies_refl, lies_trans}
use Rattle.sk_rounds.proofs.Rising.{after_good, next_left}

none_from : {A : Type 0} (x : Option A) → is_some x ≡ false → x ≡ None
none_from None e = refl
none_from (Some a) e = absurd (true≢false e)

if_times : (b : Bool) (x m : ℕ) → x ≤ m → one_if b * x ≤ m * one_if b
if_times true x m h = omega arith
if_times false x m h = omega arith

if_either : (a b : Bool) (m : ℕ) → 1 ≤ m → one_if (a || b) ≤ m * one_if a + one_if b
if_either true b m h = omega arith
if_either false true m h = omega arith
if_either false false m h = omega arith

module _ (K E : Type 0) (w : Walks K E) (laws : WalksLaws w) (callers : Callers K) (alike : CallerLaws w callers) where
  told_at_alike : (answers others : K → Option E) (k : K) (x : Option E) → AllByRecursion (λ (c : Call K E). answers c.key ≡ others c.key) (told_at w answers k x).calls → told_at w others k x ≡ told_at w answers k x
  told_at_alike answers others k None h = refl
  told_at_alike answers others k (Some a) h = λ i. record { gives = alike.gives_alike answers others k a h i; calls = alike.calls_alike answers others k a h i }

  module _ (differs : Differs K E) where
    -- a key that isn't marked tells what it told before
    told_alike : (T U : Table K E) → ((k : K) (p : Side) → differs T U k p ≡ false → T k p ≡ U k p) → (k : K) → marks_after differs T U (told w T) k ≡ false → told w T k ≡ told w U k
    told_alike T U sound k e =
        let parts = or_parts (differs T U k Inputs) (list_any (λ (c : Call K E). differs T U c.key Outputs) (told w T k).calls) e in
        let same : AllByRecursion (λ (c : Call K E). own_answer T c.key ≡ own_answer U c.key) (told w T k).calls = all_more (λ (c : Call K E). differs T U c.key Outputs ≡ false) (λ (c : Call K E). own_answer T c.key ≡ own_answer U c.key) (λ c n. sound c.key Outputs n) (told w T k).calls (list_any_entries (λ (c : Call K E). differs T U c.key Outputs) (told w T k).calls parts.1) in
        sym (told_at_alike (own_answer T) (own_answer U) k (T k Inputs) same) ∙ ap (told_at w (own_answer U) k) (sound k Inputs parts.0)

    -- the marks of a round are counted by its changes
    may_calls : (T : Table K E) (k : K) → AllByRecursion (λ (c : Call K E). callers.may_call k c.key ≡ true) (told w T k).calls
    may_calls T k = at (T k Inputs)
      where
        at : (x : Option E) → AllByRecursion (λ (c : Call K E). callers.may_call k c.key ≡ true) (told_at w (own_answer T) k x).calls
        at None = tt
        at (Some a) = alike.may_calls (own_answer T) k a

    -- one for each key that this one can call and whose outputs changed
    abbrev called_changed : Table K E → Table K E → K → K → ℕ
    called_changed T U k j = one_if (differs T U j Outputs) * one_if (callers.may_call k j)

    caller_counted : (T U : Table K E) → FitTable w T → (k : K) → one_if (list_any (λ (c : Call K E). differs T U c.key Outputs) (told w T k).calls) ≤ sum_by (called_changed T U k) w.keys
    caller_counted T U g k =
        cond_both (list_any (λ (c : Call K E). differs T U c.key Outputs) (told w T k).calls) 1 0 (λ z. z ≤ sum_by (called_changed T U k) w.keys)
        (λ e. all_at (λ (c : Call K E). (is_key w c.key ≡ true) × (callers.may_call k c.key ≡ true)) (λ (c : Call K E). differs T U c.key Outputs) (1 ≤ sum_by (called_changed T U k) w.keys) found (told w T k).calls known e)
        (λ _. omega arith)
      where
        known : AllByRecursion (λ (c : Call K E). (is_key w c.key ≡ true) × (callers.may_call k c.key ≡ true)) (told w T k).calls
        known = all_both _ _ (λ (c : Call K E). (is_key w c.key ≡ true) × (callers.may_call k c.key ≡ true)) (λ c p q. (p.0, q)) (told w T k).calls (told_good K E w laws T g k) (may_calls T k)

        found : (c : Call K E) → differs T U c.key Outputs ≡ true → (is_key w c.key ≡ true) × (callers.may_call k c.key ≡ true) → 1 ≤ sum_by (called_changed T U k) w.keys
        found c t p =
            let one : called_changed T U k c.key ≡ 1 = ap₂ (λ (a b : Bool). one_if a * one_if b) t p.1 in
            sum_has (called_changed T U k) 1 (w.same c.key) (λ j s. subst (λ i. 1 ≤ called_changed T U k i) (laws.order.same_only c.key j s) (omega (arith, one))) w.keys p.0

    callers_counted : (T U : Table K E) → sum_by (λ k. sum_by (called_changed T U k) w.keys) w.keys ≤ callers.most_callers * sum_by (λ j. one_if (differs T U j Outputs)) w.keys
    callers_counted T U =
        omega (
          arith,
          sum_swap (called_changed T U) w.keys w.keys,
          sum_below (λ j. sum_by (λ k. called_changed T U k j) w.keys) (λ j. callers.most_callers * one_if (differs T U j Outputs)) each w.keys,
          sum_times callers.most_callers (λ j. one_if (differs T U j Outputs)) w.keys,
        )
      where
        each : (j : K) → sum_by (λ k. called_changed T U k j) w.keys ≤ callers.most_callers * one_if (differs T U j Outputs)
        each j = omega (arith, sum_times (one_if (differs T U j Outputs)) (λ k. one_if (callers.may_call k j)) w.keys, if_times (differs T U j Outputs) (count_by (λ k. callers.may_call k j) w.keys) callers.most_callers (alike.few_callers j))

    marks_counted : (T U : Table K E) → FitTable w T → count_by (marks_after differs T U (told w T)) w.keys ≤ callers.most_callers * changes_in w differs T U
    marks_counted T U g =
        omega (
          arith,
          sum_below (λ k. one_if (marks_after differs T U (told w T) k)) (λ k. inputs k + calls k) (λ k. if_either (differs T U k Inputs) (list_any (λ (c : Call K E). differs T U c.key Outputs) (told w T k).calls) callers.most_callers alike.some_caller) w.keys,
          sum_both inputs calls w.keys,
          sum_times callers.most_callers (λ k. one_if (differs T U k Inputs)) w.keys,
          sum_below calls (λ k. sum_by (called_changed T U k) w.keys) (caller_counted T U g) w.keys,
          callers_counted T U,
          ap (λ n. callers.most_callers * n) (sum_both (λ k. one_if (differs T U k Inputs)) (λ k. one_if (differs T U k Outputs)) w.keys),
        )
      where
        inputs : K → ℕ
        inputs k = callers.most_callers * one_if (differs T U k Inputs)

        calls : K → ℕ
        calls k = one_if (list_any (λ (c : Call K E). differs T U c.key Outputs) (told w T k).calls)

    -- a row of tables, of which each is made by a step
    module _ (step : Step K E) (row : ℕ → Table K E) (steps : (r : ℕ) → row (suc r) ≡ step (suc r) (row r) (told w (row r))) (fits : (r : ℕ) → FitTable w (row r)) (sound : (r : ℕ) (k : K) (p : Side) → differs (row r) (row (suc r)) k p ≡ false → row r k p ≡ row (suc r) k p) (start : Marked K E) (starts : start.table ≡ row zero) (begins : told_now w start ≡ told w (row zero)) where
      pub record Follows (r : ℕ) : Type 0 where
        pub table : (marked_run w differs step start r).table ≡ row r
        pub tells : told_now w (marked_run w differs step start r) ≡ told w (row r)

      pub table_is : (r : ℕ) → Follows r → (marked_run w differs step start (suc r)).table ≡ row (suc r)
      table_is r f = ap₂ (λ (T : Table K E) (ts : K → Told K E). step (suc r) T ts) f.table f.tells ∙ sym (steps r)

      pub marks_are : (r : ℕ) → Follows r → (marked_run w differs step start (suc r)).marks ≡ marks_after differs (row r) (row (suc r)) (told w (row r))
      marks_are r f =
          ap₂ (λ (T : Table K E) (ts : K → Told K E). marks_after differs T (step (suc r) T ts) ts) f.table f.tells
          ∙ ap (λ (U : Table K E). marks_after differs (row r) U (told w (row r))) (sym (steps r))

      follows_next : (r : ℕ) → Follows r → Follows (suc r)
      follows_next r f = record { table = table_is r f; tells = λ i k. at k i }
        where
          at : (k : K) → told_now w (marked_run w differs step start (suc r)) k ≡ told w (row (suc r)) k
          at k =
              cond_both ((marked_run w differs step start (suc r)).marks k) (told w (marked_run w differs step start (suc r)).table k) ((marked_run w differs step start (suc r)).kept k) (λ z. z ≡ told w (row (suc r)) k)
              (λ _. ap (λ (T : Table K E). told w T k) (table_is r f))
              (λ e. (λ i. f.tells i k) ∙ told_alike (row r) (row (suc r)) (sound r) k (sym (λ i. marks_are r f i k) ∙ e))

      pub follows : (r : ℕ) → Follows r
      follows zero = record { table = starts; tells = begins }
      follows (suc r) = follows_next r (follows r)

      pub walks_counted : (r : ℕ) → walks_of w differs step start (suc r) ≤ count_by start.marks w.keys + callers.most_callers * changes_of w differs row r
      walks_counted zero = omega arith
      walks_counted (suc r) =
          omega (arith, walks_counted r, ap (λ (p : K → Bool). count_by p w.keys) (marks_are r (follows r)), marks_counted (row r) (row (suc r)) (fits r))

  -- the start of a row at which all keys of the table are marked
  pub all_told : (T : Table K E) → told_now w (all_marked T) ≡ told w T
  all_told T = λ i k. cond_both (is_some (T k Inputs)) (told w T k) (record { gives = None; calls = [] }) (λ z. z ≡ told w T k) (λ _. refl) (λ e. sym (told_nothing K E w laws T k (none_from (T k Inputs) e))) i

  -- a side that didn't change, where tables rise
  pub unchanged : (T U : Table K E) → Lies w T U → (k : K) (p : Side) → is_changed w T U k p ≡ false → T k p ≡ U k p
  unchanged T U le k p e = side_antisym K E w laws (T k p) (U k p) (le k p) (not-false (side_leq w (U k p) (T k p)) e)

  -- and where they fall
  pub unfallen : (T U : Table K E) → Lies w U T → (k : K) (p : Side) → is_fallen w T U k p ≡ false → T k p ≡ U k p
  unfallen T U le k p e = side_antisym K E w laws (T k p) (U k p) (not-false (side_leq w (T k p) (U k p)) e) (le k p)

  pub round_sound : (r : ℕ) (k : K) (p : Side) → is_changed w (table_after w r) (table_after w (suc r)) k p ≡ false → table_after w r k p ≡ table_after w (suc r) k p
  round_sound r = unchanged (table_after w r) (table_after w (suc r)) (next_left K E w laws (suc r) (table_after w r) (after_good K E w laws r))

  pub round_follows : (r : ℕ) → Follows (is_changed w) (round_step w) (table_after w) (λ r. refl) (λ r. (after_good K E w laws r).fits) round_sound (all_marked (first_table w)) refl (all_told (first_table w)) r
  round_follows r = follows (is_changed w) (round_step w) (table_after w) (λ r. refl) (λ r. (after_good K E w laws r).fits) round_sound (all_marked (first_table w)) refl (all_told (first_table w)) r

  round_walks : (r : ℕ) → walks w (suc r) ≤ triples w (first_table w) + callers.most_callers * changes w r
  round_walks r = walks_counted (is_changed w) (round_step w) (table_after w) (λ r. refl) (λ r. (after_good K E w laws r).fits) round_sound (all_marked (first_table w)) refl (all_told (first_table w)) r

  some_more : (x y : Option E) → side_leq w x y ≡ true → one_if (is_some x) ≤ one_if (is_some y)
  some_more None y e = omega arith
  some_more (Some a) (Some b) e = omega arith
  some_more (Some a) None e = absurd (false≢true e)

  triples_more : (T U : Table K E) → Lies w T U → triples w T ≤ triples w U
  triples_more T U le = sum_below (λ k. one_if (is_some (T k Inputs))) (λ k. one_if (is_some (U k Inputs))) (λ k. some_more (T k Inputs) (U k Inputs) (le k Inputs)) w.keys

  first_lies : (r : ℕ) → Lies w (first_table w) (table_after w r)
  first_lies zero = lies_refl K E w laws (first_table w)
  first_lies (suc r) = lies_trans K E w laws (first_table w) (table_after w r) (table_after w (suc r)) (first_lies r) (next_left K E w laws (suc r) (table_after w r) (after_good K E w laws r))

  pub marked_laws : MarkedLaws w callers
  marked_laws =
      record {
        same_rounds = λ r. (round_follows r).table;
        few_walks = λ last h. omega (arith, round_walks last, triples_more (first_table w) (table_after w last) (first_lies last));
      }
