-- Acceptance over a table's answers is acceptance over what the walks tell; a table is its rows.
use Rattle.std.proofs.Common.{◌≡◌, ℕ, zero, suc, true, false, List, [], ◌∷◌, ◌++◌, Option, Some, None, Result, Ok, IsSome, flat_map, refl, sym, ◌∙◌, ap, ap₂, subst, inl, inr, ◌⊎◌, ◌↔◌}
use Rattle.std.specs.List.{AllByRecursion, list_any}
use Rattle.std.proofs.lemmas.Bool.{cond-true, cond-false, cases_Bool, false≢true, both_ways, or_from, false_from_ne_true}
use Rattle.std.proofs.lemmas.Option.{none-some, same_Some}
use Rattle.sk_rounds.specs.Walks.{Side, Inputs, Outputs, Call, Table, Walks, WalksLaws, side_leq, FitSide, FitTable, CallsBelow}
use Rattle.sk_rounds.specs.Rounds.{Told, own_answer, told_at, told, demands_of, raised, table_after, Justified, IsAccepted}
use Rattle.sk_rounds.specs.Accepted.{Asks, AskLaws, answer_at, answer, JustifiedBy, AcceptedBy, Row, row_at, rows, row_side, table_of}
use Rattle.sk_rounds.specs.Laws.{TableLaws}
use Rattle.sk_rounds.proofs.Lists.{all_more}
use Rattle.sk_rounds.proofs.Bearing.{Outside, told_nothing}
use Rattle.sk_rounds.proofs.Rising.{after_good, next_left}

-- a table has no outputs for a key that it lacks
abbrev pub IsWhole : {K E : Type 0} → Table K E → Type 0
IsWhole {K} T = (k : K) → T k Inputs ≡ None → T k Outputs ≡ None

module _ (K E : Type 0) (w : Walks K E) (laws : WalksLaws w) where
  -- what a table answers to a call
  answered : (outputs : Option E) (a : E) (x : Option E) → side_leq w (Some a) x ≡ true → answer_at w outputs a x ≡ Some outputs
  answered outputs a None e = absurd (false≢true e)
  answered outputs a (Some b) e = cond-true (w.leq a b) (Some outputs) None e

  answer_lies : (outputs : Option E) (a : E) (x : Option E) → IsSome (answer_at w outputs a x) → side_leq w (Some a) x ≡ true
  answer_lies outputs a None h = absurd (false≢true h)
  answer_lies outputs a (Some b) h =
      elim (cases_Bool (w.leq a b)) [
        | inl e ↦ e
        | inr n ↦ absurd (false≢true (subst IsSome (cond-false (w.leq a b) (Some outputs) None n) h))
      ]

  answer_own : (outputs : Option E) (a : E) (x side : Option E) → answer_at w outputs a x ≡ Some side → side ≡ outputs
  answer_own outputs a None side e = absurd (none-some side e)
  answer_own outputs a (Some b) side e =
      elim (cases_Bool (w.leq a b)) [
        | inl t ↦ same_Some side outputs (sym e ∙ cond-true (w.leq a b) (Some outputs) None t)
        | inr n ↦ absurd (none-some side (sym (cond-false (w.leq a b) (Some outputs) None n) ∙ e))
      ]

  told_there : (T : Table K E) (k : K) (a : E) → T k Inputs ≡ Some a → told w T k ≡ told_at w (own_answer T) k (Some a)
  told_there T k a e = ap (told_at w (own_answer T) k) e

  inputs_fit : (T : Table K E) → FitTable w T → (k : K) (a : E) → T k Inputs ≡ Some a → w.fits k Inputs a ≡ true
  inputs_fit T f k a e = subst (FitSide w k Inputs) e (f k Inputs)

  justified_by : (asks : Asks K E) → AskLaws w asks → (T : Table K E) → FitTable w T → (k : K) (a : E) → T k Inputs ≡ Some a → Justified w T T k → JustifiedBy w asks T k a
  justified_by asks ask T f k a e j =
      let t = told_there T k a e in
      record {
        gives = w.gives (own_answer T) k a;
        is = ask.goes (answer w T) (own_answer T) k a (λ i. f i Outputs) (inputs_fit T f k a e) (all_more (λ (c : Call K E). side_leq w (Some c.args) (T c.key Inputs) ≡ true) (λ (c : Call K E). answer w T c.key c.args ≡ Some (own_answer T c.key)) (λ c h. answered (T c.key Outputs) c.args (T c.key Inputs) h) (w.calls (own_answer T) k a) (subst (λ (x : Told K E). CallsBelow w x.calls (λ j. T j Inputs)) t j.calls));
        below = subst (λ (x : Told K E). side_leq w x.gives (T k Outputs) ≡ true) t j.gives;
      }

  by_justified : (asks : Asks K E) → AskLaws w asks → (T : Table K E) → FitTable w T → (k : K) (a : E) → T k Inputs ≡ Some a → JustifiedBy w asks T k a → Justified w T T k
  by_justified asks ask T f k a e j =
      let t = told_there T k a e in
      let known : AllByRecursion (λ (c : Call K E). IsSome (answer w T c.key c.args)) (w.calls (own_answer T) k a) = ask.went (answer w T) (own_answer T) k a j.gives (λ i. f i Outputs) (inputs_fit T f k a e) (λ i b side h. answer_own (T i Outputs) b (T i Inputs) side h) j.is in
      let calls : CallsBelow w (w.calls (own_answer T) k a) (λ i. T i Inputs) = all_more (λ (c : Call K E). IsSome (answer w T c.key c.args)) (λ (c : Call K E). side_leq w (Some c.args) (T c.key Inputs) ≡ true) (λ c h. answer_lies (T c.key Outputs) c.args (T c.key Inputs) h) (w.calls (own_answer T) k a) known in
      let goes = ask.goes (answer w T) (own_answer T) k a (λ i. f i Outputs) (inputs_fit T f k a e) (all_more (λ (c : Call K E). side_leq w (Some c.args) (T c.key Inputs) ≡ true) (λ (c : Call K E). answer w T c.key c.args ≡ Some (own_answer T c.key)) (λ c h. answered (T c.key Outputs) c.args (T c.key Inputs) h) (w.calls (own_answer T) k a) calls) in
      let same : j.gives ≡ w.gives (own_answer T) k a = ok_same j.gives (w.gives (own_answer T) k a) (asks (answer w T) k a) j.is goes in
      record {
        calls = subst (λ (x : Told K E). CallsBelow w x.calls (λ i. T i Inputs)) (sym t) calls;
        gives = subst (λ (x : Told K E). side_leq w x.gives (T k Outputs) ≡ true) (sym t) (subst (λ x. side_leq w x (T k Outputs) ≡ true) same j.below);
      }
    where
      ok_same : (x y : Option E) (r : Result (Option E) (Call K E)) → r ≡ Ok x → r ≡ Ok y → x ≡ y
      ok_same x y r h k = cc

  pub accepted_same : (asks : Asks K E) → AskLaws w asks → (T : Table K E) → FitTable w T → IsAccepted w T ↔ AcceptedBy w asks T
  accepted_same asks ask T f = (
    λ a. record { covers = a.covers; justified = λ k i e. justified_by asks ask T f k i e (a.justified k) },
    λ b. record { covers = b.covers; justified = λ k. at b k (T k Inputs) refl },
  )
    where
      at : AcceptedBy w asks T → (k : K) (x : Option E) → T k Inputs ≡ x → Justified w T T k
      at b k None e = Rattle.sk_rounds.proofs.Bearing.justified_nothing K E w laws T T k e
      at b k (Some a) e = by_justified asks ask T f k a e (b.justified k a e)

  -- a table is the table of its rows
  row_skip : (j k : K) → w.same j k ≡ false → (x y : Option E) (ts : List (Row K E)) (p : Side) → table_of w (row_at j x y ++ ts) k p ≡ table_of w ts k p
  row_skip j k n None y ts p = refl
  row_skip j k n (Some a) y ts p = cond-false (w.same j k) (row_side (record { key = j; inputs = a; outputs = y }) p) (table_of w ts k p) n

  part_of : Option E → Option E → Side → Option E
  part_of x y Inputs = x
  part_of x y Outputs = y

  row_hit : (j k : K) → w.same j k ≡ true → (x y : Option E) (ts : List (Row K E)) (p : Side) → (x ≡ None) ⊎ (table_of w (row_at j x y ++ ts) k p ≡ part_of x y p)
  unfolding part_of
  row_hit j k e None y ts p = inl refl
  row_hit j k e (Some a) y ts Inputs = inr (cond-true (w.same j k) (Some a) (table_of w ts k Inputs) e)
  row_hit j k e (Some a) y ts Outputs = inr (cond-true (w.same j k) y (table_of w ts k Outputs) e)

  part_is : (T : Table K E) (k : K) (p : Side) → part_of (T k Inputs) (T k Outputs) p ≡ T k p
  unfolding part_of
  part_is T k Inputs = refl
  part_is T k Outputs = refl

  missing : (T : Table K E) → IsWhole T → (k : K) → T k Inputs ≡ None → (p : Side) → T k p ≡ None
  missing T whole k e Inputs = e
  missing T whole k e Outputs = whole k e

  rows_from : (T : Table K E) → IsWhole T → (k : K) (p : Side) (ks : List K) → (list_any (w.same k) ks ≡ false → T k p ≡ None) → table_of w (flat_map (λ j. row_at j (T j Inputs) (T j Outputs)) ks) k p ≡ T k p
  rows_from T whole k p [] h = sym (h refl)
  rows_from T whole k p (j ∷ ks) h =
      elim (cases_Bool (w.same j k)) [
        | inl e ↦ elim (row_hit j k e (T j Inputs) (T j Outputs) (flat_map (λ i. row_at i (T i Inputs) (T i Outputs)) ks) p) [
          | inl none ↦ ap (λ x. table_of w (row_at j x (T j Outputs) ++ flat_map (λ i. row_at i (T i Inputs) (T i Outputs)) ks) k p) none
              ∙ rows_from T whole k p ks (λ _. missing T whole k (subst (λ i. T i Inputs ≡ None) (laws.order.same_only j k e) none) p)
          | inr hit ↦ hit ∙ part_is T j p ∙ ap (λ i. T i p) (laws.order.same_only j k e)
        ]
        | inr n ↦ row_skip j k n (T j Inputs) (T j Outputs) (flat_map (λ i. row_at i (T i Inputs) (T i Outputs)) ks) p
            ∙ rows_from T whole k p ks (λ none. h (or_from (w.same k j) (list_any (w.same k) ks) (other j k n) none))
      ]
    where
      other : (j k : K) → w.same j k ≡ false → w.same k j ≡ false
      other j k n = false_from_ne_true (w.same k j) (λ e. both_ways (w.same j k) n (subst (λ i. w.same i k ≡ true) (laws.order.same_only k j e) (laws.order.same_refl k)))

  pub rows_table : (T : Table K E) → Outside w T → IsWhole T → table_of w (rows w T) ≡ T
  rows_table T out whole = λ i k p. rows_from T whole k p w.keys (λ n. out k n p) i

  none_below : (x : Option E) → side_leq w x None ≡ true → x ≡ None
  none_below None e = refl
  none_below (Some a) e = absurd (false≢true e)

  pub after_whole : (r : ℕ) → IsWhole (table_after w r)
  after_whole zero k e = refl
  after_whole (suc r) k e =
      let lacks : table_after w r k Inputs ≡ None = none_below (table_after w r k Inputs) (subst (λ x. side_leq w (table_after w r k Inputs) x ≡ true) e (next_left K E w laws (suc r) (table_after w r) (after_good K E w laws r) k Inputs)) in
      let gives : demands_of w (table_after w r) k Outputs ≡ None = ap (λ (t : Told K E). t.gives) (told_nothing K E w laws (table_after w r) k lacks) in
      ap₂ (raised w (suc r)) (after_whole r k lacks) gives

  -- the table of a round is that of its rows
  after_rows : (r : ℕ) → table_of w (rows w (table_after w r)) ≡ table_after w r
  after_rows r = rows_table (table_after w r) (after_good K E w laws r).outside (after_whole r)

  pub table_laws : TableLaws w
  table_laws =
      record {
        accepted_same = accepted_same;
        table_rows = λ table rounds a. subst (λ T. table_of w (rows w T) ≡ T) (sym a.table_is) (after_rows a.last);
      }
