-- A table's answer is the greatest of what lies below the outputs of the triples above the call.
use Rattle.std.proofs.Common.{◌≡◌, true, false, List, [], ◌∷◌, length, map, Option, Some, None, refl, sym, ◌∙◌, ap, subst, inl, inr}
use Rattle.std.specs.Prelude.{All, ◌↔◌, if◌then◌else◌, filter, ◌==◌}
use Rattle.std.specs.List.{AllByRecursion, Contains}
use Rattle.std.proofs.lemmas.Bool.{and_parts, and_from, eq-eqb, cond_both, cond-true, cond-false, cases_Bool, both_ways, false≢true}
use Rattle.std.proofs.lemmas.List.Elements.{All-from_recursion, recursion_from_All, All-weaker, All-contains}
use Rattle.std.proofs.lemmas.Option.{none-some, same_Some}
use lib.Pointwise.{pointwise_long}
use Rattle.sk_def.specs.declared.ids.HookId.{HookId}
use Rattle.sk_lattice.specs.declared.store.AbsStore.{AbsStore}
use Rattle.sk_lattice.specs.declared.store.AbsStore.TheVariants.{Empty, Cells}
use Rattle.sk_lattice.specs.declared.flow.AbsFlow.{AbsFlow}
use Rattle.sk_lattice.specs.declared.flow.AbsFlow.TheVariants as flow
use Rattle.sk_lattice.specs.Domain.{Domain}
use Rattle.sk_lattice.specs.Empty.{flow_is_proper, is_proper}
use Rattle.sk_lattice.specs.Laws.{TupleLaws}
use Rattle.sk_lattice.specs.Merge.{tuple_meet}
use Rattle.sk_lattice.specs.Order.{cell_leq, store_leq, flow_leq, tuple_leq, stores_fit, flows_fit, tuples_fit}
use Rattle.sk_lattice.proofs.Parts.{false_from}
use Rattle.sk_absfilter.specs.Abstract.{Outcome}
use Rattle.sk_absfilter.specs.Laws.{outcome_leq}
use Rattle.sk_table.specs.declared.triple.Triple.{Triple}
use Rattle.sk_table.specs.declared.triple.Cover.{Cover}
use Rattle.sk_abswalk.specs.Tables.{is_above, outcome_meet, meet_from, table_answer}
use Rattle.sk_abswalk.specs.Order.{CallLeq, AnswerBelow, IsProperOutcome}
use Rattle.sk_abswalk.specs.Answered.{IsGreatestBound, IsProperTable, StandIn, AnswersAreMeets, AnswersAreMonotone}

-- What lies above a proper tuple is of its sorts.
module _ (D : Type 0) (d : Domain D) where
  stores_fit_above : (s a b : AbsStore D) → flow_is_proper d (flow.Store s) ≡ true → store_leq d s a ≡ true → store_leq d s b ≡ true → stores_fit a b ≡ true
  stores_fit_above Empty a b p h k = absurd (false≢true p)
  stores_fit_above (Cells s) Empty b p h k = refl
  stores_fit_above (Cells s) (Cells a) Empty p h k = refl
  stores_fit_above (Cells s) (Cells a) (Cells b) p h k = eq-eqb (length a) (length b) (sym (pointwise_long (cell_leq d) s a h) ∙ pointwise_long (cell_leq d) s b k)

  flows_fit_above : (c a b : AbsFlow D) → flow_is_proper d c ≡ true → flow_leq d c a ≡ true → flow_leq d c b ≡ true → flows_fit a b ≡ true
  flows_fit_above (flow.Int c) (flow.Int a) (flow.Int b) p h k = refl
  flows_fit_above (flow.Bool c) (flow.Bool a) (flow.Bool b) p h k = refl
  flows_fit_above (flow.Val c) (flow.Val a) (flow.Val b) p h k = refl
  flows_fit_above (flow.Store c) (flow.Store a) (flow.Store b) p h k = stores_fit_above c a b p h k
  flows_fit_above _ _ _ p h k = absurd cc

  tuples_fit_above : (c a b : List (AbsFlow D)) → is_proper d c ≡ true → tuple_leq d c a ≡ true → tuple_leq d c b ≡ true → tuples_fit a b ≡ true
  tuples_fit_above [] [] [] p h k = refl
  tuples_fit_above (z ∷ c) (x ∷ a) (y ∷ b) p h k =
      let o = and_parts _ _ p in
      let l = and_parts _ _ h in
      let r = and_parts _ _ k in
      and_from _ _ (flows_fit_above z x y o.0 l.0 r.0) (tuples_fit_above c a b o.1 l.1 r.1)
  tuples_fit_above _ _ _ p h k = absurd cc

-- The outputs of the triples above a call, and these triples.
module _ {D : Type 0} (d : Domain D) (c : Cover D) where
  abbrev outputs_above : List (Triple D) → List (Outcome D)
  outputs_above table = map (λ triple. triple.outs) (filter (is_above d c) table)

  outputs_from : (P : Outcome D → Type 0) (table : List (Triple D)) → AllByRecursion (λ triple. is_above d c triple ≡ true → P triple.outs) table → AllByRecursion P (outputs_above table)
  outputs_from P [] h = tt
  outputs_from P (t ∷ table) h =
      cond_both (is_above d c t) (t ∷ filter (is_above d c) table) (filter (is_above d c) table) (λ l. AllByRecursion P (map (λ triple. triple.outs) l))
      (λ yes. (h.0 yes, outputs_from P table h.1))
      (λ _. outputs_from P table h.1)

  from_outputs : (P : Outcome D → Type 0) (table : List (Triple D)) → AllByRecursion P (outputs_above table) → AllByRecursion (λ triple. is_above d c triple ≡ true → P triple.outs) table
  from_outputs P [] h = tt
  from_outputs P (t ∷ table) h =
      elim (cases_Bool (is_above d c t)) [
        | inl above ↦
            let k = subst (λ l. AllByRecursion P (map (λ triple. triple.outs) l)) (cond-true (is_above d c t) (t ∷ filter (is_above d c) table) (filter (is_above d c) table) above) h in
            (λ _. k.0, from_outputs P table k.1)
        | inr beside ↦
            let k = subst (λ l. AllByRecursion P (map (λ triple. triple.outs) l)) (cond-false (is_above d c t) (t ∷ filter (is_above d c) table) (filter (is_above d c) table) beside) h in
            (λ yes. absurd (both_ways (is_above d c t) beside yes), from_outputs P table k)
      ]

  -- something is met as soon as there is an outcome
  some_met : (os : List (Outcome D)) (m : Outcome D) → meet_from d (Some m) os ≡ None → ⊥
  some_met [] m e = none-some m (sym e)
  some_met (x ∷ os) m e = some_met os (outcome_meet d m x) e

  none_from : (table : List (Triple D)) → meet_from d None (outputs_above table) ≡ None → AllByRecursion (λ triple. is_above d c triple ≡ false) table
  none_from [] e = tt
  none_from (t ∷ table) e =
      elim (cases_Bool (is_above d c t)) [
        | inl above ↦ absurd (some_met (outputs_above table) t.outs
            (subst (λ l. meet_from d None (map (λ triple. triple.outs) l) ≡ None) (cond-true (is_above d c t) (t ∷ filter (is_above d c) table) (filter (is_above d c) table) above) e))
        | inr beside ↦ (
          beside,
          none_from table
              (subst (λ l. meet_from d None (map (λ triple. triple.outs) l) ≡ None) (cond-false (is_above d c t) (t ∷ filter (is_above d c) table) (filter (is_above d c) table) beside) e),
        )
      ]

  none_there : (table : List (Triple D)) → AllByRecursion (λ triple. is_above d c triple ≡ false) table → meet_from d None (outputs_above table) ≡ None
  none_there [] h = refl
  none_there (t ∷ table) h =
      ap (λ l. meet_from d None (map (λ triple. triple.outs) l)) (cond-false (is_above d c t) (t ∷ filter (is_above d c) table) (filter (is_above d c) table) h.0) ∙ none_there table h.1

module _ (D : Type 0) (d : Domain D) (tuples : TupleLaws d) where
  -- The order of outcomes.
  outcome_refl : (o : Outcome D) → outcome_leq d o o ≡ true
  outcome_refl None = refl
  outcome_refl (Some a) = tuples.leq_refl a

  outcome_trans : (x y z : Outcome D) → outcome_leq d x y ≡ true → outcome_leq d y z ≡ true → outcome_leq d x z ≡ true
  outcome_trans None y z h k = refl
  outcome_trans (Some a) None z h k = absurd (false≢true h)
  outcome_trans (Some a) (Some b) None h k = absurd (false≢true k)
  outcome_trans (Some a) (Some b) (Some e) h k = tuples.leq_trans a b e h k

  outcome_antisym : (x y : Outcome D) → outcome_leq d x y ≡ true → outcome_leq d y x ≡ true → x ≡ y
  outcome_antisym None None h k = refl
  outcome_antisym None (Some b) h k = absurd (false≢true k)
  outcome_antisym (Some a) None h k = absurd (false≢true h)
  outcome_antisym (Some a) (Some b) h k = ap Some (tuples.leq_antisym a b h k)

  -- The meet of two outcomes, which is none where they are of two sorts.
  left : (a b : Outcome D) → outcome_leq d (outcome_meet d a b) a ≡ true
  left None b = refl
  left (Some a) None = refl
  left (Some a) (Some b) = cond_both (tuples_fit a b) (tuple_meet d a b) None (λ o. outcome_leq d o (Some a) ≡ true) (λ fit. met fit (tuple_meet d a b) refl) (λ _. refl)
    where
      met : tuples_fit a b ≡ true → (o : Outcome D) → tuple_meet d a b ≡ o → outcome_leq d o (Some a) ≡ true
      met fit None e = refl
      met fit (Some m) e = tuples.meet_left a b m fit e

  right : (a b : Outcome D) → outcome_leq d (outcome_meet d a b) b ≡ true
  right None b = refl
  right (Some a) None = refl
  right (Some a) (Some b) = cond_both (tuples_fit a b) (tuple_meet d a b) None (λ o. outcome_leq d o (Some b) ≡ true) (λ fit. met fit (tuple_meet d a b) refl) (λ _. refl)
    where
      met : tuples_fit a b ≡ true → (o : Outcome D) → tuple_meet d a b ≡ o → outcome_leq d o (Some b) ≡ true
      met fit None e = refl
      met fit (Some m) e = tuples.meet_right a b m fit e

  above_proper : (o a b : Outcome D) → IsProperOutcome d o → outcome_leq d o a ≡ true → outcome_leq d o b ≡ true → outcome_leq d o (outcome_meet d a b) ≡ true
  above_proper None a b p h k = refl
  above_proper (Some o) None b p h k = absurd (false≢true h)
  above_proper (Some o) (Some a) None p h k = absurd (false≢true k)
  above_proper (Some o) (Some a) (Some b) p h k =
      let m = tuples.meet_greatest a b o p h k in
      subst (λ fit. outcome_leq d (Some o) (if fit then tuple_meet d a b else None) ≡ true) (sym (tuples_fit_above D d o a b p h k)) (subst (λ r. outcome_leq d (Some o) r ≡ true) (sym m.is) m.above)

  meet_is_proper : (a b : Outcome D) → IsProperOutcome d (outcome_meet d a b)
  meet_is_proper None b = tt
  meet_is_proper (Some a) None = tt
  meet_is_proper (Some a) (Some b) = cond_both (tuples_fit a b) (tuple_meet d a b) None (IsProperOutcome d) (λ fit. met fit (tuple_meet d a b) refl) (λ _. tt)
    where
      met : tuples_fit a b ≡ true → (o : Outcome D) → tuple_meet d a b ≡ o → IsProperOutcome d o
      met fit None e = tt
      met fit (Some m) e = tuples.meet_proper a b m fit e

  -- The meet of all.
  below_first : (os : List (Outcome D)) (m o : Outcome D) → meet_from d (Some m) os ≡ Some o → outcome_leq d o m ≡ true
  below_first [] m o e = subst (λ x. outcome_leq d x m ≡ true) (same_Some m o e) (outcome_refl m)
  below_first (x ∷ os) m o e = outcome_trans o (outcome_meet d m x) m (below_first os (outcome_meet d m x) o e) (left m x)

  below_each : (os : List (Outcome D)) (met : Option (Outcome D)) (o : Outcome D) → meet_from d met os ≡ Some o → AllByRecursion (λ x. outcome_leq d o x ≡ true) os
  below_each [] met o e = tt
  below_each (x ∷ os) None o e = (below_first os x o e, below_each os (Some x) o e)
  below_each (x ∷ os) (Some m) o e =
      (outcome_trans o (outcome_meet d m x) x (below_first os (outcome_meet d m x) o e) (right m x), below_each os (Some (outcome_meet d m x)) o e)

  above_all : (o : Outcome D) → IsProperOutcome d o → (os : List (Outcome D)) → AllByRecursion (λ x. outcome_leq d o x ≡ true) os → (met : Option (Outcome D)) → ((m : Outcome D) → met ≡ Some m → outcome_leq d o m ≡ true) → (outs : Outcome D) → meet_from d met os ≡ Some outs → outcome_leq d o outs ≡ true
  above_all o p [] all met h outs e = h outs e
  above_all o p (x ∷ os) all None h outs e = above_all o p os all.1 (Some x) (λ m same. subst (λ y. outcome_leq d o y ≡ true) (same_Some x m same) all.0) outs e
  above_all o p (x ∷ os) all (Some m) h outs e =
      above_all o p os all.1 (Some (outcome_meet d m x)) (λ n same. subst (λ y. outcome_leq d o y ≡ true) (same_Some (outcome_meet d m x) n same) (above_proper o m x p (h m refl) all.0)) outs e

  all_proper : (os : List (Outcome D)) → AllByRecursion (IsProperOutcome d) os → (met : Option (Outcome D)) → ((m : Outcome D) → met ≡ Some m → IsProperOutcome d m) → (outs : Outcome D) → meet_from d met os ≡ Some outs → IsProperOutcome d outs
  all_proper [] all met h outs e = h outs e
  all_proper (x ∷ os) all None h outs e = all_proper os all.1 (Some x) (λ m same. subst (IsProperOutcome d) (same_Some x m same) all.0) outs e
  all_proper (x ∷ os) all (Some m) h outs e = all_proper os all.1 (Some (outcome_meet d m x)) (λ n same. subst (IsProperOutcome d) (same_Some (outcome_meet d m x) n same) (meet_is_proper m x)) outs e

  -- The answers of tables.
  abbrev AllAbove : Cover D → (Outcome D → Type 0) → List (Triple D) → Type 0
  AllAbove c P table = All (λ triple. is_above d c triple ≡ true → P triple.outs) table

  of_outputs : (c : Cover D) (P : Outcome D → Type 0) (table : List (Triple D)) → AllAbove c P table → AllByRecursion P (outputs_above d c table)
  of_outputs c P table h = outputs_from d c P table (recursion_from_All (λ triple. is_above d c triple ≡ true → P triple.outs) table h)

  to_outputs : (c : Cover D) (P : Outcome D → Type 0) (table : List (Triple D)) → AllByRecursion P (outputs_above d c table) → AllAbove c P table
  to_outputs c P table h = All-from_recursion (λ triple. is_above d c triple ≡ true → P triple.outs) table (from_outputs d c P table h)

  none_exactly : (table : List (Triple D)) (c : Cover D) → (table_answer d table c ≡ None) ↔ All (λ triple. is_above d c triple ≡ false) table
  none_exactly table c = (
    λ e. All-from_recursion (λ triple. is_above d c triple ≡ false) table (none_from d c table e),
    λ h. none_there d c table (recursion_from_All (λ triple. is_above d c triple ≡ false) table h),
  )

  greatest_bound : (table : List (Triple D)) (c : Cover D) (outs : Outcome D) → table_answer d table c ≡ Some outs → IsGreatestBound d table c outs
  greatest_bound table c outs e = record {
    below = to_outputs c (λ x. outcome_leq d outs x ≡ true) table (below_each (outputs_above d c table) None outs e);
    greatest = λ o p h. above_all o p (outputs_above d c table) (of_outputs c (λ x. outcome_leq d o x ≡ true) table h) None (λ m same. absurd (none-some m same)) outs e;
  }

  proper_above : (table : List (Triple D)) (c : Cover D) → AllAbove c (IsProperOutcome d) table → (outs : Outcome D) → table_answer d table c ≡ Some outs → IsProperOutcome d outs
  proper_above table c h outs e = all_proper (outputs_above d c table) (of_outputs c (IsProperOutcome d) table h) None (λ m same. absurd (none-some m same)) outs e

  proper_answer : (table : List (Triple D)) → IsProperTable d table → (c : Cover D) (outs : Outcome D) → table_answer d table c ≡ Some outs → IsProperOutcome d outs
  proper_answer table h c outs e =
      proper_above table c (All-weaker (λ triple. IsProperOutcome d triple.outs) (λ triple. is_above d c triple ≡ true → IsProperOutcome d triple.outs) (λ triple p _. p) table h) outs e

  -- what holds of the outputs of a table's triples above the call holds of those that stand in it
  carried : (c : Cover D) (P : Outcome D → Type 0) (table other : List (Triple D)) → StandIn d c table other → AllAbove c P table → AllAbove c P other
  carried c P table other stand h =
      All-weaker (λ triple. is_above d c triple ≡ true → Contains table triple) (λ triple. is_above d c triple ≡ true → P triple.outs)
      (λ triple there yes. All-contains (λ t. is_above d c t ≡ true → P t.outs) table triple h (there yes) yes) other stand

  none_too : (c : Cover D) (table other : List (Triple D)) → StandIn d c table other → table_answer d table c ≡ None → table_answer d other c ≡ None
  none_too c table other stand e =
      (none_exactly other c).1 (All-weaker (λ triple. is_above d c triple ≡ true → Contains table triple) (λ triple. is_above d c triple ≡ false)
      (λ triple there. false_from (is_above d c triple) (λ yes. both_ways (is_above d c triple) (All-contains (λ t. is_above d c t ≡ false) table triple ((none_exactly table c).0 e) (there yes)) yes)) other stand)

  same_answers : (table other : List (Triple D)) → IsProperTable d table → (c : Cover D) → StandIn d c other table → StandIn d c table other → table_answer d table c ≡ table_answer d other c
  same_answers table other proper c there back = by (table_answer d table c) (table_answer d other c) refl refl
    where
      own : AllAbove c (IsProperOutcome d) table
      own = All-weaker (λ triple. IsProperOutcome d triple.outs) (λ triple. is_above d c triple ≡ true → IsProperOutcome d triple.outs) (λ triple p _. p) table proper

      by : (x y : Option (Outcome D)) → table_answer d table c ≡ x → table_answer d other c ≡ y → x ≡ y
      by None y e k = sym (none_too c table other back e) ∙ k
      by (Some x) None e k = sym e ∙ none_too c other table there k
      by (Some x) (Some y) e k =
          let mine = greatest_bound table c x e in
          let theirs = greatest_bound other c y k in
          ap Some (outcome_antisym x y
          (theirs.greatest x (proper_above table c own x e) (carried c (λ z. outcome_leq d x z ≡ true) table other back mine.below))
          (mine.greatest y (proper_above other c (carried c (IsProperOutcome d) table other back own) y k) (carried c (λ z. outcome_leq d y z ≡ true) other table there theirs.below)))

  pub answers_are_meets : AnswersAreMeets d
  answers_are_meets = record { none = none_exactly; greatest = greatest_bound; proper = proper_answer; same = same_answers }

  -- what is above a call is above each lesser one
  above_lesser : (c e : Cover D) → CallLeq d c e → (triple : Triple D) → is_above d e triple ≡ true → is_above d c triple ≡ true
  above_lesser c e less triple h =
      let p = and_parts _ _ h in
      let q = and_parts _ _ p.1 in
      and_from _ _ (subst (λ (k : HookId). (triple.hook.0 == k.0) ≡ true) (sym less.same_hook) p.0)
      (and_from _ _ (subst (λ k. (triple.point == k) ≡ true) (sym less.same_point) q.0) (tuples.leq_trans c.ins e.ins triple.ins less.ins_leq q.1))

  pub answers_are_monotone : AnswersAreMonotone d
  answers_are_monotone table proper c e less o k = by (table_answer d table c) refl
    where
      none_above : table_answer d table c ≡ None → table_answer d table e ≡ None
      none_above h =
          (none_exactly table e).1 (All-weaker (λ triple. is_above d c triple ≡ false) (λ triple. is_above d e triple ≡ false)
          (λ triple not_above. false_from (is_above d e triple) (λ yes. both_ways (is_above d c triple) not_above (above_lesser c e less triple yes))) table ((none_exactly table c).0 h))

      by : (x : Option (Outcome D)) → table_answer d table c ≡ x → AnswerBelow d (table_answer d table) c o
      by None h = absurd (none-some o (sym (none_above h) ∙ k))
      by (Some x) h =
          let own = greatest_bound table c x h in
          record {
            outs = x;
            is = h;
            leq = (greatest_bound table e o k).greatest x (proper_answer table proper c x h)
                (All-weaker (λ triple. is_above d c triple ≡ true → outcome_leq d x triple.outs ≡ true) (λ triple. is_above d e triple ≡ true → outcome_leq d x triple.outs ≡ true)
                (λ triple lies yes. lies (above_lesser c e less triple yes)) table own.below);
          }
