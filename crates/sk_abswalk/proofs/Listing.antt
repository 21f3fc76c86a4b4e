-- What a list of triples answers is what the table that it lists answers, and both are accepted alike.
use Rattle.std.proofs.Common.{◌≡◌, Bool, ℤ, true, false, ◌==◌, ◌&&◌, ◌||◌, List, [], ◌∷◌, map, Option, Some, None, Ok, refl, sym, ◌∙◌, ap, subst, inl, inr}
use Rattle.std.specs.List.{AllByRecursion, list_any, filter}
use Rattle.std.proofs.lemmas.Bool.{and_parts, and_from, cases_Bool, cond-true, cond-false, false≢true, both_ways, or_cases}
use Rattle.std.proofs.lemmas.Option.{none-some, same_Some}
use Rattle.std.proofs.lemmas.List.Elements.{All-from_recursion, recursion_from_All}
use Rattle.sk_deriv.specs.Moves.{Setting}
use Rattle.sk_lattice.specs.Domain.{Domain}
use Rattle.sk_lattice.specs.Laws.{TupleLaws}
use Rattle.sk_lattice.specs.Merge.{tuple_meet}
use Rattle.sk_lattice.specs.Order.{tuple_leq, tuples_fit}
use Rattle.sk_lattice.specs.Shapes.{ShapeLaws}
use Rattle.sk_absfilter.specs.Abstract.{Outcome}
use Rattle.sk_table.specs.declared.triple.Triple.{Triple}
use Rattle.sk_table.specs.declared.triple.Cover.{Cover}
use Rattle.sk_rounds.specs.Walks.{Inputs, Outputs, Table, Walks, side_leq, FitSide, FitTable, CallsBelow}
use Rattle.sk_rounds.specs.Accepted.{answer_at, answer, JustifiedBy, AcceptedBy}
use Rattle.sk_rounds.proofs.Lists.{all_more}
use Rattle.sk_abswalk.specs.Walk.{Flows, Ends, uncovered, ill, with, Answers, abstract_walk}
use Rattle.sk_abswalk.specs.Tables.{is_above, outcome_meet, meet_from, table_answer, call_of, lies_below, is_justified, is_covered}
use Rattle.sk_abswalk.specs.Tables as tables
use Rattle.sk_abswalk.specs.Reading.{Key, same_key, call_with, key_of, keyed, walks_of, asked_end, asks_of}
use Rattle.sk_abswalk.specs.LeastTable.{key_of_triple, Lists}
use Rattle.sk_abswalk.proofs.Keys.{same_key_only}
use Rattle.sk_abswalk.proofs.KeySides.{side_fits}
use Rattle.sk_abswalk.proofs.WalkLaws.{leq_side, leq_outcome}

-- Tests over lists.

pub any_more : {A : Type 0} (P : A → Type 0) (f g : A → Bool) → ((x : A) → P x → f x ≡ true → g x ≡ true) → (xs : List A) → AllByRecursion P xs → list_any f xs ≡ true → list_any g xs ≡ true
any_more P f g step [] h e = absurd (false≢true e)
any_more P f g step (x ∷ xs) h e =
    elim (or_cases (f x) (list_any f xs) e) [
      | inl t ↦ ap (λ b. b || list_any g xs) (step x h.0 t)
      | inr t ↦ right (g x) (any_more P f g step xs h.1 t)
    ]
  where
    right : (a : Bool) {b : Bool} → b ≡ true → (a || b) ≡ true
    right true e = refl
    right false e = e

-- what holds of an entry that a test finds
pub any_at : {A : Type 0} (P : A → Type 0) (f : A → Bool) (Q : Type 0) → ((x : A) → P x → f x ≡ true → Q) → (xs : List A) → AllByRecursion P xs → list_any f xs ≡ true → Q
any_at P f Q step [] h e = absurd (false≢true e)
any_at P f Q step (x ∷ xs) h e =
    elim (or_cases (f x) (list_any f xs) e) [
      | inl t ↦ step x h.0 t
      | inr t ↦ any_at P f Q step xs h.1 t
    ]

none_kept : {A : Type 0} (f : A → Bool) (xs : List A) → AllByRecursion (λ x. f x ≡ false) xs → filter f xs ≡ []
none_kept f [] h = refl
none_kept f (x ∷ xs) h = cond-false (f x) (x ∷ filter f xs) (filter f xs) h.0 ∙ none_kept f xs h.1

module _ (D : Type 0) (d : Domain D) (tuples : TupleLaws d) (shapes : ShapeLaws d) (s : Setting) (finite : Bool) (marks : List ℤ) (covers : List (Cover D)) where
  abbrev w : Walks Key (Flows D)
  w = walks_of d finite marks s covers

  -- an outcome meets itself to itself
  meets_itself : (k : Key) (o : Outcome D) → FitSide w k Outputs o → outcome_meet d o o ≡ o
  meets_itself k None f = refl
  meets_itself k (Some a) f =
      let h = side_fits D d s k Outputs a f in
      let m = tuples.meet_greatest a a a h.proper (tuples.leq_refl a) (tuples.leq_refl a) in
      let same_sorts = shapes.sorts_fit s.names _ a a h.sorted h.sorted in
      let below = tuples.meet_left a a m.meet same_sorts m.is in
      cond-true (tuples_fit a a) (tuple_meet d a a) None same_sorts ∙ m.is ∙ ap Some (tuples.leq_antisym m.meet a below m.above)

  -- a triple above a call is of its key
  record IsAboveCall (c : Cover D) (t : Triple D) : Type 0 where
    same : key_of_triple t ≡ key_of c
    leq : tuple_leq d c.ins t.ins ≡ true

  above_call : (c : Cover D) (t : Triple D) → is_above d c t ≡ true → IsAboveCall c t
  above_call c t e =
      let p = and_parts (t.hook.0 == c.hook.0) ((t.point == c.point) && tuple_leq d c.ins t.ins) e in
      let q = and_parts (t.point == c.point) (tuple_leq d c.ins t.ins) p.1 in
      record { same = same_key_only (key_of_triple t) (key_of c) (and_from (t.hook.0 == c.hook.0) (t.point == c.point) p.0 q.0); leq = q.1 }

  call_above : (c : Cover D) (t : Triple D) → same_key (key_of_triple t) (key_of c) ≡ true → tuple_leq d c.ins t.ins ≡ true → is_above d c t ≡ true
  call_above c t e leq =
      let p = and_parts (t.hook.0 == c.hook.0) (t.point == c.point) e in
      and_from (t.hook.0 == c.hook.0) ((t.point == c.point) && tuple_leq d c.ins t.ins) p.0 (and_from (t.point == c.point) (tuple_leq d c.ins t.ins) p.1 leq)

  module _ (U : List (Triple D)) (T : Table Key (Flows D)) (lists : Lists U T) (fits : FitTable w T) where
    -- the triple is the table's at its key
    abbrev IsOf : Triple D → Type 0
    IsOf t = (T (key_of_triple t) Inputs ≡ Some t.ins) × (T (key_of_triple t) Outputs ≡ t.outs)

    ins_at : (c : Cover D) (t : Triple D) → IsOf t → key_of_triple t ≡ key_of c → T (key_of c) Inputs ≡ Some t.ins
    ins_at c t h e = subst (λ k. T k Inputs ≡ Some t.ins) e h.0

    outs_at : (c : Cover D) (t : Triple D) → IsOf t → key_of_triple t ≡ key_of c → t.outs ≡ T (key_of c) Outputs
    outs_at c t h e = subst (λ k. t.outs ≡ T k Outputs) e (sym h.1)

    -- where the key's inputs don't lie above a call, no triple does
    none_above : (c : Cover D) → ((a : Flows D) → T (key_of c) Inputs ≡ Some a → tuple_leq d c.ins a ≡ false) → (ts : List (Triple D)) → AllByRecursion IsOf ts → AllByRecursion (λ t. is_above d c t ≡ false) ts
    none_above c not_under ts h = all_more IsOf (λ t. is_above d c t ≡ false) fails ts h
      where
        fails : (t : Triple D) → IsOf t → is_above d c t ≡ false
        fails t p =
            elim (cases_Bool (is_above d c t)) [
              | inl e ↦ (let a = above_call c t e in absurd (both_ways (tuple_leq d c.ins t.ins) (not_under t.ins (ins_at c t p a.same)) a.leq))
              | inr n ↦ n
            ]

    -- the outputs of all triples above a call are those of its key
    meets_same : (c : Cover D) (ts : List (Triple D)) → AllByRecursion IsOf ts → meet_from d (Some (T (key_of c) Outputs)) (map (λ t. t.outs) (filter (is_above d c) ts)) ≡ Some (T (key_of c) Outputs)
    meets_same c [] h = refl
    meets_same c (t ∷ ts) h =
        elim (cases_Bool (is_above d c t)) [
          | inl e ↦ ap met_with (cond-true (is_above d c t) (t ∷ filter (is_above d c) ts) (filter (is_above d c) ts) e)
              ∙ ap (λ o. meet_from d (Some (outcome_meet d outs o)) (map (λ t. t.outs) (filter (is_above d c) ts))) (outs_at c t h.0 (above_call c t e).same)
              ∙ ap (λ o. meet_from d (Some o) (map (λ t. t.outs) (filter (is_above d c) ts))) (meets_itself (key_of c) outs (fits (key_of c) Outputs))
              ∙ meets_same c ts h.1
          | inr n ↦ ap met_with (cond-false (is_above d c t) (t ∷ filter (is_above d c) ts) (filter (is_above d c) ts) n) ∙ meets_same c ts h.1
        ]
      where
        outs : Outcome D
        outs = T (key_of c) Outputs

        met_with : List (Triple D) → Option (Outcome D)
        met_with l = meet_from d (Some (T (key_of c) Outputs)) (map (λ t. t.outs) l)

    meets_first : (c : Cover D) (ts : List (Triple D)) → AllByRecursion IsOf ts → list_any (is_above d c) ts ≡ true → meet_from d None (map (λ t. t.outs) (filter (is_above d c) ts)) ≡ Some (T (key_of c) Outputs)
    meets_first c [] h e = absurd (false≢true e)
    meets_first c (t ∷ ts) h e =
        elim (cases_Bool (is_above d c t)) [
          | inl y ↦ ap (λ l. meet_from d None (map (λ t. t.outs) l)) (cond-true (is_above d c t) (t ∷ filter (is_above d c) ts) (filter (is_above d c) ts) y)
              ∙ ap (λ o. meet_from d (Some o) (map (λ t. t.outs) (filter (is_above d c) ts))) (outs_at c t h.0 (above_call c t y).same)
              ∙ meets_same c ts h.1
          | inr n ↦ ap (λ l. meet_from d None (map (λ t. t.outs) l)) (cond-false (is_above d c t) (t ∷ filter (is_above d c) ts) (filter (is_above d c) ts) n)
              ∙ meets_first c ts h.1 (subst (λ b. (b || list_any (is_above d c) ts) ≡ true) n e)
        ]

    -- a triple of the call's key lies above it where the key's inputs do
    some_above : (c : Cover D) (a : Flows D) → T (key_of c) Inputs ≡ Some a → tuple_leq d c.ins a ≡ true → list_any (is_above d c) U ≡ true
    some_above c a e leq =
        any_more IsOf (λ t. same_key (key_of_triple t) (key_of c)) (is_above d c)
        (λ t h k. call_above c t k (subst (λ x. tuple_leq d c.ins x ≡ true) (same_Some a t.ins (sym e ∙ ins_at c t h (same_key_only (key_of_triple t) (key_of c) k))) leq))
        U lists.each (lists.has (key_of c) a e)

    answer_is : (c : Cover D) (x : Outcome D) → T (key_of c) Inputs ≡ x → table_answer d U c ≡ answer_at w (T (key_of c) Outputs) c.ins x
    answer_is c None e = ap (λ l. meet_from d None (map (λ t. t.outs) l)) (none_kept (is_above d c) U (none_above c (λ a h. absurd (none-some a (sym e ∙ h))) U lists.each))
    answer_is c (Some a) e =
        elim (cases_Bool (tuple_leq d c.ins a)) [
          | inl y ↦ meets_first c U lists.each (some_above c a e y) ∙ sym (cond-true (tuple_leq d c.ins a) (Some (T (key_of c) Outputs)) None y)
          | inr n ↦ ap (λ l. meet_from d None (map (λ t. t.outs) l)) (none_kept (is_above d c) U (none_above c (λ b h. subst (λ x. tuple_leq d c.ins x ≡ false) (same_Some a b (sym e ∙ h)) n) U lists.each))
              ∙ sym (cond-false (tuple_leq d c.ins a) (Some (T (key_of c) Outputs)) None n)
        ]

    -- a list answers as its table
    pub answers_are : table_answer d U ≡ (λ c. answer w T (key_of c) c.ins)
    answers_are = λ i c. answer_is c (T (key_of c) Inputs) refl i

    -- cover lines
    pub covered_is : (c : Cover D) → is_covered d U c ≡ true → side_leq w (Some c.ins) (T (key_of c) Inputs) ≡ true
    covered_is c e =
        any_at IsOf (is_above d c) (side_leq w (Some c.ins) (T (key_of c) Inputs) ≡ true)
        (λ t h y. let a = above_call c t y in subst (λ x. side_leq w (Some c.ins) x ≡ true) (sym (ins_at c t h a.same)) a.leq) U lists.each e

    pub is_covered_by : (c : Cover D) → side_leq w (Some c.ins) (T (key_of c) Inputs) ≡ true → is_covered d U c ≡ true
    is_covered_by c e = at (T (key_of c) Inputs) refl e
      where
        at : (x : Outcome D) → T (key_of c) Inputs ≡ x → side_leq w (Some c.ins) x ≡ true → is_covered d U c ≡ true
        at None is h = absurd (false≢true h)
        at (Some a) is h = some_above c a is h

    -- the end of a triple's walk under what the table answers
    abbrev end_of : Key → Flows D → Ends D (Flows D)
    end_of k ins = (abstract_walk d (λ c. answer w T (key_of c) c.ins) s (call_with k ins)).ends

    ends_below : (k : Key) (ins : Flows D) (outs gives : Outcome D) (ends : Ends D (Flows D)) → asked_end (record { key = k; args = ins }) ends ≡ Ok gives → side_leq w gives outs ≡ true → lies_below d ends outs ≡ true
    ends_below k ins outs gives (uncovered c) e le = cc
    ends_below k ins outs gives ill e le = cc
    ends_below k ins outs gives (with o) e le = let same : o ≡ gives = cc in leq_outcome D d finite marks s covers o outs (subst (λ x. side_leq w x outs ≡ true) (sym same) le)

    justified_from : (t : Triple D) → IsOf t → JustifiedBy w (asks_of d s) T (key_of_triple t) t.ins → is_justified d s U t ≡ true
    justified_from t h j =
        subst (λ (answers : Answers D). lies_below d (abstract_walk d answers s (call_of t)).ends t.outs ≡ true) (sym answers_are)
        (ends_below (key_of_triple t) t.ins t.outs j.gives (end_of (key_of_triple t) t.ins) j.is (subst (λ o. side_leq w j.gives o ≡ true) h.1 j.below))

    ends_justify : (k : Key) (ins : Flows D) (outs : Outcome D) (ends : Ends D (Flows D)) → end_of k ins ≡ ends → outs ≡ T k Outputs → lies_below d ends outs ≡ true → JustifiedBy w (asks_of d s) T k ins
    ends_justify k ins outs (uncovered c) is same e = absurd (false≢true e)
    ends_justify k ins outs ill is same e = absurd (false≢true e)
    ends_justify k ins outs (with o) is same e =
        record {
          gives = o;
          is = ap (asked_end (record { key = k; args = ins })) is;
          below = subst (λ x. side_leq w o x ≡ true) same (leq_side D d finite marks s covers o outs e);
        }

    from_justified : (t : Triple D) → IsOf t → is_justified d s U t ≡ true → JustifiedBy w (asks_of d s) T (key_of_triple t) t.ins
    from_justified t h e =
        ends_justify (key_of_triple t) t.ins t.outs (end_of (key_of_triple t) t.ins) refl (sym h.1)
        (subst (λ (answers : Answers D). lies_below d (abstract_walk d answers s (call_of t)).ends t.outs ≡ true) answers_are e)

    all_justified : AcceptedBy w (asks_of d s) T → (ts : List (Triple D)) → AllByRecursion IsOf ts → AllByRecursion (λ t. is_justified d s U t ≡ true) ts
    all_justified a ts h = all_more IsOf (λ t. is_justified d s U t ≡ true) (λ t p. justified_from t p (a.justified (key_of_triple t) t.ins p.0)) ts h

    all_covered : (cs : List (Cover D)) → CallsBelow w (map keyed cs) (λ k. T k Inputs) → AllByRecursion (λ c. is_covered d U c ≡ true) cs
    all_covered [] h = tt
    all_covered (c ∷ cs) h = (is_covered_by c h.0, all_covered cs h.1)

    covered_all : (cs : List (Cover D)) → AllByRecursion (λ c. is_covered d U c ≡ true) cs → CallsBelow w (map keyed cs) (λ k. T k Inputs)
    covered_all [] h = tt
    covered_all (c ∷ cs) h = (covered_is c h.0, covered_all cs h.1)

    both_of : (ts : List (Triple D)) → AllByRecursion IsOf ts → AllByRecursion (λ t. is_justified d s U t ≡ true) ts → AllByRecursion (λ t. IsOf t × (is_justified d s U t ≡ true)) ts
    both_of [] h k = tt
    both_of (t ∷ ts) h k = ((h.0, k.0), both_of ts h.1 k.1)

    pub list_accepted : AcceptedBy w (asks_of d s) T → tables.IsAccepted d s covers U
    list_accepted a = record { justified = All-from_recursion _ U (all_justified a U lists.each); covered = All-from_recursion _ covers (all_covered covers a.covers) }

    pub accepted_list : tables.IsAccepted d s covers U → AcceptedBy w (asks_of d s) T
    accepted_list a =
        record {
          covers = covered_all covers (recursion_from_All _ covers a.covered);
          justified = λ k ins e.
              any_at (λ t. IsOf t × (is_justified d s U t ≡ true)) (λ t. same_key (key_of_triple t) k) (JustifiedBy w (asks_of d s) T k ins)
              (λ t h y. let same = same_key_only (key_of_triple t) k y in let ins_same : t.ins ≡ ins = same_Some t.ins ins (sym (subst (λ j. T j Inputs ≡ Some t.ins) same h.0.0) ∙ e) in subst (λ x. JustifiedBy w (asks_of d s) T k x) ins_same (subst (λ j. JustifiedBy w (asks_of d s) T j t.ins) same (from_justified t h.0 h.1)))
              U (both_of U lists.each (recursion_from_All _ U a.justified)) (lists.has k ins e);
        }
