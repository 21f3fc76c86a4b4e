-- The analyser's table, as a list of triples: it fits, is accepted, and on finite domains the least.
use Rattle.std.proofs.Common.{◌≡◌, ℕ, Bool, ℤ, true, false, ◌||◌, ◌&&◌, List, [], ◌∷◌, map, flat_map, Some, None, refl, sym, ◌∙◌, ap, subst, inl, inr}
use Rattle.std.specs.Prelude.{if◌then◌else◌, All}
use Rattle.std.specs.List.{AllByRecursion, list_any}
use Rattle.std.proofs.lemmas.Bool.{and_from, cases_Bool, cond-true, cond-false, false≢true, both_ways, or_cases, false_from_ne_true}
use Rattle.std.proofs.lemmas.Option.{none-some, same_Some}
use Rattle.std.proofs.lemmas.List.Elements.{All-from_recursion, recursion_from_All}
use Rattle.sk_deriv.specs.Moves.{Setting}
use Rattle.sk_lattice.specs.Domain.{Domain}
use Rattle.sk_lattice.specs.Empty.{is_proper}
use Rattle.sk_lattice.specs.Order.{tuple_leq}
use Rattle.sk_lattice.specs.Laws.{TupleLaws}
use Rattle.sk_lattice.specs.Shapes.{ShapeLaws}
use Rattle.sk_absfilter.specs.Abstract.{Outcome}
use Rattle.sk_absfilter.specs.Laws.{outcome_leq}
use Rattle.sk_table.specs.declared.triple.Triple.{Triple}
use Rattle.sk_table.specs.declared.triple.Cover.{Cover}
use Rattle.sk_rounds.specs.Walks.{Side, Inputs, Outputs, Table, Walks, WalksLaws, Lies, side_leq, FitSide, FitTable}
use Rattle.sk_rounds.specs.Rounds.{own_answer, IsAnalysed, IsAccepted}
use Rattle.sk_rounds.specs.Accepted.{AskLaws, Row, row_at, rows}
use Rattle.sk_rounds.proofs.Accepting.{accepted_same}
use Rattle.sk_rounds.proofs.Ending.{analysed_accepted, analysed_fits, analysed_least}
use Rattle.sk_rounds.proofs.Lists.{all_flat, list_any_entries}
use Rattle.sk_abswalk.specs.Walk.{Flows}
use Rattle.sk_abswalk.specs.Order.{IsProperOutcome}
use Rattle.sk_abswalk.specs.Tables.{call_of}
use Rattle.sk_abswalk.specs.Tables as tables
use Rattle.sk_abswalk.specs.Fits.{TripleFits}
use Rattle.sk_abswalk.specs.Reading.{Key, same_key, call_with, walks_of, asks_of, triple_of, triples_of}
use Rattle.sk_abswalk.specs.LeastTable.{key_of_triple, HasOnePerKey, TriplesFit, lies_under, IsLeastTable, Lists}
use Rattle.sk_abswalk.proofs.Asking.{all_mapped}
use Rattle.sk_abswalk.proofs.KeySides.{good_call, good_at, outputs_fit, answer_fits, answer_proper, side_fits}
use Rattle.sk_abswalk.proofs.Keys.{same_key_refl, same_key_only, any_left, any_right, key_is, key_there}
use Rattle.sk_abswalk.proofs.Listing.{any_more, list_accepted, accepted_list}

any_mapped : {A B : Type 0} (test : B → Bool) (f : A → B) (xs : List A) → list_any (λ x. test (f x)) xs ≡ true → list_any test (map f xs) ≡ true
any_mapped test f [] e = absurd (false≢true e)
any_mapped test f (x ∷ xs) e =
    elim (or_cases (test (f x)) (list_any (λ x. test (f x)) xs) e) [
      | inl t ↦ ap (λ b. b || list_any test (map f xs)) t
      | inr t ↦ any_right test (f x ∷ []) (map f xs) (any_mapped test f xs t)
    ]

other_way : (j k : Key) → same_key j k ≡ false → same_key k j ≡ false
other_way j k n = false_from_ne_true (same_key k j) (λ e. both_ways (same_key j k) n (subst (λ i. same_key i k ≡ true) (same_key_only k j e) (same_key_refl k)))

-- the table of a list of triples
abbrev pub triple_side : {D : Type 0} → Triple D → Side → Outcome D
triple_side t Inputs = Some t.ins
triple_side t Outputs = t.outs

abbrev pub table_from : {D : Type 0} → List (Triple D) → Table Key (Flows D)
table_from [] k side = None
table_from (t ∷ ts) k side = if same_key (key_of_triple t) k then triple_side t side else table_from ts k side

module _ (D : Type 0) (d : Domain D) (s : Setting) (finite : Bool) (marks : List ℤ) (covers : List (Cover D)) where
  abbrev w : Walks Key (Flows D)
  w = walks_of d finite marks s covers

  -- The triples of a table.

  abbrev IsOf : Table Key (Flows D) → Triple D → Type 0
  IsOf T t = (T (key_of_triple t) Inputs ≡ Some t.ins) × (T (key_of_triple t) Outputs ≡ t.outs)

  abbrev Fits : Triple D → Type 0
  Fits t = TripleFits s t × (is_proper d t.ins ≡ true) × IsProperOutcome d t.outs

  -- what each row of the table has
  each_row : (T : Table Key (Flows D)) (P : Row Key (Flows D) → Type 0) → ((k : Key) (ins : Flows D) → T k Inputs ≡ Some ins → P (record { key = k; inputs = ins; outputs = T k Outputs })) → AllByRecursion P (rows w T)
  each_row T P step = all_flat P (λ k. row_at k (T k Inputs) (T k Outputs)) (λ k. at k (T k Inputs) refl) w.keys
    where
      at : (k : Key) (x : Outcome D) → T k Inputs ≡ x → AllByRecursion P (row_at k x (T k Outputs))
      at k None e = tt
      at k (Some ins) e = (step k ins e, tt)

  pub each_triple : (T : Table Key (Flows D)) (P : Triple D → Type 0) → ((k : Key) (ins : Flows D) → T k Inputs ≡ Some ins → P (triple_of (record { key = k; inputs = ins; outputs = T k Outputs }))) → AllByRecursion P (triples_of w T)
  each_triple T P step = all_mapped P triple_of (rows w T) (each_row T (λ r. P (triple_of r)) step)

  row_there : (T : Table Key (Flows D)) (k : Key) (ins : Flows D) → T k Inputs ≡ Some ins → (ks : List Key) → list_any (same_key k) ks ≡ true → list_any (λ (r : Row Key (Flows D)). same_key r.key k) (flat_map (λ j. row_at j (T j Inputs) (T j Outputs)) ks) ≡ true
  row_there T k ins e [] h = absurd (false≢true h)
  row_there T k ins e (j ∷ ks) h =
      elim (or_cases (same_key k j) (list_any (same_key k) ks) h) [
        | inl y ↦ any_left test (row_at j (T j Inputs) (T j Outputs)) (flat_map (λ j. row_at j (T j Inputs) (T j Outputs)) ks)
            (subst (λ i. list_any test (row_at i (T i Inputs) (T i Outputs)) ≡ true) (same_key_only k j y)
            (subst (λ x. list_any test (row_at k x (T k Outputs)) ≡ true) (sym e) (ap (λ b. b || false) (same_key_refl k))))
        | inr y ↦ any_right test (row_at j (T j Inputs) (T j Outputs)) (flat_map (λ j. row_at j (T j Inputs) (T j Outputs)) ks) (row_there T k ins e ks y)
      ]
    where
      test : Row Key (Flows D) → Bool
      test r = same_key r.key k

  fit_at : (T : Table Key (Flows D)) → FitTable w T → (k : Key) (side : Side) (t : Flows D) → T k side ≡ Some t → FitSide w k side (Some t)
  fit_at T f k side t e = subst (FitSide w k side) e (f k side)

  pub triples_listed : (T : Table Key (Flows D)) → FitTable w T → Lists (triples_of w T) T
  triples_listed T f =
      record {
        each = each_triple T (IsOf T) (λ k ins e. (e, refl));
        has = λ k ins e.
            let h = side_fits D d s k Inputs ins (fit_at T f k Inputs ins e) in
            let key = key_is s k h.hook h.is in
            any_mapped (λ (t : Triple D). same_key (key_of_triple t) k) triple_of (rows w T) (row_there T k ins e w.keys (key_there s.def s.nodes k key.node h.hook key.at key.declared key.takes));
      }

  pub triples_fit : (T : Table Key (Flows D)) → FitTable w T → TriplesFit d s (triples_of w T)
  triples_fit T f = All-from_recursion _ (triples_of w T) (each_triple T Fits at)
    where
      at : (k : Key) (ins : Flows D) → T k Inputs ≡ Some ins → Fits (triple_of (record { key = k; inputs = ins; outputs = T k Outputs }))
      at k ins e =
          let g = good_call D d s k ins (fit_at T f k Inputs ins e) in
          let outs_fit = answer_fits D d s finite marks covers (own_answer T) (λ j. f j Outputs) (call_with k ins) g.fits (T k Outputs) (f k Outputs) in
          (record { call_fits = g.fits; outs_fit = outs_fit }, g.proper, answer_proper D d s finite marks covers (own_answer T) (λ j. f j Outputs) k (T k Outputs) (f k Outputs))

  -- The table of triples, one for each key.

  skip : (t : Triple D) (ts : List (Triple D)) (k : Key) (side : Side) → same_key (key_of_triple t) k ≡ false → table_from (t ∷ ts) k side ≡ table_from ts k side
  skip t ts k side n = cond-false (same_key (key_of_triple t) k) (triple_side t side) (table_from ts k side) n

  hit : (t : Triple D) (ts : List (Triple D)) (k : Key) (side : Side) → same_key (key_of_triple t) k ≡ true → table_from (t ∷ ts) k side ≡ triple_side t side
  hit t ts k side e = cond-true (same_key (key_of_triple t) k) (triple_side t side) (table_from ts k side) e

  from_each : (U : List (Triple D)) → HasOnePerKey U → AllByRecursion (IsOf (table_from U)) U
  from_each [] one = tt
  from_each (t ∷ ts) one = (
    (hit t ts (key_of_triple t) Inputs (same_key_refl (key_of_triple t)), hit t ts (key_of_triple t) Outputs (same_key_refl (key_of_triple t))),
    later ts (list_any_entries (λ other. same_key (key_of_triple other) (key_of_triple t)) ts one.0) (from_each ts one.1),
  )
    where
      later : (us : List (Triple D)) → AllByRecursion (λ other. same_key (key_of_triple other) (key_of_triple t) ≡ false) us → AllByRecursion (IsOf (table_from ts)) us → AllByRecursion (IsOf (table_from (t ∷ ts))) us
      later [] n h = tt
      later (u ∷ us) n h =
          let other = other_way (key_of_triple u) (key_of_triple t) n.0 in
          ((skip t ts (key_of_triple u) Inputs other ∙ h.0.0, skip t ts (key_of_triple u) Outputs other ∙ h.0.1), later us n.1 h.1)

  from_has : (U : List (Triple D)) (k : Key) (ins : Flows D) → table_from U k Inputs ≡ Some ins → list_any (λ t. same_key (key_of_triple t) k) U ≡ true
  from_has [] k ins e = absurd (none-some ins e)
  from_has (t ∷ ts) k ins e =
      elim (cases_Bool (same_key (key_of_triple t) k)) [
        | inl y ↦ ap (λ b. b || list_any (λ t. same_key (key_of_triple t) k) ts) y
        | inr n ↦ any_right (λ t. same_key (key_of_triple t) k) (t ∷ []) ts (from_has ts k ins (sym (skip t ts k Inputs n) ∙ e))
      ]

  pub table_listed : (U : List (Triple D)) → HasOnePerKey U → Lists U (table_from U)
  table_listed U one = record { each = from_each U one; has = from_has U }

  triple_fits : (t : Triple D) → Fits t → (side : Side) → FitSide w (key_of_triple t) side (triple_side t side)
  triple_fits t f Inputs = (good_at D d s finite marks covers (call_of t) (record { fits = f.0.call_fits; proper = f.1 })).1
  triple_fits t f Outputs = outputs_fit D d s (call_of t) t.outs f.0.call_fits f.0.outs_fit f.2 finite marks covers

  table_fits : (U : List (Triple D)) → AllByRecursion Fits U → FitTable w (table_from U)
  table_fits [] h k side = tt
  table_fits (t ∷ ts) h k side =
      elim (cases_Bool (same_key (key_of_triple t) k)) [
        | inl y ↦ subst (FitSide w k side) (sym (hit t ts k side y)) (subst (λ i. FitSide w i side (triple_side t side)) (same_key_only (key_of_triple t) k y) (triple_fits t h.0 side))
        | inr n ↦ subst (FitSide w k side) (sym (skip t ts k side n)) (table_fits ts h.1 k side)
      ]

  -- a table that lies below another, triple by triple
  under_other : (T V : Table Key (Flows D)) (U : List (Triple D)) → Lists U V → Lies w T V → (k : Key) (ins : Flows D) → T k Inputs ≡ Some ins → list_any (lies_under d (triple_of (record { key = k; inputs = ins; outputs = T k Outputs }))) U ≡ true
  under_other T V U lists le k ins e = at (V k Inputs) refl (subst (λ x. side_leq w x (V k Inputs) ≡ true) e (le k Inputs))
    where
      under : (a : Flows D) → V k Inputs ≡ Some a → tuple_leq d ins a ≡ true → (u : Triple D) → IsOf V u → same_key (key_of_triple u) k ≡ true → lies_under d (triple_of (record { key = k; inputs = ins; outputs = T k Outputs })) u ≡ true
      under a is leq u h y =
          let same = same_key_only (key_of_triple u) k y in
          let ins_same : a ≡ u.ins = same_Some a u.ins (sym is ∙ subst (λ j. V j Inputs ≡ Some u.ins) same h.0) in
          let outs_same : V k Outputs ≡ u.outs = subst (λ j. V j Outputs ≡ u.outs) same h.1 in
          and_from (same_key (key_of_triple u) k) (tuple_leq d ins u.ins && outcome_leq d (T k Outputs) u.outs) y
          (and_from (tuple_leq d ins u.ins) (outcome_leq d (T k Outputs) u.outs) (subst (λ x. tuple_leq d ins x ≡ true) ins_same leq)
          (subst (λ x. outcome_leq d (T k Outputs) x ≡ true) outs_same (Rattle.sk_abswalk.proofs.WalkLaws.leq_outcome D d finite marks s covers (T k Outputs) (V k Outputs) (le k Outputs))))

      at : (x : Outcome D) → V k Inputs ≡ x → side_leq w (Some ins) x ≡ true → list_any (lies_under d (triple_of (record { key = k; inputs = ins; outputs = T k Outputs }))) U ≡ true
      at None is h = absurd (false≢true h)
      at (Some a) is h = any_more (IsOf V) (λ u. same_key (key_of_triple u) k) (lies_under d (triple_of (record { key = k; inputs = ins; outputs = T k Outputs }))) (under a is h) U lists.each (lists.has k a is)

  module _ (tuples : TupleLaws d) (shapes : ShapeLaws d) (laws : WalksLaws w) (asks : AskLaws w (asks_of d s)) where
    -- a list is accepted just where the table that it lists is
    pub accepted_as_list : (U : List (Triple D)) (T : Table Key (Flows D)) → Lists U T → FitTable w T → IsAccepted w T → tables.IsAccepted d s covers U
    accepted_as_list U T lists fits a = list_accepted D d tuples shapes s finite marks covers U T lists fits ((accepted_same Key (Flows D) w laws (asks_of d s) asks T fits).0 a)

    pub accepted_as_table : (U : List (Triple D)) (T : Table Key (Flows D)) → Lists U T → FitTable w T → tables.IsAccepted d s covers U → IsAccepted w T
    accepted_as_table U T lists fits a = (accepted_same Key (Flows D) w laws (asks_of d s) asks T fits).1 (accepted_list D d tuples shapes s finite marks covers U T lists fits a)

    pub table_accepted : (T : Table Key (Flows D)) (rounds : ℕ) → IsAnalysed w T rounds → tables.IsAccepted d s covers (triples_of w T)
    table_accepted T rounds a =
        let f = analysed_fits Key (Flows D) w laws T rounds a in
        accepted_as_list (triples_of w T) T (triples_listed T f) f (analysed_accepted Key (Flows D) w laws T rounds a)

    pub table_least : finite ≡ true → (T : Table Key (Flows D)) (rounds : ℕ) → IsAnalysed w T rounds → IsLeastTable d s covers (triples_of w T)
    table_least fin T rounds a = record { accepted = table_accepted T rounds a; least = under }
      where
        under : (other : List (Triple D)) → TriplesFit d s other → HasOnePerKey other → tables.IsAccepted d s covers other → All (λ t. list_any (lies_under d t) other ≡ true) (triples_of w T)
        under other fit one accepted =
            let lists = table_listed other one in
            let fits = table_fits other (recursion_from_All _ other fit) in
            let least = analysed_least Key (Flows D) w laws fin T rounds a in
            All-from_recursion _ (triples_of w T) (each_triple T (λ t. list_any (lies_under d t) other ≡ true)
            (under_other T (table_from other) other lists (least.least (table_from other) fits (accepted_as_table other (table_from other) lists fits accepted))))
