-- The table of the least solution of a program's constraints is the least accepted one, and the analyser's.
use Rattle.std.proofs.Common.{◌≡◌, ℕ, Bool, ℤ, true, false, ◌&&◌, List, [], ◌∷◌, ◌++◌, map, flat_map, filter_map, Option, Some, None, refl, sym, ◌∙◌, ap, ap₂, subst, eqb}
use Rattle.std.specs.Prelude.{find}
use Rattle.std.specs.List.{AllByRecursion, AllZip, cons_option}
use Rattle.std.specs.Option.{option_map, option_and_then}
use Rattle.std.proofs.lemmas.Bool.{cond-true, cond-false, false_from_ne_true, both_ways}
use Rattle.sk_def.specs.declared.ids.HookId.{HookId}
use Rattle.sk_def.specs.declared.def.Def.{Def}
use Rattle.sk_sort.specs.Definition.{IsWellSorted}
use Rattle.sk_term.specs.Program.{Program, IsProgramOf}
use Rattle.sk_term.specs.Terms.{keys}
use Rattle.sk_deriv.specs.Moves.{Setting, setting_of}
use Rattle.sk_lattice.specs.Domain.{Domain}
use Rattle.sk_lattice.specs.Laws.{TupleLaws}
use Rattle.sk_lattice.specs.Shapes.{ShapeLaws}
use Rattle.sk_absfilter.specs.Abstract.{Outcome}
use Rattle.sk_absfilter.specs.Laws.{outcome_leq, FiltersAreMonotone}
use Rattle.sk_absfilter.specs.Fits.{FiltersKeepSorts}
use Rattle.sk_table.specs.declared.triple.Triple.{Triple}
use Rattle.sk_table.specs.declared.triple.Cover.{Cover}
use Rattle.sk_rounds.specs.Walks.{Inputs, Outputs, Table, Walks, WalksLaws, FitTable, Lies, side_leq}
use Rattle.sk_rounds.specs.Rounds.{IsAnalysed, IsAccepted}
use Rattle.sk_rounds.specs.Accepted.{row_at}
use Rattle.sk_rounds.specs.Laws.{IsLeastAccepted}
use Rattle.sk_rounds.proofs.Lists.{list_any_entries}
use Rattle.sk_rounds.proofs.Ending.{least_laws}
use Rattle.sk_abswalk.specs.Walk.{Flows}
use Rattle.sk_abswalk.specs.Order.{WalksAreProper}
use Rattle.sk_abswalk.specs.Fits.{WalksFit}
use Rattle.sk_abswalk.specs.Reading as reading
use Rattle.sk_abswalk.specs.Reading.{Key, same_key, walks_of, triples_of}
use Rattle.sk_abswalk.specs.LeastTable.{key_of_triple, HasOnePerKey}
use Rattle.sk_abswalk.proofs.Keys.{same_key_refl, same_key_only}
use Rattle.sk_abswalk.proofs.OnePerKey.{one_per_key}
use Rattle.sk_abswalk.proofs.WalkLaws.{leq_side}
use Rattle.sk_constr.specs.declared.constraint_list.ConstraintList.{ConstraintList}
use Rattle.sk_constr.specs.Keys.{AreConstraints}
use Rattle.sk_solve.specs.declared.assignment.Solved.{Solved}
use Rattle.sk_solve.specs.Solves.{value_at, is_of_key, KeyLies, IsLeastSolution}
use Rattle.sk_solve.specs.Tables.{inputs_of, triple_of, table_of}
use Rattle.sk_agree.specs.Agree.{sides_of}
use Rattle.sk_agree.proofs.Relations.{zip_more}
use Rattle.sk_agree.proofs.KeysFound.{SolvedKey, solved_keys, found_key}
use Rattle.sk_agree.proofs.Accepted.{first_below, solution_above}
use Rattle.sk_agree.proofs.WalkSolves.{entry, walk_assignment, walks_solve}

-- pairs of a list and of one that is mapped from another
unmapped : {A B C : Type 0} (R : C → B → Type 0) (f : A → B) (xs : List A) (cs : List C) → AllZip R cs (map f xs) → AllZip (λ x c. R c (f x)) xs cs
unmapped R f [] [] h = tt
unmapped R f [] (c ∷ cs) h = absurd h
unmapped R f (x ∷ xs) [] h = absurd h
unmapped R f (x ∷ xs) (c ∷ cs) h = (h.0, unmapped R f xs cs h.1)

pub zip_both : {A B : Type 0} (R S T : A → B → Type 0) → ((x : A) (y : B) → R x y → S x y → T x y) → (xs : List A) (ys : List B) → AllZip R xs ys → AllZip S xs ys → AllZip T xs ys
zip_both R S T step [] [] h k = tt
zip_both R S T step [] (y ∷ ys) h k = absurd h
zip_both R S T step (x ∷ xs) [] h k = absurd h
zip_both R S T step (x ∷ xs) (y ∷ ys) h k = (step x y h.0 k.0, zip_both R S T step xs ys h.1 k.1)

-- Where the entries of an assignment stand.

-- no key stands twice in the list
abbrev pub Distinct : List Key → Type 0
Distinct [] = Unit {0}
Distinct (k ∷ ks) = AllByRecursion (λ j. same_key j k ≡ false) ks × Distinct ks

-- the table that gives every key both sides
abbrev pub full : {D : Type 0} → Table Key (Flows D)
full k side = Some []

keys_apart : (D : Type 0) (k : Key) (ks : List Key) → AllByRecursion (λ (t : Triple D). same_key (key_of_triple t) k ≡ false) (map reading.triple_of (flat_map (λ j. row_at j (full {D = D} j Inputs) (full {D = D} j Outputs)) ks)) → AllByRecursion (λ j. same_key j k ≡ false) ks
keys_apart D k [] h = tt
keys_apart D k (j ∷ ks) h = (h.0, keys_apart D k ks h.1)

pub distinct_from : (D : Type 0) (ks : List Key) → HasOnePerKey {D = D} (map reading.triple_of (flat_map (λ j. row_at j (full {D = D} j Inputs) (full {D = D} j Outputs)) ks)) → Distinct ks
distinct_from D [] h = tt
distinct_from D (k ∷ ks) h =
    (keys_apart D k ks (list_any_entries (λ (t : Triple D). same_key (key_of_triple t) k) (map reading.triple_of (flat_map (λ j. row_at j (full {D = D} j Inputs) (full {D = D} j Outputs)) ks)) h.0), distinct_from D ks h.1)

-- an entry is of the key
abbrev pub IsOwn : {D : Type 0} → Key → Solved D → Type 0
IsOwn k s = (s.hook ≡ k.0) × (s.point ≡ k.1)

own_test : {D : Type 0} (j k : Key) (s : Solved D) → IsOwn k s → is_of_key j.0 j.1 s ≡ same_key k j
own_test j k s h = ap₂ (λ (a b : ℕ). eqb a j.0.0 && eqb b j.1) (ap (λ (i : HookId). i.0) h.0) h.1

other_way : (j k : Key) → same_key j k ≡ false → same_key k j ≡ false
other_way j k n = false_from_ne_true (same_key k j) (λ e. both_ways (same_key j k) n (subst (λ i. same_key i k ≡ true) (same_key_only k j e) (same_key_refl k)))

-- each entry is the one that is found for its key
pub found_each : {D : Type 0} (ks : List Key) (a : List (Solved D)) → Distinct ks → AllZip IsOwn ks a → AllZip (λ k s. find (is_of_key k.0 k.1) a ≡ Some s) ks a
found_each [] [] d h = tt
found_each [] (s ∷ a) d h = absurd h
found_each (k ∷ ks) [] d h = absurd h
found_each {D} (k ∷ ks) (s ∷ a) d h = (cond-true (is_of_key k.0 k.1 s) (Some s) (find (is_of_key k.0 k.1) a) (own_test k k s h.0 ∙ same_key_refl k), later ks a d.0 (found_each ks a d.1 h.1))
  where
    later : (js : List Key) (rest : List (Solved D)) → AllByRecursion (λ j. same_key j k ≡ false) js → AllZip (λ j t. find (is_of_key j.0 j.1) a ≡ Some t) js rest → AllZip (λ j t. find (is_of_key j.0 j.1) (s ∷ a) ≡ Some t) js rest
    later [] [] n f = tt
    later [] (t ∷ rest) n f = absurd f
    later (j ∷ js) [] n f = absurd f
    later (j ∷ js) (t ∷ rest) n f = (cond-false (is_of_key j.0 j.1 s) (Some s) (find (is_of_key j.0 j.1) a) (own_test j k s h.0 ∙ other_way j k n.0) ∙ f.0, later js rest n.1 f.1)

-- the triples of the entries are those of the table
triples_same : {D : Type 0} (a : List (Solved D)) (ks : List Key) (rest : List (Solved D)) → AllZip (λ k s. (find (is_of_key k.0 k.1) a ≡ Some s) × IsOwn k s) ks rest →
    filter_map triple_of rest ≡ map reading.triple_of (flat_map (λ k. row_at k (sides_of a k Inputs) (sides_of a k Outputs)) ks)
triples_same a [] [] h = refl
triples_same a [] (s ∷ rest) h = absurd h
triples_same a (k ∷ ks) [] h = absurd h
triples_same {D} a (k ∷ ks) (s ∷ rest) h =
    let tail = triples_same a ks rest h.1 in
    let ins : sides_of a k Inputs ≡ inputs_of s = ap (λ (o : Option (Solved D)). option_and_then (λ (s : Solved D). value_at s.positions 0) o) h.0.0 in
    let outs : sides_of a k Outputs ≡ s.outs = ap (λ (o : Option (Solved D)). option_and_then (λ (s : Solved D). s.outs) o) h.0.0 in
    one (inputs_of s) tail
    ∙ sym (ap₂ (λ i o. map reading.triple_of (row_at k i o ++ flat_map (λ k. row_at k (sides_of a k Inputs) (sides_of a k Outputs)) ks)) ins outs)
  where
    one : (i : Outcome D) → filter_map triple_of rest ≡ map reading.triple_of (flat_map (λ k. row_at k (sides_of a k Inputs) (sides_of a k Outputs)) ks) →
        cons_option (option_map (λ ins. record { hook = s.hook; point = s.point; ins = ins; outs = s.outs }) i) (filter_map triple_of rest) ≡ map reading.triple_of (row_at k i s.outs ++ flat_map (λ k. row_at k (sides_of a k Inputs) (sides_of a k Outputs)) ks)
    one None tail = tail
    one (Some ins) tail = λ i. record { hook = h.0.1.0 i; point = h.0.1.1 i; ins = ins; outs = s.outs } ∷ tail i

module _ (D : Type 0) (d : Domain D) (tuples : TupleLaws d) (shapes : ShapeLaws d) (filters : FiltersAreMonotone d) (keep : FiltersKeepSorts d) (fit : WalksFit d) (proper : WalksAreProper d) (def : Def) (program : Program) (sorted : IsWellSorted def) (is_program : IsProgramOf def program)
    (finite : Bool) (marks : List ℤ) (covers : List (Cover D)) (list : ConstraintList D) (are : AreConstraints def program covers list) (laws : WalksLaws (walks_of d finite marks (setting_of def program) covers)) (a : List (Solved D)) (least : IsLeastSolution d list a) where
  abbrev s : Setting
  s = setting_of def program

  abbrev w : Walks Key (Flows D)
  w = walks_of d finite marks s covers

  abbrev U : Table Key (Flows D)
  U = sides_of a

  abbrev the_keys : List Key
  the_keys = keys def program.nodes

  each_key : AllZip (SolvedKey d def program a) the_keys a
  each_key = solved_keys D d def program sorted is_program covers list are a least.solves

  -- The table lies below every accepted one.
  module _ (V : Table Key (Flows D)) (fits : FitTable w V) (accepted : IsAccepted w V) where
    -- both sides of an entry lie below those of its key
    record IsUnder (k : Key) (sv : Solved D) : Type 0 where
      own : IsOwn k sv
      ins : outcome_leq d (value_at sv.positions 0) (V k Inputs) ≡ true
      outs : outcome_leq d sv.outs (V k Outputs) ≡ true

    is_under : (k : Key) (sv : Solved D) → SolvedKey d def program a k sv → KeyLies d sv (entry D d tuples shapes keep fit proper def program sorted is_program finite marks covers list are V fits accepted k) → IsUnder k sv
    is_under k sv h l = record { own = (h.is_of.same_hook, h.is_of.same_point); ins = first_below (λ o p. outcome_leq d o p ≡ true) sv.positions (V k Inputs) _ l.positions; outs = l.outs }

    all_under : AllZip IsUnder the_keys a
    all_under =
        let lies = least.least (walk_assignment D d tuples shapes keep fit proper def program sorted is_program finite marks covers list are V fits accepted) (walks_solve D d tuples shapes keep fit proper def program sorted is_program finite marks covers list are V fits accepted) in
        zip_both (SolvedKey d def program a) (λ k sv. KeyLies d sv (entry D d tuples shapes keep fit proper def program sorted is_program finite marks covers list are V fits accepted k)) IsUnder is_under the_keys a each_key
        (unmapped (KeyLies d) (entry D d tuples shapes keep fit proper def program sorted is_program finite marks covers list are V fits accepted) the_keys a lies)

    under_at : (k : Key) (sv : Solved D) → find (is_of_key k.0 k.1) a ≡ Some sv → IsUnder k sv
    under_at = found_key IsUnder (λ k sv h. h.own) the_keys a all_under

    lies_below : Lies w U V
    lies_below k Inputs = at (find (is_of_key k.0 k.1) a) refl
      where
        at : (o : Option (Solved D)) → find (is_of_key k.0 k.1) a ≡ o → side_leq w (option_and_then (λ (s : Solved D). value_at s.positions 0) o) (V k Inputs) ≡ true
        at None e = refl
        at (Some sv) e = leq_side D d finite marks s covers (value_at sv.positions 0) (V k Inputs) (under_at k sv e).ins
    lies_below k Outputs = at (find (is_of_key k.0 k.1) a) refl
      where
        at : (o : Option (Solved D)) → find (is_of_key k.0 k.1) a ≡ o → side_leq w (option_and_then (λ (s : Solved D). s.outs) o) (V k Outputs) ≡ true
        at None e = refl
        at (Some sv) e = leq_side D d finite marks s covers sv.outs (V k Outputs) (under_at k sv e).outs

  pub least_accepted : IsLeastAccepted w U
  least_accepted =
      let above = solution_above D d tuples filters def program sorted is_program finite marks covers list are a least.solves laws in
      record { fits = above.fits; accepted = above.accepted; least = lies_below }

  table_is : table_of a ≡ triples_of w U
  table_is =
      let owns = zip_more (SolvedKey d def program a) IsOwn (λ k sv h. (h.is_of.same_hook, h.is_of.same_point)) the_keys a each_key in
      let found = found_each the_keys a (distinct_from D the_keys (one_per_key D (full {D = D}) d s finite marks covers)) owns in
      triples_same a the_keys a (zip_both (λ k sv. find (is_of_key k.0 k.1) a ≡ Some sv) IsOwn (λ k sv. (find (is_of_key k.0 k.1) a ≡ Some sv) × IsOwn k sv) (λ k sv f o. (f, o)) the_keys a found owns)

  pub tables_agree : finite ≡ true → (table : Table Key (Flows D)) (rounds : ℕ) → IsAnalysed w table rounds → table_of a ≡ triples_of w table
  tables_agree fin table rounds analysed = table_is ∙ ap (triples_of w) ((least_laws Key (Flows D) w laws fin).least_only table rounds analysed U least_accepted)
