-- On a finite domain the walks of the analyser's table are the least solution of a program's constraints.
use Rattle.std.proofs.Common.{◌≡◌, ℕ, suc, ◌+◌, Bool, ℤ, true, List, [], ◌∷◌, length, map, Option, Some, None, refl, sym, ◌∙◌, ap, subst, arith}
use Rattle.std.specs.Prelude.{slice_get, find, unwrap_or}
use Rattle.std.specs.List.{AllZip}
use Rattle.std.specs.Option.{option_map, option_and_then}
use Rattle.std.proofs.lemmas.Bool.{false≢true}
use Rattle.std.proofs.lemmas.Option.{same_Some}
use Rattle.sk_def.specs.declared.ids.HookId.{HookId}
use Rattle.sk_def.specs.declared.def.Def.{Def}
use Rattle.sk_def.specs.declared.def.Rule.{Rule}
use Rattle.sk_def.specs.Sorts.{outputs_of}
use Rattle.sk_sort.specs.Definition.{IsWellSorted}
use Rattle.sk_term.specs.declared.node.TermNode.{TermNode}
use Rattle.sk_term.specs.Program.{Program, IsProgramOf}
use Rattle.sk_term.specs.Terms.{keys}
use Rattle.sk_deriv.specs.Env.{start_of}
use Rattle.sk_deriv.specs.Moves.{Setting, setting_of}
use Rattle.sk_lattice.specs.Domain.{Domain}
use Rattle.sk_lattice.specs.Order.{flow_leq}
use Rattle.sk_lattice.specs.Laws.{TupleLaws}
use Rattle.sk_lattice.specs.Shapes.{ShapeLaws}
use Rattle.sk_absfilter.specs.Abstract.{Outcome}
use Rattle.sk_absfilter.specs.Laws.{outcome_leq, FiltersAreMonotone}
use Rattle.sk_absfilter.specs.Fits.{FiltersKeepSorts}
use Rattle.sk_table.specs.declared.triple.Cover.{Cover}
use Rattle.sk_rounds.specs.Walks.{Inputs, Outputs, Table, Walks, WalksLaws, FitTable, Lies}
use Rattle.sk_rounds.specs.Rounds.{own_answer, table_after, IsAnalysed, IsAccepted}
use Rattle.sk_rounds.proofs.Ending.{ends, analysed_fits, analysed_accepted}
use Rattle.sk_abswalk.specs.Walk.{Flows, Answers}
use Rattle.sk_abswalk.specs.Order.{WalksAreProper}
use Rattle.sk_abswalk.specs.Fits.{WalksFit}
use Rattle.sk_abswalk.specs.Reading.{Key, key_of, by_key, walks_of}
use Rattle.sk_abswalk.proofs.OnePerKey.{one_per_key}
use Rattle.sk_abswalk.proofs.WalkLaws.{leq_outcome}
use Rattle.sk_constr.specs.declared.constraint_list.ConstraintList.{ConstraintList}
use Rattle.sk_constr.specs.declared.line.KeyLines.{KeyLines}
use Rattle.sk_constr.specs.declared.line.Part.{Part}
use Rattle.sk_constr.specs.Operands.{operands_at}
use Rattle.sk_constr.specs.Lines.{env_after, last_position, line_at, lines_of}
use Rattle.sk_constr.specs.Keys.{AreConstraints, first_env, key_by_rule}
use Rattle.sk_solve.specs.declared.assignment.Solved.{Solved}
use Rattle.sk_solve.specs.Solves.{value_at, is_of_key, inputs_at, outputs_at, line_holds, outcome_fits, IsOfKey, KeyLies, Solves, LiesBelow}
use Rattle.sk_agree.specs.Agree.{sides_of, HasLeastSolution}
use Rattle.sk_agree.proofs.Relations.{zip_more, zip_from_test, list_all_parts, IfThere}
use Rattle.sk_agree.proofs.Readings.{reads_start}
use Rattle.sk_agree.proofs.KeysFound.{KeyRule, SolvedKey, solved_keys}
use Rattle.sk_agree.proofs.Below.{Low}
use Rattle.sk_agree.proofs.Accepted.{fits_long, rule_found_at, outs_long, solution_above}
use Rattle.sk_agree.proofs.WalkSolves.{entry, entry_from, entry_solved, inputs_fit, walk_assignment, walks_solve}
use Rattle.sk_agree.proofs.SpotsBelow.{AtMost, Lives, spots_low}
use Rattle.sk_agree.proofs.Solving.{zip_long}
use Rattle.sk_agree.proofs.Least.{IsOwn, full, distinct_from, found_each, zip_both}

-- outcomes that lie below all positions
zip_most : {D : Type 0} (d : Domain D) (P : List (Outcome D)) (n : ℕ) (xs ys : List (Outcome D)) → AtMost d P n xs → length xs ≡ length ys → ((i : ℕ) → value_at P (n + i) ≡ unwrap_or (slice_get ys i) None) → AllZip (λ o p. outcome_leq d o p ≡ true) xs ys
zip_most d P n [] [] h long at = tt
zip_most d P n [] (y ∷ ys) h long at = absurd (omega (arith, long))
zip_most d P n (x ∷ xs) [] h long at = absurd (omega (arith, long))
zip_most d P n (x ∷ xs) (y ∷ ys) h long at =
    let here : n + 0 ≡ n = omega arith in
    let first : value_at P n ≡ y = subst (λ j. value_at P j ≡ y) here (at 0) in (
      subst (λ o. outcome_leq d x o ≡ true) first h.0,
      zip_most d P (n + 1) xs ys h.1 (omega (arith, long)) (λ i. let next : n + suc i ≡ n + 1 + i = omega arith in subst (λ j. value_at P j ≡ unwrap_or (slice_get ys i) None) next (at (suc i))),
    )

-- what is of a key has as many positions as the key
counted : (D : Type 0) (d : Domain D) (names : ℕ) (key : KeyLines) (sv : Solved D) → IsOfKey d names key sv → length sv.positions ≡ length key.positions
counted D d names key sv h = zip_long (λ sorts o. outcome_fits d names sorts o ≡ true) key.positions sv.positions h.positions_fit

mapped : {A B C : Type 0} (R : A → C → Type 0) (S : B → C → Type 0) (f : A → B) → ((x : A) (z : C) → R x z → S (f x) z) → (xs : List A) (zs : List C) → AllZip R xs zs → AllZip S (map f xs) zs
mapped R S f step [] [] h = tt
mapped R S f step [] (z ∷ zs) h = absurd h
mapped R S f step (x ∷ xs) [] h = absurd h
mapped R S f step (x ∷ xs) (z ∷ zs) h = (step x z h.0, mapped R S f step xs zs h.1)

module _ (D : Type 0) (d : Domain D) (tuples : TupleLaws d) (shapes : ShapeLaws d) (filters : FiltersAreMonotone d) (keep : FiltersKeepSorts d) (fit : WalksFit d) (proper : WalksAreProper d) (def : Def) (program : Program) (sorted : IsWellSorted def) (is_program : IsProgramOf def program)
    (finite : Bool) (marks : List ℤ) (covers : List (Cover D)) (list : ConstraintList D) (are : AreConstraints def program covers list) (laws : WalksLaws (walks_of d finite marks (setting_of def program) covers)) where
  abbrev s : Setting
  s = setting_of def program

  abbrev w : Walks Key (Flows D)
  w = walks_of d finite marks s covers

  abbrev the_keys : List Key
  the_keys = keys def program.nodes

  module _ (V : Table Key (Flows D)) (fits : FitTable w V) (accepted : IsAccepted w V) (a : List (Solved D)) (solves : Solves d list a) (below : Lies w V (sides_of a)) where
    abbrev Entry : Key → Solved D
    Entry = entry D d tuples shapes keep fit proper def program sorted is_program finite marks covers list are V fits accepted

    abbrev From : Key → Outcome D → Option (TermNode × Rule) → Solved D
    From = entry_from D d tuples shapes keep fit proper def program sorted is_program finite marks covers list are V fits accepted

    abbrev answers : Answers D
    answers = by_key (own_answer V)

    answers_low : (c : Cover D) (o : Outcome D) → answers c ≡ Some o → outcome_leq d o (outputs_at a c.hook c.point) ≡ true
    answers_low c o e =
        subst (λ x. outcome_leq d x (outputs_at a c.hook c.point) ≡ true) (same_Some (V (key_of c) Outputs) o e)
        (leq_outcome D d finite marks s covers (V (key_of c) Outputs) (outputs_at a c.hook c.point) (below (key_of c) Outputs))

    -- what an assignment gives a key, found by the key
    record IsFound (k : Key) (sv : Solved D) : Type 0 where
      found : find (is_of_key k.0 k.1) a ≡ Some sv
      solved : SolvedKey d def program a k sv

    all_found : AllZip IsFound the_keys a
    all_found =
        let each = solved_keys D d def program sorted is_program covers list are a solves in
        let owns = zip_more (SolvedKey d def program a) IsOwn (λ k sv h. (h.is_of.same_hook, h.is_of.same_point)) the_keys a each in
        let found = found_each the_keys a (distinct_from D the_keys (one_per_key D (full {D = D}) d s finite marks covers)) owns in
        zip_both (λ k sv. find (is_of_key k.0 k.1) a ≡ Some sv) (SolvedKey d def program a) IsFound (λ k sv f h. record { found = f; solved = h }) the_keys a found each

    module _ (k : Key) (sv : Solved D) (h : IsFound k sv) where
      abbrev key : KeyRule def program k
      key = h.solved.key

      inputs_low : outcome_leq d (V k Inputs) (value_at sv.positions 0) ≡ true
      inputs_low =
          subst (λ o. outcome_leq d (V k Inputs) o ≡ true) (ap (λ (o : Option (Solved D)). option_and_then (λ (s : Solved D). value_at s.positions 0) o) h.found)
          (leq_outcome D d finite marks s covers (V k Inputs) (inputs_at a k.0 k.1) (below k Inputs))

      outputs_low : outcome_leq d (V k Outputs) sv.outs ≡ true
      outputs_low =
          subst (λ o. outcome_leq d (V k Outputs) o ≡ true) (ap (λ (o : Option (Solved D)). option_and_then (λ (s : Solved D). s.outs) o) h.found)
          (leq_outcome D d finite marks s covers (V k Outputs) (outputs_at a k.0 k.1) (below k Outputs))

      longs : (id : HookId) (point : ℕ) (outs : Flows D) → outputs_at a id point ≡ Some outs → length outs ≡ length (outputs_of def id)
      longs = outs_long D d tuples filters def program sorted is_program finite marks covers list are a solves

      alive : (i : Outcome D) → V k Inputs ≡ i → outcome_leq d i (value_at sv.positions 0) ≡ true → IfThere (Lives D d tuples filters def program.names a sv longs answers answers_low (first_env key.rule key.parts.node) 0) (option_map (start_of key.rule key.parts.node) i)
      alive None e l = tt
      alive (Some ins) e l = at (value_at sv.positions 0) refl l
        where
          at : (o : Outcome D) → value_at sv.positions 0 ≡ o → outcome_leq d (Some ins) o ≡ true → Lives D d tuples filters def program.names a sv longs answers answers_low (first_env key.rule key.parts.node) 0 (start_of key.rule key.parts.node ins)
          at None f l = absurd (false≢true l)
          at (Some highs) f l =
              let long = fits_long D d program.names key.hook.inputs ins (inputs_fit D d tuples shapes keep fit proper def program sorted is_program finite marks covers list are V fits accepted k key (Some ins) e) in
              (reads_start (Low D d tuples) sv.positions key.rule key.parts.node ins highs f (zip_from_test (flow_leq d) ins highs l) (long ∙ sym key.parts.inputs_counted), (highs, f))

      abbrev given : Solved D
      given = From k (V k Inputs) (Some (key.parts.node, key.rule))

      given_low : AtMost d sv.positions 0 given.positions
      given_low =
          let rule = key.rule in
          let size = length rule.bones in
          let start = first_env rule key.parts.node in
          let last = last_position size 1 0 rule.bones in
          let final = env_after size 1 start rule.bones in
          let lines = (list_all_parts (line_holds d program.names a sv) (lines_of k.1 size 1 0 start rule.bones) (line_at last (Part.End (operands_at final rule.outputs)) ∷ []) h.solved.lines).0 in (
            inputs_low,
            spots_low D d tuples filters def program.names a sv longs answers answers_low key.con.sort k.1 size (option_map (start_of rule key.parts.node) (V k Inputs)) start 0 (omega arith) key.parts.bones_fit (alive (V k Inputs) refl inputs_low) lines key.parts.bones_sorted,
          )

      given_is : Entry k ≡ given
      given_is = ap (From k (V k Inputs)) (rule_found_at s k.0 k.1 key.rule key.hook key.con key.parts)

      entry_low : KeyLies d (Entry k) sv
      entry_low =
          let keyed_lines = key_by_rule def k.0 k.1 key.parts.node key.rule key.hook key.con in
          let solved = entry_solved D d tuples shapes keep fit proper def program sorted is_program finite marks covers list are V fits accepted k key in
          let long : length (Entry k).positions ≡ length sv.positions = counted D d program.names keyed_lines (Entry k) solved.is_of ∙ sym (counted D d program.names keyed_lines sv h.solved.is_of) in
          record {
            positions = zip_most d sv.positions 0 (Entry k).positions sv.positions (subst (λ (x : Solved D). AtMost d sv.positions 0 x.positions) (sym given_is) given_low) long (λ i. let same : 0 + i ≡ i = omega arith in ap (value_at sv.positions) same);
            outs = outputs_low;
          }

    walks_lie : LiesBelow d (walk_assignment D d tuples shapes keep fit proper def program sorted is_program finite marks covers list are V fits accepted) a
    walks_lie = mapped IsFound (KeyLies d) Entry entry_low the_keys a all_found

  pub least_there : finite ≡ true → HasLeastSolution d list
  least_there fin =
      let end = ends Key (Flows D) w laws in
      let V : Table Key (Flows D) = table_after w end.last in
      let analysed : IsAnalysed w V (suc end.last) = record { last = end.last; is_last = end.is_last; table_is = refl; rounds_is = refl } in
      let fits = analysed_fits Key (Flows D) w laws V (suc end.last) analysed in
      let accepted = analysed_accepted Key (Flows D) w laws V (suc end.last) analysed in
      record {
        assignment = walk_assignment D d tuples shapes keep fit proper def program sorted is_program finite marks covers list are V fits accepted;
        least = record {
          solves = walks_solve D d tuples shapes keep fit proper def program sorted is_program finite marks covers list are V fits accepted;
          least = λ a solves. walks_lie V fits accepted a solves ((solution_above D d tuples filters def program sorted is_program finite marks covers list are a solves laws).above fin V (suc end.last) analysed);
        };
      }
