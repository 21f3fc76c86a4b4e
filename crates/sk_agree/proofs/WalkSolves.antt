-- The walks of an accepted table, as an assignment, satisfy the program's constraints.
use Rattle.std.proofs.Common.{◌≡◌, ℕ, Bool, ℤ, true, false, ◌||◌, List, [], ◌∷◌, length, map, Option, Some, None, refl, sym, ◌∙◌, ap, subst, arith, inl, inr}
use Rattle.std.specs.Prelude.{find, unwrap_or}
use Rattle.std.specs.List.{AllByRecursion, AllZip, list_all, list_any}
use Rattle.std.specs.Option.{option_map, option_map_or, option_and_then}
use Rattle.std.proofs.lemmas.Bool.{and_from, cond_both, false≢true, or_cases, or_right, both_ways, cases_Bool}
use Rattle.std.proofs.lemmas.Option.{none-some, same_Some}
use Rattle.sk_def.specs.declared.ids.HookId.{HookId}
use Rattle.sk_def.specs.declared.def.Def.{Def}
use Rattle.sk_def.specs.declared.def.Rule.{Rule}
use Rattle.sk_def.specs.declared.def.Hook.{Hook}
use Rattle.sk_def.specs.declared.def.Con.{Con}
use Rattle.sk_def.specs.Sorts.{outputs_of}
use Rattle.sk_sort.specs.Definition.{IsWellSorted}
use Rattle.sk_sort.specs.Rules.{header_sorts}
use Rattle.sk_term.specs.declared.node.TermNode.{TermNode}
use Rattle.sk_term.specs.Program.{Program, IsProgramOf, ChildrenFit, children_of_point}
use Rattle.sk_term.specs.Terms.{keys}
use Rattle.sk_term.proofs.Entries.{entries_fit}
use Rattle.sk_deriv.specs.Env.{values_at, start_of}
use Rattle.sk_deriv.specs.Moves.{Setting, setting_of}
use Rattle.sk_lattice.specs.Domain.{Domain}
use Rattle.sk_lattice.specs.Laws.{TupleLaws}
use Rattle.sk_lattice.specs.Shapes.{ShapeLaws}
use Rattle.sk_absfilter.specs.Abstract.{Outcome}
use Rattle.sk_absfilter.specs.Laws.{outcome_leq}
use Rattle.sk_absfilter.specs.Fits.{FiltersKeepSorts}
use Rattle.sk_table.specs.declared.triple.Cover.{Cover}
use Rattle.sk_rounds.specs.Walks.{Side, Inputs, Outputs, Table, Walks, FitSide, FitTable, CallsBelow, side_leq}
use Rattle.sk_rounds.specs.Rounds.{told_at, own_answer, IsAccepted}
use Rattle.sk_rounds.specs.Tuples.{tuple_fits}
use Rattle.sk_abswalk.specs.Walk.{AbsEnv, Flows, Ends, uncovered, ill, with, Walk, quiet, in_world, there, Answers, abstract_world, rule_at, walk_of}
use Rattle.sk_abswalk.specs.Order.{GotThere, WalksAreProper}
use Rattle.sk_abswalk.specs.Fits.{WalksFit}
use Rattle.sk_abswalk.specs.Reading.{Key, same_key, key_of, keyed, hook_of_key, sorts_of_side, by_key, outcome_of, walk_of_key, walks_of}
use Rattle.sk_abswalk.proofs.Keys.{key_is, key_there, hook_there, same_key_refl, same_key_only}
use Rattle.sk_abswalk.proofs.KeySides.{side_fits}
use Rattle.sk_abswalk.proofs.WalkLaws.{GetsTo, gets_to, leq_outcome}
use Rattle.sk_constr.specs.declared.line.KeyLines.{KeyLines}
use Rattle.sk_constr.specs.declared.line.Part.{Part}
use Rattle.sk_constr.specs.declared.constraint_list.ConstraintList.{ConstraintList}
use Rattle.sk_constr.specs.Operands.{operands_at}
use Rattle.sk_constr.specs.Lines.{env_after, last_position, line_at, lines_of}
use Rattle.sk_constr.specs.Keys.{AreConstraints, first_env, lines_of_rule, key_by_rule, lines_of_key}
use Rattle.sk_solve.specs.declared.assignment.Solved.{Solved}
use Rattle.sk_solve.specs.Solves.{value_at, is_of_key, inputs_at, outputs_at, cover_holds, line_holds, outcome_fits, IsOfKey, Solves}
use Rattle.sk_agree.specs.Agree.{sides_of, HasSolution}
use Rattle.sk_agree.proofs.Relations.{zip_same, zip_from_map, list_all_both, IfThere}
use Rattle.sk_agree.proofs.Readings.{reads_start}
use Rattle.sk_agree.proofs.KeysFound.{OfProgram, KeyRule, key_rule, keys_are, found_key}
use Rattle.sk_agree.proofs.Accepted.{fits_long, rule_found_at}
use Rattle.sk_agree.proofs.SortedEnvs.{start_fits}
use Rattle.sk_agree.proofs.Spots.{end_of, split, at_start, spots}
use Rattle.sk_agree.proofs.Solving.{Same, HasBelow, Known, Alive}
use Rattle.sk_agree.proofs.BonesSolved.{bones_solved, values_solved}

-- lists that are related one after another, the last of which is mapped from the first
turned : {A B C : Type 0} (P : A → Type 0) (Q : A → B → Type 0) (T : B → C → Type 0) (f : A → C) → ((x : A) (y : B) → P x → Q x y → T y (f x)) → (xs : List A) (ys : List B) → AllByRecursion P xs → AllZip Q xs ys → AllZip T ys (map f xs)
turned P Q T f step [] [] p q = tt
turned P Q T f step [] (y ∷ ys) p q = absurd q
turned P Q T f step (x ∷ xs) [] p q = absurd q
turned P Q T f step (x ∷ xs) (y ∷ ys) p q = (step x y p.0 q.0, turned P Q T f step xs ys p.1 q.1)

mapped_is : {A B : Type 0} (f : A → B) (xs : List A) → AllZip (λ x y. y ≡ f x) xs (map f xs)
mapped_is f [] = tt
mapped_is f (x ∷ xs) = (refl, mapped_is f xs)

end_is_outcome : {D : Type 0} (ends : Ends D (Flows D)) → outcome_of ends ≡ end_of ends
end_is_outcome (uncovered c) = refl
end_is_outcome ill = refl
end_is_outcome (with o) = refl

got_to : {D : Type 0} (ends : Ends D (Flows D)) → GetsTo ends → GotThere ends
got_to ends t = subst GotThere (sym t.is) tt

module _ (D : Type 0) (d : Domain D) (tuples : TupleLaws d) (shapes : ShapeLaws d) (keep : FiltersKeepSorts d) (fit : WalksFit d) (proper : WalksAreProper d) (def : Def) (program : Program) (sorted : IsWellSorted def) (is_program : IsProgramOf def program)
    (finite : Bool) (marks : List ℤ) (covers : List (Cover D)) (list : ConstraintList D) (are : AreConstraints def program covers list)
    (V : Table Key (Flows D)) (fits : FitTable (walks_of d finite marks (setting_of def program) covers) V) (accepted : IsAccepted (walks_of d finite marks (setting_of def program) covers) V) where
  abbrev s : Setting
  s = setting_of def program

  abbrev w : Walks Key (Flows D)
  w = walks_of d finite marks s covers

  abbrev answers : Answers D
  answers = by_key (own_answer V)

  -- what a key is given: its inputs, the outcomes of its walk, and its outputs
  abbrev pub entry_from : Key → Outcome D → Option (TermNode × Rule) → Solved D
  entry_from k i r = record {
    hook = k.0;
    point = k.1;
    positions = i ∷ option_map_or (λ (r : TermNode × Rule). spots D d answers program.names k.1 (length r.1.bones) r.1.bones (option_map (start_of r.1 r.0) i)) r [];
    outs = V k Outputs;
  }

  abbrev pub entry : Key → Solved D
  entry k = entry_from k (V k Inputs) (rule_at s k.0 k.1)

  abbrev pub walk_assignment : List (Solved D)
  walk_assignment = map entry (keys def program.nodes)

  abbrev b : List (Solved D)
  b = walk_assignment

  -- What the assignment gives a key of the program.

  find_entry : (k : Key) (ks : List Key) → list_any (same_key k) ks ≡ true → find (is_of_key k.0 k.1) (map entry ks) ≡ Some (entry k)
  find_entry k [] h = absurd (false≢true h)
  find_entry k (j ∷ ks) h =
      cond_both (same_key j k) (Some (entry j)) (find (is_of_key k.0 k.1) (map entry ks)) (λ o. o ≡ Some (entry k))
      (λ yes. ap (λ i. Some (entry i)) (same_key_only j k yes))
      (λ other. find_entry k ks (later other))
    where
      later : same_key j k ≡ false → list_any (same_key k) ks ≡ true
      later other =
          elim (or_cases (same_key k j) (list_any (same_key k) ks) h) [
            | inl y ↦ absurd (both_ways (same_key k k) (subst (λ i. same_key i k ≡ false) (sym (same_key_only k j y)) other) (same_key_refl k))
            | inr y ↦ y
          ]

  found_entry : (k : Key) (sv : Solved D) → find (is_of_key k.0 k.1) b ≡ Some sv → sv ≡ entry k
  found_entry k sv e =
      found_key (λ j sv. sv ≡ entry j) (λ j sv e. (ap (λ (x : Solved D). x.hook) e, ap (λ (x : Solved D). x.point) e)) (keys def program.nodes) b (mapped_is entry (keys def program.nodes)) k sv e

  -- a key with a tuple is one of the program
  is_member : (k : Key) (side : Side) (t : Flows D) → V k side ≡ Some t → list_any (same_key k) (keys def program.nodes) ≡ true
  is_member k side t e =
      let f = side_fits D d s k side t (subst (FitSide w k side) e (fits k side)) in
      let i = key_is s k f.hook f.is in
      key_there def program.nodes k i.node f.hook i.at i.declared i.takes

  inputs_back : (k : Key) → list_any (same_key k) (keys def program.nodes) ≡ true → inputs_at b k.0 k.1 ≡ V k Inputs
  inputs_back k h = ap (λ (o : Option (Solved D)). option_and_then (λ s. value_at s.positions 0) o) (find_entry k (keys def program.nodes) h)

  outputs_back : (k : Key) → list_any (same_key k) (keys def program.nodes) ≡ true → outputs_at b k.0 k.1 ≡ V k Outputs
  outputs_back k h = ap (λ (o : Option (Solved D)). option_and_then (λ (s : Solved D). s.outs) o) (find_entry k (keys def program.nodes) h)

  abbrev InputsHave : Cover D → Type 0
  InputsHave c = side_leq w (Some c.ins) (V (key_of c) Inputs) ≡ true

  known_of : (c : Cover D) → InputsHave c → Known d b answers c
  known_of c h = at (V (key_of c) Inputs) refl h
    where
      at : (o : Outcome D) → V (key_of c) Inputs ≡ o → side_leq w (Some c.ins) o ≡ true → Known d b answers c
      at None e k = absurd (false≢true k)
      at (Some t) e k =
          let member = is_member (key_of c) Inputs t e in
          (subst (λ o. outcome_leq d (Some c.ins) o ≡ true) (sym (inputs_back (key_of c) member)) (leq_outcome D d finite marks s covers (Some c.ins) (V (key_of c) Inputs) h), ap Some (sym (outputs_back (key_of c) member)))

  all_known : (cs : List (Cover D)) → CallsBelow w (map keyed cs) (λ j. V j Inputs) → AllByRecursion (Known d b answers) cs
  all_known [] h = tt
  all_known (c ∷ cs) h = (known_of c h.0, all_known cs h.1)

  covers_hold_named : (names : ℕ) (cs : List (Cover D)) → AllByRecursion (Known d b answers) cs → AllByRecursion (λ c. cover_holds d names b c ≡ true) cs
  covers_hold_named names [] h = tt
  covers_hold_named names (c ∷ cs) h = (h.0.0, covers_hold_named names cs h.1)

  -- a side of a key fits its hook's sorts
  fits_hook : (k : Key) (side : Side) (hook : Hook) (o : Outcome D) → hook_of_key s k ≡ Some hook → FitSide w k side o → outcome_fits d program.names (sorts_of_side side hook) o ≡ true
  fits_hook k side hook None e f = refl
  fits_hook k side hook (Some t) e f = subst (λ h. tuple_fits d program.names (option_map (sorts_of_side side) h) t ≡ true) e f

  entry_outs_fit : (k : Key) (o : Outcome D) → V k Outputs ≡ o → outcome_fits d program.names (outputs_of def k.0) o ≡ true
  entry_outs_fit k None e = refl
  entry_outs_fit k (Some t) e =
      let f = side_fits D d s k Outputs t (subst (FitSide w k Outputs) e (fits k Outputs)) in
      let i = key_is s k f.hook f.is in
      subst (λ sorts. outcome_fits d program.names sorts (Some t) ≡ true) (sym (ap (λ o. unwrap_or (option_map (λ (h : Hook). h.outputs) o) []) i.declared)) (and_from _ _ f.sorted f.proper)

  outs_fit : (id : HookId) (point : ℕ) → outcome_fits d program.names (outputs_of def id) (outputs_at b id point) ≡ true
  outs_fit id point = at (find (is_of_key id point) b) refl
    where
      at : (o : Option (Solved D)) → find (is_of_key id point) b ≡ o → outcome_fits d program.names (outputs_of def id) (option_and_then (λ (s : Solved D). s.outs) o) ≡ true
      at None e = refl
      at (Some sv) e = subst (λ (x : Solved D). outcome_fits d program.names (outputs_of def id) x.outs ≡ true) (sym (found_entry (id, point) sv e)) (entry_outs_fit (id, point) (V (id, point) Outputs) refl)

  -- The walk of a key of the table.

  record IsTold (k : Key) (walk : Walk D (Flows D)) : Type 0 where
    got : GotThere walk.ends
    known : AllByRecursion (Known d b answers) walk.asked
    below : outcome_leq d (end_of walk.ends) (V k Outputs) ≡ true

  told_at_key : (k : Key) (ins : Flows D) → V k Inputs ≡ Some ins → IsTold k (walk_of_key d s (own_answer V) k ins)
  told_at_key k ins e =
      let just = accepted.justified k in
      let walk = walk_of_key d s (own_answer V) k ins in
      let calls : CallsBelow w (map keyed walk.asked) (λ j. V j Inputs) = subst (λ i. CallsBelow w (told_at w (own_answer V) k i).calls (λ j. V j Inputs)) e just.calls in
      let gives : side_leq w (outcome_of walk.ends) (V k Outputs) ≡ true = subst (λ i. side_leq w (told_at w (own_answer V) k i).gives (V k Outputs) ≡ true) e just.gives in
      record {
        got = got_to walk.ends (gets_to D d tuples fit proper def program sorted is_program finite marks covers (own_answer V) (λ j. fits j Outputs) k ins (subst (FitSide w k Inputs) e (fits k Inputs)));
        known = all_known walk.asked calls;
        below = subst (λ o. outcome_leq d o (V k Outputs) ≡ true) (end_is_outcome walk.ends) (leq_outcome D d finite marks s covers (outcome_of walk.ends) (V k Outputs) gives);
      }

  module _ (k : Key) (key : KeyRule def program k) where
    abbrev node : TermNode
    node = key.parts.node

    abbrev rule : Rule
    rule = key.rule

    abbrev size : ℕ
    size = length rule.bones

    abbrev W : AbsEnv D → Walk D (AbsEnv D)
    W = abstract_world d answers program.names k.1 size rule.bones

    abbrev given : Outcome D → Solved D
    given i = entry_from k i (Some (node, rule))

    abbrev start : Outcome D → Option (AbsEnv D)
    start i = option_map (start_of rule node) i

    -- what is known of the walk from these inputs
    record Walked (i : Outcome D) : Type 0 where
      got : GotThere (in_world W (start i)).ends
      known : AllByRecursion (Known d b answers) (in_world W (start i)).asked
      below : IfThere (HasBelow d rule.outputs (V k Outputs)) (end_of (in_world W (start i)).ends)

    told_of_rule : (ins : Flows D) → V k Inputs ≡ Some ins → IsTold k (walk_of d answers program.names k.1 ins (node, rule))
    told_of_rule ins e =
        subst (λ (o : Option (TermNode × Rule)). IsTold k (option_map_or (walk_of d answers program.names k.1 ins) o (quiet ill))) (rule_found_at s k.0 k.1 rule key.hook key.con key.parts) (told_at_key k ins e)

    -- the outputs at the end
    outputs_below : (e : Option (AbsEnv D)) → GotThere (in_world (λ env. quiet {D = D} (there (values_at env rule.outputs))) e).ends → outcome_leq d (end_of (in_world (λ env. quiet {D = D} (there (values_at env rule.outputs))) e).ends) (V k Outputs) ≡ true →
        IfThere (HasBelow d rule.outputs (V k Outputs)) e
    outputs_below None g h = tt
    outputs_below (Some env) g h = at (values_at env rule.outputs) refl g h
      where
        at : (o : Outcome D) → values_at env rule.outputs ≡ o → GotThere (there {D = D} o) → outcome_leq d (end_of (there {D = D} o)) (V k Outputs) ≡ true → HasBelow d rule.outputs (V k Outputs) env
        at None e g h = absurd g
        at (Some vs) e g h = (vs, e, h)

    walked : (i : Outcome D) → V k Inputs ≡ i → Walked i
    walked None e = record { got = tt; known = tt; below = tt }
    walked (Some ins) e =
        let told = told_of_rule ins e in
        let first = W (start_of rule node ins) in
        let sp = split (Known d b answers) first.asked first.ends (in_world (λ env. quiet (there (values_at env rule.outputs)))) told.got told.known in
        record {
          got = sp.got;
          known = sp.calls;
          below = outputs_below (end_of first.ends) sp.later_got (subst (λ o. outcome_leq d o (V k Outputs) ≡ true) sp.same told.below);
        }

    hook_is : hook_of_key s k ≡ Some key.hook
    hook_is = hook_there s k key.is_key.node key.hook key.is_key.at key.is_key.declared key.is_key.takes

    pub inputs_fit : (i : Outcome D) → V k Inputs ≡ i → outcome_fits d program.names key.hook.inputs i ≡ true
    inputs_fit i e = fits_hook k Inputs key.hook i hook_is (subst (FitSide w k Inputs) e (fits k Inputs))

    children : ChildrenFit def program.nodes program.names node.children key.con.args
    children =
        subst (λ cs. ChildrenFit def program.nodes program.names cs key.con.args) (ap (λ (o : Option TermNode). option_map_or (λ (n : TermNode). n.children) o []) key.parts.node_is)
        (subst (λ sorts. ChildrenFit def program.nodes program.names (children_of_point program.nodes k.1) sorts) (ap (λ (o : Option Con). option_map_or (λ (c : Con). c.args) o []) key.parts.con_is) (entries_fit def program k.1 node is_program key.parts.node_is))

    alive_at_start : (i : Outcome D) → V k Inputs ≡ i → IfThere (Alive d program.names (given i).positions (header_sorts rule key.hook key.con) (first_env rule node)) (start i)
    alive_at_start None e = tt
    alive_at_start (Some ins) e =
        let f = inputs_fit (Some ins) e in (
          start_fits D d program.names def program.nodes program.names rule key.hook key.con node ins children f,
          reads_start Same (given (Some ins)).positions rule node ins ins refl (zip_same Same (λ x. refl) ins) (fits_long D d program.names key.hook.inputs ins f ∙ sym key.parts.inputs_counted),
        )

    gone_at_start : (i : Outcome D) → start i ≡ None → value_at (given i).positions 0 ≡ None
    gone_at_start None e = refl
    gone_at_start (Some ins) e = absurd cc

    -- the entry is of the key and satisfies its lines
    pub record EntrySolved (sv : Solved D) : Type 0 where
      pub is_of : IsOfKey d program.names (key_by_rule def k.0 k.1 node rule key.hook key.con) sv
      pub lines : list_all (line_holds d program.names b sv) (lines_of_rule k.1 rule node) ≡ true

    given_solved : (i : Outcome D) → V k Inputs ≡ i → EntrySolved (given i)
    given_solved i e =
        let sv = given i in
        let wk = walked i e in
        let bones = bones_solved D d tuples shapes keep def program.names b sv answers outs_fit key.con.sort k.1 size (start i) (first_env rule node) 0 (omega arith) key.parts.bones_fit (alive_at_start i e) (gone_at_start i) (at_start sv.positions).1 wk.got wk.known key.parts.bones_sorted in
        let last = last_position size 1 0 rule.bones in
        let final = env_after size 1 (first_env rule node) rule.bones in
        let line = values_solved D d tuples shapes keep def program.names b sv answers outs_fit key.con.sort k.1 (V k Outputs) last key.parts.after rule.outputs final (end_of (in_world W (start i)).ends) bones.ending.0 bones.ending.1 wk.below in
        record {
          is_of = record {
            same_hook = refl;
            same_point = refl;
            positions_fit = (inputs_fit i e, bones.fits);
            outs_fit = fits_hook k Outputs key.hook (V k Outputs) hook_is (fits k Outputs);
          };
          lines = list_all_both (line_holds d program.names b sv) (lines_of k.1 size 1 0 (first_env rule node) rule.bones) (line_at last (Part.End (operands_at final rule.outputs)) ∷ []) bones.lines (and_from (line_holds d program.names b sv (line_at last (Part.End (operands_at final rule.outputs)))) true line refl);
        }

    pub entry_solved : EntrySolved (entry k)
    entry_solved = subst (λ r. EntrySolved (entry_from k (V k Inputs) r)) (sym (rule_found_at s k.0 k.1 rule key.hook key.con key.parts)) (given_solved (V k Inputs) refl)

  -- The assignment satisfies the constraints.

  solved_at : (k : Key) (key : KeyLines) → OfProgram def program k → lines_of_key def program.nodes k ≡ Some key → IsOfKey d list.names key (entry k) × (list_all (line_holds d list.names b (entry k)) key.lines ≡ true)
  solved_at k key of e =
      let r = key_rule def program sorted is_program k of.0 of.1 in
      let solved = entry_solved k r in
      let same : key_by_rule def k.0 k.1 r.parts.node r.rule r.hook r.con ≡ key = same_Some _ key (sym r.lines_are ∙ e) in (
        subst (λ n. IsOfKey d n key (entry k)) (sym are.names_are) (subst (λ (x : KeyLines). IsOfKey d program.names x (entry k)) same solved.is_of),
        subst (λ n. list_all (line_holds d n b (entry k)) key.lines ≡ true) (sym are.names_are) (subst (λ (x : KeyLines). list_all (line_holds d program.names b (entry k)) x.lines ≡ true) same solved.lines),
      )

  pub walks_solve : Solves d list walk_assignment
  walks_solve =
      let zip = zip_from_map (lines_of_key def program.nodes) (keys def program.nodes) list.keys (sym are.keys_are) in
      record {
        assigns = turned (OfProgram def program) (λ k key. lines_of_key def program.nodes k ≡ Some key) (IsOfKey d list.names) entry (λ k key of e. (solved_at k key of e).0) (keys def program.nodes) list.keys (keys_are def program) zip;
        covered = subst (λ (cs : List (Cover D)). AllByRecursion (λ c. cover_holds d list.names b c ≡ true) cs) (sym are.covers_are)
            (covers_hold_named list.names covers (all_known covers accepted.covers));
        lines_hold = turned (OfProgram def program) (λ k key. lines_of_key def program.nodes k ≡ Some key) (λ (key : KeyLines) sv. list_all (line_holds d list.names b sv) key.lines ≡ true) entry (λ k key of e. (solved_at k key of e).1) (keys def program.nodes) list.keys (keys_are def program) zip;
      }

  -- Its table is the accepted one.

  entry_there : (k : Key) (ks : List Key) (sv : Solved D) → find (is_of_key k.0 k.1) (map entry ks) ≡ Some sv → list_any (same_key k) ks ≡ true
  entry_there k [] sv e = absurd (none-some sv e)
  entry_there k (j ∷ ks) sv e =
      cond_both (same_key j k) (Some (entry j)) (find (is_of_key k.0 k.1) (map entry ks)) (λ o. o ≡ Some sv → (same_key k j || list_any (same_key k) ks) ≡ true)
      (λ yes _. ap (λ b. b || list_any (same_key k) ks) (subst (λ i. same_key k i ≡ true) (sym (same_key_only j k yes)) (same_key_refl k)))
      (λ other f. or_right (same_key k j) (list_any (same_key k) ks) (entry_there k ks sv f)) e

  side_none : (k : Key) (side : Side) → list_any (same_key k) (keys def program.nodes) ≡ false → V k side ≡ None
  side_none k side other = at (V k side) refl
    where
      at : (o : Outcome D) → V k side ≡ o → o ≡ None
      at None e = refl
      at (Some t) e = absurd (both_ways (list_any (same_key k) (keys def program.nodes)) other (is_member k side t e))

  found_none : (k : Key) → list_any (same_key k) (keys def program.nodes) ≡ false → find (is_of_key k.0 k.1) b ≡ None
  found_none k other = at (find (is_of_key k.0 k.1) b) refl
    where
      at : (o : Option (Solved D)) → find (is_of_key k.0 k.1) b ≡ o → o ≡ None
      at None e = refl
      at (Some sv) e = absurd (both_ways (list_any (same_key k) (keys def program.nodes)) other (entry_there k (keys def program.nodes) sv e))

  side_back : (k : Key) (side : Side) → sides_of b k side ≡ V k side
  side_back k Inputs =
      elim (cases_Bool (list_any (same_key k) (keys def program.nodes))) [
        | inl e ↦ inputs_back k e
        | inr other ↦ ap (λ (o : Option (Solved D)). option_and_then (λ s. value_at s.positions 0) o) (found_none k other) ∙ sym (side_none k Inputs other)
      ]
  side_back k Outputs =
      elim (cases_Bool (list_any (same_key k) (keys def program.nodes))) [
        | inl e ↦ outputs_back k e
        | inr other ↦ ap (λ (o : Option (Solved D)). option_and_then (λ (s : Solved D). s.outs) o) (found_none k other) ∙ sym (side_none k Outputs other)
      ]

  pub accepted_solved : HasSolution d list V
  accepted_solved = record { assignment = walk_assignment; solves = walks_solve; table_is = λ i k side. side_back k side i }
