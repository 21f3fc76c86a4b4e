-- The outcomes of a walk of bones, as the positions of its key, satisfy the lines of the bones.
use Rattle.std.proofs.Common.{◌≡◌, ℕ, zero, suc, ◌+◌, ◌≤◌, ◌<◌, true, ◌&&◌, List, [], ◌∷◌, ◌++◌, length, map, take, sum, flat_map, filter_map, Option, Some, None, Ok, refl, sym, ◌∙◌, ap, subst, arith}
use Rattle.std.specs.Prelude.{slice_get, unwrap_or}
use Rattle.std.specs.List.{AllByRecursion, AllZip, list_all}
use Rattle.std.specs.Option.{option_map, option_map_or}
use Rattle.std.proofs.lemmas.Bool.{and_from}
use Rattle.std.proofs.lemmas.Option.{none-some, same_Some}
use Rattle.std.proofs.lemmas.List.{length-map}
use Rattle.std.proofs.lemmas.List.Elements.{recursion_from_All}
use Rattle.sk_base.specs.declared.flow.FlowSort.{FlowSort}
use Rattle.sk_def.specs.declared.ids.HookId.{HookId}
use Rattle.sk_def.specs.declared.ids.SortId.{SortId}
use Rattle.sk_def.specs.declared.ids.Var.{Var}
use Rattle.sk_def.specs.declared.sorts.VarSort.{VarSort}
use Rattle.sk_def.specs.declared.sorts.VarSort.TheVariants as variable
use Rattle.sk_def.specs.declared.filter.Filter.{Filter}
use Rattle.sk_def.specs.declared.bone.Target.{Target}
use Rattle.sk_def.specs.declared.bone.Bone.{Bone}
use Rattle.sk_def.specs.declared.bone.Bone.TheVariants.{Apply, Call, Either}
use Rattle.sk_def.specs.declared.def.Hook.{Hook}
use Rattle.sk_def.specs.declared.def.Def.{Def}
use Rattle.sk_def.specs.Layout.{BonesFit, BranchesFit, filter_bone, hook_bone, branch_bone, branch, branch_places, first_of_branch, after_branches}
use Rattle.sk_def.specs.Signatures.{parameters, results}
use Rattle.sk_def.specs.Sorts.{Sorts, sort_of, define, HaveSorts, after_filter, after_hook, after_merge, outputs_of}
use Rattle.sk_def.proofs.Layouts.{branch_at, branch-take}
use Rattle.sk_walk.specs.Walks.{Walks, WalksBranches, no_bone, filter_goes, hook_goes, merge_goes, no_branch, branch_goes}
use Rattle.sk_walk.specs.Sorted.{sort_checks}
use Rattle.sk_sort.proofs.Walked.{shorter-drop, shorter-branch}
use Rattle.sk_deriv.specs.Env.{all_of, args_at, values_at, target_at, gain}
use Rattle.sk_lattice.specs.Domain.{Domain}
use Rattle.sk_lattice.specs.Laws.{TupleLaws}
use Rattle.sk_lattice.specs.Shapes.{ShapeLaws}
use Rattle.sk_absfilter.specs.Abstract.{Outcome, abstract_result}
use Rattle.sk_absfilter.specs.Laws.{outcome_leq}
use Rattle.sk_absfilter.specs.Fits.{FiltersKeepSorts}
use Rattle.sk_table.specs.declared.triple.Cover.{Cover}
use Rattle.sk_abswalk.specs.Walk.{AbsEnv, Flows, argument_in, Ends, uncovered, ill, with, Walk, quiet, go_on, in_world, after_world, Answers, call_at, ask, filtered, walk_branches, join_exports}
use Rattle.sk_abswalk.specs.Order.{GotThere}
use Rattle.sk_constr.specs.declared.line.Part.{Part}
use Rattle.sk_constr.specs.declared.line.Line.{Line}
use Rattle.sk_constr.specs.Operands.{PlaceEnv, places, operands_at}
use Rattle.sk_constr.specs.Positions.{flow_sort, sorts_at_ends, branch_sorts, positions_of}
use Rattle.sk_constr.specs.Lines.{env_after, last_position, line_at, lines_of}
use Rattle.sk_solve.specs.declared.assignment.Solved.{Solved}
use Rattle.sk_solve.specs.Solves.{value_at, argument_at, operand_value, asked, inputs_at, outputs_at, line_holds, outcome_fits}
use Rattle.sk_rounds.proofs.Lists.{all_more}
use Rattle.sk_agree.proofs.Relations.{zip_same, zip_append, same_from_zip, list_all_both, Matches, IfThere}
use Rattle.sk_agree.proofs.Readings.{ArgsBy, AtPlace, target_related, args_read, values_read, reads_gain}
use Rattle.sk_agree.proofs.Below.{no_more, outcome_refl}
use Rattle.sk_agree.proofs.SortsWalked.{ok_same, ends_walked}
use Rattle.sk_agree.proofs.SortedEnvs.{EnvFits, FlowsFit, args_fit, values_fit, gain_fits, outcome_from_flows, flows_from_outcome, result_fits, map_flows, exported_are}
use Rattle.sk_agree.proofs.Spots.{end_of, split, branches_got, IsAt, spread, branch_long, gains, moved, world, at_filter, at_call, branch_end, at_merge, spots, spots_long}
use Rattle.sk_agree.proofs.Solving.{zip_long, asked_gone, asked_known, Same, Known, Alive, same_args, read_known, filter_got, HasBelow, join_got, join_sorted}

one_more : {A : Type 0} (P : List (Outcome A)) (n : ℕ) (x : Outcome A) → slice_get P n ≡ Some x → value_at P n ≡ x
one_more {A} P n x e = ap (λ (o : Option (Outcome A)). unwrap_or o None) e

-- lists by place, put together of parts
zip_flat : {A B : Type 0} (R : A → B → Type 0) (f : ℕ → List A) (g : ℕ → List B) (ks : List ℕ) → AllByRecursion (λ k. AllZip R (f k) (g k)) ks → AllZip R (flat_map f ks) (flat_map g ks)
zip_flat R f g [] h = tt
zip_flat R f g (k ∷ ks) h = zip_append R (f k) (g k) (flat_map f ks) (flat_map g ks) h.0 (zip_flat R f g ks h.1)

pub places_below : (i n : ℕ) (counts : List ℕ) → i + length counts ≤ n → AllByRecursion (λ k. k < n) (branch_places i counts)
places_below i n [] h = tt
places_below i n (c ∷ counts) h = (omega (arith, h), places_below (i + 1) n counts (omega (arith, h)))

-- the parts of bones that fit
pub filter_rest : {hooks vars nesting : ℕ} {filter : Filter} {args outs : List Var} {bones : List Bone} → BonesFit hooks vars nesting (Apply filter args outs ∷ bones) → BonesFit hooks vars nesting bones
filter_rest (filter_bone a b fit) = fit

pub hook_rest : {hooks vars nesting : ℕ} {id : HookId} {args : List Var} {target : Target} {outs : List Var} {bones : List Bone} → BonesFit hooks vars nesting (Call id args target outs ∷ bones) → BonesFit hooks vars nesting bones
hook_rest (hook_bone i a t b fit) = fit

pub record MergeFits (hooks vars : ℕ) (counts : List ℕ) (bones : List Bone) : Type 0 where
  pub inner : ℕ
  pub within : sum counts ≤ length bones
  pub inside : BranchesFit hooks vars inner counts (take (sum counts) bones)
  pub later : BonesFit hooks vars (suc inner) (after_branches counts bones)

pub merge_fits_parts : {hooks vars nesting : ℕ} {counts : List ℕ} {exports : List Var} {bones : List Bone} → BonesFit hooks vars nesting (Either counts exports ∷ bones) → MergeFits hooks vars counts bones
merge_fits_parts (branch_bone {nesting} two within below inside later) = record { inner = nesting; within = within; inside = inside; later = later }

module _ (D : Type 0) (d : Domain D) (tuples : TupleLaws d) (shapes : ShapeLaws d) (keep : FiltersKeepSorts d) (def : Def) (names : ℕ) (b : List (Solved D)) (sv : Solved D) (answers : Answers D)
    (outs_fit : (id : HookId) (point : ℕ) → outcome_fits d names (outputs_of def id) (outputs_at b id point) ≡ true) where
  abbrev P : List (Outcome D)
  P = sv.positions

  abbrev pub Fits : List FlowSort → Outcome D → Type 0
  Fits sorts o = outcome_fits d names sorts o ≡ true

  abbrev Asked : Cover D → Type 0
  Asked = Known d b answers

  abbrev Lives : Sorts → PlaceEnv → AbsEnv D → Type 0
  Lives = Alive d names P

  -- Calls.

  record CallGot (id : HookId) (t : Option ℕ) (o : Outcome D) : Type 0 where
    point : ℕ
    ins : Flows D
    target_is : t ≡ Some point
    ins_are : o ≡ Some ins
    below : outcome_leq d (Some ins) (inputs_at b id point) ≡ true
    ends : end_of (ask answers (call_at id t o)).ends ≡ outputs_at b id point

  call_got : (id : HookId) (t : Option ℕ) (o : Outcome D) → GotThere (ask answers (call_at id t o)).ends → AllByRecursion Asked (ask answers (call_at id t o)).asked → CallGot id t o
  call_got id None o g h = absurd g
  call_got id (Some point) None g h = absurd g
  call_got id (Some point) (Some ins) g h =
      record {
        point = point;
        ins = ins;
        target_is = refl;
        ins_are = refl;
        below = h.0.0;
        ends = ap (λ (x : Option (Outcome D)). end_of (option_map_or with x (uncovered (record { hook = id; point = point; ins = ins })))) h.0.1;
      }

  -- The world after a bone.

  alive_gains : (o : Option (AbsEnv D)) (g k : Sorts) (other : PlaceEnv) (vars : List Var) (sorts : List VarSort) (r : Outcome D) (n : ℕ) → IfThere (Lives g other) o → value_at P n ≡ r →
      IfThere (λ flows. FlowsFit D d names sorts flows × (length sorts ≡ length vars) × (k ≡ define g vars (map Some sorts))) r → IfThere (Lives k (gain other vars (places n vars))) (gains o vars r)
  alive_gains None g k other vars sorts r n h e f = tt
  alive_gains (Some env) g k other vars sorts None n h e f = tt
  alive_gains (Some env) g k other vars sorts (Some flows) n h e f = (
    subst (λ k. EnvFits D d names k (gain env vars flows)) (sym f.2) (gain_fits D d names vars g env sorts flows h.0 f.0),
    reads_gain Same P env other n vars flows flows h.1 e (zip_same Same (λ x. refl) flows) (zip_long _ sorts flows f.0 ∙ f.1),
  )

  gone_gains : (o : Option (AbsEnv D)) (vars : List Var) (r : Outcome D) → (o ≡ None → r ≡ None) → gains o vars r ≡ None → r ≡ None
  gone_gains None vars r h e = h refl
  gone_gains (Some env) vars None h e = refl
  gone_gains (Some env) vars (Some flows) h e = absurd cc

  module _ (own : SortId) (point : ℕ) where
    abbrev W : ℕ → List Bone → AbsEnv D → Walk D (AbsEnv D)
    W = world D d answers names point

    abbrev Spots : ℕ → List Bone → Option (AbsEnv D) → List (Outcome D)
    Spots = spots D d answers names point

    -- a walk of the rest of the bones that got to its end, which is that of the whole
    record Later (whole : Option (AbsEnv D)) (bound : ℕ) (rest : List Bone) (o : Option (AbsEnv D)) : Type 0 where
      got : GotThere (in_world (W bound rest) o).ends
      calls : AllByRecursion Asked (in_world (W bound rest) o).asked
      same : whole ≡ end_of (in_world (W bound rest) o).ends

    -- the walk of a bone, and of the rest after it
    later_at : (asked : List (Cover D)) (ends : Ends D (Flows D)) (bound : ℕ) (rest : List Bone) (env : AbsEnv D) (vars : List Var) → GotThere (go_on asked ends (in_world (λ flows. W bound rest (gain env vars flows)))).ends → AllByRecursion Asked (go_on asked ends (in_world (λ flows. W bound rest (gain env vars flows)))).asked →
        Later (end_of (go_on asked ends (in_world (λ flows. W bound rest (gain env vars flows)))).ends) bound rest (option_map (gain env vars) (end_of ends))
    later_at asked ends bound rest env vars g h =
        let s = split Asked asked ends (in_world (λ flows. W bound rest (gain env vars flows))) g h in
        let e = moved (W bound rest) env vars (end_of ends) in
        record {
          got = subst (λ (w : Walk D (AbsEnv D)). GotThere w.ends) e s.later_got;
          calls = subst (λ (w : Walk D (AbsEnv D)). AllByRecursion Asked w.asked) e s.later_calls;
          same = s.same ∙ ap (λ (w : Walk D (AbsEnv D)). end_of w.ends) e;
        }

    -- the end of bones, and the position of the last of them
    abbrev Ending : (bound first from : ℕ) → PlaceEnv → List Bone → Sorts → Option (AbsEnv D) → Type 0
    Ending bound first from other bones h e = IfThere (Lives h (env_after bound first other bones)) e × (e ≡ None → value_at P (last_position bound first from bones) ≡ None)

    pub record IsSolved (bound first from : ℕ) (other : PlaceEnv) (bones : List Bone) (g h : Sorts) (o : Option (AbsEnv D)) : Type 0 where
      pub lines : list_all (line_holds d names b sv) (lines_of point bound first from other bones) ≡ true
      pub fits : AllZip Fits (positions_of def bound g bones) (Spots bound bones o)
      pub ending : Ending bound first from other bones h (end_of (in_world (W bound bones) o).ends)

    outputs_long : (id : HookId) (hook : Hook) → slice_get def.hooks id.0 ≡ Some hook → length (outputs_of def id) ≡ length hook.outputs
    outputs_long id hook e = rw e refl

    -- Filters.

    record FilterSolved (first from : ℕ) (other : PlaceEnv) (filter : Filter) (args : List Var) (o : Option (AbsEnv D)) : Type 0 where
      line : line_holds d names b sv (line_at from (Part.Filter first filter (operands_at other args))) ≡ true
      fit : IfThere (FlowsFit D d names (results filter)) (at_filter D d answers names point filter args o)

    filter_solved : (first from : ℕ) (g : Sorts) (other : PlaceEnv) (filter : Filter) (args : List Var) (o : Option (AbsEnv D)) → IfThere (Lives g other) o → (o ≡ None → value_at P from ≡ None) → HaveSorts g args (parameters filter) →
        value_at P first ≡ at_filter D d answers names point filter args o → IfThere (λ env. GotThere (filtered d filter names (args_at argument_in env args))) o → FilterSolved first from other filter args o
    filter_solved first from g other filter args None h gone sorts is got = record { line = asked_gone (argument_at P) (value_at P from) (operands_at other args) _ (gone refl); fit = tt }
    filter_solved first from g other filter args (Some env) h gone sorts is got =
        let f = filter_got d filter names (args_at argument_in env args) got in
        let read = read_known (ArgsBy Same) same_args (args_at argument_in env args) (all_of (argument_at P) (operands_at other args)) (args_read Same P env other h.1 args) f.given f.is in
        record {
          line = asked_known (argument_at P) (value_at P from) (operands_at other args) (λ given. outcome_leq d (abstract_result d filter names given) (value_at P first)) f.given read
              (subst (λ x. outcome_leq d (abstract_result d filter names f.given) x ≡ true) (sym (is ∙ f.ends)) (outcome_refl D d tuples (abstract_result d filter names f.given)));
          fit = subst (IfThere (FlowsFit D d names (results filter))) (sym f.ends) (result_fits D d names keep filter f.given (args_fit D d names g env h.0 args (parameters filter) f.given sorts f.is));
        }

    -- an outcome that fits the sorts of what a bone gives
    outcome_from : (sorts : List VarSort) (r : Outcome D) → IfThere (FlowsFit D d names sorts) r → Fits (filter_map flow_sort sorts) r
    outcome_from sorts None h = refl
    outcome_from sorts (Some flows) h = outcome_from_flows D d names sorts flows h

    with_sorts : (sorts : List VarSort) (vars : List Var) (g k : Sorts) (r : Outcome D) → length sorts ≡ length vars → k ≡ define g vars (map Some sorts) → IfThere (FlowsFit D d names sorts) r →
        IfThere (λ flows. FlowsFit D d names sorts flows × (length sorts ≡ length vars) × (k ≡ define g vars (map Some sorts))) r
    with_sorts sorts vars g k None long e h = tt
    with_sorts sorts vars g k (Some flows) long e h = (h, long, e)

    -- Calls.

    record CallSolved (first from : ℕ) (other : PlaceEnv) (id : HookId) (target : Target) (args : List Var) (o : Option (AbsEnv D)) : Type 0 where
      lines : list_all (line_holds d names b sv) (option_map_or (λ at. line_at from (Part.Call first id at (operands_at other args)) ∷ []) (target_at point other target) []) ≡ true
      fit : Fits (outputs_of def id) (at_call D d answers names point id target args o)

    target_known : (t u : Option ℕ) → Matches (λ (p q : ℕ). p ≡ q) t u → (p : ℕ) → t ≡ Some p → u ≡ Some p
    target_known None u m p e = absurd (none-some p e)
    target_known (Some t) None m p e = absurd m
    target_known (Some t) (Some u) m p e = ap Some (sym m ∙ same_Some t p e)

    call_solved : (first from : ℕ) (g : Sorts) (other : PlaceEnv) (id : HookId) (target : Target) (args : List Var) (o : Option (AbsEnv D)) → IfThere (Lives g other) o → (o ≡ None → value_at P from ≡ None) →
        value_at P first ≡ at_call D d answers names point id target args o → IfThere (λ env. CallGot id (target_at point env target) (values_at env args)) o → CallSolved first from other id target args o
    call_solved first from g other id target args None h gone is got = record { lines = at (target_at point other target); fit = refl }
      where
        at : (t : Option ℕ) → list_all (line_holds d names b sv) (option_map_or (λ at. line_at from (Part.Call first id at (operands_at other args)) ∷ []) t []) ≡ true
        at None = refl
        at (Some t) = and_from (line_holds d names b sv (line_at from (Part.Call first id t (operands_at other args)))) true (asked_gone (operand_value P) (value_at P from) (operands_at other args) _ (gone refl)) refl
    call_solved first from g other id target args (Some env) h gone is got =
        let read = read_known Same same_from_zip (values_at env args) (all_of (operand_value P) (operands_at other args)) (values_read Same P env other h.1 args) got.ins got.ins_are in
        let target_is = target_known (target_at point env target) (target_at point other target) (target_related (AtPlace Same P) point env other h.1 target) got.point got.target_is in
        let line : line_holds d names b sv (line_at from (Part.Call first id got.point (operands_at other args))) ≡ true =
        asked_known (operand_value P) (value_at P from) (operands_at other args) (λ ins. outcome_leq d (Some ins) (inputs_at b id got.point) && outcome_leq d (outputs_at b id got.point) (value_at P first)) got.ins read
        (and_from (outcome_leq d (Some got.ins) (inputs_at b id got.point)) (outcome_leq d (outputs_at b id got.point) (value_at P first)) got.below
        (subst (λ x. outcome_leq d (outputs_at b id got.point) x ≡ true) (sym (is ∙ got.ends)) (outcome_refl D d tuples (outputs_at b id got.point)))) in
        record {
          lines = subst (λ t. list_all (line_holds d names b sv) (option_map_or (λ at. line_at from (Part.Call first id at (operands_at other args)) ∷ []) t []) ≡ true) (sym target_is)
              (and_from (line_holds d names b sv (line_at from (Part.Call first id got.point (operands_at other args)))) true line refl);
          fit = subst (Fits (outputs_of def id)) (sym got.ends) (outs_fit id got.point);
        }

    flows_of_outs : (id : HookId) (r : Outcome D) → Fits (outputs_of def id) r → IfThere (FlowsFit D d names (map variable.Flow (outputs_of def id))) r
    flows_of_outs id None h = tt
    flows_of_outs id (Some flows) h = flows_from_outcome D d names (outputs_of def id) flows h

    -- Joins.

    abbrev Exports : ℕ → List Var → Option (AbsEnv D) → Type 0
    Exports bone exports = IfThere (HasBelow d exports (value_at P bone))

    -- the values of variables at the end of a world, which lie below an outcome
    pub values_solved : (r : Outcome D) (from : ℕ) (g : Sorts) (vars : List Var) (other : PlaceEnv) (e : Option (AbsEnv D)) → IfThere (Lives g other) e → (e ≡ None → value_at P from ≡ None) → IfThere (HasBelow d vars r) e →
        asked (operand_value P) (value_at P from) (operands_at other vars) (λ values. outcome_leq d (Some values) r) ≡ true
    values_solved r from g vars other None h gone below = asked_gone (operand_value P) (value_at P from) (operands_at other vars) _ (gone refl)
    values_solved r from g vars other (Some env) h gone below =
        asked_known (operand_value P) (value_at P from) (operands_at other vars) (λ values. outcome_leq d (Some values) r) below.0
        (read_known Same same_from_zip (values_at env vars) (all_of (operand_value P) (operands_at other vars)) (values_read Same P env other h.1 vars) below.0 below.1) below.2

    -- what the joined exports of a branch bone are
    record MergeSolved (bound : ℕ) (g : Sorts) (exports : List Var) (sorts : List VarSort) (ends : List Sorts) (r : Outcome D) : Type 0 where
      fit : Fits (sorts_at_ends exports ends) r
      flows : IfThere (λ flows. FlowsFit D d names sorts flows × (length sorts ≡ length exports) × (after_merge g exports ends ≡ define g exports (map Some sorts))) r

    have_long : (g : Sorts) (vars : List Var) (sorts : List VarSort) → HaveSorts g vars sorts → length sorts ≡ length vars
    have_long g vars sorts h = sym (length-map sorts Some) ∙ sym (ap length h) ∙ length-map vars (sort_of g)

    merge_solved : (bound : ℕ) (g : Sorts) (exports : List Var) (sorts : List VarSort) (ends : List Sorts) (worlds : List (Option (AbsEnv D))) → AllByRecursion (λ e. HaveSorts e exports sorts) ends → AllZip (λ e o. IfThere (EnvFits D d names e) o) ends worlds →
        MergeSolved bound g exports sorts ends (end_of (join_exports d exports None worlds))
    merge_solved bound g exports sorts [] [] same z = record { fit = refl; flows = tt }
    merge_solved bound g exports sorts [] (o ∷ worlds) same z = absurd z
    merge_solved bound g exports sorts (e ∷ ends) worlds same z =
        let r = end_of (join_exports d exports None worlds) in
        let flows : IfThere (FlowsFit D d names sorts) r = join_sorted D d tuples shapes names sorts exports None worlds tt (all (e ∷ ends) worlds same z) in
        let long = have_long e exports sorts same.0 in
        record {
          fit = subst (λ fs. Fits fs r) (sym (exported_are e exports sorts same.0)) (outcome_from sorts r flows);
          flows = with_sorts sorts exports g (after_merge g exports (e ∷ ends)) r long (ap (define g exports) same.0) flows;
        }
      where
        all : (ends : List Sorts) (worlds : List (Option (AbsEnv D))) → AllByRecursion (λ e. HaveSorts e exports sorts) ends → AllZip (λ e o. IfThere (EnvFits D d names e) o) ends worlds →
            AllByRecursion (IfThere (λ env. (vs : Flows D) → values_at env exports ≡ Some vs → FlowsFit D d names sorts vs)) worlds
        all [] [] same z = tt
        all [] (o ∷ worlds) same z = absurd z
        all (e ∷ ends) [] same z = absurd z
        all (e ∷ ends) (None ∷ worlds) same z = (tt, all ends worlds same.1 z.1)
        all (e ∷ ends) (Some env ∷ worlds) same z = ((λ vs k. values_fit D d names e env z.0 exports sorts vs same.0 k), all ends worlds same.1 z.1)

    -- what is known of a branch bone's walk
    record MergeGot (bound : ℕ) (counts : List ℕ) (exports : List Var) (bones : List Bone) (whole o : Option (AbsEnv D)) (r : Outcome D) : Type 0 where
      each : AllByRecursion (λ k. GotThere (in_world (W bound (branch counts k bones)) o).ends × AllByRecursion Asked (in_world (W bound (branch counts k bones)) o).asked) (branch_places 0 counts)
      below : AllByRecursion (λ k. IfThere (HasBelow d exports r) (end_of (in_world (W bound (branch counts k bones)) o).ends)) (branch_places 0 counts)
      joined : r ≡ end_of (join_exports d exports None (map (λ k. end_of (in_world (W bound (branch counts k bones)) o).ends) (branch_places 0 counts)))
      later : Later whole bound (after_branches counts bones) (gains o exports r)

    none_each : (bound : ℕ) (counts : List ℕ) (bones : List Bone) (ks : List ℕ) → AllByRecursion (λ k. GotThere (in_world (W bound (branch counts k bones)) None).ends × AllByRecursion Asked (in_world (W bound (branch counts k bones)) None).asked) ks
    none_each bound counts bones [] = tt
    none_each bound counts bones (k ∷ ks) = ((tt, tt), none_each bound counts bones ks)

    none_below : (bound : ℕ) (counts : List ℕ) (exports : List Var) (bones : List Bone) (r : Outcome D) (ks : List ℕ) → AllByRecursion (λ k. IfThere (HasBelow d exports r) (end_of (in_world (W bound (branch counts k bones)) None).ends)) ks
    none_below bound counts exports bones r [] = tt
    none_below bound counts exports bones r (k ∷ ks) = (tt, none_below bound counts exports bones r ks)

    none_joined : (exports : List Var) (ks : List ℕ) → ◌≡◌ {A = Outcome D} None (end_of (join_exports d exports None (map (λ (k : ℕ). None) ks)))
    none_joined exports [] = refl
    none_joined exports (k ∷ ks) = none_joined exports ks

    all_unmapped : {A B : Type 0} (Q : B → Type 0) (f : A → B) (xs : List A) → AllByRecursion Q (map f xs) → AllByRecursion (λ x. Q (f x)) xs
    all_unmapped Q f [] h = tt
    all_unmapped Q f (x ∷ xs) h = (h.0, all_unmapped Q f xs h.1)

    merge_got : (bound : ℕ) (counts : List ℕ) (exports : List Var) (bones : List Bone) (o : Option (AbsEnv D)) → GotThere (in_world (W (suc bound) (Either counts exports ∷ bones)) o).ends → AllByRecursion Asked (in_world (W (suc bound) (Either counts exports ∷ bones)) o).asked →
        MergeGot bound counts exports bones (end_of (in_world (W (suc bound) (Either counts exports ∷ bones)) o).ends) o (at_merge D d answers names point bound counts exports bones o)
    merge_got bound counts exports bones None g h = record {
      each = none_each bound counts bones (branch_places 0 counts);
      below = none_below bound counts exports bones None (branch_places 0 counts);
      joined = none_joined exports (branch_places 0 counts);
      later = record { got = tt; calls = tt; same = refl };
    }
    merge_got bound counts exports bones (Some env) g h =
        let ks = branch_places 0 counts in
        let walk : ℕ → Walk D (AbsEnv D) = λ k. W bound (branch counts k bones) env in
        let worlds = map (branch_end D d answers names point bound counts bones env) ks in
        let after : List (Option (AbsEnv D)) → Walk D (AbsEnv D) = λ ws. after_world (quiet (join_exports d exports None ws)) (λ flows. W bound (after_branches counts bones) (gain env exports flows)) in
        let s = split Asked (walk_branches walk ks).asked (walk_branches walk ks).ends (in_world after) g h in
        let got = branches_got Asked walk ks s.got s.calls in
        let at_worlds : end_of (walk_branches walk ks).ends ≡ Some worlds = ap end_of got.ends in
        let next_got : GotThere (after worlds).ends = subst (λ (o : Option (List (Option (AbsEnv D)))). GotThere (in_world after o).ends) at_worlds s.later_got in
        let next_calls : AllByRecursion Asked (after worlds).asked = subst (λ (o : Option (List (Option (AbsEnv D)))). AllByRecursion Asked (in_world after o).asked) at_worlds s.later_calls in
        let same : end_of (W (suc bound) (Either counts exports ∷ bones) env).ends ≡ end_of (after worlds).ends = s.same ∙ ap (λ (o : Option (List (Option (AbsEnv D)))). end_of (in_world after o).ends) at_worlds in
        let first = split Asked [] (join_exports d exports None worlds) (in_world (λ flows. W bound (after_branches counts bones) (gain env exports flows))) next_got next_calls in
        let later = later_at [] (join_exports d exports None worlds) bound (after_branches counts bones) env exports next_got next_calls in
        let joins = join_got D d tuples exports None worlds first.got in
        record {
          each = got.each;
          below = all_unmapped (IfThere (HasBelow d exports (end_of (join_exports d exports None worlds)))) (branch_end D d answers names point bound counts bones env) ks joins.each;
          joined = refl;
          later = record { got = later.got; calls = later.calls; same = same ∙ later.same };
        }

    -- Bones.

    abbrev branch_lines : (bound bone from : ℕ) → PlaceEnv → List ℕ → List Var → List Bone → ℕ → List Line
    branch_lines bound bone from other counts exports bones k =
        lines_of point bound (first_of_branch bone counts k) from other (branch counts k bones)
        ++ line_at (last_position bound (first_of_branch bone counts k) from (branch counts k bones))
        (Part.Join bone (operands_at (env_after bound (first_of_branch bone counts k) other (branch counts k bones)) exports)) ∷ []

    record BranchesSolved (bound bone from : ℕ) (other : PlaceEnv) (counts : List ℕ) (exports : List Var) (bones : List Bone) (g : Sorts) (ends : List Sorts) (o : Option (AbsEnv D)) (ks : List ℕ) : Type 0 where
      lines : list_all (line_holds d names b sv) (flat_map (branch_lines bound bone from other counts exports bones) ks) ≡ true
      fits : AllByRecursion (λ k. AllZip Fits (positions_of def bound g (branch counts k bones)) (Spots bound (branch counts k bones) o)) ks
      worlds : AllZip (λ e w. IfThere (EnvFits D d names e) w) ends (map (λ k. end_of (in_world (W bound (branch counts k bones)) o).ends) ks)

    sorted_end : (h : Sorts) (other : PlaceEnv) (e : Option (AbsEnv D)) → IfThere (Lives h other) e → IfThere (EnvFits D d names h) e
    sorted_end h other None k = tt
    sorted_end h other (Some env) k = k.0

    -- a branch stands in the positions from its first bone on
    abbrev BranchAt : (hooks vars nesting bound bone : ℕ) → List ℕ → List Bone → Option (AbsEnv D) → ℕ → Type 0
    BranchAt hooks vars nesting bound bone counts bones o k = BonesFit hooks vars nesting (branch counts k bones) × IsAt P (first_of_branch bone counts k) (Spots bound (branch counts k bones) o)

    branches_at : (hooks vars nesting bound bone : ℕ) (counts : List ℕ) (exports : List Var) (bones : List Bone) (o : Option (AbsEnv D)) (rest : List (Outcome D)) → length bones ≤ bound → sum counts ≤ length bones → ((k : ℕ) → k < length counts → BonesFit hooks vars nesting (branch counts k bones)) →
        IsAt P (bone + 1) (flat_map (λ k. Spots bound (branch counts k bones) o) (branch_places 0 counts) ++ rest) → AllByRecursion (BranchAt hooks vars nesting bound bone counts bones o) (branch_places 0 counts) × IsAt P (bone + 1 + sum counts) rest
    branches_at hooks vars nesting bound bone counts exports bones o rest short within fit at =
        let all = spread P (λ k. Spots bound (branch counts k bones) o) rest counts bone
        (λ k lt. spots_long D d answers names point bound o (shorter-branch bound k counts bones short) (fit k lt) ∙ branch_long counts k bones lt within) at in
        (all_more (λ k. k < length counts) (BranchAt hooks vars nesting bound bone counts bones o) (λ k lt. (fit k lt, all.0 k lt)) (branch_places 0 counts) (places_below 0 (length counts) counts (omega arith)), all.1)

    filter_first : (bound : ℕ) (filter : Filter) (args outs : List Var) (bones : List Bone) (o : Option (AbsEnv D)) → GotThere (in_world (W (suc bound) (Apply filter args outs ∷ bones)) o).ends → IfThere (λ env. GotThere (filtered d filter names (args_at argument_in env args))) o
    filter_first bound filter args outs bones None g = tt
    filter_first bound filter args outs bones (Some env) g = first (filtered d filter names (args_at argument_in env args)) g
      where
        first : (ends : Ends D (Flows D)) → GotThere (go_on [] ends (in_world (λ flows. W bound bones (gain env outs flows)))).ends → GotThere ends
        first (uncovered c) g = absurd g
        first ill g = absurd g
        first (with r) g = tt

    filter_later : (bound : ℕ) (filter : Filter) (args outs : List Var) (bones : List Bone) (o : Option (AbsEnv D)) → GotThere (in_world (W (suc bound) (Apply filter args outs ∷ bones)) o).ends → AllByRecursion Asked (in_world (W (suc bound) (Apply filter args outs ∷ bones)) o).asked →
        Later (end_of (in_world (W (suc bound) (Apply filter args outs ∷ bones)) o).ends) bound bones (gains o outs (at_filter D d answers names point filter args o))
    filter_later bound filter args outs bones None g h = record { got = tt; calls = tt; same = refl }
    filter_later bound filter args outs bones (Some env) g h = later_at [] (filtered d filter names (args_at argument_in env args)) bound bones env outs g h

    call_first : (bound : ℕ) (id : HookId) (args : List Var) (target : Target) (outs : List Var) (bones : List Bone) (o : Option (AbsEnv D)) → GotThere (in_world (W (suc bound) (Call id args target outs ∷ bones)) o).ends → AllByRecursion Asked (in_world (W (suc bound) (Call id args target outs ∷ bones)) o).asked →
        IfThere (λ env. CallGot id (target_at point env target) (values_at env args)) o
    call_first bound id args target outs bones None g h = tt
    call_first bound id args target outs bones (Some env) g h =
        let call = ask answers (call_at id (target_at point env target) (values_at env args)) in
        let s = split Asked call.asked call.ends (in_world (λ flows. W bound bones (gain env outs flows))) g h in
        call_got id (target_at point env target) (values_at env args) s.got s.calls

    call_later : (bound : ℕ) (id : HookId) (args : List Var) (target : Target) (outs : List Var) (bones : List Bone) (o : Option (AbsEnv D)) → GotThere (in_world (W (suc bound) (Call id args target outs ∷ bones)) o).ends → AllByRecursion Asked (in_world (W (suc bound) (Call id args target outs ∷ bones)) o).asked →
        Later (end_of (in_world (W (suc bound) (Call id args target outs ∷ bones)) o).ends) bound bones (gains o outs (at_call D d answers names point id target args o))
    call_later bound id args target outs bones None g h = record { got = tt; calls = tt; same = refl }
    call_later bound id args target outs bones (Some env) g h =
        let call = ask answers (call_at id (target_at point env target) (values_at env args)) in later_at call.asked call.ends bound bones env outs g h

    none_filter : (filter : Filter) (args : List Var) (o : Option (AbsEnv D)) → o ≡ None → at_filter D d answers names point filter args o ≡ None
    none_filter filter args o e = ap (at_filter D d answers names point filter args) e

    none_call : (id : HookId) (target : Target) (args : List Var) (o : Option (AbsEnv D)) → o ≡ None → at_call D d answers names point id target args o ≡ None
    none_call id target args o e = ap (at_call D d answers names point id target args) e

    none_merge : (bound : ℕ) (counts : List ℕ) (exports : List Var) (bones : List Bone) (o : Option (AbsEnv D)) → o ≡ None → at_merge D d answers names point bound counts exports bones o ≡ None
    none_merge bound counts exports bones o e = ap (at_merge D d answers names point bound counts exports bones) e

    ending_none : (bound first from : ℕ) (other : PlaceEnv) (g : Sorts) (o : Option (AbsEnv D)) → IfThere (Lives g other) o → (o ≡ None → value_at P from ≡ None) → Ending bound first from other [] g (end_of (in_world (W bound []) o).ends)
    ending_none bound first from other g None alive gone = (tt, gone)
    ending_none bound first from other g (Some env) alive gone = (alive, λ e. absurd cc)

    mutual
      pub bones_solved : (bound : ℕ) {hooks vars nesting first : ℕ} {bones : List Bone} {u t : Unit {0}} {g h : Sorts} (o : Option (AbsEnv D)) (other : PlaceEnv) (from : ℕ) → length bones ≤ bound → BonesFit hooks vars nesting bones →
          IfThere (Lives g other) o → (o ≡ None → value_at P from ≡ None) → IsAt P first (Spots bound bones o) → GotThere (in_world (W bound bones) o).ends → AllByRecursion Asked (in_world (W bound bones) o).asked →
          Walks (sort_checks def own) first bones u g t (Ok h) → IsSolved bound first from other bones g h o
      bones_solved bound o other from short fit alive gone at got calls (no_bone {first} {w = g}) = record { lines = refl; fits = tt; ending = ending_none bound first from other g o alive gone }
      bones_solved zero o other from short fit alive gone at got calls (filter_goes p rest) = absurd (omega arith)
      bones_solved zero o other from short fit alive gone at got calls (hook_goes p rest) = absurd (omega arith)
      bones_solved zero o other from short fit alive gone at got calls (merge_goes i p rest) = absurd (omega arith)
      bones_solved (suc bound) {h = h} o other from short fit alive gone at got calls (filter_goes {first} {filter} {args} {outs} {rest = bones} {w = g} {v = k} p rest) =
          let r = at_filter D d answers names point filter args o in
          let is : value_at P first ≡ r = one_more P first r at.0 in
          let next = gain other outs (places first outs) in
          let here = filter_solved first from g other filter args o alive gone p.0.args_fit is (filter_first bound filter args outs bones o got) in
          let later = filter_later bound filter args outs bones o got calls in
          let long : length (results filter) ≡ length outs = sym p.0.outs_counted in
          let k_is : k ≡ after_filter g filter outs = ok_same _ _ p.1 in
          let after = alive_gains o g k other outs (results filter) r first alive is (with_sorts (results filter) outs g k r long k_is here.fit) in
          let solved = bones_solved bound (gains o outs r) next first (omega arith) (filter_rest fit) after (λ e. is ∙ gone_gains o outs r (none_filter filter args o) e) at.1 later.got later.calls rest in
          let sub = subst (λ k. IsSolved bound (first + 1) first next bones k h (gains o outs r)) k_is solved in
          record {
            lines = and_from (line_holds d names b sv (line_at from (Part.Filter first filter (operands_at other args)))) _ here.line sub.lines;
            fits = (outcome_from (results filter) r here.fit, sub.fits);
            ending = subst (λ n. Ending bound n first next bones h (end_of (in_world (W (suc bound) (Apply filter args outs ∷ bones)) o).ends)) (no_more (first + 1)) (subst (Ending bound (first + 1) first next bones h) (sym later.same) sub.ending);
          }
      bones_solved (suc bound) {h = h} o other from short fit alive gone at got calls (hook_goes {first} {hook = id} {args} {target} {outs} {rest = bones} {w = g} {v = k} p rest) =
          let r = at_call D d answers names point id target args o in
          let is : value_at P first ≡ r = one_more P first r at.0 in
          let next = gain other outs (places first outs) in
          let here = call_solved first from g other id target args o alive gone is (call_first bound id args target outs bones o got calls) in
          let later = call_later bound id args target outs bones o got calls in
          let sorts = map variable.Flow (outputs_of def id) in
          let long : length sorts ≡ length outs = length-map (outputs_of def id) variable.Flow ∙ outputs_long id p.0.hook p.0.declared ∙ sym p.0.outs_counted in
          let k_is : k ≡ after_hook def g id outs = ok_same _ _ p.1 in
          let after = alive_gains o g k other outs sorts r first alive is (with_sorts sorts outs g k r long (k_is ∙ ap (define g outs) (map_flows (outputs_of def id))) (flows_of_outs id r here.fit)) in
          let solved = bones_solved bound (gains o outs r) next first (omega arith) (hook_rest fit) after (λ e. is ∙ gone_gains o outs r (none_call id target args o) e) at.1 later.got later.calls rest in
          let sub = subst (λ k. IsSolved bound (first + 1) first next bones k h (gains o outs r)) k_is solved in
          record {
            lines = list_all_both (line_holds d names b sv) (option_map_or (λ at. line_at from (Part.Call first id at (operands_at other args)) ∷ []) (target_at point other target) []) (lines_of point bound (first + 1) first next bones) here.lines sub.lines;
            fits = (here.fit, sub.fits);
            ending = subst (λ n. Ending bound n first next bones h (end_of (in_world (W (suc bound) (Call id args target outs ∷ bones)) o).ends)) (no_more (first + 1)) (subst (Ending bound (first + 1) first next bones h) (sym later.same) sub.ending);
          }
      bones_solved (suc bound) {hooks} {vars} {h = h} o other from short fit alive gone at got calls (merge_goes {first} {counts} {exports} {rest = bones} {w = g} {v = k} {ends} inside p rest) =
          let parts = merge_fits_parts fit in
          let ks = branch_places 0 counts in
          let r = at_merge D d answers names point bound counts exports bones o in
          let is : value_at P first ≡ r = one_more P first r at.0 in
          let next = gain other exports (places first exports) in
          let rest_bones = after_branches counts bones in
          let m = merge_got bound counts exports bones o got calls in
          let placed = branches_at hooks vars parts.inner bound first counts exports bones o (Spots bound rest_bones (gains o exports r)) (omega arith) parts.within (λ k lt. subst (BonesFit hooks vars parts.inner) (branch-take counts k bones lt) (branch_at counts (take (sum counts) bones) k lt parts.inside)) at.1 in
          let below = subst (λ x. AllByRecursion (λ k. IfThere (HasBelow d exports x) (end_of (in_world (W bound (branch counts k bones)) o).ends)) ks) (sym is) m.below in
          let branches = branches_solved bound hooks vars parts.inner exports o other from (omega arith) alive gone placed.0 m.each below inside in
          let worlds = map (λ k. end_of (in_world (W bound (branch counts k bones)) o).ends) ks in
          let merge = merge_solved bound g exports p.0.exported ends worlds (recursion_from_All (λ e. HaveSorts e exports p.0.exported) ends p.0.ends_agree) branches.worlds in
          let ends_are : ends ≡ branch_sorts def bound g counts bones = ends_walked def own bound (omega arith) inside in
          let merged = subst (λ x. MergeSolved bound g exports p.0.exported (branch_sorts def bound g counts bones) x) (sym m.joined) (subst (λ es. MergeSolved bound g exports p.0.exported es (end_of (join_exports d exports None worlds))) ends_are merge) in
          let k_is : k ≡ after_merge g exports (branch_sorts def bound g counts bones) = ok_same _ _ p.1 ∙ ap (after_merge g exports) ends_are in
          let after = subst (λ k. IfThere (Lives k next) (gains o exports r)) (sym k_is) (alive_gains o g (after_merge g exports (branch_sorts def bound g counts bones)) other exports p.0.exported r first alive is merged.flows) in
          let solved = bones_solved bound (gains o exports r) next first (shorter-drop bound (sum counts) bones (omega arith)) parts.later after (λ e. is ∙ gone_gains o exports r (none_merge bound counts exports bones o) e) placed.1 m.later.got m.later.calls rest in
          let sub = subst (λ k. IsSolved bound (first + 1 + sum counts) first next rest_bones k h (gains o exports r)) k_is solved in
          record {
            lines = list_all_both (line_holds d names b sv) (flat_map (branch_lines bound first from other counts exports bones) ks) (lines_of point bound (first + 1 + sum counts) first next rest_bones) branches.lines sub.lines;
            fits = (merged.fit, zip_append Fits (flat_map (λ k. positions_of def bound g (branch counts k bones)) ks) (flat_map (λ k. Spots bound (branch counts k bones) o) ks) _ _ (zip_flat Fits _ _ ks branches.fits) sub.fits);
            ending = subst (Ending bound (first + 1 + sum counts) first next rest_bones h) (sym m.later.same) sub.ending;
          }

      branches_solved : (bound hooks vars nesting : ℕ) {bone : ℕ} {counts ks : List ℕ} {bones : List Bone} {u t : Unit {0}} {g : Sorts} {ends : List Sorts} (exports : List Var) (o : Option (AbsEnv D)) (other : PlaceEnv) (from : ℕ) → length bones ≤ bound →
          IfThere (Lives g other) o → (o ≡ None → value_at P from ≡ None) → AllByRecursion (BranchAt hooks vars nesting bound bone counts bones o) ks →
          AllByRecursion (λ k. GotThere (in_world (W bound (branch counts k bones)) o).ends × AllByRecursion Asked (in_world (W bound (branch counts k bones)) o).asked) ks →
          AllByRecursion (λ k. Exports bone exports (end_of (in_world (W bound (branch counts k bones)) o).ends)) ks → WalksBranches (sort_checks def own) bone counts bones ks g u t (Ok ends) → BranchesSolved bound bone from other counts exports bones g ends o ks
      branches_solved bound hooks vars nesting exports o other from short alive gone placed each below no_branch = record { lines = refl; fits = tt; worlds = tt }
      branches_solved bound hooks vars nesting exports o other from short alive gone placed each below (branch_goes {bone} {k = c} {counts} {places = ks} {bones} {w = g} {v = k} {z = z} f inside rest) =
          let first = first_of_branch bone counts c in
          let here = branch counts c bones in
          let g_is : k ≡ g = ok_same _ _ f in
          let solved = bones_solved bound o other from (shorter-branch bound c counts bones short) placed.0.0 (subst (λ g. IfThere (Lives g other) o) (sym g_is) alive) gone placed.0.1 each.0.0 each.0.1 inside in
          let sub = subst (λ g. IsSolved bound first from other here g z o) g_is solved in
          let later = branches_solved bound hooks vars nesting exports o other from short alive gone placed.1 each.1 below.1 rest in
          let end = end_of (in_world (W bound here) o).ends in
          let last = last_position bound first from here in
          let final = env_after bound first other here in
          let join = values_solved (value_at P bone) last z exports final end sub.ending.0 sub.ending.1 below.0 in
          record {
            lines = list_all_both (line_holds d names b sv) (branch_lines bound bone from other counts exports bones c) (flat_map (branch_lines bound bone from other counts exports bones) ks)
                (list_all_both (line_holds d names b sv) (lines_of point bound first from other here) (line_at last (Part.Join bone (operands_at final exports)) ∷ []) sub.lines (and_from (line_holds d names b sv (line_at last (Part.Join bone (operands_at final exports)))) true join refl)) later.lines;
            fits = (sub.fits, later.fits);
            worlds = (sorted_end z final end sub.ending.0, later.worlds);
          }
