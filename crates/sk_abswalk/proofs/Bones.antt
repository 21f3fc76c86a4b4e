-- Bones that lead on from a covered environment: the abstract walk isn't gone, and covers where they lead.
use Rattle.std.proofs.Common.{◌≡◌, ℕ, zero, suc, true, List, [], ◌∷◌, Option, Some, None, refl, sym, ap, subst, arith, inl, inr, ◌⊎◌}
use Rattle.std.specs.Prelude.{slice_get}
use Rattle.std.specs.List.{AllZip}
use Rattle.std.specs.Option.{option_map_or, option_and_then}
use Rattle.std.proofs.lemmas.Bool.{cond_both}
use Rattle.std.proofs.lemmas.List.Elements.{recursion_from_All}
use Rattle.sk_def.specs.declared.ids.HookId.{HookId}
use Rattle.sk_def.specs.declared.filter.Filter.{Filter}
use Rattle.sk_def.specs.declared.ids.Var.{Var}
use Rattle.sk_def.specs.declared.bone.Bone.{Bone}
use Rattle.sk_def.specs.Layout.{branch, branch_places, after_branches}
use Rattle.sk_value.specs.declared.flow.Flow.{Flow}
use Rattle.sk_filter.specs.declared.arg.Arg.{Arg}
use Rattle.sk_filter.specs.Arguments.{Values}
use Rattle.sk_filter.specs.Results.{results_of}
use Rattle.sk_deriv.specs.declared.entry.Entry.{Entry}
use Rattle.sk_deriv.specs.Env.{Env, args_at, values_at, target_at, gain, export}
use Rattle.sk_deriv.specs.Tree.{Derivation, Steps, hook_of, point_of, ins_of, outs_of}
use Rattle.sk_deriv.specs.Moves.{arg_in, Moves, no_bone, by_filter, by_choice, by_hook, by_branch}
use Rattle.sk_deriv.proofs.Induction.{EachSub, EachSub-rest}
use Rattle.sk_lattice.specs.declared.flow.AbsFlow.{AbsFlow}
use Rattle.sk_lattice.specs.Domain.{Domain}
use Rattle.sk_lattice.specs.Order.{tuple_leq, tuples_fit}
use Rattle.sk_lattice.specs.Covers.{flow_covers, tuple_covers}
use Rattle.sk_lattice.specs.Merge.{Join, tuple_merge}
use Rattle.sk_lattice.specs.Laws.{TupleLaws}
use Rattle.sk_absfilter.specs.declared.arg.AbsArg.{AbsArg}
use Rattle.sk_absfilter.specs.Abstract.{Outcome, abstract_result}
use Rattle.sk_absfilter.specs.Laws.{ArgCovers, outcome_covers, FiltersAreSound}
use Rattle.sk_table.specs.declared.triple.Cover.{Cover}
use Rattle.sk_abswalk.specs.Walk.{AbsEnv, Flows, argument_in, Ends, uncovered, ill, with, Walk, quiet, there, Answers, call_at, ask, filtered, walk_branches, join_to, join_exports, abstract_world, after_world}
use Rattle.sk_abswalk.proofs.Relations.{Matches, each_at, zip_from_test, test_from_zip, Holds, Has, holds_after, holds_after_world, IsIn, in_places}
use Rattle.sk_abswalk.proofs.Environments.{Entries, Envs, export_is_gain, args_related, values_related, target_related, gain_related}

module _ (D : Type 0) (d : Domain D) where
  abbrev pub FlowCovers : AbsFlow D → Flow → Type 0
  FlowCovers a v = flow_covers d a v ≡ true

  abbrev pub EnvCovers : AbsEnv D → Env Flow → Type 0
  EnvCovers = Envs FlowCovers

  -- an outcome is a tuple that covers the values
  abbrev pub Covers : Values → Outcome D → Type 0
  Covers t = Has (λ a. tuple_covers d a t ≡ true)

  -- whatever answers the call of a subtree by inputs that cover its own covers its outputs
  abbrev pub IsAnswered : Answers D → Derivation → Type 0
  IsAnswered answers t =
      (c : Cover D) → c.hook ≡ hook_of t → c.point ≡ point_of t → tuple_covers d c.ins (ins_of t) ≡ true →
      (o : Outcome D) → answers c ≡ Some o → outcome_covers d o (outs_of t) ≡ true

  pub covers_has : (o : Outcome D) (t : Values) → outcome_covers d o t ≡ true → Covers t o
  covers_has None t h = absurd cc
  covers_has (Some a) t h = h

  pub has_covers : (o : Outcome D) (t : Values) → Covers t o → outcome_covers d o t ≡ true
  has_covers None t h = absurd h
  has_covers (Some a) t h = h

  arg_step : (a : Entry (AbsFlow D)) (e : Entry Flow) → Entries FlowCovers a e → Matches (ArgCovers d) (argument_in a) (arg_in e)
  arg_step (Entry.Point p) e h = tt
  arg_step (Entry.Number z) (Entry.Number y) h = h
  arg_step (Entry.Name n) (Entry.Name m) h = h
  arg_step (Entry.Flow a) (Entry.Flow v) h = h
  arg_step _ _ h = absurd h

  args_covered : (aenv : AbsEnv D) (env : Env Flow) → EnvCovers aenv env → (vars : List Var) → Matches (AllZip (ArgCovers d)) (args_at argument_in aenv vars) (args_at arg_in env vars)
  args_covered = args_related FlowCovers (ArgCovers d) argument_in arg_in arg_step

  gain_covered : (vars : List Var) (aenv : AbsEnv D) (env : Env Flow) (flows : Flows D) (values : Values) → EnvCovers aenv env → tuple_covers d flows values ≡ true → EnvCovers (gain aenv vars flows) (gain env vars values)
  gain_covered vars aenv env flows values h t = gain_related FlowCovers vars aenv env flows values h (zip_from_test (flow_covers d) flows values t)

any_end : {D X : Type 0} (ends : Ends D X) → Holds (λ o. Unit {0}) ends
any_end (uncovered c) = tt
any_end ill = tt
any_end (with o) = tt

-- the fact holds of one of the worlds
abbrev pub HasOne : {X : Type 0} → (X → Type 0) → List (Option X) → Type 0
HasOne R [] = ⊥
HasOne R (o ∷ os) = Has R o ⊎ HasOne R os

branches_there : {D X : Type 0} (walk : ℕ → Walk D X) (ks : List ℕ) → Holds (Has (λ os. Unit {0})) (walk_branches walk ks).ends
branches_there walk [] = tt
branches_there walk (k ∷ ks) =
    holds_after (λ o. Unit {0}) (Has (λ os. Unit {0})) (walk k).asked (walk k).ends _ (any_end (walk k).ends)
    (λ o _. holds_after_world (λ os. Unit {0}) (Has (λ os. Unit {0})) (walk_branches walk ks).asked (walk_branches walk ks).ends (λ os. quiet (with (Some (o ∷ os)))) (branches_there walk ks) (λ os _. tt))

-- what holds of one branch's end holds of one of all ends
branches_have : {D X : Type 0} (R : X → Type 0) (walk : ℕ → Walk D X) (ks : List ℕ) (k : ℕ) → IsIn k ks → Holds (Has R) (walk k).ends → Holds (Has (HasOne R)) (walk_branches walk ks).ends
branches_have R walk [] k i h = absurd i
branches_have R walk (n ∷ ks) k (inl same) h =
    holds_after (Has R) (Has (HasOne R)) (walk n).asked (walk n).ends _ (subst (λ x. Holds (Has R) (walk x).ends) same h)
    (λ o c. holds_after_world (λ os. Unit {0}) (Has (HasOne R)) (walk_branches walk ks).asked (walk_branches walk ks).ends (λ os. quiet (with (Some (o ∷ os)))) (branches_there walk ks) (λ os _. inl c))
branches_have R walk (n ∷ ks) k (inr later) h =
    holds_after (λ o. Unit {0}) (Has (HasOne R)) (walk n).asked (walk n).ends _ (any_end (walk n).ends)
    (λ o _. holds_after_world (HasOne R) (Has (HasOne R)) (walk_branches walk ks).asked (walk_branches walk ks).ends (λ os. quiet (with (Some (o ∷ os)))) (branches_have R walk ks k later h) (λ os c. inr c))

-- what holds of a tuple and of all above it goes on from an exported tuple to the join
module _ (D : Type 0) (d : Domain D) (tuples : TupleLaws d) (R : Flows D → Type 0) (up : (a b : Flows D) → tuple_leq d a b ≡ true → R a → R b) where
  join_left : (a : Outcome D) (b m : Flows D) → join_to d a b ≡ Some m → Has R a → R m
  join_left None b m e h = absurd h
  join_left (Some a) b m e h =
      cond_both (tuples_fit a b) (Some (tuple_merge d Join a b)) None (λ o. o ≡ Some m → R m)
      (λ fit k. let same : tuple_merge d Join a b ≡ m = cc in subst R same (up a _ (tuples.join_left a b fit) h))
      (λ _ k. absurd cc) e

  join_right : (a : Outcome D) (b m : Flows D) → join_to d a b ≡ Some m → R b → R m
  join_right None b m e h = let same : b ≡ m = cc in subst R same h
  join_right (Some a) b m e h =
      cond_both (tuples_fit a b) (Some (tuple_merge d Join a b)) None (λ o. o ≡ Some m → R m)
      (λ fit k. let same : tuple_merge d Join a b ≡ m = cc in subst R same (up b _ (tuples.join_right a b fit) h))
      (λ _ k. absurd cc) e

  joined_holds : (next : Flows D → Ends D (Flows D)) (joined : Outcome D) → ((m : Flows D) → joined ≡ Some m → Holds (Has R) (next m)) → Holds (Has R) (option_map_or next joined ill)
  joined_holds next None h = tt
  joined_holds next (Some m) h = h m refl

  flows_hold : (next : Flows D → Ends D (Flows D)) (joined : Outcome D) (flows : Option (Flows D)) → ((f m : Flows D) → flows ≡ Some f → join_to d joined f ≡ Some m → Holds (Has R) (next m)) → Holds (Has R) (option_map_or next (option_and_then (join_to d joined) flows) ill)
  flows_hold next joined None h = tt
  flows_hold next joined (Some f) h = joined_holds next (join_to d joined f) (λ m e. h f m refl e)

  exports_keep : (exports : List Var) (joined : Outcome D) (worlds : List (Option (AbsEnv D))) → Has R joined → Holds (Has R) (join_exports d exports joined worlds)
  exports_keep exports joined [] h = h
  exports_keep exports joined (None ∷ worlds) h = exports_keep exports joined worlds h
  exports_keep exports joined (Some env ∷ worlds) h =
      flows_hold (λ more. join_exports d exports (Some more) worlds) joined (values_at env exports) (λ f m _ e. exports_keep exports (Some m) worlds (join_left joined f m e h))

  there_at : (flows : Option (Flows D)) (f : Flows D) → flows ≡ Some f → Holds {D = D} (Has R) (there flows) → R f
  there_at None f e h = absurd cc
  there_at (Some g) f e h = let same : g ≡ f = cc in subst R same h

  pub exports_have : (Q : AbsEnv D → Type 0) (exports : List Var) → ((env : AbsEnv D) → Q env → Holds {D = D} (Has R) (there (values_at env exports))) → (joined : Outcome D) (worlds : List (Option (AbsEnv D))) → HasOne Q worlds → Holds (Has R) (join_exports d exports joined worlds)
  exports_have Q exports step joined [] h = absurd h
  exports_have Q exports step joined (None ∷ worlds) (inl h) = absurd h
  exports_have Q exports step joined (None ∷ worlds) (inr h) = exports_have Q exports step joined worlds h
  exports_have Q exports step joined (Some env ∷ worlds) (inl h) =
      flows_hold (λ more. join_exports d exports (Some more) worlds) joined (values_at env exports) (λ f m g e. exports_keep exports (Some m) worlds (join_right joined f m e (there_at (values_at env exports) f g (step env h))))
  exports_have Q exports step joined (Some env ∷ worlds) (inr h) =
      flows_hold (λ more. join_exports d exports (Some more) worlds) joined (values_at env exports) (λ f m _ e. exports_have Q exports step (Some m) worlds h)

module _ (D : Type 0) (d : Domain D) (tuples : TupleLaws d) (filters : FiltersAreSound d) where
  -- a filter's result
  filter_holds : (filter : Filter) (names : ℕ) (given : Option (List (AbsArg D))) (values : Option (List Arg)) (k : ℕ) (result : Values) → Matches (AllZip (ArgCovers d)) given values → slice_get (option_map_or (results_of filter names) values []) k ≡ Some result → Holds {D = D} (Covers D d result) (filtered d filter names given)
  filter_holds filter names None values k result h e = tt
  filter_holds filter names (Some g) None k result h e = absurd h
  filter_holds filter names (Some g) (Some v) k result h e =
      covers_has D d _ result (each_at (λ t. outcome_covers d (abstract_result d filter names g) t ≡ true) (results_of filter names v) k result (recursion_from_All _ _ (filters filter names g v h)) e)

  -- the exported variables have values, which the flows cover
  record Exported (ends : Env Flow) (exports : List Var) (flows : Flows D) : Type 0 where
    values : Values
    is : values_at ends exports ≡ Some values
    covers : tuple_covers d flows values ≡ true

  exported_up : (ends : Env Flow) (exports : List Var) (a b : Flows D) → tuple_leq d a b ≡ true → Exported ends exports a → Exported ends exports b
  exported_up ends exports a b low x = record { values = x.values; is = x.is; covers = tuples.covers_more a b x.values low x.covers }

  export_holds : (ends : Env Flow) (exports : List Var) (flows : Option (Flows D)) (values : Option Values) → values_at ends exports ≡ values → Matches (AllZip (FlowCovers D d)) flows values → Holds {D = D} (Has (Exported ends exports)) (there flows)
  export_holds ends exports None values e h = tt
  export_holds ends exports (Some f) None e h = absurd h
  export_holds ends exports (Some f) (Some v) e h = record { values = v; is = e; covers = test_from_zip (flow_covers d) f v h }

  exports_gained : (aenv : AbsEnv D) (env ends : Env Flow) (exports : List Var) (flows : Flows D) → EnvCovers D d aenv env → Exported ends exports flows → EnvCovers D d (gain aenv exports flows) (export env ends exports)
  exports_gained aenv env ends exports flows h x =
      subst (EnvCovers D d (gain aenv exports flows)) (sym (export_is_gain exports env ends x.values x.is)) (gain_covered D d exports aenv env flows x.values h x.covers)

  module _ (answers : Answers D) (names point : ℕ) where
    answer_holds : (t : Derivation) (c : Cover D) (o : Option (Outcome D)) → ((outs : Outcome D) → o ≡ Some outs → outcome_covers d outs (outs_of t) ≡ true) → Holds (Covers D d (outs_of t)) (option_map_or with o (uncovered c))
    answer_holds t c None h = tt
    answer_holds t c (Some outs) h = covers_has D d outs (outs_of t) (h outs refl)

    -- the answer to a hook bone
    hook_holds : (t : Derivation) (hook : HookId) (at : Option ℕ) (flows : Option (Flows D)) → IsAnswered D d answers t → hook_of t ≡ hook → Matches (λ (p q : ℕ). p ≡ q) at (Some (point_of t)) → Matches (AllZip (FlowCovers D d)) flows (Some (ins_of t)) → Holds (Covers D d (outs_of t)) (ask answers (call_at hook at flows)).ends
    hook_holds t hook None flows known same p h = tt
    hook_holds t hook (Some point) None known same p h = tt
    hook_holds t hook (Some point) (Some ins) known same p h =
        let c : Cover D = record { hook = hook; point = point; ins = ins } in
        answer_holds t c (answers c) (known c (sym same) p (test_from_zip (flow_covers d) ins (ins_of t) h))

    -- where an abstract environment covers one from which bones lead on, the walk isn't gone and covers the new one
    pub bones_covered : (bound : ℕ) {bones : List Bone} {env env' : Env Flow} {steps rest : Steps} (aenv : AbsEnv D) → EnvCovers D d aenv env → Moves names point bones env steps env' rest → EachSub (IsAnswered D d answers) steps → Holds (Has (λ a. EnvCovers D d a env')) (abstract_world d answers names point bound bones aenv).ends
    bones_covered bound aenv h no_bone known = h
    bones_covered zero aenv h (by_filter choice results m) known = tt
    bones_covered zero aenv h (by_choice choice results m) known = tt
    bones_covered zero aenv h (by_hook answered m) known = tt
    bones_covered zero aenv h (by_branch below m n) known = tt
    bones_covered (suc bound) aenv h (by_filter {filter} {args} {outs} {bones} {env} {env'} {steps} {rest} {result} choice results m) known =
        holds_after_world (λ a. tuple_covers d a result ≡ true) (Has (λ a. EnvCovers D d a env')) [] _ (λ flows. abstract_world d answers names point bound bones (gain aenv outs flows))
        (filter_holds filter names _ _ 0 result (args_covered D d aenv env h args) (ap (λ l. slice_get l 0) results))
        (λ flows c. bones_covered bound _ (gain_covered D d outs aenv env flows result h c) m known)
    bones_covered (suc bound) aenv h (by_choice {filter} {args} {outs} {bones} {env} {env'} {k} {steps} {rest} {result} choice results m) known =
        holds_after_world (λ a. tuple_covers d a result ≡ true) (Has (λ a. EnvCovers D d a env')) [] _ (λ flows. abstract_world d answers names point bound bones (gain aenv outs flows))
        (filter_holds filter names _ _ k result (args_covered D d aenv env h args) results)
        (λ flows c. bones_covered bound _ (gain_covered D d outs aenv env flows result h c) m known)
    bones_covered (suc bound) aenv h (by_hook {hook} {args} {target} {outs} {bones} {env} {env'} {t} {steps} {rest} answered m) known =
        let w : Walk D (Flows D) = ask answers (call_at hook (target_at point aenv target) (values_at aenv args)) in
        holds_after_world (λ a. tuple_covers d a (outs_of t) ≡ true) (Has (λ a. EnvCovers D d a env')) w.asked w.ends (λ flows. abstract_world d answers names point bound bones (gain aenv outs flows))
        (hook_holds t hook _ _ known.0 answered.same_hook (subst (Matches (λ (p q : ℕ). p ≡ q) (target_at point aenv target)) answered.at_target (target_related (FlowCovers D d) point aenv env h target)) (subst (Matches (AllZip (FlowCovers D d)) (values_at aenv args)) answered.on_args (values_related (FlowCovers D d) aenv env h args)))
        (λ flows c. bones_covered bound _ (gain_covered D d outs aenv env flows (outs_of t) h c) m known.1)
    bones_covered (suc bound) aenv h (by_branch {counts} {exports} {bones} {env} {ends} {env'} {k} {steps} {middle} {rest} below m n) known =
        let walk : ℕ → Walk D (AbsEnv D) = λ k. abstract_world d answers names point bound (branch counts k bones) aenv in
        let all : Walk D (List (Option (AbsEnv D))) = walk_branches walk (branch_places 0 counts) in
        let go_on_with : Flows D → Walk D (AbsEnv D) = λ flows. abstract_world d answers names point bound (after_branches counts bones) (gain aenv exports flows) in
        holds_after_world (HasOne (λ a. EnvCovers D d a ends)) (Has (λ a. EnvCovers D d a env')) all.asked all.ends (λ worlds. after_world (quiet (join_exports d exports None worlds)) go_on_with)
        (branches_have (λ a. EnvCovers D d a ends) walk (branch_places 0 counts) k (in_places 0 k counts (omega arith) (omega arith)) (bones_covered bound aenv h m known))
        (λ worlds one. holds_after_world (Exported ends exports) (Has (λ a. EnvCovers D d a env')) [] (join_exports d exports None worlds) go_on_with
        (exports_have D d tuples (Exported ends exports) (exported_up ends exports) (λ a. EnvCovers D d a ends) exports
        (λ e c. export_holds ends exports (values_at e exports) (values_at ends exports) refl (values_related (FlowCovers D d) e ends c exports)) None worlds one)
        (λ flows x. bones_covered bound _ (exports_gained aenv env ends exports flows h x) n (EachSub-rest (IsAnswered D d answers) m known)))
