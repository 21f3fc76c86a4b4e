-- Worlds fit the sorts of their variables after each bone.
use Rattle.std.proofs.Common.{◌≡◌, ℕ, zero, suc, ◌<◌, Bool, true, false, cond, eqb, List, [], ◌∷◌, ◌++◌, length, map, get_or, Option, Some, None, Result, Ok, Err, refl, ap, sym, subst, ◌∙◌, arith}
use Rattle.std.specs.Prelude.{is_some, slice_get}
use Rattle.std.specs.List.{All, list_all, flat_map, filter_map, cons_option}
use Rattle.std.specs.Option.{option_map, option_map_or}
use Rattle.std.proofs.lemmas.Bool.{and_parts, and_from, cond_both, eqb-true}
use Rattle.std.proofs.lemmas.Option.{same_Some}
use Rattle.std.proofs.lemmas.List.Elements.{All-head, All-tail}
use Rattle.sk_base.specs.declared.flow.FlowSort.{FlowSort}
use Rattle.sk_def.specs.declared.ids.Var.{Var}
use Rattle.sk_def.specs.declared.ids.SortId.{SortId}
use Rattle.sk_def.specs.declared.ids.HookId.{HookId}
use Rattle.sk_def.specs.declared.sorts.VarSort.{VarSort}
use Rattle.sk_def.specs.declared.filter.Filter.{Filter}
use Rattle.sk_def.specs.declared.bone.Target.{Target}
use Rattle.sk_def.specs.declared.def.Def.{Def}
use Rattle.sk_def.specs.declared.def.Rule.{Rule}
use Rattle.sk_def.specs.declared.def.Hook.{Hook}
use Rattle.sk_def.specs.Signatures.{parameters, results}
use Rattle.sk_def.specs.Sorts.{Sorts, sort_of, define, HaveSorts, FilterPasses, HookPasses, MergePasses, after_filter, after_hook, after_merge, outputs_of}
use Rattle.sk_filter.specs.declared.arg.Arg.{Arg}
use Rattle.sk_filter.specs.Arguments.{Values}
use Rattle.sk_filter.specs.Results.{is_choice, results_of}
use Rattle.sk_value.specs.declared.flow.Flow.{Flow}
use Rattle.sk_deriv.specs.declared.call.Call.{Call}
use Rattle.sk_deriv.specs.declared.forest.Node.{Node}
use Rattle.sk_deriv.specs.Forest.{steps_with, tree_at}
use Rattle.sk_deriv.specs.Tree.{Derivation, Steps, derivation}
use Rattle.sk_deriv.specs.Env.{Env, entry_of, args_at, values_at, target_at, export}
use Rattle.sk_deriv.specs.Moves.{arg_in, results_at}
use Rattle.sk_deriv.specs.Listing.{call_at, closed}
use Rattle.sk_concrete.specs.declared.world.World.{World}
use Rattle.sk_concrete.specs.declared.world.Tree.{Tree}
use Rattle.sk_concrete.specs.declared.world.Answer.{Answer}
use Rattle.sk_concrete.specs.declared.worlds.Worlds.{Worlds}
use Rattle.sk_concrete.specs.Worlds.{the_one, picked, filtered, answered, after_worlds, call_from, by_next_answer, answers_in_order, forked, joined, joined_end, joined_ends, merged}
use Rattle.sk_concrete.specs.Trees.{Stand, trails_in}
use Rattle.sk_concrete.specs.Fitting.{are_of, env_fits, worlds_fit, takes_args, has_values, trees_fit, answers_fit}
use Rattle.sk_concrete.proofs.Fitted.{variable_fits, set_fits, flows_fit, gain_fits, flows_from_sorts, filter_args_there, values_there, target_there, there_if_holds}
use Rattle.sk_concrete.proofs.FilterResults.{results_fit}

-- Tests that all elements of a list pass.

pub all_more : {A : Type 0} (p q : A → Bool) → ((x : A) → p x ≡ true → q x ≡ true) → (xs : List A) → list_all p xs ≡ true → list_all q xs ≡ true
all_more p q step [] h = refl
all_more p q step (x ∷ xs) h = let k = and_parts _ _ h in and_from _ _ (step x k.0) (all_more p q step xs k.1)

pub all_join : {A : Type 0} (p : A → Bool) (xs ys : List A) → list_all p xs ≡ true → list_all p ys ≡ true → list_all p (xs ++ ys) ≡ true
all_join p [] ys h k = k
all_join p (x ∷ xs) ys h k = let a = and_parts _ _ h in and_from _ _ a.0 (all_join p xs ys a.1 k)

pub passes_at : {A : Type 0} (p : A → Bool) (xs : List A) (k : ℕ) (x : A) → list_all p xs ≡ true → k < length xs → x ≡ get_or xs k x → p x ≡ true
passes_at p [] k x h l e = absurd (omega (arith, l))
passes_at p (y ∷ xs) zero x h l e = subst (λ z. p z ≡ true) (sym e) (and_parts _ _ h).0
passes_at p (y ∷ xs) (suc k) x h l e = passes_at p xs k x (and_parts _ _ h).1 (omega (arith, l)) e

-- After a filter bone.

results_at_fit : (names : ℕ) (env : Env Flow) (f : Filter) (args : List Var) → list_all (flows_fit (map Some (results f))) (results_at names env f args) ≡ true
results_at_fit names env f args = by (args_at arg_in env args)
  where
    by : (o : Option (List Arg)) → list_all (flows_fit (map Some (results f))) (option_map_or (results_of f names) o []) ≡ true
    by None = refl
    by (Some given) = results_fit f names given

module _ (g : Sorts) (outs : List Var) (sorts : List (Option VarSort)) (w : World) (h : env_fits g w.env ≡ true) where
  picked_fit : (k : ℕ) (vss : List Values) → list_all (flows_fit sorts) vss ≡ true → worlds_fit (define g outs sorts) (picked outs w k vss) ≡ true
  picked_fit k [] p = refl
  picked_fit k (vs ∷ vss) p = let a = and_parts _ _ p in and_from _ _ (gain_fits outs g w.env sorts vs h a.0) (picked_fit (suc k) vss a.1)

  one_fits : (vss : List Values) → list_all (flows_fit sorts) vss ≡ true → worlds_fit (define g outs sorts) (the_one outs w vss) ≡ true
  one_fits [] p = refl
  one_fits (vs ∷ []) p = and_from _ _ (gain_fits outs g w.env sorts vs h (and_parts _ _ p).0) refl
  one_fits (vs ∷ us ∷ vss) p = refl

  chosen_fit : (b : Bool) (vss : List Values) → list_all (flows_fit sorts) vss ≡ true → worlds_fit (define g outs sorts) (cond b (picked outs w 0 vss) (the_one outs w vss)) ≡ true
  chosen_fit true vss p = picked_fit 0 vss p
  chosen_fit false vss p = one_fits vss p

pub filtered_fit : (names : ℕ) (f : Filter) (args outs : List Var) (g : Sorts) (ws : List World) → worlds_fit g ws ≡ true → worlds_fit (after_filter g f outs) (flat_map (filtered names f args outs) ws) ≡ true
filtered_fit names f args outs g [] h = refl
filtered_fit names f args outs g (w ∷ ws) h =
    let k = and_parts _ _ h in
    all_join (λ (w : World). env_fits (after_filter g f outs) w.env) (filtered names f args outs w) (flat_map (filtered names f args outs) ws)
    (chosen_fit g outs (map Some (results f)) w k.0 (is_choice f) (results_at names w.env f args) (results_at_fit names w.env f args)) (filtered_fit names f args outs g ws k.1)

-- the arguments of a filter bone are there
pub args_taken : (f : Filter) (args outs : List Var) (g : Sorts) (ws : List World) → FilterPasses g f args outs → worlds_fit g ws ≡ true → list_all (takes_args (parameters f) args) ws ≡ true
args_taken f args outs g ws p h = all_more (λ (w : World). env_fits g w.env) (takes_args (parameters f) args) (λ (w : World) k. filter_args_there g w.env k f args p.args_fit) ws h

-- After a hook bone.

call_there : (hook : HookId) (p : Option ℕ) (vs : Option Values) → is_some p ≡ true → is_some vs ≡ true → is_some (call_at hook p vs) ≡ true
call_there hook None vs h k = absurd cc
call_there hook (Some p) None h k = absurd cc
call_there hook (Some p) (Some vs) h k = refl

-- the calls of a hook bone are there
pub calls_there : (d : Def) (own : SortId) (point : ℕ) (hook : HookId) (target : Target) (args outs : List Var) (g : Sorts) (ws : List World) → HookPasses d own g hook args target outs → worlds_fit g ws ≡ true →
    list_all (λ (w : World). is_some (call_from point hook target args outs w)) ws ≡ true
calls_there d own point hook target args outs g ws p h =
    all_more (λ (w : World). env_fits g w.env) (λ (w : World). is_some (call_from point hook target args outs w))
    (λ (w : World) k. call_there hook (target_at point w.env target) (values_at w.env args) (target_there g w.env k own point target p.hook.sort p.target_fits)
    (there_if_holds (are_of p.hook.inputs) (values_at w.env args) (values_there g w.env k args p.hook.inputs p.args_fit))) ws h

call_hook : (hook : HookId) (p : Option ℕ) (vs : Option Values) (c : Call) → call_at hook p vs ≡ Some c → c.hook ≡ hook
call_hook hook None vs c e = absurd cc
call_hook hook (Some p) None c e = absurd cc
call_hook hook (Some p) (Some vs) c e = ap (λ (x : Call). x.hook) (sym (same_Some _ _ e))

pub outputs_are : (d : Def) (id : HookId) (hook : Hook) → slice_get d.hooks id.0 ≡ Some hook → outputs_of d id ≡ hook.outputs
outputs_are d id hook e = rw e refl

module _ (d : Def) (g : Sorts) (point : ℕ) (hook : HookId) (target : Target) (args outs : List Var) where
  abbrev after : Sorts
  after = after_hook d g hook outs

  abbrev Fits : Result (List World × List Answer) Call → Type 0
  Fits (Ok p) = (worlds_fit after p.0 ≡ true) × (answers_fit d p.1 ≡ true)
  Fits (Err c) = Unit {0}

  answered_fit : (w : World) (trees : List Tree) → env_fits g w.env ≡ true → trees_fit (outputs_of d hook) trees ≡ true → worlds_fit after (answered outs w trees) ≡ true
  answered_fit w [] h t = refl
  answered_fit w (tree ∷ trees) h t =
      let k = and_parts _ _ t in
      and_from _ _ (gain_fits outs g w.env (map (λ s. Some (VarSort.Flow s)) (outputs_of d hook)) tree.outs h (flows_from_sorts (outputs_of d hook) tree.outs k.0)) (answered_fit w trees h k.1)

  joined_fit : (ws : List World) (r : Result (List World × List Answer) Call) → worlds_fit after ws ≡ true → Fits r → Fits (after_worlds ws r)
  joined_fit ws (Ok p) h f = (all_join (λ (w : World). env_fits after w.env) ws p.0 h f.0, f.1)
  joined_fit ws (Err c) h f = tt

  next_fits : (w : World) → env_fits g w.env ≡ true → (further : List Answer → Result (List World × List Answer) Call) → ((later : List Answer) → answers_fit d later ≡ true → Fits (further later)) →
      (o : Option Call) → ((c : Call) → o ≡ Some c → c.hook ≡ hook) → (handed : List Answer) → answers_fit d handed ≡ true → Fits (by_next_answer point hook target args outs handed o w further)
  next_fits w h further step None is handed a = step handed a
  next_fits w h further step (Some c) is [] a = tt
  next_fits w h further step (Some c) is (answer ∷ later) a =
      let k = and_parts _ _ a in
      cond_both (eqb answer.hook.0 c.hook.0) (after_worlds (answered outs w answer.trees) (further later)) (Err c) Fits
      (λ t. joined_fit (answered outs w answer.trees) (further later)
      (answered_fit w answer.trees h (subst (λ (i : ℕ). trees_fit (outputs_of d (record { 0 = i })) answer.trees ≡ true) (eqb-true answer.hook.0 c.hook.0 t ∙ ap (λ (x : HookId). x.0) (is c refl)) k.0))
      (step later k.1)) (λ _. tt)

  in_order_fit : (ws : List World) (handed : List Answer) → worlds_fit g ws ≡ true → answers_fit d handed ≡ true → Fits (answers_in_order point hook target args outs handed ws)
  in_order_fit [] handed h a = (refl, a)
  in_order_fit (w ∷ ws) handed h a =
      let k = and_parts _ _ h in
      next_fits w k.0 (λ later. answers_in_order point hook target args outs later ws) (λ later b. in_order_fit ws later k.1 b) (call_from point hook target args outs w)
      (λ c e. call_hook hook (target_at point w.env target) (values_at w.env args) c e) handed a

  -- the worlds and the answers that are left fit
  pub answers_taken_fit : (ws vs : List World) (handed left : List Answer) → worlds_fit g ws ≡ true → answers_fit d handed ≡ true → answers_in_order point hook target args outs handed ws ≡ Ok (vs, left) →
      (worlds_fit after vs ≡ true) × (answers_fit d left ≡ true)
  answers_taken_fit ws vs handed left h a e = subst Fits e (in_order_fit ws handed h a)

-- After a branch bone.

pub forked_fit : (branch place : ℕ) (g : Sorts) (ws : List World) → worlds_fit g ws ≡ true → worlds_fit g (forked branch place ws) ≡ true
forked_fit branch place g [] h = refl
forked_fit branch place g (w ∷ ws) h = let k = and_parts _ _ h in and_from _ _ k.0 (forked_fit branch (suc place) g ws k.1)

export_fits : (exports : List Var) (g : Sorts) (env : Env Flow) (e : Sorts) (last : Env Flow) (sorts : List VarSort) → env_fits g env ≡ true → env_fits e last ≡ true → HaveSorts e exports sorts →
    env_fits (define g exports (map Some sorts)) (export env last exports) ≡ true
export_fits [] g env e last sorts h k same = h
export_fits (v ∷ exports) g env e last [] h k same = absurd cc
export_fits (v ∷ exports) g env e last (sort ∷ sorts) h k same =
    let first : sort_of e v ≡ Some sort = cc in
    let rest : HaveSorts e exports sorts = cc in
    export_fits exports _ _ e last sorts (set_fits g env v.0 (Some sort) (entry_of last v) h (variable_fits e last v (Some sort) k first)) k rest

module _ (g : Sorts) (exports : List Var) (exported : List VarSort) where
  abbrev merged_sorts : Sorts
  merged_sorts = define g exports (map Some exported)

  abbrev Good : List World → Type 0
  Good ws = worlds_fit merged_sorts ws ≡ true

  good_join : (ws vs : List World) → Good ws → Good vs → Good (ws ++ vs)
  good_join ws vs h k = all_join (λ (w : World). env_fits merged_sorts w.env) ws vs h k

  if_joined : (b : Bool) (e : Sorts) (w end : World) → HaveSorts e exports exported → env_fits g w.env ≡ true → env_fits e end.env ≡ true → Good (cond b (joined exports w end ∷ []) [])
  if_joined true e w end same h k = and_from _ _ (export_fits exports g w.env e end.env exported h k same) refl
  if_joined false e w end same h k = refl

  end_fits : (place : ℕ) (e : Sorts) (w : World) (end : List World) → HaveSorts e exports exported → env_fits g w.env ≡ true → worlds_fit e end ≡ true → Good (joined_end exports place w end)
  end_fits place e w [] same h k = refl
  end_fits place e w (u ∷ end) same h k =
      let a = and_parts _ _ k in
      good_join (cond (eqb u.origin place) (joined exports w u ∷ []) []) (joined_end exports place w end) (if_joined (eqb u.origin place) e w u same h a.0) (end_fits place e w end same h a.1)

  ends_fit : (place : ℕ) (w : World) (ends : List Worlds) → All (λ e. HaveSorts e exports exported) (map (λ (end : Worlds). end.sorts) ends) → env_fits g w.env ≡ true →
      Good (joined_ends exports place w (map (λ (end : Worlds). end.list) ends))
  ends_fit place w [] same h = refl
  ends_fit place w (end ∷ ends) same h =
      good_join (joined_end exports place w end.list) (joined_ends exports place w (map (λ (end : Worlds). end.list) ends))
      (end_fits place end.sorts w end.list (All-head (λ e. HaveSorts e exports exported) end.sorts (map (λ (end : Worlds). end.sorts) ends) same) h end.fit)
      (ends_fit place w ends (All-tail (λ e. HaveSorts e exports exported) end.sorts (map (λ (end : Worlds). end.sorts) ends) same) h)

  all_merged_fit : (place : ℕ) (ws : List World) (ends : List Worlds) → All (λ e. HaveSorts e exports exported) (map (λ (end : Worlds). end.sorts) ends) → worlds_fit g ws ≡ true →
      Good (merged exports (map (λ (end : Worlds). end.list) ends) place ws)
  all_merged_fit place [] ends same h = refl
  all_merged_fit place (w ∷ ws) ends same h =
      let k = and_parts _ _ h in
      good_join (joined_ends exports place w (map (λ (end : Worlds). end.list) ends)) (merged exports (map (λ (end : Worlds). end.list) ends) (suc place) ws)
      (ends_fit place w ends same k.0) (all_merged_fit (suc place) ws ends same k.1)

pub merged_fit : (g : Sorts) (exports : List Var) (ws : List World) (ends : List Worlds) → 0 < length ends → MergePasses g exports (map (λ (end : Worlds). end.sorts) ends) → worlds_fit g ws ≡ true →
    worlds_fit (after_merge g exports (map (λ (end : Worlds). end.sorts) ends)) (merged exports (map (λ (end : Worlds). end.list) ends) 0 ws) ≡ true
merged_fit g exports ws [] l p h = absurd (omega (arith, l))
merged_fit g exports ws (end ∷ ends) l p h =
    let same : HaveSorts end.sorts exports p.exported = All-head (λ e. HaveSorts e exports p.exported) end.sorts (map (λ (end : Worlds). end.sorts) ends) p.ends_agree in
    subst (λ (sorts : List (Option VarSort)). worlds_fit (define g exports sorts) (merged exports (map (λ (end : Worlds). end.list) (end ∷ ends)) 0 ws) ≡ true) (sym same)
    (all_merged_fit g exports p.exported 0 ws (end ∷ ends) p.ends_agree h)

-- the sorts after a branch bone, by the first end
pub sorts_of_first : (g : Sorts) (exports : List Var) (ends : List Worlds) (end : Worlds) (e : Sorts) → 0 < length ends → end ≡ get_or ends 0 end → e ≡ end.sorts →
    define g exports (map (sort_of e) exports) ≡ after_merge g exports (map (λ (end : Worlds). end.sorts) ends)
sorts_of_first g exports [] end e l is same = absurd (omega (arith, l))
sorts_of_first g exports (first ∷ ends) end e l is same = ap (λ (s : Sorts). define g exports (map (sort_of s) exports)) (same ∙ ap (λ (w : Worlds). w.sorts) is)

-- At the end of a rule.

-- the closing outputs are there, and are of these sorts
pub outputs_there : (g : Sorts) (vars : List Var) (sorts : List FlowSort) (ws : List World) → HaveSorts g vars (map VarSort.Flow sorts) → worlds_fit g ws ≡ true → list_all (has_values sorts vars) ws ≡ true
outputs_there g vars sorts ws e h = all_more (λ (w : World). env_fits g w.env) (has_values sorts vars) (λ (w : World) k. values_there g w.env k vars sorts e) ws h

pub some_outputs : (vars : List Var) (sorts : List FlowSort) (ws : List World) → list_all (has_values sorts vars) ws ≡ true → list_all (λ (w : World). is_some (values_at w.env vars)) ws ≡ true
some_outputs vars sorts ws h = all_more (has_values sorts vars) (λ (w : World). is_some (values_at w.env vars)) (λ (w : World) k. there_if_holds (are_of sorts) (values_at w.env vars) k) ws h

-- so are the outputs of the derivations that end in these worlds
module _ (nodes before : List Node) (c : Call) (rule : Rule) (sorts : List FlowSort) where
  first_fits : (steps : Steps) (o : Option Values) (ts : List Derivation) (trees : List Tree) → option_map_or (are_of sorts) o false ≡ true → Stand nodes trees (cons_option (option_map (derivation c.hook c.point c.ins steps) o) ts) →
      ((later : List Tree) → Stand nodes later ts → trees_fit sorts later ≡ true) → trees_fit sorts trees ≡ true
  first_fits steps None ts trees h s step = absurd cc
  first_fits steps (Some outs) ts [] h s step = absurd s
  first_fits steps (Some outs) ts (tree ∷ trees) h s step = and_from _ _ (subst (λ vs. are_of sorts vs ≡ true) (sym s.0.2) h) (step trees s.1)

  pub closed_fit : (ws : List World) (trees : List Tree) → list_all (has_values sorts rule.outputs) ws ≡ true → Stand nodes trees (filter_map (closed c rule) (trails_in before ws)) → trees_fit sorts trees ≡ true
  closed_fit [] [] h s = refl
  closed_fit [] (tree ∷ trees) h s = absurd s
  closed_fit (w ∷ ws) trees h s =
      let k = and_parts _ _ h in
      first_fits (steps_with (tree_at before) w.steps) (values_at w.env rule.outputs) (filter_map (closed c rule) (trails_in before ws)) trees k.0 s (λ later z. closed_fit ws later k.1 z)
