-- Walks from proper inputs, with proper answers, are proper.
use Rattle.std.proofs.Common.{◌≡◌, ℕ, zero, suc, true, List, [], ◌∷◌, length, replicate, Option, Some, None, refl, subst}
use Rattle.std.specs.Prelude.{slice_get, unwrap_or}
use Rattle.std.specs.List.{AllByRecursion, list_all}
use Rattle.std.specs.Option.{option_map, option_map_or, option_and_then}
use Rattle.std.proofs.lemmas.Bool.{and_parts, and_from, cond_both}
use Rattle.sk_def.specs.declared.ids.HookId.{HookId}
use Rattle.sk_def.specs.declared.ids.Var.{Var}
use Rattle.sk_def.specs.declared.filter.Filter.{Filter}
use Rattle.sk_def.specs.declared.def.Rule.{Rule}
use Rattle.sk_def.specs.declared.bone.Bone.{Bone}
use Rattle.sk_def.specs.Layout.{branch, branch_places, after_branches}
use Rattle.sk_term.specs.declared.node.Child.{Child}
use Rattle.sk_term.specs.declared.node.TermNode.{TermNode}
use Rattle.sk_deriv.specs.declared.entry.Entry.{Entry}
use Rattle.sk_deriv.specs.Env.{flow_in, entry_of_child, all_of, args_at, values_at, target_at, gain, bind_children, start_of}
use Rattle.sk_lattice.specs.declared.flow.AbsFlow.{AbsFlow}
use Rattle.sk_lattice.specs.Domain.{Domain}
use Rattle.sk_lattice.specs.Order.{tuples_fit}
use Rattle.sk_lattice.specs.Empty.{is_proper, flow_is_proper}
use Rattle.sk_lattice.specs.Merge.{Join, tuple_merge}
use Rattle.sk_lattice.specs.Laws.{TupleLaws}
use Rattle.sk_absfilter.specs.declared.arg.AbsArg.{AbsArg}
use Rattle.sk_absfilter.specs.Abstract.{Outcome, arg_is_proper, proper_tuple, raw_result}
use Rattle.sk_table.specs.declared.triple.Cover.{Cover}
use Rattle.sk_abswalk.specs.Walk.{AbsEnv, Flows, argument_in, Ends, uncovered, ill, with, Walk, quiet, go_on, after, in_world, after_world, there, Answers, call_at, ask, filtered, walk_branches, join_to, join_exports, abstract_world, rule_at, walk_of}
use Rattle.sk_abswalk.specs.Order.{IsProperOutcome, WalksAreProper}
use Rattle.sk_abswalk.proofs.Relations.{Holds, IfThere, each_set, each_append}

if_then : {A B : Type 0} (R : A → Type 0) (S : B → Type 0) (f : A → Option B) → ((x : A) → R x → IfThere S (f x)) → (o : Option A) → IfThere R o → IfThere S (option_and_then f o)
if_then R S f step None h = tt
if_then R S f step (Some x) h = step x h

if_at : {A : Type 0} (R : A → Type 0) (xs : List (Option A)) (i : ℕ) → AllByRecursion (IfThere R) xs → IfThere R (unwrap_or (slice_get xs i) None)
if_at R [] i h = tt
if_at R (x ∷ xs) zero h = h.0
if_at R (x ∷ xs) (suc i) h = if_at R xs i h.1

module _ (D : Type 0) (d : Domain D) (tuples : TupleLaws d) where
  abbrev Proper : Flows D → Type 0
  Proper a = is_proper d a ≡ true

  abbrev FlowProper : AbsFlow D → Type 0
  FlowProper a = flow_is_proper d a ≡ true

  abbrev EntryProper : Entry (AbsFlow D) → Type 0
  EntryProper (Entry.Number z) = Unit {0}
  EntryProper (Entry.Name n) = Unit {0}
  EntryProper (Entry.Flow a) = flow_is_proper d a ≡ true
  EntryProper (Entry.Point p) = Unit {0}

  abbrev EnvProper : AbsEnv D → Type 0
  EnvProper = AllByRecursion (IfThere EntryProper)

  flow_there : (e : Entry (AbsFlow D)) → EntryProper e → IfThere FlowProper (flow_in e)
  flow_there (Entry.Number z) h = tt
  flow_there (Entry.Name n) h = tt
  flow_there (Entry.Flow a) h = h
  flow_there (Entry.Point p) h = tt

  all_there : {A : Type 0} (f : A → Option (AbsFlow D)) → ((x : A) → IfThere FlowProper (f x)) → (xs : List A) → IfThere Proper (all_of f xs)
  all_there f step [] = refl
  all_there f step (x ∷ xs) = if_then FlowProper Proper _ (λ a h. rest a h (all_of f xs) (all_there f step xs)) (f x) (step x)
    where
      rest : (a : AbsFlow D) → flow_is_proper d a ≡ true → (o : Outcome D) → IfThere Proper o → IfThere Proper (option_map (λ ys. a ∷ ys) o)
      rest a h None k = tt
      rest a h (Some more) k = and_from _ _ h k

  values_proper : (env : AbsEnv D) → EnvProper env → (vars : List Var) → IfThere Proper (values_at env vars)
  values_proper env h vars = all_there _ (λ (v : Var). if_then EntryProper FlowProper flow_in flow_there _ (if_at EntryProper env v.0 h)) vars

  gain_proper : (vars : List Var) (env : AbsEnv D) (flows : Flows D) → EnvProper env → Proper flows → EnvProper (gain env vars flows)
  gain_proper [] env flows h k = h
  gain_proper (v ∷ vars) env [] h k = h
  gain_proper (v ∷ vars) env (a ∷ flows) h k = let p = and_parts _ _ k in gain_proper vars _ flows (each_set (IfThere EntryProper) env v.0 _ h p.0) p.1

  child_proper : (c : Child) → EntryProper (entry_of_child c)
  child_proper (Child.Number z) = tt
  child_proper (Child.Name n) = tt
  child_proper (Child.Point p) = tt

  children_proper : (vars : List Var) (env : AbsEnv D) (cs : List Child) → EnvProper env → EnvProper (bind_children env vars cs)
  children_proper [] env cs h = h
  children_proper (v ∷ vars) env [] h = h
  children_proper (v ∷ vars) env (c ∷ cs) h = children_proper vars _ cs (each_set (IfThere EntryProper) env v.0 _ h (child_proper c))

  nothing_proper : (n : ℕ) → EnvProper (replicate n None)
  nothing_proper zero = tt
  nothing_proper (suc n) = (tt, nothing_proper n)

  start_proper : (rule : Rule) (node : TermNode) (flows : Flows D) → Proper flows → EnvProper (start_of rule node flows)
  start_proper rule node flows k = gain_proper rule.inputs _ flows (children_proper rule.terms _ node.children (nothing_proper (length rule.vars))) k

  -- walks whose calls are proper and whose end has a property
  record Good {X : Type 0} (R : X → Type 0) (w : Walk D X) : Type 0 where
    ends : Holds (IfThere R) w.ends
    calls : AllByRecursion (λ c. is_proper d c.ins ≡ true) w.asked

  go_on_good : {X Y : Type 0} (R : X → Type 0) (S : Y → Type 0) (asked : List (Cover D)) (ends : Ends D X) (next : Option X → Walk D Y) → Holds (IfThere R) ends → AllByRecursion (λ c. is_proper d c.ins ≡ true) asked → ((o : Option X) → IfThere R o → Good S (next o)) → Good S (go_on asked ends next)
  go_on_good R S asked (uncovered c) next h k step = record { ends = tt; calls = k }
  go_on_good R S asked ill next h k step = record { ends = tt; calls = k }
  go_on_good R S asked (with o) next h k step = let s = step o h in record { ends = s.ends; calls = each_append _ asked (next o).asked k s.calls }

  after_good : {X Y : Type 0} (R : X → Type 0) (S : Y → Type 0) (w : Walk D X) (next : Option X → Walk D Y) → Good R w → ((o : Option X) → IfThere R o → Good S (next o)) → Good S (after w next)
  after_good R S w next h step = go_on_good R S w.asked w.ends next h.ends h.calls step

  world_good : {X Y : Type 0} (R : X → Type 0) (S : Y → Type 0) (w : Walk D X) (next : X → Walk D Y) → Good R w → ((x : X) → R x → Good S (next x)) → Good S (after_world w next)
  world_good {X} {Y} R S w next h step = after_good R S w (in_world next) h go
    where
      go : (o : Option X) → IfThere R o → Good S (in_world next o)
      go None k = record { ends = tt; calls = tt }
      go (Some x) k = step x k

  there_good : (o : Outcome D) → IfThere Proper o → Good Proper (quiet (there o))
  there_good None h = record { ends = tt; calls = tt }
  there_good (Some a) h = record { ends = h; calls = tt }

  kept_proper : (o : Outcome D) → IfThere Proper (option_and_then (proper_tuple d) o)
  kept_proper None = tt
  kept_proper (Some a) = cond_both (is_proper d a) (Some a) None (IfThere Proper) (λ e. e) (λ _. tt)

  filter_good : (filter : Filter) (names : ℕ) (o : Option (List (AbsArg D))) → Good Proper (quiet (filtered d filter names o))
  filter_good filter names None = record { ends = tt; calls = tt }
  filter_good filter names (Some given) =
      record { ends = cond_both (list_all (arg_is_proper d) given) _ None (IfThere Proper) (λ _. kept_proper (raw_result d filter names given)) (λ _. tt); calls = tt }

  join_proper : (a : Outcome D) (b : Flows D) → IfThere Proper a → Proper b → IfThere Proper (join_to d a b)
  join_proper None b h k = k
  join_proper (Some a) b h k = cond_both (tuples_fit a b) (Some (tuple_merge d Join a b)) None (IfThere Proper) (λ f. tuples.proper_more a _ (tuples.join_left a b f) h) (λ _. tt)

  joined_good : (next : Flows D → Ends D (Flows D)) (o : Outcome D) → IfThere Proper o → ((m : Flows D) → Proper m → Holds (IfThere Proper) (next m)) → Holds (IfThere Proper) (option_map_or next o ill)
  joined_good next None p step = tt
  joined_good next (Some m) p step = step m p

  exports_good : (exports : List Var) (joined : Outcome D) (worlds : List (Option (AbsEnv D))) → IfThere Proper joined → AllByRecursion (IfThere EnvProper) worlds → Holds (IfThere Proper) (join_exports d exports joined worlds)
  exports_good exports joined [] h k = h
  exports_good exports joined (None ∷ worlds) h k = exports_good exports joined worlds h k.1
  exports_good exports joined (Some env ∷ worlds) h k =
      joined_good (λ more. join_exports d exports (Some more) worlds) (option_and_then (join_to d joined) (values_at env exports))
      (if_then Proper Proper (join_to d joined) (λ b p. join_proper joined b h p) (values_at env exports) (values_proper env k.0 exports))
      (λ m p. exports_good exports (Some m) worlds p k.1)

  branches_good : (walk : ℕ → Walk D (AbsEnv D)) → ((k : ℕ) → Good EnvProper (walk k)) → (ks : List ℕ) → Good (AllByRecursion (IfThere EnvProper)) (walk_branches walk ks)
  branches_good walk each [] = record { ends = tt; calls = tt }
  branches_good walk each (k ∷ ks) =
      after_good EnvProper (AllByRecursion (IfThere EnvProper)) (walk k) _ (each k)
      (λ o h. world_good (AllByRecursion (IfThere EnvProper)) (AllByRecursion (IfThere EnvProper)) (walk_branches walk ks) (λ os. quiet (with (Some (o ∷ os)))) (branches_good walk each ks) (λ os p. record { ends = (h, p); calls = tt }))

  module _ (answers : Answers D) (proper : (c : Cover D) → is_proper d c.ins ≡ true → (o : Outcome D) → answers c ≡ Some o → IsProperOutcome d o) where
    ask_good : (hook : HookId) (at : Option ℕ) (flows : Outcome D) → IfThere Proper flows → Good Proper (ask answers (call_at hook at flows))
    ask_good hook None flows h = record { ends = tt; calls = tt }
    ask_good hook (Some p) None h = record { ends = tt; calls = tt }
    ask_good hook (Some p) (Some a) h = let c : Cover D = record { hook = hook; point = p; ins = a } in go c (answers c) (λ o e. proper c h o e) h
      where
        there_proper : (o : Outcome D) → IsProperOutcome d o → IfThere Proper o
        there_proper None h = tt
        there_proper (Some a) h = h

        go : (c : Cover D) (o : Option (Outcome D)) → ((x : Outcome D) → o ≡ Some x → IsProperOutcome d x) → is_proper d c.ins ≡ true → Good Proper (record { asked = c ∷ []; ends = option_map_or with o (uncovered c) })
        go c None step h = record { ends = tt; calls = (h, tt) }
        go c (Some x) step h = record { ends = there_proper x (step x refl); calls = (h, tt) }

    bones_good : (names point bound : ℕ) (bones : List Bone) (env : AbsEnv D) → EnvProper env → Good EnvProper (abstract_world d answers names point bound bones env)
    bones_good names point bound [] env h = record { ends = h; calls = tt }
    bones_good names point zero (bone ∷ bones) env h = record { ends = tt; calls = tt }
    bones_good names point (suc bound) (Bone.Apply filter args outs ∷ bones) env h =
        world_good Proper EnvProper _ _ (filter_good filter names (args_at argument_in env args)) (λ flows p. bones_good names point bound bones _ (gain_proper outs env flows h p))
    bones_good names point (suc bound) (Bone.Call hook args target outs ∷ bones) env h =
        world_good Proper EnvProper _ _ (ask_good hook (target_at point env target) (values_at env args) (values_proper env h args)) (λ flows p. bones_good names point bound bones _ (gain_proper outs env flows h p))
    bones_good names point (suc bound) (Bone.Either counts exports ∷ bones) env h =
        world_good (AllByRecursion (IfThere EnvProper)) EnvProper _ _ (branches_good _ (λ k. bones_good names point bound (branch counts k bones) env h) (branch_places 0 counts))
        (λ worlds p. world_good Proper EnvProper (quiet (join_exports d exports None worlds)) _ (record { ends = exports_good exports None worlds tt p; calls = tt })
        (λ flows p. bones_good names point bound (after_branches counts bones) _ (gain_proper exports env flows h p)))

    rule_good : (names point : ℕ) (ins : Flows D) → Proper ins → (r : Option (TermNode × Rule)) → Good Proper (option_map_or (walk_of d answers names point ins) r (quiet ill))
    rule_good names point ins h None = record { ends = tt; calls = tt }
    rule_good names point ins h (Some r) =
        world_good EnvProper Proper _ _ (bones_good names point (length r.1.bones) r.1.bones _ (start_proper r.1 r.0 ins h)) (λ env p. there_good (values_at env r.1.outputs) (values_proper env p r.1.outputs))

  outcome_at : (ends : Ends D (Flows D)) (o : Outcome D) → ends ≡ with o → Holds (IfThere Proper) ends → IsProperOutcome d o
  outcome_at ends o e h = back o (subst (Holds (IfThere Proper)) e h)
    where
      back : (o : Outcome D) → IfThere Proper o → IsProperOutcome d o
      back None h = tt
      back (Some a) h = h

  pub walks_are_proper : WalksAreProper d
  walks_are_proper s answers proper c h =
      let w = rule_good answers proper s.names c.point c.ins h (rule_at s c.hook c.point) in
      record { ends = λ o e. outcome_at _ o e w.ends; calls = w.calls }
