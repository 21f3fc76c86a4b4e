-- Walks of calls that fit, with answers that fit, meet no ill bone, and ask calls that fit.
use Rattle.std.proofs.Common.{◌≡◌, ℕ, zero, suc, ◌≤◌, true, List, [], ◌∷◌, length, map, Option, Some, None, Ok, refl, sym, ap, subst, arith}
use Rattle.std.specs.Prelude.{slice_get, if◌then◌else◌}
use Rattle.std.specs.List.{AllByRecursion, AllZip}
use Rattle.std.specs.Option.{option_map_or, option_and_then}
use Rattle.std.proofs.lemmas.List.Elements.{recursion_from_All}
use Rattle.sk_base.specs.declared.flow.FlowSort.{FlowSort}
use Rattle.sk_def.specs.declared.ids.HookId.{HookId}
use Rattle.sk_def.specs.declared.ids.SortId.{SortId}
use Rattle.sk_def.specs.declared.ids.Var.{Var}
use Rattle.sk_def.specs.declared.filter.Filter.{Filter}
use Rattle.sk_def.specs.declared.sorts.VarSort.{VarSort}
use Rattle.sk_def.specs.declared.sorts.VarSort.TheVariants as variable
use Rattle.sk_def.specs.declared.bone.Bone.{Bone}
use Rattle.sk_def.specs.declared.def.Hook.{Hook}
use Rattle.sk_def.specs.declared.def.Def.{Def}
use Rattle.sk_def.specs.Layout.{branch, branch_places}
use Rattle.sk_def.specs.Signatures.{parameters, results}
use Rattle.sk_def.specs.Sorts.{Sorts, sort_of, define, HaveSorts, MergePasses, after_filter, after_hook, after_merge, outputs_of}
use Rattle.sk_walk.specs.Walks.{Walks, WalksBranches, no_bone, filter_goes, hook_goes, merge_goes, no_branch, branch_goes}
use Rattle.sk_walk.specs.Sorted.{sort_checks}
use Rattle.sk_term.specs.Program.{IsSortOfPoint}
use Rattle.sk_deriv.specs.Env.{args_at, values_at, target_at, gain}
use Rattle.sk_deriv.specs.Moves.{Setting}
use Rattle.sk_lattice.specs.Domain.{Domain}
use Rattle.sk_lattice.specs.Merge.{Join, tuple_merge}
use Rattle.sk_lattice.specs.Shapes.{has_sorts, ShapeLaws}
use Rattle.sk_absfilter.specs.declared.arg.AbsArg.{AbsArg}
use Rattle.sk_absfilter.specs.Abstract.{Outcome}
use Rattle.sk_table.specs.declared.triple.Cover.{Cover}
use Rattle.sk_abswalk.specs.Walk.{AbsEnv, Flows, argument_in, Ends, uncovered, ill, with, Walk, quiet, go_on, after, in_world, after_world, there, Answers, call_at, ask, filtered, walk_branches, join_to, join_exports, abstract_world}
use Rattle.sk_abswalk.specs.Fits.{CallFits, OutcomeFits, AnswersFit}
use Rattle.sk_abswalk.proofs.Relations.{IfThere, Has, each_append}
use Rattle.sk_abswalk.proofs.Bounds.{branch_short, after_short}
use Rattle.sk_abswalk.proofs.FilterSorts.{FlowsFit, ArgFits, filter_fits}
use Rattle.sk_abswalk.proofs.EnvSorts.{EnvFits, IsFlowSort, values_there, args_there, target_there, gain_fits, map_flows, fit_from_sorts, sorts_from_fit, all_flows}
use Rattle.sk_abswalk.proofs.NewFlows.{exports_are_flows, ends_add_flows, ok_same}

-- no ill bone was met, and the fact holds of what is there
abbrev pub Fine : {D X : Type 0} → (X → Type 0) → Ends D X → Type 0
Fine R (uncovered c) = Unit {0}
Fine R ill = ⊥
Fine R (with o) = IfThere R o

-- the same of a walk, and all calls asked fit
pub record FineWalk {D X : Type 0} (s : Setting) (R : X → Type 0) (w : Walk D X) : Type 0 where
  pub ends : Fine R w.ends
  pub calls : AllByRecursion (CallFits s) w.asked

module _ {D : Type 0} (s : Setting) where
  go_on_fine : {X Y : Type 0} (R : X → Type 0) (Q : Y → Type 0) (asked : List (Cover D)) (ends : Ends D X) (next : Option X → Walk D Y) → Fine R ends → AllByRecursion (CallFits s) asked → ((o : Option X) → IfThere R o → FineWalk s Q (next o)) → FineWalk s Q (go_on asked ends next)
  go_on_fine R Q asked (uncovered c) next h k step = record { ends = tt; calls = k }
  go_on_fine R Q asked ill next h k step = absurd h
  go_on_fine R Q asked (with o) next h k step = let f = step o h in record { ends = f.ends; calls = each_append _ asked (next o).asked k f.calls }

  pub after_fine : {X Y : Type 0} (R : X → Type 0) (Q : Y → Type 0) (w : Walk D X) (next : Option X → Walk D Y) → FineWalk s R w → ((o : Option X) → IfThere R o → FineWalk s Q (next o)) → FineWalk s Q (after w next)
  after_fine R Q w next h step = go_on_fine R Q w.asked w.ends next h.ends h.calls step

  pub world_fine : {X Y : Type 0} (R : X → Type 0) (Q : Y → Type 0) (w : Walk D X) (next : X → Walk D Y) → FineWalk s R w → ((x : X) → R x → FineWalk s Q (next x)) → FineWalk s Q (after_world w next)
  world_fine {X} {Y} R Q w next h step = after_fine R Q w (in_world next) h go
    where
      go : (o : Option X) → IfThere R o → FineWalk s Q (in_world next o)
      go None k = record { ends = tt; calls = tt }
      go (Some x) k = step x k

  pub there_fine : {X : Type 0} (R : X → Type 0) (o : Option X) → Has R o → FineWalk {D = D} s R (quiet (there o))
  there_fine R None h = absurd h
  there_fine R (Some x) h = record { ends = h; calls = tt }

-- the sorts of values, out of those of variables
flow_sorts : (sorts : List VarSort) → AllByRecursion IsFlowSort sorts → (fs : List FlowSort) × (sorts ≡ map variable.Flow fs)
flow_sorts [] h = ([], refl)
flow_sorts (variable.Number ∷ sorts) h = absurd h.0
flow_sorts (variable.Name ∷ sorts) h = absurd h.0
flow_sorts (variable.Term t ∷ sorts) h = absurd h.0
flow_sorts (variable.Flow f ∷ sorts) h = let r = flow_sorts sorts h.1 in (f ∷ r.0, ap (λ l. variable.Flow f ∷ l) r.1)

all_are : (sorts : List VarSort) (found : List (Option VarSort)) → found ≡ map Some sorts → AllByRecursion (IfThere IsFlowSort) found → AllByRecursion IsFlowSort sorts
all_are [] found e h = tt
all_are (x ∷ sorts) [] e h = absurd cc
all_are (x ∷ sorts) (y ∷ found) e h =
    let first : y ≡ Some x = cc in
    let rest : found ≡ map Some sorts = cc in
    (subst (IfThere IsFlowSort) first h.0, all_are sorts found rest h.1)

pub outputs_are : (d : Def) (id : HookId) (hook : Hook) → slice_get d.hooks id.0 ≡ Some hook → outputs_of d id ≡ hook.outputs
outputs_are d id hook e = rw e refl

module _ (D : Type 0) (d : Domain D) (shapes : ShapeLaws d) (s : Setting) where
  abbrev Good : Sorts → AbsEnv D → Type 0
  Good = EnvFits s

  -- a filter's result
  filter_fine : (filter : Filter) (o : Option (List (AbsArg D))) → Has (AllZip (ArgFits s.names) (parameters filter)) o → FineWalk s (FlowsFit s.names (results filter)) (quiet (filtered d filter s.names o))
  filter_fine filter None h = absurd h
  filter_fine filter (Some args) h = record { ends = filter_fits D d s.names filter args h; calls = tt }

  -- Joins.

  join_fits : (fs : List FlowSort) (joined : Outcome D) (b : Flows D) → IfThere (λ a. has_sorts s.names fs a ≡ true) joined → has_sorts s.names fs b ≡ true → Has (λ a. has_sorts s.names fs a ≡ true) (join_to d joined b)
  join_fits fs None b h k = k
  join_fits fs (Some a) b h k =
      subst (λ t. Has (λ a. has_sorts s.names fs a ≡ true) (if t then Some (tuple_merge d Join a b) else None)) (sym (shapes.sorts_fit s.names fs a b h k)) (shapes.join_sorts s.names fs a b h k)

  joined_fine : (R : Flows D → Type 0) (next : Flows D → Ends D (Flows D)) (o : Outcome D) → Has R o → ((m : Flows D) → R m → Fine R (next m)) → Fine R (option_map_or next o ill)
  joined_fine R next None h step = absurd h
  joined_fine R next (Some m) h step = step m h

  has_then : (fs : List FlowSort) (joined : Outcome D) (o : Outcome D) → IfThere (λ a. has_sorts s.names fs a ≡ true) joined → Has (FlowsFit s.names (map variable.Flow fs)) o → Has (λ a. has_sorts s.names fs a ≡ true) (option_and_then (join_to d joined) o)
  has_then fs joined None h k = absurd k
  has_then fs joined (Some b) h k = join_fits fs joined b h (sorts_from_fit D s fs b k)

  -- the exported tuples of worlds that are there have the exports' sorts, and so has their join
  exports_fine : (exports : List Var) (fs : List FlowSort) (joined : Outcome D) (ends : List Sorts) (worlds : List (Option (AbsEnv D))) → AllZip (λ e o. IfThere (Good e) o) ends worlds → AllByRecursion (λ e. HaveSorts e exports (map variable.Flow fs)) ends → IfThere (λ a. has_sorts s.names fs a ≡ true) joined → Fine (λ a. has_sorts s.names fs a ≡ true) (join_exports d exports joined worlds)
  exports_fine exports fs joined [] [] z p h = h
  exports_fine exports fs joined [] (o ∷ worlds) z p h = absurd z
  exports_fine exports fs joined (e ∷ ends) [] z p h = absurd z
  exports_fine exports fs joined (e ∷ ends) (None ∷ worlds) z p h = exports_fine exports fs joined ends worlds z.1 p.1 h
  exports_fine exports fs joined (e ∷ ends) (Some env ∷ worlds) z p h =
      joined_fine (λ a. has_sorts s.names fs a ≡ true) (λ more. join_exports d exports (Some more) worlds) (option_and_then (join_to d joined) (values_at env exports))
      (has_then fs joined (values_at env exports) h (values_there D s e env z.0 exports (map variable.Flow fs) (all_flows fs) p.0))
      (λ m k. exports_fine exports fs (Some m) ends worlds z.1 p.1 k)

  no_ends : (exports : List Var) (worlds : List (Option (AbsEnv D))) (R : Flows D → Type 0) → AllZip (λ e o. IfThere (Good e) o) [] worlds → Fine R (join_exports d exports None worlds)
  no_ends exports [] R z = tt
  no_ends exports (o ∷ worlds) R z = absurd z

  fine_more : {X : Type 0} (P Q : X → Type 0) (ends : Ends D X) → ((x : X) → P x → Q x) → Fine P ends → Fine Q ends
  fine_more P Q (uncovered c) step h = tt
  fine_more P Q ill step h = absurd h
  fine_more P Q (with None) step h = tt
  fine_more P Q (with (Some x)) step h = step x h

  -- the join of a branch bone's exports, which leads on to the sorts after it
  merge_fine : (g : Sorts) (env : AbsEnv D) (exports : List Var) (ends : List Sorts) (worlds : List (Option (AbsEnv D))) → Good g env → MergePasses g exports ends → AllByRecursion (λ e. (v : Var) → IfThere IsFlowSort (sort_of g v) → IfThere IsFlowSort (sort_of e v)) ends → AllZip (λ e o. IfThere (Good e) o) ends worlds →
      FineWalk s (λ flows. Good (after_merge g exports ends) (gain env exports flows)) (quiet (join_exports d exports None worlds))
  merge_fine g env exports [] worlds h p new z = record { ends = no_ends exports worlds _ z; calls = tt }
  merge_fine g env exports (e ∷ ends) worlds h p new z =
      let agree : AllByRecursion (λ e. HaveSorts e exports p.exported) (e ∷ ends) = recursion_from_All (λ e. HaveSorts e exports p.exported) (e ∷ ends) p.ends_agree in
      let fs = flow_sorts p.exported (all_are p.exported (map (sort_of e) exports) agree.0 (exports_are_flows g e exports p.exports_new new.0)) in
      let sorts_are : AllByRecursion (λ e. HaveSorts e exports (map variable.Flow fs.0)) (e ∷ ends) = subst (λ l. AllByRecursion (λ e. HaveSorts e exports l) (e ∷ ends)) fs.1 agree in
      record {
        ends = fine_more (λ a. has_sorts s.names fs.0 a ≡ true) (λ flows. Good (after_merge g exports (e ∷ ends)) (gain env exports flows)) (join_exports d exports None worlds)
            (λ flows k. subst (λ l. Good (define g exports l) (gain env exports flows)) (sym sorts_are.0) (gain_fits D s exports g env (map variable.Flow fs.0) flows h (fit_from_sorts D s fs.0 flows k)))
            (exports_fine exports fs.0 None (e ∷ ends) worlds z sorts_are tt);
        calls = tt;
      }

  module _ (answers : Answers D) (answers_fit : AnswersFit s answers) where
    outcome_fine : (hook : HookId) (o : Outcome D) → OutcomeFits s hook o → IfThere (λ a. has_sorts s.names (outputs_of s.def hook) a ≡ true) o
    outcome_fine hook None h = tt
    outcome_fine hook (Some a) h = h

    answer_fine : (c : Cover D) → CallFits s c → (o : Option (Outcome D)) → answers c ≡ o → FineWalk s (λ a. has_sorts s.names (outputs_of s.def c.hook) a ≡ true) (record { asked = c ∷ []; ends = option_map_or with o (uncovered c) })
    answer_fine c h None e = record { ends = tt; calls = (h, tt) }
    answer_fine c h (Some o) e = record { ends = outcome_fine c.hook o (answers_fit c h o e); calls = (h, tt) }

    ask_fine : (id : HookId) (hook : Hook) → slice_get s.def.hooks id.0 ≡ Some hook → (at : Option ℕ) (flows : Option (Flows D)) → Has (λ p. IsSortOfPoint s.def s.nodes p hook.sort) at → Has (FlowsFit s.names (map variable.Flow hook.inputs)) flows → FineWalk s (λ a. has_sorts s.names (outputs_of s.def id) a ≡ true) (ask answers (call_at id at flows))
    ask_fine id hook e None flows p h = absurd p
    ask_fine id hook e (Some point) None p h = absurd h
    ask_fine id hook e (Some point) (Some ins) p h =
        answer_fine (record { hook = id; point = point; ins = ins }) (record { hook = hook; declared = e; point_fits = p; ins_fit = sorts_from_fit D s hook.inputs ins h }) _ refl

    module _ (own : SortId) (point : ℕ) (own_is : IsSortOfPoint s.def s.nodes point own) where
      abbrev world : ℕ → List Bone → AbsEnv D → Walk D (AbsEnv D)
      world = abstract_world d answers s.names point

      filter_gains : (filter : Filter) (outs : List Var) (g k : Sorts) (env : AbsEnv D) (flows : Flows D) → k ≡ after_filter g filter outs → Good g env → FlowsFit s.names (results filter) flows → Good k (gain env outs flows)
      filter_gains filter outs g k env flows e h f = subst (λ k. Good k (gain env outs flows)) (sym e) (gain_fits D s outs g env (results filter) flows h f)

      hook_gains : (id : HookId) (outs : List Var) (g k : Sorts) (env : AbsEnv D) (flows : Flows D) → k ≡ after_hook s.def g id outs → Good g env → has_sorts s.names (outputs_of s.def id) flows ≡ true → Good k (gain env outs flows)
      hook_gains id outs g k env flows e h f =
          subst (λ k. Good k (gain env outs flows)) (sym e)
          (subst (λ l. Good (define g outs l) (gain env outs flows)) (sym (map_flows (outputs_of s.def id)))
          (gain_fits D s outs g env (map variable.Flow (outputs_of s.def id)) flows h (fit_from_sorts D s (outputs_of s.def id) flows f)))

      mutual
        -- by the walk of the sort checks
        pub bones_fine : (bound : ℕ) {first : ℕ} {bones : List Bone} {a b : Unit {0}} {g h : Sorts} (env : AbsEnv D) → length bones ≤ bound → Good g env → Walks (sort_checks s.def own) first bones a g b (Ok h) → FineWalk s (Good h) (world bound bones env)
        bones_fine bound env short good no_bone = record { ends = good; calls = tt }
        bones_fine zero env short good (filter_goes p rest) = absurd (omega arith)
        bones_fine zero env short good (hook_goes p rest) = absurd (omega arith)
        bones_fine zero env short good (merge_goes b p rest) = absurd (omega arith)
        bones_fine (suc bound) {h = h} env short good (filter_goes {filter} {args} {outs} {w = g} {v = k} p rest) =
            world_fine s (FlowsFit s.names (results filter)) (Good h) (quiet (filtered d filter s.names (args_at argument_in env args))) _
            (filter_fine filter (args_at argument_in env args) (args_there D s g env good filter args p.0.args_fit))
            (λ flows f. bones_fine bound (gain env outs flows) (omega arith) (filter_gains filter outs g k env flows (ok_same _ _ p.1) good f) rest)
        bones_fine (suc bound) {h = h} env short good (hook_goes {hook = id} {args} {target} {outs} {w = g} {v = k} p rest) =
            world_fine s (λ a. has_sorts s.names (outputs_of s.def id) a ≡ true) (Good h) (ask answers (call_at id (target_at point env target) (values_at env args))) _
            (ask_fine id p.0.hook p.0.declared (target_at point env target) (values_at env args) (target_there D s g env good own point own_is target p.0.hook.sort p.0.target_fits) (values_there D s g env good args (map variable.Flow p.0.hook.inputs) (all_flows p.0.hook.inputs) p.0.args_fit))
            (λ flows f. bones_fine bound (gain env outs flows) (omega arith) (hook_gains id outs g k env flows (ok_same _ _ p.1) good f) rest)
        bones_fine (suc bound) {h = h} env short good (merge_goes {counts} {exports} {rest = bones} {w = g} {v = k} {ends} inside p rest) =
            world_fine s (λ worlds. AllZip (λ e o. IfThere (Good e) o) ends worlds) (Good h) (walk_branches (λ c. world bound (branch counts c bones) env) (branch_places 0 counts)) _
            (branches_fine bound env (omega arith) good inside)
            (λ worlds z. world_fine s (λ flows. Good (after_merge g exports ends) (gain env exports flows)) (Good h) (quiet (join_exports d exports None worlds)) _
            (merge_fine g env exports ends worlds good p.0 (ends_add_flows s.def own inside) z)
            (λ flows f. bones_fine bound (gain env exports flows) (omega (arith, after_short counts bones)) (subst (λ k. Good k (gain env exports flows)) (sym (ok_same _ _ p.1)) f) rest))

        branches_fine : (bound : ℕ) {bone : ℕ} {counts places : List ℕ} {bones : List Bone} {a b : Unit {0}} {g : Sorts} {ends : List Sorts} (env : AbsEnv D) → length bones ≤ bound → Good g env → WalksBranches (sort_checks s.def own) bone counts bones places g a b (Ok ends) →
            FineWalk s (λ worlds. AllZip (λ e o. IfThere (Good e) o) ends worlds) (walk_branches (λ c. world bound (branch counts c bones) env) places)
        branches_fine bound env short good no_branch = record { ends = tt; calls = tt }
        branches_fine bound env short good (branch_goes {k = place} {counts} {places} {bones} {w = g} {v = k} {z = z} {ends} p inside rest) =
            after_fine s (Good z) (λ worlds. AllZip (λ e o. IfThere (Good e) o) (z ∷ ends) worlds) (world bound (branch counts place bones) env) _
            (bones_fine bound env (omega (arith, branch_short counts place bones)) (subst (λ g. Good g env) (sym (ok_same _ _ p)) good) inside)
            (λ o f. world_fine s (λ worlds. AllZip (λ e o. IfThere (Good e) o) ends worlds) (λ worlds. AllZip (λ e o. IfThere (Good e) o) (z ∷ ends) worlds) (walk_branches (λ c. world bound (branch counts c bones) env) places) (λ os. quiet (with (Some (o ∷ os))))
            (branches_fine bound env short good rest) (λ os l. record { ends = (f, l); calls = tt }))
