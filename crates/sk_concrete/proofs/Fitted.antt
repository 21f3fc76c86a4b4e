-- Environments that fit the sorts of their variables.
use Rattle.std.proofs.Common.{◌≡◌, ℕ, zero, suc, Bool, true, false, ◌&&◌, List, [], ◌∷◌, length, map, Option, Some, None, refl, subst}
use Rattle.std.specs.Prelude.{is_some, replicate, slice_get, slice_set, slice_index_or, unwrap_or}
use Rattle.std.specs.List.{AllByRecursion}
use Rattle.std.specs.Option.{option_map, option_map_or, option_and_then}
use Rattle.std.proofs.lemmas.Bool.{and_parts, and_from}
use Rattle.sk_base.specs.declared.flow.FlowSort.{FlowSort}
use Rattle.sk_def.specs.declared.ids.Var.{Var}
use Rattle.sk_def.specs.declared.ids.SortId.{SortId}
use Rattle.sk_def.specs.declared.sorts.ArgSort.{ArgSort}
use Rattle.sk_def.specs.declared.sorts.VarSort.{VarSort}
use Rattle.sk_def.specs.declared.filter.Filter.{Filter}
use Rattle.sk_def.specs.declared.bone.Target.{Target}
use Rattle.sk_def.specs.declared.def.Def.{Def}
use Rattle.sk_def.specs.declared.def.Rule.{Rule}
use Rattle.sk_def.specs.declared.def.Hook.{Hook}
use Rattle.sk_def.specs.declared.def.Con.{Con}
use Rattle.sk_def.specs.Signatures.{parameters}
use Rattle.sk_def.specs.Sorts.{Sorts, sort_of, define, HaveSorts, target_sort}
use Rattle.sk_sort.specs.Rules.{arg_sort, nothing, header_sorts}
use Rattle.sk_value.specs.declared.flow.Flow.{Flow}
use Rattle.sk_filter.specs.Arguments.{Values}
use Rattle.sk_term.specs.declared.node.Child.{Child}
use Rattle.sk_term.specs.declared.node.TermNode.{TermNode}
use Rattle.sk_term.specs.Program.{ChildFits, ChildrenFit}
use Rattle.sk_deriv.specs.declared.entry.Entry.{Entry}
use Rattle.sk_deriv.specs.Env.{Env, entry_of, flow_in, point_in, entry_of_child, args_at, values_at, target_at, gain, bind_children}
use Rattle.sk_deriv.specs.Moves.{arg_in, has_sort, have_sorts}
use Rattle.sk_concrete.specs.Fitting.{is_of, are_of, entry_fits, env_fits, arg_fits, args_fit}

-- Setting and reading a place.

pub set_fits : (g : Sorts) (env : Env Flow) (i : ℕ) (sort : Option VarSort) (entry : Option (Entry Flow)) → env_fits g env ≡ true → entry_fits sort entry ≡ true → env_fits (slice_set g i sort) (slice_set env i entry) ≡ true
set_fits [] [] i sort entry h p = refl
set_fits [] (y ∷ env) i sort entry h p = absurd cc
set_fits (x ∷ g) [] i sort entry h p = absurd cc
set_fits (x ∷ g) (y ∷ env) zero sort entry h p = and_from _ _ p (and_parts _ _ h).1
set_fits (x ∷ g) (y ∷ env) (suc i) sort entry h p = let k = and_parts _ _ h in and_from _ _ k.0 (set_fits g env i sort entry k.1 p)

place_fits : (g : Sorts) (env : Env Flow) (i : ℕ) → env_fits g env ≡ true → entry_fits (slice_index_or g i None) (unwrap_or (slice_get env i) None) ≡ true
place_fits [] [] i h = refl
place_fits [] (y ∷ env) i h = absurd cc
place_fits (x ∷ g) [] i h = absurd cc
place_fits (x ∷ g) (y ∷ env) zero h = (and_parts _ _ h).0
place_fits (x ∷ g) (y ∷ env) (suc i) h = place_fits g env i (and_parts _ _ h).1

pub variable_fits : (g : Sorts) (env : Env Flow) (v : Var) (sort : Option VarSort) → env_fits g env ≡ true → sort_of g v ≡ sort → entry_fits sort (entry_of env v) ≡ true
variable_fits g env v sort h e = subst (λ o. entry_fits o (entry_of env v) ≡ true) e (place_fits g env v.0 h)

-- What variables with sorts stand for.

abbrev holds : {B : Type 0} → (B → Bool) → Option B → Bool
holds p o = option_map_or p o false

abbrev IsFlowSort : VarSort → Type 0
IsFlowSort VarSort.Number = ⊥
IsFlowSort VarSort.Name = ⊥
IsFlowSort (VarSort.Term t) = ⊥
IsFlowSort (VarSort.Flow f) = Unit {0}

abbrev IsArgSort : VarSort → Type 0
IsArgSort VarSort.Number = Unit {0}
IsArgSort VarSort.Name = Unit {0}
IsArgSort (VarSort.Term t) = ⊥
IsArgSort (VarSort.Flow f) = Unit {0}

parameters_are_args : (filter : Filter) → AllByRecursion IsArgSort (parameters filter)
parameters_are_args Filter.Lit = (tt, tt)
parameters_are_args Filter.Zero = tt
parameters_are_args Filter.One = tt
parameters_are_args Filter.Yes = tt
parameters_are_args Filter.No = tt
parameters_are_args Filter.Neg = (tt, tt)
parameters_are_args Filter.Not = (tt, tt)
parameters_are_args Filter.IsTrue = (tt, tt)
parameters_are_args Filter.IsFalse = (tt, tt)
parameters_are_args Filter.IsZero = (tt, tt)
parameters_are_args Filter.NonZero = (tt, tt)
parameters_are_args Filter.IsPos = (tt, tt)
parameters_are_args Filter.IsNeg = (tt, tt)
parameters_are_args Filter.OfInt = (tt, tt)
parameters_are_args Filter.OfBool = (tt, tt)
parameters_are_args Filter.AsInt = (tt, tt)
parameters_are_args Filter.AsBool = (tt, tt)
parameters_are_args Filter.Empty = tt
parameters_are_args Filter.Write = (tt, (tt, (tt, tt)))
parameters_are_args Filter.KeepInt = (tt, tt)
parameters_are_args Filter.KeepBool = (tt, tt)
parameters_are_args Filter.KeepVal = (tt, tt)
parameters_are_args Filter.KeepStore = (tt, tt)
parameters_are_args Filter.AnyBool = tt
parameters_are_args _ = (tt, (tt, tt))

arg_there : (sort : VarSort) → IsArgSort sort → (o : Option (Entry Flow)) → entry_fits (Some sort) o ≡ true → holds (arg_fits sort) (option_and_then arg_in o) ≡ true
arg_there VarSort.Number k None h = absurd cc
arg_there VarSort.Number k (Some (Entry.Number z)) h = refl
arg_there VarSort.Number k (Some (Entry.Name n)) h = absurd cc
arg_there VarSort.Number k (Some (Entry.Flow v)) h = absurd cc
arg_there VarSort.Number k (Some (Entry.Point p)) h = absurd cc
arg_there VarSort.Name k None h = absurd cc
arg_there VarSort.Name k (Some (Entry.Number z)) h = absurd cc
arg_there VarSort.Name k (Some (Entry.Name n)) h = refl
arg_there VarSort.Name k (Some (Entry.Flow v)) h = absurd cc
arg_there VarSort.Name k (Some (Entry.Point p)) h = absurd cc
arg_there (VarSort.Term t) k o h = absurd k
arg_there (VarSort.Flow f) k None h = absurd cc
arg_there (VarSort.Flow f) k (Some (Entry.Number z)) h = absurd cc
arg_there (VarSort.Flow f) k (Some (Entry.Name n)) h = absurd cc
arg_there (VarSort.Flow f) k (Some (Entry.Flow v)) h = h
arg_there (VarSort.Flow f) k (Some (Entry.Point p)) h = absurd cc

flow_there : (f : FlowSort) (o : Option (Entry Flow)) → entry_fits (Some (VarSort.Flow f)) o ≡ true → holds (is_of f) (option_and_then flow_in o) ≡ true
flow_there f None h = absurd cc
flow_there f (Some (Entry.Number z)) h = absurd cc
flow_there f (Some (Entry.Name n)) h = absurd cc
flow_there f (Some (Entry.Flow v)) h = h
flow_there f (Some (Entry.Point p)) h = absurd cc

point_there : (t : SortId) (o : Option (Entry Flow)) → entry_fits (Some (VarSort.Term t)) o ≡ true → is_some (option_and_then point_in o) ≡ true
point_there t None h = absurd cc
point_there t (Some (Entry.Number z)) h = absurd cc
point_there t (Some (Entry.Name n)) h = absurd cc
point_there t (Some (Entry.Flow v)) h = absurd cc
point_there t (Some (Entry.Point p)) h = refl

both_hold : {B : Type 0} (p : B → Bool) (q : List B → Bool) (r : List B → Bool) → ((x : B) (xs : List B) → p x ≡ true → q xs ≡ true → r (x ∷ xs) ≡ true) → (o : Option B) (os : Option (List B)) →
    holds p o ≡ true → holds q os ≡ true → holds r (option_and_then (λ y. option_map (λ ys. y ∷ ys) os) o) ≡ true
both_hold p q r step None os h k = absurd cc
both_hold p q r step (Some x) None h k = absurd cc
both_hold p q r step (Some x) (Some xs) h k = step x xs h k

module _ (g : Sorts) (env : Env Flow) (h : env_fits g env ≡ true) where
  args_there : (vars : List Var) (sorts : List VarSort) → AllByRecursion IsArgSort sorts → HaveSorts g vars sorts → holds (args_fit sorts) (args_at arg_in env vars) ≡ true
  args_there [] [] k e = refl
  args_there [] (sort ∷ sorts) k e = absurd cc
  args_there (v ∷ vars) [] k e = absurd cc
  args_there (v ∷ vars) (sort ∷ sorts) k e =
      let first : sort_of g v ≡ Some sort = cc in
      let rest : HaveSorts g vars sorts = cc in
      both_hold (arg_fits sort) (args_fit sorts) (args_fit (sort ∷ sorts)) (λ x xs a b. and_from _ _ a b) (option_and_then arg_in (entry_of env v)) (args_at arg_in env vars)
      (arg_there sort k.0 (entry_of env v) (variable_fits g env v (Some sort) h first)) (args_there vars sorts k.1 rest)

  -- the arguments of a filter are there, and are of its sorts
  pub filter_args_there : (filter : Filter) (vars : List Var) → HaveSorts g vars (parameters filter) → option_map_or (args_fit (parameters filter)) (args_at arg_in env vars) false ≡ true
  filter_args_there filter vars e = args_there vars (parameters filter) (parameters_are_args filter) e

  -- variables of flow sorts have values of these sorts
  pub values_there : (vars : List Var) (sorts : List FlowSort) → HaveSorts g vars (map VarSort.Flow sorts) → option_map_or (are_of sorts) (values_at env vars) false ≡ true
  values_there [] [] e = refl
  values_there [] (sort ∷ sorts) e = absurd cc
  values_there (v ∷ vars) [] e = absurd cc
  values_there (v ∷ vars) (sort ∷ sorts) e =
      let first : sort_of g v ≡ Some (VarSort.Flow sort) = cc in
      let rest : HaveSorts g vars (map VarSort.Flow sorts) = cc in
      both_hold (is_of sort) (are_of sorts) (are_of (sort ∷ sorts)) (λ x xs a b. and_from _ _ a b) (option_and_then flow_in (entry_of env v)) (values_at env vars)
      (flow_there sort (entry_of env v) (variable_fits g env v (Some (VarSort.Flow sort)) h first)) (values_there vars sorts rest)

  -- the point of a target of a term sort is there
  pub target_there : (own : SortId) (point : ℕ) (target : Target) (sort : SortId) → target_sort own g target ≡ Some (VarSort.Term sort) → is_some (target_at point env target) ≡ true
  target_there own point Target.Own sort e = refl
  target_there own point (Target.Sub v) sort e = point_there sort (entry_of env v) (variable_fits g env v (Some (VarSort.Term sort)) h e)

pub there_if_holds : {B : Type 0} (p : B → Bool) (o : Option B) → option_map_or p o false ≡ true → is_some o ≡ true
there_if_holds p None h = absurd cc
there_if_holds p (Some x) h = refl

-- Values that are gained.

abbrev pub flows_fit : List (Option VarSort) → Values → Bool
flows_fit [] [] = true
flows_fit (sort ∷ sorts) (v ∷ vs) = entry_fits sort (Some (Entry.Flow v)) && flows_fit sorts vs
flows_fit _ _ = false

pub gain_fits : (vars : List Var) (g : Sorts) (env : Env Flow) (sorts : List (Option VarSort)) (vs : Values) → env_fits g env ≡ true → flows_fit sorts vs ≡ true → env_fits (define g vars sorts) (gain env vars vs) ≡ true
gain_fits [] g env sorts vs h f = h
gain_fits (v ∷ vars) g env [] [] h f = h
gain_fits (v ∷ vars) g env [] (x ∷ vs) h f = absurd cc
gain_fits (v ∷ vars) g env (sort ∷ sorts) [] h f = absurd cc
gain_fits (v ∷ vars) g env (sort ∷ sorts) (x ∷ vs) h f =
    let k = and_parts _ _ f in gain_fits vars _ _ sorts vs (set_fits g env v.0 sort (Some (Entry.Flow x)) h k.0) k.1

pub flows_from_sorts : (sorts : List FlowSort) (vs : Values) → are_of sorts vs ≡ true → flows_fit (map (λ s. Some (VarSort.Flow s)) sorts) vs ≡ true
flows_from_sorts [] [] h = refl
flows_from_sorts [] (v ∷ vs) h = absurd cc
flows_from_sorts (sort ∷ sorts) [] h = absurd cc
flows_from_sorts (sort ∷ sorts) (v ∷ vs) h = let k = and_parts _ _ h in and_from _ _ k.0 (flows_from_sorts sorts vs k.1)

-- The environment that a rule starts from.

child_fits : (d : Def) (nodes : List TermNode) (names : ℕ) (c : Child) (a : ArgSort) → ChildFits d nodes names c a → entry_fits (Some (arg_sort a)) (Some (entry_of_child c)) ≡ true
child_fits d nodes names (Child.Number z) ArgSort.Number h = refl
child_fits d nodes names (Child.Name n) ArgSort.Name h = refl
child_fits d nodes names (Child.Point p) (ArgSort.Term sort) h = refl
child_fits d nodes names _ _ h = absurd h

children_fit : (d : Def) (nodes : List TermNode) (names : ℕ) (vars : List Var) (g : Sorts) (env : Env Flow) (cs : List Child) (args : List ArgSort) → env_fits g env ≡ true → ChildrenFit d nodes names cs args →
    env_fits (define g vars (map (λ a. Some (arg_sort a)) args)) (bind_children env vars cs) ≡ true
children_fit d nodes names [] g env cs args h f = h
children_fit d nodes names (v ∷ vars) g env [] [] h f = h
children_fit d nodes names (v ∷ vars) g env [] (a ∷ args) h f = absurd f
children_fit d nodes names (v ∷ vars) g env (c ∷ cs) [] h f = absurd f
children_fit d nodes names (v ∷ vars) g env (c ∷ cs) (a ∷ args) h f =
    children_fit d nodes names vars _ _ cs args (set_fits g env v.0 (Some (arg_sort a)) (Some (entry_of_child c)) h (child_fits d nodes names c a f.0)) f.1

nothing_fits : (vars : List (List ℕ)) → env_fits (map (λ v. None) vars) (replicate (length vars) None) ≡ true
nothing_fits [] = refl
nothing_fits (v ∷ vars) = nothing_fits vars

value_of : (names : ℕ) (sort : FlowSort) (v : Flow) → has_sort names sort v ≡ true → is_of sort v ≡ true
value_of names FlowSort.Int (Flow.Int z) h = refl
value_of names FlowSort.Int (Flow.Bool b) h = absurd cc
value_of names FlowSort.Int (Flow.Val x) h = absurd cc
value_of names FlowSort.Int (Flow.Store s) h = absurd cc
value_of names FlowSort.Bool (Flow.Int z) h = absurd cc
value_of names FlowSort.Bool (Flow.Bool b) h = refl
value_of names FlowSort.Bool (Flow.Val x) h = absurd cc
value_of names FlowSort.Bool (Flow.Store s) h = absurd cc
value_of names FlowSort.Val (Flow.Int z) h = absurd cc
value_of names FlowSort.Val (Flow.Bool b) h = absurd cc
value_of names FlowSort.Val (Flow.Val x) h = refl
value_of names FlowSort.Val (Flow.Store s) h = absurd cc
value_of names FlowSort.Store (Flow.Int z) h = absurd cc
value_of names FlowSort.Store (Flow.Bool b) h = absurd cc
value_of names FlowSort.Store (Flow.Val x) h = absurd cc
value_of names FlowSort.Store (Flow.Store s) h = refl

values_of : (names : ℕ) (sorts : List FlowSort) (vs : Values) → have_sorts names sorts vs ≡ true → are_of sorts vs ≡ true
values_of names [] [] h = refl
values_of names [] (v ∷ vs) h = absurd cc
values_of names (sort ∷ sorts) [] h = absurd cc
values_of names (sort ∷ sorts) (v ∷ vs) h = let k = and_parts _ _ h in and_from _ _ (value_of names sort v k.0) (values_of names sorts vs k.1)

pub start_env_fits : (d : Def) (nodes : List TermNode) (names : ℕ) (rule : Rule) (hook : Hook) (con : Con) (children : List Child) (ins : Values) → ChildrenFit d nodes names children con.args → have_sorts names hook.inputs ins ≡ true →
    env_fits (header_sorts rule hook con) (gain (bind_children (replicate (length rule.vars) None) rule.terms children) rule.inputs ins) ≡ true
start_env_fits d nodes names rule hook con children ins f h =
    gain_fits rule.inputs _ _ (map (λ s. Some (VarSort.Flow s)) hook.inputs) ins
    (children_fit d nodes names rule.terms (nothing rule) (replicate (length rule.vars) None) children con.args (nothing_fits rule.vars) f)
    (flows_from_sorts hook.inputs ins (values_of names hook.inputs ins h))
