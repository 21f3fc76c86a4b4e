-- Environments whose entries have the sorts of the variables.
use Rattle.std.proofs.Common.{◌≡◌, ℕ, zero, suc, true, List, [], ◌∷◌, length, map, replicate, Option, Some, None, refl, ap, sym, subst}
use Rattle.std.specs.Prelude.{slice_get, slice_index_or, unwrap_or}
use Rattle.std.specs.List.{AllByRecursion, AllZip}
use Rattle.std.specs.Option.{option_map, option_and_then}
use Rattle.sk_base.specs.declared.flow.FlowSort.{FlowSort}
use Rattle.sk_def.specs.declared.ids.Var.{Var}
use Rattle.sk_def.specs.declared.ids.SortId.{SortId}
use Rattle.sk_def.specs.declared.sorts.ArgSort.{ArgSort}
use Rattle.sk_def.specs.declared.sorts.ArgSort.TheVariants as arg
use Rattle.sk_def.specs.declared.sorts.VarSort.{VarSort}
use Rattle.sk_def.specs.declared.sorts.VarSort.TheVariants as variable
use Rattle.sk_def.specs.declared.filter.Filter.{Filter}
use Rattle.sk_def.specs.declared.bone.Target.{Target}
use Rattle.sk_def.specs.declared.def.Rule.{Rule}
use Rattle.sk_def.specs.declared.def.Hook.{Hook}
use Rattle.sk_def.specs.declared.def.Con.{Con}
use Rattle.sk_def.specs.Signatures.{parameters}
use Rattle.sk_def.specs.Sorts.{Sorts, sort_of, define, HaveSorts, target_sort}
use Rattle.sk_sort.specs.Rules.{arg_sort, nothing, header_sorts}
use Rattle.sk_term.specs.declared.node.Child.{Child}
use Rattle.sk_term.specs.declared.node.TermNode.{TermNode}
use Rattle.sk_term.specs.Program.{IsSortOfPoint, ChildFits, ChildrenFit}
use Rattle.sk_deriv.specs.declared.entry.Entry.{Entry}
use Rattle.sk_deriv.specs.Env.{entry_of, flow_in, point_in, entry_of_child, all_of, args_at, values_at, target_at, gain, bind_children, start_of}
use Rattle.sk_deriv.specs.Moves.{Setting}
use Rattle.sk_lattice.specs.declared.flow.AbsFlow.{AbsFlow}
use Rattle.sk_lattice.specs.Shapes.{flow_has_sort, has_sorts}
use Rattle.sk_abswalk.specs.Walk.{AbsEnv, Flows, argument_in}
use Rattle.sk_abswalk.proofs.Relations.{zip_set, zip_from_test, test_from_zip, Matches, Has}
use Rattle.sk_abswalk.proofs.FilterSorts.{FlowFits, FlowsFit, ArgFits}

-- an entry has the sort of its variable
abbrev pub EntryFits : {D : Type 0} → Setting → VarSort → Entry (AbsFlow D) → Type 0
EntryFits s variable.Number (Entry.Number z) = Unit {0}
EntryFits s variable.Name (Entry.Name n) = Unit {0}
EntryFits s (variable.Term sort) (Entry.Point p) = IsSortOfPoint s.def s.nodes p sort
EntryFits s (variable.Flow sort) (Entry.Flow a) = flow_has_sort s.names sort a ≡ true
EntryFits s _ _ = ⊥

-- each variable that has a sort is defined, and has it
abbrev pub EnvFits : {D : Type 0} → Setting → Sorts → AbsEnv D → Type 0
EnvFits s = AllZip (Matches (EntryFits s))

-- Lists of variables with their sorts.

zip_from_map : {A B : Type 0} (f : A → Option B) (xs : List A) (ys : List B) → map f xs ≡ map Some ys → AllZip (λ x y. f x ≡ Some y) xs ys
zip_from_map f [] [] e = tt
zip_from_map f [] (y ∷ ys) e = absurd cc
zip_from_map f (x ∷ xs) [] e = absurd cc
zip_from_map f (x ∷ xs) (y ∷ ys) e = let first : f x ≡ Some y = cc in let rest : map f xs ≡ map Some ys = cc in (first, zip_from_map f xs ys rest)

has_all : {A B C : Type 0} (Q : C → B → Type 0) (f : A → Option B) (xs : List A) (ss : List C) → AllZip (λ x s. Has (Q s) (f x)) xs ss → Has (AllZip Q ss) (all_of f xs)
has_all Q f [] [] h = tt
has_all Q f [] (s ∷ ss) h = absurd h
has_all Q f (x ∷ xs) [] h = absurd h
has_all Q f (x ∷ xs) (s ∷ ss) h = both (f x) (all_of f xs) h.0 (has_all Q f xs ss h.1)
  where
    both : (o : Option _) (os : Option (List _)) → Has (Q s) o → Has (AllZip Q ss) os → Has (AllZip Q (s ∷ ss)) (option_and_then (λ y. option_map (λ ys. y ∷ ys) os) o)
    both None os a b = absurd a
    both (Some y) None a b = absurd b
    both (Some y) (Some ys) a b = (a, b)

then_has : {A B : Type 0} (P : A → Type 0) (Q : B → Type 0) (f : A → Option B) → ((x : A) → P x → Has Q (f x)) → (o : Option A) → Has P o → Has Q (option_and_then f o)
then_has P Q f step None h = absurd h
then_has P Q f step (Some x) h = step x h

-- the sorts of values, and those of arguments
abbrev pub IsFlowSort : VarSort → Type 0
IsFlowSort variable.Number = ⊥
IsFlowSort variable.Name = ⊥
IsFlowSort (variable.Term t) = ⊥
IsFlowSort (variable.Flow f) = Unit {0}

abbrev IsArgSort : VarSort → Type 0
IsArgSort variable.Number = Unit {0}
IsArgSort variable.Name = Unit {0}
IsArgSort (variable.Term t) = ⊥
IsArgSort (variable.Flow f) = Unit {0}

parameters_are_args : (filter : Filter) → AllByRecursion IsArgSort (parameters filter)
parameters_are_args Filter.Lit = (tt, tt)
parameters_are_args Filter.Zero = tt
parameters_are_args Filter.One = tt
parameters_are_args Filter.Yes = tt
parameters_are_args Filter.No = tt
parameters_are_args Filter.Add = (tt, (tt, tt))
parameters_are_args Filter.Sub = (tt, (tt, tt))
parameters_are_args Filter.Mul = (tt, (tt, tt))
parameters_are_args Filter.Neg = (tt, tt)
parameters_are_args Filter.Div = (tt, (tt, tt))
parameters_are_args Filter.Rem = (tt, (tt, tt))
parameters_are_args Filter.Lt = (tt, (tt, tt))
parameters_are_args Filter.Le = (tt, (tt, tt))
parameters_are_args Filter.Eq = (tt, (tt, tt))
parameters_are_args Filter.Not = (tt, tt)
parameters_are_args Filter.And = (tt, (tt, tt))
parameters_are_args Filter.Or = (tt, (tt, tt))
parameters_are_args Filter.IsTrue = (tt, tt)
parameters_are_args Filter.IsFalse = (tt, tt)
parameters_are_args Filter.IsZero = (tt, tt)
parameters_are_args Filter.NonZero = (tt, tt)
parameters_are_args Filter.IsPos = (tt, tt)
parameters_are_args Filter.IsNeg = (tt, tt)
parameters_are_args Filter.Below = (tt, (tt, tt))
parameters_are_args Filter.AtLeast = (tt, (tt, tt))
parameters_are_args Filter.Same = (tt, (tt, tt))
parameters_are_args Filter.Differ = (tt, (tt, tt))
parameters_are_args Filter.OfInt = (tt, tt)
parameters_are_args Filter.OfBool = (tt, tt)
parameters_are_args Filter.AsInt = (tt, tt)
parameters_are_args Filter.AsBool = (tt, tt)
parameters_are_args Filter.Empty = tt
parameters_are_args Filter.Read = (tt, (tt, tt))
parameters_are_args Filter.Write = (tt, (tt, (tt, tt)))
parameters_are_args Filter.Forget = (tt, (tt, tt))
parameters_are_args Filter.Bound = (tt, (tt, tt))
parameters_are_args Filter.KeepInt = (tt, tt)
parameters_are_args Filter.KeepBool = (tt, tt)
parameters_are_args Filter.KeepVal = (tt, tt)
parameters_are_args Filter.KeepStore = (tt, tt)
parameters_are_args Filter.AnyBool = tt
parameters_are_args Filter.Pick = (tt, (tt, tt))

pub map_flows : (sorts : List FlowSort) → map (λ f. Some (variable.Flow f)) sorts ≡ map Some (map variable.Flow sorts)
map_flows [] = refl
map_flows (f ∷ sorts) = ap (λ l. Some (variable.Flow f) ∷ l) (map_flows sorts)

pub all_flows : (sorts : List FlowSort) → AllByRecursion IsFlowSort (map variable.Flow sorts)
all_flows [] = tt
all_flows (f ∷ sorts) = (tt, all_flows sorts)

module _ (D : Type 0) (s : Setting) where
  entry_at : (g : Sorts) (env : AbsEnv D) (i : ℕ) → EnvFits s g env → Matches (EntryFits s) (slice_index_or g i None) (unwrap_or (slice_get env i) None)
  entry_at [] [] i h = tt
  entry_at [] (e ∷ env) i h = absurd h
  entry_at (x ∷ g) [] i h = absurd h
  entry_at (x ∷ g) (e ∷ env) zero h = h.0
  entry_at (x ∷ g) (e ∷ env) (suc i) h = entry_at g env i h.1

  -- a variable of this sort has an entry of it
  pub entry_there : (g : Sorts) (env : AbsEnv D) (v : Var) (sort : VarSort) → EnvFits s g env → sort_of g v ≡ Some sort → Has (EntryFits s sort) (entry_of env v)
  entry_there g env v sort h e = there (sort_of g v) (entry_of env v) (entry_at g env v.0 h) e
    where
      there : (x : Option VarSort) (o : Option (Entry (AbsFlow D))) → Matches (EntryFits s) x o → x ≡ Some sort → Has (EntryFits s sort) o
      there None o m e = absurd cc
      there (Some x) None m e = absurd m
      there (Some x) (Some y) m e = let same : x ≡ sort = cc in subst (λ x. EntryFits s x y) same m

  flow_there : (sort : VarSort) → IsFlowSort sort → (e : Entry (AbsFlow D)) → EntryFits s sort e → Has (FlowFits s.names sort) (flow_in e)
  flow_there variable.Number k e h = absurd k
  flow_there variable.Name k e h = absurd k
  flow_there (variable.Term t) k e h = absurd k
  flow_there (variable.Flow f) k (Entry.Number z) h = absurd h
  flow_there (variable.Flow f) k (Entry.Name n) h = absurd h
  flow_there (variable.Flow f) k (Entry.Point p) h = absurd h
  flow_there (variable.Flow f) k (Entry.Flow a) h = h

  arg_there : (sort : VarSort) → IsArgSort sort → (e : Entry (AbsFlow D)) → EntryFits s sort e → Has (ArgFits s.names sort) (argument_in e)
  arg_there (variable.Term t) k e h = absurd k
  arg_there variable.Number k (Entry.Number z) h = h
  arg_there variable.Name k (Entry.Name n) h = h
  arg_there (variable.Flow f) k (Entry.Flow a) h = h
  arg_there _ k _ h = absurd h

  all_there : {B : Type 0} (P : VarSort → Type 0) (Q : VarSort → B → Type 0) (f : Entry (AbsFlow D) → Option B) → ((sort : VarSort) → P sort → (e : Entry (AbsFlow D)) → EntryFits s sort e → Has (Q sort) (f e)) →
      (g : Sorts) (env : AbsEnv D) → EnvFits s g env → (vars : List Var) (sorts : List VarSort) → AllByRecursion P sorts → AllZip (λ v sort. sort_of g v ≡ Some sort) vars sorts → AllZip (λ v sort. Has (Q sort) (option_and_then f (entry_of env v))) vars sorts
  all_there P Q f step g env h [] [] p z = tt
  all_there P Q f step g env h [] (sort ∷ sorts) p z = absurd z
  all_there P Q f step g env h (v ∷ vars) [] p z = absurd z
  all_there P Q f step g env h (v ∷ vars) (sort ∷ sorts) p z =
      (then_has (EntryFits s sort) (Q sort) f (step sort p.0) (entry_of env v) (entry_there g env v sort h z.0), all_there P Q f step g env h vars sorts p.1 z.1)

  -- variables of flow sorts have values of these sorts
  pub values_there : (g : Sorts) (env : AbsEnv D) → EnvFits s g env → (vars : List Var) (sorts : List VarSort) → AllByRecursion IsFlowSort sorts → HaveSorts g vars sorts → Has (FlowsFit s.names sorts) (values_at env vars)
  values_there g env h vars sorts p e =
      has_all (FlowFits s.names) _ vars sorts (all_there IsFlowSort (FlowFits s.names) flow_in flow_there g env h vars sorts p (zip_from_map (sort_of g) vars sorts e))

  -- a filter's arguments are there, with its parameters' sorts
  pub args_there : (g : Sorts) (env : AbsEnv D) → EnvFits s g env → (filter : Filter) (vars : List Var) → HaveSorts g vars (parameters filter) → Has (AllZip (ArgFits s.names) (parameters filter)) (args_at argument_in env vars)
  args_there g env h filter vars e =
      has_all (ArgFits s.names) _ vars (parameters filter) (all_there IsArgSort (ArgFits s.names) argument_in arg_there g env h vars (parameters filter) (parameters_are_args filter) (zip_from_map (sort_of g) vars (parameters filter) e))

  point_there : (sort : SortId) (e : Entry (AbsFlow D)) → EntryFits s (variable.Term sort) e → Has (λ p. IsSortOfPoint s.def s.nodes p sort) (point_in e)
  point_there sort (Entry.Number z) h = absurd h
  point_there sort (Entry.Name n) h = absurd h
  point_there sort (Entry.Flow a) h = absurd h
  point_there sort (Entry.Point p) h = h

  -- the point of a target has its sort
  pub target_there : (g : Sorts) (env : AbsEnv D) → EnvFits s g env → (own : SortId) (point : ℕ) → IsSortOfPoint s.def s.nodes point own → (target : Target) (sort : SortId) → target_sort own g target ≡ Some (variable.Term sort) → Has (λ p. IsSortOfPoint s.def s.nodes p sort) (target_at point env target)
  target_there g env h own point is Target.Own sort e = let same : own ≡ sort = cc in subst (IsSortOfPoint s.def s.nodes point) same is
  target_there g env h own point is (Target.Sub v) sort e =
      then_has (EntryFits s (variable.Term sort)) (λ p. IsSortOfPoint s.def s.nodes p sort) point_in (point_there sort) (entry_of env v) (entry_there g env v (variable.Term sort) h e)

  -- Values that are gained.

  entry_from_flow : (sort : VarSort) (a : AbsFlow D) → FlowFits s.names sort a → EntryFits s sort (Entry.Flow a)
  entry_from_flow variable.Number a h = absurd h
  entry_from_flow variable.Name a h = absurd h
  entry_from_flow (variable.Term t) a h = absurd h
  entry_from_flow (variable.Flow f) a h = h

  pub gain_fits : (vars : List Var) (g : Sorts) (env : AbsEnv D) (sorts : List VarSort) (flows : Flows D) → EnvFits s g env → FlowsFit s.names sorts flows → EnvFits s (define g vars (map Some sorts)) (gain env vars flows)
  gain_fits [] g env sorts flows h f = h
  gain_fits (v ∷ vars) g env [] [] h f = h
  gain_fits (v ∷ vars) g env [] (a ∷ flows) h f = absurd f
  gain_fits (v ∷ vars) g env (sort ∷ sorts) [] h f = absurd f
  gain_fits (v ∷ vars) g env (sort ∷ sorts) (a ∷ flows) h f =
      gain_fits vars _ _ sorts flows (zip_set (Matches (EntryFits s)) g env v.0 (Some sort) (Some (Entry.Flow a)) h (entry_from_flow sort a f.0)) f.1

  pub fit_from_sorts : (sorts : List FlowSort) (flows : Flows D) → has_sorts s.names sorts flows ≡ true → FlowsFit s.names (map variable.Flow sorts) flows
  fit_from_sorts sorts flows h = go sorts flows (zip_from_test (flow_has_sort s.names) sorts flows h)
    where
      go : (sorts : List FlowSort) (flows : Flows D) → AllZip (λ f a. flow_has_sort s.names f a ≡ true) sorts flows → FlowsFit s.names (map variable.Flow sorts) flows
      go [] [] h = tt
      go [] (a ∷ flows) h = absurd h
      go (f ∷ sorts) [] h = absurd h
      go (f ∷ sorts) (a ∷ flows) h = (h.0, go sorts flows h.1)

  pub sorts_from_fit : (sorts : List FlowSort) (flows : Flows D) → FlowsFit s.names (map variable.Flow sorts) flows → has_sorts s.names sorts flows ≡ true
  sorts_from_fit sorts flows h = test_from_zip (flow_has_sort s.names) sorts flows (go sorts flows h)
    where
      go : (sorts : List FlowSort) (flows : Flows D) → FlowsFit s.names (map variable.Flow sorts) flows → AllZip (λ f a. flow_has_sort s.names f a ≡ true) sorts flows
      go [] [] h = tt
      go [] (a ∷ flows) h = absurd h
      go (f ∷ sorts) [] h = absurd h
      go (f ∷ sorts) (a ∷ flows) h = (h.0, go sorts flows h.1)

  -- The environment that a rule starts from.

  child_fits : (c : Child) (a : ArgSort) → ChildFits s.def s.nodes s.names c a → EntryFits {D = D} s (arg_sort a) (entry_of_child c)
  child_fits (Child.Number z) arg.Number h = tt
  child_fits (Child.Name n) arg.Name h = tt
  child_fits (Child.Point p) (arg.Term sort) h = h
  child_fits _ _ h = absurd h

  children_fit : (vars : List Var) (g : Sorts) (env : AbsEnv D) (cs : List Child) (args : List ArgSort) → EnvFits s g env → ChildrenFit s.def s.nodes s.names cs args → EnvFits s (define g vars (map (λ a. Some (arg_sort a)) args)) (bind_children env vars cs)
  children_fit [] g env cs args h f = h
  children_fit (v ∷ vars) g env [] [] h f = h
  children_fit (v ∷ vars) g env [] (a ∷ args) h f = absurd f
  children_fit (v ∷ vars) g env (c ∷ cs) [] h f = absurd f
  children_fit (v ∷ vars) g env (c ∷ cs) (a ∷ args) h f =
      children_fit vars _ _ cs args (zip_set (Matches (EntryFits s)) g env v.0 (Some (arg_sort a)) (Some (entry_of_child c)) h (child_fits c a f.0)) f.1

  nothing_fits : (vars : List (List ℕ)) → EnvFits {D = D} s (map (λ v. None) vars) (replicate (length vars) None)
  nothing_fits [] = tt
  nothing_fits (v ∷ vars) = (tt, nothing_fits vars)

  pub start_fits : (rule : Rule) (hook : Hook) (con : Con) (node : TermNode) (ins : Flows D) → ChildrenFit s.def s.nodes s.names node.children con.args → has_sorts s.names hook.inputs ins ≡ true → EnvFits s (header_sorts rule hook con) (start_of rule node ins)
  start_fits rule hook con node ins f h =
      let bound : EnvFits s (define (nothing rule) rule.terms (map (λ a. Some (arg_sort a)) con.args)) (bind_children (replicate (length rule.vars) None) rule.terms node.children) =
      children_fit rule.terms (nothing rule) (replicate (length rule.vars) None) node.children con.args (nothing_fits rule.vars) f in
      subst (λ sorts. EnvFits s (define (define (nothing rule) rule.terms (map (λ a. Some (arg_sort a)) con.args)) rule.inputs sorts) (start_of rule node ins)) (sym (map_flows hook.inputs))
      (gain_fits rule.inputs _ _ (map variable.Flow hook.inputs) ins bound (fit_from_sorts hook.inputs ins h))
