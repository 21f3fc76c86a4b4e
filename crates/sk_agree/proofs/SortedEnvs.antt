-- Environments whose entries have the sorts of their variables, and no empty part.
use Rattle.std.proofs.Common.{◌≡◌, ℕ, zero, suc, true, List, [], ◌∷◌, length, map, filter_map, replicate, Option, Some, None, refl, sym, ap, subst}
use Rattle.std.specs.Prelude.{slice_get, slice_set, slice_index_or, unwrap_or}
use Rattle.std.specs.List.{AllZip}
use Rattle.std.specs.Option.{option_map, option_and_then}
use Rattle.std.proofs.lemmas.Bool.{and_parts, and_from, false≢true}
use Rattle.std.proofs.lemmas.Option.{none-some, same_Some}
use Rattle.sk_base.specs.declared.flow.FlowSort.{FlowSort}
use Rattle.sk_def.specs.declared.ids.Var.{Var}
use Rattle.sk_def.specs.declared.sorts.ArgSort.{ArgSort}
use Rattle.sk_def.specs.declared.sorts.ArgSort.TheVariants as arg
use Rattle.sk_def.specs.declared.sorts.VarSort.{VarSort}
use Rattle.sk_def.specs.declared.sorts.VarSort.TheVariants as variable
use Rattle.sk_def.specs.declared.filter.Filter.{Filter}
use Rattle.sk_def.specs.declared.def.Rule.{Rule}
use Rattle.sk_def.specs.declared.def.Hook.{Hook}
use Rattle.sk_def.specs.declared.def.Con.{Con}
use Rattle.sk_def.specs.declared.def.Def.{Def}
use Rattle.sk_def.specs.Signatures.{parameters, results}
use Rattle.sk_def.specs.Sorts.{Sorts, sort_of, define, HaveSorts}
use Rattle.sk_sort.specs.Rules.{arg_sort, nothing, header_sorts}
use Rattle.sk_term.specs.declared.node.Child.{Child}
use Rattle.sk_term.specs.declared.node.TermNode.{TermNode}
use Rattle.sk_term.specs.Program.{ChildFits, ChildrenFit}
use Rattle.sk_deriv.specs.declared.entry.Entry.{Entry}
use Rattle.sk_deriv.specs.Env.{entry_of, flow_in, entry_of_child, all_of, args_at, values_at, gain, bind_children, start_of}
use Rattle.sk_lattice.specs.declared.flow.AbsFlow.{AbsFlow}
use Rattle.sk_lattice.specs.Domain.{Domain}
use Rattle.sk_lattice.specs.Empty.{flow_is_proper, is_proper}
use Rattle.sk_lattice.specs.Shapes.{flow_has_sort, has_sorts, ShapeLaws}
use Rattle.sk_lattice.specs.Merge.{Join, flow_merge, tuple_merge}
use Rattle.sk_lattice.specs.Laws.{TupleLaws}
use Rattle.sk_absfilter.specs.declared.arg.AbsArg.{AbsArg}
use Rattle.sk_absfilter.specs.Abstract.{Outcome, abstract_result}
use Rattle.sk_absfilter.specs.Fits.{arg_has_sort, args_have_sorts, outcome_has_sorts, FiltersKeepSorts}
use Rattle.sk_absfilter.proofs.ProperResults.{result_proper}
use Rattle.sk_abswalk.specs.Walk.{AbsEnv, Flows, argument_in}
use Rattle.sk_constr.specs.Positions.{flow_sort, exported_sorts}
use Rattle.sk_solve.specs.Solves.{outcome_fits}
use Rattle.sk_agree.proofs.Relations.{zip_set, zip_from_map, test_from_zip, IfThere}

-- where both are there, the relation holds of them
abbrev pub Both : {A B : Type 0} → (A → B → Type 0) → Option A → Option B → Type 0
Both R None p = Unit {0}
Both R (Some x) None = Unit {0}
Both R (Some x) (Some y) = R x y

both_at : {A B : Type 0} (R : A → B → Type 0) (xs : List (Option A)) (ys : List (Option B)) (i : ℕ) → AllZip (Both R) xs ys → Both R (slice_index_or xs i None) (unwrap_or (slice_get ys i) None)
both_at R [] ys i h = tt
both_at R (x ∷ xs) [] i h = absurd h
both_at R (x ∷ xs) (y ∷ ys) zero h = h.0
both_at R (x ∷ xs) (y ∷ ys) (suc i) h = both_at R xs ys i h.1

-- what all of them give, the first and the others
pub record AllParts {A B : Type 0} (f : A → Option B) (x : A) (xs : List A) (ys : List B) : Type 0 where
  pub first : B
  pub rest : List B
  pub first_is : f x ≡ Some first
  pub rest_is : all_of f xs ≡ Some rest
  pub are : ys ≡ first ∷ rest

pub all_parts : {A B : Type 0} (f : A → Option B) (x : A) (xs : List A) (ys : List B) → all_of f (x ∷ xs) ≡ Some ys → AllParts f x xs ys
all_parts {A} {B} f x xs ys e = at (f x) (all_of f xs) refl refl e
  where
    at : (o : Option B) (os : Option (List B)) → f x ≡ o → all_of f xs ≡ os → option_and_then (λ y. option_map (λ ys. y ∷ ys) os) o ≡ Some ys → AllParts f x xs ys
    at None os k l e = absurd cc
    at (Some y) None k l e = absurd cc
    at (Some y) (Some zs) k l e = record { first = y; rest = zs; first_is = k; rest_is = l; are = cc }

pub map_flows : (sorts : List FlowSort) → map (λ f. Some (variable.Flow f)) sorts ≡ map Some (map variable.Flow sorts)
map_flows [] = refl
map_flows (f ∷ sorts) = ap (λ l. Some (variable.Flow f) ∷ l) (map_flows sorts)

module _ (D : Type 0) (d : Domain D) (names : ℕ) where
  -- an entry has a sort, and a value no empty part
  abbrev pub EntryFits : VarSort → Entry (AbsFlow D) → Type 0
  EntryFits variable.Number (Entry.Number z) = Unit {0}
  EntryFits variable.Name (Entry.Name n) = Unit {0}
  EntryFits (variable.Term t) (Entry.Point p) = Unit {0}
  EntryFits (variable.Flow f) (Entry.Flow a) = (flow_has_sort names f a ≡ true) × (flow_is_proper d a ≡ true)
  EntryFits _ _ = ⊥

  abbrev pub EnvFits : Sorts → AbsEnv D → Type 0
  EnvFits = AllZip (Both EntryFits)

  -- values have the sorts of variables
  abbrev pub FlowsFit : List VarSort → Flows D → Type 0
  FlowsFit = AllZip (λ sort a. EntryFits sort (Entry.Flow a))

  -- Arguments and values of variables.

  arg_fits : (sort : VarSort) (e : Entry (AbsFlow D)) (x : AbsArg D) → EntryFits sort e → argument_in e ≡ Some x → arg_has_sort names sort x ≡ true
  arg_fits variable.Number (Entry.Number z) x h e = subst (λ y. arg_has_sort names variable.Number y ≡ true) (same_Some (AbsArg.Number z) x e) refl
  arg_fits variable.Name (Entry.Name n) x h e = subst (λ y. arg_has_sort names variable.Name y ≡ true) (same_Some (AbsArg.Name n) x e) refl
  arg_fits (variable.Flow f) (Entry.Flow a) x h e = subst (λ y. arg_has_sort names (variable.Flow f) y ≡ true) (same_Some (AbsArg.Flow a) x e) h.0
  arg_fits (variable.Term t) (Entry.Point p) x h e = absurd (none-some x e)
  arg_fits _ _ x h e = absurd h

  value_fits : (sort : VarSort) (e : Entry (AbsFlow D)) (a : AbsFlow D) → EntryFits sort e → flow_in e ≡ Some a → EntryFits sort (Entry.Flow a)
  value_fits variable.Number (Entry.Number z) a h e = absurd (none-some a e)
  value_fits variable.Name (Entry.Name n) a h e = absurd (none-some a e)
  value_fits (variable.Term t) (Entry.Point p) a h e = absurd (none-some a e)
  value_fits (variable.Flow f) (Entry.Flow b) a h e = subst (λ c. EntryFits (variable.Flow f) (Entry.Flow c)) (same_Some b a e) h
  value_fits _ _ a h e = absurd h

  read_fits : {B : Type 0} (Q : VarSort → B → Type 0) (f : Entry (AbsFlow D) → Option B) → ((sort : VarSort) (e : Entry (AbsFlow D)) (x : B) → EntryFits sort e → f e ≡ Some x → Q sort x) →
      (sort : VarSort) (s : Option VarSort) (o : Option (Entry (AbsFlow D))) (x : B) → Both EntryFits s o → s ≡ Some sort → option_and_then f o ≡ Some x → Q sort x
  read_fits Q f step sort None o x h e k = absurd (none-some sort e)
  read_fits Q f step sort (Some s) None x h e k = absurd (none-some x k)
  read_fits Q f step sort (Some s) (Some y) x h e k = step sort y x (subst (λ z. EntryFits z y) (same_Some s sort e) h) k

  all_fit : {B : Type 0} (Q : VarSort → B → Type 0) (f : Entry (AbsFlow D) → Option B) → ((sort : VarSort) (e : Entry (AbsFlow D)) (x : B) → EntryFits sort e → f e ≡ Some x → Q sort x) →
      (g : Sorts) (env : AbsEnv D) → EnvFits g env → (vars : List Var) (sorts : List VarSort) (xs : List B) → AllZip (λ v sort. sort_of g v ≡ Some sort) vars sorts → args_at f env vars ≡ Some xs → AllZip Q sorts xs
  all_fit Q f step g env h [] [] [] z e = tt
  all_fit Q f step g env h [] [] (x ∷ xs) z e = absurd cc
  all_fit Q f step g env h [] (sort ∷ sorts) xs z e = absurd z
  all_fit Q f step g env h (v ∷ vars) [] xs z e = absurd z
  all_fit Q f step g env h (v ∷ vars) (sort ∷ sorts) xs z e =
      let p = all_parts (λ (v : Var). option_and_then f (entry_of env v)) v vars xs e in
      subst (AllZip Q (sort ∷ sorts)) (sym p.are)
      (read_fits Q f step sort (sort_of g v) (entry_of env v) p.first (both_at EntryFits g env v.0 h) z.0 p.first_is, all_fit Q f step g env h vars sorts p.rest z.1 p.rest_is)

  pub args_fit : (g : Sorts) (env : AbsEnv D) → EnvFits g env → (vars : List Var) (sorts : List VarSort) (xs : List (AbsArg D)) → HaveSorts g vars sorts → args_at argument_in env vars ≡ Some xs → args_have_sorts names sorts xs ≡ true
  args_fit g env h vars sorts xs s e =
      test_from_zip (arg_has_sort names) sorts xs (all_fit (λ sort x. arg_has_sort names sort x ≡ true) argument_in arg_fits g env h vars sorts xs (zip_from_map (sort_of g) vars sorts s) e)

  pub values_fit : (g : Sorts) (env : AbsEnv D) → EnvFits g env → (vars : List Var) (sorts : List VarSort) (xs : Flows D) → HaveSorts g vars sorts → values_at env vars ≡ Some xs → FlowsFit sorts xs
  values_fit g env h vars sorts xs s e = all_fit (λ sort a. EntryFits sort (Entry.Flow a)) flow_in value_fits g env h vars sorts xs (zip_from_map (sort_of g) vars sorts s) e

  -- Values that are gained.

  pub gain_fits : (vars : List Var) (g : Sorts) (env : AbsEnv D) (sorts : List VarSort) (flows : Flows D) → EnvFits g env → FlowsFit sorts flows → EnvFits (define g vars (map Some sorts)) (gain env vars flows)
  gain_fits [] g env sorts flows h f = h
  gain_fits (v ∷ vars) g env [] [] h f = h
  gain_fits (v ∷ vars) g env [] (a ∷ flows) h f = absurd f
  gain_fits (v ∷ vars) g env (sort ∷ sorts) [] h f = absurd f
  gain_fits (v ∷ vars) g env (sort ∷ sorts) (a ∷ flows) h f =
      gain_fits vars (slice_set g v.0 (Some sort)) (slice_set env v.0 (Some (Entry.Flow a))) sorts flows (zip_set (Both EntryFits) g env v.0 (Some sort) (Some (Entry.Flow a)) h f.0) f.1

  -- Values that fit, as tuples of the sorts of values.

  pub outcome_from_flows : (sorts : List VarSort) (flows : Flows D) → FlowsFit sorts flows → outcome_fits d names (filter_map flow_sort sorts) (Some flows) ≡ true
  outcome_from_flows sorts flows h = let p = go sorts flows h in and_from (has_sorts names (filter_map flow_sort sorts) flows) (is_proper d flows) p.0 p.1
    where
      go : (sorts : List VarSort) (flows : Flows D) → FlowsFit sorts flows → (has_sorts names (filter_map flow_sort sorts) flows ≡ true) × (is_proper d flows ≡ true)
      go [] [] h = (refl, refl)
      go [] (a ∷ flows) h = absurd h
      go (sort ∷ sorts) [] h = absurd h
      go (variable.Number ∷ sorts) (a ∷ flows) h = absurd h.0
      go (variable.Name ∷ sorts) (a ∷ flows) h = absurd h.0
      go (variable.Term t ∷ sorts) (a ∷ flows) h = absurd h.0
      go (variable.Flow f ∷ sorts) (a ∷ flows) h = let p = go sorts flows h.1 in (and_from _ _ h.0.0 p.0, and_from _ _ h.0.1 p.1)

  pub flows_from_outcome : (sorts : List FlowSort) (flows : Flows D) → outcome_fits d names sorts (Some flows) ≡ true → FlowsFit (map variable.Flow sorts) flows
  flows_from_outcome sorts flows e = let p = and_parts (has_sorts names sorts flows) (is_proper d flows) e in go sorts flows p.0 p.1
    where
      go : (sorts : List FlowSort) (flows : Flows D) → has_sorts names sorts flows ≡ true → is_proper d flows ≡ true → FlowsFit (map variable.Flow sorts) flows
      go [] [] h k = tt
      go [] (a ∷ flows) h k = absurd (false≢true h)
      go (f ∷ sorts) [] h k = absurd (false≢true h)
      go (f ∷ sorts) (a ∷ flows) h k = let p = and_parts _ _ h in let q = and_parts _ _ k in ((p.0, q.0), go sorts flows p.1 q.1)

  args_are_flows : (sorts : List VarSort) (flows : Flows D) → args_have_sorts names sorts (map AbsArg.Flow flows) ≡ true → is_proper d flows ≡ true → FlowsFit sorts flows
  args_are_flows [] [] h k = tt
  args_are_flows [] (a ∷ flows) h k = absurd (false≢true h)
  args_are_flows (sort ∷ sorts) [] h k = absurd (false≢true h)
  args_are_flows (sort ∷ sorts) (a ∷ flows) h k =
      let p = and_parts (arg_has_sort names sort (AbsArg.Flow a)) (args_have_sorts names sorts (map AbsArg.Flow flows)) h in
      let q = and_parts (flow_is_proper d a) (is_proper d flows) k in
      (one sort p.0 q.0, args_are_flows sorts flows p.1 q.1)
    where
      one : (sort : VarSort) → arg_has_sort names sort (AbsArg.Flow a) ≡ true → flow_is_proper d a ≡ true → EntryFits sort (Entry.Flow a)
      one variable.Number h k = absurd (false≢true h)
      one variable.Name h k = absurd (false≢true h)
      one (variable.Term t) h k = absurd (false≢true h)
      one (variable.Flow f) h k = (h, k)

  -- a filter's result has the sorts of its results
  pub result_fits : FiltersKeepSorts d → (filter : Filter) (args : List (AbsArg D)) → args_have_sorts names (parameters filter) args ≡ true → IfThere (FlowsFit (results filter)) (abstract_result d filter names args)
  result_fits keep filter args h = at (abstract_result d filter names args) refl (keep filter names args h)
    where
      at : (o : Outcome D) → abstract_result d filter names args ≡ o → outcome_has_sorts names (results filter) o ≡ true → IfThere (FlowsFit (results filter)) o
      at None e k = tt
      at (Some flows) e k = args_are_flows (results filter) flows k (result_proper D d filter names args flows e)

  -- Joins.

  pub merge_fits : TupleLaws d → ShapeLaws d → (sorts : List VarSort) (xs ys : Flows D) → FlowsFit sorts xs → FlowsFit sorts ys → FlowsFit sorts (tuple_merge d Join xs ys)
  merge_fits tuples shapes [] [] [] h k = tt
  merge_fits tuples shapes [] [] (y ∷ ys) h k = absurd k
  merge_fits tuples shapes [] (x ∷ xs) ys h k = absurd h
  merge_fits tuples shapes (sort ∷ sorts) [] ys h k = absurd h
  merge_fits tuples shapes (sort ∷ sorts) (x ∷ xs) [] h k = absurd k
  merge_fits tuples shapes (sort ∷ sorts) (x ∷ xs) (y ∷ ys) h k = (one sort h.0 k.0, merge_fits tuples shapes sorts xs ys h.1 k.1)
    where
      one : (sort : VarSort) → EntryFits sort (Entry.Flow x) → EntryFits sort (Entry.Flow y) → EntryFits sort (Entry.Flow (flow_merge d Join x y))
      one variable.Number p q = absurd p
      one variable.Name p q = absurd p
      one (variable.Term t) p q = absurd p
      one (variable.Flow f) p q =
          let left : has_sorts names (f ∷ []) (x ∷ []) ≡ true = and_from (flow_has_sort names f x) true p.0 refl in
          let right : has_sorts names (f ∷ []) (y ∷ []) ≡ true = and_from (flow_has_sort names f y) true q.0 refl in
          let fit = shapes.sorts_fit names (f ∷ []) (x ∷ []) (y ∷ []) left right in (
            (and_parts (flow_has_sort names f (flow_merge d Join x y)) true (shapes.join_sorts names (f ∷ []) (x ∷ []) (y ∷ []) left right)).0,
            (and_parts (flow_is_proper d (flow_merge d Join x y)) true (tuples.proper_more (x ∷ []) (flow_merge d Join x y ∷ []) (tuples.join_left (x ∷ []) (y ∷ []) fit) (and_from (flow_is_proper d x) true p.1 refl))).0,
          )

  -- The environment that a rule starts from.

  child_fits : (def : Def) (nodes : List TermNode) (n : ℕ) (c : Child) (a : ArgSort) → ChildFits def nodes n c a → EntryFits (arg_sort a) (entry_of_child c)
  child_fits def nodes n (Child.Number z) arg.Number h = tt
  child_fits def nodes n (Child.Name m) arg.Name h = tt
  child_fits def nodes n (Child.Point p) (arg.Term sort) h = tt
  child_fits def nodes n _ _ h = absurd h

  children_fit : (def : Def) (nodes : List TermNode) (n : ℕ) (vars : List Var) (g : Sorts) (env : AbsEnv D) (cs : List Child) (args : List ArgSort) → EnvFits g env → ChildrenFit def nodes n cs args → EnvFits (define g vars (map (λ a. Some (arg_sort a)) args)) (bind_children env vars cs)
  children_fit def nodes n [] g env cs args h f = h
  children_fit def nodes n (v ∷ vars) g env [] [] h f = h
  children_fit def nodes n (v ∷ vars) g env [] (a ∷ args) h f = absurd f
  children_fit def nodes n (v ∷ vars) g env (c ∷ cs) [] h f = absurd f
  children_fit def nodes n (v ∷ vars) g env (c ∷ cs) (a ∷ args) h f =
      children_fit def nodes n vars (slice_set g v.0 (Some (arg_sort a))) (slice_set env v.0 (Some (entry_of_child c))) cs args (zip_set (Both EntryFits) g env v.0 (Some (arg_sort a)) (Some (entry_of_child c)) h (child_fits def nodes n c a f.0)) f.1

  nothing_fits : (vars : List (List ℕ)) → EnvFits (map (λ v. None) vars) (replicate (length vars) None)
  nothing_fits [] = tt
  nothing_fits (v ∷ vars) = (tt, nothing_fits vars)

  pub start_fits : (def : Def) (nodes : List TermNode) (n : ℕ) (rule : Rule) (hook : Hook) (con : Con) (node : TermNode) (ins : Flows D) → ChildrenFit def nodes n node.children con.args → outcome_fits d names hook.inputs (Some ins) ≡ true → EnvFits (header_sorts rule hook con) (start_of rule node ins)
  start_fits def nodes n rule hook con node ins f h =
      let bound : EnvFits (define (nothing rule) rule.terms (map (λ a. Some (arg_sort a)) con.args)) (bind_children (replicate (length rule.vars) None) rule.terms node.children) =
      children_fit def nodes n rule.terms (nothing rule) (replicate (length rule.vars) None) node.children con.args (nothing_fits rule.vars) f in
      subst (λ sorts. EnvFits (define (define (nothing rule) rule.terms (map (λ a. Some (arg_sort a)) con.args)) rule.inputs sorts) (start_of rule node ins)) (sym (map_flows hook.inputs))
      (gain_fits rule.inputs _ _ (map variable.Flow hook.inputs) ins bound (flows_from_outcome hook.inputs ins h))

-- the sorts of exported values
pub exported_are : (g : Sorts) (vars : List Var) (sorts : List VarSort) → HaveSorts g vars sorts → exported_sorts g vars ≡ filter_map flow_sort sorts
exported_are g vars sorts h = go vars sorts (zip_from_map (sort_of g) vars sorts h)
  where
    go : (vars : List Var) (sorts : List VarSort) → AllZip (λ v sort. sort_of g v ≡ Some sort) vars sorts → exported_sorts g vars ≡ filter_map flow_sort sorts
    go [] [] z = refl
    go [] (sort ∷ sorts) z = absurd z
    go (v ∷ vars) [] z = absurd z
    go (v ∷ vars) (sort ∷ sorts) z = let rest = go vars sorts z.1 in rw (z.0, rest) refl
