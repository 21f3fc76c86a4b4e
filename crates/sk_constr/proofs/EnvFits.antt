-- What the variables of a rule stand for has the sorts of the variables.
use Rattle.std.proofs.Common.{◌≡◌, ℕ, zero, suc, ◌+◌, ◌<◌, List, [], ◌∷◌, map, length, replicate, Option, Some, None, refl, sym, ◌∙◌, ap, subst, arith}
use Rattle.std.specs.Prelude.{slice_get, slice_set, slice_index_or, unwrap_or}
use Rattle.std.specs.List.{AllByRecursion, AllZip}
use Rattle.std.specs.Option.{option_and_then}
use Rattle.sk_base.specs.declared.flow.FlowSort.{FlowSort}
use Rattle.sk_def.specs.declared.ids.Var.{Var}
use Rattle.sk_def.specs.declared.ids.SortId.{SortId}
use Rattle.sk_def.specs.declared.def.Def.{Def}
use Rattle.sk_def.specs.declared.def.Rule.{Rule}
use Rattle.sk_def.specs.declared.def.Hook.{Hook}
use Rattle.sk_def.specs.declared.def.Con.{Con}
use Rattle.sk_def.specs.declared.bone.Target.{Target}
use Rattle.sk_def.specs.declared.filter.Filter.{Filter}
use Rattle.sk_def.specs.declared.sorts.ArgSort.{ArgSort}
use Rattle.sk_def.specs.declared.sorts.ArgSort.TheVariants as arg
use Rattle.sk_def.specs.declared.sorts.VarSort.{VarSort}
use Rattle.sk_def.specs.declared.sorts.VarSort.TheVariants as variable
use Rattle.sk_def.specs.Signatures.{parameters}
use Rattle.sk_def.specs.Sorts.{Sorts, sort_of, define, HaveSorts, target_sort}
use Rattle.sk_sort.specs.Rules.{nothing, header_sorts, arg_sort}
use Rattle.sk_term.specs.declared.node.Child.{Child}
use Rattle.sk_term.specs.declared.node.TermNode.{TermNode}
use Rattle.sk_term.specs.Program.{IsSortOfPoint, ChildFits, ChildrenFit}
use Rattle.sk_deriv.specs.declared.entry.Entry.{Entry}
use Rattle.sk_deriv.specs.Env.{entry_of, entry_of_child, point_in, target_at, gain, bind_children}
use Rattle.sk_constr.specs.declared.line.Place.{Place}
use Rattle.sk_constr.specs.declared.line.Operand.{Operand}
use Rattle.sk_constr.specs.Operands.{PlaceEnv, places_from, operand_in, operand_of, operands_at}
use Rattle.sk_constr.specs.Fits.{sort_at, OperandFits, OperandsFit}

-- what the first option has, the second has too, in this relation; what an option has
abbrev pub Matches : {A B : Type 0} → (A → B → Type 0) → Option A → Option B → Type 0
Matches R None p = Unit {0}
Matches R (Some x) None = ⊥
Matches R (Some x) (Some y) = R x y

abbrev pub Has : {A : Type 0} → (A → Type 0) → Option A → Type 0
Has P None = ⊥
Has P (Some x) = P x

zip_set : {A B : Type 0} (R : A → B → Type 0) (xs : List A) (ys : List B) (i : ℕ) (x : A) (y : B) → AllZip R xs ys → R x y → AllZip R (slice_set xs i x) (slice_set ys i y)
zip_set R [] [] i x y h r = tt
zip_set R [] (b ∷ ys) i x y h r = absurd h
zip_set R (a ∷ xs) [] i x y h r = absurd h
zip_set R (a ∷ xs) (b ∷ ys) zero x y h r = (r, h.1)
zip_set R (a ∷ xs) (b ∷ ys) (suc i) x y h r = (h.0, zip_set R xs ys i x y h.1 r)

then_has : {A B : Type 0} (P : A → Type 0) (Q : B → Type 0) (f : A → Option B) → ((x : A) → P x → Has Q (f x)) → (o : Option A) → Has P o → Has Q (option_and_then f o)
then_has P Q f step None h = absurd h
then_has P Q f step (Some x) h = step x h

-- the sorts of arguments, and of values
abbrev pub IsArgSort : VarSort → Type 0
IsArgSort variable.Number = Unit {0}
IsArgSort variable.Name = Unit {0}
IsArgSort (variable.Term t) = ⊥
IsArgSort (variable.Flow f) = Unit {0}

pub parameters_are_args : (filter : Filter) → AllByRecursion IsArgSort (parameters filter)
parameters_are_args Filter.Lit = (tt, tt)
parameters_are_args Filter.Zero = tt
parameters_are_args Filter.One = tt
parameters_are_args Filter.Yes = tt
parameters_are_args Filter.No = tt
parameters_are_args Filter.AnyBool = tt
parameters_are_args Filter.Empty = tt
parameters_are_args Filter.Neg = (tt, tt)
parameters_are_args Filter.Not = (tt, tt)
parameters_are_args Filter.IsTrue = (tt, tt)
parameters_are_args Filter.IsFalse = (tt, tt)
parameters_are_args Filter.IsZero = (tt, tt)
parameters_are_args Filter.NonZero = (tt, tt)
parameters_are_args Filter.IsPos = (tt, tt)
parameters_are_args Filter.IsNeg = (tt, tt)
parameters_are_args Filter.OfInt = (tt, tt)
parameters_are_args Filter.OfBool = (tt, tt)
parameters_are_args Filter.AsInt = (tt, tt)
parameters_are_args Filter.AsBool = (tt, tt)
parameters_are_args Filter.KeepInt = (tt, tt)
parameters_are_args Filter.KeepBool = (tt, tt)
parameters_are_args Filter.KeepVal = (tt, tt)
parameters_are_args Filter.KeepStore = (tt, tt)
parameters_are_args Filter.Write = (tt, (tt, (tt, tt)))
parameters_are_args _ = (tt, (tt, tt))

pub flows_are_args : (sorts : List FlowSort) → AllByRecursion IsArgSort (map VarSort.Flow sorts)
flows_are_args [] = tt
flows_are_args (f ∷ sorts) = (tt, flows_are_args sorts)

pub map_flows : (sorts : List FlowSort) → map (λ f. Some (variable.Flow f)) sorts ≡ map Some (map VarSort.Flow sorts)
map_flows [] = refl
map_flows (f ∷ sorts) = ap (λ l. Some (variable.Flow f) ∷ l) (map_flows sorts)

-- the operands of variables, where the first is one
one_operand : (env : PlaceEnv) (v : Var) (vars : List Var) (operand : Operand) → operand_of env v ≡ Some operand → operands_at env (v ∷ vars) ≡ operand ∷ operands_at env vars
one_operand env v vars operand e = rw e refl

module _ (d : Def) (nodes : List TermNode) (names : ℕ) (positions : List (List FlowSort)) where
  -- an entry has the sort of its variable
  abbrev pub EntryFits : VarSort → Entry Place → Type 0
  EntryFits variable.Number (Entry.Number z) = Unit {0}
  EntryFits variable.Name (Entry.Name n) = n < names
  EntryFits (variable.Term sort) (Entry.Point p) = IsSortOfPoint d nodes p sort
  EntryFits (variable.Flow sort) (Entry.Flow place) = sort_at positions place.position place.entry ≡ Some sort
  EntryFits _ _ = ⊥

  -- each variable that has a sort is defined, and has it
  abbrev pub EnvFits : Sorts → PlaceEnv → Type 0
  EnvFits = AllZip (Matches EntryFits)

  entry_at : (g : Sorts) (env : PlaceEnv) (i : ℕ) → EnvFits g env → Matches EntryFits (slice_index_or g i None) (unwrap_or (slice_get env i) None)
  entry_at [] [] i h = tt
  entry_at [] (e ∷ env) i h = absurd h
  entry_at (x ∷ g) [] i h = absurd h
  entry_at (x ∷ g) (e ∷ env) zero h = h.0
  entry_at (x ∷ g) (e ∷ env) (suc i) h = entry_at g env i h.1

  -- a variable of this sort has an entry of it
  entry_there : (g : Sorts) (env : PlaceEnv) (v : Var) (sort : VarSort) → EnvFits g env → sort_of g v ≡ Some sort → Has (EntryFits sort) (entry_of env v)
  entry_there g env v sort h e = there (sort_of g v) (entry_of env v) (entry_at g env v.0 h) e
    where
      there : (x : Option VarSort) (o : Option (Entry Place)) → Matches EntryFits x o → x ≡ Some sort → Has (EntryFits sort) o
      there None o m e = absurd cc
      there (Some x) None m e = absurd m
      there (Some x) (Some y) m e = let same : x ≡ sort = cc in subst (λ x. EntryFits x y) same m

  operand_fits : (sort : VarSort) → IsArgSort sort → (e : Entry Place) → EntryFits sort e → Has (OperandFits names positions sort) (operand_in e)
  operand_fits variable.Number k (Entry.Number z) h = tt
  operand_fits variable.Name k (Entry.Name n) h = h
  operand_fits (variable.Flow f) k (Entry.Flow place) h = h
  operand_fits (variable.Term t) k e h = absurd k
  operand_fits _ k _ h = absurd h

  -- variables of these sorts are operands of them
  pub operands_fit : (g : Sorts) (env : PlaceEnv) → EnvFits g env → (vars : List Var) (sorts : List VarSort) → AllByRecursion IsArgSort sorts → HaveSorts g vars sorts → OperandsFit names positions sorts (operands_at env vars)
  operands_fit g env h [] [] p e = tt
  operands_fit g env h [] (s ∷ sorts) p e = absurd cc
  operands_fit g env h (v ∷ vars) [] p e = absurd cc
  operands_fit g env h (v ∷ vars) (s ∷ sorts) p e =
      let first : sort_of g v ≡ Some s = cc in
      let rest : map (sort_of g) vars ≡ map Some sorts = cc in
      by (operand_of env v) refl (then_has (EntryFits s) (OperandFits names positions s) operand_in (operand_fits s p.0) (entry_of env v) (entry_there g env v s h first)) (operands_fit g env h vars sorts p.1 rest)
    where
      by : (o : Option Operand) → operand_of env v ≡ o → Has (OperandFits names positions s) o → OperandsFit names positions sorts (operands_at env vars) → OperandsFit names positions (s ∷ sorts) (operands_at env (v ∷ vars))
      by None k a b = absurd a
      by (Some x) k a b = subst (OperandsFit names positions (s ∷ sorts)) (sym (one_operand env v vars x k)) (a, b)

  pub counted : (sorts : List VarSort) (operands : List Operand) → OperandsFit names positions sorts operands → length operands ≡ length sorts
  counted [] [] h = refl
  counted [] (o ∷ os) h = absurd h
  counted (s ∷ sorts) [] h = absurd h
  counted (s ∷ sorts) (o ∷ os) h = ap (λ n. suc n) (counted sorts os h.1)

  point_there : (sort : SortId) (e : Entry Place) → EntryFits (variable.Term sort) e → Has (λ p. IsSortOfPoint d nodes p sort) (point_in e)
  point_there sort (Entry.Number z) h = absurd h
  point_there sort (Entry.Name n) h = absurd h
  point_there sort (Entry.Flow a) h = absurd h
  point_there sort (Entry.Point p) h = h

  -- the point of a target has its sort
  pub target_there : (g : Sorts) (env : PlaceEnv) → EnvFits g env → (own : SortId) (point : ℕ) → IsSortOfPoint d nodes point own → (target : Target) (sort : SortId) → target_sort own g target ≡ Some (variable.Term sort) → Has (λ p. IsSortOfPoint d nodes p sort) (target_at point env target)
  target_there g env h own point is Target.Own sort e = let same : own ≡ sort = cc in subst (IsSortOfPoint d nodes point) same is
  target_there g env h own point is (Target.Sub v) sort e =
      then_has (EntryFits (variable.Term sort)) (λ p. IsSortOfPoint d nodes p sort) point_in (point_there sort) (entry_of env v) (entry_there g env v (variable.Term sort) h e)

  -- Values that are gained.

  -- an entry of a position has its sort there
  abbrev PlacesFit : List FlowSort → List Place → Type 0
  PlacesFit = AllZip (λ sort (place : Place). sort_at positions place.position place.entry ≡ Some sort)

  places_fit : (position i : ℕ) (vars : List Var) (sorts : List FlowSort) → length vars ≡ length sorts → ((k : ℕ) (s : FlowSort) → slice_get sorts k ≡ Some s → sort_at positions position (i + k) ≡ Some s) → PlacesFit sorts (places_from position i vars)
  places_fit position i [] [] e h = tt
  places_fit position i [] (s ∷ sorts) e h = absurd (omega (arith, e))
  places_fit position i (v ∷ vars) [] e h = absurd (omega (arith, e))
  places_fit position i (v ∷ vars) (s ∷ sorts) e h =
      let here : i + 0 ≡ i = omega arith in (
        subst (λ n. sort_at positions position n ≡ Some s) here (h 0 s refl),
        places_fit position (i + 1) vars sorts (omega (arith, e)) (λ k t f. let next : i + suc k ≡ i + 1 + k = omega arith in subst (λ n. sort_at positions position n ≡ Some t) next (h (suc k) t f)),
      )

  gained : (vars : List Var) (g : Sorts) (env : PlaceEnv) (sorts : List FlowSort) (places : List Place) → EnvFits g env → PlacesFit sorts places → EnvFits (define g vars (map Some (map VarSort.Flow sorts))) (gain env vars places)
  gained [] g env sorts places h f = h
  gained (v ∷ vars) g env [] [] h f = h
  gained (v ∷ vars) g env [] (a ∷ places) h f = absurd f
  gained (v ∷ vars) g env (s ∷ sorts) [] h f = absurd f
  gained (v ∷ vars) g env (s ∷ sorts) (a ∷ places) h f =
      gained vars _ _ sorts places (zip_set (Matches EntryFits) g env v.0 (Some (variable.Flow s)) (Some (Entry.Flow a)) h f.0) f.1

  -- what a position of these sorts gives to variables fits
  pub gain_fits : (g : Sorts) (env : PlaceEnv) (position : ℕ) (vars : List Var) (sorts : List FlowSort) → EnvFits g env → slice_get positions position ≡ Some sorts → length vars ≡ length sorts →
      EnvFits (define g vars (map Some (map VarSort.Flow sorts))) (gain env vars (places_from position 0 vars))
  gain_fits g env position vars sorts h e l =
      gained vars g env sorts (places_from position 0 vars) h
      (places_fit position 0 vars sorts l
      (λ k s f. let at : sort_at positions position k ≡ Some s = ap (option_and_then (λ ss. slice_get ss k)) e ∙ f in let same : k ≡ 0 + k = omega arith in subst (λ n. sort_at positions position n ≡ Some s) same at))

  -- The environment that a rule starts from.

  child_fits : (c : Child) (a : ArgSort) → ChildFits d nodes names c a → EntryFits (arg_sort a) (entry_of_child c)
  child_fits (Child.Number z) arg.Number h = tt
  child_fits (Child.Name n) arg.Name h = h
  child_fits (Child.Point p) (arg.Term sort) h = h
  child_fits _ _ h = absurd h

  children_fit : (vars : List Var) (g : Sorts) (env : PlaceEnv) (cs : List Child) (args : List ArgSort) → EnvFits g env → ChildrenFit d nodes names cs args → EnvFits (define g vars (map (λ a. Some (arg_sort a)) args)) (bind_children env vars cs)
  children_fit [] g env cs args h f = h
  children_fit (v ∷ vars) g env [] [] h f = h
  children_fit (v ∷ vars) g env [] (a ∷ args) h f = absurd f
  children_fit (v ∷ vars) g env (c ∷ cs) [] h f = absurd f
  children_fit (v ∷ vars) g env (c ∷ cs) (a ∷ args) h f =
      children_fit vars _ _ cs args (zip_set (Matches EntryFits) g env v.0 (Some (arg_sort a)) (Some (entry_of_child c)) h (child_fits c a f.0)) f.1

  nothing_fits : (vars : List (List ℕ)) → EnvFits (map (λ v. None) vars) (replicate (length vars) None)
  nothing_fits [] = tt
  nothing_fits (v ∷ vars) = (tt, nothing_fits vars)

  pub start_fits : (rule : Rule) (hook : Hook) (con : Con) (node : TermNode) → ChildrenFit d nodes names node.children con.args → slice_get positions 0 ≡ Some hook.inputs → length rule.inputs ≡ length hook.inputs →
      EnvFits (header_sorts rule hook con) (gain (bind_children (replicate (length rule.vars) None) rule.terms node.children) rule.inputs (places_from 0 0 rule.inputs))
  start_fits rule hook con node f e l =
      let bound : EnvFits (define (nothing rule) rule.terms (map (λ a. Some (arg_sort a)) con.args)) (bind_children (replicate (length rule.vars) None) rule.terms node.children) =
      children_fit rule.terms (nothing rule) (replicate (length rule.vars) None) node.children con.args (nothing_fits rule.vars) f in
      subst (λ sorts. EnvFits (define (define (nothing rule) rule.terms (map (λ a. Some (arg_sort a)) con.args)) rule.inputs sorts) (gain (bind_children (replicate (length rule.vars) None) rule.terms node.children) rule.inputs (places_from 0 0 rule.inputs))) (sym (map_flows hook.inputs))
      (gain_fits _ _ 0 rule.inputs hook.inputs bound e l)
