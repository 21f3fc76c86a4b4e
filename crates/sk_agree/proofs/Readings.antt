-- An environment of values beside one of places, whose values are read in an assignment.
use Rattle.std.proofs.Common.{◌≡◌, ℕ, zero, suc, ◌+◌, List, [], ◌∷◌, length, replicate, Option, Some, None, refl, sym, ap, subst, arith}
use Rattle.std.specs.Prelude.{slice_get}
use Rattle.std.specs.List.{AllZip}
use Rattle.std.specs.Option.{option_map, option_and_then}
use Rattle.sk_def.specs.declared.ids.Var.{Var}
use Rattle.sk_def.specs.declared.bone.Target.{Target}
use Rattle.sk_def.specs.declared.def.Rule.{Rule}
use Rattle.sk_term.specs.declared.node.Child.{Child}
use Rattle.sk_term.specs.declared.node.TermNode.{TermNode}
use Rattle.sk_deriv.specs.declared.entry.Entry.{Entry}
use Rattle.sk_deriv.specs.Env.{Env, entry_of, flow_in, point_in, entry_of_child, all_of, args_at, values_at, target_at, gain, bind_children, start_of}
use Rattle.sk_lattice.specs.declared.flow.AbsFlow.{AbsFlow}
use Rattle.sk_absfilter.specs.declared.arg.AbsArg.{AbsArg}
use Rattle.sk_absfilter.specs.Abstract.{Outcome}
use Rattle.sk_abswalk.specs.Walk.{AbsEnv, Flows, argument_in}
use Rattle.sk_constr.specs.declared.line.Place.{Place}
use Rattle.sk_constr.specs.Operands.{PlaceEnv, places_from, places, operand_in, operand_of, operands_at}
use Rattle.sk_constr.specs.Keys.{first_env}
use Rattle.sk_solve.specs.Solves.{value_at, flow_at, argument_at, operand_value}
use Rattle.sk_agree.proofs.Relations.{zip_set, Matches, Has, matches_then, matches_at, all_read}

-- leaves and points are the same, and values are related
abbrev pub Entries : {F G : Type 0} → (F → G → Type 0) → Entry F → Entry G → Type 0
Entries R (Entry.Number z) (Entry.Number y) = z ≡ y
Entries R (Entry.Name n) (Entry.Name m) = n ≡ m
Entries R (Entry.Flow a) (Entry.Flow v) = R a v
Entries R (Entry.Point p) (Entry.Point q) = p ≡ q
Entries R _ _ = ⊥

-- each variable that is defined in the first environment is defined in the second, and their entries are related
abbrev pub Envs : {F G : Type 0} → (F → G → Type 0) → Env F → Env G → Type 0
Envs R = AllZip (Matches (Entries R))

module _ {F G : Type 0} (R : F → G → Type 0) where
  point_step : (a : Entry F) (e : Entry G) → Entries R a e → Matches (λ (p q : ℕ). p ≡ q) (point_in a) (point_in e)
  point_step (Entry.Number z) e h = tt
  point_step (Entry.Name n) e h = tt
  point_step (Entry.Flow a) e h = tt
  point_step (Entry.Point p) (Entry.Number z) h = absurd h
  point_step (Entry.Point p) (Entry.Name n) h = absurd h
  point_step (Entry.Point p) (Entry.Flow v) h = absurd h
  point_step (Entry.Point p) (Entry.Point q) h = h

  pub target_related : (point : ℕ) (env : Env F) (other : Env G) → Envs R env other → (target : Target) → Matches (λ (p q : ℕ). p ≡ q) (target_at point env target) (target_at point other target)
  target_related point env other h Target.Own = refl
  target_related point env other h (Target.Sub v) = matches_then (Entries R) (λ p q. p ≡ q) point_in point_in point_step _ _ (matches_at (Entries R) env other v.0 h)

  -- what is gained is related
  pub gain_related : (vars : List Var) (env : Env F) (other : Env G) (flows : List F) (values : List G) → Envs R env other → AllZip R flows values → Envs R (gain env vars flows) (gain other vars values)
  gain_related [] env other flows values h t = h
  gain_related (v ∷ vars) env other [] [] h t = h
  gain_related (v ∷ vars) env other [] (x ∷ values) h t = absurd t
  gain_related (v ∷ vars) env other (a ∷ flows) [] h t = absurd t
  gain_related (v ∷ vars) env other (a ∷ flows) (x ∷ values) h t =
      gain_related vars _ _ flows values (zip_set (Matches (Entries R)) env other v.0 (Some (Entry.Flow a)) (Some (Entry.Flow x)) h t.0) t.1

  child_related : (c : Child) → Entries R (entry_of_child c) (entry_of_child c)
  child_related (Child.Number z) = refl
  child_related (Child.Name n) = refl
  child_related (Child.Point p) = refl

  children_related : (vars : List Var) (env : Env F) (other : Env G) (cs : List Child) → Envs R env other → Envs R (bind_children env vars cs) (bind_children other vars cs)
  children_related [] env other cs h = h
  children_related (v ∷ vars) env other [] h = h
  children_related (v ∷ vars) env other (c ∷ cs) h =
      children_related vars _ _ cs (zip_set (Matches (Entries R)) env other v.0 (Some (entry_of_child c)) (Some (entry_of_child c)) h (child_related c))

  nothing_related : (n : ℕ) → Envs R (replicate n None) (replicate n None)
  nothing_related zero = tt
  nothing_related (suc n) = (tt, nothing_related n)

  -- a rule starts from related environments
  start_related : (rule : Rule) (node : TermNode) (flows : List F) (values : List G) → AllZip R flows values → Envs R (start_of rule node flows) (start_of rule node values)
  start_related rule node flows values t =
      gain_related rule.inputs _ _ flows values (children_related rule.terms _ _ node.children (nothing_related (length rule.vars))) t

-- leaves are the same, and what flows is related
abbrev pub ArgsBy : {D : Type 0} → (AbsFlow D → AbsFlow D → Type 0) → AbsArg D → AbsArg D → Type 0
ArgsBy R (AbsArg.Number z) (AbsArg.Number y) = z ≡ y
ArgsBy R (AbsArg.Name n) (AbsArg.Name m) = n ≡ m
ArgsBy R (AbsArg.Flow a) (AbsArg.Flow b) = R a b
ArgsBy R _ _ = ⊥

-- a value is related to what a place has
abbrev pub AtPlace : {D : Type 0} → (AbsFlow D → AbsFlow D → Type 0) → List (Outcome D) → AbsFlow D → Place → Type 0
AtPlace R P a place = Has (R a) (flow_at P place.position place.entry)

-- what is defined in an environment has an operand, and its value is related to what the operand reads
abbrev pub Reads : {D : Type 0} → (AbsFlow D → AbsFlow D → Type 0) → List (Outcome D) → AbsEnv D → PlaceEnv → Type 0
Reads R P = Envs (AtPlace R P)

module _ {D : Type 0} (R : AbsFlow D → AbsFlow D → Type 0) (P : List (Outcome D)) where
  flow_arg : (a : AbsFlow D) (o : Option (AbsFlow D)) → Has (R a) o → Has (ArgsBy R (AbsArg.Flow a)) (option_map AbsArg.Flow o)
  flow_arg a None h = absurd h
  flow_arg a (Some b) h = h

  arg_read : (e : Entry (AbsFlow D)) (p : Entry Place) → Entries (AtPlace R P) e p → Matches (λ x o. Has (ArgsBy R x) (argument_at P o)) (argument_in e) (operand_in p)
  arg_read (Entry.Point q) p h = tt
  arg_read (Entry.Number z) (Entry.Number y) h = h
  arg_read (Entry.Name n) (Entry.Name m) h = h
  arg_read (Entry.Flow a) (Entry.Flow place) h = flow_arg a (flow_at P place.position place.entry) h
  arg_read _ _ h = absurd h

  value_read : (e : Entry (AbsFlow D)) (p : Entry Place) → Entries (AtPlace R P) e p → Matches (λ a o. Has (R a) (operand_value P o)) (flow_in e) (operand_in p)
  value_read (Entry.Point q) p h = tt
  value_read (Entry.Number z) p h = tt
  value_read (Entry.Name n) p h = tt
  value_read (Entry.Flow a) (Entry.Number y) h = absurd h
  value_read (Entry.Flow a) (Entry.Name m) h = absurd h
  value_read (Entry.Flow a) (Entry.Point q) h = absurd h
  value_read (Entry.Flow a) (Entry.Flow place) h = h

  -- arguments and values of variables are related to what their operands read
  pub args_read : (env : AbsEnv D) (other : PlaceEnv) → Reads R P env other → (vars : List Var) → Matches (AllZip (ArgsBy R)) (args_at argument_in env vars) (all_of (argument_at P) (operands_at other vars))
  args_read env other h vars =
      all_read (ArgsBy R) (λ (v : Var). option_and_then argument_in (entry_of env v)) (operand_of other) (argument_at P)
      (λ (v : Var). matches_then (Entries (AtPlace R P)) (λ x o. Has (ArgsBy R x) (argument_at P o)) argument_in operand_in arg_read (entry_of env v) (entry_of other v) (matches_at (Entries (AtPlace R P)) env other v.0 h)) vars

  pub values_read : (env : AbsEnv D) (other : PlaceEnv) → Reads R P env other → (vars : List Var) → Matches (AllZip R) (values_at env vars) (all_of (operand_value P) (operands_at other vars))
  values_read env other h vars =
      all_read R (λ (v : Var). option_and_then flow_in (entry_of env v)) (operand_of other) (operand_value P)
      (λ (v : Var). matches_then (Entries (AtPlace R P)) (λ a o. Has (R a) (operand_value P o)) flow_in operand_in value_read (entry_of env v) (entry_of other v) (matches_at (Entries (AtPlace R P)) env other v.0 h)) vars

  -- the entries of a position are those that variables take
  placed : (n entry : ℕ) (vars : List Var) (flows highs : Flows D) → AllZip R flows highs → length flows ≡ length vars → ((i : ℕ) → flow_at P n (entry + i) ≡ slice_get highs i) → AllZip (AtPlace R P) flows (places_from n entry vars)
  placed n entry [] [] highs z long at = tt
  placed n entry (v ∷ vars) [] highs z long at = absurd (omega (arith, long))
  placed n entry [] (f ∷ flows) highs z long at = absurd (omega (arith, long))
  placed n entry (v ∷ vars) (f ∷ flows) [] z long at = absurd z
  placed n entry (v ∷ vars) (f ∷ flows) (x ∷ highs) z long at =
      let here : entry + 0 ≡ entry = omega arith in
      let first : flow_at P n entry ≡ Some x = subst (λ j. flow_at P n j ≡ Some x) here (at 0) in
      (subst (Has (R f)) (sym first) z.0, placed n (entry + 1) vars flows highs z.1 (omega (arith, long)) (λ i. let next : entry + suc i ≡ entry + 1 + i = omega arith in subst (λ j. flow_at P n j ≡ slice_get highs i) next (at (suc i))))

  at_position : (n : ℕ) (vars : List Var) (flows highs : Flows D) → value_at P n ≡ Some highs → AllZip R flows highs → length flows ≡ length vars → AllZip (AtPlace R P) flows (places n vars)
  at_position n vars flows highs is z long =
      placed n 0 vars flows highs z long
      (λ i. let same : 0 + i ≡ i = omega arith in subst (λ j. flow_at P n j ≡ slice_get highs i) (sym same) (ap (λ (o : Outcome D). option_and_then (λ (l : Flows D). slice_get l i) o) is))

  -- variables gain the entries of a position
  pub reads_gain : (env : AbsEnv D) (other : PlaceEnv) (n : ℕ) (vars : List Var) (flows highs : Flows D) → Reads R P env other → value_at P n ≡ Some highs → AllZip R flows highs → length flows ≡ length vars → Reads R P (gain env vars flows) (gain other vars (places n vars))
  reads_gain env other n vars flows highs h is z long = gain_related (AtPlace R P) vars env other flows (places n vars) h (at_position n vars flows highs is z long)

  -- a rule starts from the entries of position 0
  pub reads_start : (rule : Rule) (node : TermNode) (ins highs : Flows D) → value_at P 0 ≡ Some highs → AllZip R ins highs → length ins ≡ length rule.inputs → Reads R P (start_of rule node ins) (first_env rule node)
  reads_start rule node ins highs is z long = start_related (AtPlace R P) rule node ins (places 0 rule.inputs) (at_position 0 rule.inputs ins highs is z long)
