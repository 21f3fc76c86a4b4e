-- Environments that are related entry by entry, for any relation of flowing values.
use Rattle.std.proofs.Common.{◌≡◌, ℕ, zero, suc, List, [], ◌∷◌, length, replicate, Option, Some, None, refl}
use Rattle.std.specs.Prelude.{slice_set}
use Rattle.std.specs.List.{AllZip}
use Rattle.std.specs.Option.{option_map, option_and_then}
use Rattle.sk_def.specs.declared.ids.Var.{Var}
use Rattle.sk_def.specs.declared.bone.Target.{Target}
use Rattle.sk_def.specs.declared.def.Rule.{Rule}
use Rattle.sk_term.specs.declared.node.Child.{Child}
use Rattle.sk_term.specs.declared.node.TermNode.{TermNode}
use Rattle.sk_deriv.specs.declared.entry.Entry.{Entry}
use Rattle.sk_deriv.specs.Env.{Env, entry_of, flow_in, point_in, entry_of_child, args_at, values_at, target_at, gain, export, bind_children, start_of}
use Rattle.sk_abswalk.proofs.Relations.{zip_set, Matches, matches_then, matches_all, matches_at}

-- leaves and points are the same, and values are related
abbrev pub Entries : {F G : Type 0} → (F → G → Type 0) → Entry F → Entry G → Type 0
Entries R (Entry.Number z) (Entry.Number y) = z ≡ y
Entries R (Entry.Name n) (Entry.Name m) = n ≡ m
Entries R (Entry.Flow a) (Entry.Flow v) = R a v
Entries R (Entry.Point p) (Entry.Point q) = p ≡ q
Entries R _ _ = ⊥

-- each variable that is defined in the first environment is defined in the second, and their entries are related
abbrev pub Envs : {F G : Type 0} → (F → G → Type 0) → Env F → Env G → Type 0
Envs R = AllZip (Matches (Entries R))

-- the value is there in the environment's place of each variable
value_step : {F : Type 0} (e : Option (Entry F)) (rest : Option (List F)) (vs : List F) → option_and_then (λ y. option_map (λ ys. y ∷ ys) rest) (option_and_then flow_in e) ≡ Some vs → (x : F) × (xs : List F) × (e ≡ Some (Entry.Flow x)) × (rest ≡ Some xs) × (vs ≡ x ∷ xs)
value_step None rest vs h = absurd cc
value_step (Some (Entry.Number z)) rest vs h = absurd cc
value_step (Some (Entry.Name n)) rest vs h = absurd cc
value_step (Some (Entry.Point p)) rest vs h = absurd cc
value_step (Some (Entry.Flow x)) None vs h = absurd cc
value_step (Some (Entry.Flow x)) (Some xs) vs h = (x, xs, refl, refl, cc)

export_step : {F : Type 0} (v : Var) (vars : List Var) (env ends : Env F) (x : F) (vs xs : List F) → entry_of ends v ≡ Some (Entry.Flow x) → vs ≡ x ∷ xs → export (slice_set env v.0 (Some (Entry.Flow x))) ends vars ≡ gain (slice_set env v.0 (Some (Entry.Flow x))) vars xs → export env ends (v ∷ vars) ≡ gain env (v ∷ vars) vs
export_step v vars env ends x vs xs e same h = rw (e, same) h

-- exported variables that have values are gained
pub export_is_gain : {F : Type 0} (vars : List Var) (env ends : Env F) (vs : List F) → values_at ends vars ≡ Some vs → export env ends vars ≡ gain env vars vs
export_is_gain [] env ends vs h = refl
export_is_gain (v ∷ vars) env ends vs h =
    let s = value_step (entry_of ends v) (values_at ends vars) vs h in
    export_step v vars env ends s.0 vs s.1 s.2 s.4 (export_is_gain vars (slice_set env v.0 (Some (Entry.Flow s.0))) ends s.1 s.3)

module _ {F G : Type 0} (R : F → G → Type 0) where
  flow_step : (a : Entry F) (e : Entry G) → Entries R a e → Matches R (flow_in a) (flow_in e)
  flow_step (Entry.Number z) e h = tt
  flow_step (Entry.Name n) e h = tt
  flow_step (Entry.Point p) e h = tt
  flow_step (Entry.Flow a) (Entry.Number z) h = absurd h
  flow_step (Entry.Flow a) (Entry.Name n) h = absurd h
  flow_step (Entry.Flow a) (Entry.Point q) h = absurd h
  flow_step (Entry.Flow a) (Entry.Flow v) h = h

  point_step : (a : Entry F) (e : Entry G) → Entries R a e → Matches (λ (p q : ℕ). p ≡ q) (point_in a) (point_in e)
  point_step (Entry.Number z) e h = tt
  point_step (Entry.Name n) e h = tt
  point_step (Entry.Flow a) e h = tt
  point_step (Entry.Point p) (Entry.Number z) h = absurd h
  point_step (Entry.Point p) (Entry.Name n) h = absurd h
  point_step (Entry.Point p) (Entry.Flow v) h = absurd h
  point_step (Entry.Point p) (Entry.Point q) h = h

  -- arguments, values and points of variables are related
  pub args_related : {A B : Type 0} (Q : A → B → Type 0) (f : Entry F → Option A) (g : Entry G → Option B) → ((a : Entry F) (e : Entry G) → Entries R a e → Matches Q (f a) (g e)) → (env : Env F) (other : Env G) → Envs R env other → (vars : List Var) → Matches (AllZip Q) (args_at f env vars) (args_at g other vars)
  args_related Q f g step env other h vars = matches_all Q _ _ (λ (v : Var). matches_then (Entries R) Q f g step _ _ (matches_at (Entries R) env other v.0 h)) vars

  pub values_related : (env : Env F) (other : Env G) → Envs R env other → (vars : List Var) → Matches (AllZip R) (values_at env vars) (values_at other vars)
  values_related env other h vars = args_related R flow_in flow_in flow_step env other h vars

  pub target_related : (point : ℕ) (env : Env F) (other : Env G) → Envs R env other → (target : Target) → Matches (λ (p q : ℕ). p ≡ q) (target_at point env target) (target_at point other target)
  target_related point env other h Target.Own = refl
  target_related point env other h (Target.Sub v) = matches_then (Entries R) (λ p q. p ≡ q) point_in point_in point_step _ _ (matches_at (Entries R) env other v.0 h)

  -- what is gained is related
  pub gain_related : (vars : List Var) (env : Env F) (other : Env G) (flows : List F) (values : List G) → Envs R env other → AllZip R flows values → Envs R (gain env vars flows) (gain other vars values)
  gain_related [] env other flows values h t = h
  gain_related (v ∷ vars) env other [] [] h t = h
  gain_related (v ∷ vars) env other [] (x ∷ values) h t = absurd t
  gain_related (v ∷ vars) env other (a ∷ flows) [] h t = absurd t
  gain_related (v ∷ vars) env other (a ∷ flows) (x ∷ values) h t =
      gain_related vars _ _ flows values (zip_set (Matches (Entries R)) env other v.0 (Some (Entry.Flow a)) (Some (Entry.Flow x)) h t.0) t.1

  child_related : (c : Child) → Entries R (entry_of_child c) (entry_of_child c)
  child_related (Child.Number z) = refl
  child_related (Child.Name n) = refl
  child_related (Child.Point p) = refl

  children_related : (vars : List Var) (env : Env F) (other : Env G) (cs : List Child) → Envs R env other → Envs R (bind_children env vars cs) (bind_children other vars cs)
  children_related [] env other cs h = h
  children_related (v ∷ vars) env other [] h = h
  children_related (v ∷ vars) env other (c ∷ cs) h =
      children_related vars _ _ cs (zip_set (Matches (Entries R)) env other v.0 (Some (entry_of_child c)) (Some (entry_of_child c)) h (child_related c))

  nothing_related : (n : ℕ) → Envs R (replicate n None) (replicate n None)
  nothing_related zero = tt
  nothing_related (suc n) = (tt, nothing_related n)

  -- a rule starts from related environments
  pub start_related : (rule : Rule) (node : TermNode) (flows : List F) (values : List G) → AllZip R flows values → Envs R (start_of rule node flows) (start_of rule node values)
  start_related rule node flows values t =
      gain_related rule.inputs _ _ flows values (children_related rule.terms _ _ node.children (nothing_related (length rule.vars))) t
