-- What the variables of a rule stand for, for any kind of flowing values.
use Rattle.std.specs.Prelude.{ℕ, List, [], ◌∷◌, length, replicate, Option, Some, None, slice_get, slice_set, unwrap_or}
use Rattle.std.specs.Option.{option_map, option_and_then}
use Rattle.sk_def.specs.declared.ids.Var.{Var}
use Rattle.sk_def.specs.declared.bone.Target.{Target}
use Rattle.sk_def.specs.declared.def.Rule.{Rule}
use Rattle.sk_term.specs.declared.node.Child.{Child}
use Rattle.sk_term.specs.declared.node.TermNode.{TermNode}
use Rattle.sk_deriv.specs.declared.entry.Entry.{Entry}

-- the entry of each variable that is defined
abbrev pub Env : Type 0 → Type 0
Env F = List (Option (Entry F))

abbrev pub entry_of : {F : Type 0} → Env F → Var → Option (Entry F)
entry_of env v = unwrap_or (slice_get env v.0) None

-- the value that an entry is, and the point
abbrev pub flow_in : {F : Type 0} → Entry F → Option F
flow_in (Entry.Number z) = None
flow_in (Entry.Name n) = None
flow_in (Entry.Flow value) = Some value
flow_in (Entry.Point p) = None

abbrev pub point_in : {F : Type 0} → Entry F → Option ℕ
point_in (Entry.Number z) = None
point_in (Entry.Name n) = None
point_in (Entry.Flow value) = None
point_in (Entry.Point p) = Some p

abbrev pub entry_of_child : {F : Type 0} → Child → Entry F
entry_of_child (Child.Number z) = Entry.Number z
entry_of_child (Child.Name n) = Entry.Name n
entry_of_child (Child.Point p) = Entry.Point p

-- all of what f gives at the entries, where it gives something at each
abbrev pub all_of : {A B : Type 0} → (A → Option B) → List A → Option (List B)
all_of f [] = Some []
all_of f (x ∷ xs) = option_and_then (λ y. option_map (λ ys. y ∷ ys) (all_of f xs)) (f x)

-- what the variables stand for, where each is such an argument
abbrev pub args_at : {F A : Type 0} → (Entry F → Option A) → Env F → List Var → Option (List A)
args_at argument env vars = all_of (λ v. option_and_then argument (entry_of env v)) vars

-- the values of variables, where each has one
abbrev pub values_at : {F : Type 0} → Env F → List Var → Option (List F)
values_at env vars = args_at flow_in env vars

-- the point that a hook bone evaluates at
abbrev pub target_at : {F : Type 0} → ℕ → Env F → Target → Option ℕ
target_at point env Target.Own = Some point
target_at point env (Target.Sub v) = option_and_then point_in (entry_of env v)

-- the variables given these values, in order
abbrev pub gain : {F : Type 0} → Env F → List Var → List F → Env F
gain env (v ∷ vars) (value ∷ values) = gain (slice_set env v.0 (Some (Entry.Flow value))) vars values
gain env _ _ = env

-- the exported variables alone, as they are at the end of a branch
abbrev pub export : {F : Type 0} → Env F → Env F → List Var → Env F
export env ends [] = env
export env ends (v ∷ vars) = export (slice_set env v.0 (entry_of ends v)) ends vars

-- the variables given the children of a node, in order
abbrev pub bind_children : {F : Type 0} → Env F → List Var → List Child → Env F
bind_children env (v ∷ vars) (c ∷ cs) = bind_children (slice_set env v.0 (Some (entry_of_child c))) vars cs
bind_children env _ _ = env

-- the environment that a rule starts from
abbrev pub start_of : {F : Type 0} → Rule → TermNode → List F → Env F
start_of rule node ins = gain (bind_children (replicate (length rule.vars) None) rule.terms node.children) rule.inputs ins
