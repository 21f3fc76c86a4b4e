-- The abstract reading of a rule: where its bones lead an abstract environment, and which calls they ask.
use Rattle.std.specs.Prelude.{ℕ, zero, suc, if◌then◌else◌, List, [], ◌∷◌, ◌++◌, length, Option, Some, None, slice_get}
use Rattle.std.specs.Option.{option_map, option_and_then, option_map_or}
use Rattle.sk_def.specs.declared.ids.Var.{Var}
use Rattle.sk_def.specs.declared.ids.HookId.{HookId}
use Rattle.sk_def.specs.declared.bone.Bone.{Bone}
use Rattle.sk_def.specs.declared.def.Rule.{Rule}
use Rattle.sk_def.specs.declared.filter.Filter.{Filter}
use Rattle.sk_def.specs.Layout.{branch, branch_places, after_branches}
use Rattle.sk_def.specs.Rules.{rule_of}
use Rattle.sk_term.specs.declared.node.TermNode.{TermNode}
use Rattle.sk_deriv.specs.declared.entry.Entry.{Entry}
use Rattle.sk_deriv.specs.Env.{Env, args_at, values_at, target_at, gain, start_of}
use Rattle.sk_deriv.specs.Moves.{Setting}
use Rattle.sk_lattice.specs.declared.flow.AbsFlow.{AbsFlow}
use Rattle.sk_lattice.specs.Domain.{Domain}
use Rattle.sk_lattice.specs.Merge.{Join, tuple_merge}
use Rattle.sk_lattice.specs.Order.{tuples_fit}
use Rattle.sk_absfilter.specs.declared.arg.AbsArg.{AbsArg}
use Rattle.sk_absfilter.specs.Abstract.{Outcome, abstract_result}
use Rattle.sk_table.specs.declared.triple.Cover.{Cover}

-- an abstract tuple, and an abstract environment
abbrev pub Flows : Type 0 → Type 0
Flows D = List (AbsFlow D)

abbrev pub AbsEnv : Type 0 → Type 0
AbsEnv D = Env (AbsFlow D)

-- the argument of a filter that a variable's entry is
abbrev pub argument_in : {D : Type 0} → Entry (AbsFlow D) → Option (AbsArg D)
argument_in (Entry.Number z) = Some (AbsArg.Number z)
argument_in (Entry.Name n) = Some (AbsArg.Name n)
argument_in (Entry.Flow a) = Some (AbsArg.Flow a)
argument_in (Entry.Point p) = None

-- Where a walk ends: at the first call without an answer; at a bone that doesn't fit, which never is so in a
-- well-sorted definition; or with something, which is none where the world is gone.
pub data Ends (D X : Type 0) : Type 0 where
  uncovered : Cover D → Ends D X
  ill : Ends D X
  with : Option X → Ends D X

-- a walk asks calls, in text order, and ends
pub record Walk (D X : Type 0) : Type 0 where
  pub asked : List (Cover D)
  pub ends : Ends D X

-- a walk that asks nothing
abbrev pub quiet : {D X : Type 0} → Ends D X → Walk D X
quiet ends = record { asked = []; ends = ends }

-- a walk that goes on with what its first part ends with
abbrev pub go_on : {D X Y : Type 0} → List (Cover D) → Ends D X → (Option X → Walk D Y) → Walk D Y
go_on asked (uncovered c) next = record { asked = asked; ends = uncovered c }
go_on asked ill next = record { asked = asked; ends = ill }
go_on asked (with o) next = record { asked = asked ++ (next o).asked; ends = (next o).ends }

abbrev pub after : {D X Y : Type 0} → Walk D X → (Option X → Walk D Y) → Walk D Y
after first next = go_on first.asked first.ends next

-- what is walked from a world; from one that is gone nothing is, and it stays so
abbrev pub in_world : {D X Y : Type 0} → (X → Walk D Y) → Option X → Walk D Y
in_world next o = option_map_or next o (quiet (with None))

abbrev pub after_world : {D X Y : Type 0} → Walk D X → (X → Walk D Y) → Walk D Y
after_world first next = after first (in_world next)

-- what is there, and else the bone doesn't fit
abbrev pub there : {D X : Type 0} → Option X → Ends D X
there None = ill
there (Some x) = with (Some x)

-- what answers a call: nothing where it is uncovered, and none where the call doesn't end
abbrev pub Answers : Type 0 → Type 0
Answers D = Cover D → Option (Outcome D)

abbrev pub call_at : {D : Type 0} → HookId → Option ℕ → Option (Flows D) → Option (Cover D)
call_at hook (Some point) (Some ins) = Some (record { hook = hook; point = point; ins = ins })
call_at hook _ _ = None

abbrev pub ask : {D : Type 0} → Answers D → Option (Cover D) → Walk D (Flows D)
ask answers None = quiet ill
ask answers (Some c) = record { asked = c ∷ []; ends = option_map_or with (answers c) (uncovered c) }

-- what a filter bone gives
abbrev pub filtered : {D : Type 0} → Domain D → Filter → ℕ → Option (List (AbsArg D)) → Ends D (Flows D)
filtered d filter names args = option_map_or (λ given. with (abstract_result d filter names given)) args ill

-- the branches at these places, one after another, and all their ends
abbrev pub walk_branches : {D X : Type 0} → (ℕ → Walk D X) → List ℕ → Walk D (List (Option X))
walk_branches walk [] = quiet (with (Some []))
walk_branches walk (k ∷ ks) = after (walk k) (λ o. after_world (walk_branches walk ks) (λ os. quiet (with (Some (o ∷ os)))))

-- a tuple joined to what was joined before, where their sorts are the same
abbrev pub join_to : {D : Type 0} → Domain D → Outcome D → Flows D → Outcome D
join_to d None b = Some b
join_to d (Some a) b = if tuples_fit a b then Some (tuple_merge d Join a b) else None

-- the join of the exported tuples of the worlds that aren't gone, and of what was joined before
abbrev pub join_exports : {D : Type 0} → Domain D → List Var → Outcome D → List (Option (AbsEnv D)) → Ends D (Flows D)
join_exports d exports joined [] = with joined
join_exports d exports joined (None ∷ worlds) = join_exports d exports joined worlds
join_exports d exports joined (Some env ∷ worlds) =
    option_map_or (λ more. join_exports d exports (Some more) worlds) (option_and_then (join_to d joined) (values_at env exports)) ill

-- the world after these bones, from an abstract environment; the bound is one on the bones of a path
abbrev pub abstract_world : {D : Type 0} → Domain D → Answers D → (names point bound : ℕ) → List Bone → AbsEnv D → Walk D (AbsEnv D)
abstract_world d answers names point bound [] env = quiet (with (Some env))
abstract_world d answers names point zero (bone ∷ bones) env = quiet ill
abstract_world d answers names point (suc bound) (Bone.Apply filter args outs ∷ bones) env =
    after_world
    (quiet (filtered d filter names (args_at argument_in env args)))
    (λ flows. abstract_world d answers names point bound bones (gain env outs flows))
abstract_world d answers names point (suc bound) (Bone.Call hook args target outs ∷ bones) env =
    after_world
    (ask answers (call_at hook (target_at point env target) (values_at env args)))
    (λ flows. abstract_world d answers names point bound bones (gain env outs flows))
abstract_world d answers names point (suc bound) (Bone.Either counts exports ∷ bones) env =
    after_world
    (walk_branches (λ k. abstract_world d answers names point bound (branch counts k bones) env) (branch_places 0 counts))
    (λ worlds. after_world
    (quiet (join_exports d exports None worlds))
    (λ flows. abstract_world d answers names point bound (after_branches counts bones) (gain env exports flows)))

-- the node of a point and the rule of a hook for it, if there are both
abbrev pub rule_at : Setting → HookId → ℕ → Option (TermNode × Rule)
rule_at s hook point = option_and_then (λ node. option_map (λ rule. (node, rule)) (rule_of s.def hook node.con)) (slice_get s.nodes point)

-- the walk through a rule from a node and these inputs, to its closing tuple
abbrev pub walk_of : {D : Type 0} → Domain D → Answers D → (names point : ℕ) → Flows D → TermNode × Rule → Walk D (Flows D)
walk_of d answers names point ins r =
    after_world
    (abstract_world d answers names point (length r.1.bones) r.1.bones (start_of r.1 r.0 ins))
    (λ env. quiet (there (values_at env r.1.outputs)))

-- the walk of a call: through the rule of its hook and point from its inputs
abbrev pub abstract_walk : {D : Type 0} → Domain D → Answers D → Setting → Cover D → Walk D (Flows D)
abstract_walk d answers s c = option_map_or (walk_of d answers s.names c.point c.ins) (rule_at s c.hook c.point) (quiet ill)

-- the outputs of a call, where all that is asked has an answer
abbrev pub abstract_outputs : {D : Type 0} → Domain D → Answers D → Setting → Cover D → Ends D (Flows D)
abstract_outputs d answers s c = (abstract_walk d answers s c).ends
