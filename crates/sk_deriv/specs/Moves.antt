-- Valid derivations: their steps replay the rule of their hook and their point's constructor.
use Rattle.std.specs.Prelude.{ℕ, ◌<◌, ◌≡◌, Bool, true, false, IsTrue, List, [], ◌∷◌, length, Option, Some, None, slice_get, ◌==◌, ◌&&◌}
use Rattle.std.specs.List.{list_all}
use Rattle.std.specs.Option.{option_map_or}
use Rattle.sk_base.specs.declared.flow.FlowSort.{FlowSort}
use Rattle.sk_def.specs.declared.ids.HookId.{HookId}
use Rattle.sk_def.specs.declared.ids.Var.{Var}
use Rattle.sk_def.specs.declared.filter.Filter.{Filter}
use Rattle.sk_def.specs.declared.bone.Target.{Target}
use Rattle.sk_def.specs.declared.bone.Bone.{Bone}
use Rattle.sk_def.specs.declared.def.Rule.{Rule}
use Rattle.sk_def.specs.declared.def.Def.{Def}
use Rattle.sk_def.specs.Layout.{branch, after_branches}
use Rattle.sk_def.specs.Rules.{rule_of}
use Rattle.sk_value.specs.declared.value.Value.{Value}
use Rattle.sk_value.specs.declared.flow.Flow.{Flow}
use Rattle.sk_value.specs.Numbers.{is_number}
use Rattle.sk_filter.specs.declared.arg.Arg.{Arg}
use Rattle.sk_filter.specs.Arguments.{Values}
use Rattle.sk_filter.specs.Results.{results_of, is_choice}
use Rattle.sk_term.specs.declared.node.TermNode.{TermNode}
use Rattle.sk_term.specs.Program.{Program}
use Rattle.sk_deriv.specs.declared.entry.Entry.{Entry}
use Rattle.sk_deriv.specs.Env.{Env, args_at, values_at, target_at, gain, export, start_of}
use Rattle.sk_deriv.specs.Tree.{Derivation, derivation, Steps, done, pick, sub, hook_of, point_of, ins_of, outs_of}

-- the argument of a filter that a variable's entry is
abbrev pub arg_in : Entry Flow → Option Arg
arg_in (Entry.Number z) = Some (Arg.Number z)
arg_in (Entry.Name n) = Some (Arg.Name n)
arg_in (Entry.Flow value) = Some (Arg.Flow value)
arg_in (Entry.Point p) = None

-- the results of a filter bone
abbrev pub results_at : ℕ → Env Flow → Filter → List Var → List Values
results_at names env filter args = option_map_or (results_of filter names) (args_at arg_in env args) []

-- a subtree is for a hook bone: it has the bone's hook, the target's point and the arguments as inputs
pub record Answers (point : ℕ) (env : Env Flow) (hook : HookId) (args : List Var) (target : Target) (t : Derivation) : Type 0 where
  pub same_hook : hook_of t ≡ hook
  pub at_target : target_at point env target ≡ Some (point_of t)
  pub on_args : values_at env args ≡ Some (ins_of t)

-- the bones lead from the first environment, with the first steps, to the second, with the second steps left
pub data Moves (names point : ℕ) : List Bone → Env Flow → Steps → Env Flow → Steps → Type 0 where
  no_bone : {env : Env Flow} {steps : Steps} → Moves names point [] env steps env steps
  by_filter : {filter : Filter} {args outs : List Var} {bones : List Bone} {env env' : Env Flow} {steps rest : Steps} {result : Values}
      → is_choice filter ≡ false
      → results_at names env filter args ≡ result ∷ []
      → Moves names point bones (gain env outs result) steps env' rest
      → Moves names point (Bone.Apply filter args outs ∷ bones) env steps env' rest
  by_choice : {filter : Filter} {args outs : List Var} {bones : List Bone} {env env' : Env Flow} {k : ℕ} {steps rest : Steps} {result : Values}
      → is_choice filter ≡ true
      → slice_get (results_at names env filter args) k ≡ Some result
      → Moves names point bones (gain env outs result) steps env' rest
      → Moves names point (Bone.Apply filter args outs ∷ bones) env (pick k steps) env' rest
  by_hook : {hook : HookId} {args : List Var} {target : Target} {outs : List Var} {bones : List Bone} {env env' : Env Flow} {t : Derivation} {steps rest : Steps}
      → Answers point env hook args target t
      → Moves names point bones (gain env outs (outs_of t)) steps env' rest
      → Moves names point (Bone.Call hook args target outs ∷ bones) env (sub t steps) env' rest
  by_branch : {counts : List ℕ} {exports : List Var} {bones : List Bone} {env ends env' : Env Flow} {k : ℕ} {steps middle rest : Steps}
      → k < length counts
      → Moves names point (branch counts k bones) env steps ends middle
      → Moves names point (after_branches counts bones) (export env ends exports) middle env' rest
      → Moves names point (Bone.Either counts exports ∷ bones) env (pick k steps) env' rest

-- what trees are valid for: a definition, the nodes of a program, and the number of names of the job
pub record Setting : Type 0 where
  pub def : Def
  pub nodes : List TermNode
  pub names : ℕ

-- the setting of a definition and a program of it
abbrev pub setting_of : Def → Program → Setting
setting_of def program = record { def = def; nodes = program.nodes; names = program.names }

-- whether a number is in range; a truth value passes
abbrev pub holds_number : Value → Bool
holds_number (Value.Int z) = is_number z
holds_number (Value.Bool b) = true

-- the same of a place of a store; an unset one passes
abbrev pub place_holds_number : Option Value → Bool
place_holds_number c = option_map_or holds_number c true

-- whether a value has the sort, its numbers are in range, and a store has a place for each name
abbrev pub has_sort : ℕ → FlowSort → Flow → Bool
has_sort names FlowSort.Int (Flow.Int z) = is_number z
has_sort names FlowSort.Bool (Flow.Bool b) = true
has_sort names FlowSort.Val (Flow.Val v) = holds_number v
has_sort names FlowSort.Store (Flow.Store s) = (length s == names) && list_all place_holds_number s
has_sort names _ _ = false

-- whether there are as many values as sorts, each of its own
abbrev pub have_sorts : ℕ → List FlowSort → Values → Bool
have_sorts names [] [] = true
have_sorts names (sort ∷ sorts) (v ∷ vs) = has_sort names sort v && have_sorts names sorts vs
have_sorts names _ _ = false

-- whether the inputs fit the hook
abbrev pub fit_hook : Setting → HookId → Values → Bool
fit_hook s hook ins = option_map_or (λ h. have_sorts s.names h.inputs ins) (slice_get s.def.hooks hook.0) false

-- the rule of the hook and of the point's constructor, replayed with the steps, has these outputs
pub record Replays (s : Setting) (hook : HookId) (point : ℕ) (ins : Values) (steps : Steps) (outs : Values) : Type 0 where
  pub ins_fit : IsTrue (fit_hook s hook ins)
  pub node : TermNode
  pub node_is : slice_get s.nodes point ≡ Some node
  pub rule : Rule
  pub rule_is : rule_of s.def hook node.con ≡ Some rule
  pub ends : Env Flow
  pub moves : Moves s.names point rule.bones (start_of rule node ins) steps ends done
  pub outs_are : values_at ends rule.outputs ≡ Some outs

abbrev mutual
  -- a derivation is valid where its own steps replay its rule and all its subtrees are valid
  pub IsValid : Setting → Derivation → Type 0
  IsValid s (derivation hook point ins steps outs) = Replays s hook point ins steps outs × AllValid s steps

  pub AllValid : Setting → Steps → Type 0
  AllValid s done = Unit {0}
  AllValid s (pick k rest) = AllValid s rest
  AllValid s (sub t rest) = IsValid s t × AllValid s rest
