-- The rule of a call, and what it starts from.
use Rattle.std.specs.Prelude.{◌≡◌, ℕ, ◌≤◌, true, List, [], length, map, replicate, Option, Some, None, slice_get}
use Rattle.sk_def.specs.declared.def.Rule.{Rule}
use Rattle.sk_def.specs.declared.def.Hook.{Hook}
use Rattle.sk_def.specs.declared.def.Con.{Con}
use Rattle.sk_def.specs.Rules.{rule_of}
use Rattle.sk_def.specs.Layout.{AreBelow, BonesFit}
use Rattle.sk_def.specs.declared.sorts.VarSort.TheVariants.{Flow as OfFlow}
use Rattle.sk_def.specs.Sorts.{Sorts, HaveSorts}
use Rattle.sk_walk.specs.Sorted.{Sorted}
use Rattle.sk_sort.specs.Rules.{header_sorts}
use Rattle.sk_term.specs.declared.node.TermNode.{TermNode}
use Rattle.sk_term.specs.Program.{children_of_point}
use Rattle.sk_value.specs.declared.flow.Flow.{Flow}
use Rattle.sk_deriv.specs.declared.call.Call.{Call}
use Rattle.sk_deriv.specs.Env.{Env, gain, bind_children}
use Rattle.sk_deriv.specs.Moves.{Setting, fit_hook}
use Rattle.sk_deriv.specs.Listing.{derivations}
use Rattle.sk_concrete.specs.declared.world.World.{World}
use Rattle.sk_concrete.specs.Fitting.{env_fits}

-- the environment that the rule of a call starts from
abbrev pub start_at : List TermNode → Rule → Call → Env Flow
start_at nodes rule c = gain (bind_children (replicate (length rule.vars) None) rule.terms (children_of_point nodes c.point)) rule.inputs c.ins

-- the world with this environment before any step
abbrev pub world_of : Env Flow → World
world_of env = record { env = env; steps = []; origin = 0 }

-- the rule of a call whose inputs fit, with its hook and its constructor, and what a walk of its bones asks for
pub record RuleFor (s : Setting) (c : Call) (rule : Rule) (hook : Hook) (con : Con) : Type 0 where
  pub ins_fit : fit_hook s c.hook c.ins ≡ true
  pub hook_is : slice_get s.def.hooks c.hook.0 ≡ Some hook
  pub node : TermNode
  pub node_is : slice_get s.nodes c.point ≡ Some node
  pub rule_is : rule_of s.def c.hook node.con ≡ Some rule
  pub terms_below : AreBelow (length rule.vars) rule.terms
  pub inputs_below : AreBelow (length rule.vars) rule.inputs
  pub terms_counted : length rule.terms ≡ length con.args
  pub inputs_counted : length rule.inputs ≡ length hook.inputs
  pub children_counted : length rule.terms ≡ length node.children
  pub few_outputs : length rule.outputs ≤ 4
  pub few_bones : length rule.bones ≤ 64
  pub bones_fit : BonesFit (length s.def.hooks) (length rule.vars) 8 rule.bones
  pub after : Sorts
  pub bones_sorted : Sorted s.def con.sort 1 rule.bones (header_sorts rule hook con) after
  pub outputs_sorted : HaveSorts after rule.outputs (map OfFlow hook.outputs)
  pub start_fits : env_fits (header_sorts rule hook con) (start_at s.nodes rule c) ≡ true

-- where there is no rule the call has no derivation
abbrev pub HasNoRule : {A : Type 0} → Setting → Call → Option A → Type 0
HasNoRule s c None = (n : ℕ) → derivations s n c ≡ []
HasNoRule s c (Some rule) = Unit {0}
