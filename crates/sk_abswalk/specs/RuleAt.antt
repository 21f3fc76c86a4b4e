-- What a rule is walked from.
use Rattle.std.specs.Prelude.{◌≡◌, ◌≤◌, ℕ, List, length, replicate, Some, None, slice_get}
use Rattle.sk_def.specs.declared.ids.HookId.{HookId}
use Rattle.sk_def.specs.declared.def.Rule.{Rule}
use Rattle.sk_def.specs.declared.def.Hook.{Hook}
use Rattle.sk_def.specs.declared.def.Con.{Con}
use Rattle.sk_def.specs.declared.def.Def.{Def}
use Rattle.sk_def.specs.Rules.{rule_of}
use Rattle.sk_def.specs.Layout.{AreBelow, BonesFit}
use Rattle.sk_def.specs.Sorts.{Sorts}
use Rattle.sk_walk.specs.Sorted.{Sorted}
use Rattle.sk_sort.specs.Rules.{header_sorts}
use Rattle.sk_term.specs.declared.node.TermNode.{TermNode}
use Rattle.sk_term.specs.Program.{Program, children_of_point}
use Rattle.sk_deriv.specs.Env.{bind_children, gain}
use Rattle.sk_abswalk.specs.Walk.{AbsEnv, Flows}

-- the environment that the rule of a point starts from
abbrev pub start_at : {D : Type 0} → List TermNode → Rule → ℕ → Flows D → AbsEnv D
start_at nodes rule point ins = gain (bind_children (replicate (length rule.vars) None) rule.terms (children_of_point nodes point)) rule.inputs ins

-- the rule of a hook for a point, with its hook and its constructor, and what a walk of its bones asks for
pub record RuleFor (def : Def) (program : Program) (id : HookId) (point : ℕ) (rule : Rule) (hook : Hook) (con : Con) : Type 0 where
  pub node : TermNode
  pub node_is : slice_get program.nodes point ≡ Some node
  pub rule_is : rule_of def id node.con ≡ Some rule
  pub terms_below : AreBelow (length rule.vars) rule.terms
  pub inputs_below : AreBelow (length rule.vars) rule.inputs
  pub terms_counted : length rule.terms ≡ length con.args
  pub inputs_counted : length rule.inputs ≡ length hook.inputs
  pub children_counted : length rule.terms ≡ length (children_of_point program.nodes point)
  pub few_outputs : length rule.outputs ≤ 8
  pub few_bones : length rule.bones ≤ 64
  pub bones_fit : BonesFit (length def.hooks) (length rule.vars) 8 rule.bones
  pub after : Sorts
  pub bones_sorted : Sorted def con.sort 1 rule.bones (header_sorts rule hook con) after
