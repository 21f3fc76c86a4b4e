-- The list of constraints of a program.
use Rattle.std.specs.Prelude.{◌≡◌, ℕ, ◌≤◌, List, [], ◌∷◌, ◌++◌, length, map, Option, Some, slice_get}
use Rattle.std.specs.Option.{option_map, option_and_then}
use Rattle.sk_def.specs.declared.ids.HookId.{HookId}
use Rattle.sk_def.specs.declared.def.Def.{Def}
use Rattle.sk_def.specs.declared.def.Rule.{Rule}
use Rattle.sk_def.specs.declared.def.Hook.{Hook}
use Rattle.sk_def.specs.declared.def.Con.{Con}
use Rattle.sk_def.specs.Rules.{rule_of}
use Rattle.sk_def.specs.Layout.{AreBelow, BonesFit}
use Rattle.sk_def.specs.declared.sorts.VarSort.TheVariants.{Flow}
use Rattle.sk_def.specs.Sorts.{Sorts, HaveSorts}
use Rattle.sk_walk.specs.Sorted.{Sorted}
use Rattle.sk_sort.specs.Rules.{header_sorts}
use Rattle.sk_term.specs.declared.node.TermNode.{TermNode}
use Rattle.sk_term.specs.Program.{Program}
use Rattle.sk_term.specs.Terms.{keys}
use Rattle.sk_deriv.specs.Env.{start_of}
use Rattle.sk_table.specs.declared.triple.Cover.{Cover}
use Rattle.sk_constr.specs.declared.line.Part.{Part}
use Rattle.sk_constr.specs.declared.line.Line.{Line}
use Rattle.sk_constr.specs.declared.line.KeyLines.{KeyLines}
use Rattle.sk_constr.specs.declared.constraint_list.ConstraintList.{ConstraintList}
use Rattle.sk_constr.specs.Operands.{PlaceEnv, places, operands_at}
use Rattle.sk_constr.specs.Positions.{positions_of}
use Rattle.sk_constr.specs.Lines.{env_after, last_position, line_at, lines_of}

-- what the variables stand for before a rule's bones, from a node: its entries, and the entries of position 0
abbrev pub first_env : Rule → TermNode → PlaceEnv
first_env rule node = start_of rule node (places 0 rule.inputs)

-- the lines of a rule from a node: those of its bones, and one for its end
abbrev pub lines_of_rule : ℕ → Rule → TermNode → List Line
lines_of_rule point rule node =
    let size = length rule.bones in
    let start = first_env rule node in
    lines_of point size 1 0 start rule.bones
    ++ line_at (last_position size 1 0 rule.bones) (Part.End (operands_at (env_after size 1 start rule.bones) rule.outputs)) ∷ []

-- the lines of a hook at a point, by its rule, with the sorts of the positions and of the outputs
abbrev pub key_by_rule : Def → HookId → ℕ → TermNode → Rule → Hook → Con → KeyLines
key_by_rule d id point node rule hook con = record {
  hook = id;
  point = point;
  positions = hook.inputs ∷ positions_of d (length rule.bones) (header_sorts rule hook con) rule.bones;
  outputs = hook.outputs;
  lines = lines_of_rule point rule node;
}

-- the lines of a key, if it has a node, a rule, a hook and a constructor
abbrev pub lines_of_key : Def → List TermNode → HookId × ℕ → Option KeyLines
lines_of_key d nodes key =
    option_and_then (λ node. option_and_then (λ rule. option_and_then (λ hook. option_map
    (key_by_rule d key.0 key.1 node rule hook)
    (slice_get d.cons node.con.0)) (slice_get d.hooks key.0.0)) (rule_of d key.0 node.con)) (slice_get nodes key.1)

-- the list of constraints of a program: its number of names, the cover lines, and for every key, by point and then by the
-- hook's place, its lines
pub record AreConstraints {D : Type 0} (d : Def) (program : Program) (covers : List (Cover D)) (list : ConstraintList D) : Type 0 where
  pub names_are : list.names ≡ program.names
  pub covers_are : list.covers ≡ covers
  pub keys_are : map Some list.keys ≡ map (lines_of_key d program.nodes) (keys d program.nodes)

-- A key has a rule of the definition, with what a walk of its bones asks for.
pub record RuleOfKey (d : Def) (nodes : List TermNode) (id : HookId) (point : ℕ) (rule : Rule) (hook : Hook) (con : Con) : Type 0 where
  pub node : TermNode
  pub node_is : slice_get nodes point ≡ Some node
  pub rule_is : rule_of d id node.con ≡ Some rule
  pub hook_is : slice_get d.hooks id.0 ≡ Some hook
  pub con_is : slice_get d.cons node.con.0 ≡ Some con
  pub terms_below : AreBelow (length rule.vars) rule.terms
  pub inputs_below : AreBelow (length rule.vars) rule.inputs
  pub terms_counted : length rule.terms ≡ length con.args
  pub inputs_counted : length rule.inputs ≡ length hook.inputs
  pub children_counted : length rule.terms ≡ length node.children
  pub few_bones : length rule.bones ≤ 64
  pub bones_fit : BonesFit (length d.hooks) (length rule.vars) 8 rule.bones
  pub after : Sorts
  pub bones_sorted : Sorted d con.sort 1 rule.bones (header_sorts rule hook con) after
  pub outputs_sorted : HaveSorts after rule.outputs (map Flow hook.outputs)
  pub place : ℕ
  pub stands : slice_get d.rules place ≡ Some rule
