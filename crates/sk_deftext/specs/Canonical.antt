-- The canonical text of a definition.
use Rattle.std.specs.Prelude.{ℕ, zero, suc, List, [], ◌∷◌, ◌++◌, length, take, drop, slice_get, unwrap_or, option_map, flat_map, codes}
use Rattle.std.specs.List.{join_by}
use Rattle.sk_base.specs.declared.flow.FlowSort.{FlowSort}
use Rattle.sk_base.specs.declared.flow.FlowSort.TheVariants.{Int, Bool as Truth, Val, Store}
use Rattle.sk_def.specs.Filters.{filter_word}
use Rattle.sk_def.specs.Layout.{after_branches}
use Rattle.sk_def.specs.declared.sorts.ArgSort.{ArgSort}
use Rattle.sk_def.specs.declared.sorts.ArgSort.TheVariants as arg
use Rattle.sk_def.specs.declared.filter.Filter.{Filter}
use Rattle.sk_def.specs.declared.ids.Var.{Var}
use Rattle.sk_def.specs.declared.ids.HookId.{HookId}
use Rattle.sk_def.specs.declared.ids.ConId.{ConId}
use Rattle.sk_def.specs.declared.bone.Target.{Target}
use Rattle.sk_def.specs.declared.bone.Target.TheVariants.{Own, Sub}
use Rattle.sk_def.specs.declared.bone.Bone.{Bone}
use Rattle.sk_def.specs.declared.bone.Bone.TheVariants.{Apply, Call, Either}
use Rattle.sk_def.specs.declared.def.Con.{Con}
use Rattle.sk_def.specs.declared.def.Hook.{Hook}
use Rattle.sk_def.specs.declared.def.Rule.{Rule}
use Rattle.sk_def.specs.declared.def.Def.{Def}

-- Words by their numbers: nothing where there is none of this number.

abbrev pub name_at : List (List ℕ) → ℕ → List ℕ
name_at names place = unwrap_or (slice_get names place) []

abbrev pub hook_word : List Hook → HookId → List ℕ
hook_word hooks id = unwrap_or (option_map (λ (hook : Hook). hook.name) (slice_get hooks id.0)) []

abbrev pub con_word : List Con → ConId → List ℕ
con_word cons id = unwrap_or (option_map (λ (con : Con). con.name) (slice_get cons id.0)) []

abbrev pub flow_word : FlowSort → List ℕ
flow_word Int = codes "int"
flow_word Truth = codes "bool"
flow_word Val = codes "val"
flow_word Store = codes "store"

-- the sort of an argument, given the names of the term sorts
abbrev pub arg_word : List (List ℕ) → ArgSort → List ℕ
arg_word sorts arg.Number = codes "number"
arg_word sorts arg.Name = codes "name"
arg_word sorts (arg.Term sort) = name_at sorts sort.0

-- a variable, and the term that a hook bone evaluates, given the names of the rule's variables
abbrev pub var_word : List (List ℕ) → Var → List ℕ
var_word vars var = name_at vars var.0

abbrev pub target_word : List (List ℕ) → Target → List ℕ
target_word vars Own = codes "self"
target_word vars (Sub var) = var_word vars var

-- entries in parentheses
abbrev pub list_text : {A : Type 0} → (A → List ℕ) → List A → List ℕ
list_text word entries = codes "(" ++ join_by word (codes ", ") entries ++ codes ")"

abbrev pub vars_text : List (List ℕ) → List Var → List ℕ
vars_text vars list = list_text (var_word vars) list

-- The lines of a definition.

abbrev pub sort_line : List ℕ → List ℕ
sort_line name = codes "sort " ++ name ++ codes "\n"

abbrev pub con_line : List (List ℕ) → Con → List ℕ
con_line sorts con =
    codes "con " ++ con.name ++ codes " : " ++ name_at sorts con.sort.0 ++ list_text (arg_word sorts) con.args ++ codes "\n"

abbrev pub hook_line : List (List ℕ) → Hook → List ℕ
hook_line sorts hook =
    codes "hook " ++ hook.name ++ list_text flow_word hook.inputs ++ codes " " ++ name_at sorts hook.sort.0 ++ codes " -> "
    ++ list_text flow_word hook.outputs ++ codes "\n"

-- two spaces per level
abbrev pub indent : ℕ → List ℕ
indent zero = []
indent (suc level) = codes "  " ++ indent level

-- the bones of each branch, among those that follow a branch bone with branches of these sizes
abbrev pub branches : List ℕ → List Bone → List (List Bone)
branches [] bones = []
branches (count ∷ counts) bones = take count bones ∷ branches counts (drop count bones)

abbrev pub filter_line : List (List ℕ) → Filter → List Var → List Var → List ℕ
filter_line vars filter args outs = filter_word filter ++ vars_text vars args ++ codes " -> " ++ vars_text vars outs ++ codes "\n"

abbrev pub call_line : List (List ℕ) → List ℕ → List Var → Target → List Var → List ℕ
call_line vars hook args target outs =
    hook ++ vars_text vars args ++ codes " " ++ target_word vars target ++ codes " -> " ++ vars_text vars outs ++ codes "\n"

-- the lines between two branches, and after the last
abbrev pub or_line : ℕ → List ℕ
or_line level = indent level ++ codes "} or {\n"

abbrev pub with_line : List (List ℕ) → ℕ → List Var → List ℕ
with_line vars level exports = indent level ++ codes "} with " ++ vars_text vars exports ++ codes "\n"

module _ (hooks : List Hook) (vars : List (List ℕ)) where
  -- at most `size` bones, each on its own line
  abbrev pub bones_text : ℕ → ℕ → List Bone → List ℕ
  bones_text size level [] = []
  bones_text zero level (bone ∷ bones) = []
  bones_text (suc size) level (Apply filter args outs ∷ bones) =
      indent level ++ filter_line vars filter args outs ++ bones_text size level bones
  bones_text (suc size) level (Call hook args target outs ∷ bones) =
      indent level ++ call_line vars (hook_word hooks hook) args target outs ++ bones_text size level bones
  bones_text (suc size) level (Either counts exports ∷ bones) =
      indent level ++ codes "either {\n" ++ join_by (bones_text size (suc level)) (or_line level) (branches counts bones)
      ++ with_line vars level exports ++ bones_text size level (after_branches counts bones)

abbrev pub rule_line : Def → Rule → List ℕ
rule_line d rule =
    codes "rule " ++ hook_word d.hooks rule.hook ++ codes " " ++ con_word d.cons rule.con ++ vars_text rule.vars rule.terms ++ codes " "
    ++ vars_text rule.vars rule.inputs ++ codes " {\n"

-- a rule, whose bones stand one level in
abbrev pub rule_text : Def → Rule → List ℕ
rule_text d rule =
    rule_line d rule ++ bones_text d.hooks rule.vars (length rule.bones) 1 rule.bones
    ++ codes "} -> " ++ vars_text rule.vars rule.outputs ++ codes "\n"

abbrev pub definition_text : Def → List ℕ
definition_text d =
    codes "skel 1\n" ++ flat_map sort_line d.sorts ++ flat_map (con_line d.sorts) d.cons ++ flat_map (hook_line d.sorts) d.hooks
    ++ flat_map (rule_text d) d.rules
