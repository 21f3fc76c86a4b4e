-- What it means that a definition is good, with no table of sorts and no order of checks.
use Rattle.std.specs.Prelude.{◌≡◌, ◌↔◌, ℕ, ◌⊎◌, ◌++◌, Some, None, length, map, slice_get}
use Rattle.sk_base.specs.declared.flow.FlowSort.{FlowSort}
use Rattle.sk_def.specs.declared.def.Def.{Def}
use Rattle.sk_def.specs.declared.def.Rule.{Rule}
use Rattle.sk_def.specs.declared.def.Hook.{Hook}
use Rattle.sk_def.specs.declared.def.Con.{Con}
use Rattle.sk_def.specs.declared.ids.Var.{Var}
use Rattle.sk_def.specs.declared.ids.HookId.{HookId}
use Rattle.sk_def.specs.declared.ids.ConId.{ConId}
use Rattle.sk_def.specs.declared.sorts.ArgSort.{ArgSort}
use Rattle.sk_def.specs.declared.sorts.VarSort.{VarSort}
use Rattle.sk_def.specs.declared.sorts.VarSort.TheVariants.{Flow}
use Rattle.sk_def.specs.Fits.{DefinitionFits}
use Rattle.sk_sort.specs.Rules.{arg_sort}
use Rattle.sk_sort.specs.Definition.{first_fault}
use Rattle.sk_reasons.specs.Defined.{DefinedAfter}
use Rattle.sk_reasons.specs.BonesSorted.{AreDefined, BonesAreSorted}

-- the header gives a term variable the sort of the constructor's argument at the same place, and an input variable that
-- of the hook's input
abbrev pub HeaderGives : Rule → Hook → Con → Var → VarSort → Type 0
HeaderGives rule hook con v s =
    ((i : ℕ) × (arg : ArgSort) × (slice_get rule.terms i ≡ Some v) × (slice_get con.args i ≡ Some arg) × (arg_sort arg ≡ s))
    ⊎ ((i : ℕ) × (flow : FlowSort) × (slice_get rule.inputs i ≡ Some v) × (slice_get hook.inputs i ≡ Some flow) × (Flow flow ≡ s))

-- A rule is good: its hook evaluates terms of its constructor's sort, the header has a variable for each argument and
-- each input, all of them different, each bone is well sorted, and after the bones the outputs are defined with the sorts
-- of the hook's outputs.
pub record RuleIsGood (d : Def) (rule : Rule) : Type 0 where
  pub hook : Hook
  pub con : Con
  pub hook_is : slice_get d.hooks rule.hook.0 ≡ Some hook
  pub con_is : slice_get d.cons rule.con.0 ≡ Some con
  pub sorts_agree : con.sort ≡ hook.sort
  pub terms_counted : length rule.terms ≡ length con.args
  pub inputs_counted : length rule.inputs ≡ length hook.inputs
  pub different : (i j : ℕ) (v : Var) → slice_get (rule.terms ++ rule.inputs) i ≡ Some v → slice_get (rule.terms ++ rule.inputs) j ≡ Some v → i ≡ j
  pub bones : BonesAreSorted d con.sort (HeaderGives rule hook con) rule.bones
  pub outputs : AreDefined (DefinedAfter d (HeaderGives rule hook con) rule.bones) rule.outputs (map Flow hook.outputs)

-- A definition is good: it is within its limits, each rule is good, and each hook has just one rule for each constructor
-- of its sort.
pub record DefinitionIsGood (d : Def) : Type 0 where
  pub fits : DefinitionFits d
  pub rules_good : (place : ℕ) (rule : Rule) → slice_get d.rules place ≡ Some rule → RuleIsGood d rule
  pub complete : (hook : HookId) (con : ConId) (h : Hook) (c : Con) → slice_get d.hooks hook.0 ≡ Some h → slice_get d.cons con.0 ≡ Some c → c.sort ≡ h.sort →
      (place : ℕ) × (rule : Rule) × (slice_get d.rules place ≡ Some rule) × (rule.hook ≡ hook) × (rule.con ≡ con)
  pub different : (i j : ℕ) (rule other : Rule) → slice_get d.rules i ≡ Some rule → slice_get d.rules j ≡ Some other →
      rule.hook ≡ other.hook → rule.con ≡ other.con → i ≡ j

-- a definition has no fault exactly where it is good
abbrev pub GoodHasNoFault : Type 0
GoodHasNoFault = (d : Def) → (first_fault d ≡ None) ↔ DefinitionIsGood d
