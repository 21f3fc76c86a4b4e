-- Which definitions are within their limits, with each number of them one of its lists.
use Rattle.std.specs.Prelude.{ℕ, zero, suc, ◌-◌, ◌<◌, ◌≤◌, Bool, true, false, ◌&&◌, nat_lt, nat_le, List, [], ◌∷◌, length, sum, All}
use Rattle.std.specs.List.{list_all}
use Rattle.sk_def.specs.declared.sorts.ArgSort.{ArgSort}
use Rattle.sk_def.specs.declared.sorts.ArgSort.TheVariants as arg
use Rattle.sk_def.specs.declared.def.Con.{Con}
use Rattle.sk_def.specs.declared.def.Hook.{Hook}
use Rattle.sk_def.specs.declared.def.Rule.{Rule}
use Rattle.sk_def.specs.declared.def.Def.{Def}
use Rattle.sk_def.specs.declared.ids.Var.{Var}
use Rattle.sk_def.specs.declared.bone.Target.{Target}
use Rattle.sk_def.specs.declared.bone.Target.TheVariants.{Own, Sub}
use Rattle.sk_def.specs.declared.bone.Bone.{Bone}
use Rattle.sk_def.specs.declared.bone.Bone.TheVariants.{Apply, Call, Either}
use Rattle.sk_def.specs.Layout.{AreBelow, BonesFit, branch, branch_places, after_branches}

-- a term sort that an argument names is declared
abbrev pub ArgumentFits : ℕ → ArgSort → Type 0
ArgumentFits sorts (arg.Term sort) = sort.0 < sorts
ArgumentFits sorts arg.Number = Unit {0}
ArgumentFits sorts arg.Name = Unit {0}

-- the sorts that a constructor names are declared, and it has at most 8 arguments
pub record ConstructorFits (sorts : ℕ) (con : Con) : Type 0 where
  pub sort_declared : con.sort.0 < sorts
  pub few_arguments : length con.args ≤ 8
  pub arguments_declared : All (ArgumentFits sorts) con.args

-- the sort that a hook names is declared, and it has at most 4 inputs and 4 outputs
pub record HookFits (sorts : ℕ) (hook : Hook) : Type 0 where
  pub sort_declared : hook.sort.0 < sorts
  pub few_inputs : length hook.inputs ≤ 4
  pub few_outputs : length hook.outputs ≤ 4

-- the numbers that a rule names exist, it has at most 64 variables and 64 bones, and its bones lie as they must,
-- nested at most 8
pub record RuleFits (d : Def) (rule : Rule) : Type 0 where
  pub hook_declared : rule.hook.0 < length d.hooks
  pub con_declared : rule.con.0 < length d.cons
  pub few_variables : length rule.vars ≤ 64
  pub terms_below : AreBelow (length rule.vars) rule.terms
  pub inputs_below : AreBelow (length rule.vars) rule.inputs
  pub outputs_below : AreBelow (length rule.vars) rule.outputs
  pub few_bones : length rule.bones ≤ 64
  pub bones_fit : BonesFit (length d.hooks) (length rule.vars) 8 rule.bones

-- each list of variables of a bone has at most 8 entries
abbrev pub ListsAreShort : Bone → Type 0
ListsAreShort (Apply filter args outs) = (length args ≤ 8) × (length outs ≤ 8)
ListsAreShort (Call id args target outs) = (length args ≤ 8) × (length outs ≤ 8)
ListsAreShort (Either counts exports) = length exports ≤ 8

-- a branch bone has at most 8 branches
abbrev pub HasFewBranches : Bone → Type 0
HasFewBranches (Either counts exports) = length counts ≤ 8
HasFewBranches other = Unit {0}

-- each list of variables of a rule and of its bones has at most 8 entries, and its branch bones have at most 8 branches
pub record RuleIsShort (rule : Rule) : Type 0 where
  pub few_terms : length rule.terms ≤ 8
  pub few_inputs : length rule.inputs ≤ 8
  pub few_outputs : length rule.outputs ≤ 8
  pub lists_short : All ListsAreShort rule.bones
  pub few_branches : All HasFewBranches rule.bones

-- a definition is within the limits, and each number in it is of its lists
pub record DefinitionFits (d : Def) : Type 0 where
  pub few_sorts : length d.sorts ≤ 16
  pub few_constructors : length d.cons ≤ 128
  pub few_hooks : length d.hooks ≤ 8
  pub constructors_fit : All (ConstructorFits (length d.sorts)) d.cons
  pub hooks_fit : All (HookFits (length d.sorts)) d.hooks
  pub rules_fit : All (RuleFits d) d.rules
  pub rules_short : All RuleIsShort d.rules

-- The same as tests.

-- each variable lies below the number of variables
abbrev pub are_below : ℕ → List Var → Bool
are_below vars vs = list_all (λ (v : Var). nat_lt v.0 vars) vs

abbrev pub target_is_below : ℕ → Target → Bool
target_is_below vars Own = true
target_is_below vars (Sub v) = nat_lt v.0 vars

-- at most `size` bones lie as they must
abbrev pub bones_fit : ℕ → ℕ → ℕ → ℕ → List Bone → Bool
bones_fit hooks vars size nesting [] = true
bones_fit hooks vars zero nesting (bone ∷ bones) = false
bones_fit hooks vars (suc size) nesting (Apply filter args outs ∷ bones) =
    are_below vars args && are_below vars outs && bones_fit hooks vars size nesting bones
bones_fit hooks vars (suc size) nesting (Call id args target outs ∷ bones) =
    nat_lt id.0 hooks && are_below vars args && target_is_below vars target && are_below vars outs && bones_fit hooks vars size nesting bones
bones_fit hooks vars (suc size) nesting (Either counts exports ∷ bones) =
    nat_lt 0 nesting && nat_le 2 (length counts) && nat_le (sum counts) (length bones) && are_below vars exports
    && list_all (λ k. bones_fit hooks vars size (nesting - 1) (branch counts k bones)) (branch_places 0 counts)
    && bones_fit hooks vars size nesting (after_branches counts bones)

abbrev pub argument_fits : ℕ → ArgSort → Bool
argument_fits sorts (arg.Term sort) = nat_lt sort.0 sorts
argument_fits sorts arg.Number = true
argument_fits sorts arg.Name = true

abbrev pub constructor_fits : ℕ → Con → Bool
constructor_fits sorts con = nat_lt con.sort.0 sorts && nat_le (length con.args) 8 && list_all (argument_fits sorts) con.args

abbrev pub hook_fits : ℕ → Hook → Bool
hook_fits sorts hook = nat_lt hook.sort.0 sorts && nat_le (length hook.inputs) 4 && nat_le (length hook.outputs) 4

abbrev pub rule_fits : Def → Rule → Bool
rule_fits d rule =
    nat_lt rule.hook.0 (length d.hooks) && nat_lt rule.con.0 (length d.cons) && nat_le (length rule.vars) 64
    && are_below (length rule.vars) rule.terms && are_below (length rule.vars) rule.inputs && are_below (length rule.vars) rule.outputs
    && nat_le (length rule.bones) 64 && bones_fit (length d.hooks) (length rule.vars) (length rule.bones) 8 rule.bones

abbrev pub lists_are_short : Bone → Bool
lists_are_short (Apply filter args outs) = nat_le (length args) 8 && nat_le (length outs) 8
lists_are_short (Call id args target outs) = nat_le (length args) 8 && nat_le (length outs) 8
lists_are_short (Either counts exports) = nat_le (length exports) 8

abbrev pub has_few_branches : Bone → Bool
has_few_branches (Either counts exports) = nat_le (length counts) 8
has_few_branches other = true

abbrev pub rule_is_short : Rule → Bool
rule_is_short rule =
    nat_le (length rule.terms) 8 && nat_le (length rule.inputs) 8 && nat_le (length rule.outputs) 8
    && list_all lists_are_short rule.bones && list_all has_few_branches rule.bones

abbrev pub definition_fits : Def → Bool
definition_fits d =
    nat_le (length d.sorts) 16 && nat_le (length d.cons) 128 && nat_le (length d.hooks) 8
    && list_all (constructor_fits (length d.sorts)) d.cons && list_all (hook_fits (length d.sorts)) d.hooks && list_all (rule_fits d) d.rules
    && list_all rule_is_short d.rules
