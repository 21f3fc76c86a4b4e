-- What holds of a draft at each token: it is within the limits, and each number in it is of its lists.
use Rattle.std.specs.Prelude.{◌≡◌, ℕ, suc, ◌+◌, ◌-◌, ◌<◌, ◌≤◌, List, [], ◌∷◌, length, sum, All, IfSome, Option}
use Rattle.sk_base.specs.declared.flow.FlowSort.{FlowSort}
use Rattle.sk_def.specs.Layout.{AreBelow, TargetIsBelow, BonesFit, BranchesFit}
use Rattle.sk_def.specs.Fits.{ArgumentFits, ConstructorFits, HookFits, RuleFits}
use Rattle.sk_def.specs.declared.def.Rule.{Rule}
use Rattle.sk_def.specs.declared.def.Def.{Def}
use Rattle.sk_def.specs.declared.ids.SortId.{SortId}
use Rattle.sk_def.specs.declared.ids.HookId.{HookId}
use Rattle.sk_def.specs.declared.ids.ConId.{ConId}
use Rattle.sk_def.specs.declared.ids.Var.{Var}
use Rattle.sk_def.specs.declared.sorts.ArgSort.{ArgSort}
use Rattle.sk_def.specs.declared.bone.Bone.{Bone}
use Rattle.sk_def.specs.declared.bone.Target.{Target}
use Rattle.sk_deftext.specs.Meets.{held, count_of}
use Rattle.sk_deftext.specs.declared.draft.Draft.{Draft}
use Rattle.sk_deftext.specs.declared.draft.OpenBone.{OpenBone}
use Rattle.sk_deftext.specs.declared.draft.BoneHead.{BoneHead}
use Rattle.sk_deftext.specs.declared.draft.BoneHead.TheVariants as head

-- the definition so far is within the limits, those on lists of variables and on branches left aside, and each number in it is of its lists
pub record DefinitionStands (d : Def) : Type 0 where
  pub few_sorts : length d.sorts ≤ 16
  pub few_constructors : length d.cons ≤ 128
  pub few_hooks : length d.hooks ≤ 8
  pub constructors_fit : All (ConstructorFits (length d.sorts)) d.cons
  pub hooks_fit : All (HookFits (length d.sorts)) d.hooks
  pub rules_fit : All (RuleFits d) d.rules

-- where a constructor or a hook is being read there is room for it
pub record Named (cons hooks : ℕ) (con_name hook_name : Option (List ℕ)) : Type 0 where
  pub con_room : IfSome con_name (λ _. cons < 128)
  pub hook_room : IfSome hook_name (λ _. hooks < 8)

pub record Heads (sorts : ℕ) (sort : Option SortId) (args : List ArgSort) (inputs outputs : List FlowSort) : Type 0 where
  pub sort_declared : IfSome sort (λ (s : SortId). s.0 < sorts)
  pub few_args : length args ≤ 8
  pub args_declared : All (ArgumentFits sorts) args
  pub few_inputs : length inputs ≤ 4
  pub few_outputs : length outputs ≤ 4

pub record RuleHeads (hooks cons : ℕ) (hook : Option HookId) (con : Option ConId) : Type 0 where
  pub hook_declared : IfSome hook (λ (h : HookId). h.0 < hooks)
  pub con_declared : IfSome con (λ (c : ConId). c.0 < cons)

abbrev pub HeadFits : ℕ → BoneHead → Type 0
HeadFits hooks (head.Filter filter) = Unit {0}
HeadFits hooks (head.Hook hook) = hook.0 < hooks

pub record Variables (hooks vars : ℕ) (terms inputs args listed : List Var) (target : Target) (opened : Option BoneHead) : Type 0 where
  pub few : vars ≤ 64
  pub terms_below : AreBelow vars terms
  pub inputs_below : AreBelow vars inputs
  pub args_below : AreBelow vars args
  pub listed_below : AreBelow vars listed
  pub target_below : TargetIsBelow vars target
  pub opened_fits : IfSome opened (HeadFits hooks)

pub record OneFits (hooks vars level : ℕ) (one : OpenBone) : Type 0 where
  pub before_fits : BonesFit hooks vars (suc level) one.before
  pub inside_fits : BranchesFit hooks vars level one.counts one.inside
  pub counts_are : sum one.counts ≡ length one.inside

abbrev pub UnclosedFit : ℕ → ℕ → List OpenBone → Type 0
UnclosedFit hooks vars [] = Unit {0}
UnclosedFit hooks vars (one ∷ outer) = OneFits hooks vars (7 - length outer) one × UnclosedFit hooks vars outer

pub record Bodies (hooks vars : ℕ) (bones : List Bone) (unclosed : List OpenBone) : Type 0 where
  pub nesting : length unclosed ≤ 8
  pub bones_fit : BonesFit hooks vars (8 - length unclosed) bones
  pub unclosed_fit : UnclosedFit hooks vars unclosed

pub record Counted (marks : List ℕ) (bones : List Bone) (unclosed : List OpenBone) (opened : Option BoneHead) : Type 0 where
  pub few : length marks ≤ 64
  pub counted : held unclosed + length bones + count_of opened ≤ length marks

-- each part of each rule has its mark
abbrev pub RulesPlaced : {A : Type 0} → List (List A) → List Rule → Type 0
RulesPlaced [] [] = Unit {0}
RulesPlaced [] (rule ∷ rules) = ⊥
RulesPlaced (marks ∷ others) [] = ⊥
RulesPlaced (marks ∷ others) (rule ∷ rules) = (length rule.bones + 2 ≤ length marks) × RulesPlaced others rules

pub record Placed (hook_marks : List ℕ) (rule_marks : List (List ℕ)) (hooks : ℕ) (rules : List Rule) : Type 0 where
  pub hooks_placed : length hook_marks ≡ hooks
  pub rules_placed : RulesPlaced rule_marks rules

pub record Standing (draft : Draft) : Type 0 where
  pub definition : DefinitionStands draft.def
  pub named : Named (length draft.def.cons) (length draft.def.hooks) draft.con_name draft.hook_name
  pub heads : Heads (length draft.def.sorts) draft.sort draft.args draft.inputs draft.outputs
  pub rule_heads : RuleHeads (length draft.def.hooks) (length draft.def.cons) draft.hook draft.con
  pub variables : Variables (length draft.def.hooks) (length draft.vars) draft.terms draft.rule_inputs draft.bone_args draft.listed draft.target draft.opened
  pub bodies : Bodies (length draft.def.hooks) (length draft.vars) draft.bones draft.unclosed
  pub counted : Counted draft.marks draft.bones draft.unclosed draft.opened
  pub placed : Placed draft.hooks draft.rules (length draft.def.hooks) draft.def.rules
