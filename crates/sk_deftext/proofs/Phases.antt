-- Where a reader stands in a rule, as what it expects says: which lists of the draft are empty there.
use Rattle.std.specs.Prelude.{◌≡◌, ℕ, suc, ◌<◌, ◌≤◌, Bool, true, false, List, [], ◌∷◌, ◌++◌, length, All, Option, Some, None}
use Rattle.sk_def.specs.Fits.{HasFewBranches}
use Rattle.sk_def.specs.declared.ids.Var.{Var}
use Rattle.sk_def.specs.declared.bone.Bone.{Bone}
use Rattle.sk_def.specs.declared.bone.Target.{Target}
use Rattle.sk_def.specs.declared.bone.Target.TheVariants.{Own}
use Rattle.sk_def.specs.declared.def.Rule.{Rule}
use Rattle.sk_deftext.specs.Written.{IsInOrder, Appear, target_vars}
use Rattle.sk_deftext.specs.declared.draft.Draft.{Draft}
use Rattle.sk_deftext.specs.declared.draft.OpenBone.{OpenBone}
use Rattle.sk_deftext.specs.declared.draft.BoneHead.{BoneHead}
use Rattle.sk_deftext.specs.declared.draft.BoneHead.TheVariants as head
use Rattle.sk_deftext.specs.declared.expected.Expected.{Expected}
use Rattle.sk_deftext.specs.declared.expected.Expected.TheVariants as expected
use Rattle.sk_deftext.specs.declared.expected.Listed.{Listed}
use Rattle.sk_deftext.specs.declared.expected.Listed.TheVariants as listed
use Rattle.sk_deftext.specs.declared.expected.Body.TheVariants as body_of
use Rattle.sk_deftext.proofs.Traces.{vars_of, inner_vars}

-- Outside the rules and before a rule's terms, before its inputs, among bones in so many branch bones, between two
-- branches, and in a bone: before its arguments, after them, and after its target. A bone may be a hook bone.
pub data Phase : Type 0 where
  idle : Phase
  termed : Phase
  among : ℕ → Phase
  between : ℕ → Phase
  begun : Bool → ℕ → Phase
  argued : Bool → ℕ → Phase
  aimed : ℕ → Phase

-- from which phase to which a list leads, and what is expected
pub data Lists : Listed → Phase → Phase → Type 0 where
  for_arguments : {p : Phase} → Lists listed.Arguments p p
  for_inputs : {p : Phase} → Lists listed.Inputs p p
  for_outputs : {p : Phase} → Lists listed.Outputs p p
  for_terms : Lists listed.Terms idle termed
  for_rule_inputs : Lists listed.RuleInputs termed (among 0)
  for_args : {b : Bool} {n : ℕ} → Lists listed.BoneArgs (begun b n) (argued b n)
  for_outs : {n : ℕ} → Lists listed.BoneOuts (aimed n) (among n)
  for_exports : {n : ℕ} → Lists listed.Exports (between (suc n)) (among n)
  for_rule_outputs : Lists listed.RuleOutputs (among 0) idle

pub data Takes : Expected → Phase → Phase → Type 0 where
  at_skel : {p : Phase} → Takes expected.Skel p p
  at_version : {p : Phase} → Takes expected.Version p p
  at_item : Takes expected.Item idle idle
  at_sort_name : {p : Phase} → Takes expected.SortName p p
  at_con_name : {p : Phase} → Takes expected.ConName p p
  at_hook_name : {p : Phase} → Takes expected.HookName p p
  at_colon : {p : Phase} → Takes expected.Colon p p
  at_arrow : {p : Phase} → Takes expected.Arrow p p
  at_last_arrow : {b : Bool} {n : ℕ} → Takes expected.Arrow (argued b n) (aimed n)
  at_open : {p : Phase} → Takes expected.Open p p
  at_sort_used : {p : Phase} → Takes expected.SortUsed p p
  at_first : {l : Listed} {p q : Phase} → Lists l p q → Takes (expected.First l) p q
  at_more : {l : Listed} {p q : Phase} → Lists l p q → Takes (expected.More l) p q
  at_next : {l : Listed} {p q : Phase} → Lists l p q → Takes (expected.Next l) p q
  at_rule_hook : {p : Phase} → Takes expected.RuleHook p p
  at_rule_con : {p : Phase} → Takes expected.RuleCon p p
  at_left_brace : {p : Phase} → Takes expected.LeftBrace p p
  at_rule_bones : {n : ℕ} → Takes (expected.Bones body_of.Rule) (among n) (among n)
  at_branch_bones : {n : ℕ} → Takes (expected.Bones body_of.Branch) (among n) (between n)
  at_bone_target : {n : ℕ} → Takes expected.BoneTarget (argued true n) (aimed n)
  at_branch_open : {n : ℕ} → Takes expected.BranchOpen (between n) (among n)
  at_or_first : {p : Phase} → Takes expected.OrFirst p p
  at_or_more : {n : ℕ} → Takes expected.OrMore (between (suc n)) (among n)
  at_closing : {p : Phase} → Takes expected.Closing p p

pub data Path : Phase → List Expected → Phase → Type 0 where
  here : {p : Phase} → Path p [] p
  onto : {p q r : Phase} {one : Expected} {after : List Expected} → Takes one p q → Path q after r → Path p (one ∷ after) r

pub both_paths : {p q r : Phase} {xs : List Expected} (ys : List Expected) → Path p xs q → Path q ys r → Path p (xs ++ ys) r
both_paths ys here later = later
both_paths ys (onto t first) later = onto t (both_paths ys first later)

-- a branch bone that has room for one more branch; so many of them, and the innermost between two branches
abbrev pub HasRoom : OpenBone → Type 0
HasRoom one = length one.counts < 8

pub record Inside (n : ℕ) (unclosed : List OpenBone) : Type 0 where
  pub depth : length unclosed ≡ n
  pub room : All HasRoom unclosed

abbrev pub OuterHaveRoom : List OpenBone → Type 0
OuterHaveRoom [] = Unit {0}
OuterHaveRoom (one ∷ outer) = (length one.counts ≤ 8) × All HasRoom outer

pub record Paused (n : ℕ) (unclosed : List OpenBone) : Type 0 where
  pub depth : length unclosed ≡ n
  pub room : OuterHaveRoom unclosed

abbrev pub is_call : Option BoneHead → Bool
is_call None = false
is_call (Some (head.Filter filter)) = false
is_call (Some (head.Hook hook)) = true

-- what a phase says of the draft's lists
abbrev pub Shape : Phase → List Var → List Var → List OpenBone → List Bone → List Var → Option BoneHead → Target → List Var → Type 0
Shape idle terms inputs unclosed bones args opened target list = (terms ≡ []) × (inputs ≡ []) × (unclosed ≡ []) × (bones ≡ []) × (args ≡ []) × (opened ≡ None)
Shape termed terms inputs unclosed bones args opened target list = (inputs ≡ []) × (unclosed ≡ []) × (bones ≡ []) × (args ≡ []) × (opened ≡ None)
Shape (among n) terms inputs unclosed bones args opened target list = Inside n unclosed × (args ≡ []) × (opened ≡ None)
Shape (between n) terms inputs unclosed bones args opened target list = Paused n unclosed × (bones ≡ []) × (args ≡ []) × (opened ≡ None)
Shape (begun b n) terms inputs unclosed bones args opened target list = Inside n unclosed × (args ≡ []) × (target ≡ Own) × (is_call opened ≡ b)
Shape (argued b n) terms inputs unclosed bones args opened target list = Inside n unclosed × (target ≡ Own) × (list ≡ []) × (is_call opened ≡ b)
Shape (aimed n) terms inputs unclosed bones args opened target list = Inside n unclosed

abbrev pub In : Phase → Draft → Type 0
In p draft = Shape p draft.terms draft.rule_inputs draft.unclosed draft.bones draft.bone_args draft.opened draft.target draft.listed

-- the variables of a rule that is being read, as they came in the text
abbrev pub target_part : Option BoneHead → Target → List Var
target_part None target = []
target_part (Some (head.Filter filter)) target = []
target_part (Some (head.Hook hook)) target = target_vars target

abbrev pub unclosed_vars : List OpenBone → List Var
unclosed_vars [] = []
unclosed_vars (one ∷ outer) = unclosed_vars outer ++ (vars_of one.before ++ inner_vars one.counts one.inside)

abbrev pub trace : List Var → List Var → List OpenBone → List Bone → List Var → Option BoneHead → Target → List Var → List Var
trace terms inputs unclosed bones args opened target list =
    terms ++ (inputs ++ (unclosed_vars unclosed ++ (vars_of bones ++ (args ++ (target_part opened target ++ list)))))

abbrev pub came : Draft → List Var
came draft = trace draft.terms draft.rule_inputs draft.unclosed draft.bones draft.bone_args draft.opened draft.target draft.listed

abbrev pub UnclosedFew : List OpenBone → Type 0
UnclosedFew [] = Unit {0}
UnclosedFew (one ∷ outer) = All HasFewBranches one.before × All HasFewBranches one.inside × UnclosedFew outer

-- the rules that were read are in order, and the one that is being read
pub record OrderedOf (rules : List Rule) (vars : ℕ) (terms inputs : List Var) (unclosed : List OpenBone) (bones : List Bone) (args : List Var) (opened : Option BoneHead) (target : Target) (list : List Var) : Type 0 where
  pub in_order : All IsInOrder rules
  pub appear : Appear 0 (trace terms inputs unclosed bones args opened target list) vars
  pub few : All HasFewBranches bones
  pub unclosed_few : UnclosedFew unclosed

abbrev pub Ordered : Draft → Type 0
Ordered draft =
    OrderedOf draft.def.rules (length draft.vars) draft.terms draft.rule_inputs draft.unclosed draft.bones draft.bone_args draft.opened draft.target draft.listed
