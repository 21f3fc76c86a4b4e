-- Rules: their headers, and bones with branches.
use Rattle.std.specs.Prelude.{ℕ, nat_lt, Bool, true, if◌then◌else◌, List, [], ◌∷◌, ◌++◌, length, option_map, Option, Some, None, Err}
use Rattle.sk_base.specs.Names.{with_name}
use Rattle.sk_def.specs.Named.{place_of_con, place_of_hook}
use Rattle.sk_def.specs.Filters.{filter_named}
use Rattle.sk_def.specs.declared.filter.Filter.{Filter}
use Rattle.sk_def.specs.declared.ids.HookId.{HookId}
use Rattle.sk_def.specs.declared.ids.ConId.{ConId}
use Rattle.sk_def.specs.declared.ids.Var.{Var}
use Rattle.sk_def.specs.declared.def.Con.{Con}
use Rattle.sk_def.specs.declared.def.Hook.{Hook}
use Rattle.sk_def.specs.declared.bone.Target.{Target}
use Rattle.sk_def.specs.declared.bone.Target.TheVariants.{Own, Sub}
use Rattle.sk_def.specs.declared.bone.Bone.{Bone}
use Rattle.sk_def.specs.declared.bone.Bone.TheVariants.{Apply, Call, Either}
use Rattle.sk_deftext.specs.Met.{Met, met}
use Rattle.sk_deftext.specs.Words.{keyword_of}
use Rattle.sk_deftext.specs.declared.draft.Draft.{Draft}
use Rattle.sk_deftext.specs.declared.draft.OpenBone.{OpenBone}
use Rattle.sk_deftext.specs.declared.draft.BoneHead.{BoneHead}
use Rattle.sk_deftext.specs.declared.draft.BoneHead.TheVariants as head
use Rattle.sk_deftext.specs.declared.expected.Body.{Body}
use Rattle.sk_deftext.specs.declared.expected.Body.TheVariants.{Rule, Branch}
use Rattle.sk_deftext.specs.declared.expected.Listed.{Listed}
use Rattle.sk_deftext.specs.declared.expected.Listed.TheVariants.{BoneArgs, BoneOuts, Exports}
use Rattle.sk_deftext.specs.declared.expected.Expected.{Expected}
use Rattle.sk_deftext.specs.declared.expected.Expected.TheVariants.{Open, Arrow, First, More, Bones, BoneTarget, BranchOpen, OrFirst, OrMore}
use Rattle.sk_deftext.specs.declared.fault.DefError.TheVariants.{Unexpected, Unknown, TooMany}
use Rattle.sk_deftext.specs.declared.fault.Which.TheVariants as which
use Rattle.sk_deftext.specs.declared.bone.Opening.{Opening}
use Rattle.sk_deftext.specs.declared.bone.Opening.TheVariants as opening
use Rattle.sk_deftext.specs.declared.word.Keyword.{Keyword}
use Rattle.sk_deftext.specs.declared.word.Keyword.TheVariants as keyword

-- the hook of a name, and the constructor
abbrev pub hook_named : List Hook → List ℕ → Option HookId
hook_named hooks word = option_map (λ place. record { 0 = place }) (place_of_hook hooks word)

abbrev pub con_named : List Con → List ℕ → Option ConId
con_named cons word = option_map (λ place. record { 0 = place }) (place_of_con cons word)

abbrev pub with_hook : Draft → Option HookId → Met
with_hook draft None = Err Unknown
with_hook draft (Some hook) = met (record draft { hook = Some hook }) []

unfoldable pub rule_hook : Draft → Option (List ℕ) → Met
rule_hook draft None = Err Unexpected
rule_hook draft (Some word) = with_hook draft (hook_named draft.def.hooks word)

abbrev pub with_con : Draft → Option ConId → Met
with_con draft None = Err Unknown
with_con draft (Some con) = met (record draft { con = Some con }) []

unfoldable pub rule_con : Draft → Option (List ℕ) → Met
rule_con draft None = Err Unexpected
rule_con draft (Some word) = with_con draft (con_named draft.def.cons word)

-- a variable of a list, among the rule's variables by first appearance
abbrev pub with_variable : Draft → Listed → Option (ℕ × List (List ℕ)) → Met
with_variable draft list None = Err (TooMany which.Variables)
with_variable draft list (Some (place, vars)) = met (record draft { vars = vars; listed = draft.listed ++ record { 0 = place } ∷ [] }) (More list ∷ [])

unfoldable pub variable : Draft → Listed → Option (List ℕ) → Met
variable draft list None = Err Unexpected
variable draft list (Some word) =
    if nat_lt (length draft.listed) 8 then with_variable draft list (with_name draft.vars word) else Err (TooMany which.Arguments)

-- what a word is at the start of a bone
abbrev pub opened_by : Option Filter → Option Keyword → Option HookId → Opening
opened_by (Some filter) key hook = opening.Filter filter
opened_by None (Some keyword.Either) hook = opening.Branches
opened_by None (Some other) hook = opening.Keyword
opened_by None None (Some hook) = opening.Hook hook
opened_by None None None = opening.Unknown

unfoldable pub opening_of : List Hook → List ℕ → Opening
opening_of hooks word = opened_by (filter_named word) (keyword_of word) (hook_named hooks word)

-- a filter or hook bone begins at a place; its parts come later
abbrev pub with_head : Draft → ℕ → BoneHead → List Expected → Met
with_head draft at head expected = met (record draft { opened = Some head; marks = draft.marks ++ at ∷ []; target = Own }) expected

-- a branch bone begins: its branches are lists of their own
abbrev pub with_branches : Draft → ℕ → List Expected → Met
with_branches draft at expected =
    if nat_lt (length draft.unclosed) 8
    then met (record draft { unclosed = record { before = draft.bones; counts = []; inside = [] } ∷ draft.unclosed; bones = []; marks = draft.marks ++ at ∷ [] }) expected
    else Err (TooMany which.Nesting)

abbrev pub begun : Draft → Body → ℕ → Opening → Met
begun draft body at opening.Keyword = Err Unexpected
begun draft body at opening.Unknown = Err Unknown
begun draft body at (opening.Filter filter) = with_head draft at (head.Filter filter) (Open ∷ First BoneArgs ∷ Arrow ∷ Open ∷ First BoneOuts ∷ Bones body ∷ [])
begun draft body at (opening.Hook hook) = with_head draft at (head.Hook hook) (Open ∷ First BoneArgs ∷ BoneTarget ∷ Arrow ∷ Open ∷ First BoneOuts ∷ Bones body ∷ [])
begun draft body at opening.Branches = with_branches draft at (BranchOpen ∷ Bones Branch ∷ OrFirst ∷ BranchOpen ∷ Bones Branch ∷ OrMore ∷ Bones body ∷ [])

-- a bone begins only where there is room; a keyword needs none, since it begins no bone and is refused
abbrev pub may_begin : Opening → Bool → Bool
may_begin opening.Keyword room = true
may_begin other room = room

unfoldable pub bone : Draft → Body → ℕ → Option (List ℕ) → Met
bone draft body at None = Err Unexpected
bone draft body at (Some word) =
    if may_begin (opening_of draft.def.hooks word) (nat_lt (length draft.marks) 64) then begun draft body at (opening_of draft.def.hooks word) else Err (TooMany which.Bones)

-- `self`, or the variable of the term that a hook bone evaluates
abbrev pub with_target : Draft → Option (ℕ × List (List ℕ)) → Met
with_target draft None = Err (TooMany which.Variables)
with_target draft (Some (place, vars)) = met (record draft { vars = vars; target = Sub (record { 0 = place }) }) []

abbrev pub target_word : Draft → List ℕ → Option Keyword → Met
target_word draft word None = with_target draft (with_name draft.vars word)
target_word draft word (Some keyword.Own) = met draft []
target_word draft word (Some other) = Err Unexpected

unfoldable pub target : Draft → Option (List ℕ) → Met
target draft None = Err Unexpected
target draft (Some word) = target_word draft word (keyword_of word)

-- a branch begins in the innermost branch bone, and ends
abbrev pub branch_begun : Draft → List OpenBone → Met
branch_begun draft [] = Err Unexpected
branch_begun draft (one ∷ outer) = if nat_lt (length one.counts) 8 then met draft [] else Err (TooMany which.Branches)

abbrev pub branch_ended : Draft → List OpenBone → Met
branch_ended draft [] = Err Unexpected
branch_ended draft (one ∷ outer) = met (record draft {
  unclosed = record { before = one.before; counts = one.counts ++ length draft.bones ∷ []; inside = one.inside ++ draft.bones } ∷ outer;
  bones = [];
}) []

-- the `}` after bones
unfoldable pub closing_brace : Draft → Body → Met
closing_brace draft Rule = met draft []
closing_brace draft Branch = branch_ended draft draft.unclosed

-- `or` after the first branch, and `or` or `with` after a later one
unfoldable pub or_first : Draft → Option Keyword → Met
or_first draft (Some keyword.Or) = met draft []
or_first draft other = Err Unexpected

unfoldable pub or_more : Draft → Option Keyword → Met
or_more draft (Some keyword.Or) = met draft (BranchOpen ∷ Bones Branch ∷ OrMore ∷ [])
or_more draft (Some keyword.With) = met draft (Open ∷ First Exports ∷ [])
or_more draft other = Err Unexpected

-- what becomes of a list of variables at its end
abbrev pub listed_terms : Draft → Draft
listed_terms draft = record draft { terms = draft.listed; listed = [] }

abbrev pub listed_inputs : Draft → Draft
listed_inputs draft = record draft { rule_inputs = draft.listed; listed = [] }

abbrev pub with_args : Draft → Draft
with_args draft = record draft { bone_args = draft.listed; listed = [] }

-- a filter or hook bone of its parts
abbrev pub bone_of : BoneHead → List Var → Target → List Var → Bone
bone_of (head.Filter filter) args target outs = Apply filter args outs
bone_of (head.Hook hook) args target outs = Call hook args target outs

-- a bone that ends goes last in its list
abbrev pub finished_bone : Draft → Option BoneHead → Met
finished_bone draft None = Err Unexpected
finished_bone draft (Some first) = met (record draft {
  bones = draft.bones ++ bone_of first draft.bone_args draft.target draft.listed ∷ [];
  opened = None;
  bone_args = [];
  listed = [];
}) []

-- a branch bone has at least two branches, and they follow it
abbrev pub finished_branches : Draft → List OpenBone → Met
finished_branches draft [] = Err Unexpected
finished_branches draft (one ∷ outer) =
    if nat_lt (length one.counts) 2 then Err Unexpected
    else met (record draft { bones = one.before ++ Either one.counts draft.listed ∷ one.inside; unclosed = outer; listed = [] }) []

abbrev pub finished_rule : Draft → Option HookId → Option ConId → Met
finished_rule draft None con = Err Unexpected
finished_rule draft (Some hook) None = Err Unexpected
finished_rule draft (Some hook) (Some con) = met (record draft {
  def = record draft.def {
    rules = draft.def.rules ++ record {
      hook = hook;
      con = con;
      vars = draft.vars;
      terms = draft.terms;
      inputs = draft.rule_inputs;
      bones = draft.bones;
      outputs = draft.listed;
    } ∷ [];
  };
  rules = draft.rules ++ (draft.begun ∷ (draft.marks ++ draft.closing ∷ [])) ∷ [];
  vars = [];
  terms = [];
  rule_inputs = [];
  marks = [];
  bones = [];
  unclosed = [];
  opened = None;
  bone_args = [];
  target = Own;
  listed = [];
}) []
