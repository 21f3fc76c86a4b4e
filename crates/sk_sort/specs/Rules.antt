-- The parts of a rule, and its checks.
use Rattle.std.specs.Prelude.{◌≡◌, ◌+◌, not, ◌==◌, List, [], ◌∷◌, ◌++◌, length, map, Option, Some, None, Result, slice_get}
use Rattle.std.specs.List.{list_any, enumerate_from}
use Rattle.std.specs.List.Sorted.{IsPermutation}
use Rattle.sk_base.specs.declared.flow.FlowSort.{FlowSort}
use Rattle.sk_def.specs.declared.sorts.ArgSort.{ArgSort}
use Rattle.sk_def.specs.declared.sorts.ArgSort.TheVariants as arg
use Rattle.sk_def.specs.declared.sorts.VarSort.{VarSort}
use Rattle.sk_def.specs.declared.sorts.VarSort.TheVariants.{Number, Name, Term, Flow}
use Rattle.sk_def.specs.declared.def.Def.{Def}
use Rattle.sk_def.specs.declared.def.Rule.{Rule}
use Rattle.sk_def.specs.declared.def.Hook.{Hook}
use Rattle.sk_def.specs.declared.def.Con.{Con}
use Rattle.sk_def.specs.Sorts.{Sorts, define, HaveSorts}
use Rattle.sk_def.specs.Rules.{is_rule_for}
use Rattle.sk_walk.specs.Sorted.{Sorted}
use Rattle.sk_sort.specs.declared.error.SortError.TheVariants.{WrongSort, DuplicateRule}
use Rattle.sk_sort.specs.Checks.{Check, check, count_check, argument_checks, new_checks}
use Rattle.sk_sort.specs.DefinedBefore.{sorts_after, Placed, placed}
use Rattle.sk_sort.specs.declared.interp.SortStop.{SortStop}
use Rattle.sk_sort.specs.Interp.{answers_bone}
use Rattle.sk_sort.specs.Parts.{Part, PartFault, first_failing, bone_parts}

-- the sort of a variable that holds an argument of a constructor
abbrev pub arg_sort : ArgSort → VarSort
arg_sort arg.Number = Number
arg_sort arg.Name = Name
arg_sort (arg.Term s) = Term s

-- nothing is defined
abbrev pub nothing : Rule → Sorts
nothing rule = map (λ v. None) rule.vars

-- the sorts after the header: those of the constructor's arguments and of the hook's inputs
abbrev pub header_sorts : Rule → Hook → Con → Sorts
header_sorts rule hook con =
    define (define (nothing rule) rule.terms (map (λ (a : ArgSort). Some (arg_sort a)) con.args)) rule.inputs (map (λ (s : FlowSort). Some (Flow s)) hook.inputs)

-- the header, where these rules stand above
abbrev pub header_checks : List Rule → Rule → Hook → Con → List Check
header_checks earlier rule hook con =
    check DuplicateRule (not (list_any (is_rule_for rule.hook rule.con) earlier)) ∷ check WrongSort (con.sort.0 == hook.sort.0)
    ∷ count_check (length rule.terms) (length con.args) ∷ count_check (length rule.inputs) (length hook.inputs)
    ∷ new_checks (nothing rule) (rule.terms ++ rule.inputs)

-- the closing outputs, from the sorts after the bones
abbrev pub closing_checks : Sorts → Rule → Hook → List Check
closing_checks g rule hook = count_check (length rule.outputs) (length hook.outputs) ∷ argument_checks g rule.outputs (map Flow hook.outputs)

-- the bones of a rule in the order of their checks, each with what is defined before it
abbrev pub placed_bones : Def → Rule → Hook → Con → List Placed
placed_bones d rule hook con = placed d (length rule.bones) 1 (header_sorts rule hook con) rule.bones

-- each bone of the rule's list is placed just once, and with its number
abbrev pub BonesArePlaced : Def → Rule → Hook → Con → Type 0
BonesArePlaced d rule hook con =
    IsPermutation (map (λ (p : Placed). (p.number, p.bone)) (placed_bones d rule hook con)) (enumerate_from 1 rule.bones)

-- the parts of a rule: the header, the bones, the closing
abbrev pub rule_parts : Def → List Rule → Rule → Hook → Con → List Part
rule_parts d earlier rule hook con =
    let size = length rule.bones in
    let start = header_sorts rule hook con in
    record { number = 0; checks = header_checks earlier rule hook con } ∷ bone_parts d con.sort size 1 start rule.bones
    ++ record { number = size + 1; checks = closing_checks (sorts_after d size start rule.bones) rule hook } ∷ []

abbrev pub fault_of_rule : Def → List Rule → Rule → Option Hook → Option Con → Option PartFault
fault_of_rule d earlier rule (Some hook) (Some con) = first_failing (rule_parts d earlier rule hook con)
fault_of_rule d earlier rule _ _ = None

-- the first check of a rule that fails, where these rules stand above
abbrev pub rule_fault : Def → List Rule → Rule → Option PartFault
rule_fault d earlier rule = fault_of_rule d earlier rule (slice_get d.hooks rule.hook.0) (slice_get d.cons rule.con.0)

-- an Ok says that the header's checks pass and what is defined then, a fault is the first one
abbrev pub AnswersStart : List Check → Sorts → Result Sorts SortStop → Type 0
AnswersStart checks start answer = answers_bone 0 checks start answer

-- a rule whose checks all pass, as a walk of its bones asks for it: they are well sorted from the header's sorts,
-- and after them the closing outputs are defined with the hook's sorts
pub record RuleIsSorted (d : Def) (rule : Rule) : Type 0 where
  pub hook : Hook
  pub con : Con
  pub hook_is : slice_get d.hooks rule.hook.0 ≡ Some hook
  pub con_is : slice_get d.cons rule.con.0 ≡ Some con
  pub after : Sorts
  pub bones : Sorted d con.sort 1 rule.bones (header_sorts rule hook con) after
  pub outputs : HaveSorts after rule.outputs (map Flow hook.outputs)
