-- The first fault of a definition, and well-sorted definitions.
use Rattle.std.specs.Prelude.{◌≡◌, ℕ, ◌+◌, ◌==◌, ◌&&◌, if◌then◌else◌, List, [], ◌∷◌, take, Option, Some, None, Result, Ok, Err, slice_get, All, IsSome}
use Rattle.std.specs.Option.{option_or, option_map, is_none}
use Rattle.sk_def.specs.declared.def.Def.{Def}
use Rattle.sk_def.specs.declared.def.Rule.{Rule}
use Rattle.sk_def.specs.declared.def.Hook.{Hook}
use Rattle.sk_def.specs.declared.def.Con.{Con}
use Rattle.sk_def.specs.declared.ids.SortId.{SortId}
use Rattle.sk_def.specs.declared.ids.HookId.{HookId}
use Rattle.sk_def.specs.declared.ids.ConId.{ConId}
use Rattle.sk_def.specs.Fits.{RuleFits, DefinitionFits, definition_fits}
use Rattle.sk_def.specs.Rules.{rule_of}
use Rattle.sk_sort.specs.declared.error.SortError.TheVariants.{Undefined}
use Rattle.sk_sort.specs.declared.error.SortFault.{SortFault}
use Rattle.sk_sort.specs.declared.error.SortFault.TheVariants.{Bad, MissingRule, NoMemory}
use Rattle.sk_sort.specs.Parts.{PartFault}
use Rattle.sk_sort.specs.Rules.{RuleIsSorted, rule_fault}

-- the first check that fails in the rules from this place on
abbrev pub bad_rule : Def → ℕ → List Rule → Option SortFault
bad_rule d place [] = None
bad_rule d place (rule ∷ rules) =
    option_or (option_map (λ (f : PartFault). Bad f.why place f.part) (rule_fault d (take place d.rules) rule)) (bad_rule d (place + 1) rules)

-- the first constructor of a sort, from this place on, for which the hook has no rule
abbrev pub missing_constructor : Def → HookId → SortId → ℕ → List Con → Option ConId
missing_constructor d hook sort place [] = None
missing_constructor d hook sort place (con ∷ cons) =
    if (con.sort.0 == sort.0) && is_none (rule_of d hook (record { 0 = place })) then Some (record { 0 = place }) else missing_constructor d hook sort (place + 1) cons

-- the first hook, from this place on, without a rule for a constructor of its sort
abbrev pub missing_rule : Def → ℕ → List Hook → Option SortFault
missing_rule d place [] = None
missing_rule d place (hook ∷ hooks) =
    option_or (option_map (MissingRule (record { 0 = place })) (missing_constructor d (record { 0 = place }) hook.sort 0 d.cons)) (missing_rule d (place + 1) hooks)

-- the first check that fails, and where none does the first rule that is missing
abbrev pub checked_fault : Def → Option SortFault
checked_fault d = option_or (bad_rule d 0 d.rules) (missing_rule d 0 d.hooks)

-- The first fault. A definition that is past its limits, or has a number that isn't of its lists, is refused
-- before all checks, as `Undefined` at the header of its first rule.
abbrev pub first_fault : Def → Option SortFault
first_fault d = if definition_fits d then checked_fault d else Some (Bad Undefined 0 0)

-- a definition is within its limits, no check fails, and each hook has a rule for each constructor of its sort
pub record IsWellSorted (d : Def) : Type 0 where
  pub fits : DefinitionFits d
  pub rules_pass : (place : ℕ) (rule : Rule) → slice_get d.rules place ≡ Some rule → rule_fault d (take place d.rules) rule ≡ None
  pub complete : (hook con : ℕ) (h : Hook) (c : Con) → slice_get d.hooks hook ≡ Some h → slice_get d.cons con ≡ Some c →
      c.sort.0 ≡ h.sort.0 → IsSome (rule_of d (record { 0 = hook }) (record { 0 = con }))

-- an Ok says that there is no fault, an error is the first one; want of memory says nothing
abbrev pub AnswersFault : {A : Type 0} → Option SortFault → Result A SortFault → Type 0
AnswersFault fault (Ok x) = fault ≡ None
AnswersFault fault (Err NoMemory) = Unit {0}
AnswersFault fault (Err e) = fault ≡ Some e

-- a well-sorted definition, with what a walk of its rules asks for
pub record DefinitionIsSorted (d : Def) : Type 0 where
  pub well_sorted : IsWellSorted d
  pub rules_sorted : All (RuleIsSorted d) d.rules

-- the rule of a hook and a constructor, with what a walk of its bones asks
pub record RuleFound (d : Def) (hook : HookId) (con : ConId) : Type 0 where
  pub rule : Rule
  pub is_first : rule_of d hook con ≡ Some rule
  pub of_hook : rule.hook.0 ≡ hook.0
  pub of_con : rule.con.0 ≡ con.0
  pub fits : RuleFits d rule
  pub sorted : RuleIsSorted d rule

-- each hook has a rule for each constructor of its sort, and it is sorted
abbrev pub HasRules : Def → Type 0
HasRules d = (hook : HookId) (con : ConId) (h : Hook) (c : Con) →
    slice_get d.hooks hook.0 ≡ Some h → slice_get d.cons con.0 ≡ Some c → c.sort.0 ≡ h.sort.0 → RuleFound d hook con
