-- The parts of a rule, each with its checks, in the order in which they are checked.
use Rattle.std.specs.Prelude.{◌≡◌, ℕ, List, [], ◌∷◌, map, Option, Some, None, Result, Ok, Err}
use Rattle.std.specs.Option.{option_or, option_map}
use Rattle.sk_def.specs.declared.def.Def.{Def}
use Rattle.sk_def.specs.declared.ids.SortId.{SortId}
use Rattle.sk_def.specs.declared.bone.Bone.{Bone}
use Rattle.sk_def.specs.declared.bone.Bone.TheVariants.{Apply, Call, Either}
use Rattle.sk_def.specs.Sorts.{Sorts}
use Rattle.sk_sort.specs.declared.error.SortError.{SortError}
use Rattle.sk_sort.specs.declared.interp.SortStop.{SortStop}
use Rattle.sk_sort.specs.declared.interp.SortStop.TheVariants.{Bad, NoMemory}
use Rattle.sk_sort.specs.Checks.{Check, first_error, filter_checks, merge_checks}
use Rattle.sk_sort.specs.Interp.{call_checks}
use Rattle.sk_sort.specs.DefinedBefore.{Placed, placed}

-- a part of a rule: its number (0 is the header, and the bones follow) and its checks in their written order
pub record Part : Type 0 where
  pub number : ℕ
  pub checks : List Check

-- what is wrong, and in which part
pub record PartFault : Type 0 where
  pub why : SortError
  pub part : ℕ

abbrev pub fault_at : ℕ → SortError → PartFault
fault_at number why = record { why = why; part = number }

-- the first check that fails, in the order of the parts
abbrev pub first_failing : List Part → Option PartFault
first_failing [] = None
first_failing (p ∷ ps) = option_or (option_map (fault_at p.number) (first_error p.checks)) (first_failing ps)

-- the checks of a bone, from the sorts before it
abbrev pub bone_checks : Def → SortId → Sorts → Bone → List Sorts → List Check
bone_checks d own g (Apply filter args outs) ends = filter_checks g filter args outs
bone_checks d own g (Call hook args target outs) ends = call_checks d own g hook target args outs
bone_checks d own g (Either counts exports) ends = merge_checks g exports ends

abbrev pub bone_part : Def → SortId → Placed → Part
bone_part d own p = record { number = p.number; checks = bone_checks d own p.before p.bone p.ends }

-- the bones of a list as parts, in the order of their checks, from the sorts before the first
abbrev pub bone_parts : Def → SortId → ℕ → ℕ → Sorts → List Bone → List Part
bone_parts d own size first g bones = map (bone_part d own) (placed d size first g bones)

-- an Ok says that no check fails and what is defined then, a fault is the first one; want of memory says nothing
abbrev pub AnswersParts : {A : Type 0} → Option PartFault → A → Result A SortStop → Type 0
AnswersParts fault after (Ok h) = (fault ≡ None) × (h ≡ after)
AnswersParts fault after (Err (Bad why bone)) = fault ≡ Some (fault_at bone why)
AnswersParts fault after (Err NoMemory) = Unit {0}
