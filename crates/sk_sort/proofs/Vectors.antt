-- Small definitions whose first fault is computed: both branches define the export, the second lacks it,
-- its argument isn't defined, and a rule is missing.
use Rattle.std.proofs.Common.{◌≡◌, ℕ, List, [], ◌∷◌, Some, None, refl}
use Rattle.sk_base.specs.declared.flow.FlowSort.{FlowSort}
use Rattle.sk_def.specs.declared.sorts.ArgSort.{ArgSort}
use Rattle.sk_def.specs.declared.filter.Filter.{Filter}
use Rattle.sk_def.specs.declared.bone.Bone.{Bone}
use Rattle.sk_def.specs.declared.ids.Var.{Var}
use Rattle.sk_def.specs.declared.def.Con.{Con}
use Rattle.sk_def.specs.declared.def.Hook.{Hook}
use Rattle.sk_def.specs.declared.def.Rule.{Rule}
use Rattle.sk_def.specs.declared.def.Def.{Def}
use Rattle.sk_sort.specs.declared.error.SortError.{SortError}
use Rattle.sk_sort.specs.declared.error.SortFault.{SortFault}
use Rattle.sk_sort.specs.Definition.{first_fault}

abbrev var : ℕ → Var
var n = record { 0 = n }

-- a constructor with a number
abbrev literal : Con
literal = record { name = []; sort = record { 0 = 0 }; args = ArgSort.Number ∷ [] }

abbrev evaluate : Hook
evaluate = record { name = []; inputs = []; sort = record { 0 = 0 }; outputs = FlowSort.Int ∷ [] }

-- either { lit(v0) -> (v1) } or { the second bone } with (v1), and v1 is the output
abbrev choice : Bone → Rule
choice second = record {
  hook = record { 0 = 0 };
  con = record { 0 = 0 };
  vars = [] ∷ [] ∷ [] ∷ [];
  terms = var 0 ∷ [];
  inputs = [];
  bones = Bone.Either (1 ∷ 1 ∷ []) (var 1 ∷ []) ∷ Bone.Apply Filter.Lit (var 0 ∷ []) (var 1 ∷ []) ∷ second ∷ [];
  outputs = var 1 ∷ [];
}

abbrev definition : List Con → Bone → Def
definition cons second = record { sorts = [] ∷ []; cons = cons; hooks = evaluate ∷ []; rules = choice second ∷ [] }

good : first_fault (definition (literal ∷ []) (Bone.Apply Filter.Zero [] (var 1 ∷ []))) ≡ None
good = refl

lacks : first_fault (definition (literal ∷ []) (Bone.Apply Filter.Zero [] (var 2 ∷ []))) ≡ Some (SortFault.Bad SortError.BranchLacks 0 1)
lacks = refl

-- what the first branch defines isn't known in the second, whose bone is the third
undefined : first_fault (definition (literal ∷ []) (Bone.Apply Filter.Add (var 1 ∷ var 1 ∷ []) (var 2 ∷ []))) ≡ Some (SortFault.Bad SortError.Undefined 0 3)
undefined = refl

missing : first_fault (definition (literal ∷ literal ∷ []) (Bone.Apply Filter.Zero [] (var 1 ∷ []))) ≡ Some (SortFault.MissingRule (record { 0 = 0 }) (record { 0 = 1 }))
missing = refl
