-- Which variables the bones of a flat list define, with which sorts.
use Rattle.std.specs.Prelude.{◌≡◌, ℕ, List, Some, Contains, slice_get}
use Rattle.sk_def.specs.declared.def.Def.{Def}
use Rattle.sk_def.specs.declared.ids.Var.{Var}
use Rattle.sk_def.specs.declared.ids.HookId.{HookId}
use Rattle.sk_def.specs.declared.bone.Target.{Target}
use Rattle.sk_def.specs.declared.filter.Filter.{Filter}
use Rattle.sk_base.specs.declared.flow.FlowSort.{FlowSort}
use Rattle.sk_def.specs.declared.bone.Bone.{Bone}
use Rattle.sk_def.specs.declared.bone.Bone.TheVariants.{Apply, Call, Either}
use Rattle.sk_def.specs.declared.sorts.VarSort.{VarSort}
use Rattle.sk_def.specs.declared.sorts.VarSort.TheVariants.{Flow}
use Rattle.sk_def.specs.Signatures.{results}
use Rattle.sk_def.specs.Sorts.{outputs_of}
use Rattle.sk_reasons.specs.Scope.{IsBone, IsOwnBone}

-- the variables that a bone defines: its outputs, of a branch bone its exports
abbrev pub defined_by : Bone → List Var
defined_by (Apply filter args outs) = outs
defined_by (Call hook args target outs) = outs
defined_by (Either counts exports) = exports

-- The bone at a place gives a variable this sort: a filter or hook bone gives an output the sort of the result at the
-- same place, and a branch bone gives an export what a bone of its first branch gives it.
pub data Gives (d : Def) (bones : List Bone) : ℕ → Var → VarSort → Type 0 where
  by_filter : {at : ℕ} {filter : Filter} {args outs : List Var} {v : Var} {s : VarSort} (i : ℕ) →
      IsBone bones at (Apply filter args outs) → slice_get outs i ≡ Some v → slice_get (results filter) i ≡ Some s →
      Gives d bones at v s
  by_hook : {at : ℕ} {hook : HookId} {args : List Var} {target : Target} {outs : List Var} {v : Var} {s : FlowSort} (i : ℕ) →
      IsBone bones at (Call hook args target outs) → slice_get outs i ≡ Some v → slice_get (outputs_of d hook) i ≡ Some s →
      Gives d bones at v (Flow s)
  by_branch : {at earlier : ℕ} {counts : List ℕ} {exports : List Var} {v : Var} {s : VarSort} →
      IsBone bones at (Either counts exports) → Contains exports v → IsOwnBone bones at 0 earlier → Gives d bones earlier v s →
      Gives d bones at v s
