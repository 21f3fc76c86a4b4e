-- The sorts of the positions of a rule: what each of its bones defines.
use Rattle.std.specs.Prelude.{ℕ, zero, suc, List, [], ◌∷◌, ◌++◌, map, Option, Some, None}
use Rattle.std.specs.Option.{option_and_then}
use Rattle.std.specs.List.{filter_map, flat_map}
use Rattle.sk_base.specs.declared.flow.FlowSort.{FlowSort}
use Rattle.sk_def.specs.declared.ids.Var.{Var}
use Rattle.sk_def.specs.declared.sorts.VarSort.{VarSort}
use Rattle.sk_def.specs.declared.sorts.VarSort.TheVariants as variable
use Rattle.sk_def.specs.declared.def.Def.{Def}
use Rattle.sk_def.specs.declared.bone.Bone.{Bone}
use Rattle.sk_def.specs.declared.bone.Bone.TheVariants.{Apply, Call, Either}
use Rattle.sk_def.specs.Signatures.{results}
use Rattle.sk_def.specs.Layout.{branch, branch_places, after_branches}
use Rattle.sk_def.specs.Sorts.{Sorts, sort_of, outputs_of, after_filter, after_hook, after_merge}
use Rattle.sk_sort.specs.DefinedBefore.{sorts_after}

-- the sort of a value
abbrev pub flow_sort : VarSort → Option FlowSort
flow_sort variable.Number = None
flow_sort variable.Name = None
flow_sort (variable.Term t) = None
flow_sort (variable.Flow s) = Some s

-- the sorts of the values that variables have
abbrev pub exported_sorts : Sorts → List Var → List FlowSort
exported_sorts g vars = filter_map (λ v. option_and_then flow_sort (sort_of g v)) vars

-- those of a branch bone's exports, as they are at the end of its first branch
abbrev pub sorts_at_ends : List Var → List Sorts → List FlowSort
sorts_at_ends exports [] = []
sorts_at_ends exports (e ∷ es) = exported_sorts e exports

-- the sorts at the ends of the branches of a branch bone, from those before it
abbrev pub branch_sorts : Def → ℕ → Sorts → List ℕ → List Bone → List Sorts
branch_sorts d size g counts bones = map (λ k. sorts_after d size g (branch counts k bones)) (branch_places 0 counts)

-- the sorts of what each of at most `size` bones defines, in the order of the bones, inner ones included
abbrev pub positions_of : Def → ℕ → Sorts → List Bone → List (List FlowSort)
positions_of d size g [] = []
positions_of d zero g (bone ∷ bones) = []
positions_of d (suc size) g (Apply filter args outs ∷ bones) =
    filter_map flow_sort (results filter) ∷ positions_of d size (after_filter g filter outs) bones
positions_of d (suc size) g (Call hook args target outs ∷ bones) =
    outputs_of d hook ∷ positions_of d size (after_hook d g hook outs) bones
positions_of d (suc size) g (Either counts exports ∷ bones) =
    sorts_at_ends exports (branch_sorts d size g counts bones)
    ∷ flat_map (λ k. positions_of d size g (branch counts k bones)) (branch_places 0 counts)
    ++ positions_of d size (after_merge g exports (branch_sorts d size g counts bones)) (after_branches counts bones)
