-- The sorts that are defined before each bone of a flat list.
use Rattle.std.specs.Prelude.{ℕ, zero, suc, ◌+◌, List, [], ◌∷◌, ◌++◌, sum, map}
use Rattle.std.specs.List.{flat_map}
use Rattle.sk_def.specs.declared.def.Def.{Def}
use Rattle.sk_def.specs.declared.bone.Bone.{Bone}
use Rattle.sk_def.specs.declared.bone.Bone.TheVariants.{Apply, Call, Either}
use Rattle.sk_def.specs.Layout.{branch, branch_places, first_of_branch, after_branches}
use Rattle.sk_def.specs.Sorts.{Sorts, after_filter, after_hook, after_merge}

-- the sorts after a list of at most `size` bones: what each bone of the list defines, and of a branch bone just its
-- exports, with their sorts in its first branch
abbrev pub sorts_after : Def → ℕ → Sorts → List Bone → Sorts
sorts_after d size g [] = g
sorts_after d zero g (bone ∷ bones) = g
sorts_after d (suc size) g (Apply filter args outs ∷ bones) = sorts_after d size (after_filter g filter outs) bones
sorts_after d (suc size) g (Call hook args target outs ∷ bones) = sorts_after d size (after_hook d g hook outs) bones
sorts_after d (suc size) g (Either counts exports ∷ bones) =
    sorts_after d size (after_merge g exports (map (λ k. sorts_after d size g (branch counts k bones)) (branch_places 0 counts))) (after_branches counts bones)

-- a bone at its place: its number, the sorts that are defined before it, and those at the ends of its branches
pub record Placed : Type 0 where
  pub number : ℕ
  pub before : Sorts
  pub bone : Bone
  pub ends : List Sorts

-- The bones of a list in the order of their checks: a branch bone comes after the bones of its branches, each of
-- which starts from the sorts before the branch bone.
abbrev pub placed : Def → ℕ → ℕ → Sorts → List Bone → List Placed
placed d size first g [] = []
placed d zero first g (bone ∷ bones) = []
placed d (suc size) first g (Apply filter args outs ∷ bones) =
    record { number = first; before = g; bone = Apply filter args outs; ends = [] } ∷ placed d size (first + 1) (after_filter g filter outs) bones
placed d (suc size) first g (Call hook args target outs ∷ bones) =
    record { number = first; before = g; bone = Call hook args target outs; ends = [] } ∷ placed d size (first + 1) (after_hook d g hook outs) bones
placed d (suc size) first g (Either counts exports ∷ bones) =
    let ends = map (λ k. sorts_after d size g (branch counts k bones)) (branch_places 0 counts) in
    flat_map (λ k. placed d size (first_of_branch first counts k) g (branch counts k bones)) (branch_places 0 counts)
    ++ record { number = first; before = g; bone = Either counts exports; ends = ends }
    ∷ placed d size (first + 1 + sum counts) (after_merge g exports ends) (after_branches counts bones)
