-- What a bone of a flat list sees: the bones whose variables are defined before it.
use Rattle.std.specs.Prelude.{◌≡◌, ℕ, ◌+◌, ◌<◌, ◌≤◌, ◌⊎◌, List, Some, slice_get, slice_index}
use Rattle.sk_def.specs.declared.ids.Var.{Var}
use Rattle.sk_def.specs.declared.bone.Bone.{Bone}
use Rattle.sk_def.specs.declared.bone.Bone.TheVariants.{Either}
use Rattle.sk_def.specs.Layout.{first_of_branch}

-- the bone at a place of a list
abbrev pub IsBone : List Bone → ℕ → Bone → Type 0
IsBone bones at bone = slice_get bones at ≡ Some bone

-- The bone at `k` is a branch bone, and the bone at `i` lies in its branch of this number: the branches follow the
-- branch bone one after another, each as long as its size.
pub record InBranch (bones : List Bone) (k branch i : ℕ) : Type 0 where
  pub counts : List ℕ
  pub exports : List Var
  pub is : IsBone bones k (Either counts exports)
  pub from : first_of_branch k counts branch ≤ i
  pub below : i < first_of_branch k counts branch + slice_index counts branch

-- The bone at `later` sees the one at `earlier`, which comes before it: it lies in no branch of that bone, whose exports
-- are seen only after its branches, and in whichever branches `earlier` lies, `later` lies too.
pub record Sees (bones : List Bone) (later earlier : ℕ) : Type 0 where
  pub before : earlier < later
  pub outside : (branch : ℕ) → ¬ InBranch bones earlier branch later
  pub same_branches : (k branch : ℕ) → InBranch bones k branch earlier → InBranch bones k branch later

-- the bone at `i` is one of this branch's own bones: it lies in the branch, and in none of a branch bone inside it
pub record IsOwnBone (bones : List Bone) (k branch i : ℕ) : Type 0 where
  pub inside : InBranch bones k branch i
  pub outer : (inner other : ℕ) → k < inner → ¬ InBranch bones inner other i

-- the end of a branch sees the branch's own bones, and what the branch bone sees
abbrev pub EndSees : List Bone → ℕ → ℕ → ℕ → Type 0
EndSees bones k branch earlier = IsOwnBone bones k branch earlier ⊎ Sees bones k earlier

-- the end of the list sees the bones that lie in no branch
abbrev pub IsOuter : List Bone → ℕ → Type 0
IsOuter bones i = (k branch : ℕ) → ¬ InBranch bones k branch i
