-- How the bones of a rule lie in their flat list, and which numbers they may name.
use Rattle.std.specs.Prelude.{ℕ, suc, ◌+◌, ◌<◌, ◌≤◌, List, [], ◌∷◌, length, take, drop, sum, slice_index, All}
use Rattle.sk_def.specs.declared.ids.Var.{Var}
use Rattle.sk_def.specs.declared.ids.HookId.{HookId}
use Rattle.sk_def.specs.declared.bone.Target.{Target}
use Rattle.sk_def.specs.declared.bone.Target.TheVariants.{Own, Sub}
use Rattle.sk_def.specs.declared.filter.Filter.{Filter}
use Rattle.sk_def.specs.declared.bone.Bone.{Bone}
use Rattle.sk_def.specs.declared.bone.Bone.TheVariants.{Apply, Call, Either}

-- each variable lies below the number of variables
abbrev pub AreBelow : ℕ → List Var → Type 0
AreBelow vars vs = All (λ (v : Var). v.0 < vars) vs

abbrev pub TargetIsBelow : ℕ → Target → Type 0
TargetIsBelow vars Own = Unit {0}
TargetIsBelow vars (Sub v) = v.0 < vars

-- the bones of branch k among those that follow a branch bone with branches of these sizes; the bones after them all
abbrev pub branch : List ℕ → ℕ → List Bone → List Bone
branch counts k bones = take (slice_index counts k) (drop (sum (take k counts)) bones)

abbrev pub after_branches : List ℕ → List Bone → List Bone
after_branches counts bones = drop (sum counts) bones

-- how many bones the branches of a bone have; the bones after a bone and its branches
abbrev pub inner_count : Bone → ℕ
inner_count (Either counts exports) = sum counts
inner_count _ = 0

abbrev pub after_bone : Bone → List Bone → List Bone
after_bone bone rest = drop (inner_count bone) rest

-- the number of branch k's first bone, from that of the branch bone
abbrev pub first_of_branch : ℕ → List ℕ → ℕ → ℕ
first_of_branch bone counts k = bone + 1 + sum (take k counts)

-- the places of branches, from k on, as many as there are sizes
abbrev pub branch_places : ℕ → List ℕ → List ℕ
branch_places k [] = []
branch_places k (count ∷ counts) = k ∷ branch_places (k + 1) counts

module _ (hooks vars : ℕ) where
  mutual
    -- a list of bones, whose branch bones lie at most so deep in one another: each id and variable that a
    -- bone names lies below its number, a branch bone has at least two branches, and these end within the list
    pub data BonesFit : ℕ → List Bone → Type 0 where
      no_bone : {nesting : ℕ} → BonesFit nesting []
      filter_bone : {nesting : ℕ} {filter : Filter} {args outs : List Var} {rest : List Bone} →
          AreBelow vars args → AreBelow vars outs → BonesFit nesting rest →
          BonesFit nesting (Apply filter args outs ∷ rest)
      hook_bone : {nesting : ℕ} {id : HookId} {args : List Var} {target : Target} {outs : List Var} {rest : List Bone} →
          id.0 < hooks → AreBelow vars args → TargetIsBelow vars target → AreBelow vars outs → BonesFit nesting rest →
          BonesFit nesting (Call id args target outs ∷ rest)
      branch_bone : {nesting : ℕ} {counts : List ℕ} {exports : List Var} {rest : List Bone} →
          2 ≤ length counts → sum counts ≤ length rest → AreBelow vars exports →
          BranchesFit nesting counts (take (sum counts) rest) → BonesFit (suc nesting) (drop (sum counts) rest) →
          BonesFit (suc nesting) (Either counts exports ∷ rest)

    -- the branches of these sizes, one after another
    pub data BranchesFit : ℕ → List ℕ → List Bone → Type 0 where
      no_branch : {nesting : ℕ} {bones : List Bone} → BranchesFit nesting [] bones
      one_branch : {nesting : ℕ} {count : ℕ} {counts : List ℕ} {bones : List Bone} →
          BonesFit nesting (take count bones) → BranchesFit nesting counts (drop count bones) →
          BranchesFit nesting (count ∷ counts) bones
