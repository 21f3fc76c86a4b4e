-- The laws of what is defined before each bone: exactly what the bones that it sees define, and the header.
use Rattle.std.specs.Prelude.{◌≡◌, ℕ, ◌+◌, ◌≤◌, ◌⊎◌, List, Some, None, length, slice_get, All, Contains}
use Rattle.sk_def.specs.declared.def.Def.{Def}
use Rattle.sk_def.specs.declared.ids.Var.{Var}
use Rattle.sk_def.specs.declared.ids.SortId.{SortId}
use Rattle.sk_def.specs.declared.bone.Bone.{Bone}
use Rattle.sk_def.specs.declared.bone.Bone.TheVariants.{Either}
use Rattle.sk_def.specs.declared.sorts.VarSort.{VarSort}
use Rattle.sk_def.specs.Layout.{BonesFit}
use Rattle.sk_def.specs.Sorts.{Sorts, sort_of}
use Rattle.sk_sort.specs.DefinedBefore.{sorts_after, Placed, placed}
use Rattle.sk_sort.specs.Parts.{first_failing, bone_parts}
use Rattle.sk_reasons.specs.Scope.{IsBone, Sees, EndSees, IsOuter}
use Rattle.sk_reasons.specs.Gives.{Gives, defined_by}

-- a variable has this sort among those
abbrev pub HasSort : Sorts → Var → VarSort → Type 0
HasSort g v s = sort_of g v ≡ Some s

-- A variable is defined before the bone at this place with this sort: by the header, as the relation says, or by a bone
-- that it sees.
abbrev pub DefinedBefore : Def → (Var → VarSort → Type 0) → List Bone → ℕ → Var → VarSort → Type 0
DefinedBefore d header bones at v s = header v s ⊎ ((earlier : ℕ) × Sees bones at earlier × Gives d bones earlier v s)

-- the same at the end of a branch of the branch bone at this place
abbrev pub DefinedAtEnd : Def → (Var → VarSort → Type 0) → List Bone → ℕ → ℕ → Var → VarSort → Type 0
DefinedAtEnd d header bones at branch v s = header v s ⊎ ((earlier : ℕ) × EndSees bones at branch earlier × Gives d bones earlier v s)

-- the same at the end of the list
abbrev pub DefinedAfter : Def → (Var → VarSort → Type 0) → List Bone → Var → VarSort → Type 0
DefinedAfter d header bones v s = header v s ⊎ ((earlier : ℕ) × IsOuter bones earlier × Gives d bones earlier v s)

-- how many branches a bone has
abbrev pub branches_of : Bone → ℕ
branches_of (Either counts exports) = length counts
branches_of _ = 0

-- the entry is the bone at this place of the list: its number counts from that of the first bone, and it has the sorts
-- at the end of each of its branches
pub record StandsAt (first : ℕ) (bones : List Bone) (p : Placed) (at : ℕ) : Type 0 where
  pub number_is : p.number ≡ first + at
  pub bone_is : IsBone bones at p.bone
  pub ends_counted : length p.ends ≡ branches_of p.bone

-- a variable that has a sort before the bone, or at the end of one of its branches, is defined there with this sort
pub record OnlySeen (d : Def) (first : ℕ) (g : Sorts) (bones : List Bone) (p : Placed) : Type 0 where
  pub at : ℕ
  pub stands : StandsAt first bones p at
  pub before : (v : Var) (s : VarSort) → HasSort p.before v s → DefinedBefore d (HasSort g) bones at v s
  pub ends : (branch : ℕ) (end : Sorts) (v : Var) (s : VarSort) → slice_get p.ends branch ≡ Some end →
      HasSort end v s → DefinedAtEnd d (HasSort g) bones at branch v s

-- A variable that is defined before the bone with some sort, or at the end of one of its branches, has this sort there;
-- and the bone gives a sort to each variable that it defines.
pub record AllSeen (d : Def) (first : ℕ) (g : Sorts) (bones : List Bone) (p : Placed) : Type 0 where
  pub at : ℕ
  pub stands : StandsAt first bones p at
  pub before : (v : Var) (s : VarSort) → DefinedBefore d (HasSort g) bones at v s → HasSort p.before v s
  pub ends : (branch : ℕ) (end : Sorts) (v : Var) (s : VarSort) → slice_get p.ends branch ≡ Some end →
      DefinedAtEnd d (HasSort g) bones at branch v s → HasSort end v s
  pub gives : (v : Var) → Contains (defined_by p.bone) v → (s : VarSort) × Gives d bones at v s

-- Of a list of bones that is laid out as it must be: before each bone, at the end of each branch and after the list
-- nothing is defined but what the header defines, or a bone that is seen from there.
abbrev pub OnlySeenIsDefined : Type 0
OnlySeenIsDefined = (d : Def) (hooks vars nesting size first : ℕ) (g : Sorts) (bones : List Bone) →
    length bones ≤ size → BonesFit hooks vars nesting bones →
    All (OnlySeen d first g bones) (placed d size first g bones)
    × ((v : Var) (s : VarSort) → HasSort (sorts_after d size g bones) v s → DefinedAfter d (HasSort g) bones v s)

-- Where all checks of such a list pass, all of that is defined there.
abbrev pub AllSeenIsDefined : Type 0
AllSeenIsDefined = (d : Def) (own : SortId) (hooks nesting size first : ℕ) (g : Sorts) (bones : List Bone) →
    length bones ≤ size → BonesFit hooks (length g) nesting bones → first_failing (bone_parts d own size first g bones) ≡ None →
    All (AllSeen d first g bones) (placed d size first g bones)
    × ((v : Var) (s : VarSort) → DefinedAfter d (HasSort g) bones v s → HasSort (sorts_after d size g bones) v s)
