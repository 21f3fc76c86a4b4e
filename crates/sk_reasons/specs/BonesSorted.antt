-- What it means that the bones of a list are well sorted, by what each of them sees.
use Rattle.std.specs.Prelude.{◌≡◌, ◌↔◌, ℕ, ◌<◌, ◌≤◌, List, Some, None, length, map, slice_get, Contains}
use Rattle.sk_def.specs.declared.def.Def.{Def}
use Rattle.sk_def.specs.declared.def.Hook.{Hook}
use Rattle.sk_def.specs.declared.ids.Var.{Var}
use Rattle.sk_def.specs.declared.ids.SortId.{SortId}
use Rattle.sk_def.specs.declared.bone.Target.{Target}
use Rattle.sk_def.specs.declared.bone.Target.TheVariants.{Own, Sub}
use Rattle.sk_def.specs.declared.bone.Bone.{Bone}
use Rattle.sk_def.specs.declared.bone.Bone.TheVariants.{Apply, Call, Either}
use Rattle.sk_def.specs.declared.sorts.VarSort.{VarSort}
use Rattle.sk_def.specs.declared.sorts.VarSort.TheVariants.{Term, Flow}
use Rattle.sk_def.specs.Signatures.{parameters, results}
use Rattle.sk_def.specs.Layout.{BonesFit}
use Rattle.sk_def.specs.Sorts.{Sorts}
use Rattle.sk_sort.specs.Parts.{first_failing, bone_parts}
use Rattle.sk_reasons.specs.Scope.{IsBone}
use Rattle.sk_reasons.specs.Defined.{HasSort, DefinedBefore, DefinedAtEnd}

-- By what is defined at a place: a relation of variables and sorts.
module _ (defined : Var → VarSort → Type 0) where
  -- there are as many variables as sorts, and each is defined with the sort at its place
  pub record AreDefined (vs : List Var) (ss : List VarSort) : Type 0 where
    pub counted : length vs ≡ length ss
    pub each : (i : ℕ) (v : Var) (s : VarSort) → slice_get vs i ≡ Some v → slice_get ss i ≡ Some s → defined v s

  -- none of the variables is defined, and none stands twice
  pub record AreFree (vs : List Var) : Type 0 where
    pub undefined : (v : Var) (s : VarSort) → Contains vs v → ¬ defined v s
    pub different : (i j : ℕ) (v : Var) → slice_get vs i ≡ Some v → slice_get vs j ≡ Some v → i ≡ j

  -- the term that a hook bone evaluates has this sort: it is the rule's own term, or a variable
  abbrev pub TargetHas : SortId → SortId → Target → Type 0
  TargetHas own sort Own = own ≡ sort
  TargetHas own sort (Sub v) = defined v (Term sort)

  -- A bone is well sorted where this is defined before it, and `at_end` at the end of each of its branches: its arguments
  -- are defined with the sorts that they must have, what it defines is free, and a branch bone's exports are defined at
  -- the ends of all its branches, with one sort.
  abbrev pub BoneIsSorted : Def → SortId → (ℕ → Var → VarSort → Type 0) → Bone → Type 0
  BoneIsSorted d own at_end (Apply filter args outs) = AreDefined args (parameters filter) × (length outs ≡ length (results filter)) × AreFree outs
  BoneIsSorted d own at_end (Call id args target outs) =
      (hook : Hook) × (slice_get d.hooks id.0 ≡ Some hook) × AreDefined args (map Flow hook.inputs) × TargetHas own hook.sort target
      × (length outs ≡ length hook.outputs) × AreFree outs
  BoneIsSorted d own at_end (Either counts exports) =
      AreFree exports × ((v : Var) → Contains exports v → (s : VarSort) × ((branch : ℕ) → branch < length counts → at_end branch v s))

-- each bone of the list is well sorted by what the header and the bones that it sees define, in a rule of the sort `own`
abbrev pub BonesAreSorted : Def → SortId → (Var → VarSort → Type 0) → List Bone → Type 0
BonesAreSorted d own header bones = (at : ℕ) (bone : Bone) → IsBone bones at bone →
    BoneIsSorted (DefinedBefore d header bones at) d own (DefinedAtEnd d header bones at) bone

-- The checks of bones that are laid out as they must be all pass exactly where each bone is well sorted.
abbrev pub BonesAreSortedExactly : Type 0
BonesAreSortedExactly = (d : Def) (own : SortId) (hooks nesting size first : ℕ) (g : Sorts) (bones : List Bone) →
    length bones ≤ size → BonesFit hooks (length g) nesting bones →
    (first_failing (bone_parts d own size first g bones) ≡ None) ↔ BonesAreSorted d own (HasSort g) bones
