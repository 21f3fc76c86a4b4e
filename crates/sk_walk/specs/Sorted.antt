-- The sort checks of a list of bones, as an interpretation whose worlds are the sorts of the variables.
use Rattle.std.specs.Prelude.{◌≡◌, ℕ, ◌+◌, ◌≤◌, ◌<◌, true, List, ◌∷◌, Result, Ok, length, sum}
use Rattle.sk_def.specs.declared.ids.SortId.{SortId}
use Rattle.sk_def.specs.declared.def.Def.{Def}
use Rattle.sk_def.specs.declared.bone.Bone.{Bone}
use Rattle.sk_def.specs.Sorts.{Sorts, FilterPasses, HookPasses, MergePasses, after_filter, after_hook, after_merge}
use Rattle.sk_def.specs.Layout.{BonesFit, branch, branch_places, inner_count, after_bone}
use Rattle.sk_walk.specs.Walks.{Meaning, Reading, Composed, Walks, WalksBranches}

-- A bone passes its checks and adds the sorts that it defines; a branch is checked from the sorts before
-- the branch bone. Nothing stops: bones that fail a check have no walk.
abbrev pub sort_checks : Def → SortId → Meaning (Unit {0}) Sorts ⊥
sort_checks d own = record {
  filter = λ s bone filter args outs g t answer.
      FilterPasses g filter args outs × (answer ≡ Ok (after_filter g filter outs));
  hook = λ s bone hook target args outs g t answer.
      HookPasses d own g hook args target outs × (answer ≡ Ok (after_hook d g hook outs));
  fork = λ s bone place g t answer. answer ≡ Ok g;
  merge = λ s bone exports g ends t answer.
      MergePasses g exports ends × (answer ≡ Ok (after_merge g exports ends));
}

-- the bones pass the sort checks from the sorts g, and h are the sorts after them
abbrev pub Sorted : Def → SortId → ℕ → List Bone → Sorts → Sorts → Type 0
Sorted d own first bones g h = Composed (sort_checks d own) first bones tt g tt h

-- the same of the branches at these places of a branch bone: the sorts at their ends, in order
abbrev pub SortedBranches : Def → SortId → ℕ → List ℕ → List Bone → List ℕ → Sorts → List Sorts → Type 0
SortedBranches d own bone counts bones places g ends =
    WalksBranches (sort_checks d own) bone counts bones places g tt tt (Ok ends)

-- where the interpretation asks for well-sorted bones, these are
abbrev pub SortedIfAsked : Reading → ℕ → List Bone → Sorts → Type 0
SortedIfAsked reading first bones g =
    reading.asks_sorts ≡ true → (h : Sorts) × Sorted reading.definition reading.own first bones g h

-- the bones may be walked from a world of the sorts g
pub record Walkable (reading : Reading) (first : ℕ) (bones : List Bone) (g : Sorts) : Type 0 where
  pub numbered : first + length bones ≤ 65
  pub nesting : ℕ
  pub fits : BonesFit (length reading.definition.hooks) (length g) nesting bones
  pub sorted : SortedIfAsked reading first bones g

-- the branches of a branch bone may be walked from forks of a world of the sorts g
pub record BranchesWalkable (reading : Reading) (bone : ℕ) (counts : List ℕ) (bones : List Bone) (g : Sorts) : Type 0 where
  pub numbered : bone + 1 + length bones ≤ 65
  pub within : sum counts ≤ length bones
  pub nesting : ℕ
  pub fits : (k : ℕ) → k < length counts → BonesFit (length reading.definition.hooks) (length g) nesting (branch counts k bones)
  pub sorted : reading.asks_sorts ≡ true →
      (ends : List Sorts) × SortedBranches reading.definition reading.own bone counts bones (branch_places 0 counts) g ends

-- h are the sorts after bones that were walked from g: as many, and where the bones pass the checks those that the checks give
pub record SortsAfter (reading : Reading) (first : ℕ) (bones : List Bone) (g h : Sorts) : Type 0 where
  pub same_length : length h ≡ length g
  pub checked : (k : Sorts) → Sorted reading.definition reading.own first bones g k → h ≡ k

-- A walk of the first bone, with its branches, went from the state s and the world w to t and v: what the rest
-- answers, the whole list answers; the rest may be walked; and the sorts after it are those after the whole list.
pub record BoneWalked {S W X : Type 0} (m : Meaning S W X) (reading : Reading) (sorts : W → Sorts)
    (first : ℕ) (bone : Bone) (rest : List Bone) (s : S) (w : W) (t : S) (v : W) : Type 0 where
  pub goes : (u : S) (answer : Result W X) →
      Walks m (first + 1 + inner_count bone) (after_bone bone rest) t v u answer → Walks m first (bone ∷ rest) s w u answer
  pub walkable : Walkable reading (first + 1 + inner_count bone) (after_bone bone rest) (sorts v)
  pub sorts_after : (h : Sorts) →
      SortsAfter reading (first + 1 + inner_count bone) (after_bone bone rest) (sorts v) h → SortsAfter reading first (bone ∷ rest) (sorts w) h
