-- What it means to walk a list of bones by an interpretation.
use Rattle.std.specs.Prelude.{ℕ, ◌+◌, Bool, List, [], ◌∷◌, sum, Result, Ok, Err}
use Rattle.sk_def.specs.declared.ids.SortId.{SortId}
use Rattle.sk_def.specs.declared.ids.HookId.{HookId}
use Rattle.sk_def.specs.declared.ids.Var.{Var}
use Rattle.sk_def.specs.declared.bone.Target.{Target}
use Rattle.sk_def.specs.declared.filter.Filter.{Filter}
use Rattle.sk_def.specs.declared.def.Def.{Def}
use Rattle.sk_def.specs.declared.bone.Bone.{Bone}
use Rattle.sk_def.specs.declared.bone.Bone.TheVariants.{Apply, Call, Either}
use Rattle.sk_def.specs.Layout.{branch, branch_places, first_of_branch, after_branches}

-- what an interpretation reads: a definition, the sort of `self`, and whether it asks for well-sorted bones
pub record Reading : Type 0 where
  pub definition : Def
  pub own : SortId
  pub asks_sorts : Bool

-- One relation for each method of an interpretation with states S, worlds W and stops X. Each relates the
-- state before and the arguments, the number of the bone first, to the state after and the answer.
pub record Meaning (S W X : Type 0) : Type 1 where
  pub filter : S → ℕ → Filter → List Var → List Var → W → S → Result W X → Type 0
  pub hook : S → ℕ → HookId → Target → List Var → List Var → W → S → Result W X → Type 0
  pub fork : S → ℕ → ℕ → W → S → Result W X → Type 0
  pub merge : S → ℕ → List Var → W → List W → S → Result W X → Type 0

module _ {S W X : Type 0} (m : Meaning S W X) where
  mutual
    -- A walk of the bones, the first of which has this number, from a state and a world to a state and an
    -- answer: the last world, or the first stop. A stop ends the walk; what it stops is the rest of the list.
    pub data Walks : ℕ → List Bone → S → W → S → Result W X → Type 0 where
      no_bone : {first : ℕ} {s : S} {w : W} → Walks first [] s w s (Ok w)
      filter_stops : {first : ℕ} {filter : Filter} {args outs : List Var} {rest : List Bone} {s t : S} {w : W} {stop : X} →
          m.filter s first filter args outs w t (Err stop) →
          Walks first (Apply filter args outs ∷ rest) s w t (Err stop)
      filter_goes : {first : ℕ} {filter : Filter} {args outs : List Var} {rest : List Bone} {s t u : S} {w v : W} {answer : Result W X} →
          m.filter s first filter args outs w t (Ok v) →
          Walks (first + 1) rest t v u answer →
          Walks first (Apply filter args outs ∷ rest) s w u answer
      hook_stops : {first : ℕ} {hook : HookId} {args : List Var} {target : Target} {outs : List Var} {rest : List Bone} {s t : S} {w : W} {stop : X} →
          m.hook s first hook target args outs w t (Err stop) →
          Walks first (Call hook args target outs ∷ rest) s w t (Err stop)
      hook_goes : {first : ℕ} {hook : HookId} {args : List Var} {target : Target} {outs : List Var} {rest : List Bone} {s t u : S} {w v : W} {answer : Result W X} →
          m.hook s first hook target args outs w t (Ok v) →
          Walks (first + 1) rest t v u answer →
          Walks first (Call hook args target outs ∷ rest) s w u answer
      branches_stop : {first : ℕ} {counts : List ℕ} {exports : List Var} {rest : List Bone} {s t : S} {w : W} {stop : X} →
          WalksBranches first counts rest (branch_places 0 counts) w s t (Err stop) →
          Walks first (Either counts exports ∷ rest) s w t (Err stop)
      merge_stops : {first : ℕ} {counts : List ℕ} {exports : List Var} {rest : List Bone} {s t u : S} {w : W} {ends : List W} {stop : X} →
          WalksBranches first counts rest (branch_places 0 counts) w s t (Ok ends) →
          m.merge t first exports w ends u (Err stop) →
          Walks first (Either counts exports ∷ rest) s w u (Err stop)
      merge_goes : {first : ℕ} {counts : List ℕ} {exports : List Var} {rest : List Bone} {s t u z : S} {w v : W} {ends : List W} {answer : Result W X} →
          WalksBranches first counts rest (branch_places 0 counts) w s t (Ok ends) →
          m.merge t first exports w ends u (Ok v) →
          Walks (first + 1 + sum counts) (after_branches counts rest) u v z answer →
          Walks first (Either counts exports ∷ rest) s w z answer

    -- A walk of the branches at these places of a branch bone, from its number, the sizes of all its branches,
    -- and the bones that follow it. Each is walked from a fork of the world before the branch bone. The answer is
    -- their last worlds in order, or the first stop.
    pub data WalksBranches : ℕ → List ℕ → List Bone → List ℕ → W → S → S → Result (List W) X → Type 0 where
      no_branch : {bone : ℕ} {counts : List ℕ} {bones : List Bone} {w : W} {s : S} →
          WalksBranches bone counts bones [] w s s (Ok [])
      fork_stops : {bone k : ℕ} {counts places : List ℕ} {bones : List Bone} {w : W} {s t : S} {stop : X} →
          m.fork s bone k w t (Err stop) →
          WalksBranches bone counts bones (k ∷ places) w s t (Err stop)
      branch_stops : {bone k : ℕ} {counts places : List ℕ} {bones : List Bone} {w v : W} {s t u : S} {stop : X} →
          m.fork s bone k w t (Ok v) →
          Walks (first_of_branch bone counts k) (branch counts k bones) t v u (Err stop) →
          WalksBranches bone counts bones (k ∷ places) w s u (Err stop)
      later_stops : {bone k : ℕ} {counts places : List ℕ} {bones : List Bone} {w v z : W} {s t u a : S} {stop : X} →
          m.fork s bone k w t (Ok v) →
          Walks (first_of_branch bone counts k) (branch counts k bones) t v u (Ok z) →
          WalksBranches bone counts bones places w u a (Err stop) →
          WalksBranches bone counts bones (k ∷ places) w s a (Err stop)
      branch_goes : {bone k : ℕ} {counts places : List ℕ} {bones : List Bone} {w v z : W} {s t u a : S} {ends : List W} →
          m.fork s bone k w t (Ok v) →
          Walks (first_of_branch bone counts k) (branch counts k bones) t v u (Ok z) →
          WalksBranches bone counts bones places w u a (Ok ends) →
          WalksBranches bone counts bones (k ∷ places) w s a (Ok (z ∷ ends))

-- the walk of all the bones leads from a state and a world to a state and a world
abbrev pub Composed : {S W X : Type 0} → Meaning S W X → ℕ → List Bone → S → W → S → W → Type 0
Composed m first bones s w t v = Walks m first bones s w t (Ok v)

-- the walk of the bones halts at this stop, its first one, in the state t
abbrev pub Halted : {S W X : Type 0} → Meaning S W X → ℕ → List Bone → S → W → S → X → Type 0
Halted m first bones s w t stop = Walks m first bones s w t (Err stop)
