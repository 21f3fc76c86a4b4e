-- What the walker answers.
use Rattle.std.specs.Prelude.{ℕ, List, Result, Ok, Err}
use Rattle.sk_def.specs.declared.bone.Bone.{Bone}
use Rattle.sk_walk.specs.declared.stop.WalkStop.{WalkStop}
use Rattle.sk_walk.specs.declared.stop.WalkStop.TheVariants.{Stop, NoMemory}
use Rattle.sk_walk.specs.Walks.{Meaning, WalksBranches, Composed, Halted}

-- an Ok is a composed walk, and a stop a halted one; want of memory says nothing
abbrev pub AnswersWalk : {S W X : Type 0} → Meaning S W X → ℕ → List Bone → S → W → S → Result W (WalkStop X) → Type 0
AnswersWalk m first bones s w t (Ok v) = Composed m first bones s w t v
AnswersWalk m first bones s w t (Err (Stop stop)) = Halted m first bones s w t stop
AnswersWalk m first bones s w t (Err NoMemory) = Unit {0}

-- the walk of the branches stopped, or wanted memory
abbrev pub StopsBranches : {S W X : Type 0} → Meaning S W X → ℕ → List ℕ → List Bone → List ℕ → W → S → S → WalkStop X → Type 0
StopsBranches m bone counts bones places w s t (Stop stop) = WalksBranches m bone counts bones places w s t (Err stop)
StopsBranches m bone counts bones places w s t NoMemory = Unit {0}
