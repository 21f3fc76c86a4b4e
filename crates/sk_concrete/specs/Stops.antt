-- What is answered where a walk may stop.
use Rattle.std.specs.Prelude.{◌≡◌, List, Result, Ok, Err}
use Rattle.sk_deriv.specs.declared.call.Call.{Call}
use Rattle.sk_concrete.specs.declared.concrete.ConcreteStop.{ConcreteStop}
use Rattle.sk_concrete.specs.declared.concrete.ConcreteStop.TheVariants.{Unanswered, NoMemory}
use Rattle.sk_concrete.specs.declared.world.World.{World}
use Rattle.sk_concrete.specs.declared.worlds.Worlds.{Worlds}
use Rattle.sk_concrete.specs.declared.world.Answer.{Answer}

-- a stop is the call that has no answer; want of memory says nothing
abbrev pub StopsAt : Result (List World × List Answer) Call → ConcreteStop → Type 0
StopsAt wanted (Unanswered c) = wanted ≡ Err c
StopsAt wanted NoMemory = Unit {0}

-- an Ok has these worlds, and no call is without an answer; want of memory says nothing
abbrev pub Makes : List World → Result Worlds ConcreteStop → Type 0
Makes ws (Ok v) = v.list ≡ ws
Makes ws (Err (Unanswered c)) = ⊥
Makes ws (Err NoMemory) = Unit {0}

-- an Ok has the worlds after a hook bone, and these answers are left; a stop is the call that has no answer
abbrev pub MakesAnswered : Result (List World × List Answer) Call → List Answer → Result Worlds ConcreteStop → Type 0
MakesAnswered wanted left (Ok v) = wanted ≡ Ok (v.list, left)
MakesAnswered wanted left (Err stop) = StopsAt wanted stop
