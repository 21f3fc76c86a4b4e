-- The interpretation that answers calls from a table, and what it answers.
use Rattle.std.specs.Prelude.{◌≡◌, List, Option, Some, None, Result, Ok, Err, MatchOption}
use Rattle.sk_def.specs.declared.ids.Var.{Var}
use Rattle.sk_deriv.specs.Env.{gain}
use Rattle.sk_table.specs.declared.triple.Cover.{Cover}
use Rattle.sk_abswalk.specs.declared.stop.Stop.{Stop}
use Rattle.sk_abswalk.specs.declared.stop.Stop.TheVariants.{Uncovered, Ill, NoMemory}
use Rattle.sk_abswalk.specs.declared.stop.FromStop.{FromStop}
use Rattle.sk_abswalk.specs.declared.stop.FromStop.TheVariants as from
use Rattle.sk_abswalk.specs.Walk.{AbsEnv, Flows, Ends, uncovered, with}
use Rattle.sk_abswalk.specs.Meaning.{stopped}

-- where a walk stops; want of memory is no place
abbrev pub stop_of : {D : Type 0} → Stop D → Option (Option (Cover D))
stop_of (Uncovered hook point args) = Some (Some (record { hook = hook; point = point; ins = args }))
stop_of Ill = Some None
stop_of NoMemory = None

-- an answer is an end, unless memory ran out
abbrev pub Gives : {D X : Type 0} → Ends D X → Result (Option X) (Stop D) → Type 0
Gives ends (Ok o) = ends ≡ with o
Gives ends (Err stop) = MatchOption (stop_of stop) (Unit {0}) (λ c. ends ≡ stopped c)

-- the same without ill bones
abbrev pub GivesFrom : {D X : Type 0} → Ends D X → Result (Option X) (FromStop D) → Type 0
GivesFrom ends (Ok o) = ends ≡ with o
GivesFrom ends (Err (from.Uncovered hook point args)) = ends ≡ uncovered (record { hook = hook; point = point; ins = args })
GivesFrom ends (Err from.NoMemory) = Unit {0}

-- an environment gained what a walk ended with, or the bone doesn't fit, unless memory ran out
abbrev pub Gains : {D : Type 0} → Ends D (Flows D) → List Var → AbsEnv D → AbsEnv D → Result (Unit {0}) (Stop D) → Type 0
Gains ends vars env after (Ok done) = (flows : Flows _) × (ends ≡ with (Some flows)) × (after ≡ gain env vars flows)
Gains ends vars env after (Err stop) = MatchOption (stop_of stop) (Unit {0}) (λ c. ends ≡ stopped c)
