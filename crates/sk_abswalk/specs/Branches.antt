-- The worlds at the ends of branches.
use Rattle.std.specs.Prelude.{◌≡◌, Bool, is_none, Option, Some, None, Result, Ok, Err, MatchOption}
use Rattle.sk_absfilter.specs.Abstract.{Outcome}
use Rattle.sk_abswalk.specs.declared.world.World.{World}
use Rattle.sk_abswalk.specs.declared.stop.Stop.{Stop}
use Rattle.sk_abswalk.specs.Walk.{AbsEnv, Flows}
use Rattle.sk_abswalk.specs.FromTable.{stop_of}

-- the environment of a world
abbrev pub env_of : {D : Type 0} → World D → Option (AbsEnv D)
env_of w = w.env

-- whether nothing gets to a world
abbrev pub is_gone : {D : Type 0} → World D → Bool
is_gone w = is_none w.env

-- a joined tuple is there, or the two don't fit, unless memory ran out
abbrev pub Joins : {D : Type 0} → Outcome D → Result (Flows D) (Stop D) → Type 0
Joins o (Ok tuple) = o ≡ Some tuple
Joins o (Err stop) = MatchOption (stop_of stop) (Unit {0}) (λ c. (c ≡ None) × (o ≡ None))
