-- The interpretation that answers calls by their keys and gathers them, and what it answers.
use Rattle.std.proofs.Common.{append-nil, append_assoc}
use Rattle.std.specs.Prelude.{◌≡◌, refl, List, ◌++◌, Option, Result, Ok, Err, MatchOption}
use Rattle.sk_walk.specs.Walks.{Meaning}
use Rattle.sk_lattice.specs.Domain.{Domain}
use Rattle.sk_absfilter.specs.Abstract.{Outcome}
use Rattle.sk_table.specs.declared.triple.Cover.{Cover}
use Rattle.sk_abswalk.specs.declared.collect.Collect.{Collect}
use Rattle.sk_abswalk.specs.declared.world.World.{World}
use Rattle.sk_abswalk.specs.declared.stop.Stop.{Stop}
use Rattle.sk_abswalk.specs.Walk.{Flows, with, Walk}
use Rattle.sk_abswalk.specs.Keys.{Key, by_key}
use Rattle.sk_abswalk.specs.Meaning.{Reader, stopped, abstract_meaning}
use Rattle.sk_abswalk.specs.FromTable.{stop_of}
use Rattle.sk_abswalk.specs.Branches.{env_of}

-- it reads the outputs of keys, and appends the calls to those that it has
abbrev pub collect_reader : {D T : Type 0} → (T → Key → Outcome D) → Reader (Collect D T) D
collect_reader outputs = record {
  reads = λ s. record { answers = by_key (outputs s.outputs.now); names = s.names; point = s.point };
  add = λ s asked. record s { calls = s.calls ++ asked };
  add_nothing = λ s i. record s { calls = append-nil s.calls i };
  add_more = λ s asked later i. record s { calls = append_assoc s.calls asked later i };
  stays = λ s asked. refl;
}

abbrev pub collect_meaning : {D T : Type 0} → Domain D → (T → Key → Outcome D) → Meaning (Collect D T) (World D) (Stop D)
collect_meaning d outputs = abstract_meaning (collect_reader outputs) env_of stop_of d

-- the answer is the walk's end, and its calls were gathered behind the earlier ones, unless memory ran out
abbrev pub Gathers : {D X : Type 0} → Walk D X → List (Cover D) → List (Cover D) → Result (Option X) (Stop D) → Type 0
Gathers w before calls (Ok o) = (calls ≡ before ++ w.asked) × (w.ends ≡ with o)
Gathers w before calls (Err stop) = MatchOption (stop_of stop) (Unit {0}) (λ c. (calls ≡ before ++ w.asked) × (w.ends ≡ stopped c))

-- the answer has the walk's outcome and its calls, or the walk stops, unless memory ran out
abbrev pub Tells : {D : Type 0} → Walk D (Flows D) → Result (Outcome D × List (Cover D)) (Stop D) → Type 0
Tells w (Ok told) = w ≡ record { asked = told.1; ends = with told.0 }
Tells w (Err stop) = MatchOption (stop_of stop) (Unit {0}) (λ c. w.ends ≡ stopped c)
