-- The concrete reading of a rule's bones.
use Rattle.std.specs.Prelude.{◌≡◌, map}
use Rattle.std.specs.List.{flat_map}
use Rattle.sk_walk.specs.Walks.{Meaning}
use Rattle.sk_concrete.specs.declared.concrete.Concrete.{Concrete}
use Rattle.sk_concrete.specs.declared.concrete.ConcreteStop.{ConcreteStop}
use Rattle.sk_concrete.specs.declared.worlds.Worlds.{Worlds}
use Rattle.sk_concrete.specs.Worlds.{filtered, answers_in_order, forked, merged}
use Rattle.sk_concrete.specs.Stops.{Makes, MakesAnswered}

-- A filter bone gives each world its results, a hook bone the derivations of its call, taken in order from those
-- that were handed in; a branch bone gives each world the ends of its branches.
abbrev pub concrete_meaning : Meaning Concrete Worlds ConcreteStop
concrete_meaning = record {
  filter = λ s bone filter args outs w t answer.
      (t ≡ s) × Makes (flat_map (filtered s.names filter args outs) w.list) answer;
  hook = λ s bone hook target args outs w t answer.
      ((t.names ≡ s.names) × (t.point ≡ s.point)) × MakesAnswered (answers_in_order s.point hook target args outs s.handed.now w.list) t.handed.now answer;
  fork = λ s bone branch w t answer.
      (t ≡ s) × Makes (forked branch 0 w.list) answer;
  merge = λ s bone exports before ends t answer.
      (t ≡ s) × Makes (merged exports (map (λ (end : Worlds). end.list) ends) 0 before.list) answer;
}
