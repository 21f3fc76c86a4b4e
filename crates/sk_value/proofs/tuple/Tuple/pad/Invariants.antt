use Rattle.std.proofs.Common.{◌≡◌, ◌++◌, map, take, drop}
use Rattle.sk_value.specs.Padding.{padded_flow}
use Rattle.sk_value.proofs.tuple.Tuple.pad.Given as goal

abbrev pub invariant-loop-flow : goal.invariant-loop-flow
invariant-loop-flow l = l.flow-items ≡ map (padded_flow l.names) (take l.flow-index l.fn.self) ++ drop l.flow-index l.fn.self
