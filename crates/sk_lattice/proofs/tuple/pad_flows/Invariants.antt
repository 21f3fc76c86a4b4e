use Rattle.std.proofs.Common.{◌≡◌, ◌++◌, map, take, drop}
use Rattle.sk_lattice.specs.Padding.{padded_flow}
use Rattle.sk_lattice.proofs.tuple.pad_flows.Given as goal

abbrev pub invariant-loop-flow : goal.invariant-loop-flow
invariant-loop-flow g l = l.flow-items ≡ map (padded_flow g.D.NumDom.domain l.names) (take l.flow-index l.fn.flows) ++ drop l.flow-index l.fn.flows
