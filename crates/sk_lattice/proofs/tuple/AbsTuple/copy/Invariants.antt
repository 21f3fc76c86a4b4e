use Rattle.std.proofs.Common.{◌≡◌, take}
use Rattle.sk_lattice.proofs.tuple.AbsTuple.copy.Given as goal

abbrev pub invariant-loop-flow : goal.invariant-loop-flow
invariant-loop-flow g l = l.flows.items ≡ take l.flow-index l.self
