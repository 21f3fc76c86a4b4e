use Rattle.std.proofs.Common.{◌≡◌, ◌≤◌, take, length}
use Rattle.sk_value.proofs.tuple.Tuple.copy.Given as goal

abbrev pub invariant-loop-flow : goal.invariant-loop-flow
invariant-loop-flow l = (l.copy ≡ take l.flow-index l.self) × (length l.self ≤ 4)
