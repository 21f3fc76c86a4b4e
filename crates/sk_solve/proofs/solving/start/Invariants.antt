use Rattle.std.proofs.Common.{◌≡◌, ◌++◌, drop, map}
use Rattle.sk_solve.specs.Climbing.{nothing_at}
use Rattle.sk_solve.proofs.solving.start.Given as goal

abbrev pub invariant-loop-at : goal.invariant-loop-at
invariant-loop-at g l = l.found.items ++ map nothing_at (drop l.at l.list.keys) ≡ map nothing_at l.list.keys
