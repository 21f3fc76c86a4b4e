use Rattle.sk_concrete.proofs.Closing.{ClosedSoFar}
use Rattle.sk_concrete.proofs.tree.close.Given as goal

abbrev pub invariant-loop-world : goal.invariant-loop-world
invariant-loop-world l = ClosedSoFar l.call l.rule l.initial.forest l.worlds l.forest l.trees l.world-index
