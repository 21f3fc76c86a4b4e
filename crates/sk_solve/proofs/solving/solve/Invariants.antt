use Rattle.sk_solve.specs.Climbing.{IsUnderway, total_rank}
use Rattle.sk_solve.proofs.solving.solve.Given as goal

abbrev pub invariant-passes : goal.invariant-passes
invariant-passes g l = IsUnderway g.D.NumDom.domain l.list l.found.items

abbrev pub decreases-passes : goal.decreases-passes
decreases-passes g l = total_rank g.D.NumDom.domain l.list l.found.items
