use Rattle.sk_solve.specs.Climbing.{IsStep, KeysHold}
use Rattle.sk_solve.proofs.solving.raise_keys.Given as goal

abbrev pub invariant-loop-at : goal.invariant-loop-at
invariant-loop-at g l = IsStep g.D.NumDom.domain l.list (KeysHold g.D.NumDom.domain l.list l.at) l.fn.found l.found l.changed
