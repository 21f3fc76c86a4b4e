use Rattle.std.proofs.Common.{◌≡◌, true}
use Rattle.sk_solve.specs.Solves.{cover_holds}
use Rattle.sk_solve.specs.Climbing.{IsStep}
use Rattle.sk_solve.proofs.Passes.{EachBelow}
use Rattle.sk_solve.proofs.solving.raise_covers.Given as goal

abbrev pub invariant-loop-cover : goal.invariant-loop-cover
invariant-loop-cover g l =
    IsStep g.D.NumDom.domain l.list (λ a. EachBelow l.cover-index (λ cover. cover_holds g.D.NumDom.domain l.list.names a cover ≡ true) l.list.covers) l.fn.found l.found l.changed
