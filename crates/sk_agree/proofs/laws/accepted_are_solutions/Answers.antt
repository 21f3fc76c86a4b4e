use Rattle.sk_lattice.proofs.SortLemmas.{shape_laws}
use Rattle.sk_lattice.proofs.Tuples.{tuple_laws}
use Rattle.sk_agree.proofs.WalkSolves.{accepted_solved}
use Rattle.sk_agree.proofs.laws.accepted_are_solutions.Goals as goal

pub returns : goal.returns
returns g c = λ def program covers marks sorted is_program list constraints table fits accepted.
    let d = g.D.NumDom.domain in
    accepted_solved _ d (tuple_laws _ d g.met.D.NumDom.laws) (shape_laws _ d) c.filters_keep_sorts.ensures c.walks_fit.ensures c.walks_are_proper.ensures def program sorted is_program g.D.NumDom.FINITE marks covers list constraints table fits accepted
