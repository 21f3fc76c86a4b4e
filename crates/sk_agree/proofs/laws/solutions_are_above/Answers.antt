use Rattle.sk_lattice.proofs.Tuples.{tuple_laws}
use Rattle.sk_agree.proofs.Accepted.{solution_above}
use Rattle.sk_agree.proofs.laws.solutions_are_above.Goals as goal

pub returns : goal.returns
returns g c = λ def program covers marks sorted is_program are covers_fit list constraints a solves.
    let d = g.D.NumDom.domain in
    let laws = c.readings_are_walks.ensures def program covers marks sorted is_program are covers_fit in
    solution_above _ d (tuple_laws _ d g.met.D.NumDom.laws) c.filters_are_monotone.ensures def program sorted is_program g.D.NumDom.FINITE marks covers list constraints a solves laws
