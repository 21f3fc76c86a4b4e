use Rattle.sk_lattice.proofs.SortLemmas.{shape_laws}
use Rattle.sk_lattice.proofs.Tuples.{tuple_laws}
use Rattle.sk_agree.proofs.LeastExists.{least_there}
use Rattle.sk_agree.proofs.TwoMarks.{two_marks, two_marks_are}
use Rattle.sk_agree.proofs.laws.least_solutions_exist.Goals as goal

pub returns : goal.returns
returns g c = λ fin def program covers sorted is_program covers_fit list constraints.
    let d = g.D.NumDom.domain in
    let laws = c.readings_are_walks.ensures def program covers two_marks sorted is_program two_marks_are covers_fit in
    least_there _ d (tuple_laws _ d g.met.D.NumDom.laws) (shape_laws _ d) c.filters_are_monotone.ensures c.filters_keep_sorts.ensures c.walks_fit.ensures c.walks_are_proper.ensures def program sorted is_program g.D.NumDom.FINITE two_marks covers list constraints laws fin
