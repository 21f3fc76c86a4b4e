use Rattle.sk_lattice.proofs.Tuples.{tuple_laws}
use Rattle.sk_rounds.proofs.TupleWalks.{order_laws, widen_laws}
use Rattle.sk_abswalk.proofs.WalkLaws.{reading_laws, walk_laws}
use Rattle.sk_abswalk.proofs.round_laws.readings_are_walks.Goals as goal

pub returns : goal.returns
returns g c = λ def program covers marks sorted is_program are covers_fit.
    let d = g.D.NumDom.domain in
    let domain_laws = g.met.D.NumDom.laws in
    let tuples = tuple_laws _ d domain_laws in
    let fit = c.walks_fit.ensures in
    let proper = c.walks_are_proper.ensures in
    let monotone = c.walks_are_monotone.ensures in
    let reading = reading_laws _ d tuples fit proper def program sorted is_program g.D.NumDom.FINITE marks covers in
    record {
      order = order_laws _ d domain_laws _ g.D.NumDom.FINITE marks _ reading;
      widening = widen_laws _ d domain_laws marks are g.D.NumDom.FINITE g.met.D.NumDom.finite _ _ reading;
      walk = walk_laws _ d tuples fit proper def program sorted is_program g.D.NumDom.FINITE marks covers monotone covers_fit;
    }
