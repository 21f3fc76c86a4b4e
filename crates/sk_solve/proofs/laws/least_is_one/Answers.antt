use Rattle.sk_lattice.proofs.Tuples.{tuple_laws}
use Rattle.sk_solve.proofs.LeastOne.{least_is_one}
use Rattle.sk_solve.proofs.laws.least_is_one.Goals as goal

pub returns : goal.returns
returns g c = least_is_one g.D.NumDom.domain (tuple_laws _ g.D.NumDom.domain g.met.D.NumDom.laws)
