use Rattle.sk_lattice.proofs.Widening.{rank_laws}
use Rattle.sk_lattice.proofs.laws.tuple_rank_laws.Goals as goal

pub returns : goal.returns
returns g c = λ marks are. rank_laws _ g.D.NumDom.domain g.met.D.NumDom.laws marks are g.D.NumDom.FINITE g.met.D.NumDom.finite
