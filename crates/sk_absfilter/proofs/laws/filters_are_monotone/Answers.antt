use Rattle.sk_lattice.proofs.Tuples.{tuple_laws}
use Rattle.sk_absfilter.proofs.Monotone.{monotone}
use Rattle.sk_absfilter.proofs.laws.filters_are_monotone.Goals as goal

pub returns : goal.returns
returns g c = monotone _ g.D.NumDom.domain g.met.D.NumDom.laws (tuple_laws _ g.D.NumDom.domain g.met.D.NumDom.laws)
