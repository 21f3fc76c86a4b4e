use Rattle.sk_lattice.proofs.Tuples.{tuple_laws}
use Rattle.sk_lattice.proofs.laws.tuple_laws.Goals as goal

pub returns : goal.returns
returns g c = tuple_laws _ g.D.NumDom.domain g.met.D.NumDom.laws
