use Rattle.sk_lattice.proofs.SortLemmas.{shape_laws}
use Rattle.sk_lattice.proofs.laws.tuple_shape_laws.Goals as goal

pub returns : goal.returns
returns g c = shape_laws _ g.D.NumDom.domain
