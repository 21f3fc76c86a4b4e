use Rattle.sk_lattice.proofs.Tuples.{tuple_laws}
use Rattle.sk_abswalk.proofs.Proper.{walks_are_proper}
use Rattle.sk_abswalk.proofs.laws.walks_are_proper.Goals as goal

pub returns : goal.returns
returns g c = walks_are_proper _ g.D.NumDom.domain (tuple_laws _ _ g.met.D.NumDom.laws)
