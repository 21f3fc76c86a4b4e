use Rattle.sk_lattice.proofs.Tuples.{tuple_laws}
use Rattle.sk_abswalk.proofs.Meets.{answers_are_meets}
use Rattle.sk_abswalk.proofs.laws.answers_are_meets.Goals as goal

pub returns : goal.returns
returns g c = answers_are_meets _ g.D.NumDom.domain (tuple_laws _ _ g.met.D.NumDom.laws)
