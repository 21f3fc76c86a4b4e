use Rattle.sk_lattice.proofs.Tuples.{tuple_laws}
use Rattle.sk_abswalk.proofs.Meets.{answers_are_monotone}
use Rattle.sk_abswalk.proofs.laws.answers_are_monotone.Goals as goal

pub returns : goal.returns
returns g c = answers_are_monotone _ g.D.NumDom.domain (tuple_laws _ _ g.met.D.NumDom.laws)
