use Rattle.sk_lattice.proofs.SortLemmas.{shape_laws}
use Rattle.sk_abswalk.proofs.RulesFit.{walks_fit}
use Rattle.sk_abswalk.proofs.laws.walks_fit.Goals as goal

pub returns : goal.returns
returns g c = walks_fit _ g.D.NumDom.domain (shape_laws _ g.D.NumDom.domain)
