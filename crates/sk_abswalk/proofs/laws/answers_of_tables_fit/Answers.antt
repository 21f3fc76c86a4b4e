use Rattle.sk_lattice.proofs.SortLemmas.{shape_laws}
use Rattle.sk_abswalk.proofs.RulesFit.{answers_of_tables_fit}
use Rattle.sk_abswalk.proofs.laws.answers_of_tables_fit.Goals as goal

pub returns : goal.returns
returns g c = answers_of_tables_fit _ g.D.NumDom.domain (shape_laws _ g.D.NumDom.domain)
