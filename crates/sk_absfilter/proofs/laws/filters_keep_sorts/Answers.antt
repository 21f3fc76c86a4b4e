use Rattle.sk_absfilter.proofs.Fitting.{sorts_kept}
use Rattle.sk_absfilter.proofs.laws.filters_keep_sorts.Goals as goal

pub returns : goal.returns
returns g c = sorts_kept _ g.D.NumDom.domain
