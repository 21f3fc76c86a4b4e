use Rattle.sk_abswalk.proofs.Bounds.{bounds_do_not_matter}
use Rattle.sk_abswalk.proofs.laws.bounds_do_not_matter.Goals as goal

pub returns : goal.returns
returns g c = bounds_do_not_matter _ g.D.NumDom.domain
