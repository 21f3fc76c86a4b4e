use Rattle.sk_reasons.proofs.Noes.{unjustified_is_right}
use Rattle.sk_reasons.proofs.laws.unjustified_is_right.Goals as goal

pub returns : goal.returns
returns g c = unjustified_is_right _ g.D.NumDom.domain
