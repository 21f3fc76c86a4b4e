use Rattle.sk_reasons.proofs.Noes.{cover_missing_is_right}
use Rattle.sk_reasons.proofs.laws.cover_missing_is_right.Goals as goal

pub returns : goal.returns
returns g c = cover_missing_is_right _ g.D.NumDom.domain
