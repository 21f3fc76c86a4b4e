use Rattle.sk_abswalk.proofs.Agreement.{walks_agree}
use Rattle.sk_abswalk.proofs.laws.walks_agree.Goals as goal

pub returns : goal.returns
returns g c = walks_agree _ g.D.NumDom.domain
