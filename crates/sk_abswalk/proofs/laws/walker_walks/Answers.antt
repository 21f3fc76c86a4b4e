use Rattle.sk_abswalk.proofs.Walker.{walker_law}
use Rattle.sk_abswalk.proofs.laws.walker_walks.Goals as goal

pub returns : goal.returns
returns g c = walker_law g.D.NumDom.domain
