use Rattle.sk_abswalk.proofs.Verdicts.{verdicts_are_right}
use Rattle.sk_abswalk.proofs.verdict.verdicts_are_right.Goals as goal

pub returns : goal.returns
returns g c = verdicts_are_right _ g.D.NumDom.domain
