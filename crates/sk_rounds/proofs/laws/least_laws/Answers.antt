use Rattle.sk_rounds.proofs.Ending.{least_laws}
use Rattle.sk_rounds.proofs.laws.least_laws.Goals as goal

pub returns : goal.returns
returns g c = λ w laws fin. least_laws _ _ w laws fin
