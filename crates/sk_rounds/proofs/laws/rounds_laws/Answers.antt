use Rattle.sk_rounds.proofs.Ending.{rounds_laws}
use Rattle.sk_rounds.proofs.laws.rounds_laws.Goals as goal

pub returns : goal.returns
returns g c = λ w laws. rounds_laws _ _ w laws
