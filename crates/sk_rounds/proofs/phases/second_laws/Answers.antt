use Rattle.sk_rounds.proofs.SecondPhase.{second_laws}
use Rattle.sk_rounds.proofs.phases.second_laws.Goals as goal

pub returns : goal.returns
returns g c = λ w laws meet meets. second_laws _ _ w laws meet meets
