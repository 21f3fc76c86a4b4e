use Rattle.sk_rounds.proofs.Orders.{replay_laws}
use Rattle.sk_rounds.proofs.laws.replay_laws.Goals as goal

pub returns : goal.returns
returns g c = λ w laws fin. replay_laws _ _ w laws fin
