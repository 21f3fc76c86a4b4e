use Rattle.sk_rounds.proofs.Accepting.{table_laws}
use Rattle.sk_rounds.proofs.laws.table_laws.Goals as goal

pub returns : goal.returns
returns g c = λ w laws. table_laws _ _ w laws
