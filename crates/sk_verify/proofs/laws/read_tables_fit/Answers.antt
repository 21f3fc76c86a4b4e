use Rattle.sk_verify.proofs.Reading.{read_tables_fit}
use Rattle.sk_verify.proofs.laws.read_tables_fit.Goals as goal

pub returns : goal.returns
returns g c = read_tables_fit _
