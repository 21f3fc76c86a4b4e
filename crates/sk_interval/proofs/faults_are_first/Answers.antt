use Rattle.sk_interval.proofs.Faults.{faults_are_first}
use Rattle.sk_interval.proofs.faults_are_first.Goals as goal

pub returns : goal.returns
returns c = faults_are_first
