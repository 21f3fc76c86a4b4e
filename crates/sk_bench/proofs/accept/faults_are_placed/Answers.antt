use Rattle.sk_bench.proofs.Placed.{fault_is_placed}
use Rattle.sk_bench.proofs.accept.faults_are_placed.Goals as goal

pub returns : goal.returns
returns c fits placed = fault_is_placed c.args.source.now fits placed
