use Rattle.sk_value.proofs.Numbers.{results_are_given}
use Rattle.sk_value.proofs.arith.results_are_given.Goals as goal

pub returns : goal.returns
returns c = results_are_given
