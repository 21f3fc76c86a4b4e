use Rattle.sk_deriv.proofs.Unique.{results_are_one}
use Rattle.sk_deriv.proofs.laws.results_are_one.Goals as goal

pub returns : goal.returns
returns c = results_are_one
