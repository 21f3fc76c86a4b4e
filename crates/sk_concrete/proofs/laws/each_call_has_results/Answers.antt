use Rattle.sk_concrete.proofs.ListExists.{list_exists}
use Rattle.sk_concrete.proofs.laws.each_call_has_results.Goals as goal

pub returns : goal.returns
returns c = list_exists
