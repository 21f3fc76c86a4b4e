use Rattle.sk_reasons.proofs.GoodExactly.{good_has_no_fault}
use Rattle.sk_reasons.proofs.laws.good_has_no_fault.Goals as goal

pub returns : goal.returns
returns c = good_has_no_fault
