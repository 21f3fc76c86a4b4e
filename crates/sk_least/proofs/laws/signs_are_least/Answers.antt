use Rattle.sk_least.proofs.Signs.{signs_least}
use Rattle.sk_least.proofs.laws.signs_are_least.Goals as goal

pub returns : goal.returns
returns c = signs_least c.signs_are_best.ensures c.order_is_inclusion.ensures
