use Rattle.sk_sign.proofs.BestLemmas.{signs_are_best}
use Rattle.sk_sign.proofs.signs_are_best.Goals as goal

pub returns : goal.returns
returns c = signs_are_best
