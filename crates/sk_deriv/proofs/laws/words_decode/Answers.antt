use Rattle.sk_deriv.proofs.Unique.{words_decode}
use Rattle.sk_deriv.proofs.laws.words_decode.Goals as goal

pub returns : goal.returns
returns c = words_decode
