use Rattle.sk_deriv.proofs.ExchangeLemmas.{exchange_keeps}
use Rattle.sk_deriv.proofs.laws.exchange_keeps.Goals as goal

pub returns : goal.returns
returns c = exchange_keeps
