use Rattle.sk_deriv.proofs.OneResult.{listing_is_exact}
use Rattle.sk_deriv.proofs.laws.listing_is_exact.Goals as goal

pub returns : goal.returns
returns c = listing_is_exact
