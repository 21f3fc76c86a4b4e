use Rattle.sk_sign.proofs.Included.{order_is_inclusion}
use Rattle.sk_sign.proofs.order_is_inclusion.Goals as goal

pub returns : goal.returns
returns c = order_is_inclusion
