use Rattle.sk_reasons.proofs.OnlySeen.{placed_only, after_only}
use Rattle.sk_reasons.proofs.laws.only_seen_is_defined.Goals as goal

pub returns : goal.returns
returns c = λ d hooks vars nesting size first g bones within fits. (
  placed_only d size first g nesting bones within fits,
  after_only d size g nesting bones within fits,
)
