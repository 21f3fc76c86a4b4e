use Rattle.std.proofs.Common.{refl}
use Rattle.sk_reasons.proofs.AllSeen.{placed_all, after_all}
use Rattle.sk_reasons.proofs.laws.all_seen_is_defined.Goals as goal

pub returns : goal.returns
returns c = λ d own hooks nesting size first g bones within fits pass. (
  placed_all d own size first g nesting bones within fits refl pass,
  after_all d own size first g nesting bones within fits refl pass,
)
