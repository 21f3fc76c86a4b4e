use Rattle.std.proofs.Common.{refl}
use Rattle.sk_reasons.proofs.SortedExactly.{passing_sorted, sorted_passing}
use Rattle.sk_reasons.proofs.laws.bones_are_sorted_exactly.Goals as goal

pub returns : goal.returns
returns c = λ d own hooks nesting size first g bones within fits. (
  (λ pass. passing_sorted d own size first g nesting bones within fits refl pass),
  (λ sorted. sorted_passing d own size first g nesting bones within fits refl sorted),
)
