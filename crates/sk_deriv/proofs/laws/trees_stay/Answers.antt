use Rattle.sk_deriv.proofs.ForestLemmas.{tree_at-append}
use Rattle.sk_deriv.proofs.laws.trees_stay.Goals as goal

pub returns : goal.returns
returns c = tree_at-append
