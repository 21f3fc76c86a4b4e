use Rattle.std.proofs.Common.{◌≡◌, max, drop}
use Rattle.sk_deriv.proofs.Heights.{greatest_of}
use Rattle.sk_deriv.proofs.forest.Forest.+height.Given as goal

abbrev pub decreases-height : goal.decreases-height
decreases-height l = l.node

abbrev pub invariant-loop-step : goal.invariant-loop-step
invariant-loop-step l = max l.greatest (greatest_of l.self (drop l.step-index l.step-items)) ≡ greatest_of l.self l.step-items
