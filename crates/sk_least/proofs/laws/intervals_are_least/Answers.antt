use Rattle.sk_least.proofs.Intervals.{intervals_least}
use Rattle.sk_least.proofs.laws.intervals_are_least.Goals as goal

pub returns : goal.returns
returns c = intervals_least
