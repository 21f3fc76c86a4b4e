use Rattle.sk_least.specs.Domains.{intervals_least_on}
use Rattle.sk_least.proofs.laws.interval_filters_are_least.Goals as goal

pub returns : goal.returns
returns c = c.filters_are_least.ensures intervals_least_on c.intervals_are_least.ensures
