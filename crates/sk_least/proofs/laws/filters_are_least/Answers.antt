use Rattle.sk_value.proofs.Numbers.{results_are_given}
use Rattle.sk_least.proofs.Filters.{filters_least}
use Rattle.sk_least.proofs.laws.filters_are_least.Goals as goal

pub returns : goal.returns
returns g c = λ least_on least. filters_least _ g.D.NumDom.domain g.met.D.NumDom.laws results_are_given least_on least c.filters_are_sound.ensures
