use Rattle.sk_value.proofs.Numbers.{results_are_given}
use Rattle.sk_absfilter.proofs.Sound.{sound}
use Rattle.sk_absfilter.proofs.laws.filters_are_sound.Goals as goal

pub returns : goal.returns
returns g c = sound results_are_given _ g.D.NumDom.domain g.met.D.NumDom.laws
