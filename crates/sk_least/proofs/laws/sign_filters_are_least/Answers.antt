use Rattle.sk_least.specs.Domains.{everywhere}
use Rattle.sk_least.proofs.Everywhere.{all_pass}
use Rattle.sk_least.proofs.laws.sign_filters_are_least.Goals as goal

pub returns : goal.returns
returns c = λ filter names args leaves. c.filters_are_least.ensures everywhere c.signs_are_least.ensures filter names args leaves (all_pass filter args)
