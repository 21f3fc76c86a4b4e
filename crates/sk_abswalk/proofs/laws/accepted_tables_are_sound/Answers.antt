use Rattle.sk_lattice.proofs.Tuples.{tuple_laws}
use Rattle.sk_abswalk.proofs.Sound.{accepted_are_sound}
use Rattle.sk_abswalk.proofs.laws.accepted_tables_are_sound.Goals as goal

pub returns : goal.returns
returns g c = accepted_are_sound _ g.D.NumDom.domain (tuple_laws _ _ g.met.D.NumDom.laws) c.filters_are_sound.ensures
