use Rattle.sk_spell.proofs.AbsTuples.{abs_tuples_are_read_exactly}
use Rattle.sk_spell.proofs.laws.abs_tuples_are_read_exactly.Goals as goal

pub returns : goal.returns
returns g c = abs_tuples_are_read_exactly g.D.NumDom.domain g.D.NumDom.texts g.met.D.NumDom.text_laws
