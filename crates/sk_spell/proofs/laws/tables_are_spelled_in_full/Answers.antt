use Rattle.sk_spell.proofs.AbsTuples.{abs_tuples_are_read_exactly}
use Rattle.sk_spell.proofs.TableInFull.{in_full}
use Rattle.sk_spell.proofs.laws.tables_are_spelled_in_full.Goals as goal

pub returns : goal.returns
returns g c = in_full g.D.NumDom.domain g.D.NumDom.texts (abs_tuples_are_read_exactly g.D.NumDom.domain g.D.NumDom.texts g.met.D.NumDom.text_laws)
