use Rattle.sk_spell.proofs.AbsTuples.{abs_tuples_are_read_exactly}
use Rattle.sk_spell.proofs.TableInFull.{in_full}
use Rattle.sk_spell.proofs.TextsSpelled.{table_texts}
use Rattle.sk_spell.proofs.laws.table_texts_are_read_exactly.Goals as goal

pub returns : goal.returns
returns g c =
    table_texts g.D.NumDom.domain g.D.NumDom.texts
    (in_full g.D.NumDom.domain g.D.NumDom.texts (abs_tuples_are_read_exactly g.D.NumDom.domain g.D.NumDom.texts g.met.D.NumDom.text_laws))
