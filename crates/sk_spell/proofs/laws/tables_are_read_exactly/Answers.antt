use Rattle.std.specs.Prelude.{length}
use Rattle.sk_spell.proofs.TableOnly.{only_tables_are_read}
use Rattle.sk_spell.proofs.TableSpelled.{tables_are_read}
use Rattle.sk_spell.proofs.TableTuples.{by_reading}
use Rattle.sk_spell.proofs.laws.tables_are_read_exactly.Goals as goal

pub returns : goal.returns
returns g c = λ def program names triples symbols. (
  only_tables_are_read g.D.NumDom.domain g.D.NumDom.texts def program names triples symbols _ (by_reading g.D.NumDom.domain g.D.NumDom.texts names (length symbols)),
  tables_are_read g.D.NumDom.domain g.D.NumDom.texts def program names triples symbols _ (by_reading g.D.NumDom.domain g.D.NumDom.texts names (length symbols)),
)
