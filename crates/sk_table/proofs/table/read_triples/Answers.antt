use Rattle.std.proofs.Common.{sym, subst, length}
use Rattle.sk_lex.specs.Symbols.{symbols}
use Rattle.sk_table.specs.Tables.{TableReading}
use Rattle.sk_table.specs.Written.{IsTable}
use Rattle.sk_table.proofs.TableTurns.{fits_by, stays}
use Rattle.sk_table.proofs.table.read_triples.Goals as goal

pub returns-clause-table : goal.returns-clause-table
returns-clause-table g c =
    let P : TableReading g.row.D.Denot → Type 0 = λ state. IsTable g.D.NumDom.domain c.args.def.now c.args.arena.now (length c.args.names.now) state.triples in
    subst P (sym c.reader.view_is)
    (fits_by g.D.NumDom.domain g.D.NumDom.texts g.met.D.NumDom.text_laws.within c.args.def.now c.args.arena.now c.args.names.now (symbols c.args.text.now c.args.tokens.now)
    c.new-reader.result c.read_whole.new.reader c.new-reader.ensures c.in_ok-read_whole.ensures.gives (c.read_whole.ensures.kept c.new-reader.result (stays c.new-reader.result)))
