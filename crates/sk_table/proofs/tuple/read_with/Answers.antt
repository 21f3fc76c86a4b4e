use Rattle.std.proofs.Common.{drop}
use Rattle.sk_lex.specs.Symbols.{symbols}
use Rattle.sk_table.specs.Meets.{are_known, names_in}
use Rattle.sk_table.proofs.TupleNames.{keeps_self, same_known, grown_since, same_names}
use Rattle.sk_table.proofs.TupleStops.{front_from, names_grow}
use Rattle.sk_table.proofs.TupleTurns.{read_by}
use Rattle.sk_table.proofs.tuple.read_with.Goals as goal

pub returns-clause-flows : goal.returns-clause-flows
returns-clause-flows g c =
    read_by g.D.NumDom.domain g.D.NumDom.texts g.met.D.NumDom.text_laws.within (are_known c.args.naming) (names_in c.args.naming) c.args.sorts.now c.args.from
    (drop c.args.from (symbols c.args.text.now c.args.tokens.now)) c.new-reader.result c.read_on-end.new.reader c.read_on-end.result c.new-reader.ensures c.read_on-end.ensures.gives

pub returns-clause-known : goal.returns-clause-known
returns-clause-known g c = same_known g.D.NumDom.domain c.new-reader.ensures (c.read_on-end.ensures.kept c.new-reader.result (keeps_self c.new-reader.result))

pub returns-clause-grown : goal.returns-clause-grown
returns-clause-grown g c = grown_since g.D.NumDom.domain c.new-reader.ensures (c.read_on-end.ensures.kept c.new-reader.result (keeps_self c.new-reader.result))

pub returns-clause-same : goal.returns-clause-same
returns-clause-same g c = same_names g.D.NumDom.domain c.new-reader.ensures (c.read_on-end.ensures.kept c.new-reader.result (keeps_self c.new-reader.result))

pub returns-clause-front : goal.returns-clause-front
returns-clause-front g c =
    front_from g.D.NumDom.domain g.D.NumDom.texts c.args.from (drop c.args.from (symbols c.args.text.now c.args.tokens.now)) c.new-reader.ensures
    (c.read_on-end.ensures.front (names_grow g.D.NumDom.domain g.D.NumDom.texts))
