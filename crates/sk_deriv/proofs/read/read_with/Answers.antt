use Rattle.std.proofs.Common.{drop}
use Rattle.sk_lex.specs.Symbols.{symbols}
use Rattle.sk_deriv.proofs.TupleNames.{keeps_self, same_sorts, grown_since}
use Rattle.sk_deriv.proofs.TupleStops.{front_from, names_grow}
use Rattle.sk_deriv.proofs.TupleTurns.{read_by, is_read}
use Rattle.sk_deriv.proofs.read.read_with.Goals as goal

pub returns-clause-values : goal.returns-clause-values
returns-clause-values c =
    is_read c.args.sorts.now c.args.from c.read_on-end.new.reader c.read_on-end.result
    (read_by c.args.sorts.now c.args.names c.args.from (drop c.args.from (symbols c.args.text.now c.args.tokens.now)) c.new-reader.result c.read_on-end.new.reader c.read_on-end.result
    c.new-reader.ensures c.read_on-end.ensures.gives
    (same_sorts c.new-reader.ensures (c.read_on-end.ensures.kept c.new-reader.result (keeps_self c.new-reader.result))))
    c.read_on-end.ensures.within

pub returns-clause-grown : goal.returns-clause-grown
returns-clause-grown c = grown_since c.new-reader.ensures (c.read_on-end.ensures.kept c.new-reader.result (keeps_self c.new-reader.result))

pub returns-clause-front : goal.returns-clause-front
returns-clause-front c = front_from c.args.from (drop c.args.from (symbols c.args.text.now c.args.tokens.now)) c.new-reader.ensures (c.read_on-end.ensures.front names_grow)
