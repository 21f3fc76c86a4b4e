use Rattle.std.proofs.Common.{drop}
use Rattle.sk_lex.specs.Symbols.{symbols}
use Rattle.sk_term.proofs.Grown.{keeps_self, same_definition, grown_since}
use Rattle.sk_term.proofs.Steps.{read_by}
use Rattle.sk_term.proofs.Stops.{front_from, names_grow}
use Rattle.sk_term.proofs.read.read_with.Goals as goal

pub returns-clause-term : goal.returns-clause-term
returns-clause-term c =
    read_by c.args.def.now c.args.names c.args.from (drop c.args.from (symbols c.args.text.now c.args.tokens.now)) c.new-reader.result c.read_on-end.new.reader c.read_on-end.result
    c.new-reader.ensures c.read_on-end.ensures.gives
    (same_definition c.new-reader.ensures (c.read_on-end.ensures.kept c.new-reader.result (keeps_self c.new-reader.result)))

pub returns-clause-grown : goal.returns-clause-grown
returns-clause-grown c = grown_since c.new-reader.ensures (c.read_on-end.ensures.kept c.new-reader.result (keeps_self c.new-reader.result))

pub returns-clause-front : goal.returns-clause-front
returns-clause-front c = front_from c.args.from (drop c.args.from (symbols c.args.text.now c.args.tokens.now)) c.new-reader.ensures (c.read_on-end.ensures.front names_grow)
