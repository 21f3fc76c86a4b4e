use Rattle.std.proofs.Common.{rules, arith, ◌+◌, drop, Ok, Err}
use Rattle.sk_lex.proofs.Runs.{goes_on, stops_on, stops_read, stops_at_end, front_of_same, front_of_next, front_of_stop, front_at_stop, as_many}
use Rattle.sk_lex.specs.Symbols.{symbol, symbols}
use Rattle.sk_lex.proofs.reader.read_on.Goals as goal

pub loop-expected-preserved : goal.loop-expected-preserved
loop-expected-preserved g c = record {
  place = omega (arith, c.in-Ok.ensures.taken);
  within = search rules;
  kept = λ begun k. c.in-Ok.ensures.kept begun (c.loop-expected.invariant.kept begun k);
  so_far = goes_on (symbols c.args.text.now c.args.tokens.now) _ _ _ _ _ c.loop-expected.invariant.so_far c.in-Some.ensures c.in-Some-lexeme_at.ensures.seen c.in-Ok.ensures.gives c.in_ok-expect-2.ensures
      (omega (arith, c.in-Ok.ensures.taken, as_many c.args.text.now c.args.tokens.now));
  stops = stops_on _ _ _ (symbols c.args.text.now c.args.tokens.now) _ _ _ _ _ c.loop-expected.invariant.stops c.in-Some.ensures c.in-Some-lexeme_at.ensures.seen c.in-Ok.ensures.gives c.in_ok-expect-2.ensures
      (omega (arith, c.in-Ok.ensures.taken, as_many c.args.text.now c.args.tokens.now));
}

pub returns-in_err-expect-clause-front : goal.returns-in_err-expect-clause-front
returns-in_err-expect-clause-front g c grows =
    front_of_stop g.R.Reader.rules g.R.Reader.names_refused g.R.Reader.names 0 c.args.from c.args.start.now c.args.reader.now (drop c.args.from (symbols c.args.text.now c.args.tokens.now)) grows

pub returns-in_default-lexeme_at-clause-front : goal.returns-in_default-lexeme_at-clause-front
returns-in_default-lexeme_at-clause-front g c grows = front_of_same (stops_at_end _ _ _ _ _ c.loop-expected.invariant.stops c.in-Some.ensures c.in_default-lexeme_at.ensures.seen)

pub returns-in-Err-clause-front : goal.returns-in-Err-clause-front
returns-in-Err-clause-front g c grows =
    front_at_stop _ _ _ _ _ _ _ grows c.loop-expected.invariant.stops c.in-Some.ensures c.in-Some-lexeme_at.ensures.seen
    (front_of_next g.R.Reader.rules g.R.Reader.names_refused g.R.Reader.names c.meet.new.self c.in-Some.expected c.loop-expected.reader c.loop-expected.at (symbol c.in-Some-lexeme_at.lexeme)
    (drop (c.loop-expected.at + 1) (symbols c.args.text.now c.args.tokens.now)) (Err c.in-Err.refused) c.in-Err.ensures.gives c.in-Err.ensures.names c.in-Err.ensures.starved)

pub returns-in_err-expect-2-clause-front : goal.returns-in_err-expect-2-clause-front
returns-in_err-expect-2-clause-front g c grows =
    front_at_stop _ _ _ _ _ _ _ grows c.loop-expected.invariant.stops c.in-Some.ensures c.in-Some-lexeme_at.ensures.seen
    (front_of_next g.R.Reader.rules g.R.Reader.names_refused g.R.Reader.names c.meet.new.self c.in-Some.expected c.loop-expected.reader c.loop-expected.at (symbol c.in-Some-lexeme_at.lexeme)
    (drop (c.loop-expected.at + 1) (symbols c.args.text.now c.args.tokens.now)) (Ok c.in-Ok.taken) c.in-Ok.ensures.gives tt tt)

pub returns-clause-front : goal.returns-clause-front
returns-clause-front g c grows = front_of_same (stops_read _ _ _ c.loop-expected.invariant.stops c.in_default.ensures.0)
