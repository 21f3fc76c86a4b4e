use Rattle.std.proofs.Common.{◌-◌, ◌≤◌, length, drop}
use Rattle.sk_lex.specs.Run.{run, shown_at_stop}
use Rattle.sk_lex.specs.Symbols.{symbols}
use Rattle.sk_lex.proofs.Runs.{Reaches, StopsWith}
use Rattle.sk_lex.proofs.reader.read_on.Given as goal

abbrev pub invariant-loop-expected : goal.invariant-loop-expected
invariant-loop-expected g l = record {
  place : l.at ≤ length l.tokens;
  within : g.R.Reader.within l.reader;
  kept : (begun : _) → g.R.Reader.keeps begun l.fn.reader → g.R.Reader.keeps begun l.reader;
  so_far : Reaches g.R.Reader.rules (run g.R.Reader.rules 0 l.fn.from l.start l.fn.reader (drop l.fn.from (symbols l.text l.tokens))) l.at l.stack l.reader (drop l.at (symbols l.text l.tokens));
  stops : StopsWith g.R.Reader.rules g.R.Reader.names_refused g.R.Reader.names (shown_at_stop g.R.Reader.rules g.R.Reader.names_refused g.R.Reader.names 0 l.fn.from l.start l.fn.reader (drop l.fn.from (symbols l.text l.tokens))) l.at l.stack l.reader (drop l.at (symbols l.text l.tokens));
}

abbrev pub decreases-loop-expected : goal.decreases-loop-expected
decreases-loop-expected g l = length l.tokens - l.at
