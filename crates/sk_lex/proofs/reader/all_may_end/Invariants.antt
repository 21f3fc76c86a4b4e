use Rattle.std.proofs.Common.{◌≡◌, length}
use Rattle.std.specs.List.{list_all}
use Rattle.sk_lex.proofs.reader.all_may_end.Given as goal

abbrev pub invariant-loop-expected : goal.invariant-loop-expected
invariant-loop-expected g l = list_all g.R.Reader.rules.may_end l.stack ≡ list_all g.R.Reader.rules.may_end l.fn.stack

abbrev pub decreases-loop-expected : goal.decreases-loop-expected
decreases-loop-expected g l = length l.stack
