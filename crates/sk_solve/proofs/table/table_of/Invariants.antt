use Rattle.std.proofs.Common.{◌≡◌, ◌++◌, drop}
use Rattle.sk_solve.specs.Tables.{table_of}
use Rattle.sk_solve.proofs.table.table_of.Given as goal

abbrev pub invariant-loop-solved : goal.invariant-loop-solved
invariant-loop-solved g l = l.table ++ table_of (drop l.solved-index l.assignment) ≡ table_of l.assignment
