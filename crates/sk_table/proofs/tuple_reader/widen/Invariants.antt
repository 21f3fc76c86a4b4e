use Rattle.std.proofs.Common.{◌≡◌, ◌-◌, ◌≤◌, ◌++◌, None, length, replicate}
use Rattle.sk_table.proofs.tuple_reader.widen.Given as goal

abbrev pub invariant-loop-place : goal.invariant-loop-place
invariant-loop-place g l = record {
  gained : l.cells ≡ l.fn.cells ++ replicate (l._place - length l.fn.cells) None;
  begun : length l.fn.cells ≤ l._place;
  at_most : l._place - length l.fn.cells ≤ l.names - length l.fn.cells;
}
