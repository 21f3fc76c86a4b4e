use Rattle.std.proofs.Common.{◌≡◌, ◌+◌, ◌-◌, ◌≤◌, ◌++◌, None, length, replicate}
use Rattle.sk_deriv.proofs.reader.set.Given as goal

abbrev pub invariant-loop-place : goal.invariant-loop-place
invariant-loop-place l = record {
  gained : l.store ≡ l.fn.store ++ replicate (l._place - length l.fn.store) None;
  begun : length l.fn.store ≤ l._place;
  at_most : l._place - length l.fn.store ≤ (l.place + 1) - length l.fn.store;
}
