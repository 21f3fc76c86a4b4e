use Rattle.std.proofs.Common.{◌≡◌, ◌++◌, length}
use Rattle.std.specs.Vec.Iter.{into_iter_items, into_iter_len}
use Rattle.sk_deriv.proofs.read.tuple_of.Given as goal

abbrev pub invariant-loop-flow : goal.invariant-loop-flow
invariant-loop-flow l = record {
  parts : l.tuple ++ into_iter_items l.flow-iterator ≡ l.fn.flows.items;
  left : into_iter_len l.flow-iterator ≡ length (into_iter_items l.flow-iterator);
}
