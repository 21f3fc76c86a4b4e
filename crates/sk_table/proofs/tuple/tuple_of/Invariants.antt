use Rattle.std.proofs.Common.{◌≡◌, ◌++◌, length, true, false}
use Rattle.std.specs.List.{list_all, list_any}
use Rattle.std.specs.Vec.Iter.{into_iter_items, into_iter_len}
use Rattle.sk_lattice.specs.Empty.{flow_is_empty}
use Rattle.sk_table.specs.Meets.{is_clean}
use Rattle.sk_table.proofs.tuple.tuple_of.Given as goal

abbrev pub invariant-loop-flow : goal.invariant-loop-flow
invariant-loop-flow g l = record {
  parts : l.tuple ++ into_iter_items l.flow-iterator ≡ l.fn.flows.items;
  left : into_iter_len l.flow-iterator ≡ length (into_iter_items l.flow-iterator);
  clean : list_all (is_clean g.D.NumDom.domain) (into_iter_items l.flow-iterator) ≡ true;
  none_empty : list_any (flow_is_empty g.D.NumDom.domain) l.tuple ≡ false;
}
