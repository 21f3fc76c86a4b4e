use Rattle.std.proofs.Common.{◌≡◌, ◌++◌, drop, length, true}
use Rattle.sk_base.specs.Lists.{zip_with}
use Rattle.sk_lattice.specs.Merge.{way_of, flow_merge}
use Rattle.sk_lattice.specs.Order.{tuples_fit}
use Rattle.sk_lattice.proofs.tuple.merge_flows.Given as goal

abbrev pub invariant-loop-at : goal.invariant-loop-at
invariant-loop-at g l = record {
  even : length l.flows ≡ length l.others;
  fit : tuples_fit (drop l.at l.flows) (drop l.at l.others) ≡ true;
  same : l.merged.items ++ zip_with (flow_merge g.D.NumDom.domain (way_of l.merge)) (drop l.at l.flows) (drop l.at l.others) ≡ zip_with (flow_merge g.D.NumDom.domain (way_of l.merge)) l.flows l.others;
}
