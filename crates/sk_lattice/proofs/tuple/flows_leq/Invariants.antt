use Rattle.std.proofs.Common.{◌≡◌, length, drop}
use lib.Pointwise.{pointwise}
use Rattle.sk_lattice.specs.Order.{flow_leq}
use Rattle.sk_lattice.proofs.tuple.flows_leq.Given as goal

abbrev pub invariant-loop-at : goal.invariant-loop-at
invariant-loop-at g l = record {
  even : length l.flows ≡ length l.others;
  same : pointwise (flow_leq g.D.NumDom.domain) l.flows l.others ≡ pointwise (flow_leq g.D.NumDom.domain) (drop l.at l.flows) (drop l.at l.others);
}
