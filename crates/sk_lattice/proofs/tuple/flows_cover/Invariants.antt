use Rattle.std.proofs.Common.{◌≡◌, length, drop}
use lib.Pointwise.{pointwise}
use Rattle.sk_lattice.specs.Covers.{flow_covers}
use Rattle.sk_lattice.proofs.tuple.flows_cover.Given as goal

abbrev pub invariant-loop-at : goal.invariant-loop-at
invariant-loop-at g l = record {
  even : length l.flows ≡ length l.tuple;
  same : pointwise (flow_covers g.D.NumDom.domain) l.flows l.tuple ≡ pointwise (flow_covers g.D.NumDom.domain) (drop l.at l.flows) (drop l.at l.tuple);
}
