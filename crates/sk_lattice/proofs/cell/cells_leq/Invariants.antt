use Rattle.std.proofs.Common.{◌≡◌, length, drop}
use lib.Pointwise.{pointwise}
use Rattle.sk_lattice.specs.Order.{cell_leq}
use Rattle.sk_lattice.proofs.cell.cells_leq.Given as goal

abbrev pub invariant-loop-at : goal.invariant-loop-at
invariant-loop-at g l = record {
  even : length l.cells ≡ length l.others;
  same : pointwise (cell_leq g.D.NumDom.domain) l.cells l.others ≡ pointwise (cell_leq g.D.NumDom.domain) (drop l.at l.cells) (drop l.at l.others);
}
