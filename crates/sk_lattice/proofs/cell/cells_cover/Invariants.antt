use Rattle.std.proofs.Common.{◌≡◌, length, drop}
use lib.Pointwise.{pointwise}
use Rattle.sk_lattice.specs.Covers.{cell_covers}
use Rattle.sk_lattice.proofs.cell.cells_cover.Given as goal

abbrev pub invariant-loop-at : goal.invariant-loop-at
invariant-loop-at g l = record {
  even : length l.cells ≡ length l.store;
  same : pointwise (cell_covers g.D.NumDom.domain) l.cells l.store ≡ pointwise (cell_covers g.D.NumDom.domain) (drop l.at l.cells) (drop l.at l.store);
}
