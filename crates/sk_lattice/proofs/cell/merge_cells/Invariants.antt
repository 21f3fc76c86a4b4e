use Rattle.std.proofs.Common.{◌≡◌, ◌++◌, drop}
use Rattle.sk_base.specs.Lists.{zip_with}
use Rattle.sk_lattice.specs.Merge.{way_of, cell_merge}
use Rattle.sk_lattice.proofs.cell.merge_cells.Given as goal

abbrev pub invariant-loop-at : goal.invariant-loop-at
invariant-loop-at g l = l.merged ++ zip_with (cell_merge g.D.NumDom.domain (way_of l.merge)) (drop l.at l.cells) (drop l.at l.others) ≡ zip_with (cell_merge g.D.NumDom.domain (way_of l.merge)) l.cells l.others
