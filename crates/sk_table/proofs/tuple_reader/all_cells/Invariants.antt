use Rattle.std.proofs.Common.{◌≡◌, take}
use Rattle.sk_table.specs.Tuples.{all_cells}
use Rattle.sk_table.proofs.tuple_reader.all_cells.Given as goal

abbrev pub invariant-loop-cell : goal.invariant-loop-cell
invariant-loop-cell g l = l.all ≡ all_cells g.D.NumDom.domain (take l.cell-index l.cells)
