use Rattle.std.proofs.Common.{◌≡◌, ◌++◌, ◌-◌, ◌≤◌, length, replicate}
use Rattle.sk_lattice.specs.Padding.{unset_cell}
use Rattle.sk_lattice.proofs.cell.pad_cells.Given as goal

abbrev pub invariant-loop-name : goal.invariant-loop-name
invariant-loop-name g l = record {
  gained : l.cells ≡ l.fn.cells ++ replicate (l._name - length l.fn.cells) (unset_cell g.D.NumDom.domain);
  begun : length l.fn.cells ≤ l._name;
  at_most : l._name - length l.fn.cells ≤ l.names - length l.fn.cells;
}
