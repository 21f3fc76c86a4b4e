use Rattle.std.proofs.Common.{◌++◌, drop}
use Rattle.std.specs.Prelude.{codes}
use Rattle.sk_value.proofs.Texts.{Underway, entries_text}
use Rattle.sk_lattice.specs.Texts.{cells_text, entries, entry_text}
use Rattle.sk_lattice.proofs.cell.put_cells.Given as goal

abbrev pub invariant-loop-at : goal.invariant-loop-at
invariant-loop-at g l =
    Underway l.fn.out.items l.out.items (entries_text (entry_text g.D.NumDom.texts) l.is_first (entries g.D.NumDom.domain (drop l.at l.names) (drop l.at l.cells)) ++ codes "}")
    (cells_text g.D.NumDom.domain g.D.NumDom.texts l.names l.cells)
