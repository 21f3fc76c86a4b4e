use Rattle.std.proofs.Common.{◌≡◌, replicate}
use Rattle.sk_lattice.specs.Padding.{unset_cell}
use Rattle.sk_absfilter.proofs.cells.empty.Given as goal

abbrev pub invariant-loop-name : goal.invariant-loop-name
invariant-loop-name g l = l.cells ≡ replicate l._name (unset_cell g.D.NumDom.domain)
