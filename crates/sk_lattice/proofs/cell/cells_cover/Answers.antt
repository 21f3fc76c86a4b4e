use Rattle.std.proofs.Common.{sym, ◌∙◌}
use Rattle.sk_base.proofs.Pairs.{pairs_fail, pairs_pass}
use Rattle.sk_lattice.specs.Covers.{cell_covers}
use Rattle.sk_lattice.proofs.cell.cells_cover.Goals as goal

pub returns-then-not-covers : goal.returns-then-not-covers
returns-then-not-covers g c =
    pairs_fail (cell_covers g.D.NumDom.domain) _ _ c.loop-at.at _ _ c.get.ensures c.get-in-loop-at.ensures (sym c.covers.ensures ∙ c.if-not-covers.true) c.loop-at.invariant.same

pub loop-at-preserved : goal.loop-at-preserved
loop-at-preserved g c = record {
  even = c.loop-at.invariant.even;
  same = pairs_pass (cell_covers g.D.NumDom.domain) _ _ c.loop-at.at _ _ c.get.ensures c.get-in-loop-at.ensures (sym c.covers.ensures ∙ c.if-not-covers.false) c.loop-at.invariant.same;
}
