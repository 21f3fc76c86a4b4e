use Rattle.std.proofs.Common.{sym, ◌∙◌}
use Rattle.sk_base.proofs.Pairs.{pairs_fail, pairs_pass}
use Rattle.sk_lattice.specs.Order.{cell_leq}
use Rattle.sk_lattice.proofs.cell.cells_leq.Goals as goal

pub returns-then-not-leq : goal.returns-then-not-leq
returns-then-not-leq g c =
    pairs_fail (cell_leq g.D.NumDom.domain) _ _ c.loop-at.at _ _ c.get.ensures c.get-in-loop-at.ensures (sym c.leq.ensures ∙ c.if-not-leq.true) c.loop-at.invariant.same

pub loop-at-preserved : goal.loop-at-preserved
loop-at-preserved g c = record {
  even = c.loop-at.invariant.even;
  same = pairs_pass (cell_leq g.D.NumDom.domain) _ _ c.loop-at.at _ _ c.get.ensures c.get-in-loop-at.ensures (sym c.leq.ensures ∙ c.if-not-leq.false) c.loop-at.invariant.same;
}
