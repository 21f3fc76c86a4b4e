use Rattle.std.proofs.Common.{sym, ◌∙◌}
use Rattle.sk_base.proofs.Pairs.{pairs_fail, pairs_pass}
use Rattle.sk_lattice.specs.Order.{flows_fit}
use Rattle.sk_abswalk.proofs.answer.tuples_fit.Goals as goal

pub returns-then-not-flows_fit : goal.returns-then-not-flows_fit
returns-then-not-flows_fit g c =
    pairs_fail flows_fit _ _ c.loop-at.at _ _ c.get.ensures c.get-in-loop-at.ensures (sym c.flows_fit.ensures ∙ c.if-not-flows_fit.true) c.loop-at.invariant.same

pub loop-at-preserved : goal.loop-at-preserved
loop-at-preserved g c = record {
  even = c.loop-at.invariant.even;
  same = pairs_pass flows_fit _ _ c.loop-at.at _ _ c.get.ensures c.get-in-loop-at.ensures (sym c.flows_fit.ensures ∙ c.if-not-flows_fit.false) c.loop-at.invariant.same;
}
