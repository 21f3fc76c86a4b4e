use Rattle.std.proofs.Common.{◌∙◌}
use Rattle.sk_lattice.proofs.Kept.{widened}
use Rattle.sk_lattice.proofs.tuple.AbsTuple.widen.Goals as goal

pub invariant_of-result : goal.invariant_of-result
invariant_of-result g c =
    widened _ g.D.NumDom.domain g.met.D.NumDom.laws c.args.marks.now c.increase.ensures c.args.self.now c.args.new.now c.self.inside.flows.items c.deref.result.now c.deref-2.result.now _
    c.self.view_is (c.deref.ensures.value ∙ c.self.view_is) (c.deref-2.ensures.value ∙ c.new.view_is) c.in_ok-merge_flows.ensures c.requires c.self.invariant
