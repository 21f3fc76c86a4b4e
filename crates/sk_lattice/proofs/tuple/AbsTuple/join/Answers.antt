use Rattle.std.proofs.Common.{◌∙◌}
use Rattle.sk_lattice.proofs.Kept.{joined}
use Rattle.sk_lattice.proofs.tuple.AbsTuple.join.Goals as goal

pub invariant_of-result : goal.invariant_of-result
invariant_of-result g c =
    joined _ g.D.NumDom.domain g.met.D.NumDom.laws c.args.self.now c.args.other.now c.self.inside.flows.items c.deref.result.now c.deref-2.result.now _
    c.self.view_is (c.deref.ensures.value ∙ c.self.view_is) (c.deref-2.ensures.value ∙ c.other.view_is) c.in_ok-merge_flows.ensures c.requires c.self.invariant
