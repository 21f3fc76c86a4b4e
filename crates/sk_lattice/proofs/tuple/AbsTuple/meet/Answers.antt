use Rattle.std.proofs.Common.{sym, ◌∙◌, ap}
use Rattle.std.specs.List.{list_any}
use Rattle.sk_lattice.specs.Empty.{flow_is_empty}
use Rattle.sk_lattice.proofs.Kept.{met, no_meet, the_meet}
use Rattle.sk_lattice.proofs.tuple.AbsTuple.meet.Goals as goal

pub invariant_of-result : goal.invariant_of-result
invariant_of-result g c =
    met _ g.D.NumDom.domain g.met.D.NumDom.laws c.args.self.now c.args.other.now c.self.inside.flows.items c.deref.result.now c.deref-2.result.now _
    c.self.view_is (c.deref.ensures.value ∙ c.self.view_is) (c.deref-2.ensures.value ∙ c.other.view_is) c.in_ok-flows.ensures
    (ap (list_any (flow_is_empty g.D.NumDom.domain)) (sym c.deref-3.ensures.value) ∙ sym c.some_flow_empty.ensures ∙ c.if-some_flow_empty.false) c.requires c.self.invariant

pub returns-then-some_flow_empty : goal.returns-then-some_flow_empty
returns-then-some_flow_empty g c =
    no_meet _ g.D.NumDom.domain g.met.D.NumDom.laws c.args.self.now c.args.other.now c.deref.result.now c.deref-2.result.now _
    (c.deref.ensures.value ∙ c.self.view_is) (c.deref-2.ensures.value ∙ c.other.view_is) c.in_ok-flows.ensures
    (ap (list_any (flow_is_empty g.D.NumDom.domain)) (sym c.deref-3.ensures.value) ∙ sym c.some_flow_empty.ensures ∙ c.if-some_flow_empty.true)

pub returns-else-some_flow_empty : goal.returns-else-some_flow_empty
returns-else-some_flow_empty g c =
    the_meet _ g.D.NumDom.domain g.met.D.NumDom.laws c.args.self.now c.args.other.now c.deref.result.now c.deref-2.result.now _
    (c.deref.ensures.value ∙ c.self.view_is) (c.deref-2.ensures.value ∙ c.other.view_is) c.in_ok-flows.ensures
    (ap (list_any (flow_is_empty g.D.NumDom.domain)) (sym c.deref-3.ensures.value) ∙ sym c.some_flow_empty.ensures ∙ c.if-some_flow_empty.false)
