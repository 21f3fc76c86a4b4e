use Rattle.sk_lattice.proofs.PaddingLemmas.{padded_tuple}
use Rattle.sk_lattice.proofs.tuple.AbsTuple.pad.Goals as goal

pub invariant_of-self : goal.invariant_of-self
invariant_of-self g c =
    padded_tuple _ g.D.NumDom.domain c.pad_flows.result c.args.names c.self.inside.flows.len c.self.inside.flows.items c.deref_mut.result.now c.pad_flows.new.flows
    c.deref_mut.ensures.value c.self.inside.flows.ok.0 c.pad_flows.ensures.ok c.pad_flows.ensures.err c.self.invariant
