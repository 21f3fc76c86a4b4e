use Rattle.std.proofs.Common.{◌++◌, drop}
use Rattle.std.specs.Prelude.{codes}
use Rattle.sk_value.proofs.Texts.{Underway, entries_text}
use Rattle.sk_lattice.specs.Texts.{flow_text, tuple_text}
use Rattle.sk_lattice.proofs.tuple.put_flows.Given as goal

abbrev pub invariant-loop-flow : goal.invariant-loop-flow
invariant-loop-flow g l =
    Underway l.fn.out.items l.out.items (entries_text (flow_text g.D.NumDom.domain g.D.NumDom.texts l.names) l.is_first (drop l.flow-index l.flows) ++ codes ")")
    (tuple_text g.D.NumDom.domain g.D.NumDom.texts l.names l.flows)
