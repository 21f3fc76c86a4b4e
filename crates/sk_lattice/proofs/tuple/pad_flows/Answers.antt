use Rattle.sk_lattice.specs.Padding.{padded_flow}
use Rattle.sk_lattice.proofs.PaddingLemmas.{on_err, partly_padded, map_turn}
use Rattle.sk_lattice.proofs.tuple.pad_flows.Goals as goal

pub returns-in_err-pad-clause-err : goal.returns-in_err-pad-clause-err
returns-in_err-pad-clause-err g c =
    on_err c.from_residual.result (partly_padded _ g.D.NumDom.domain c.args.names c.loop-flow.flow-index c.args.flows.now c.loop-flow.flow-items _ c.pad.new.self c.loop-flow.invariant c.in_err-pad.ensures.err)

pub loop-flow-preserved : goal.loop-flow-preserved
loop-flow-preserved g c =
    map_turn (padded_flow g.D.NumDom.domain c.args.names) c.args.flows.now c.loop-flow.flow-items c.loop-flow.flow-index _ c.pad.new.self c.loop-flow.invariant c.loop-flow-test.true c.in_ok-pad.ensures.ok
