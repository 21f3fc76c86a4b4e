use Rattle.sk_value.proofs.Padding.{partly_padded}
use Rattle.sk_value.proofs.Texts.{on_err}
use Rattle.sk_value.proofs.tuple.Tuple.pad.Goals as goal

pub returns-in_err-pad-clause-err : goal.returns-in_err-pad-clause-err
returns-in_err-pad-clause-err c = on_err c.from_residual.result (partly_padded _ c.loop-flow.flow-index c.args.self.now c.self.inside.flows.items c.loop-flow.flow-items _ c.pad.new.self c.self.view_is c.loop-flow.invariant c.in_err-pad.ensures.err)
