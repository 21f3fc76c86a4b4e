use Rattle.sk_abswalk.proofs.CollectSteps.{filter_stops, filter_ends}
use Rattle.sk_abswalk.proofs.collect.CollectInterp.filter.Goals as goal

pub returns-in-Err-clause-gives : goal.returns-in-Err-clause-gives
returns-in-Err-clause-gives g c =
    filter_stops _ _ g.D.NumDom.domain g.T.KeyOutputs.by_key c.args.self.now c.args.world.env c.args.filter c.args.args.now _ c.args.outs.now _ _ c.in-Err.stop c.as_slice.ensures c.as_slice-2.ensures c.in-Err.is c.filtered.ensures

pub returns-clause-gives : goal.returns-clause-gives
returns-clause-gives g c =
    filter_ends _ _ g.D.NumDom.domain g.T.KeyOutputs.by_key c.args.self.now c.args.world.env c.args.filter c.args.args.now _ c.args.outs.now _ _ c.in-Ok.env c.as_slice.ensures c.as_slice-2.ensures c.in-Ok.is c.filtered.ensures
