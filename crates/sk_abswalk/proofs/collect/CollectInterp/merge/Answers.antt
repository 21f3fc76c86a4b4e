use Rattle.sk_abswalk.proofs.CollectSteps.{merge_stops, merge_ends}
use Rattle.sk_abswalk.proofs.collect.CollectInterp.merge.Goals as goal

pub returns-in-Err-clause-gives : goal.returns-in-Err-clause-gives
returns-in-Err-clause-gives g c =
    merge_stops _ _ g.D.NumDom.domain g.T.KeyOutputs.by_key c.args.self.now c.args.before.env c.args.exports.now _ c.args.ends.items _ _ c.in-Err.stop c.as_slice.ensures c.as_slice-2.ensures.value c.in-Err.is c.merged.ensures

pub returns-clause-gives : goal.returns-clause-gives
returns-clause-gives g c =
    merge_ends _ _ g.D.NumDom.domain g.T.KeyOutputs.by_key c.args.self.now c.args.before.env c.args.exports.now _ c.args.ends.items _ _ c.in-Ok.env c.as_slice.ensures c.as_slice-2.ensures.value c.in-Ok.is c.merged.ensures
