use Rattle.sk_abswalk.proofs.TableSteps.{merge_stops}
use Rattle.sk_abswalk.proofs.from_table.FromTableInterp.merge.Goals as goal

pub returns-in-Err-clause-gives : goal.returns-in-Err-clause-gives
returns-in-Err-clause-gives g c =
    merge_stops _ g.D.NumDom.domain c.args.self.now c.args.before.env c.args.exports.now _ c.args.ends.items _ _ c.in-Err.stop c.as_slice.ensures c.as_slice-2.ensures.value c.in-Err.is c.merged.ensures
