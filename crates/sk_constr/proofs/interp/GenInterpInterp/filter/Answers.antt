use Rattle.std.proofs.Common.{rules}
use Rattle.sk_constr.proofs.FlowSorts.{flows_are}
use Rattle.sk_constr.proofs.interp.GenInterpInterp.filter.Goals as goal

pub returns-clause-gives : goal.returns-clause-gives
returns-clause-gives c =
    let flows = flows_are c.results.result.now _ c.results.ensures.sorts in
    search (rules, flows)
