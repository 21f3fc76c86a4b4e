use Rattle.std.proofs.Common.{◌≡◌, suc, ◌∷◌, drop, sym, ap, ◌∙◌, add-one, drop-cons, arith}
use Rattle.std.proofs.Math.ListN.{drop_of_length-le}
use Rattle.std.proofs.lemmas.Result.{on_ok_weaker, on_err_weaker}
use Rattle.sk_value.proofs.Texts.{on_err, refused, entry_put, entry_stopped, entries_end}
use Rattle.sk_lattice.specs.Texts.{flow_text}
use Rattle.sk_lattice.proofs.tuple.put_flows.Goals as goal

pub returns-in_err-put_between-clause-err : goal.returns-in_err-put_between-clause-err
returns-in_err-put_between-clause-err g c = on_err c.from_residual-in_err-put_between.result (refused _ _ _ _ _ c.loop-flow.invariant c.in_err-put_between.ensures.err)

pub returns-in_err-put_text-clause-err : goal.returns-in_err-put_text-clause-err
returns-in_err-put_text-clause-err g c =
    let flows = c.args.flows.now in
    let at = c.loop-flow.flow-index in
    on_err c.from_residual-in_err-put_text.result
    (entry_stopped (flow_text g.D.NumDom.domain g.D.NumDom.texts c.args.names.now) _ _ _ _ c.loop-flow.is_first _ c.flow-item.result (drop (suc at) flows) _ _ c.loop-flow.invariant
    (drop-cons flows at c.flow-item.result (omega arith) ∙ ap (λ flow. flow ∷ drop (suc at) flows) (sym c.flow-item.is))
    c.in_ok-put_between.ensures.ok c.in_err-put_text.ensures.err)

pub loop-flow-preserved : goal.loop-flow-preserved
loop-flow-preserved g c =
    let flows = c.args.flows.now in
    let at = c.loop-flow.flow-index in
    rw add-one
    (entry_put (flow_text g.D.NumDom.domain g.D.NumDom.texts c.args.names.now) _ _ _ _ c.loop-flow.is_first _ c.flow-item.result (drop (suc at) flows) _ _ c.loop-flow.invariant
    (drop-cons flows at c.flow-item.result (omega arith) ∙ ap (λ flow. flow ∷ drop (suc at) flows) (sym c.flow-item.is))
    c.in_ok-put_between.ensures.ok c.in_ok-put_text.ensures.ok)

pub returns-clause-ok : goal.returns-clause-ok
returns-clause-ok g c =
    on_ok_weaker c.put_bytes-2.result
    (λ put. entries_end (flow_text g.D.NumDom.domain g.D.NumDom.texts c.args.names.now) _ _ _ c.loop-flow.is_first _ _ _ c.loop-flow.invariant (drop_of_length-le c.args.flows.now (omega arith)) put)
    c.put_bytes-2.ensures.ok

pub returns-clause-err : goal.returns-clause-err
returns-clause-err g c = on_err_weaker c.put_bytes-2.result (λ same. refused _ _ _ _ _ c.loop-flow.invariant same) c.put_bytes-2.ensures.err
