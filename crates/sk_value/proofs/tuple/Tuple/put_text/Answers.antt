use Rattle.std.proofs.Common.{suc, ◌∷◌, drop, sym, ap, ◌∙◌, drop-cons, arith}
use Rattle.sk_value.specs.Texts.{flow_text}
use Rattle.sk_value.proofs.Texts.{on_err, entry_stopped}
use Rattle.sk_value.proofs.tuple.Tuple.put_text.Goals as goal

pub returns-in_err-put_text-clause-err : goal.returns-in_err-put_text-clause-err
returns-in_err-put_text-clause-err c =
    let flows = c.as_slice-flow-items.result.now in
    let at = c.loop-flow.flow-index in
    on_err c.from_residual-in_err-put_text.result
    (entry_stopped (flow_text c.args.names.now) _ _ _ _ c.loop-flow.is_first _ c.flow-item.result (drop (suc at) flows) _ _ c.loop-flow.invariant
    (ap (drop at) (sym c.as_slice-flow-items.ensures.flows) ∙ drop-cons flows at c.flow-item.result (omega arith) ∙ ap (λ flow. flow ∷ drop (suc at) flows) (sym c.flow-item.is))
    c.in_ok-put_between.ensures.ok c.in_err-put_text.ensures.err)
