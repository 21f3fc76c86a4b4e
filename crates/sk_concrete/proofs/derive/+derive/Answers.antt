use Rattle.std.proofs.Common.{◌-◌, refl}
use Rattle.std.proofs.lemmas.Result.{IfOk-weaker}
use Rattle.sk_deriv.specs.Moves.{setting_of}
use Rattle.sk_concrete.proofs.Turned.{call_derived, stopped_at, turned_next}
use Rattle.sk_concrete.proofs.WorldsFit.{some_outputs}
use Rattle.sk_concrete.proofs.derive.+derive.Goals as goal

pub close-requires-clause-outputs : goal.close-requires-clause-outputs
close-requires-clause-outputs t c =
    rw c.as_slice-in-Ok.ensures (some_outputs c.in-Some.field-0.rule.now.outputs c.in-Some.field-0.hook.now.outputs c.in-Ok.worlds.list c.in-Ok.ensures.outputs)

pub returns-in-Ok : goal.returns-in-Ok
returns-in-Ok t c =
    let s = setting_of c.args.checked.now c.args.arena.now in
    IfOk-weaker c.close.result _ _ (λ trees closes.
    call_derived s c.args.depth c.args.call.now c.in-Some.field-0.rule.now c.if-depth-eq0.false c.args.forest.now c.loop-worlds.forest c.loop-worlds.handed.items c.as_slice.result.now c.as_slice.ensures.value
    c.loop-worlds.invariant c.close.new.forest c.in-Some.field-0.hook.now c.in-Some.field-0.con.now c.in-Ok.worlds c.as_slice-in-Ok.result.now trees c.in-Some.ensures.some c.in-Ok.ensures.walks c.in-Ok.ensures.outputs c.as_slice-in-Ok.ensures closes)
    c.close.ensures

pub loop-worlds-preserved-in_ok-push-in-Err-Unanswered : goal.loop-worlds-preserved-in_ok-push-in-Err-Unanswered
loop-worlds-preserved-in_ok-push-in-Err-Unanswered t c =
    let s = setting_of c.args.checked.now c.args.arena.now in
    let next = stopped_at s c.args.depth c.args.call.now c.in-Some.field-0.rule.now c.if-depth-eq0.false c.args.forest.now c.loop-worlds.forest c.loop-worlds.handed.items c.as_slice.result.now c.as_slice.ensures.value
    c.loop-worlds.invariant c.in-Err-Unanswered.inner (rw c.in-Err-Unanswered.field-0-is at c.in-Err-Unanswered.ensures.walks) in
    turned_next s (c.args.depth - 1) c.args.call.now c.in-Some.field-0.rule.now c.args.forest.now c.loop-worlds.forest c.derive.new.forest c.loop-worlds.handed.items c.push.new.self.items
    c.in-Err-Unanswered.inner (record { hook = c.in-Err-Unanswered.inner.hook; trees = c.in_ok-trees-in-Err-Unanswered.trees }) c.loop-worlds.invariant next refl c.in_ok-trees-in-Err-Unanswered.ensures c.in_ok-push-in-Err-Unanswered.ensures.items

pub loop-worlds-preserved : goal.loop-worlds-preserved
loop-worlds-preserved t c =
    let s = setting_of c.args.checked.now c.args.arena.now in
    let next = stopped_at s c.args.depth c.args.call.now c.in-Some.field-0.rule.now c.if-depth-eq0.false c.args.forest.now c.loop-worlds.forest c.loop-worlds.handed.items c.as_slice.result.now c.as_slice.ensures.value
    c.loop-worlds.invariant c.in-Err-Unanswered.inner (rw c.in-Err-Unanswered.field-0-is at c.in-Err-Unanswered.ensures.walks) in
    turned_next s (c.args.depth - 1) c.args.call.now c.in-Some.field-0.rule.now c.args.forest.now c.loop-worlds.forest c.derive.new.forest c.loop-worlds.handed.items c.push.new.self.items
    c.in-Err-Unanswered.inner (record { hook = c.in-Err-Unanswered.inner.hook; trees = c.in_ok-trees-in-Err-Unanswered.trees }) c.loop-worlds.invariant next refl c.in_ok-trees-in-Err-Unanswered.ensures c.in_ok-push-in-Err-Unanswered.ensures.items
