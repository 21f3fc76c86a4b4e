use Rattle.std.proofs.Common.{rules, ◌≡◌, ◌∙◌, ◌++◌, true, false, eqb, ap, List, arith}
use Rattle.sk_concrete.specs.Worlds.{answered}
use Rattle.sk_concrete.specs.declared.world.Tree.{Tree}
use Rattle.sk_concrete.proofs.Turns.{answers_stop, answers_other, answers_next}
use Rattle.sk_concrete.proofs.hooks.answered.Goals as goal

pub returns-in_default-clause-stop : goal.returns-in_default-clause-stop
returns-in_default-clause-stop c =
    answers_stop c.args.point c.args.hook c.args.target c.args.args.now c.args.outs.now c.args.worlds.now c.loop-world.world-index c.world-item.result
    (omega (arith, c.loop-world-test.true)) c.world-item.is c.loop-world.left.now c.loop-world.list _ c.in_ok-call.call
    c.in_ok-call.ensures c.in_default.ensures.cases c.loop-world.invariant

pub returns-then-ne-clause-stop : goal.returns-then-ne-clause-stop
returns-then-ne-clause-stop c =
    let other : eqb c.in-Some.answer.now.hook.0 c.in_ok-call.call.hook.0 ≡ false = search rules in
    answers_other c.args.point c.args.hook c.args.target c.args.args.now c.args.outs.now c.args.worlds.now c.loop-world.world-index c.world-item.result
    (omega (arith, c.loop-world-test.true)) c.world-item.is c.loop-world.left.now c.in-Some.later.now c.in-Some.answer.now c.loop-world.list _ c.in_ok-call.call
    c.in_ok-call.ensures c.in-Some.ensures.cases.0 other c.loop-world.invariant

pub loop-world-preserved : goal.loop-world-preserved
loop-world-preserved c =
    let same : eqb c.in-Some.answer.now.hook.0 c.in_ok-call.call.hook.0 ≡ true = search rules in
    answers_next c.args.point c.args.hook c.args.target c.args.args.now c.args.outs.now c.args.worlds.now c.loop-world.world-index c.world-item.result
    (omega (arith, c.loop-world-test.true)) c.world-item.is c.loop-world.left.now c.in-Some.later.now c.in-Some.answer.now c.loop-world.list c.push_answered.new.list _ c.in_ok-call.call
    c.in_ok-call.ensures c.in-Some.ensures.cases.0 same
    (c.in_ok-push_answered.ensures ∙ ap (λ (trees : List Tree). c.loop-world.list ++ answered c.args.outs.now c.world-item.result trees) c.as_slice.ensures) c.loop-world.invariant
