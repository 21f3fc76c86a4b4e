use Rattle.std.proofs.Common.{◌≡◌, suc, sym, ap, ◌∙◌, add-one, arith}
use Rattle.sk_deriv.proofs.Heights.{greatest_of, greatest_all, greatest_within, height_is}
use Rattle.sk_deriv.proofs.forest.Forest.+height.Goals as goal

pub overflow_add-result : goal.overflow_add-result
overflow_add-result t c =
    let nodes = c.args.self.now in
    let all : c.loop-step.greatest ≡ greatest_of nodes c.get.result.now.steps = greatest_all nodes c.loop-step.greatest c.as_slice-step-items.result.now c.loop-step.step-index c.get.result.now
    c.as_slice-step-items.ensures c.loop-step-test.false c.loop-step.invariant in
    omega (arith, all, greatest_within nodes c.get.ensures.forest c.args.node c.get.result.now c.get.ensures.node)

pub returns : goal.returns
returns t c =
    let nodes = c.args.self.now in
    let all : c.loop-step.greatest ≡ greatest_of nodes c.get.result.now.steps = greatest_all nodes c.loop-step.greatest c.as_slice-step-items.result.now c.loop-step.step-index c.get.result.now
    c.as_slice-step-items.ensures c.loop-step-test.false c.loop-step.invariant in
    add-one c.loop-step.greatest ∙ ap suc all ∙ sym (height_is nodes c.args.node c.get.result.now c.get.ensures.forest c.get.ensures.node)
