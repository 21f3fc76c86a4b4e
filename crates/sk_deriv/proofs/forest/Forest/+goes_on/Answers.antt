use Rattle.std.proofs.Common.{[], sym, subst, arith}
use Rattle.std.specs.Prelude.{IsTrue, ◌↔◌}
use Rattle.sk_deriv.specs.Tree.{IsBefore}
use Rattle.sk_deriv.proofs.Cursors.{sub_into, sub_below, word_into}
use Rattle.sk_deriv.proofs.forest.Forest.+goes_on.Goals as goal

pub goes_on-requires-in-Sub : goal.goes_on-requires-in-Sub
goes_on-requires-in-Sub t c =
    sub_into c.args.self.now c.get.ensures.forest c.in-Sub.child c.get.result.now c.get.ensures.node c.args.cursor.now c.in-Sub.steps c.in-Sub.above c.as_slice-inner.result.now t
    c.in-Sub.ensures c.requires c.as_slice-inner.ensures c.get.ensures.children
    (sub_below c.args.self.now c.get.ensures.forest c.in-Sub.child c.get.result.now c.get.ensures.node c.args.cursor.now c.in-Sub.steps c.in-Sub.above c.in-Sub.ensures c.requires) (omega arith)

pub returns-in-Sub : goal.returns-in-Sub
returns-in-Sub t c =
    subst (λ w. IsTrue c.goes_on-in-Sub.result ↔ IsBefore [] w)
    (sym (word_into c.args.self.now c.get.ensures.forest c.in-Sub.child c.get.result.now c.get.ensures.node c.args.cursor.now c.in-Sub.steps c.in-Sub.above c.as_slice-inner.result.now c.in-Sub.ensures c.as_slice-inner.ensures))
    c.goes_on-in-Sub.ensures
