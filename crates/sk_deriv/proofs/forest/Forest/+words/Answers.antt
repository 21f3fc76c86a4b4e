use Rattle.std.proofs.Common.{◌+◌, ◌<◌, ◌∷◌, sym, subst, arith}
use Rattle.std.specs.Prelude.{IsTrue, ◌↔◌}
use Rattle.sk_deriv.specs.Tree.{IsBefore}
use Rattle.sk_deriv.specs.Cursors.{rest_word, cursor_size}
use Rattle.sk_deriv.proofs.Cursors.{size_by, pick_into, sub_into, sub_below, word_into}
use Rattle.sk_deriv.proofs.forest.Forest.+words.Goals as goal

pub is_before-pick_is_before-requires : goal.is_before-pick_is_before-requires
is_before-pick_is_before-requires t c =
    let nodes = c.args.self.now in
    let into = pick_into nodes c.args.a.now c.in-Pick.pick c.in-Pick.steps c.in-Pick.above c.in-Pick.ensures c.requires.first in
    let falls : size_by nodes c.in-Pick.steps.now + cursor_size nodes c.in-Pick.above.now + 1 + cursor_size nodes c.args.b.now < t = omega (arith, into.0) in
    (falls, (into.1, c.requires.second))

pub is_before-is_before-requires-in-Sub : goal.is_before-is_before-requires-in-Sub
is_before-is_before-requires-in-Sub t c =
    let nodes = c.args.self.now in
    let there = sub_below nodes c.get.ensures.forest c.in-Sub.child c.get.result.now c.get.ensures.node c.args.a.now c.in-Sub.steps c.in-Sub.above c.in-Sub.ensures c.requires.first in
    let into = sub_into nodes c.get.ensures.forest c.in-Sub.child c.get.result.now c.get.ensures.node c.args.a.now c.in-Sub.steps c.in-Sub.above c.as_slice-inner.result.now (cursor_size nodes c.args.a.now)
    c.in-Sub.ensures c.requires.first c.as_slice-inner.ensures c.get.ensures.children there (omega arith) in
    let falls : size_by nodes c.as_slice-inner.result.now + (size_by nodes c.in-Sub.steps.now + cursor_size nodes c.in-Sub.above.now + 1) + 1 + cursor_size nodes c.args.b.now < t = omega (arith, into.0) in
    (falls, (into.1, c.requires.second))

pub is_before-returns-in-Sub : goal.is_before-returns-in-Sub
is_before-returns-in-Sub t c =
    subst (λ w. IsTrue c.is_before-in-Sub.result ↔ IsBefore w (rest_word c.args.self.now c.args.b.now))
    (sym (word_into c.args.self.now c.get.ensures.forest c.in-Sub.child c.get.result.now c.get.ensures.node c.args.a.now c.in-Sub.steps c.in-Sub.above c.as_slice-inner.result.now c.in-Sub.ensures c.as_slice-inner.ensures))
    c.is_before-in-Sub.ensures

pub pick_is_before-is_before-requires : goal.pick_is_before-is_before-requires
pick_is_before-is_before-requires t c =
    let nodes = c.args.self.now in
    let into = pick_into nodes c.args.b.now c.in-Pick.other c.in-Pick.steps c.in-Pick.above c.in-Pick.ensures c.requires.second in
    let falls : cursor_size nodes c.args.a.now + (size_by nodes c.in-Pick.steps.now + cursor_size nodes c.in-Pick.above.now + 1) < t = omega (arith, into.0) in
    (falls, (c.requires.first, into.1))

pub pick_is_before-pick_is_before-requires-in-Sub : goal.pick_is_before-pick_is_before-requires-in-Sub
pick_is_before-pick_is_before-requires-in-Sub t c =
    let nodes = c.args.self.now in
    let there = sub_below nodes c.get.ensures.forest c.in-Sub.child c.get.result.now c.get.ensures.node c.args.b.now c.in-Sub.steps c.in-Sub.above c.in-Sub.ensures c.requires.second in
    let into = sub_into nodes c.get.ensures.forest c.in-Sub.child c.get.result.now c.get.ensures.node c.args.b.now c.in-Sub.steps c.in-Sub.above c.as_slice-inner.result.now (cursor_size nodes c.args.b.now)
    c.in-Sub.ensures c.requires.second c.as_slice-inner.ensures c.get.ensures.children there (omega arith) in
    let falls : cursor_size nodes c.args.a.now + (size_by nodes c.as_slice-inner.result.now + (size_by nodes c.in-Sub.steps.now + cursor_size nodes c.in-Sub.above.now + 1) + 1) < t = omega (arith, into.0) in
    (falls, (c.requires.first, into.1))

pub pick_is_before-returns-in-Sub : goal.pick_is_before-returns-in-Sub
pick_is_before-returns-in-Sub t c =
    subst (λ w. IsTrue c.pick_is_before-in-Sub.result ↔ IsBefore (c.args.pick ∷ rest_word c.args.self.now c.args.a.now) w)
    (sym (word_into c.args.self.now c.get.ensures.forest c.in-Sub.child c.get.result.now c.get.ensures.node c.args.b.now c.in-Sub.steps c.in-Sub.above c.as_slice-inner.result.now c.in-Sub.ensures c.as_slice-inner.ensures))
    c.pick_is_before-in-Sub.ensures
