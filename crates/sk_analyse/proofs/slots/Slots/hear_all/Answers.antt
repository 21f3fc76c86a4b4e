use Rattle.std.proofs.Common.{rules, ◌≡◌, ◌+◌, drop, [], refl, sym, ◌∙◌, ap, subst, arith}
use Rattle.std.proofs.lemmas.List.{drop_all}
use Rattle.sk_analyse.specs.Sides.{side_of}
use Rattle.sk_analyse.proofs.Hearing.{begins, ends, next_call, call_fits, call_heard}
use Rattle.sk_analyse.proofs.slots.Slots.hear_all.Goals as goal

pub loop-call-init : goal.loop-call-init
loop-call-init g c =
    let d = g.D.NumDom.domain in
    let slots = c.args.self.now.slots in (
      refl,
      c.as_slice-call-items.ensures,
      record { can = c.requires; so_far = subst (Rattle.sk_analyse.proofs.Hearing.SoFar _ d c.args.self.now.hooks slots c.args.calls.now c.requires slots) (sym c.as_slice-call-items.ensures) (begins _ d c.args.self.now.hooks slots c.args.calls.now c.requires) },
    )

pub hear-requires-clause-fits : goal.hear-requires-clause-fits
hear-requires-clause-fits g c =
    let items = c.as_slice-call-items.result.now in
    call_fits g.D.NumDom.domain g.met.D.NumDom.laws c.args.self.now.hooks c.args.self.now.slots c.loop-call.self.slots c.args.calls.now (drop (c.loop-call.call-index + 1) items) c.call-item.result c.loop-call.self.hooks c.loop-call.invariant.0
    (next_call g.D.NumDom.domain c.args.self.now.hooks c.args.self.now.slots c.loop-call.self.slots c.args.calls.now items c.loop-call.call-index c.call-item.result c.loop-call-test.true c.call-item.is c.loop-call.invariant.2)

pub loop-call-preserved : goal.loop-call-preserved
loop-call-preserved g c =
    let items = c.as_slice-call-items.result.now in
    let hooks_kept = c.in_ok-hear.ensures.hooks ∙ c.loop-call.invariant.0 in (
      hooks_kept,
      c.loop-call.invariant.1,
      call_heard g.D.NumDom.domain c.args.self.now.hooks c.args.self.now.slots c.loop-call.self.slots c.hear.new.self.slots c.args.calls.now (drop (c.loop-call.call-index + 1) items) c.call-item.result c.loop-call.self.hooks c.hear.new.self.hooks
          c.loop-call.invariant.0 hooks_kept c.in_ok-hear.ensures.heard c.in_ok-hear.ensures.size
          (next_call g.D.NumDom.domain c.args.self.now.hooks c.args.self.now.slots c.loop-call.self.slots c.args.calls.now items c.loop-call.call-index c.call-item.result c.loop-call-test.true c.call-item.is c.loop-call.invariant.2),
    )

pub returns-clause-heard : goal.returns-clause-heard
returns-clause-heard g c = λ finite marks s covers k.
    let h = c.loop-call.invariant.2 in
    let none : drop c.loop-call.call-index c.as_slice-call-items.result.now ≡ [] = drop_all c.loop-call.call-index c.as_slice-call-items.result.now (search (rules, arith)) in
    ap (λ n. side_of n c.loop-call.self.slots k) c.loop-call.invariant.0
    ∙ ends _ g.D.NumDom.domain c.args.self.now.hooks c.args.self.now.slots c.args.calls.now h.can c.loop-call.self.slots
    (subst (Rattle.sk_analyse.proofs.Hearing.SoFar _ g.D.NumDom.domain c.args.self.now.hooks c.args.self.now.slots c.args.calls.now h.can c.loop-call.self.slots) none h.so_far) k
