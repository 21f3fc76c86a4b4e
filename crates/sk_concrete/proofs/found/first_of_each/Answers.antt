use Rattle.std.proofs.Common.{◌∙◌, sym, arith}
use Rattle.std.proofs.lemmas.Bool.{false≢true}
use Rattle.sk_concrete.proofs.FirstRoots.{first_all, first_seen, first_new}
use Rattle.sk_concrete.proofs.found.first_of_each.Goals as goal

pub loop-place-preserved-then-is_among : goal.loop-place-preserved-then-is_among
loop-place-preserved-then-is_among c = λ s n d nodes stand.
    first_seen nodes s n d c.args.trees.now stand c.loop-place.place c.loop-place.roots c.index-trees-place.result (omega (arith, c.loop-place-test.true)) c.index-trees-place.is
    (c.loop-place.invariant s n d nodes stand) (c.is_among.ensures.yes c.if-is_among.true)

pub loop-place-preserved : goal.loop-place-preserved
loop-place-preserved c = λ s n d nodes stand.
    first_new nodes s n d c.args.trees.now stand c.loop-place.place c.loop-place.roots c.index-trees-place.result (omega (arith, c.loop-place-test.true)) c.index-trees-place.is
    (c.loop-place.invariant s n d nodes stand) c.push.new.self (λ a. false≢true (sym c.if-is_among.false ∙ c.is_among.ensures.no a)) c.in_ok-push.ensures.ok

pub returns : goal.returns
returns c = λ s n d nodes stand. (
  first_all nodes s n d c.args.trees.now stand c.loop-place.place c.loop-place.roots (omega (arith, c.loop-place-test.false)) (c.loop-place.invariant s n d nodes stand),
  (c.loop-place.invariant s n d nodes stand).there,
)
