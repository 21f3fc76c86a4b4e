use Rattle.std.proofs.Common.{◌≡◌, ◌∙◌, ◌≤◌, ◌+◌, ◌++◌, ◌∷◌, [], length, drop, map, sym, subst, ap, arith, add-one}
use Rattle.std.proofs.lemmas.List.{append-nil, drop_all}
use Rattle.sk_base.proofs.Drops.{drop_at, push_turn}
use Rattle.sk_solve.specs.Climbing.{nothing_at, IsUnderway}
use Rattle.sk_solve.proofs.Passes.{nothing_underway}
use Rattle.sk_solve.proofs.solving.start.Goals as goal

pub loop-at-preserved : goal.loop-at-preserved
loop-at-preserved g c =
    let keys = c.args.list.now.keys in
    let here : drop c.loop-at.at keys ≡ c.key.result.now ∷ drop (c.loop-at.at + 1) keys = drop_at keys c.loop-at.at c.key.result.now c.key.ensures ∙ ap (λ n. c.key.result.now ∷ drop n keys) (sym (add-one c.loop-at.at)) in
    push_turn c.loop-at.found.items c.push.new.self.items (map nothing_at (drop (c.loop-at.at + 1) keys)) (map nothing_at keys) (nothing_at c.key.result.now)
    (c.in_ok-push.ensures.items ∙ ap (λ s. c.loop-at.found.items ++ s ∷ []) c.in_ok-nothing_at.ensures)
    (subst (λ l. c.loop-at.found.items ++ map nothing_at l ≡ map nothing_at keys) here c.loop-at.invariant)

pub returns : goal.returns
returns g c =
    let keys = c.args.list.now.keys in
    let past : length keys ≤ c.loop-at.at = omega (arith, c.loop-at-test.false, c.keys-at-end.ensures) in
    let whole : c.loop-at.found.items ≡ map nothing_at keys = sym (append-nil c.loop-at.found.items) ∙ subst (λ l. c.loop-at.found.items ++ map nothing_at l ≡ map nothing_at keys) (drop_all c.loop-at.at keys past) c.loop-at.invariant in
    subst (IsUnderway g.D.NumDom.domain c.args.list.now) (sym whole) (nothing_underway _ g.D.NumDom.domain c.args.list.now)
