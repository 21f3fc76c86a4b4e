use Rattle.std.proofs.Common.{◌≡◌, ◌≤◌, ◌∙◌, true, length, subst}
use Rattle.sk_solve.specs.Solves.{cover_holds}
use Rattle.sk_solve.specs.Climbing.{CoversHold}
use Rattle.sk_solve.proofs.Passes.{EachBelow, all_below}
use Rattle.sk_solve.proofs.Steps.{step_more}
use Rattle.sk_solve.proofs.solving.raise_covers.Goals as goal

pub returns : goal.returns
returns g c =
    let d = g.D.NumDom.domain in
    let list = c.args.list.now in
    let covers = c.as_slice-cover-items.ensures ∙ c.cover_lines.ensures in
    let past : length list.covers ≤ c.loop-cover.cover-index = subst (λ cs. length cs ≤ c.loop-cover.cover-index) covers c.loop-cover-test.false in
    step_more _ d list (λ a. EachBelow c.loop-cover.cover-index (λ cover. cover_holds d list.names a cover ≡ true) list.covers) (CoversHold d list.names list.covers) c.args.found.now c.loop-cover.found c.loop-cover.changed
    (λ h. all_below (λ cover. cover_holds d list.names c.args.found.now cover ≡ true) list.covers c.loop-cover.cover-index past h) c.loop-cover.invariant
