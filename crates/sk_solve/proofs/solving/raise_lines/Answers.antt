use Rattle.std.proofs.Common.{◌≡◌, ◌∙◌, ◌≤◌, length, Some, refl, sym, subst, ap}
use Rattle.std.specs.Prelude.{slice_get}
use Rattle.std.proofs.lemmas.Option.{slice_get_read}
use Rattle.sk_constr.specs.declared.line.KeyLines.{KeyLines}
use Rattle.sk_solve.specs.Climbing.{LineHolds, LinesHold}
use Rattle.sk_solve.proofs.Places.{same_some}
use Rattle.sk_solve.proofs.Passes.{EachBelow, all_below, next_step}
use Rattle.sk_solve.proofs.Steps.{step_more}
use Rattle.sk_solve.proofs.solving.raise_lines.Goals as goal

pub loop-line-preserved : goal.loop-line-preserved
loop-line-preserved g c =
    λ key at.
    let d = g.D.NumDom.domain in
    let same : c.key.result.now ≡ key = same_some (sym c.key.ensures ∙ at) in
    let items = c.as_slice-line-items.result.now in
    let here : slice_get items c.loop-line.line-index ≡ Some c.line-item.result = slice_get_read items (length items) c.loop-line.line-index c.line-item.result refl c.loop-line-test.true c.line-item.is in
    let lines = c.as_slice-line-items.ensures ∙ ap (λ (k : KeyLines). k.lines) same in
    next_step _ d c.args.list.now (λ line a. LineHolds d c.args.list.now.names c.args.at line a) key.lines c.loop-line.line-index c.line-item.result c.args.found.now c.loop-line.found c.raise_line.new.found c.loop-line.changed c.in_ok-raised.raised
    (subst (λ ls. slice_get ls c.loop-line.line-index ≡ Some c.line-item.result) lines here) (c.loop-line.invariant key at) c.in_ok-raised.ensures

pub returns : goal.returns
returns g c =
    λ key at.
    let d = g.D.NumDom.domain in
    let same : c.key.result.now ≡ key = same_some (sym c.key.ensures ∙ at) in
    let lines = c.as_slice-line-items.ensures ∙ ap (λ (k : KeyLines). k.lines) same in
    let past : length key.lines ≤ c.loop-line.line-index = subst (λ ls. length ls ≤ c.loop-line.line-index) lines c.loop-line-test.false in
    step_more _ d c.args.list.now (λ a. EachBelow c.loop-line.line-index (λ line. LineHolds d c.args.list.now.names c.args.at line a) key.lines) (LinesHold d c.args.list.now.names c.args.at key.lines) c.args.found.now c.loop-line.found c.loop-line.changed
    (λ h. all_below (λ line. LineHolds d c.args.list.now.names c.args.at line c.args.found.now) key.lines c.loop-line.line-index past h) (c.loop-line.invariant key at)
