use Rattle.std.proofs.Common.{◌≡◌, ◌∙◌, Some, refl, sym, subst}
use Rattle.std.proofs.lemmas.Result.{IfOk-weaker}
use Rattle.sk_constr.specs.Fits.{CoverLineFits}
use Rattle.sk_solve.specs.declared.slot.Slot.{Slot}
use Rattle.sk_solve.specs.Climbing.{IsDue, LiesIn}
use Rattle.sk_solve.proofs.Places.{each_at, same_some}
use Rattle.sk_solve.proofs.Due.{cover_place, cover_due, cover_held}
use Rattle.sk_solve.proofs.Steps.{step_more}
use Rattle.sk_solve.proofs.raising.raise_cover.Goals as goal

pub unwrap-at-requires : goal.unwrap-at-requires
unwrap-at-requires g c =
    let d = g.D.NumDom.domain in
    let list = c.args.list.now in
    let fit = each_at (CoverLineFits list.names list.keys) list.covers c.requires.there.place c.args.cover.now c.names-names.ensures.fit.covers_fit c.requires.there.cover_is in
    let place = cover_place _ d g.met.D.NumDom.laws list c.args.cover.now fit in
    let is : c.place_of.result ≡ Some place.at = c.place_of.ensures ∙ (place.found c.args.found.now c.requires.underway.assigns).0 in
    rw is refl

pub raise-requires-clause-due : goal.raise-requires-clause-due
raise-requires-clause-due g c =
    let d = g.D.NumDom.domain in
    let list = c.args.list.now in
    let fit = each_at (CoverLineFits list.names list.keys) list.covers c.requires.there.place c.args.cover.now c.names-names.ensures.fit.covers_fit c.requires.there.cover_is in
    let place = cover_place _ d g.met.D.NumDom.laws list c.args.cover.now fit in
    let at : place.at ≡ c.unwrap-at.result = same_some (sym (c.place_of.ensures ∙ (place.found c.args.found.now c.requires.underway.assigns).0) ∙ c.unwrap-at.ensures) in
    subst (λ k. IsDue d list k (Slot.Position 0) (Some c.in_ok-ins.ins)) at
    (subst (λ t. IsDue d list place.at (Slot.Position 0) (Some t)) (sym c.in_ok-ins.ensures.copied) (cover_due _ d g.met.D.NumDom.laws list c.args.cover.now fit c.requires.there c.copy_tuple.ensures.proper))

pub returns : goal.returns
returns g c =
    let d = g.D.NumDom.domain in
    let list = c.args.list.now in
    let fit = each_at (CoverLineFits list.names list.keys) list.covers c.requires.there.place c.args.cover.now c.names-names.ensures.fit.covers_fit c.requires.there.cover_is in
    let place = cover_place _ d g.met.D.NumDom.laws list c.args.cover.now fit in
    let at : place.at ≡ c.unwrap-at.result = same_some (sym (c.place_of.ensures ∙ (place.found c.args.found.now c.requires.underway.assigns).0) ∙ c.unwrap-at.ensures) in
    IfOk-weaker c.raise.result _ _
    (λ changed step. step_more _ d list (LiesIn d c.unwrap-at.result (Slot.Position 0) (Some c.in_ok-ins.ins)) _ c.args.found.now c.raise.new.found changed
    (λ lies. cover_held _ d g.met.D.NumDom.laws list c.args.cover.now fit c.args.found.now c.requires.underway
    (subst (λ k. LiesIn d k (Slot.Position 0) (Some c.args.cover.now.ins) c.args.found.now) (sym at) (subst (λ t. LiesIn d c.unwrap-at.result (Slot.Position 0) (Some t) c.args.found.now) c.in_ok-ins.ensures.copied lies)))
    step)
    c.raise.ensures
