use Rattle.std.proofs.Common.{◌≡◌, Some, None, refl, sym, ◌∙◌, ap, subst}
use Rattle.std.specs.Prelude.{slice_get, slice_set}
use Rattle.sk_rounds.specs.Rounds.{side_join}
use Rattle.sk_abswalk.specs.Reading.{key_of, walks_of}
use Rattle.sk_analyse.specs.Sides.{side_of}
use Rattle.sk_analyse.proofs.SlotLemmas.{heard_at, side_there}
use Rattle.sk_analyse.proofs.slots.Slots.hear.Goals as goal

pub returns-clause-heard : goal.returns-clause-heard
returns-clause-heard g c = λ finite marks s covers.
    let hooks = c.args.self.now.hooks in
    let slots = c.args.self.now.slots in
    let key = key_of c.args.call.now in
    let there = side_there _ hooks slots key None c.requires.place c.get.result.now (subst (λ n. slice_get slots n ≡ Some c.get.result.now) c.place-place.ensures c.get.ensures) in
    ap (side_of hooks) (c.put.ensures ∙ ap (λ n. slice_set slots n (Some c.in_ok-joined.joined)) c.place-place.ensures)
    ∙ heard_at _ hooks slots key (Some c.in_ok-joined.joined) c.requires.place (walks_of g.D.NumDom.domain finite marks s covers) c.args.call.now refl
    (c.in_ok-joined.ensures finite marks s covers ∙ ap (λ o. side_join (walks_of g.D.NumDom.domain finite marks s covers) o (Some c.args.call.now.ins)) (sym there))
