use Rattle.std.proofs.Common.{◌∙◌, ap}
use Rattle.std.specs.Prelude.{slice_set}
use Rattle.sk_analyse.specs.Sides.{side_of}
use Rattle.sk_analyse.proofs.SlotLemmas.{side_after}
use Rattle.sk_analyse.proofs.slots.Slots.write.Goals as goal

pub returns-clause-written : goal.returns-clause-written
returns-clause-written g c = λ k.
    let hooks = c.args.self.now.hooks in
    let slots = c.args.self.now.slots in
    ap (λ l. side_of hooks l k) (c.put.ensures ∙ ap (λ n. slice_set slots n c.args.side) c.place-place.ensures)
    ∙ side_after _ hooks slots (c.args.hook, c.args.point) c.args.side c.requires k
