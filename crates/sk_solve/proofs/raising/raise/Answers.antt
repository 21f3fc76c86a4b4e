use Rattle.std.proofs.Common.{rules, ◌≡◌, ◌<◌, true, length, Some, sym, subst}
use Rattle.std.proofs.lemmas.List.{set-get_or}
use Rattle.std.specs.Prelude.{slice_get, slice_set, slice_index_or}
use Rattle.std.proofs.lemmas.Option.{slice_get-get_or}
use Rattle.sk_lattice.specs.DomainLaws.{FiniteLaw}
use Rattle.sk_solve.specs.Climbing.{IsDue, IsStep, LiesIn}
use Rattle.sk_solve.proofs.Places.{both_ok}
use Rattle.sk_solve.proofs.Raises.{due_joins, due_entry, raise_steps}
use Rattle.sk_solve.proofs.raising.raise.Goals as goal

pub bounds-found-at : goal.bounds-found-at
bounds-found-at g c = due_entry _ g.D.NumDom.domain c.args.list.now c.args.at c.args.slot c.args.asked c.args.found.now c.requires.underway c.requires.due

pub offset_bounds-found-at : goal.offset_bounds-found-at
offset_bounds-found-at g c =
    let within : c.args.at < length c.args.found.now = due_entry _ g.D.NumDom.domain c.args.list.now c.args.at c.args.slot c.args.asked c.args.found.now c.requires.underway c.requires.due in
    search (rules, within)

pub raise_slot-requires : goal.raise_slot-requires
raise_slot-requires g c =
    let within = due_entry _ g.D.NumDom.domain c.args.list.now c.args.at c.args.slot c.args.asked c.args.found.now c.requires.underway c.requires.due in
    let entry = slice_get-get_or c.args.found.now c.args.at c.index-found-at.result within in
    let due : IsDue g.D.NumDom.domain c.args.list.now c.args.at c.args.slot (Some c.in-Some.asked) = subst (IsDue g.D.NumDom.domain c.args.list.now c.args.at c.args.slot) c.in-Some.is c.requires.due in
    due_joins _ g.D.NumDom.domain c.args.list.now c.args.at c.args.slot c.in-Some.asked c.args.found.now _ c.requires.underway due entry

pub returns-in-Some : goal.returns-in-Some
returns-in-Some g c =
    let d = g.D.NumDom.domain in
    let list = c.args.list.now in
    let found = c.args.found.now in
    let within = due_entry _ d list c.args.at c.args.slot c.args.asked found c.requires.underway c.requires.due in
    let s = slice_index_or found c.args.at c.index-found-at.result in
    let entry : slice_get found c.args.at ≡ Some s = slice_get-get_or found c.args.at c.index-found-at.result within in
    let due : IsDue d list c.args.at c.args.slot (Some c.in-Some.asked) = subst (IsDue d list c.args.at c.args.slot) c.in-Some.is c.requires.due in
    let finite : FiniteLaw true d = subst (λ b. FiniteLaw b d) c.requires.finite g.met.D.NumDom.finite in
    both_ok c.raise_slot.result _ _ _
    (λ changed p q.
    subst (λ o. IsStep d list (LiesIn d c.args.at c.args.slot o) found (slice_set found c.args.at c.raise_slot.new.solved) changed) (sym c.in-Some.is)
    (subst (λ z. IsStep d list (LiesIn d c.args.at c.args.slot (Some c.in-Some.asked)) found (slice_set found c.args.at z) changed) (sym q)
    (raise_steps _ d g.met.D.NumDom.laws finite list c.args.at c.args.slot c.in-Some.asked found s changed c.requires.underway due entry (set-get_or found c.args.at c.index-found-at.result) p)))
    c.raise_slot.ensures.changed c.raise_slot.ensures.new
