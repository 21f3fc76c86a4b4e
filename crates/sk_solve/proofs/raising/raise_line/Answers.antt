use Rattle.std.proofs.Common.{rules, ◌≡◌, ◌<◌, ◌∙◌, length, Some, refl, sym, subst, ap}
use Rattle.std.specs.Prelude.{slice_get, slice_index_or}
use Rattle.std.specs.Option.{option_copied}
use Rattle.std.proofs.lemmas.Option.{slice_get-get_or}
use Rattle.std.proofs.lemmas.Result.{IfOk-weaker}
use Rattle.sk_solve.specs.declared.slot.Slot.{Slot}
use Rattle.sk_solve.specs.Climbing.{IsDue, IsStep, LiesIn}
use Rattle.sk_solve.proofs.Places.{same_some}
use Rattle.sk_solve.proofs.Due.{line_entry, fits_of, idle_steps, filter_asks, filter_steps, join_asks, join_steps, end_asks, end_steps, uncalled_steps, place_called, called_asks, called_within, answer_due, call_steps}
use Rattle.sk_solve.proofs.raising.raise_line.Goals as goal

pub bounds-found-at : goal.bounds-found-at
bounds-found-at g c = line_entry _ g.D.NumDom.domain g.met.D.NumDom.laws c.args.list.now c.args.at c.args.line.now c.args.found.now c.names-names.ensures.fit c.requires.underway c.requires.there

pub offset_bounds-found-at : goal.offset_bounds-found-at
offset_bounds-found-at g c =
    let within : c.args.at < length c.args.found.now = line_entry _ g.D.NumDom.domain g.met.D.NumDom.laws c.args.list.now c.args.at c.args.line.now c.args.found.now c.names-names.ensures.fit c.requires.underway c.requires.there in
    search (rules, within)

pub returns-in_default : goal.returns-in_default
returns-in_default g c =
    let within = line_entry _ g.D.NumDom.domain g.met.D.NumDom.laws c.args.list.now c.args.at c.args.line.now c.args.found.now c.names-names.ensures.fit c.requires.underway c.requires.there in
    idle_steps _ g.D.NumDom.domain g.met.D.NumDom.laws c.args.list.now c.args.at c.args.line.now c.args.found.now c.names-names.ensures.fit c.requires.underway c.requires.there
    (slice_index_or c.args.found.now c.args.at c.index-found-at.result) (slice_get-get_or c.args.found.now c.args.at c.index-found-at.result within)
    (sym c.value_at.ensures ∙ ap option_copied c.in_default.is)

pub raise-requires-clause-due : goal.raise-requires-clause-due
raise-requires-clause-due g c =
    let within = line_entry _ g.D.NumDom.domain g.met.D.NumDom.laws c.args.list.now c.args.at c.args.line.now c.args.found.now c.names-names.ensures.fit c.requires.underway c.requires.there in
    filter_asks _ g.D.NumDom.domain g.met.D.NumDom.laws c.args.list.now c.args.at c.args.line.now c.args.found.now c.names-names.ensures.fit c.requires.underway c.requires.there
    (slice_index_or c.args.found.now c.args.at c.index-found-at.result) (slice_get-get_or c.args.found.now c.args.at c.index-found-at.result within)
    c.in-Some._before.now (sym c.value_at.ensures ∙ ap option_copied c.in-Some.is) _ _ _ c.in_ok-outs-in-Filter.outs c.in-Filter.is
    (rw c.names-names.ensures.value at c.in_ok-outs-in-Filter.ensures)

pub values-requires : goal.values-requires
values-requires g c = (fits_of _ g.D.NumDom.domain g.met.D.NumDom.laws c.args.list.now c.args.at c.args.line.now c.args.found.now c.names-names.ensures.fit c.requires.underway c.requires.there _ c.in-Call.is).args_fit.few

pub values-requires-in-Join : goal.values-requires-in-Join
values-requires-in-Join g c = (fits_of _ g.D.NumDom.domain g.met.D.NumDom.laws c.args.list.now c.args.at c.args.line.now c.args.found.now c.names-names.ensures.fit c.requires.underway c.requires.there _ c.in-Join.is).vars_fit.few

pub values-requires-in-End : goal.values-requires-in-End
values-requires-in-End g c = (fits_of _ g.D.NumDom.domain g.met.D.NumDom.laws c.args.list.now c.args.at c.args.line.now c.args.found.now c.names-names.ensures.fit c.requires.underway c.requires.there _ c.in-End.is).few

pub returns-in_default-2 : goal.returns-in_default-2
returns-in_default-2 g c =
    let within = line_entry _ g.D.NumDom.domain g.met.D.NumDom.laws c.args.list.now c.args.at c.args.line.now c.args.found.now c.names-names.ensures.fit c.requires.underway c.requires.there in
    uncalled_steps _ g.D.NumDom.domain g.met.D.NumDom.laws c.args.list.now c.args.at c.args.line.now c.args.found.now c.names-names.ensures.fit c.requires.underway c.requires.there
    (slice_index_or c.args.found.now c.args.at c.index-found-at.result) (slice_get-get_or c.args.found.now c.args.at c.index-found-at.result within)
    c.in-Some._before.now (sym c.value_at.ensures ∙ ap option_copied c.in-Some.is) _ _ _ _ c.in-Call.is
    (sym c.in_ok-ins-in-Call.ensures ∙ c.in_default-2.is)

pub unwrap-called-requires : goal.unwrap-called-requires
unwrap-called-requires g c =
    let within = line_entry _ g.D.NumDom.domain g.met.D.NumDom.laws c.args.list.now c.args.at c.args.line.now c.args.found.now c.names-names.ensures.fit c.requires.underway c.requires.there in
    let place =
    place_called _ g.D.NumDom.domain g.met.D.NumDom.laws c.args.list.now c.args.at c.args.line.now c.args.found.now c.names-names.ensures.fit c.requires.underway c.requires.there
    (slice_index_or c.args.found.now c.args.at c.index-found-at.result) (slice_get-get_or c.args.found.now c.args.at c.index-found-at.result within)
    c.in-Some._before.now (sym c.value_at.ensures ∙ ap option_copied c.in-Some.is) _ _ _ _ c.in-Some-2.ins c.in-Call.is (sym c.in_ok-ins-in-Call.ensures ∙ c.in-Some-2.is) in
    let is : c.place_of.result ≡ Some place.at = c.place_of.ensures ∙ (place.found c.args.found.now c.requires.underway.assigns).0 in
    rw is refl

pub raise-requires-in-Call-clause-due : goal.raise-requires-in-Call-clause-due
raise-requires-in-Call-clause-due g c =
    let within = line_entry _ g.D.NumDom.domain g.met.D.NumDom.laws c.args.list.now c.args.at c.args.line.now c.args.found.now c.names-names.ensures.fit c.requires.underway c.requires.there in
    let entry = slice_get-get_or c.args.found.now c.args.at c.index-found-at.result within in
    let before = sym c.value_at.ensures ∙ ap option_copied c.in-Some.is in
    let given = sym c.in_ok-ins-in-Call.ensures ∙ c.in-Some-2.is in
    let place = place_called _ g.D.NumDom.domain g.met.D.NumDom.laws c.args.list.now c.args.at c.args.line.now c.args.found.now c.names-names.ensures.fit c.requires.underway c.requires.there _ entry c.in-Some._before.now before _ _ _ _ c.in-Some-2.ins c.in-Call.is given in
    let at : place.at ≡ c.unwrap-called.result = same_some (sym (c.place_of.ensures ∙ (place.found c.args.found.now c.requires.underway.assigns).0) ∙ c.unwrap-called.ensures) in
    subst (λ k. IsDue g.D.NumDom.domain c.args.list.now k (Slot.Position 0) (Some c.in-Some-2.ins)) at
    (called_asks _ g.D.NumDom.domain g.met.D.NumDom.laws c.args.list.now c.args.at c.args.line.now c.args.found.now c.names-names.ensures.fit c.requires.underway c.requires.there _ entry c.in-Some._before.now before _ _ _ _ c.in-Some-2.ins c.in-Call.is given)

pub bounds-found-called : goal.bounds-found-called
bounds-found-called g c =
    let within = line_entry _ g.D.NumDom.domain g.met.D.NumDom.laws c.args.list.now c.args.at c.args.line.now c.args.found.now c.names-names.ensures.fit c.requires.underway c.requires.there in
    let entry = slice_get-get_or c.args.found.now c.args.at c.index-found-at.result within in
    let before = sym c.value_at.ensures ∙ ap option_copied c.in-Some.is in
    let given = sym c.in_ok-ins-in-Call.ensures ∙ c.in-Some-2.is in
    let place = place_called _ g.D.NumDom.domain g.met.D.NumDom.laws c.args.list.now c.args.at c.args.line.now c.args.found.now c.names-names.ensures.fit c.requires.underway c.requires.there _ entry c.in-Some._before.now before _ _ _ _ c.in-Some-2.ins c.in-Call.is given in
    let at : place.at ≡ c.unwrap-called.result = same_some (sym (c.place_of.ensures ∙ (place.found c.args.found.now c.requires.underway.assigns).0) ∙ c.unwrap-called.ensures) in
    subst (λ k. k < length c.raise-in-Call.new.found) at
    (called_within _ g.D.NumDom.domain g.met.D.NumDom.laws c.args.list.now c.args.at c.args.line.now c.args.found.now c.names-names.ensures.fit c.requires.underway c.requires.there _ entry c.in-Some._before.now before _ _ _ _ c.in-Some-2.ins c.in-Call.is given c.raise-in-Call.new.found c.in_ok-asks-in-Call.ensures.underway)

pub offset_bounds-found-called : goal.offset_bounds-found-called
offset_bounds-found-called g c =
    let within = line_entry _ g.D.NumDom.domain g.met.D.NumDom.laws c.args.list.now c.args.at c.args.line.now c.args.found.now c.names-names.ensures.fit c.requires.underway c.requires.there in
    let entry = slice_get-get_or c.args.found.now c.args.at c.index-found-at.result within in
    let before = sym c.value_at.ensures ∙ ap option_copied c.in-Some.is in
    let given = sym c.in_ok-ins-in-Call.ensures ∙ c.in-Some-2.is in
    let place = place_called _ g.D.NumDom.domain g.met.D.NumDom.laws c.args.list.now c.args.at c.args.line.now c.args.found.now c.names-names.ensures.fit c.requires.underway c.requires.there _ entry c.in-Some._before.now before _ _ _ _ c.in-Some-2.ins c.in-Call.is given in
    let at : place.at ≡ c.unwrap-called.result = same_some (sym (c.place_of.ensures ∙ (place.found c.args.found.now c.requires.underway.assigns).0) ∙ c.unwrap-called.ensures) in
    let inside : c.unwrap-called.result < length c.raise-in-Call.new.found =
    subst (λ k. k < length c.raise-in-Call.new.found) at
    (called_within _ g.D.NumDom.domain g.met.D.NumDom.laws c.args.list.now c.args.at c.args.line.now c.args.found.now c.names-names.ensures.fit c.requires.underway c.requires.there _ entry c.in-Some._before.now before _ _ _ _ c.in-Some-2.ins c.in-Call.is given c.raise-in-Call.new.found c.in_ok-asks-in-Call.ensures.underway) in
    search (rules, inside)

pub raise-requires-in-Call-2-clause-due : goal.raise-requires-in-Call-2-clause-due
raise-requires-in-Call-2-clause-due g c =
    let within = line_entry _ g.D.NumDom.domain g.met.D.NumDom.laws c.args.list.now c.args.at c.args.line.now c.args.found.now c.names-names.ensures.fit c.requires.underway c.requires.there in
    let entry = slice_get-get_or c.args.found.now c.args.at c.index-found-at.result within in
    let before = sym c.value_at.ensures ∙ ap option_copied c.in-Some.is in
    let given = sym c.in_ok-ins-in-Call.ensures ∙ c.in-Some-2.is in
    let place = place_called _ g.D.NumDom.domain g.met.D.NumDom.laws c.args.list.now c.args.at c.args.line.now c.args.found.now c.names-names.ensures.fit c.requires.underway c.requires.there _ entry c.in-Some._before.now before _ _ _ _ c.in-Some-2.ins c.in-Call.is given in
    let at : place.at ≡ c.unwrap-called.result = same_some (sym (c.place_of.ensures ∙ (place.found c.args.found.now c.requires.underway.assigns).0) ∙ c.unwrap-called.ensures) in
    let mid = c.raise-in-Call.new.found in
    let inside = called_within _ g.D.NumDom.domain g.met.D.NumDom.laws c.args.list.now c.args.at c.args.line.now c.args.found.now c.names-names.ensures.fit c.requires.underway c.requires.there _ entry c.in-Some._before.now before _ _ _ _ c.in-Some-2.ins c.in-Call.is given mid c.in_ok-asks-in-Call.ensures.underway in
    let called = slice_index_or mid c.unwrap-called.result c.index-found-called.result in
    let is : slice_get mid place.at ≡ Some called =
    subst (λ k. slice_get mid k ≡ Some called) (sym at) (slice_get-get_or mid c.unwrap-called.result c.index-found-called.result (subst (λ k. k < length mid) at inside)) in
    subst (IsDue g.D.NumDom.domain c.args.list.now c.args.at (Slot.Position c.in-Call.to)) (sym c.in_ok-outs-in-Call.ensures)
    (answer_due _ g.D.NumDom.domain g.met.D.NumDom.laws c.args.list.now c.args.at c.args.line.now c.args.found.now c.names-names.ensures.fit c.requires.underway c.requires.there _ entry c.in-Some._before.now before _ _ _ _ c.in-Some-2.ins c.in-Call.is given mid c.in_ok-asks-in-Call.ensures.underway called is)

pub raise-requires-in-Join-clause-due : goal.raise-requires-in-Join-clause-due
raise-requires-in-Join-clause-due g c =
    let within = line_entry _ g.D.NumDom.domain g.met.D.NumDom.laws c.args.list.now c.args.at c.args.line.now c.args.found.now c.names-names.ensures.fit c.requires.underway c.requires.there in
    join_asks _ g.D.NumDom.domain g.met.D.NumDom.laws c.args.list.now c.args.at c.args.line.now c.args.found.now c.names-names.ensures.fit c.requires.underway c.requires.there
    (slice_index_or c.args.found.now c.args.at c.index-found-at.result) (slice_get-get_or c.args.found.now c.args.at c.index-found-at.result within)
    c.in-Some._before.now (sym c.value_at.ensures ∙ ap option_copied c.in-Some.is) _ _ c.in_ok-values-in-Join.values c.in-Join.is c.in_ok-values-in-Join.ensures

pub raise-requires-in-End-clause-due : goal.raise-requires-in-End-clause-due
raise-requires-in-End-clause-due g c =
    let within = line_entry _ g.D.NumDom.domain g.met.D.NumDom.laws c.args.list.now c.args.at c.args.line.now c.args.found.now c.names-names.ensures.fit c.requires.underway c.requires.there in
    end_asks _ g.D.NumDom.domain g.met.D.NumDom.laws c.args.list.now c.args.at c.args.line.now c.args.found.now c.names-names.ensures.fit c.requires.underway c.requires.there
    (slice_index_or c.args.found.now c.args.at c.index-found-at.result) (slice_get-get_or c.args.found.now c.args.at c.index-found-at.result within)
    c.in-Some._before.now (sym c.value_at.ensures ∙ ap option_copied c.in-Some.is) _ c.in_ok-values-in-End.values c.in-End.is c.in_ok-values-in-End.ensures

pub returns-in_ok-outs-in-Filter : goal.returns-in_ok-outs-in-Filter
returns-in_ok-outs-in-Filter g c =
    let within = line_entry _ g.D.NumDom.domain g.met.D.NumDom.laws c.args.list.now c.args.at c.args.line.now c.args.found.now c.names-names.ensures.fit c.requires.underway c.requires.there in
    IfOk-weaker c.raise.result _ _
    (λ changed step. filter_steps _ g.D.NumDom.domain g.met.D.NumDom.laws c.args.list.now c.args.at c.args.line.now c.args.found.now c.names-names.ensures.fit c.requires.underway c.requires.there
    (slice_index_or c.args.found.now c.args.at c.index-found-at.result) (slice_get-get_or c.args.found.now c.args.at c.index-found-at.result within)
    c.in-Some._before.now (sym c.value_at.ensures ∙ ap option_copied c.in-Some.is) _ _ _ c.in_ok-outs-in-Filter.outs c.raise.new.found changed c.in-Filter.is
    (rw c.names-names.ensures.value at c.in_ok-outs-in-Filter.ensures) step)
    c.raise.ensures

pub returns-in_ok-values-in-Join : goal.returns-in_ok-values-in-Join
returns-in_ok-values-in-Join g c =
    let within = line_entry _ g.D.NumDom.domain g.met.D.NumDom.laws c.args.list.now c.args.at c.args.line.now c.args.found.now c.names-names.ensures.fit c.requires.underway c.requires.there in
    IfOk-weaker c.raise-in-Join.result _ _
    (λ changed step. join_steps _ g.D.NumDom.domain g.met.D.NumDom.laws c.args.list.now c.args.at c.args.line.now c.args.found.now c.names-names.ensures.fit c.requires.underway c.requires.there
    (slice_index_or c.args.found.now c.args.at c.index-found-at.result) (slice_get-get_or c.args.found.now c.args.at c.index-found-at.result within)
    c.in-Some._before.now (sym c.value_at.ensures ∙ ap option_copied c.in-Some.is) _ _ c.in_ok-values-in-Join.values c.raise-in-Join.new.found changed c.in-Join.is c.in_ok-values-in-Join.ensures step)
    c.raise-in-Join.ensures

pub returns-in_ok-values-in-End : goal.returns-in_ok-values-in-End
returns-in_ok-values-in-End g c =
    let within = line_entry _ g.D.NumDom.domain g.met.D.NumDom.laws c.args.list.now c.args.at c.args.line.now c.args.found.now c.names-names.ensures.fit c.requires.underway c.requires.there in
    IfOk-weaker c.raise-in-End.result _ _
    (λ changed step. end_steps _ g.D.NumDom.domain g.met.D.NumDom.laws c.args.list.now c.args.at c.args.line.now c.args.found.now c.names-names.ensures.fit c.requires.underway c.requires.there
    (slice_index_or c.args.found.now c.args.at c.index-found-at.result) (slice_get-get_or c.args.found.now c.args.at c.index-found-at.result within)
    c.in-Some._before.now (sym c.value_at.ensures ∙ ap option_copied c.in-Some.is) _ c.in_ok-values-in-End.values c.raise-in-End.new.found changed c.in-End.is c.in_ok-values-in-End.ensures step)
    c.raise-in-End.ensures

pub returns-in_ok-answers-in-Call : goal.returns-in_ok-answers-in-Call
returns-in_ok-answers-in-Call g c =
    let d = g.D.NumDom.domain in
    let within = line_entry _ d g.met.D.NumDom.laws c.args.list.now c.args.at c.args.line.now c.args.found.now c.names-names.ensures.fit c.requires.underway c.requires.there in
    let entry = slice_get-get_or c.args.found.now c.args.at c.index-found-at.result within in
    let before = sym c.value_at.ensures ∙ ap option_copied c.in-Some.is in
    let given = sym c.in_ok-ins-in-Call.ensures ∙ c.in-Some-2.is in
    let place = place_called _ d g.met.D.NumDom.laws c.args.list.now c.args.at c.args.line.now c.args.found.now c.names-names.ensures.fit c.requires.underway c.requires.there _ entry c.in-Some._before.now before _ _ _ _ c.in-Some-2.ins c.in-Call.is given in
    let at : place.at ≡ c.unwrap-called.result = same_some (sym (c.place_of.ensures ∙ (place.found c.args.found.now c.requires.underway.assigns).0) ∙ c.unwrap-called.ensures) in
    let mid = c.raise-in-Call.new.found in
    let inside = called_within _ d g.met.D.NumDom.laws c.args.list.now c.args.at c.args.line.now c.args.found.now c.names-names.ensures.fit c.requires.underway c.requires.there _ entry c.in-Some._before.now before _ _ _ _ c.in-Some-2.ins c.in-Call.is given mid c.in_ok-asks-in-Call.ensures.underway in
    let called = slice_index_or mid c.unwrap-called.result c.index-found-called.result in
    let is : slice_get mid place.at ≡ Some called =
    subst (λ k. slice_get mid k ≡ Some called) (sym at) (slice_get-get_or mid c.unwrap-called.result c.index-found-called.result (subst (λ k. k < length mid) at inside)) in
    call_steps _ d g.met.D.NumDom.laws c.args.list.now c.args.at c.args.line.now c.args.found.now c.names-names.ensures.fit c.requires.underway c.requires.there _ entry c.in-Some._before.now before _ _ _ _ c.in-Some-2.ins c.in-Call.is given
    mid c.raise-in-Call-2.new.found called c.in_ok-asks-in-Call.asks c.in_ok-answers-in-Call.answers is
    (subst (λ k. IsStep d c.args.list.now (LiesIn d k (Slot.Position 0) (Some c.in-Some-2.ins)) c.args.found.now mid c.in_ok-asks-in-Call.asks) (sym at) c.in_ok-asks-in-Call.ensures)
    (subst (λ o. IsStep d c.args.list.now (LiesIn d c.args.at (Slot.Position c.in-Call.to) o) mid c.raise-in-Call-2.new.found c.in_ok-answers-in-Call.answers) c.in_ok-outs-in-Call.ensures c.in_ok-answers-in-Call.ensures)
