use Rattle.std.proofs.Common.{◌≡◌, false, sym, ◌∙◌, ap, subst}
use Rattle.std.specs.List.{list_any, list_all}
use Rattle.sk_rounds.specs.Walks.{Inputs, Outputs}
use Rattle.sk_abswalk.specs.Reading.{same_key}
use Rattle.sk_analyse.specs.Jobs.{setting_of_job, still_at}
use Rattle.sk_analyse.specs.Tabled.{tabled}
use Rattle.sk_analyse.proofs.Telling.{sides_fit_from}
use Rattle.sk_analyse.proofs.Demanding.{good_table, demands_fit, nothing_outside, next_is, stays, changes}
use Rattle.sk_analyse.proofs.round.next_round.Goals as goal

pub returns-then-is_still-clause-gives : goal.returns-then-is_still-clause-gives
returns-then-is_still-clause-gives g c =
    let d = g.D.NumDom.domain in
    let fin = g.D.NumDom.FINITE in
    let job = c.args.job.now in
    let T = tabled c.args.sides.now in
    let V = tabled c.in_ok-demanded.demanded in
    stays _ d fin job.marks.now (setting_of_job job) job.covers.now c.requires.job.laws T V c.args.round c.requires.made.made c.requires.made.round_is c.requires.made.are.table c.in_ok-demanded.ensures.table
    (ap (list_all (still_at d T V)) (sym c.requires.list) ∙ sym c.is_still.ensures ∙ c.if-is_still.true)

pub raise_all-requires-clause-fit : goal.raise_all-requires-clause-fit
raise_all-requires-clause-fit g c = λ k.
    let d = g.D.NumDom.domain in
    let fin = g.D.NumDom.FINITE in
    let job = c.args.job.now in
    let s = setting_of_job job in
    let T = tabled c.args.sides.now in
    let V = tabled c.in_ok-demanded.demanded in
    let good = good_table _ d fin job.marks.now s job.covers.now c.requires.job.laws c.requires.made.made T c.requires.made.are.table in
    sides_fit_from _ d fin job.marks.now s job.covers.now g.met.D.NumDom.laws k Inputs (T k Inputs) (V k Inputs) (good.fits k Inputs) (demands_fit _ d fin job.marks.now s job.covers.now c.requires.job.laws T V good c.in_ok-demanded.ensures.table k Inputs)

pub raise_all-requires-clause-outside : goal.raise_all-requires-clause-outside
raise_all-requires-clause-outside g c = λ k n.
    let d = g.D.NumDom.domain in
    let fin = g.D.NumDom.FINITE in
    let job = c.args.job.now in
    let s = setting_of_job job in
    let T = tabled c.args.sides.now in
    let V = tabled c.in_ok-demanded.demanded in
    let good = good_table _ d fin job.marks.now s job.covers.now c.requires.job.laws c.requires.made.made T c.requires.made.are.table in
    nothing_outside _ d fin job.marks.now s job.covers.now c.requires.job.laws T V good c.in_ok-demanded.ensures.table k (subst (λ l. list_any (same_key k) l ≡ false) c.requires.list n) Inputs

pub raise_all-requires-2-clause-fit : goal.raise_all-requires-2-clause-fit
raise_all-requires-2-clause-fit g c = λ k.
    let d = g.D.NumDom.domain in
    let fin = g.D.NumDom.FINITE in
    let job = c.args.job.now in
    let s = setting_of_job job in
    let T = tabled c.args.sides.now in
    let V = tabled c.in_ok-demanded.demanded in
    let good = good_table _ d fin job.marks.now s job.covers.now c.requires.job.laws c.requires.made.made T c.requires.made.are.table in
    sides_fit_from _ d fin job.marks.now s job.covers.now g.met.D.NumDom.laws k Outputs (T k Outputs) (V k Outputs) (good.fits k Outputs) (demands_fit _ d fin job.marks.now s job.covers.now c.requires.job.laws T V good c.in_ok-demanded.ensures.table k Outputs)

pub raise_all-requires-2-clause-outside : goal.raise_all-requires-2-clause-outside
raise_all-requires-2-clause-outside g c = λ k n.
    let d = g.D.NumDom.domain in
    let fin = g.D.NumDom.FINITE in
    let job = c.args.job.now in
    let s = setting_of_job job in
    let T = tabled c.args.sides.now in
    let V = tabled c.in_ok-demanded.demanded in
    let good = good_table _ d fin job.marks.now s job.covers.now c.requires.job.laws c.requires.made.made T c.requires.made.are.table in
    nothing_outside _ d fin job.marks.now s job.covers.now c.requires.job.laws T V good c.in_ok-demanded.ensures.table k (subst (λ l. list_any (same_key k) l ≡ false) c.requires.list n) Outputs

pub returns-clause-gives : goal.returns-clause-gives
returns-clause-gives g c =
    let job = c.args.job.now in
    next_is _ g.D.NumDom.domain g.D.NumDom.FINITE job.marks.now (setting_of_job job) job.covers.now (tabled c.args.sides.now) (tabled (record { ins = c.in_ok-ins.ins; outs = c.in_ok-outs.outs })) (tabled c.in_ok-demanded.demanded) c.args.round
    c.in_ok-demanded.ensures.table c.in_ok-ins.ensures.raised c.in_ok-outs.ensures.raised

pub returns-clause-changed : goal.returns-clause-changed
returns-clause-changed g c =
    let d = g.D.NumDom.domain in
    let fin = g.D.NumDom.FINITE in
    let job = c.args.job.now in
    let s = setting_of_job job in
    let T = tabled c.args.sides.now in
    let U = tabled (record { ins = c.in_ok-ins.ins; outs = c.in_ok-outs.outs }) in
    let V = tabled c.in_ok-demanded.demanded in
    changes _ d fin job.marks.now s job.covers.now c.requires.job.laws T V c.args.round c.requires.made.made c.requires.made.round_is c.requires.made.are.table c.in_ok-demanded.ensures.table
    (ap (list_all (still_at d T V)) (sym c.requires.list) ∙ sym c.is_still.ensures ∙ c.if-is_still.false) U
    (next_is _ d fin job.marks.now s job.covers.now T U V c.args.round c.in_ok-demanded.ensures.table c.in_ok-ins.ensures.raised c.in_ok-outs.ensures.raised)
