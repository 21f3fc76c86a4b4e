use Rattle.std.proofs.Common.{◌∙◌, ap}
use Rattle.sk_rounds.specs.Walks.{Inputs}
use Rattle.sk_rounds.specs.Rounds.{Told, side_join, join_calls}
use Rattle.sk_abswalk.specs.Walk.{Flows}
use Rattle.sk_abswalk.specs.Reading.{Key}
use Rattle.sk_analyse.specs.Jobs.{setting_of_job, walks_of_job}
use Rattle.sk_analyse.specs.Tabled.{tabled}
use Rattle.sk_analyse.proofs.Telling.{can_hear}
use Rattle.sk_analyse.proofs.round.hear_key.Goals as goal

pub hear_all-requires : goal.hear_all-requires
hear_all-requires g c =
    let job = c.args.job.now in
    can_hear _ g.D.NumDom.domain g.D.NumDom.FINITE job.marks.now (setting_of_job job) job.covers.now c.requires.job.laws c.requires.job.few_hooks (tabled c.args.sides.now) c.requires.fits
    (c.args.hook, c.args.point) c.in_ok-told.told.calls c.in_ok-told.told.gives c.in_ok-told.ensures c.args.heard.now c.requires.slots c.requires.heard_fit

pub returns-clause-inputs : goal.returns-clause-inputs
returns-clause-inputs g c = λ k.
    let job = c.args.job.now in
    let walks = walks_of_job g.D.NumDom.domain g.D.NumDom.FINITE job in
    c.in_ok-hear_all.ensures.heard g.D.NumDom.FINITE job.marks.now (setting_of_job job) job.covers.now k
    ∙ ap (λ (t : Told Key (Flows _)). side_join walks (tabled c.args.heard.now k Inputs) (join_calls walks k t.calls)) c.in_ok-told.ensures
