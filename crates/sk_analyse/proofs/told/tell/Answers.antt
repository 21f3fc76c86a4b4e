use Rattle.std.proofs.Common.{sym}
use Rattle.sk_rounds.specs.Walks.{Outputs}
use Rattle.sk_abswalk.proofs.KeySides.{answers_fit}
use Rattle.sk_analyse.specs.Jobs.{setting_of_job}
use Rattle.sk_analyse.specs.Sides.{side_of}
use Rattle.sk_analyse.specs.Tabled.{tabled}
use Rattle.sk_analyse.proofs.Telling.{call_fits}
use Rattle.sk_analyse.proofs.told.tell.Goals as goal

pub walk_by_key-requires-clause-call : goal.walk_by_key-requires-clause-call
walk_by_key-requires-clause-call g c =
    let job = c.args.job.now in
    call_fits _ g.D.NumDom.domain g.D.NumDom.FINITE job.marks.now (setting_of_job job) job.covers.now (tabled c.args.sides.now) (c.args.hook, c.args.point) c.in-Some.ins.now c.requires.fits (sym c.in-Some.ensures)

pub walk_by_key-requires-clause-outputs : goal.walk_by_key-requires-clause-outputs
walk_by_key-requires-clause-outputs g c =
    let job = c.args.job.now in
    let outs = c.args.sides.now.outs in
    answers_fit _ g.D.NumDom.domain (setting_of_job job) g.D.NumDom.FINITE job.marks.now job.covers.now (side_of outs.hooks outs.slots) (λ j. c.requires.fits j Outputs)
