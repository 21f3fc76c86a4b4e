use Rattle.std.proofs.Common.{drop}
use Rattle.sk_analyse.specs.Tabled.{tabled}
use Rattle.sk_analyse.specs.Jobs.{setting_of_job}
use Rattle.sk_analyse.proofs.Demanding.{Heard}
use Rattle.sk_analyse.proofs.round.demands.Given as goal

abbrev pub invariant-loop-key : goal.invariant-loop-key
invariant-loop-key g l =
    Heard _ g.D.NumDom.domain g.D.NumDom.FINITE l.job.marks.now (setting_of_job l.job) l.job.covers.now (tabled l.sides) l.heard (drop l.key-index l.list)
