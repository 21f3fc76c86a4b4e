use Rattle.std.proofs.Common.{subst, sym}
use Rattle.sk_bench.specs.JobMeets.{LinesFit}
use Rattle.sk_bench.proofs.Kept.{interval_fits}
use Rattle.sk_bench.proofs.job_lines.LineReader.interval_cover.Goals as goal

pub returns-clause-fit : goal.returns-clause-fit
returns-clause-fit c = interval_fits (subst LinesFit (sym c.self.view_is) c.requires.fit) c.in_ok-cover.ensures.grown c.in_ok-cover.ensures.cover c.in_ok-push_cover.ensures
