use Rattle.std.proofs.Common.{subst, sym}
use Rattle.sk_bench.specs.JobMeets.{LinesFit}
use Rattle.sk_bench.proofs.Kept.{start_fits}
use Rattle.sk_bench.proofs.job_lines.LineReader.call.Goals as goal

pub returns-clause-fit : goal.returns-clause-fit
returns-clause-fit c = start_fits (subst LinesFit (sym c.self.view_is) c.requires.fit) c.in_ok-start.ensures.grown c.in_ok-start.ensures.start
