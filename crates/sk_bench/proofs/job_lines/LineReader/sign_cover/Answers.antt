use Rattle.std.proofs.Common.{subst, sym}
use Rattle.sk_bench.specs.JobMeets.{LinesFit}
use Rattle.sk_bench.proofs.Kept.{sign_fits}
use Rattle.sk_bench.proofs.job_lines.LineReader.sign_cover.Goals as goal

pub returns-clause-fit : goal.returns-clause-fit
returns-clause-fit c = sign_fits (subst LinesFit (sym c.self.view_is) c.requires.fit) c.in_ok-cover.ensures.grown c.in_ok-cover.ensures.cover c.in_ok-push_cover.ensures
