use Rattle.std.proofs.Common.{length}
use Rattle.sk_bench.proofs.CoverCalls.{lines_fit}
use Rattle.sk_bench.proofs.call_tests.solution.Goals as goal

pub generate-requires-clause-fit : goal.generate-requires-clause-fit
generate-requires-clause-fit c =
    lines_fit c.args.checked.now c.args.job.now.arena (length c.args.job.now.names) c.args.job.now.sign c.requires.program c.requires.over c.requires.calls.sign
