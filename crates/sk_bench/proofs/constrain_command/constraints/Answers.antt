use Rattle.std.proofs.Common.{length}
use Rattle.sk_bench.proofs.CoverCalls.{lines_fit}
use Rattle.sk_bench.proofs.constrain_command.constraints.Goals as goal

pub generate-requires-clause-fit : goal.generate-requires-clause-fit
generate-requires-clause-fit g c =
    lines_fit c.args.checked.now c.args.job.now.arena (length c.args.job.now.names) c.args.covers.now c.requires.program c.requires.over c.requires.calls
