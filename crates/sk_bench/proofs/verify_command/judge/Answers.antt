use Rattle.std.proofs.Common.{Ok, ap, length, refl, rules}
use Rattle.sk_bench.specs.Commands.{trial}
use Rattle.sk_bench.specs.JobText.{seen}
use Rattle.sk_bench.proofs.Judged.{judged, table_fits}
use Rattle.sk_bench.proofs.verify_command.judge.Goals as goal

pub verify-requires-clause-table : goal.verify-requires-clause-table
verify-requires-clause-table g c =
    table_fits c.args.checked.now c.args.job.now.arena (length c.args.job.now.names) c.args.table.now c.read_tables_fit.ensures c.requires.program c.requires.over
    c.requires.triples

pub returns : goal.returns
returns g c =
    judged g.D.NumDom.domain (trial c.args.checked.now (seen c.args.job.now) c.args.covers.now c.args.table.now) g.D.NumDom.texts
    c.args.job.now.arena c.in_ok-verdict.verdict _ _ refl c.requires.over c.verdicts_are_right.ensures c.in_ok-verdict.ensures.verdict
    (λ e. c.in_ok-verdict.ensures.sound (ap Ok e)) c.verdict_ending.ensures (search rules)
