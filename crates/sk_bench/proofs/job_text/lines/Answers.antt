use Rattle.sk_bench.proofs.Kept.{keeps_self}
use Rattle.sk_bench.proofs.job_text.lines.Goals as goal

pub returns-then-at-tokens-clause-kept : goal.returns-then-at-tokens-clause-kept
returns-then-at-tokens-clause-kept c = c.read_on.ensures.kept c.args.reader.now (keeps_self c.args.reader.now)
