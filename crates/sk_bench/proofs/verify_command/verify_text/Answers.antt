use Rattle.sk_bench.specs.JobText.{seen}
use Rattle.sk_bench.proofs.Judged.{interval_prepares, sign_prepares}
use Rattle.sk_bench.proofs.verify_command.verify_text.Goals as goal

pub returns-in-Sign : goal.returns-in-Sign
returns-in-Sign c = rw c.in-Sign.is (sign_prepares c.args.checked.now (seen c.args.job.now) c.args.text.now c.verify_with.result c.verify_with.ensures)

pub returns-in-Interval : goal.returns-in-Interval
returns-in-Interval c =
    rw c.in-Interval.is
    (interval_prepares c.args.checked.now (seen c.args.job.now) c.args.text.now c.verify_with-in-Interval.result c.verify_with-in-Interval.ensures)
