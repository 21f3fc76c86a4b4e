-- As many lie below the low end as come first.
use Rattle.std.proofs.Common.{arith}
use Rattle.std.specs.Prelude.{int_lt}
use Rattle.sk_interval.proofs.Searches.{counted}
use Rattle.sk_interval.proofs.marks.marks_below.Goals as goal

pub returns-clause-value : goal.returns-clause-value
returns-clause-value c =
    let e = counted (λ m. int_lt m c.args.a.low) c.args.marks.now c.count_below.result c.count_below.ensures.bound c.count_below.ensures.first in
    omega (arith, e)
