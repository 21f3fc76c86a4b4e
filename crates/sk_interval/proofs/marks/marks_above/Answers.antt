-- The others are at most the high end.
use Rattle.std.proofs.Common.{arith}
use Rattle.std.specs.Prelude.{int_lt, int_le}
use Rattle.sk_interval.proofs.Searches.{counted, counted_both, above_or_not}
use Rattle.sk_interval.proofs.marks.marks_above.Goals as goal

pub returns-clause-value : goal.returns-clause-value
returns-clause-value c =
    let n = c.args.a.high in
    let e = counted (λ m. int_le m n) c.args.marks.now c.count_at_most.result c.count_at_most.ensures.bound c.count_at_most.ensures.first in
    let f = counted_both (λ m. int_le m n) (λ m. int_lt n m) c.args.marks.now (above_or_not n) in
    omega (arith, e, f)
