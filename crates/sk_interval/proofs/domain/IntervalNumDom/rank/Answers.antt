-- There are at most 2^32 marks.
use Rattle.std.proofs.Common.{arith}
use Rattle.sk_interval.proofs.domain.IntervalNumDom.rank.Goals as goal

pub overflow_mul-result : goal.overflow_mul-result
overflow_mul-result c = omega (arith, c.increase.ensures.at_most, c.len.ensures)

pub overflow_add-result : goal.overflow_add-result
overflow_add-result c = omega (arith, c.increase.ensures.at_most, c.len.ensures)
