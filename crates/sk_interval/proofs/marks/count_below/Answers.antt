-- The marks rise, so those below the number come first.
use Rattle.std.proofs.Common.{rules, of_calls}
use Rattle.std.specs.Prelude.{int_lt}
use Rattle.std.proofs.lemmas.Fn.{always_returns_same}
use Rattle.sk_interval.proofs.Searches.{below_first}
use Rattle.sk_interval.proofs.marks.count_below.Goals as goal

pub returns-clause-first : goal.returns-clause-first
returns-clause-first c =
    let n = c.args.number.now in
    rw (← c.as_slice.ensures)
    (c.partition_point.ensures.partitioned (λ m. int_lt m n) (always_returns_same _ _ _ (λ a r f k. search (rules, of_calls))) (rw c.as_slice.ensures (below_first _ c.increase.ensures n)))
