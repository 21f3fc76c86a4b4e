use Rattle.std.proofs.Common.{◌≡◌}
use Rattle.sk_value.specs.Numbers.{numbers_from}
use Rattle.sk_filter.proofs.Arithmetic.{plain}
use Rattle.sk_filter.proofs.arith.span.Given as goal

abbrev pub invariant-loop-above : goal.invariant-loop-above
invariant-loop-above l = l.results ≡ plain (numbers_from l.first l.above)
