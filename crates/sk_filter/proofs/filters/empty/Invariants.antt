use Rattle.std.proofs.Common.{◌≡◌, None, replicate}
use Rattle.sk_filter.proofs.filters.empty.Given as goal

abbrev pub invariant-loop-name : goal.invariant-loop-name
invariant-loop-name l = l.store ≡ replicate l._name None
