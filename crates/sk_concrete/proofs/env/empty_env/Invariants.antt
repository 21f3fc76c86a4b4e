use Rattle.std.proofs.Common.{◌≡◌, replicate, None}
use Rattle.sk_concrete.proofs.env.empty_env.Given as goal

abbrev pub invariant-loop-variable : goal.invariant-loop-variable
invariant-loop-variable l = l.env ≡ replicate l._variable None
