use Rattle.std.proofs.Common.{◌≡◌, replicate, None}
use Rattle.sk_abswalk.proofs.env.AbsEnv.empty.Given as goal

abbrev pub invariant-loop-variable : goal.invariant-loop-variable
invariant-loop-variable g l = l.entries ≡ replicate l._variable None
