use Rattle.std.proofs.Common.{◌≡◌, take}
use Rattle.sk_abswalk.proofs.env.AbsEnv.copy.Given as goal

abbrev pub invariant-loop-entry : goal.invariant-loop-entry
invariant-loop-entry g l = l.entries ≡ take l.entry-index l.self
