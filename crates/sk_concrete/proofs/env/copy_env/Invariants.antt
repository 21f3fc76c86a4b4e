use Rattle.std.proofs.Common.{◌≡◌, take}
use Rattle.sk_concrete.proofs.env.copy_env.Given as goal

abbrev pub invariant-loop-entry : goal.invariant-loop-entry
invariant-loop-entry l = l.copy ≡ take l.entry-index l.env
