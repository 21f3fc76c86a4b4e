use Rattle.std.proofs.Common.{length}
use Rattle.sk_concrete.proofs.env.+gain.Given as goal

abbrev pub decreases-gain : goal.decreases-gain
decreases-gain l = length l.variables.now
