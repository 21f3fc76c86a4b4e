use Rattle.std.proofs.Common.{length}
use Rattle.sk_abswalk.proofs.env.+gain_from.Given as goal

abbrev pub decreases-gain_from : goal.decreases-gain_from
decreases-gain_from g l = length l.variables.now
