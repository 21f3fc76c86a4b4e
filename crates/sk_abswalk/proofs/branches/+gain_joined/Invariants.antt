use Rattle.std.proofs.Common.{length}
use Rattle.sk_abswalk.proofs.branches.+gain_joined.Given as goal

abbrev pub decreases-gain_joined : goal.decreases-gain_joined
decreases-gain_joined g l = length l.exports.now
