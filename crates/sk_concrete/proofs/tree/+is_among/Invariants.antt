use Rattle.std.proofs.Common.{length}
use Rattle.sk_concrete.proofs.tree.+is_among.Given as goal

abbrev pub decreases-is_among : goal.decreases-is_among
decreases-is_among l = length l.trees.now
