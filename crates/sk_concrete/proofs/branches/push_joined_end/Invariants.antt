use Rattle.std.proofs.Common.{◌≡◌, ◌++◌, drop}
use Rattle.sk_concrete.specs.Worlds.{joined_end}
use Rattle.sk_concrete.proofs.branches.push_joined_end.Given as goal

abbrev pub invariant-loop-last : goal.invariant-loop-last
invariant-loop-last l = l.list ++ joined_end l.exports l.place l.world (drop l.last-index l.end) ≡ l.fn.list ++ joined_end l.exports l.place l.world l.end
