use Rattle.std.proofs.Common.{◌≡◌, ◌++◌, drop}
use Rattle.sk_concrete.specs.Worlds.{forked}
use Rattle.sk_concrete.proofs.branches.forked.Given as goal

abbrev pub invariant-loop-origin : goal.invariant-loop-origin
invariant-loop-origin l = l.list ++ forked l.branch l.origin (drop l.origin l.worlds) ≡ forked l.branch 0 l.worlds
