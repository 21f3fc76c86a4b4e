use Rattle.std.proofs.Common.{◌≡◌, ◌++◌, drop}
use Rattle.sk_concrete.specs.Worlds.{picked}
use Rattle.sk_concrete.proofs.filters.push_picked.Given as goal

abbrev pub invariant-loop-pick : goal.invariant-loop-pick
invariant-loop-pick l = l.list ++ picked l.outs l.world l.pick (drop l.pick l.results) ≡ l.fn.list ++ picked l.outs l.world 0 l.results
