use Rattle.std.proofs.Common.{◌-◌, length}
use Rattle.sk_deriv.specs.Moves.{setting_of}
use Rattle.sk_concrete.proofs.Turned.{Turned, asked}
use Rattle.sk_concrete.proofs.derive.+derive.Given as goal

abbrev pub decreases-derive : goal.decreases-derive
decreases-derive l = l.depth

abbrev pub invariant-loop-worlds : goal.invariant-loop-worlds
invariant-loop-worlds l = Turned (setting_of l.checked l.arena) (l.depth - 1) l.call l.rule l.initial.forest l.forest l.handed.items

abbrev pub decreases-loop-worlds : goal.decreases-loop-worlds
decreases-loop-worlds l = length (asked (setting_of l.checked l.arena) (l.depth - 1) l.call l.rule) - length l.handed.items
