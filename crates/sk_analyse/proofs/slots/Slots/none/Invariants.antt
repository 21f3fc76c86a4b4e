use Rattle.std.proofs.Common.{◌≡◌, replicate, None}
use Rattle.sk_analyse.proofs.slots.Slots.none.Given as goal

abbrev pub invariant-loop-slot : goal.invariant-loop-slot
invariant-loop-slot g l = l.slots ≡ replicate l._slot None
