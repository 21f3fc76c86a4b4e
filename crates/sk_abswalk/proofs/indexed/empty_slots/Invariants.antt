use Rattle.std.proofs.Common.{◌≡◌, [], map, replicate}
use Rattle.sk_abswalk.proofs.indexed.empty_slots.Given as goal

abbrev pub invariant-loop-slot : goal.invariant-loop-slot
invariant-loop-slot g l = map (λ slot. map (λ triple. triple.now) slot.items) l.slots.items ≡ replicate l._slot []
