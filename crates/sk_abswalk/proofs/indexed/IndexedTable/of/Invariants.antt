use Rattle.std.proofs.Common.{map, take}
use Rattle.sk_abswalk.specs.Index.{IsIndex}
use Rattle.sk_abswalk.proofs.indexed.IndexedTable.of.Given as goal

abbrev pub invariant-loop-triple : goal.invariant-loop-triple
invariant-loop-triple g l =
    IsIndex l.hooks (map (λ slot. map (λ triple. triple.now) slot.items) l.slots.items) (take l.triple-index l.triple-items)
