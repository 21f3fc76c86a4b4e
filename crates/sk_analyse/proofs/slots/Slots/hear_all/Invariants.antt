use Rattle.std.proofs.Common.{◌≡◌, drop}
use Rattle.sk_analyse.proofs.Hearing.{Hears}
use Rattle.sk_analyse.proofs.slots.Slots.hear_all.Given as goal

abbrev pub invariant-loop-call : goal.invariant-loop-call
invariant-loop-call g l =
    (l.self.hooks ≡ l.fn.self.hooks)
    × (l.call-items ≡ l.fn.calls)
    × Hears g.D.NumDom.domain l.fn.self.hooks l.fn.self.slots l.self.slots l.fn.calls (drop l.call-index l.call-items)
