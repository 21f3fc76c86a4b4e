use Rattle.std.proofs.Common.{◌≡◌, ◌++◌, drop, map, None}
use Rattle.sk_solve.proofs.solving.nothing_at.Given as goal

abbrev pub invariant-loop-position : goal.invariant-loop-position
invariant-loop-position g l = l.positions ++ map (λ _. None) (drop l._position-index l.key.positions) ≡ map (λ _. None) l.key.positions
