use Rattle.std.proofs.Common.{◌≡◌, length, drop}
use lib.Pointwise.{pointwise}
use Rattle.sk_lattice.specs.Order.{flows_fit}
use Rattle.sk_abswalk.proofs.answer.tuples_fit.Given as goal

abbrev pub invariant-loop-at : goal.invariant-loop-at
invariant-loop-at g l = record {
  even : length l.a ≡ length l.b;
  same : pointwise flows_fit l.a l.b ≡ pointwise flows_fit (drop l.at l.a) (drop l.at l.b);
}
