use Rattle.std.proofs.Common.{arith, refl}
use Rattle.sk_lattice.proofs.PaddingLemmas.{one_more}
use Rattle.sk_table.proofs.tuple_reader.widen.Goals as goal

pub loop-place-preserved : goal.loop-place-preserved
loop-place-preserved g c = record {
  gained = one_more _ _ _ _ _ _ _ c.loop-place.invariant.begun c.loop-place.invariant.gained c.in_ok-push.ensures.ok refl;
  begun = omega (arith, c.loop-place.invariant.begun);
  at_most = omega (arith, c.loop-place-test.true);
}
