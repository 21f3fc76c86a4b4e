use Rattle.std.proofs.Common.{arith}
use Rattle.sk_lattice.proofs.PaddingLemmas.{one_more}
use Rattle.sk_lattice.proofs.cell.pad_cells.Goals as goal

pub loop-name-preserved : goal.loop-name-preserved
loop-name-preserved g c = record {
  gained = one_more _ _ _ _ _ _ _ c.loop-name.invariant.begun c.loop-name.invariant.gained c.in_ok-push.ensures.ok c.unset.ensures;
  begun = omega (arith, c.loop-name.invariant.begun);
  at_most = omega (arith, c.loop-name-test.true);
}
