use Rattle.sk_lattice.proofs.SortLemmas.{shape_laws}
use Rattle.sk_abswalk.proofs.OwnOutputs.{ill_never, uncovered_never}
use Rattle.sk_abswalk.proofs.collect_walk.walk_by_key.Goals as goal

pub unreachable-requires : goal.unreachable-requires
unreachable-requires g c =
    ill_never _ g.D.NumDom.domain (shape_laws _ g.D.NumDom.domain) c.args.checked.now c.args.arena.now c.def-def.ensures.sorted.well_sorted c.requires.program (g.T.KeyOutputs.by_key c.args.outputs.now) c.requires.outputs _ c.requires.call
    c.in-Err-Ill.field-0 c.in-Err-Ill.field-0-is (rw c.in-Err-Ill.is at c.collect_call.ensures)

pub unreachable-requires-in-Err-Uncovered : goal.unreachable-requires-in-Err-Uncovered
unreachable-requires-in-Err-Uncovered g c =
    uncovered_never _ g.D.NumDom.domain (shape_laws _ g.D.NumDom.domain) c.args.checked.now c.args.arena.now c.def-def.ensures.sorted.well_sorted c.requires.program (g.T.KeyOutputs.by_key c.args.outputs.now) c.requires.outputs _ c.requires.call
    c.in-Err-Uncovered.field-0 _ _ _ c.in-Err-Uncovered.field-0-is (rw c.in-Err-Uncovered.is at c.collect_call.ensures)
