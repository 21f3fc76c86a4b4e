use Rattle.sk_lattice.proofs.SortLemmas.{shape_laws}
use Rattle.sk_abswalk.proofs.RulesFit.{never_ill}
use Rattle.sk_abswalk.proofs.walk.walk_indexed.Goals as goal

pub unreachable-requires : goal.unreachable-requires
unreachable-requires g c =
    never_ill _ g.D.NumDom.domain (shape_laws _ g.D.NumDom.domain) c.args.checked.now c.args.arena.now c.def-def.ensures.sorted.well_sorted c.requires.program c.args.table.now c.requires.table _ c.requires.call
    c.in-Err-Ill.field-0 c.in-Err-Ill.field-0-is (rw c.in-Err-Ill.is at c.walk_call.ensures)
