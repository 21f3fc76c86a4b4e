use Rattle.std.proofs.Common.{◌++◌, ◌∷◌, [], ◌∙◌, ap}
use Rattle.sk_base.proofs.Drops.{zip_turn}
use Rattle.sk_lattice.specs.Merge.{way_of, cell_merge}
use Rattle.sk_lattice.proofs.cell.merge_cells.Goals as goal

pub loop-at-preserved : goal.loop-at-preserved
loop-at-preserved g c =
    zip_turn (cell_merge g.D.NumDom.domain (way_of c.args.merge)) c.args.cells.now c.args.others.now c.loop-at.merged c.push.new.self c.loop-at.at _ _ c.get.ensures c.get-in-loop-at.ensures
    (c.in_ok-push.ensures.ok ∙ ap (λ x. c.loop-at.merged ++ x ∷ []) c.merge.ensures) c.loop-at.invariant
