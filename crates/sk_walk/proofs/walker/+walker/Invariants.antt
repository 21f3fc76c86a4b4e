use Rattle.std.proofs.Common.{length, ◌+◌, ◌*◌}
use Rattle.sk_walk.proofs.Branches.{SoFar}
use Rattle.sk_walk.proofs.walker.+walker.Given as goal

abbrev pub decreases-walk_bones : goal.decreases-walk_bones
decreases-walk_bones g l = 3 * length l.bones.now

abbrev pub decreases-walk_bone : goal.decreases-walk_bone
decreases-walk_bone g l = 3 * length l.rest.now + 2

abbrev pub decreases-walk_branches : goal.decreases-walk_branches
decreases-walk_branches g l = 3 * length l.bones.now + 1

abbrev pub invariant-walk_branches-loop-place : goal.invariant-walk_branches-loop-place
invariant-walk_branches-loop-place g l =
    SoFar g.I.Interp.meaning g.I.Interp.reading g.I.Interp.sorts
    l.bone l.counts l.bones l.before l.fn.interp l.place l.first l.left l.ends.items l.interp
