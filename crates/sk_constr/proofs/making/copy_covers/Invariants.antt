use Rattle.std.proofs.Common.{◌≡◌, take}
use Rattle.sk_constr.proofs.making.copy_covers.Given as goal

abbrev pub invariant-loop-cover : goal.invariant-loop-cover
invariant-loop-cover g l = l.copy ≡ take l.cover-index l.covers
