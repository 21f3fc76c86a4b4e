use Rattle.std.proofs.Common.{ℕ, List}
use Rattle.sk_deriv.specs.declared.call.Call.{Call}
use Rattle.sk_deriv.specs.declared.forest.Node.{Node}
use Rattle.sk_deriv.specs.Moves.{Setting}
use Rattle.sk_deriv.specs.Listing.{derivations}
use Rattle.sk_concrete.specs.Trees.{Stand}
use Rattle.sk_concrete.proofs.FirstRoots.{FirstRoots}
use Rattle.sk_concrete.proofs.found.first_of_each.Given as goal

abbrev pub invariant-loop-place : goal.invariant-loop-place
invariant-loop-place l =
    (s : Setting) (n : ℕ) (c : Call) (nodes : List Node) (stand : Stand nodes l.trees (derivations s n c)) → FirstRoots nodes s n c l.trees stand l.place l.roots
