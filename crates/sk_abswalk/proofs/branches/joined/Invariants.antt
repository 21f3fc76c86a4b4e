use Rattle.std.proofs.Common.{◌≡◌, drop, map, None, ◌∷◌, []}
use Rattle.sk_abswalk.specs.Walk.{join_exports}
use Rattle.sk_abswalk.specs.Branches.{env_of}
use Rattle.sk_abswalk.proofs.branches.joined.Given as goal

abbrev pub invariant-loop-end : goal.invariant-loop-end
invariant-loop-end g l =
    join_exports g.D.NumDom.domain (l.variable ∷ []) l.joined (map env_of (drop l.end-index l.ends)) ≡ join_exports g.D.NumDom.domain (l.variable ∷ []) None (map env_of l.ends)
