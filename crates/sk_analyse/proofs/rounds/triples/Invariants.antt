use Rattle.std.proofs.Common.{◌≡◌, ◌++◌, drop, map, flat_map}
use Rattle.sk_rounds.specs.Walks.{Inputs, Outputs}
use Rattle.sk_rounds.specs.Accepted.{row_at}
use Rattle.sk_abswalk.specs.Reading.{triple_of}
use Rattle.sk_analyse.specs.Tabled.{tabled}
use Rattle.sk_analyse.proofs.rounds.triples.Given as goal

abbrev pub invariant-loop-key : goal.invariant-loop-key
invariant-loop-key g l =
    l.table ++ map triple_of (flat_map (λ k. row_at k (tabled l.sides k Inputs) (tabled l.sides k Outputs)) (drop l.key-index l.list))
    ≡ map triple_of (flat_map (λ k. row_at k (tabled l.sides k Inputs) (tabled l.sides k Outputs)) l.list)
