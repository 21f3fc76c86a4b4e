-- The text of results, one by one.
use Rattle.std.proofs.Common.{◌≡◌, ℕ, ◌+◌, ◌<◌, List, ◌++◌, length, map, get_or, drop, add-one, sym, ap, ◌∙◌}
use Rattle.std.proofs.lemmas.List.{drop_more}
use Rattle.sk_def.specs.declared.def.Def.{Def}
use Rattle.sk_deriv.specs.declared.forest.Node.{Node}
use Rattle.sk_deriv.specs.Forest.{tree_at}
use Rattle.sk_deriv.specs.Listing.{outcomes}
use Rattle.sk_deriv.specs.Tree.{outs_of}
use Rattle.sk_bench.specs.Outcomes.{outcome_lines, outcomes_lines}

module _ (d : Def) (names : List (List ℕ)) (nodes : List Node) where
  -- the lines of the results at these roots, the first of which has this number
  abbrev pub lines_at : ℕ → List ℕ → List ℕ
  lines_at number roots = outcomes_lines d names number (outcomes (map (tree_at nodes) roots))

  -- the lines of one, and then those of the others
  pub lines_next : (roots : List ℕ) (at default : ℕ) → at < length roots
      → lines_at (at + 1) (drop at roots)
      ≡ outcome_lines d names (at + 1) (outs_of (tree_at nodes (get_or roots at default)), tree_at nodes (get_or roots at default)) ++ lines_at (at + 1 + 1) (drop (at + 1) roots)
  lines_next roots at default l =
      ap (lines_at (at + 1)) (drop_more roots at default l)
      ∙ ap (λ number. outcome_lines d names (at + 1) (outs_of (tree_at nodes (get_or roots at default)), tree_at nodes (get_or roots at default)) ++ lines_at number (drop (at + 1) roots)) (sym (add-one (at + 1)))
