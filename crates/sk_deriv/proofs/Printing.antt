-- A derivation's text, step by step.
use Rattle.std.proofs.Common.{◌≡◌, ℕ, suc, ◌+◌, ◌<◌, List, ◌∷◌, ◌++◌, length, get_or, drop, drop-cons, add-one, Some, sym, ap, ◌∙◌}
use Rattle.std.specs.List.{slice_get}
use Rattle.sk_def.specs.declared.def.Def.{Def}
use Rattle.sk_deriv.specs.declared.forest.Step.{Step}
use Rattle.sk_deriv.specs.declared.forest.Node.{Node}
use Rattle.sk_deriv.specs.Forest.{ChildrenFirst, steps_with, tree_at}
use Rattle.sk_deriv.proofs.ForestLemmas.{nodes_are_trees}
use Rattle.sk_deriv.specs.Lines.{call_line, pick_line, derivation_lines, steps_lines}

-- the lines of the steps of a node
abbrev pub lines_of : Def → List (List ℕ) → ℕ → List Node → List Step → List ℕ
lines_of d names depth nodes steps = steps_lines d names depth (steps_with (tree_at nodes) steps)

module _ (d : Def) (names : List (List ℕ)) (depth : ℕ) (nodes : List Node) where
  -- a node's line, and then those of its steps
  pub root_lines : (node : ℕ) (root : Node) (steps : List Step) (line : List ℕ) → ChildrenFirst nodes → slice_get nodes node ≡ Some root → steps ≡ root.steps
      → line ≡ call_line d names depth root.hook root.point root.ins root.outs → derivation_lines d names depth (tree_at nodes node) ≡ line ++ lines_of d names (depth + 1) nodes steps
  root_lines node root steps line first is same line_is =
      ap (derivation_lines d names depth) (nodes_are_trees nodes node root first is)
      ∙ ap (λ ss. call_line d names depth root.hook root.point root.ins root.outs ++ lines_of d names (depth + 1) nodes ss) (sym same)
      ∙ ap (λ l. l ++ lines_of d names (depth + 1) nodes steps) (sym line_is)

  module _ (steps : List Step) (at : ℕ) (default : Step) (l : at < length steps) where
    next_step : (step : Step) → get_or steps at default ≡ step → drop at steps ≡ step ∷ drop (at + 1) steps
    next_step step is = drop-cons steps at default l ∙ ap (λ s. s ∷ drop (suc at) steps) is ∙ ap (λ n. step ∷ drop n steps) (sym (add-one at))

    pub pick_next : (k : ℕ) (line : List ℕ) → get_or steps at default ≡ Step.Pick k → line ≡ pick_line depth k → lines_of d names depth nodes (drop at steps) ≡ line ++ lines_of d names depth nodes (drop (at + 1) steps)
    pick_next k line pick line_is = ap (lines_of d names depth nodes) (next_step (Step.Pick k) pick) ∙ ap (λ ln. ln ++ lines_of d names depth nodes (drop (at + 1) steps)) (sym line_is)

    pub sub_next : (child : ℕ) → get_or steps at default ≡ Step.Sub child → lines_of d names depth nodes (drop at steps) ≡ derivation_lines d names depth (tree_at nodes child) ++ lines_of d names depth nodes (drop (at + 1) steps)
    sub_next child sub = ap (lines_of d names depth nodes) (next_step (Step.Sub child) sub)
