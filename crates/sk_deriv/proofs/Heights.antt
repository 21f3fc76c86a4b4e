-- Heights of the derivations of a forest.
use Rattle.std.proofs.Common.{◌≡◌, ℕ, zero, suc, ◌+◌, ◌<◌, ◌≤◌, max, List, [], ◌∷◌, length, get_or, drop, drop-cons, add-one, Option, Some, None, refl, ap, sym, ◌∙◌, subst, arith}
use Rattle.std.specs.List.{All, slice_get}
use Rattle.std.proofs.lemmas.List.{drop_all}
use Rattle.std.proofs.lemmas.List.Elements.{All-head, All-tail}
use Rattle.sk_deriv.specs.declared.forest.Step.{Step}
use Rattle.sk_deriv.specs.declared.forest.Node.{Node}
use Rattle.sk_deriv.specs.Tree.{height, greatest_height}
use Rattle.sk_deriv.specs.Forest.{IsBelow, ChildrenFirst, steps_with, tree_at}
use Rattle.sk_deriv.proofs.ForestLemmas.{nodes_are_trees, children_below, below_length}

-- the greatest height of the subtrees that steps name
abbrev pub greatest_of : List Node → List Step → ℕ
greatest_of nodes steps = greatest_height (steps_with (tree_at nodes) steps)

greatest_low : (nodes : List Node) (k : ℕ) (steps : List Step) → All (IsBelow k) steps → ((c : ℕ) → c < k → height (tree_at nodes c) ≤ suc c) → greatest_of nodes steps ≤ k
greatest_low nodes k [] h ih = omega arith
greatest_low nodes k (Step.Pick p ∷ rest) h ih = greatest_low nodes k rest (All-tail (IsBelow k) (Step.Pick p) rest h) ih
greatest_low nodes k (Step.Sub c ∷ rest) h ih =
    let below : c < k = All-head (IsBelow k) (Step.Sub c) rest h in
    omega (arith, ih c below, greatest_low nodes k rest (All-tail (IsBelow k) (Step.Sub c) rest h) ih)

no_node : (nodes : List Node) (k : ℕ) → slice_get nodes k ≡ None → length nodes ≤ k
no_node [] k e = omega arith
no_node (n ∷ nodes) zero e = absurd (cc)
no_node (n ∷ nodes) (suc k) e = omega (arith, no_node nodes k e)

pub height_is : (nodes : List Node) (k : ℕ) (node : Node) → ChildrenFirst nodes → slice_get nodes k ≡ Some node → height (tree_at nodes k) ≡ suc (greatest_of nodes node.steps)
height_is nodes k node first e = ap height (nodes_are_trees nodes k node first e) ∙ (omega arith)

module _ (nodes : List Node) (first : ChildrenFirst nodes) where
  low_at : (k : ℕ) (o : Option Node) → slice_get nodes k ≡ o → k < length nodes → ((c : ℕ) → c < k → height (tree_at nodes c) ≤ suc c) → height (tree_at nodes k) ≤ suc k
  low_at k None e l ih = absurd (omega (arith, no_node nodes k e))
  low_at k (Some node) e l ih = omega (arith, height_is nodes k node first e, greatest_low nodes k node.steps (children_below nodes k node first e) ih)

  low_below : (bound k : ℕ) → k < bound → k < length nodes → height (tree_at nodes k) ≤ suc k
  low_below zero k h l = absurd (omega arith)
  low_below (suc bound) k h l = low_at k (slice_get nodes k) refl l (λ c g. low_below bound c (omega arith) (omega arith))

  -- a derivation is at most as high as its node's number among the nodes
  pub height_low : (k : ℕ) → k < length nodes → height (tree_at nodes k) ≤ suc k
  height_low k l = low_below (suc k) k (omega arith) l

  pub greatest_within : (k : ℕ) (node : Node) → slice_get nodes k ≡ Some node → greatest_of nodes node.steps ≤ k
  greatest_within k node e = greatest_low nodes k node.steps (children_below nodes k node first e) (λ c g. height_low c (omega (arith, below_length nodes k node e)))

-- one more step was looked at
pub next_pick : (nodes : List Node) (greatest whole : ℕ) (steps : List Step) (at : ℕ) (step : Step) (k : ℕ) → at < length steps → step ≡ get_or steps at step → step ≡ Step.Pick k
    → max greatest (greatest_of nodes (drop at steps)) ≡ whole → max greatest (greatest_of nodes (drop (at + 1) steps)) ≡ whole
next_pick nodes greatest whole steps at step k l is pick so_far =
    let e : drop at steps ≡ Step.Pick k ∷ drop (at + 1) steps = drop-cons steps at step l ∙ ap (λ s. s ∷ drop (suc at) steps) (sym is ∙ pick) ∙ ap (λ n. Step.Pick k ∷ drop n steps) (sym (add-one at)) in
    ap (λ ss. max greatest (greatest_of nodes ss)) (sym e) ∙ so_far

pub next_sub : (nodes : List Node) (greatest whole : ℕ) (steps : List Step) (at : ℕ) (step : Step) (child new : ℕ) → at < length steps → step ≡ get_or steps at step → step ≡ Step.Sub child
    → new ≡ max greatest (height (tree_at nodes child)) → max greatest (greatest_of nodes (drop at steps)) ≡ whole → max new (greatest_of nodes (drop (at + 1) steps)) ≡ whole
next_sub nodes greatest whole steps at step child new l is sub grown so_far =
    let e : drop at steps ≡ Step.Sub child ∷ drop (at + 1) steps = drop-cons steps at step l ∙ ap (λ s. s ∷ drop (suc at) steps) (sym is ∙ sub) ∙ ap (λ n. Step.Sub child ∷ drop n steps) (sym (add-one at)) in
    let whole_is : max greatest (max (height (tree_at nodes child)) (greatest_of nodes (drop (at + 1) steps))) ≡ whole = ap (λ ss. max greatest (greatest_of nodes ss)) (sym e) ∙ so_far in
    omega arith

-- a subtree that a step names stands below
pub sub_below : (k : ℕ) (steps : List Step) (at : ℕ) (step : Step) (child : ℕ) → All (IsBelow k) steps → at < length steps → step ≡ get_or steps at step → step ≡ Step.Sub child → child < k
sub_below k [] at step child h l is sub = absurd (omega arith)
sub_below k (s ∷ steps) zero step child h l is sub = subst (IsBelow k) (sym is ∙ sub) (All-head (IsBelow k) s steps h)
sub_below k (s ∷ steps) (suc at) step child h l is sub = sub_below k steps at step child (All-tail (IsBelow k) s steps h) (omega arith) is sub

-- all steps were looked at
pub greatest_all : (nodes : List Node) (greatest : ℕ) (steps : List Step) (at : ℕ) (node : Node) → steps ≡ node.steps → length steps ≤ at → max greatest (greatest_of nodes (drop at steps)) ≡ greatest_of nodes steps
    → greatest ≡ greatest_of nodes node.steps
greatest_all nodes greatest steps at node is l so_far =
    let none : greatest_of nodes (drop at steps) ≡ 0 = ap (greatest_of nodes) (drop_all at steps l) in
    let all : greatest_of nodes steps ≡ greatest_of nodes node.steps = ap (greatest_of nodes) is in
    omega arith
