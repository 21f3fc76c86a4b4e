-- How a forest grows.
use Rattle.std.proofs.Common.{◌≡◌, ℕ, zero, suc, take, drop, Some, ◌+◌, ◌<◌, List, [], ◌∷◌, ◌++◌, length, get_or, inl, inr, refl, ap, ap₂, sym, subst, ◌∙◌, arith, length-append, append_assoc}
use Rattle.std.specs.List.{All, slice_get}
use Rattle.std.proofs.Math.ListN.{get_or-append}
use Rattle.std.proofs.Math.Seq.{get_or-append_seam}
use Rattle.std.proofs.lemmas.List.Elements.{All-head, All-tail}
use Rattle.std.proofs.lemmas.Bool.{cases_lt}
use Rattle.sk_deriv.specs.declared.forest.Step.{Step}
use Rattle.sk_deriv.specs.declared.forest.Node.{Node}
use Rattle.sk_deriv.specs.Tree.{Derivation, derivation, pick, sub}
use Rattle.sk_deriv.specs.Forest.{IsBelow, ChildrenFirst, NodesAreTrees, nothing, steps_with, derivation_with, derivation_at, derivations_onto, tree_at}

pub length-derivations_onto : (ts : List Derivation) (nodes : List Node) → length (derivations_onto ts nodes) ≡ length ts + length nodes
length-derivations_onto ts [] = omega arith
length-derivations_onto ts (node ∷ nodes) =
    omega (arith, length-derivations_onto (ts ++ derivation_with (derivation_at ts) node ∷ []) nodes, length-append ts (derivation_with (derivation_at ts) node ∷ []))

-- the derivations of the first nodes stay
pub get_or-derivations_onto : (ts : List Derivation) (nodes : List Node) (k : ℕ) → k < length ts → get_or (derivations_onto ts nodes) k nothing ≡ get_or ts k nothing
get_or-derivations_onto ts [] k h = refl
get_or-derivations_onto ts (node ∷ nodes) k h =
    get_or-derivations_onto (ts ++ derivation_with (derivation_at ts) node ∷ []) nodes k (omega (arith, length-append ts (derivation_with (derivation_at ts) node ∷ [])))
    ∙ get_or-append ts (derivation_with (derivation_at ts) node ∷ []) nothing k h

pub derivations_onto-append : (ts : List Derivation) (nodes more : List Node) → derivations_onto ts (nodes ++ more) ≡ derivations_onto (derivations_onto ts nodes) more
derivations_onto-append ts [] more = refl
derivations_onto-append ts (node ∷ nodes) more = derivations_onto-append (ts ++ derivation_with (derivation_at ts) node ∷ []) nodes more

pub tree_at-append : (nodes more : List Node) (k : ℕ) → k < length nodes → tree_at (nodes ++ more) k ≡ tree_at nodes k
tree_at-append nodes more k h =
    ap (λ ts. get_or ts k nothing) (derivations_onto-append [] nodes more)
    ∙ get_or-derivations_onto (derivations_onto [] nodes) more k (omega (arith, length-derivations_onto [] nodes))

pub tree_at-push : (nodes : List Node) (node : Node) → tree_at (nodes ++ node ∷ []) (length nodes) ≡ derivation_with (tree_at nodes) node
tree_at-push nodes node =
    let ts = derivations_onto [] nodes in
    let l : length ts ≡ length nodes = omega (arith, length-derivations_onto [] nodes) in
    ap (λ w. get_or w (length nodes) nothing) (derivations_onto-append [] nodes (node ∷ []))
    ∙ ap (λ k. get_or (ts ++ derivation_with (derivation_at ts) node ∷ []) k nothing) (sym l)
    ∙ get_or-append_seam ts (derivation_with (derivation_at ts) node) [] nothing

pub steps_with-append : (nodes more : List Node) (steps : List Step) → All (IsBelow (length nodes)) steps → steps_with (tree_at (nodes ++ more)) steps ≡ steps_with (tree_at nodes) steps
steps_with-append nodes more [] h = refl
steps_with-append nodes more (Step.Pick k ∷ rest) h = ap (pick k) (steps_with-append nodes more rest (All-tail (IsBelow (length nodes)) (Step.Pick k) rest h))
steps_with-append nodes more (Step.Sub child ∷ rest) h =
    ap₂ sub (tree_at-append nodes more child (All-head (IsBelow (length nodes)) (Step.Sub child) rest h)) (steps_with-append nodes more rest (All-tail (IsBelow (length nodes)) (Step.Sub child) rest h))

pub ChildrenFirst-push : (nodes : List Node) (node : Node) → ChildrenFirst nodes → All (IsBelow (length nodes)) node.steps → ChildrenFirst (nodes ++ node ∷ [])
ChildrenFirst-push nodes node h g k d l = elim (cases_lt k (length nodes)) [
  | inl a ↦ rw (get_or-append nodes (node ∷ []) d k a) (h k d a)
  | inr b ↦ (let e : length nodes ≡ k = omega (arith, length-append nodes (node ∷ [])) in
      subst (λ j. All (IsBelow j) (get_or (nodes ++ node ∷ []) j d).steps) e (rw (get_or-append_seam nodes node [] d) g))
]

steps_with-from : (nodes more : List Node) (node : Node) → All (IsBelow (length nodes)) node.steps → derivation_with (tree_at nodes) node ≡ derivation_with (tree_at (nodes ++ more)) node
steps_with-from nodes more node h = ap (λ steps. derivation node.hook node.point node.ins steps node.outs) (sym (steps_with-append nodes more node.steps h))

-- a node after the first ones stands for the derivation of its steps
tree_between : (front : List Node) (node : Node) (rest : List Node) → All (IsBelow (length front)) node.steps
    → tree_at (front ++ node ∷ rest) (length front) ≡ derivation_with (tree_at (front ++ node ∷ rest)) node
tree_between front node rest h =
    let e : (front ++ node ∷ []) ++ rest ≡ front ++ node ∷ rest = append_assoc front (node ∷ []) rest in
    ap (λ ns. tree_at ns (length front)) (sym e)
    ∙ tree_at-append (front ++ node ∷ []) rest (length front) (omega (arith, length-append front (node ∷ [])))
    ∙ tree_at-push front node
    ∙ steps_with-from front (node ∷ rest) node h

-- the nodes before a place, the node there and those after it
split_at : (nodes : List Node) (k : ℕ) (node : Node) → slice_get nodes k ≡ Some node → nodes ≡ take k nodes ++ node ∷ drop (suc k) nodes
split_at [] k node e = absurd (cc)
split_at (n ∷ nodes) zero node e = let same : n ≡ node = cc in ap (λ (m : Node). m ∷ nodes) same
split_at (n ∷ nodes) (suc k) node e = ap (λ ns. n ∷ ns) (split_at nodes k node e)

front_length : (nodes : List Node) (k : ℕ) (node : Node) → slice_get nodes k ≡ Some node → length (take k nodes) ≡ k
front_length [] k node e = absurd (cc)
front_length (n ∷ nodes) zero node e = refl
front_length (n ∷ nodes) (suc k) node e = ap suc (front_length nodes k node e)

pub below_length : (nodes : List Node) (k : ℕ) (node : Node) → slice_get nodes k ≡ Some node → k < length nodes
below_length [] k node e = absurd (cc)
below_length (n ∷ nodes) zero node e = omega arith
below_length (n ∷ nodes) (suc k) node e = omega (arith, below_length nodes k node e)

get_or_from : (nodes : List Node) (k : ℕ) (node d : Node) → slice_get nodes k ≡ Some node → get_or nodes k d ≡ node
get_or_from [] k node d e = absurd (cc)
get_or_from (n ∷ nodes) zero node d e = cc
get_or_from (n ∷ nodes) (suc k) node d e = get_or_from nodes k node d e

-- the subtrees of a node stand before it
pub children_below : (nodes : List Node) (k : ℕ) (node : Node) → ChildrenFirst nodes → slice_get nodes k ≡ Some node → All (IsBelow k) node.steps
children_below nodes k node first e = subst (λ (n : Node). All (IsBelow k) n.steps) (get_or_from nodes k node node e) (first k node (below_length nodes k node e))

pub nodes_are_trees : NodesAreTrees
nodes_are_trees nodes k node first e =
    let front = take k nodes in
    let rest = drop (suc k) nodes in
    let long : length front ≡ k = front_length nodes k node e in
    let whole : nodes ≡ front ++ node ∷ rest = split_at nodes k node e in
    let below : All (IsBelow (length front)) node.steps = subst (λ j. All (IsBelow j) node.steps) (sym long) (children_below nodes k node first e) in
    ap (λ j. tree_at nodes j) (sym long) ∙ ap (λ ns. tree_at ns (length front)) whole ∙ tree_between front node rest below ∙ ap (λ ns. derivation_with (tree_at ns) node) (sym whole)
