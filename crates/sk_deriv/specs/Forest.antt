-- Forests: nodes in a list, children before parents; which derivation a node stands for.
use Rattle.std.specs.Prelude.{ℕ, ◌≡◌, ◌<◌, Some, List, [], ◌∷◌, ◌++◌, length, All, slice_get, slice_index_or}
use Rattle.sk_deriv.specs.declared.forest.Step.{Step}
use Rattle.sk_deriv.specs.declared.forest.Node.{Node}
use Rattle.sk_deriv.specs.Tree.{Derivation, derivation, Steps, done, pick, sub}

-- a step whose subtree, if it names one, stands below this place
abbrev pub IsBelow : ℕ → Step → Type 0
IsBelow place (Step.Pick k) = Unit {0}
IsBelow place (Step.Sub child) = child < place

abbrev pub ChildrenFirst : List Node → Type 0
ChildrenFirst nodes = (k : ℕ) (d : Node) → k < length nodes → All (IsBelow k) (slice_index_or nodes k d).steps

-- what stands where there is no node
abbrev pub nothing : Derivation
nothing = derivation (record { 0 = 0 }) 0 [] done []

-- the steps of a node, and its derivation, where these derivations stand for the places of its subtrees
abbrev pub steps_with : (ℕ → Derivation) → List Step → Steps
steps_with tree [] = done
steps_with tree (Step.Pick k ∷ rest) = pick k (steps_with tree rest)
steps_with tree (Step.Sub child ∷ rest) = sub (tree child) (steps_with tree rest)

abbrev pub derivation_with : (ℕ → Derivation) → Node → Derivation
derivation_with tree node = derivation node.hook node.point node.ins (steps_with tree node.steps) node.outs

-- the derivation at a place of a list
abbrev pub derivation_at : List Derivation → ℕ → Derivation
derivation_at ts k = slice_index_or ts k nothing

-- these derivations, and then those that further nodes stand for
abbrev pub derivations_onto : List Derivation → List Node → List Derivation
derivations_onto ts [] = ts
derivations_onto ts (node ∷ nodes) = derivations_onto (ts ++ derivation_with (derivation_at ts) node ∷ []) nodes

-- the derivation that a node of a forest stands for
abbrev pub tree_at : List Node → ℕ → Derivation
tree_at nodes k = derivation_at (derivations_onto [] nodes) k

-- the law of forests: a node stands for the derivation of its steps, with what its subtrees' nodes stand for
abbrev pub NodesAreTrees : Type 0
NodesAreTrees = (nodes : List Node) (k : ℕ) (node : Node) → ChildrenFirst nodes → slice_get nodes k ≡ Some node → tree_at nodes k ≡ derivation_with (tree_at nodes) node

-- the law of growth: what the nodes of a forest stand for stays as more are added
abbrev pub TreesStay : Type 0
TreesStay = (nodes more : List Node) (k : ℕ) → k < length nodes → tree_at (nodes ++ more) k ≡ tree_at nodes k
