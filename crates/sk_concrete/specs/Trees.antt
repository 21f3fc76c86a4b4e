-- Derivations as places in a forest.
use Rattle.std.specs.Prelude.{◌≡◌, true, ℕ, ◌<◌, ◌≤◌, List, [], ◌∷◌, ◌++◌, length, map, All, Contains, ◌⊎◌}
use Rattle.sk_filter.specs.Arguments.{Values}
use Rattle.sk_deriv.specs.declared.call.Call.{Call}
use Rattle.sk_deriv.specs.declared.forest.Node.{Node}
use Rattle.sk_deriv.specs.Forest.{IsBelow, steps_with, tree_at}
use Rattle.sk_deriv.specs.Tree.{Derivation, outs_of}
use Rattle.sk_deriv.specs.Moves.{Setting}
use Rattle.sk_deriv.specs.Listing.{Trail, derivations, outcomes}
use Rattle.sk_deriv.specs.Results.{Results}
use Rattle.sk_def.specs.Sorts.{outputs_of}
use Rattle.sk_concrete.specs.Found.{NodesDerive}
use Rattle.sk_concrete.specs.Fitting.{trees_fit}
use Rattle.sk_concrete.specs.declared.world.World.{World}
use Rattle.sk_concrete.specs.declared.world.Tree.{Tree}

-- one of these derivations has these outputs
abbrev pub IsAmong : List Tree → Values → Type 0
IsAmong [] outs = ⊥
IsAmong (tree ∷ trees) outs = (tree.outs ≡ outs) ⊎ IsAmong trees outs

-- the root of a call's derivation that ends in this world with these outputs
abbrev pub node_of : Call → World → Values → Node
node_of c w outs = record { hook = c.hook; point = c.point; ins = c.ins; steps = w.steps; outs = outs }

-- the subtrees that the steps name stand below this place
abbrev pub AreThere : ℕ → List World → Type 0
AreThere place [] = Unit {0}
AreThere place (w ∷ ws) = All (IsBelow place) w.steps × AreThere place ws

-- the steps of the worlds, and the environments that they lead to
abbrev pub trails_in : List Node → List World → List Trail
trails_in nodes ws = map (λ (w : World). (steps_with (tree_at nodes) w.steps, w.env)) ws

-- the places stand for these derivations in order, with their outputs
abbrev pub Stand : List Node → List Tree → List Derivation → Type 0
Stand nodes [] [] = Unit {0}
Stand nodes [] (t ∷ ts) = ⊥
Stand nodes (tree ∷ trees) [] = ⊥
Stand nodes (tree ∷ trees) (t ∷ ts) =
    ((tree.root < length nodes) × (tree_at nodes tree.root ≡ t) × (tree.outs ≡ outs_of t)) × Stand nodes trees ts

-- the forest has grown by roots of these derivations, and the places are theirs
pub record Closes (before after : List Node) (trees : List Tree) (ts : List Derivation) : Type 0 where
  pub more : List Node
  pub grown : after ≡ before ++ more
  pub stand : Stand after trees ts
  pub are_new : (k : ℕ) → length before ≤ k → k < length after → Contains ts (tree_at after k)

-- the forest has grown by derivations of height at most n, and the places are those of all derivations of the call to n,
-- whose outputs are of the sorts of the hook's
pub record Derives (s : Setting) (n : ℕ) (c : Call) (before after : List Node) (trees : List Tree) : Type 0 where
  pub more : List Node
  pub grown : after ≡ before ++ more
  pub stand : Stand after trees (derivations s n c)
  pub nodes_derive : (m : ℕ) → n ≤ m → NodesDerive s m before → NodesDerive s m after
  pub fit : trees_fit (outputs_of s.def c.hook) trees ≡ true

-- where the places stand for all derivations of a call, these are those of its results
abbrev pub KeepsFirst : List Tree → List ℕ → Type 0
KeepsFirst trees roots = (s : Setting) (n : ℕ) (c : Call) (nodes : List Node) → Stand nodes trees (derivations s n c) →
    Results s c n (outcomes (map (tree_at nodes) roots)) × All (λ root. root < length nodes) roots
