-- What the results of a call are sought in, and the forest that they come with.
use Rattle.std.specs.Prelude.{ℕ, ◌<◌, ◌≤◌, List, length}
use Rattle.sk_deriv.specs.declared.forest.Node.{Node}
use Rattle.sk_deriv.specs.Forest.{tree_at}
use Rattle.sk_deriv.specs.Tree.{height}
use Rattle.sk_deriv.specs.Moves.{Setting, IsValid}
use Rattle.sk_deriv.specs.declared.call.Call.{Call}
use Rattle.sk_deriv.specs.Results.{Outcome, Results}

-- every node of the forest is the root of a valid derivation of height at most n
abbrev pub NodesDerive : Setting → ℕ → List Node → Type 0
NodesDerive s n nodes = (k : ℕ) → k < length nodes → IsValid s (tree_at nodes k) × (height (tree_at nodes k) ≤ n)

-- the law of results: each call has a list of results to each depth
abbrev pub EachCallHasResults : Type 0
EachCallHasResults = (s : Setting) (c : Call) (n : ℕ) → (xs : List Outcome) × Results s c n xs
