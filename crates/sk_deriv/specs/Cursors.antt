-- Walks along the words of a forest's derivations.
use Rattle.std.specs.Prelude.{◌≡◌, ℕ, ◌+◌, List, [], ◌∷◌, ◌++◌, length, All}
use Rattle.sk_deriv.specs.declared.forest.Step.{Step}
use Rattle.sk_deriv.specs.declared.forest.Node.{Node}
use Rattle.sk_deriv.specs.declared.order.Cursor.{Cursor, End, Within'}
use Rattle.sk_deriv.specs.declared.order.Next.{Next}
use Rattle.sk_deriv.specs.declared.order.Next.TheVariants as next
use Rattle.sk_deriv.specs.Tree.{Derivation, derivation, Steps, done, pick, sub, word_of_steps}
use Rattle.sk_deriv.specs.Forest.{IsBelow, steps_with, tree_at}

-- this is what comes next in the walk
abbrev pub Comes : Cursor → Next → Type 0
Comes End next.End = Unit {0}
Comes (Within' steps place above) (next.Up up) = (steps.now ≡ []) × (above ≡ up.now)
Comes (Within' steps place above) (next.Pick k rest up) = (steps.now ≡ Step.Pick k ∷ rest.now) × (above ≡ up.now)
Comes (Within' steps place above) (next.Sub child rest up) = (steps.now ≡ Step.Sub child ∷ rest.now) × (above ≡ up.now)
Comes _ _ = ⊥

-- the subtrees that are left to walk through are there
abbrev pub IsInForest : List Node → Cursor → Type 0
IsInForest nodes End = Unit {0}
IsInForest nodes (Within' steps place above) = All (IsBelow (length nodes)) steps.now × IsInForest nodes above

-- what is left of the word
abbrev pub rest_word : List Node → Cursor → List ℕ
rest_word nodes End = []
rest_word nodes (Within' steps place above) = word_of_steps (steps_with (tree_at nodes) steps.now) ++ rest_word nodes above

abbrev mutual
  -- how long a walk through a derivation is, and through steps
  pub walk_size : Derivation → ℕ
  walk_size (derivation hook point ins steps outs) = steps_size steps

  pub steps_size : Steps → ℕ
  steps_size done = 0
  steps_size (pick k rest) = steps_size rest + 1
  steps_size (sub t rest) = walk_size t + steps_size rest + 2

-- how long the walk is that is left
abbrev pub cursor_size : List Node → Cursor → ℕ
cursor_size nodes End = 0
cursor_size nodes (Within' steps place above) = steps_size (steps_with (tree_at nodes) steps.now) + cursor_size nodes above + 1
