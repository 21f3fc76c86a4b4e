-- Derivations, their heights and their words.
use Rattle.std.specs.Prelude.{ℕ, ◌+◌, ◌<◌, ◌≡◌, max, List, [], ◌∷◌, ◌++◌, ◌⊎◌}
use Rattle.sk_def.specs.declared.ids.HookId.{HookId}
use Rattle.sk_filter.specs.Arguments.{Values}

mutual
  -- a derivation is a hook at a point, with inputs, steps and outputs
  pub data Derivation : Type 0 where
    derivation : (hook : HookId) (point : ℕ) (ins : Values) (steps : Steps) (outs : Values) → Derivation

  -- steps are picks of a number and subtrees
  pub data Steps : Type 0 where
    done : Steps
    pick : ℕ → Steps → Steps
    sub : Derivation → Steps → Steps

abbrev pub hook_of : Derivation → HookId
hook_of (derivation hook point ins steps outs) = hook

abbrev pub point_of : Derivation → ℕ
point_of (derivation hook point ins steps outs) = point

abbrev pub ins_of : Derivation → Values
ins_of (derivation hook point ins steps outs) = ins

abbrev pub outs_of : Derivation → Values
outs_of (derivation hook point ins steps outs) = outs

abbrev mutual
  -- one more than the greatest height of the subtrees
  pub height : Derivation → ℕ
  height (derivation hook point ins steps outs) = 1 + greatest_height steps

  -- the greatest height of the subtrees, 0 where there is none
  pub greatest_height : Steps → ℕ
  greatest_height done = 0
  greatest_height (pick k rest) = greatest_height rest
  greatest_height (sub t rest) = max (height t) (greatest_height rest)

abbrev mutual
  -- the picks of a derivation in replay order
  pub word : Derivation → List ℕ
  word (derivation hook point ins steps outs) = word_of_steps steps

  pub word_of_steps : Steps → List ℕ
  word_of_steps done = []
  word_of_steps (pick k rest) = k ∷ word_of_steps rest
  word_of_steps (sub t rest) = word t ++ word_of_steps rest

-- the order of words, as in a dictionary
abbrev pub IsBefore : List ℕ → List ℕ → Type 0
IsBefore [] [] = ⊥
IsBefore [] (y ∷ ys) = Unit {0}
IsBefore (x ∷ xs) [] = ⊥
IsBefore (x ∷ xs) (y ∷ ys) = (x < y) ⊎ ((x ≡ y) × IsBefore xs ys)
