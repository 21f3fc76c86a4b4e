-- The results of a call: each outputs once, with its derivation of least word.
use Rattle.std.specs.Prelude.{ℕ, ◌≤◌, ◌≡◌, ◌≢◌, List, [], ◌++◌, map, All, AllPairs, Contains}
use Rattle.sk_deriv.specs.declared.call.Call.{Call}
use Rattle.sk_filter.specs.Arguments.{Values}
use Rattle.sk_deriv.specs.Tree.{Derivation, hook_of, point_of, ins_of, outs_of, height, word, IsBefore}
use Rattle.sk_deriv.specs.Moves.{Setting, IsValid}

-- a valid derivation of a call
pub record Derives (s : Setting) (c : Call) (t : Derivation) : Type 0 where
  pub valid : IsValid s t
  pub same_hook : hook_of t ≡ c.hook
  pub same_point : point_of t ≡ c.point
  pub same_ins : ins_of t ≡ c.ins

-- one whose height is at most n
pub record DerivesWithin (s : Setting) (c : Call) (n : ℕ) (t : Derivation) : Type 0 where
  pub derives : Derives s c t
  pub low : height t ≤ n

-- outputs with a derivation
abbrev pub Outcome : Type 0
Outcome = Values × Derivation

-- the list of results of a call to depth n
pub record Results (s : Setting) (c : Call) (n : ℕ) (xs : List Outcome) : Type 0 where
  pub derived : All (λ x. DerivesWithin s c n x.1 × (outs_of x.1 ≡ x.0)) xs
  pub found : (t : Derivation) → DerivesWithin s c n t → Contains (map (λ x. x.0) xs) (outs_of t)
  pub once : AllPairs (λ x y. x.0 ≢ y.0) xs
  pub least : (t : Derivation) → DerivesWithin s c n t → All (λ x. outs_of t ≡ x.0 → IsBefore (word t) (word x.1) → ⊥) xs
  pub increasing : AllPairs (λ x y. IsBefore (word x.1) (word y.1)) xs

-- the law of words: of two derivations of one call, none has a word that is a proper prefix of the other's, and equal words mean equal derivations
abbrev pub WordsDecode : Type 0
WordsDecode =
    (s : Setting) (c : Call) (t u : Derivation) → Derives s c t → Derives s c u →
    ((rest : List ℕ) → word t ++ rest ≡ word u → rest ≡ []) × (word t ≡ word u → t ≡ u)

-- the law of results: a call has one list of results
abbrev pub ResultsAreOne : Type 0
ResultsAreOne = (s : Setting) (c : Call) (n : ℕ) (xs ys : List Outcome) → Results s c n xs → Results s c n ys → xs ≡ ys
