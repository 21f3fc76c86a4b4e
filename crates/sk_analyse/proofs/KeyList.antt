-- The list of all keys: turns of the loops over points and hooks, and where keys lie.
use Rattle.std.proofs.Common.{◌≡◌, ℕ, zero, suc, ◌+◌, ◌<◌, ◌≤◌, true, false, List, [], ◌∷◌, ◌++◌, length, drop, get_or, map, Some, refl, ap, sym, ◌∙◌, append_assoc, subst, arith}
use Rattle.std.specs.List.{AllByRecursion, slice_get, filter, enumerate_from}
use Rattle.std.proofs.lemmas.Bool.{cond_both}
use Rattle.std.proofs.lemmas.List.Elements.{All-from_recursion}
use Rattle.sk_def.specs.declared.def.Def.{Def}
use Rattle.sk_def.specs.declared.def.Hook.{Hook}
use Rattle.sk_term.specs.declared.node.TermNode.{TermNode}
use Rattle.sk_term.specs.Terms.{keys, keys_at, takes_node}
use Rattle.sk_term.proofs.Keys.{later, taken, passed, keys_from, node_first}
use Rattle.sk_rounds.proofs.Lists.{all_append}
use Rattle.sk_abswalk.specs.Reading.{Key}

pub there : {A : Type 0} (xs : List A) (k : ℕ) → k < length xs → (x : A) × (slice_get xs k ≡ Some x)
there [] k h = absurd (omega (arith, h))
there (x ∷ xs) zero h = (x, refl)
there (x ∷ xs) (suc k) h = there xs k (omega (arith, h))

module _ (d : Def) (node : TermNode) (point : ℕ) (hooks : List Hook) (place : ℕ) (h : Hook) (l : place < length hooks) (is : h ≡ get_or hooks place h) where
  pub push_turn : takes_node d node h ≡ true → (list : List Key) →
      (list ++ (record { 0 = place }, point) ∷ []) ++ later d node point hooks place h l is ≡ list ++ keys_at d node point place (drop place hooks)
  push_turn e list =
      append_assoc list ((record { 0 = place }, point) ∷ []) (later d node point hooks place h l is)
      ∙ ap (λ ks. list ++ ks) (sym (taken d node point hooks place h l is e))

  pub pass_turn : takes_node d node h ≡ false → (list : List Key) → list ++ later d node point hooks place h l is ≡ list ++ keys_at d node point place (drop place hooks)
  pass_turn e list = ap (λ ks. list ++ ks) (sym (passed d node point hooks place h l is e))

pub point_turn : (d : Def) (nodes : List TermNode) (point : ℕ) (node : TermNode) (old new : List Key) → slice_get nodes point ≡ Some node → point < length nodes → new ≡ old ++ keys_at d node point 0 d.hooks →
    new ++ keys_from d (point + 1) (drop (point + 1) nodes) ≡ old ++ keys_from d point (drop point nodes)
point_turn d nodes point node old new at l e =
    let here = keys_at d node point 0 d.hooks in
    let later = keys_from d (point + 1) (drop (point + 1) nodes) in
    ap (λ xs. xs ++ later) e ∙ append_assoc old here later ∙ ap (λ ns. old ++ keys_from d point ns) (sym (node_first nodes point node at l))

-- the keys of a program have its hooks and points
abbrev pub IsWithin : ℕ → ℕ → Key → Type 0
IsWithin hooks points k = (k.0.0 < hooks) × (k.1 < points)

hooks_within : (d : Def) (node : TermNode) (point points count place : ℕ) (hooks : List Hook) → point < points → place + length hooks ≤ count → AllByRecursion (IsWithin count points) (keys_at d node point place hooks)
hooks_within d node point points count place [] lt le = tt
hooks_within d node point points count place (h ∷ hooks) lt le =
    let rest = hooks_within d node point points count (place + 1) hooks lt (omega (arith, le)) in
    cond_both (takes_node d node h) ((place, h) ∷ filter (λ e. takes_node d node e.1) (enumerate_from (place + 1) hooks)) (filter (λ e. takes_node d node e.1) (enumerate_from (place + 1) hooks))
    (λ l. AllByRecursion (IsWithin count points) (map (λ e. (record { 0 = e.0 }, point)) l))
    (λ _. ((omega (arith, le), lt), rest)) (λ _. rest)

points_within : (d : Def) (first points : ℕ) (nodes : List TermNode) → first + length nodes ≤ points → AllByRecursion (IsWithin (length d.hooks) points) (keys_from d first nodes)
points_within d first points [] le = tt
points_within d first points (node ∷ nodes) le =
    all_append _ (keys_at d node first 0 d.hooks) (keys_from d (first + 1) nodes) (hooks_within d node first points (length d.hooks) 0 d.hooks (omega (arith, le)) (omega arith)) (points_within d (first + 1) points nodes (omega (arith, le)))

pub keys_within : (d : Def) (nodes : List TermNode) → AllByRecursion (IsWithin (length d.hooks) (length nodes)) (keys d nodes)
keys_within d nodes = points_within d 0 (length nodes) nodes (omega arith)

-- the key at a place of the list
pub key_within : (d : Def) (nodes : List TermNode) (items list : List Key) (i : ℕ) (k : Key) → items ≡ list → list ≡ keys d nodes → i < length items → IsWithin (length d.hooks) (length nodes) (get_or items i k)
key_within d nodes items list i k same e lt = All-from_recursion _ items (subst (AllByRecursion (IsWithin (length d.hooks) (length nodes))) (sym (same ∙ e)) (keys_within d nodes)) i k lt
