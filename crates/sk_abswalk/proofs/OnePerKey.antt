-- A program has no key twice, and so a table's triples are of different keys.
use Rattle.std.proofs.Common.{◌≡◌, ℕ, suc, ◌+◌, ◌≤◌, Bool, false, ◌||◌, List, [], ◌∷◌, ◌++◌, map, flat_map, Some, None, refl, sym, ◌∙◌, ap, subst, inl, inr, arith}
use Rattle.std.specs.List.{AllByRecursion, list_any, enumerate_from, filter}
use Rattle.std.proofs.lemmas.Bool.{cases_Bool, cond-true, cond-false, false_from_ne_true}
use Rattle.sk_def.specs.declared.def.Hook.{Hook}
use Rattle.sk_def.specs.declared.def.Def.{Def}
use Rattle.sk_term.specs.declared.node.TermNode.{TermNode}
use Rattle.sk_term.specs.Terms.{keys, takes_node}
use Rattle.sk_deriv.specs.Moves.{Setting}
use Rattle.sk_lattice.specs.Domain.{Domain}
use Rattle.sk_absfilter.specs.Abstract.{Outcome}
use Rattle.sk_table.specs.declared.triple.Cover.{Cover}
use Rattle.sk_rounds.specs.Walks.{Inputs, Outputs, Table}
use Rattle.sk_rounds.specs.Accepted.{row_at}
use Rattle.sk_rounds.proofs.Lists.{all_append, all_more}
use Rattle.sk_abswalk.specs.Walk.{Flows}
use Rattle.sk_abswalk.specs.Reading.{Key, same_key, triple_of, triples_of, walks_of}
use Rattle.sk_abswalk.specs.LeastTable.{key_of_triple, HasOnePerKey}
use Rattle.sk_abswalk.proofs.Keys.{same_key_only}

-- no key stands twice in the list
abbrev Distinct : List Key → Type 0
Distinct [] = Unit {0}
Distinct (k ∷ ks) = AllByRecursion (λ j. same_key j k ≡ false) ks × Distinct ks

distinct_append : (xs ys : List Key) → Distinct xs → Distinct ys → AllByRecursion (λ x. AllByRecursion (λ y. same_key y x ≡ false) ys) xs → Distinct (xs ++ ys)
distinct_append [] ys h k apart = k
distinct_append (x ∷ xs) ys h k apart = (all_append _ xs ys h.0 apart.0, distinct_append xs ys h.1 k apart.1)

other_hook : (j k : Key) → suc k.0.0 ≤ j.0.0 → same_key j k ≡ false
other_hook j k lt = false_from_ne_true (same_key j k) (λ e. absurd (omega (arith, lt, ap (λ (i : Key). i.0.0) (same_key_only j k e))))

other_point : (j k : Key) → suc k.1 ≤ j.1 → same_key j k ≡ false
other_point j k lt = false_from_ne_true (same_key j k) (λ e. absurd (omega (arith, lt, ap (λ (i : Key). i.1) (same_key_only j k e))))

module _ (d : Def) where
  -- the keys of a point, with the hooks from a number on
  keys_at : ℕ → TermNode → ℕ → List Hook → List Key
  keys_at point node n hooks = map (λ (h : ℕ × Hook). (record { 0 = h.0 }, point)) (filter (λ h. takes_node d node h.1) (enumerate_from n hooks))

  -- the first hook's key, and those of the others
  keys_by : (P : List Key → Type 0) (point : ℕ) (node : TermNode) (n : ℕ) (hook : Hook) (hooks : List Hook) → P ((record { 0 = n }, point) ∷ keys_at point node (n + 1) hooks) → P (keys_at point node (n + 1) hooks) → P (keys_at point node n (hook ∷ hooks))
  unfolding keys_at
  keys_by P point node n hook hooks p q =
      elim (cases_Bool (takes_node d node hook)) [
        | inl e ↦ subst (λ (l : List (ℕ × Hook)). P (map (λ (h : ℕ × Hook). (record { 0 = h.0 }, point)) l)) (sym (cond-true (takes_node d node hook) ((n, hook) ∷ rest) rest e)) p
        | inr e ↦ subst (λ (l : List (ℕ × Hook)). P (map (λ (h : ℕ × Hook). (record { 0 = h.0 }, point)) l)) (sym (cond-false (takes_node d node hook) ((n, hook) ∷ rest) rest e)) q
      ]
    where
      rest : List (ℕ × Hook)
      rest = filter (λ h. takes_node d node h.1) (enumerate_from (n + 1) hooks)

  hooks_from : (point : ℕ) (node : TermNode) (n : ℕ) (hooks : List Hook) → AllByRecursion (λ k. n ≤ k.0.0) (keys_at point node n hooks)
  unfolding keys_at
  hooks_from point node n [] = tt
  hooks_from point node n (hook ∷ hooks) =
      let rest = all_more _ (λ (k : Key). n ≤ k.0.0) (λ k lt. omega (arith, lt)) (keys_at point node (n + 1) hooks) (hooks_from point node (n + 1) hooks) in
      keys_by (AllByRecursion (λ k. n ≤ k.0.0)) point node n hook hooks (omega arith, rest) rest

  at_point : (point : ℕ) (node : TermNode) (n : ℕ) (hooks : List Hook) → AllByRecursion (λ k. k.1 ≡ point) (keys_at point node n hooks)
  unfolding keys_at
  at_point point node n [] = tt
  at_point point node n (hook ∷ hooks) = let rest = at_point point node (n + 1) hooks in keys_by (AllByRecursion (λ k. k.1 ≡ point)) point node n hook hooks (refl, rest) rest

  hooks_distinct : (point : ℕ) (node : TermNode) (n : ℕ) (hooks : List Hook) → Distinct (keys_at point node n hooks)
  unfolding keys_at
  hooks_distinct point node n [] = tt
  hooks_distinct point node n (hook ∷ hooks) =
      let rest = hooks_distinct point node (n + 1) hooks in
      let later = all_more _ (λ (j : Key). same_key j (record { 0 = n }, point) ≡ false) (λ j lt. other_hook j (record { 0 = n }, point) (omega (arith, lt))) (keys_at point node (n + 1) hooks) (hooks_from point node (n + 1) hooks) in
      keys_by Distinct point node n hook hooks (later, rest) rest

  keys_from : ℕ → List TermNode → List Key
  keys_from n nodes = flat_map (λ at. keys_at at.0 at.1 0 d.hooks) (enumerate_from n nodes)

  points_from : (n : ℕ) (nodes : List TermNode) → AllByRecursion (λ k. n ≤ k.1) (keys_from n nodes)
  unfolding keys_from
  points_from n [] = tt
  points_from n (node ∷ nodes) =
      all_append _ (keys_at n node 0 d.hooks) (keys_from (n + 1) nodes)
      (all_more _ (λ (k : Key). n ≤ k.1) (λ k e. omega (arith, e)) (keys_at n node 0 d.hooks) (at_point n node 0 d.hooks))
      (all_more _ (λ (k : Key). n ≤ k.1) (λ k lt. omega (arith, lt)) (keys_from (n + 1) nodes) (points_from (n + 1) nodes))

  keys_distinct : (n : ℕ) (nodes : List TermNode) → Distinct (keys_from n nodes)
  unfolding keys_from
  keys_distinct n [] = tt
  keys_distinct n (node ∷ nodes) =
      distinct_append (keys_at n node 0 d.hooks) (keys_from (n + 1) nodes) (hooks_distinct n node 0 d.hooks) (keys_distinct (n + 1) nodes)
      (all_more _ (λ (x : Key). AllByRecursion (λ y. same_key y x ≡ false) (keys_from (n + 1) nodes))
      (λ x e. all_more _ (λ (y : Key). same_key y x ≡ false) (λ y lt. other_point y x (omega (arith, lt, e))) (keys_from (n + 1) nodes) (points_from (n + 1) nodes))
      (keys_at n node 0 d.hooks) (at_point n node 0 d.hooks))

  all_distinct : (nodes : List TermNode) → Distinct (keys d nodes)
  unfolding keys_from keys_at
  all_distinct nodes = keys_distinct 0 nodes

module _ (D : Type 0) (T : Table Key (Flows D)) where
  -- no triple of these keys is of another one
  none_of : (k : Key) (ks : List Key) → AllByRecursion (λ j. same_key j k ≡ false) ks → list_any (λ other. same_key (key_of_triple other) k) (map triple_of (flat_map (λ j. row_at j (T j Inputs) (T j Outputs)) ks)) ≡ false
  none_of k [] h = refl
  none_of k (j ∷ ks) h = at (none_of k ks h.1) (T j Inputs)
    where
      at : list_any (λ other. same_key (key_of_triple other) k) (map triple_of (flat_map (λ j. row_at j (T j Inputs) (T j Outputs)) ks)) ≡ false → (x : Outcome D) → list_any (λ other. same_key (key_of_triple other) k) (map triple_of (row_at j x (T j Outputs) ++ flat_map (λ j. row_at j (T j Inputs) (T j Outputs)) ks)) ≡ false
      at rest None = rest
      at rest (Some ins) = ap (λ b. b || list_any (λ other. same_key (key_of_triple other) k) (map triple_of (flat_map (λ j. row_at j (T j Inputs) (T j Outputs)) ks))) h.0 ∙ rest

  one_each : (ks : List Key) → Distinct ks → HasOnePerKey (map triple_of (flat_map (λ j. row_at j (T j Inputs) (T j Outputs)) ks))
  one_each [] h = tt
  one_each (k ∷ ks) h = at (one_each ks h.1) (T k Inputs)
    where
      at : HasOnePerKey (map triple_of (flat_map (λ j. row_at j (T j Inputs) (T j Outputs)) ks)) → (x : Outcome D) → HasOnePerKey (map triple_of (row_at k x (T k Outputs) ++ flat_map (λ j. row_at j (T j Inputs) (T j Outputs)) ks))
      at rest None = rest
      at rest (Some ins) = (none_of k ks h.0, rest)

  pub one_per_key : (d : Domain D) (s : Setting) (finite : Bool) (marks : _) (covers : List (Cover D)) → HasOnePerKey (triples_of (walks_of d finite marks s covers) T)
  one_per_key d s finite marks covers = one_each (keys s.def s.nodes) (all_distinct s.def s.nodes)
