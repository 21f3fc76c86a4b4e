-- The keys of a program, and calls of them.
use Rattle.std.proofs.Common.{◌≡◌, ℕ, zero, suc, ◌+◌, Bool, true, false, ◌==◌, ◌||◌, List, [], ◌∷◌, ◌++◌, map, Option, Some, None, flat_map, refl, sym, ◌∙◌, ap, subst, arith, inl, inr}
use Rattle.std.specs.Prelude.{slice_get}
use Rattle.std.specs.List.{list_any, enumerate_from, filter}
use Rattle.std.specs.Option.{option_and_then, option_map, option_map_or}
use Rattle.std.proofs.lemmas.Bool.{and_parts, and_from, eqb-true, eq-eqb, cond-true, cond-false, cases_Bool, false≢true}
use Rattle.std.proofs.lemmas.List.Folds.{list_any-append}
use Rattle.std.proofs.lemmas.Option.{none-some, same_Some}
use Rattle.sk_def.specs.declared.ids.SortId.{SortId}
use Rattle.sk_def.specs.declared.def.Hook.{Hook}
use Rattle.sk_def.specs.declared.def.Def.{Def}
use Rattle.sk_term.specs.declared.node.TermNode.{TermNode}
use Rattle.sk_term.specs.Terms.{keys, takes_node, sort_of_node}
use Rattle.sk_term.specs.Program.{IsSortOfPoint}
use Rattle.sk_deriv.specs.Moves.{Setting}
use Rattle.sk_abswalk.specs.Reading.{Key, same_key, hook_at_node, hook_of_key}

pub same_key_refl : (k : Key) → same_key k k ≡ true
same_key_refl k = and_from (k.0.0 == k.0.0) (k.1 == k.1) (eq-eqb k.0.0 k.0.0 refl) (eq-eqb k.1 k.1 refl)

pub same_key_only : (j k : Key) → same_key j k ≡ true → j ≡ k
same_key_only j k e =
    let p = and_parts (j.0.0 == k.0.0) (j.1 == k.1) e in
    let hook = eqb-true j.0.0 k.0.0 p.0 in
    let point = eqb-true j.1 k.1 p.1 in
    λ i. (record { 0 = hook i }, point i)

-- what a test finds in one part it finds in all
pub any_left : {A : Type 0} (test : A → Bool) (xs ys : List A) → list_any test xs ≡ true → list_any test (xs ++ ys) ≡ true
any_left test xs ys e = list_any-append test xs ys ∙ ap (λ b. b || list_any test ys) e

or_right : (a b : Bool) → b ≡ true → (a || b) ≡ true
or_right true b e = refl
or_right false b e = e

pub any_right : {A : Type 0} (test : A → Bool) (xs ys : List A) → list_any test ys ≡ true → list_any test (xs ++ ys) ≡ true
any_right test xs ys e = list_any-append test xs ys ∙ or_right (list_any test xs) (list_any test ys) e

any_flat : {A B : Type 0} (test : B → Bool) (f : ℕ × A → List B) (n : ℕ) (xs : List A) (i : ℕ) (x : A) → slice_get xs i ≡ Some x → list_any test (f (n + i, x)) ≡ true → list_any test (flat_map f (enumerate_from n xs)) ≡ true
any_flat test f n [] i x e h = absurd (none-some x e)
any_flat test f n (y ∷ xs) zero x e h =
    any_left test (f (n, y)) (flat_map f (enumerate_from (n + 1) xs))
    (subst (λ z. list_any test (f (n, z)) ≡ true) (sym (same_Some y x e)) (subst (λ m. list_any test (f (m, x)) ≡ true) (omega arith) h))
any_flat test f n (y ∷ xs) (suc i) x e h =
    any_right test (f (n, y)) (flat_map f (enumerate_from (n + 1) xs)) (any_flat test f (n + 1) xs i x e (subst (λ m. list_any test (f (m, x)) ≡ true) (omega arith) h))

any_mapped : {A B : Type 0} (test : B → Bool) (f : A → B) (keep : A → Bool) (y : A) (ys : List A) → list_any test (map f (filter keep ys)) ≡ true → list_any test (map f (filter keep (y ∷ ys))) ≡ true
any_mapped test f keep y ys h =
    elim (cases_Bool (keep y)) [
      | inl e ↦ subst (λ l. list_any test (map f l) ≡ true) (sym (cond-true (keep y) (y ∷ filter keep ys) (filter keep ys) e)) (or_right (test (f y)) _ h)
      | inr n ↦ subst (λ l. list_any test (map f l) ≡ true) (sym (cond-false (keep y) (y ∷ filter keep ys) (filter keep ys) n)) h
    ]

any_here : {A B : Type 0} (test : B → Bool) (f : A → B) (keep : A → Bool) (y : A) (ys : List A) → keep y ≡ true → test (f y) ≡ true → list_any test (map f (filter keep (y ∷ ys))) ≡ true
any_here test f keep y ys e h =
    subst (λ l. list_any test (map f l) ≡ true) (sym (cond-true (keep y) (y ∷ filter keep ys) (filter keep ys) e)) (ap (λ b. b || list_any test (map f (filter keep ys))) h)

any_kept : {A B : Type 0} (test : B → Bool) (f : ℕ × A → B) (keep : ℕ × A → Bool) (n : ℕ) (xs : List A) (i : ℕ) (x : A) → slice_get xs i ≡ Some x → keep (n + i, x) ≡ true → test (f (n + i, x)) ≡ true → list_any test (map f (filter keep (enumerate_from n xs))) ≡ true
any_kept test f keep n [] i x e k h = absurd (none-some x e)
any_kept test f keep n (y ∷ xs) zero x e k h =
    let here : (n + 0, x) ≡ (n, y) = λ j. (arith_zero j, same_Some x y (sym e) j) in
    any_here test f keep (n, y) (enumerate_from (n + 1) xs) (subst (λ z. keep z ≡ true) here k) (subst (λ z. test (f z) ≡ true) here h)
  where
    arith_zero : n + 0 ≡ n
    arith_zero = omega arith
any_kept test f keep n (y ∷ xs) (suc i) x e k h =
    let there : (n + suc i, x) ≡ (n + 1 + i, x) = λ j. (arith_suc j, x) in
    any_mapped test f keep (n, y) (enumerate_from (n + 1) xs)
    (any_kept test f keep (n + 1) xs i x e (subst (λ z. keep z ≡ true) there k) (subst (λ z. test (f z) ≡ true) there h))
  where
    arith_suc : n + suc i ≡ n + 1 + i
    arith_suc = omega arith

-- a hook at a node of its sort is a key
pub key_there : (d : Def) (nodes : List TermNode) (k : Key) (node : TermNode) (hook : Hook) → slice_get nodes k.1 ≡ Some node → slice_get d.hooks k.0.0 ≡ Some hook → takes_node d node hook ≡ true → list_any (same_key k) (keys d nodes) ≡ true
key_there d nodes k node hook at declared takes =
    let hooks_at : ℕ → List Key = λ point. map (λ (h : ℕ × Hook). (record { 0 = h.0 }, point)) (filter (λ h. takes_node d node h.1) (enumerate_from 0 d.hooks)) in
    any_flat (same_key k) _ 0 nodes k.1 node at
    (subst (λ m. list_any (same_key k) (hooks_at m) ≡ true) (from_zero k.1)
    (any_kept (same_key k) (λ (h : ℕ × Hook). (record { 0 = h.0 }, k.1)) (λ h. takes_node d node h.1) 0 d.hooks k.0.0 hook declared takes
    (subst (λ m. same_key k (record { 0 = m }, k.1) ≡ true) (from_zero k.0.0) (same_key_refl k))))
  where
    from_zero : (n : ℕ) → n ≡ 0 + n
    from_zero n = omega arith

-- a key's hook
pub hook_there : (s : Setting) (k : Key) (node : TermNode) (hook : Hook) → slice_get s.nodes k.1 ≡ Some node → slice_get s.def.hooks k.0.0 ≡ Some hook → takes_node s.def node hook ≡ true → hook_of_key s k ≡ Some hook
hook_there s k node hook at declared takes =
    ap (λ o. option_and_then (λ n. hook_at_node s n (slice_get s.def.hooks k.0.0)) o) at
    ∙ ap (hook_at_node s node) declared
    ∙ cond-true (takes_node s.def node hook) (Some hook) None takes

-- what is known of a key of the program
pub record IsKey (s : Setting) (k : Key) (hook : Hook) : Type 0 where
  pub node : TermNode
  pub at : slice_get s.nodes k.1 ≡ Some node
  pub declared : slice_get s.def.hooks k.0.0 ≡ Some hook
  pub takes : takes_node s.def node hook ≡ true

pub key_is : (s : Setting) (k : Key) (hook : Hook) → hook_of_key s k ≡ Some hook → IsKey s k hook
key_is s k hook e = node_is (slice_get s.nodes k.1) refl e
  where
    taken : (node : TermNode) (h : Hook) → slice_get s.nodes k.1 ≡ Some node → slice_get s.def.hooks k.0.0 ≡ Some h → (b : Bool) → takes_node s.def node h ≡ b → (if_taken : Option Hook) → if_taken ≡ Some hook → if_taken ≡ hook_at_node s node (Some h) → IsKey s k hook
    taken node h at declared true t r e same =
        let is : h ≡ hook = same_Some h hook (sym (cond-true (takes_node s.def node h) (Some h) None t) ∙ sym same ∙ e) in
        record { node = node; at = at; declared = declared ∙ ap Some is; takes = subst (λ x. takes_node s.def node x ≡ true) is t }
    taken node h at declared false t r e same = absurd (none-some hook (sym (cond-false (takes_node s.def node h) (Some h) None t) ∙ sym same ∙ e))

    hook_is : (node : TermNode) (o : Option Hook) → slice_get s.nodes k.1 ≡ Some node → slice_get s.def.hooks k.0.0 ≡ o → hook_at_node s node o ≡ Some hook → IsKey s k hook
    hook_is node None at declared e = absurd (none-some hook e)
    hook_is node (Some h) at declared e = taken node h at declared (takes_node s.def node h) refl (hook_at_node s node (Some h)) e refl

    node_is : (o : Option TermNode) → slice_get s.nodes k.1 ≡ o → option_and_then (λ n. hook_at_node s n (slice_get s.def.hooks k.0.0)) o ≡ Some hook → IsKey s k hook
    node_is None at e = absurd (none-some hook e)
    node_is (Some node) at e = hook_is node (slice_get s.def.hooks k.0.0) at refl e

-- the sort of a point is that of the hook just where the hook takes its node
pub sort_of_point : (s : Setting) (k : Key) (hook : Hook) → IsKey s k hook → IsSortOfPoint s.def s.nodes k.1 hook.sort
sort_of_point s k hook is = ap (option_map (sort_of_node s.def)) is.at ∙ ap Some (found (sort_of_node s.def is.node) is.takes)
  where
    found : (o : Option SortId) → option_map_or (λ (x : SortId). x.0 == hook.sort.0) o false ≡ true → o ≡ Some hook.sort
    found None e = absurd (false≢true e)
    found (Some x) e = let same = eqb-true x.0 hook.sort.0 e in λ i. Some (record { 0 = same i })

pub takes_point : (s : Setting) (k : Key) (hook : Hook) → slice_get s.def.hooks k.0.0 ≡ Some hook → IsSortOfPoint s.def s.nodes k.1 hook.sort → IsKey s k hook
takes_point s k hook declared is = at (slice_get s.nodes k.1) refl is
  where
    found : (o : Option SortId) → Some o ≡ Some (Some hook.sort) → option_map_or (λ (x : SortId). x.0 == hook.sort.0) o false ≡ true
    found None e = absurd (none-some hook.sort (same_Some None (Some hook.sort) e))
    found (Some x) e = let same : x ≡ hook.sort = same_Some x hook.sort (same_Some (Some x) (Some hook.sort) e) in eq-eqb x.0 hook.sort.0 (ap (λ (y : SortId). y.0) same)

    at : (o : Option TermNode) → slice_get s.nodes k.1 ≡ o → option_map (sort_of_node s.def) o ≡ Some (Some hook.sort) → IsKey s k hook
    at None e h = absurd (none-some (Some hook.sort) h)
    at (Some node) e h = record { node = node; at = e; declared = declared; takes = found (sort_of_node s.def node) h }
