-- The listing of trails is in the order of words.
use Rattle.std.proofs.Common.{◌≡◌, ℕ, zero, suc, ◌<◌, Bool, true, false, cond, List, [], ◌∷◌, ◌++◌, map, Option, Some, None, inl, inr, refl, sym, subst, arith, append_assoc}
use Rattle.std.specs.List.{flat_map}
use Rattle.std.specs.Option.{option_to_list}
use Rattle.sk_def.specs.declared.bone.Bone.{Bone}
use Rattle.sk_filter.specs.Arguments.{Values}
use Rattle.sk_filter.specs.Results.{is_choice}
use Rattle.sk_deriv.specs.Tree.{Derivation, outs_of, word, word_of_steps, IsBefore}
use Rattle.sk_def.specs.Layout.{branch, after_branches}
use Rattle.sk_value.specs.declared.flow.Flow.{Flow}
use Rattle.sk_deriv.specs.Env.{Env, gain, export, values_at, target_at}
use Rattle.sk_deriv.specs.Moves.{results_at}
use Rattle.sk_deriv.specs.declared.call.Call.{Call}
use Rattle.sk_def.specs.Layout.{branch_places}
use Rattle.sk_deriv.specs.Listing.{Trail, after_pick, after_sub, after_branch, only, each, call_at, trails}
use Rattle.sk_deriv.proofs.Sorted.{member_of_map}
use Rattle.sk_deriv.proofs.Members.{InOrder, InOrder-append, InOrder-map, InOrder-flat_map, part_of_flat_map}
use Rattle.sk_deriv.proofs.TrailLemmas.{pick_of_each, word-followed_by, numbers_in_order}
use Rattle.sk_deriv.proofs.WordOrder.{IsBefore-front}

-- the first word comes first whatever follows both: they differ at a place
abbrev pub Apart : List ℕ → List ℕ → Type 0
Apart u v = (x y : List ℕ) → IsBefore (u ++ x) (v ++ y)

pub Apart-front : (w u v : List ℕ) → Apart u v → Apart (w ++ u) (w ++ v)
Apart-front w u v h x y = rw (append_assoc w u x, append_assoc w v y) (IsBefore-front w (u ++ x) (v ++ y) (h x y))

pub Apart-append : (u v a b : List ℕ) → Apart u v → Apart (u ++ a) (v ++ b)
Apart-append u v a b h x y = rw (append_assoc u a x, append_assoc v b y) (h (a ++ x) (b ++ y))

abbrev pub TreeBefore : Derivation → Derivation → Type 0
TreeBefore t u = Apart (word t) (word u)

abbrev pub TrailBefore : Trail → Trail → Type 0
TrailBefore p q = Apart (word_of_steps p.0) (word_of_steps q.0)

picks_before : (k : ℕ) (p q : Trail) → TrailBefore p q → TrailBefore (after_pick k p) (after_pick k q)
picks_before k p q h x y = inr (refl, h x y)

subs_before : (t : Derivation) (p q : Trail) → TrailBefore p q → TrailBefore (after_sub t p) (after_sub t q)
subs_before t p q h = Apart-front (word t) (word_of_steps p.0) (word_of_steps q.0) h

parts_before : (k : ℕ) (p q r : Trail) → TrailBefore q r → TrailBefore (after_branch k p q) (after_branch k p r)
parts_before k p q r h x y =
    inr (refl, rw (word-followed_by p.0 q.0, word-followed_by p.0 r.0) (Apart-front (word_of_steps p.0) (word_of_steps q.0) (word_of_steps r.0) h x y))

firsts_before : (k : ℕ) (p p' q q' : Trail) → TrailBefore p p' → TrailBefore (after_branch k p q) (after_branch k p' q')
firsts_before k p p' q q' h x y =
    inr (refl, rw (word-followed_by p.0 q.0, word-followed_by p'.0 q'.0) (Apart-append (word_of_steps p.0) (word_of_steps p'.0) (word_of_steps q.0) (word_of_steps q'.0) h x y))

before_same : (p q p' q' : Trail) → p ≡ p' → q ≡ q' → TrailBefore p' q' → TrailBefore p q
before_same p q p' q' e f h = subst (λ (w : Trail). TrailBefore w q) (sym e) (subst (λ (w : Trail). TrailBefore p' w) (sym f) h)

each_in_order : (go : Values → List Trail) → ((v : Values) → InOrder TrailBefore (go v)) → (k : ℕ) (vs : List Values) → InOrder TrailBefore (each go k vs)
each_in_order go h k [] = tt
each_in_order go h k (v ∷ vs) =
    InOrder-append TrailBefore (map (after_pick k) (go v)) (each go (suc k) vs)
    (InOrder-map TrailBefore TrailBefore (after_pick k) (picks_before k) (go v) (h v))
    (each_in_order go h (suc k) vs)
    (λ p q m n.
    let a = member_of_map (after_pick k) (go v) p m in
    let b = pick_of_each go (suc k) vs q n in
    before_same p q (after_pick k a.0) (after_pick b.number b.rest) a.2 b.whole (λ x y. inl (omega (arith, b.number_is))))

only_in_order : (go : Values → List Trail) → ((v : Values) → InOrder TrailBefore (go v)) → (vs : List Values) → InOrder TrailBefore (only go vs)
only_in_order go h [] = tt
only_in_order go h (v ∷ []) = h v
only_in_order go h (v ∷ w ∷ vs) = tt

if_in_order : (b : Bool) (xs ys : List Trail) → InOrder TrailBefore xs → InOrder TrailBefore ys → InOrder TrailBefore (cond b xs ys)
if_in_order true xs ys h g = h
if_in_order false xs ys h g = g

-- at most one call
calls_in_order : (o : Option Call) → InOrder (λ c d. ⊥) (option_to_list o)
calls_in_order None = tt
calls_in_order (Some c) = ((λ d m. m), tt)

module _ (names point : ℕ) (known : Call → List Derivation) (in_order : (c : Call) → InOrder TreeBefore (known c)) where
  abbrev Ordered : ℕ → Type 0
  Ordered fuel = (bones : List Bone) (env : Env Flow) → InOrder TrailBefore (trails names point known fuel bones env)

  ordered_bone : (fuel : ℕ) → Ordered fuel → (bone : Bone) (bones : List Bone) (env : Env Flow) → InOrder TrailBefore (trails names point known (suc fuel) (bone ∷ bones) env)
  ordered_bone fuel ih (Bone.Apply filter args outs) bones env =
      let go : Values → List Trail = λ v. trails names point known fuel bones (gain env outs v) in
      if_in_order (is_choice filter) _ _ (each_in_order go (λ v. ih bones (gain env outs v)) 0 (results_at names env filter args)) (only_in_order go (λ v. ih bones (gain env outs v)) (results_at names env filter args))
  ordered_bone fuel ih (Bone.Call hook args target outs) bones env =
      let after : Derivation → List Trail = λ t. trails names point known fuel bones (gain env outs (outs_of t)) in
      InOrder-flat_map (λ c d. ⊥) TrailBefore (λ c. flat_map (λ t. map (after_sub t) (after t)) (known c))
      (λ c. InOrder-flat_map TreeBefore TrailBefore (λ t. map (after_sub t) (after t))
      (λ t. InOrder-map TrailBefore TrailBefore (after_sub t) (subs_before t) (after t) (ih bones (gain env outs (outs_of t))))
      (λ t u p q h m n.
      let a = member_of_map (after_sub t) (after t) p m in
      let b = member_of_map (after_sub u) (after u) q n in
      before_same p q (after_sub t a.0) (after_sub u b.0) a.2 b.2 (Apart-append (word t) (word u) (word_of_steps a.0.0) (word_of_steps b.0.0) h))
      (known c) (in_order c))
      (λ c d p q h m n. absurd h)
      (option_to_list (call_at hook (target_at point env target) (values_at env args)))
      (calls_in_order (call_at hook (target_at point env target) (values_at env args)))
  ordered_bone fuel ih (Bone.Either counts exports) bones env =
      let after : Trail → List Trail = λ q. trails names point known fuel (after_branches counts bones) (export env q.1 exports) in
      let inner : ℕ → List Trail = λ k. trails names point known fuel (branch counts k bones) env in
      InOrder-flat_map (λ j k. j < k) TrailBefore (λ k. flat_map (λ q. map (after_branch k q) (after q)) (inner k))
      (λ k. InOrder-flat_map TrailBefore TrailBefore (λ q. map (after_branch k q) (after q))
      (λ p. InOrder-map TrailBefore TrailBefore (after_branch k p) (parts_before k p) (after p) (ih (after_branches counts bones) (export env p.1 exports)))
      (λ p p' q q' h m n.
      let a = member_of_map (after_branch k p) (after p) q m in
      let b = member_of_map (after_branch k p') (after p') q' n in
      before_same q q' (after_branch k p a.0) (after_branch k p' b.0) a.2 b.2 (firsts_before k p p' a.0 b.0 h))
      (inner k) (ih (branch counts k bones) env))
      (λ j k q q' h m n.
      let a = part_of_flat_map (λ p. map (after_branch j p) (after p)) (inner j) q m in
      let b = part_of_flat_map (λ p. map (after_branch k p) (after p)) (inner k) q' n in
      let e = member_of_map (after_branch j a.part) (after a.part) q a.of_part in
      let f = member_of_map (after_branch k b.part) (after b.part) q' b.of_part in
      before_same q q' (after_branch j a.part e.0) (after_branch k b.part f.0) e.2 f.2 (λ x y. inl h))
      (branch_places 0 counts) (numbers_in_order 0 counts)

  -- the trails are in the order of their words
  pub ordered : (fuel : ℕ) → Ordered fuel
  ordered fuel [] env = ((λ q m. absurd m), tt)
  ordered zero (bone ∷ bones) env = tt
  ordered (suc fuel) (bone ∷ bones) env = ordered_bone fuel (ordered fuel) bone bones env
