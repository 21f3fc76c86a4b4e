-- The paths through bones, bone by bone.
use Rattle.std.proofs.Common.{◌≡◌, ℕ, suc, Bool, true, false, cond, List, [], ◌∷◌, ◌++◌, map, refl, ap, sym, ◌∙◌, append-nil}
use Rattle.std.specs.List.{flat_map}
use Rattle.std.specs.Option.{option_to_list}
use Rattle.std.proofs.lemmas.Simd.{map-map}
use Rattle.std.proofs.lemmas.List.Folds.{flat_map-map}
use Rattle.sk_def.specs.declared.ids.HookId.{HookId}
use Rattle.sk_def.specs.declared.ids.Var.{Var}
use Rattle.sk_def.specs.declared.bone.Target.{Target}
use Rattle.sk_def.specs.declared.bone.Bone.{Bone}
use Rattle.sk_def.specs.declared.filter.Filter.{Filter}
use Rattle.sk_def.specs.Layout.{branch, branch_places, after_branches}
use Rattle.sk_filter.specs.Arguments.{Values}
use Rattle.sk_filter.specs.Results.{is_choice}
use Rattle.sk_value.specs.declared.flow.Flow.{Flow}
use Rattle.sk_deriv.specs.declared.call.Call.{Call}
use Rattle.sk_deriv.specs.Tree.{Derivation, Steps, done, pick, outs_of}
use Rattle.sk_deriv.specs.Env.{Env, gain, export, values_at, target_at}
use Rattle.sk_deriv.specs.Moves.{results_at}
use Rattle.sk_deriv.specs.Listing.{Trail, after_pick, after_sub, after_branch, followed_by, only, each, call_at, trails}
use Rattle.sk_deriv.proofs.TrailLemmas.{followed_by_assoc}
use Rattle.sk_concrete.specs.Calls.{Path, along, exported, spread, spread_all, branched}
use Rattle.sk_concrete.proofs.Lists.{map-flat_map, flat_map-flat_map, flat_map-cong, map-cong, map-same}

-- a trail and then another
abbrev onto : Trail → Trail → Trail
onto p q = (followed_by p.0 q.0, q.1)

along_onto : (v : Path) (p q : Trail) → along (along v p) q ≡ along v (onto p q)
along_onto v p q = ap (λ (s : Steps). let r : Path = (v.0, (s, q.1)) in r) (followed_by_assoc v.1.0 p.0 q.0)

module _ (names point : ℕ) (known : Call → List Derivation) (fuel : ℕ) (bones : List Bone) where
  -- the trails through the bones after one
  abbrev further : Trail → List Trail
  further p = map (onto p) (trails names point known fuel bones p.1)

  spread_along : (v : Path) (p : Trail) → map (along v) (further p) ≡ spread names point known fuel bones (along v p)
  spread_along v p =
      let ts = trails names point known fuel bones p.1 in
      map-map (along v) (onto p) ts ∙ sym (map-cong (along (along v p)) (λ q. along v (onto p q)) (along_onto v p) ts)

  -- trails that go on from these trails
  spread_from : (v : Path) (firsts whole : List Trail) → whole ≡ flat_map further firsts → map (along v) whole ≡ spread_all names point known fuel bones (map (along v) firsts)
  spread_from v firsts whole e =
      ap (map (along v)) e
      ∙ map-flat_map (along v) further firsts
      ∙ flat_map-cong (λ p. map (along v) (further p)) (λ p. spread names point known fuel bones (along v p)) (spread_along v) firsts
      ∙ sym (flat_map-map (spread names point known fuel bones) (along v) firsts)

  module _ (env : Env Flow) (outs : List Var) where
    abbrev go : Values → List Trail
    go v = trails names point known fuel bones (gain env outs v)

    abbrev one : Values → List Trail
    one v = (done, gain env outs v) ∷ []

    each_further : (k : ℕ) (vs : List Values) → each go k vs ≡ flat_map further (each one k vs)
    each_further k [] = refl
    each_further k (v ∷ vs) = ap (λ (ts : List Trail). map (after_pick k) (go v) ++ ts) (each_further (suc k) vs)

    only_further : (vs : List Values) → only go vs ≡ flat_map further (only one vs)
    only_further [] = refl
    only_further (v ∷ []) = sym (map-same (onto (done, gain env outs v)) (λ q. refl) (go v)) ∙ sym (append-nil (further (done, gain env outs v)))
    only_further (v ∷ u ∷ vs) = refl

    results_further : (b : Bool) (vs : List Values) → cond b (each go 0 vs) (only go vs) ≡ flat_map further (cond b (each one 0 vs) (only one vs))
    results_further true vs = each_further 0 vs
    results_further false vs = only_further vs

    abbrev go_tree : Derivation → List Trail
    go_tree t = map (after_sub t) (go (outs_of t))

    abbrev one_tree : Derivation → List Trail
    one_tree t = map (after_sub t) (one (outs_of t))

    tree_further : (t : Derivation) → go_tree t ≡ flat_map further (one_tree t)
    tree_further t = sym (append-nil (go_tree t))

    trees_further : (c : Call) → flat_map go_tree (known c) ≡ flat_map further (flat_map one_tree (known c))
    trees_further c = flat_map-cong go_tree (λ t. flat_map further (one_tree t)) tree_further (known c) ∙ sym (flat_map-flat_map further one_tree (known c))

    calls_further : (cs : List Call) → flat_map (λ c. flat_map go_tree (known c)) cs ≡ flat_map further (flat_map (λ c. flat_map one_tree (known c)) cs)
    calls_further cs =
        flat_map-cong (λ c. flat_map go_tree (known c)) (λ c. flat_map further (flat_map one_tree (known c))) trees_further cs
        ∙ sym (flat_map-flat_map further (λ c. flat_map one_tree (known c)) cs)

  after_filter_one : (filter : Filter) (args outs : List Var) (v : Path) →
      spread names point known (suc fuel) (Bone.Apply filter args outs ∷ bones) v
      ≡ spread_all names point known fuel bones (spread names point known 1 (Bone.Apply filter args outs ∷ []) v)
  after_filter_one filter args outs v =
      spread_from v (trails names point known 1 (Bone.Apply filter args outs ∷ []) v.1.1) (trails names point known (suc fuel) (Bone.Apply filter args outs ∷ bones) v.1.1)
      (results_further v.1.1 outs (is_choice filter) (results_at names v.1.1 filter args))

  after_call_one : (hook : HookId) (args : List Var) (target : Target) (outs : List Var) (v : Path) →
      spread names point known (suc fuel) (Bone.Call hook args target outs ∷ bones) v
      ≡ spread_all names point known fuel bones (spread names point known 1 (Bone.Call hook args target outs ∷ []) v)
  after_call_one hook args target outs v =
      spread_from v (trails names point known 1 (Bone.Call hook args target outs ∷ []) v.1.1) (trails names point known (suc fuel) (Bone.Call hook args target outs ∷ bones) v.1.1)
      (calls_further v.1.1 outs (option_to_list (call_at hook (target_at point v.1.1 target) (values_at v.1.1 args))))

  -- the paths after the first bone, and then after the rest
  after_ones : (whole : Path → List Path) (first : Path → List Path) → ((v : Path) → whole v ≡ spread_all names point known fuel bones (first v)) → (vs : List Path) →
      flat_map whole vs ≡ spread_all names point known fuel bones (flat_map first vs)
  after_ones whole first e vs =
      flat_map-cong whole (λ v. spread_all names point known fuel bones (first v)) e vs
      ∙ sym (flat_map-flat_map (spread names point known fuel bones) first vs)

  pub after_filter : (filter : Filter) (args outs : List Var) (vs : List Path) →
      spread_all names point known (suc fuel) (Bone.Apply filter args outs ∷ bones) vs
      ≡ spread_all names point known fuel bones (spread_all names point known 1 (Bone.Apply filter args outs ∷ []) vs)
  after_filter filter args outs vs = after_ones (spread names point known (suc fuel) (Bone.Apply filter args outs ∷ bones)) (spread names point known 1 (Bone.Apply filter args outs ∷ [])) (after_filter_one filter args outs) vs

  pub after_call : (hook : HookId) (args : List Var) (target : Target) (outs : List Var) (vs : List Path) →
      spread_all names point known (suc fuel) (Bone.Call hook args target outs ∷ bones) vs
      ≡ spread_all names point known fuel bones (spread_all names point known 1 (Bone.Call hook args target outs ∷ []) vs)
  after_call hook args target outs vs = after_ones (spread names point known (suc fuel) (Bone.Call hook args target outs ∷ bones)) (spread names point known 1 (Bone.Call hook args target outs ∷ [])) (after_call_one hook args target outs) vs

module _ (names point : ℕ) (known : Call → List Derivation) (fuel : ℕ) (counts : List ℕ) (exports : List Var) (bones : List Bone) where
  abbrev later : List Bone
  later = after_branches counts bones

  abbrev inner : Path → ℕ → List Trail
  inner v k = trails names point known fuel (branch counts k bones) v.1.1

  abbrev rest : Path → Trail → List Trail
  rest v p = trails names point known fuel later (export v.1.1 p.1 exports)

  through : (v : Path) (k : ℕ) (p q : Trail) → along (exported exports k v p) q ≡ along v (after_branch k p q)
  through v k p q = ap (λ (s : Steps). let r : Path = (v.0, (s, q.1)) in r) (followed_by_assoc v.1.0 (pick k p.0) q.0)

  after_end : (v : Path) (k : ℕ) (p : Trail) → map (along v) (map (after_branch k p) (rest v p)) ≡ spread names point known fuel later (exported exports k v p)
  after_end v k p = map-map (along v) (after_branch k p) (rest v p) ∙ sym (map-cong (along (exported exports k v p)) (λ q. along v (after_branch k p q)) (through v k p) (rest v p))

  after_place : (v : Path) (k : ℕ) →
      map (along v) (flat_map (λ p. map (after_branch k p) (rest v p)) (inner v k)) ≡ spread_all names point known fuel later (map (exported exports k v) (inner v k))
  after_place v k =
      map-flat_map (along v) (λ p. map (after_branch k p) (rest v p)) (inner v k)
      ∙ flat_map-cong (λ p. map (along v) (map (after_branch k p) (rest v p))) (λ p. spread names point known fuel later (exported exports k v p)) (after_end v k) (inner v k)
      ∙ sym (flat_map-map (spread names point known fuel later) (exported exports k v) (inner v k))

  after_branch_one : (v : Path) →
      spread names point known (suc fuel) (Bone.Either counts exports ∷ bones) v ≡ spread_all names point known fuel later (branched names point known fuel counts exports bones v)
  after_branch_one v =
      let places = branch_places 0 counts in
      map-flat_map (along v) (λ k. flat_map (λ p. map (after_branch k p) (rest v p)) (inner v k)) places
      ∙ flat_map-cong (λ k. map (along v) (flat_map (λ p. map (after_branch k p) (rest v p)) (inner v k))) (λ k. spread_all names point known fuel later (map (exported exports k v) (inner v k))) (after_place v) places
      ∙ sym (flat_map-flat_map (spread names point known fuel later) (λ k. map (exported exports k v) (inner v k)) places)

  pub after_branches_all : (vs : List Path) →
      spread_all names point known (suc fuel) (Bone.Either counts exports ∷ bones) vs ≡ spread_all names point known fuel later (flat_map (branched names point known fuel counts exports bones) vs)
  after_branches_all vs = after_ones names point known fuel later (spread names point known (suc fuel) (Bone.Either counts exports ∷ bones)) (branched names point known fuel counts exports bones) after_branch_one vs
