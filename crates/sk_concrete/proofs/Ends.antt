-- A branch bone whose branches were walked.
use Rattle.std.proofs.Common.{◌≡◌, ℕ, suc, ◌<◌, ◌≤◌, Bool, true, false, cond, eqb, List, [], ◌∷◌, ◌++◌, map, refl, ap, ap₂, sym, ◌∙◌, arith, append_assoc, append-nil}
use Rattle.std.specs.List.{flat_map}
use Rattle.std.proofs.lemmas.List.{map-append}
use Rattle.std.proofs.lemmas.List.Folds.{flat_map-map}
use Rattle.std.proofs.lemmas.Bool.{eq-eqb, ne_eqb}
use Rattle.sk_def.specs.declared.ids.Var.{Var}
use Rattle.sk_def.specs.declared.bone.Bone.{Bone}
use Rattle.sk_def.specs.Layout.{branch, branch_places}
use Rattle.sk_deriv.specs.declared.call.Call.{Call}
use Rattle.sk_deriv.specs.declared.forest.Node.{Node}
use Rattle.sk_deriv.specs.Tree.{Derivation, Steps, done, pick}
use Rattle.sk_deriv.specs.Forest.{tree_at}
use Rattle.sk_deriv.specs.Env.{export}
use Rattle.sk_deriv.specs.Listing.{Trail, followed_by, trails}
use Rattle.sk_concrete.specs.declared.world.World.{World}
use Rattle.sk_concrete.specs.Worlds.{joined, joined_end, joined_ends, merged}
use Rattle.sk_concrete.specs.Calls.{Path, path_of, paths, along, begun, exported, spread, spread_all, branched}
use Rattle.sk_concrete.proofs.Lists.{map-cong, flat_map-cong}
use Rattle.sk_concrete.proofs.Paths.{steps_join}

-- the same of paths: a path before a branch bone with one at the end of a branch
abbrev join_path : List Var → Path → Path → Path
join_path exports v e = (v.0, (followed_by v.1.0 e.1.0, export v.1.1 e.1.1 exports))

abbrev path_end : List Var → ℕ → Path → List Path → List Path
path_end exports place v [] = []
path_end exports place v (e ∷ es) = cond (eqb e.0 place) (join_path exports v e ∷ []) [] ++ path_end exports place v es

abbrev path_ends : List Var → ℕ → Path → List (List Path) → List Path
path_ends exports place v ends = flat_map (path_end exports place v) ends

abbrev pub path_merged : List Var → List (List Path) → ℕ → List Path → List Path
path_merged exports ends place [] = []
path_merged exports ends place (v ∷ vs) = path_ends exports place v ends ++ path_merged exports ends (suc place) vs

module _ (nodes : List Node) (exports : List Var) where
  joined_if : (b : Bool) (w end : World) → paths nodes (cond b (joined exports w end ∷ []) []) ≡ cond b (join_path exports (path_of nodes w) (path_of nodes end) ∷ []) []
  joined_if true w end = ap (λ (s : Steps). let r : Path = (w.origin, (s, export w.env end.env exports)) in r ∷ []) (steps_join (tree_at nodes) w.steps end.steps)
  joined_if false w end = refl

  paths_joined_end : (place : ℕ) (w : World) (end : List World) → paths nodes (joined_end exports place w end) ≡ path_end exports place (path_of nodes w) (paths nodes end)
  paths_joined_end place w [] = refl
  paths_joined_end place w (u ∷ end) =
      map-append (path_of nodes) (cond (eqb u.origin place) (joined exports w u ∷ []) []) (joined_end exports place w end)
      ∙ ap₂ (λ (a b : List Path). a ++ b) (joined_if (eqb u.origin place) w u) (paths_joined_end place w end)

  paths_joined_ends : (place : ℕ) (w : World) (ends : List (List World)) →
      paths nodes (joined_ends exports place w ends) ≡ path_ends exports place (path_of nodes w) (map (paths nodes) ends)
  paths_joined_ends place w [] = refl
  paths_joined_ends place w (end ∷ ends) =
      map-append (path_of nodes) (joined_end exports place w end) (joined_ends exports place w ends)
      ∙ ap₂ (λ (a b : List Path). a ++ b) (paths_joined_end place w end) (paths_joined_ends place w ends)

  pub paths_merged : (ends : List (List World)) (place : ℕ) (ws : List World) →
      paths nodes (merged exports ends place ws) ≡ path_merged exports (map (paths nodes) ends) place (paths nodes ws)
  paths_merged ends place [] = refl
  paths_merged ends place (w ∷ ws) =
      map-append (path_of nodes) (joined_ends exports place w ends) (merged exports ends (suc place) ws)
      ∙ ap₂ (λ (a b : List Path). a ++ b) (paths_joined_ends place w ends) (paths_merged ends (suc place) ws)

-- all origins lie below this place, or not below it
abbrev Below : ℕ → List Path → Type 0
Below place [] = Unit {0}
Below place (v ∷ vs) = (v.0 < place) × Below place vs

abbrev NotBelow : ℕ → List Path → Type 0
NotBelow place [] = Unit {0}
NotBelow place (v ∷ vs) = (place ≤ v.0) × NotBelow place vs

below_join : (place : ℕ) (vs us : List Path) → Below place vs → Below place us → Below place (vs ++ us)
below_join place [] us h g = g
below_join place (v ∷ vs) us h g = (h.0, below_join place vs us h.1 g)

below_next : (place : ℕ) (vs : List Path) → Below place vs → Below (suc place) vs
below_next place [] h = tt
below_next place (v ∷ vs) h = (omega (arith, h.0), below_next place vs h.1)

not_below_join : (place : ℕ) (vs us : List Path) → NotBelow place vs → NotBelow place us → NotBelow place (vs ++ us)
not_below_join place [] us h g = g
not_below_join place (v ∷ vs) us h g = (h.0, not_below_join place vs us h.1 g)

module _ (exports : List Var) (place : ℕ) (v : Path) where
  end_join : (es fs : List Path) → path_end exports place v (es ++ fs) ≡ path_end exports place v es ++ path_end exports place v fs
  end_join [] fs = refl
  end_join (e ∷ es) fs =
      ap (λ (a : List Path). cond (eqb e.0 place) (join_path exports v e ∷ []) [] ++ a) (end_join es fs)
      ∙ sym (append_assoc (cond (eqb e.0 place) (join_path exports v e ∷ []) []) (path_end exports place v es) (path_end exports place v fs))

  end_below : (es : List Path) → Below place es → path_end exports place v es ≡ []
  end_below [] h = refl
  end_below (e ∷ es) h = let other : eqb e.0 place ≡ false = ne_eqb e.0 place (λ p. omega (arith, h.0, p)) in rw other (end_below es h.1)

  end_not_below : (es : List Path) → NotBelow (suc place) es → path_end exports place v es ≡ []
  end_not_below [] h = refl
  end_not_below (e ∷ es) h = let other : eqb e.0 place ≡ false = ne_eqb e.0 place (λ p. omega (arith, h.0, p)) in rw other (end_not_below es h.1)

  end_here : (k : ℕ) (ts : List Trail) → path_end exports place v (map (along (place, (pick k done, v.1.1))) ts) ≡ map (exported exports k v) ts
  end_here k [] = refl
  end_here k (t ∷ ts) = let same : eqb place place ≡ true = eq-eqb place place refl in rw same (ap (λ (a : List Path). exported exports k v t ∷ a) (end_here k ts))

module _ (names point : ℕ) (known : Call → List Derivation) (fuel : ℕ) (bones : List Bone) where
  not_below_spread : (place : ℕ) (v : Path) → place ≤ v.0 → (ts : List Trail) → NotBelow place (map (along v) ts)
  not_below_spread place v h [] = tt
  not_below_spread place v h (t ∷ ts) = (h, not_below_spread place v h ts)

  below_spread : (place : ℕ) (v : Path) → v.0 < place → (ts : List Trail) → Below place (map (along v) ts)
  below_spread place v h [] = tt
  below_spread place v h (t ∷ ts) = (h, below_spread place v h ts)

  not_below_begun : (least k place : ℕ) → least ≤ place → (vs : List Path) → NotBelow least (spread_all names point known fuel bones (begun k place vs))
  not_below_begun least k place h [] = tt
  not_below_begun least k place h (v ∷ vs) =
      not_below_join least (spread names point known fuel bones (place, (pick k done, v.1.1))) (spread_all names point known fuel bones (begun k (suc place) vs))
      (not_below_spread least (place, (pick k done, v.1.1)) h (trails names point known fuel bones v.1.1)) (not_below_begun least k (suc place) (omega (arith, h)) vs)

module _ (names point : ℕ) (known : Call → List Derivation) (fuel : ℕ) (counts : List ℕ) (bones : List Bone) where
  -- the paths at the end of branch k, begun from these paths
  abbrev pub ends_of : ℕ → List Path → ℕ → List Path
  ends_of place vs k = spread_all names point known fuel (branch counts k bones) (begun k place vs)

module _ (names point : ℕ) (known : Call → List Derivation) (fuel : ℕ) (counts : List ℕ) (exports : List Var) (bones : List Bone) where
  abbrev ends_from : ℕ → List Path → ℕ → List Path
  ends_from place vs k = ends_of names point known fuel counts bones place vs k

  abbrev ends_of_one : ℕ → Path → ℕ → List Path
  ends_of_one place v k = spread names point known fuel (branch counts k bones) (place, (pick k done, v.1.1))

  -- of all the ends, those that were forked from the path at the place
  picked_out : (place : ℕ) (v : Path) (vs : List Path) (earlier : ℕ → List Path) → ((k : ℕ) → Below place (earlier k)) → (k : ℕ) →
      path_end exports place v (earlier k ++ ends_from place (v ∷ vs) k) ≡ map (exported exports k v) (trails names point known fuel (branch counts k bones) v.1.1)
  picked_out place v vs earlier h k =
      let here = ends_of_one place v k in
      let later = ends_from (suc place) vs k in
      end_join exports place v (earlier k) (here ++ later)
      ∙ ap₂ (λ (a b : List Path). a ++ b) (end_below exports place v (earlier k) (h k))
      (end_join exports place v here later
      ∙ ap₂ (λ (a b : List Path). a ++ b) (end_here exports place v k (trails names point known fuel (branch counts k bones) v.1.1))
      (end_not_below exports place v later (not_below_begun names point known fuel (branch counts k bones) (suc place) k (suc place) (omega arith) vs)))
      ∙ append-nil (map (exported exports k v) (trails names point known fuel (branch counts k bones) v.1.1))

  merged_ends : (places : List ℕ) (place : ℕ) (vs : List Path) (earlier : ℕ → List Path) → ((k : ℕ) → Below place (earlier k)) →
      path_merged exports (map (λ k. earlier k ++ ends_from place vs k) places) place vs
      ≡ flat_map (λ v. flat_map (λ k. map (exported exports k v) (trails names point known fuel (branch counts k bones) v.1.1)) places) vs
  merged_ends places place [] earlier h = refl
  merged_ends places place (v ∷ vs) earlier h =
      let all : ℕ → List Path = λ k. earlier k ++ ends_from place (v ∷ vs) k in
      let next : ℕ → List Path = λ k. earlier k ++ ends_of_one place v k in
      let same : map all places ≡ map (λ k. next k ++ ends_from (suc place) vs k) places =
      map-cong all (λ k. next k ++ ends_from (suc place) vs k) (λ k. sym (append_assoc (earlier k) (ends_of_one place v k) (ends_from (suc place) vs k))) places in
      let below : (k : ℕ) → Below (suc place) (next k) =
      λ k. below_join (suc place) (earlier k) (ends_of_one place v k) (below_next place (earlier k) (h k))
      (below_spread names point known fuel (branch counts k bones) (suc place) (place, (pick k done, v.1.1)) (omega arith) (trails names point known fuel (branch counts k bones) v.1.1)) in
      ap₂ (λ (a b : List Path). a ++ b)
      (flat_map-map (path_end exports place v) all places
      ∙ flat_map-cong (λ k. path_end exports place v (all k)) (λ k. map (exported exports k v) (trails names point known fuel (branch counts k bones) v.1.1)) (picked_out place v vs earlier h) places)
      (ap (λ (ends : List (List Path)). path_merged exports ends (suc place) vs) same ∙ merged_ends places (suc place) vs next below)

  -- the ends of all branches make the paths after the branch bone
  pub merged_all : (vs : List Path) →
      path_merged exports (map (ends_of names point known fuel counts bones 0 vs) (branch_places 0 counts)) 0 vs ≡ flat_map (branched names point known fuel counts exports bones) vs
  merged_all vs = merged_ends (branch_places 0 counts) 0 vs (λ k. []) (λ k. tt)
