-- The parts of a list after its first bone: the branches of a branch bone, and what follows the bone and its branches.
use Rattle.std.proofs.Common.{◌≡◌, ℕ, zero, suc, ◌+◌, ◌≤◌, ◌<◌, List, [], ◌∷◌, length, take, drop, sum, refl, sym, subst, ◌∙◌, arith, inl, inr, slice_get}
use Rattle.std.specs.Prelude.{slice_index, ◌⊎◌}
use Rattle.std.proofs.lemmas.Bool.{cases_lt}
use Rattle.std.proofs.lemmas.List.{length-take, length-drop}
use Rattle.sk_def.specs.declared.ids.Var.{Var}
use Rattle.sk_def.specs.declared.ids.HookId.{HookId}
use Rattle.sk_def.specs.declared.bone.Target.{Target}
use Rattle.sk_def.specs.declared.filter.Filter.{Filter}
use Rattle.sk_def.specs.declared.bone.Bone.{Bone}
use Rattle.sk_def.specs.declared.bone.Bone.TheVariants.{Apply, Call, Either}
use Rattle.sk_def.specs.Layout.{BonesFit, branch, after_branches}
use Rattle.sk_walk.proofs.Checks.{BonesFit-filter, BonesFit-hook, BonesFit-either}
use Rattle.sk_reasons.specs.Scope.{InBranch, Sees, IsOuter}
use Rattle.sk_reasons.proofs.Branches.{IsWithin, branch_ends, one_branch_only, branch_of_place}
use Rattle.sk_reasons.proofs.ListParts.{AreSame, IsPart, rest_of, comes_later, in_branch_within, down}

-- each branch ends within the list
abbrev pub Closed : List Bone → Type 0
Closed bones = (k branch i : ℕ) → InBranch bones k branch i → i < length bones

-- an entry of the rest of a list
pub get_drop : {A : Type 0} (n i : ℕ) (xs : List A) → slice_get (drop n xs) i ≡ slice_get xs (n + i)
get_drop zero i xs = let e : 0 + i ≡ i = omega arith in rw e refl
get_drop (suc n) i [] = refl
get_drop (suc n) i (x ∷ xs) = let e : suc n + i ≡ suc (n + i) = omega arith in rw e (get_drop n i xs)

-- an entry of the front of a list
pub get_take : {A : Type 0} (n i : ℕ) (xs : List A) → i < n → slice_get (take n xs) i ≡ slice_get xs i
get_take zero i xs w = absurd (omega (arith, w))
get_take (suc n) i [] w = refl
get_take (suc n) zero (x ∷ xs) w = refl
get_take (suc n) (suc i) (x ∷ xs) w = get_take n i xs (omega (arith, w))

-- the list after a bone without branches
module _ (bone : Bone) (rest : List Bone) (plain : (counts : List ℕ) (exports : List Var) → bone ≡ Either counts exports → ⊥) where
  -- a bone without branches has nothing in a branch
  pub plain_never : (branch i : ℕ) → ¬ InBranch (bone ∷ rest) 0 branch i
  plain_never branch i h = let e : bone ≡ Either h.counts h.exports = cc (h.is) in plain h.counts h.exports e

  plain_same : AreSame (bone ∷ rest) rest 1
  plain_same = record { at = λ i w. let e : 1 + i ≡ suc i = omega arith in rw e refl }

  -- the rest is a part of the list
  pub plain_part : Closed rest → IsPart (bone ∷ rest) rest 1
  plain_part closed = record { same = plain_same; closed = closed; around = around }
    where
      around : (k branch i : ℕ) → i < length rest → InBranch (bone ∷ rest) k branch (1 + i) →
          (1 ≤ k) ⊎ ((k ≡ 0) × ((j : ℕ) → j < length rest → InBranch (bone ∷ rest) k branch (1 + j)))
      around zero branch i w h = absurd (plain_never branch (1 + i) h)
      around (suc k) branch i w h = inl (omega arith)

  plain_closed : Closed rest → Closed (bone ∷ rest)
  plain_closed closed zero branch i h = absurd (plain_never branch i h)
  plain_closed closed (suc k) branch i h =
      let r = rest_of 1 i (omega (arith, comes_later h)) in
      let e : suc k ≡ 1 + k = omega arith in
      let here = subst (λ n. InBranch (bone ∷ rest) (1 + k) branch n) r.1 (subst (λ n. InBranch (bone ∷ rest) n branch i) e h) in
      let short = in_branch_within h in
      omega (arith, r.1, closed k branch r.0 (down plain_same (omega (arith, short)) here))

-- the list after a branch bone, whose branches lie within it
module _ (counts : List ℕ) (exports : List Var) (rest : List Bone) (within : sum counts ≤ length rest)
    (closed_in : (k : ℕ) → k < length counts → Closed (branch counts k rest)) where
  abbrev whole : List Bone
  whole = Either counts exports ∷ rest

  length_branch : (k : ℕ) → length (branch counts k rest) ≡ slice_index counts k
  length_branch k =
      let later = drop (sum (take k counts)) rest in
      omega (arith, within, branch_ends counts k, length-take (slice_index counts k) later, length-drop (sum (take k counts)) rest)

  same_branch : (k : ℕ) → AreSame whole (branch counts k rest) (1 + sum (take k counts))
  same_branch k = record {
    at = λ i w.
        let n = sum (take k counts) in
        let e : 1 + n + i ≡ suc (n + i) = omega arith in
        let below : i < slice_index counts k = omega (arith, w, length_branch k) in
        rw e (sym (get_take (slice_index counts k) i (drop n rest) below ∙ get_drop n i rest));
  }

  same_later : AreSame whole (drop (sum counts) rest) (1 + sum counts)
  same_later = record {
    at = λ i w.
        let e : 1 + sum counts + i ≡ suc (sum counts + i) = omega arith in
        rw e (sym (get_drop (sum counts) i rest));
  }

  -- a place in a branch of the first bone
  pub at_first : (k place : ℕ) → InBranch whole 0 k (suc place) → IsWithin counts k place
  at_first k place h =
      let e : h.counts ≡ counts = cc (h.is) in
      let a = rw e at h.from in
      let b = rw e at h.below in
      record { from = omega (arith, a); below = omega (arith, b) }

  in_first : (k place : ℕ) → IsWithin counts k place → InBranch whole 0 k (suc place)
  in_first k place w = record {
    counts = counts;
    exports = exports;
    is = refl;
    from = omega (arith, w.from);
    below = omega (arith, w.below);
  }

  -- a bone of a branch lies in this branch
  pub branch_holds : (k i : ℕ) → i < length (branch counts k rest) → InBranch whole 0 k (1 + sum (take k counts) + i)
  branch_holds k i w =
      let e : suc (sum (take k counts) + i) ≡ 1 + sum (take k counts) + i = omega arith in
      subst (λ x. InBranch whole 0 k x) e (in_first k (sum (take k counts) + i) (record { from = omega arith; below = omega (arith, w, length_branch k) }))

  -- a bone in a branch of the first bone has a place in this branch
  pub place_in : (k x : ℕ) → InBranch whole 0 k x → (i : ℕ) × (x ≡ 1 + sum (take k counts) + i) × (i < length (branch counts k rest))
  place_in k zero h = absurd (omega (arith, comes_later h))
  place_in k (suc x) h =
      let w = at_first k x h in
      let r = rest_of (sum (take k counts)) x w.from in
      (r.0, omega (arith, r.1), omega (arith, r.1, w.below, length_branch k))

  -- a branch of a bone that lies in a branch of the first bone lies in the same one
  inner_branch : (k other i : ℕ) → k < sum counts → InBranch whole (suc k) other (suc i) → (c : ℕ) × IsWithin counts c k × IsWithin counts c i
  inner_branch k other i less h =
      let r = branch_of_place counts k less in
      let n = sum (take r.0 counts) in
      let j = rest_of n k r.2.from in
      let m = rest_of (1 + n) (suc i) (omega (arith, comes_later h, r.2.from)) in
      let e : suc k ≡ 1 + n + j.0 = omega (arith, j.1) in
      let size = length_branch r.0 in
      let here = subst (λ x. InBranch whole (1 + n + j.0) other x) m.1 (subst (λ x. InBranch whole x other (suc i)) e h) in
      let there = down (same_branch r.0) (omega (arith, j.1, r.2.below, size)) here in
      let short = closed_in r.0 r.1 j.0 other m.0 there in
      (r.0, r.2, record { from = omega (arith, m.1); below = omega (arith, m.1, short, size) })

  -- a branch is a part of the list
  pub branch_part : (k : ℕ) → k < length counts → IsPart whole (branch counts k rest) (1 + sum (take k counts))
  branch_part k less = record { same = same_branch k; closed = closed_in k less; around = around }
    where
      is_within : (i : ℕ) → i < length (branch counts k rest) → IsWithin counts k (sum (take k counts) + i)
      is_within i w = record { from = omega arith; below = omega (arith, w, length_branch k) }

      next : (i : ℕ) → 1 + sum (take k counts) + i ≡ suc (sum (take k counts) + i)
      next i = omega arith

      inner : (j other i : ℕ) → i < length (branch counts k rest) → InBranch whole (suc j) other (suc (sum (take k counts) + i)) →
          (j < sum counts) ⊎ (sum counts ≤ j) → 1 + sum (take k counts) ≤ suc j
      inner j other i w h (inl a) =
          let r = inner_branch j other (sum (take k counts) + i) a h in
          let e = one_branch_only counts r.0 k (sum (take k counts) + i) r.2 (is_within i w) in
          let f = (rw e at r.1).from in
          omega (arith, f)
      inner j other i w h (inr a) = omega (arith, a, branch_ends counts k)

      around : (j other i : ℕ) → i < length (branch counts k rest) → InBranch whole j other (1 + sum (take k counts) + i) →
          (1 + sum (take k counts) ≤ j) ⊎ ((j ≡ 0) × ((m : ℕ) → m < length (branch counts k rest) → InBranch whole j other (1 + sum (take k counts) + m)))
      around zero other i w h =
          let here = at_first other (sum (take k counts) + i) (subst (λ x. InBranch whole 0 other x) (next i) h) in
          let e = one_branch_only counts k other (sum (take k counts) + i) (is_within i w) here in
          inr (
            refl,
            λ m v. subst (λ x. InBranch whole 0 other x) (sym (next m))
                (subst (λ c. InBranch whole 0 c (suc (sum (take k counts) + m))) e (in_first k (sum (take k counts) + m) (is_within m v))),
          )
      around (suc j) other i w h = inl (inner j other i w (subst (λ x. InBranch whole (suc j) other x) (next i) h) (cases_lt j (sum counts)))

  past : (c i : ℕ) → IsWithin counts c (sum counts + i) → ⊥
  past c i w = omega (arith, w.below, branch_ends counts c)

  -- what follows the branches lies in none of them
  pub never_later : (branch i : ℕ) → ¬ InBranch whole 0 branch (1 + sum counts + i)
  never_later branch i h =
      let e : 1 + sum counts + i ≡ suc (sum counts + i) = omega arith in
      past branch i (at_first branch (sum counts + i) (subst (λ x. InBranch whole 0 branch x) e h))

  -- what follows the branches is a part of the list
  pub later_part : Closed (drop (sum counts) rest) → IsPart whole (drop (sum counts) rest) (1 + sum counts)
  later_part closed = record { same = same_later; closed = closed; around = around }
    where
      inner : (j other i : ℕ) → InBranch whole (suc j) other (suc (sum counts + i)) → (j < sum counts) ⊎ (sum counts ≤ j) → 1 + sum counts ≤ suc j
      inner j other i h (inl a) = let r = inner_branch j other (sum counts + i) a h in absurd (past r.0 i r.2)
      inner j other i h (inr a) = omega (arith, a)

      around : (j other i : ℕ) → i < length (drop (sum counts) rest) → InBranch whole j other (1 + sum counts + i) →
          (1 + sum counts ≤ j) ⊎ ((j ≡ 0) × ((m : ℕ) → m < length (drop (sum counts) rest) → InBranch whole j other (1 + sum counts + m)))
      around zero other i w h = absurd (never_later other i h)
      around (suc j) other i w h =
          let e : 1 + sum counts + i ≡ suc (sum counts + i) = omega arith in
          inl (inner j other i (subst (λ x. InBranch whole (suc j) other x) e h) (cases_lt j (sum counts)))

  either_closed : Closed (drop (sum counts) rest) → Closed whole
  either_closed closed k other zero h = absurd (omega (arith, comes_later h))
  either_closed closed zero other (suc i) h = omega (arith, within, branch_ends counts other, (at_first other i h).below)
  either_closed closed (suc k) other (suc i) h = by (cases_lt k (sum counts))
    where
      by : (k < sum counts) ⊎ (sum counts ≤ k) → suc i < length whole
      by (inl a) = let r = inner_branch k other i a h in omega (arith, within, branch_ends counts r.0, r.2.below)
      by (inr a) =
          let j = rest_of (1 + sum counts) (suc k) (omega (arith, a)) in
          let m = rest_of (1 + sum counts) (suc i) (omega (arith, a, comes_later h)) in
          let here = subst (λ x. InBranch whole (1 + sum counts + j.0) other x) m.1 (subst (λ x. InBranch whole x other (suc i)) j.1 h) in
          let long = length-drop (sum counts) rest in
          let there = down same_later (omega (arith, j.1, long, in_branch_within h)) here in
          let short = closed j.0 other m.0 there in
          omega (arith, m.1, long, short)

  -- A bone of a branch sees no bone before the branch.
  pub no_sibling : (k i earlier : ℕ) → i < length (branch counts k rest) → Sees whole (1 + sum (take k counts) + i) earlier → earlier < 1 + sum (take k counts) → ⊥
  no_sibling k i earlier w s less = by earlier (subst (λ x. Sees whole x earlier) e s) less
    where
      e : 1 + sum (take k counts) + i ≡ suc (sum (take k counts) + i)
      e = omega arith

      here : IsWithin counts k (sum (take k counts) + i)
      here = record { from = omega arith; below = omega (arith, w, length_branch k) }

      by : (earlier : ℕ) → Sees whole (suc (sum (take k counts) + i)) earlier → earlier < 1 + sum (take k counts) → ⊥
      by zero s less = s.outside k (in_first k (sum (take k counts) + i) here)
      by (suc j) s less =
          let r = branch_of_place counts j (omega (arith, less, branch_ends counts k)) in
          let there = at_first r.0 (sum (take k counts) + i) (s.same_branches 0 r.0 (in_first r.0 j r.2)) in
          let same = one_branch_only counts r.0 k (sum (take k counts) + i) there here in
          let f = (rw same at r.2).from in
          omega (arith, f, less)

  -- what follows the branches sees of the bones before it just the first
  pub only_first : (i earlier : ℕ) → Sees whole (1 + sum counts + i) earlier → earlier < 1 + sum counts → earlier ≡ 0
  only_first i zero s less = refl
  only_first i (suc j) s less =
      let r = branch_of_place counts j (omega (arith, less)) in
      absurd (never_later r.0 i (s.same_branches 0 r.0 (in_first r.0 j r.2)))

  -- of the bones before what follows, just the first lies in no branch
  pub only_first_outer : (earlier : ℕ) → IsOuter whole earlier → earlier < 1 + sum counts → earlier ≡ 0
  only_first_outer zero outer less = refl
  only_first_outer (suc j) outer less =
      let r = branch_of_place counts j (omega (arith, less)) in
      absurd (outer 0 r.0 (in_first r.0 j r.2))

-- a filter bone has no branches
pub filter_plain : {filter : Filter} {args outs : List Var} (counts : List ℕ) (exports : List Var) → Apply filter args outs ≡ Either counts exports → ⊥
filter_plain counts exports e = cc

-- a hook bone has no branches
pub hook_plain : {hook : HookId} {args : List Var} {target : Target} {outs : List Var} (counts : List ℕ) (exports : List Var) → Call hook args target outs ≡ Either counts exports → ⊥
hook_plain counts exports e = cc

-- of a list that is laid out as it must be each branch ends within it
pub closed_list : {hooks vars : ℕ} (n nesting : ℕ) (bones : List Bone) → length bones ≤ n → BonesFit hooks vars nesting bones → Closed bones
closed_list n nesting [] within fits = λ k branch i h. absurd (omega (arith, in_branch_within h))
closed_list zero nesting (bone ∷ bones) within fits = absurd (omega (arith, within))
closed_list (suc n) nesting (Apply filter args outs ∷ bones) within fits =
    plain_closed (Apply filter args outs) bones (λ counts exports e. filter_plain counts exports e) (closed_list n nesting bones (omega (arith, within)) (BonesFit-filter fits).2)
closed_list (suc n) nesting (Call hook args target outs ∷ bones) within fits =
    plain_closed (Call hook args target outs) bones (λ counts exports e. hook_plain counts exports e) (closed_list n nesting bones (omega (arith, within)) (BonesFit-hook fits).4)
closed_list (suc n) nesting (Either counts exports ∷ bones) within fits =
    let fit = BonesFit-either fits in
    let short : length bones ≤ n = omega (arith, within) in
    either_closed counts exports bones fit.within
    (λ k less. closed_list n fit.inner (branch counts k bones)
    (omega (arith, short, length-take (slice_index counts k) (drop (sum (take k counts)) bones), length-drop (sum (take k counts)) bones)) (fit.branches k less))
    (closed_list n fit.outer (after_branches counts bones) (omega (arith, short, length-drop (sum counts) bones)) fit.later)
