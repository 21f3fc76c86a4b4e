-- A part of a flat list of bones sees within itself what it sees in the whole list.
use Rattle.std.proofs.Common.{◌≡◌, ℕ, ◌+◌, ◌≤◌, ◌<◌, ◌-◌, List, length, sym, subst, ◌∙◌, arith, inl, inr, slice_get}
use Rattle.std.specs.Prelude.{◌⊎◌}
use Rattle.std.proofs.lemmas.Option.{slice_get_within}
use Rattle.sk_def.specs.declared.def.Def.{Def}
use Rattle.sk_def.specs.declared.ids.Var.{Var}
use Rattle.sk_def.specs.declared.bone.Bone.{Bone}
use Rattle.sk_def.specs.declared.bone.Bone.TheVariants.{Apply, Call, Either}
use Rattle.sk_def.specs.declared.sorts.VarSort.{VarSort}
use Rattle.sk_reasons.specs.Scope.{InBranch, Sees, IsOwnBone, IsOuter}
use Rattle.sk_reasons.specs.Gives.{Gives, by_filter, by_hook, by_branch}

-- the part holds the bones of the list from this place on
pub record AreSame (bones part : List Bone) (from : ℕ) : Type 0 where
  pub at : (i : ℕ) → i < length part → slice_get bones (from + i) ≡ slice_get part i

-- A part of the list from this place on: its branches end within it, and where it lies in a branch that begins before it,
-- this is a branch of the first bone, and all of the part lies in it.
pub record IsPart (bones part : List Bone) (from : ℕ) : Type 0 where
  pub same : AreSame bones part from
  pub closed : (k branch i : ℕ) → InBranch part k branch i → i < length part
  pub around : (k branch i : ℕ) → i < length part → InBranch bones k branch (from + i) →
      (from ≤ k) ⊎ ((k ≡ 0) × ((j : ℕ) → j < length part → InBranch bones k branch (from + j)))

-- a number from this one on is a sum with it
pub rest_of : (from k : ℕ) → from ≤ k → (j : ℕ) × (k ≡ from + j)
rest_of from k h = (k - from, omega (arith, h))

-- a branch comes after its bone
pub comes_later : {bones : List Bone} {k branch i : ℕ} → InBranch bones k branch i → k < i
comes_later h = omega (arith, h.from)

-- the bone of a branch stands in the list
pub in_branch_within : {bones : List Bone} {k branch i : ℕ} → InBranch bones k branch i → k < length bones
in_branch_within {bones} {k} h = slice_get_within bones k (Either h.counts h.exports) h.is

module _ {bones part : List Bone} {from : ℕ} (same : AreSame bones part from) where
  up : {k branch i : ℕ} → InBranch part k branch i → InBranch bones (from + k) branch (from + i)
  up {k} h = record {
    counts = h.counts;
    exports = h.exports;
    is = same.at k (in_branch_within h) ∙ h.is;
    from = omega (arith, h.from);
    below = omega (arith, h.below);
  }

  -- what lies in a branch within the list does so within the part
  pub down : {k branch i : ℕ} → k < length part → InBranch bones (from + k) branch (from + i) → InBranch part k branch i
  down {k} w h = record {
    counts = h.counts;
    exports = h.exports;
    is = sym (same.at k w) ∙ h.is;
    from = omega (arith, h.from);
    below = omega (arith, h.below);
  }

module _ {bones part : List Bone} {from : ℕ} (p : IsPart bones part from) where
  -- in a branch from here on
  down_at : {k branch i : ℕ} → from ≤ k → i < length part → InBranch bones k branch (from + i) →
      (j : ℕ) × (k ≡ from + j) × InBranch part j branch i
  down_at {k} {branch} {i} a w h =
      let r = rest_of from k a in
      let here = subst (λ n. InBranch bones n branch (from + i)) r.1 h in
      (r.0, r.1, down p.same (omega (arith, comes_later here, w)) here)

  -- what is seen in the part is seen in the list
  pub sees_up : {later earlier : ℕ} → later < length part → Sees part later earlier → Sees bones (from + later) (from + earlier)
  sees_up {later} {earlier} w s = record {
    before = omega (arith, s.before);
    outside = λ branch h. s.outside branch (down p.same (omega (arith, w, s.before)) h);
    same_branches = λ k branch h. by k branch (p.around k branch earlier (omega (arith, w, s.before)) h) h;
  }
    where
      by : (k branch : ℕ) → (from ≤ k) ⊎ ((k ≡ 0) × ((j : ℕ) → j < length part → InBranch bones k branch (from + j))) →
          InBranch bones k branch (from + earlier) → InBranch bones k branch (from + later)
      by k branch (inl a) h =
          let r = down_at a (omega (arith, w, s.before)) h in
          subst (λ n. InBranch bones n branch (from + later)) (sym r.1) (up p.same (s.same_branches r.0 branch r.2))
      by k branch (inr a) h = a.1 later w

  -- what is seen in the list, of two bones of the part, is seen in the part
  pub sees_down : {later earlier : ℕ} → later < length part → Sees bones (from + later) (from + earlier) → Sees part later earlier
  sees_down {later} {earlier} w s =
      let less : earlier < later = omega (arith, s.before) in
      record {
        before = less;
        outside = λ branch h. s.outside branch (up p.same h);
        same_branches = λ k branch h.
            down p.same (omega (arith, comes_later h, less, w)) (s.same_branches (from + k) branch (up p.same h));
      }

  -- a branch's own bone in the part is one in the list
  pub own_up : {k branch i : ℕ} → IsOwnBone part k branch i → IsOwnBone bones (from + k) branch (from + i)
  own_up {k} {branch} {i} own =
      let w = p.closed k branch i own.inside in
      record {
        inside = up p.same own.inside;
        outer = λ inner other less h.
            let r = down_at (omega (arith, less)) w h in
            own.outer r.0 other (omega (arith, r.1, less)) r.2;
      }

  -- a branch's own bone in the list is one in the part
  pub own_down : {k branch i : ℕ} → k < length part → IsOwnBone bones (from + k) branch (from + i) → IsOwnBone part k branch i
  own_down {k} {branch} {i} w own = record {
    inside = down p.same w own.inside;
    outer = λ inner other less h. own.outer (from + inner) other (omega (arith, less)) (up p.same h);
  }

  -- a bone of the part that lies in no branch of it is one of the branch's own bones, if the part is a branch of the first bone
  pub outer_own : {branch i : ℕ} → 0 < from → i < length part → InBranch bones 0 branch (from + i) → IsOuter part i → IsOwnBone bones 0 branch (from + i)
  outer_own {branch} {i} later w h outer = record { inside = h; outer = λ inner other less k. by inner other less (p.around inner other i w k) k }
    where
      by : (inner other : ℕ) → 0 < inner → (from ≤ inner) ⊎ ((inner ≡ 0) × ((j : ℕ) → j < length part → InBranch bones inner other (from + j))) →
          InBranch bones inner other (from + i) → ⊥
      by inner other less (inl a) k = let r = down_at a w k in outer r.0 other r.2
      by inner other less (inr a) k = omega (arith, less, a.0)

  -- an own bone of a branch of the first bone lies in no branch of the part
  pub own_outer : {branch i : ℕ} → 0 < from → IsOwnBone bones 0 branch (from + i) → IsOuter part i
  own_outer later own = λ k other h. own.outer (from + k) other (omega (arith, later)) (up p.same h)

  -- the same where the part lies in no branch of the first bone
  pub outer_up : {i : ℕ} → ((branch : ℕ) → ¬ InBranch bones 0 branch (from + i)) → i < length part → IsOuter part i → IsOuter bones (from + i)
  outer_up {i} never w outer = λ k branch h. by k branch (p.around k branch i w h) h
    where
      by : (k branch : ℕ) → (from ≤ k) ⊎ ((k ≡ 0) × ((j : ℕ) → j < length part → InBranch bones k branch (from + j))) →
          InBranch bones k branch (from + i) → ⊥
      by k branch (inl a) h = let r = down_at a w h in outer r.0 branch r.2
      by k branch (inr a) h = never branch (subst (λ n. InBranch bones n branch (from + i)) a.0 h)

  -- what lies in no branch of the list lies in none of the part
  pub outer_down : {i : ℕ} → IsOuter bones (from + i) → IsOuter part i
  outer_down outer = λ k branch h. outer (from + k) branch (up p.same h)

-- what a bone of the part gives, the bone of the list gives
pub gives_up : {d : Def} {bones part : List Bone} {from at : ℕ} {v : Var} {s : VarSort} → IsPart bones part from →
    Gives d part at v s → Gives d bones (from + at) v s
gives_up {part} p (by_filter {at} {filter} {args} {outs} i is o r) =
    by_filter i (p.same.at at (slice_get_within part at (Apply filter args outs) is) ∙ is) o r
gives_up {part} p (by_hook {at} {hook} {args} {target} {outs} i is o r) =
    by_hook i (p.same.at at (slice_get_within part at (Call hook args target outs) is) ∙ is) o r
gives_up {part} p (by_branch {at} {counts} {exports} is c own g) =
    by_branch (p.same.at at (slice_get_within part at (Either counts exports) is) ∙ is) c (own_up p own) (gives_up p g)

-- what a bone of the list gives, the bone of the part gives
pub gives_down : {d : Def} {bones part : List Bone} {from place : ℕ} {v : Var} {s : VarSort} → IsPart bones part from →
    Gives d bones place v s → (at : ℕ) → place ≡ from + at → at < length part → Gives d part at v s
gives_down {bones} {part} {from} p (by_filter {filter} {args} {outs} i is o r) at e w =
    by_filter i (sym (p.same.at at w) ∙ rw e at is) o r
gives_down {bones} {part} {from} p (by_hook {hook} {args} {target} {outs} i is o r) at e w =
    by_hook i (sym (p.same.at at w) ∙ rw e at is) o r
gives_down {bones} {part} {from} p (by_branch {earlier} {counts} {exports} is c own g) at e w =
    let own' = subst (λ n. IsOwnBone bones n 0 earlier) e own in
    let r = rest_of from earlier (omega (arith, comes_later own'.inside)) in
    let own'' = own_down p w (subst (λ n. IsOwnBone bones (from + at) 0 n) r.1 own') in
    by_branch (sym (p.same.at at w) ∙ rw e at is) c own'' (gives_down p g r.0 r.1 (p.closed at 0 r.0 own''.inside))
