-- Lists of bones that lie as they must: more of them, wider limits, and a branch bone of its branches.
use Rattle.std.proofs.Common.{◌≡◌, ℕ, zero, suc, ◌+◌, ◌<◌, ◌≤◌, List, [], ◌∷◌, ◌++◌, length, drop, arith, length-append}
use Rattle.std.specs.Prelude.{sum}
use Rattle.std.proofs.lemmas.List.{take-append-le, drop-append-le, take_all, drop_all, length-drop}
use Rattle.std.proofs.lemmas.List.Elements.{All-weaker}
use Rattle.std.proofs.lemmas.List.Sums.{sum_by-cons}
use Rattle.sk_def.specs.Layout.{AreBelow, TargetIsBelow, BonesFit, BranchesFit, no_bone, filter_bone, hook_bone, branch_bone, no_branch, one_branch}
use Rattle.sk_def.specs.declared.ids.Var.{Var}
use Rattle.sk_def.specs.declared.bone.Target.{Target}
use Rattle.sk_def.specs.declared.bone.Target.TheVariants.{Own, Sub}
use Rattle.sk_def.specs.declared.bone.Bone.{Bone}
use Rattle.sk_def.specs.declared.bone.Bone.TheVariants.{Either}

pub below_wider : (v w : ℕ) → v ≤ w → (vs : List Var) → AreBelow v vs → AreBelow w vs
below_wider v w le vs p = All-weaker (λ (x : Var). x.0 < v) (λ (x : Var). x.0 < w) (λ (x : Var) (h : x.0 < v). omega (arith, h, le)) vs p

pub target_wider : (v w : ℕ) → v ≤ w → (target : Target) → TargetIsBelow v target → TargetIsBelow w target
target_wider v w le Own p = tt
target_wider v w le (Sub x) p = omega (arith, p, le)

module _ {hooks vars hooks' vars' : ℕ} (more_hooks : hooks ≤ hooks') (more_vars : vars ≤ vars') where
  mutual
    pub bones_wider : {n : ℕ} {bones : List Bone} (n' : ℕ) → n ≤ n' → BonesFit hooks vars n bones → BonesFit hooks' vars' n' bones
    bones_wider n' le no_bone = no_bone
    bones_wider n' le (filter_bone p q r) = filter_bone (below_wider vars vars' more_vars _ p) (below_wider vars vars' more_vars _ q) (bones_wider n' le r)
    bones_wider n' le (hook_bone d p t q r) =
        hook_bone (omega (arith, d, more_hooks)) (below_wider vars vars' more_vars _ p) (target_wider vars vars' more_vars _ t) (below_wider vars vars' more_vars _ q) (bones_wider n' le r)
    bones_wider zero le (branch_bone two w p b r) = absurd (omega (arith, le))
    bones_wider (suc n') le (branch_bone two w p b r) =
        branch_bone two w (below_wider vars vars' more_vars _ p) (branches_wider n' (omega (arith, le)) b) (bones_wider (suc n') le r)

    pub branches_wider : {n : ℕ} {counts : List ℕ} {bones : List Bone} (n' : ℕ) → n ≤ n' → BranchesFit hooks vars n counts bones → BranchesFit hooks' vars' n' counts bones
    branches_wider n' le no_branch = no_branch
    branches_wider n' le (one_branch p q) = one_branch (bones_wider n' le p) (branches_wider n' le q)

module _ {hooks vars : ℕ} where
  pub bones_both : {n : ℕ} {xs : List Bone} (ys : List Bone) → BonesFit hooks vars n xs → BonesFit hooks vars n ys → BonesFit hooks vars n (xs ++ ys)
  bones_both ys no_bone more = more
  bones_both ys (filter_bone p q r) more = filter_bone p q (bones_both ys r more)
  bones_both ys (hook_bone d p t q r) more = hook_bone d p t q (bones_both ys r more)
  bones_both ys (branch_bone {counts = counts} {rest = rest} two w p b r) more =
      branch_bone two (omega (arith, w, length-append rest ys)) p (rw (take-append-le (sum counts) rest ys w) b) (rw (drop-append-le (sum counts) rest ys w) (bones_both ys r more))

  -- one more branch
  pub branches_more : {n : ℕ} {counts : List ℕ} {xs : List Bone} (ys : List Bone) → BranchesFit hooks vars n counts xs → sum counts ≡ length xs → BonesFit hooks vars n ys →
      BranchesFit hooks vars n (counts ++ length ys ∷ []) (xs ++ ys)
  branches_more {xs = []} ys no_branch e more = one_branch (rw (take_all (length ys) ys (omega arith)) more) no_branch
  branches_more {xs = x ∷ xs} ys no_branch e more = absurd (omega (arith, e))
  branches_more {xs = xs} ys (one_branch {count = count} {counts = counts} p q) e more =
      let total : sum (count ∷ counts) ≡ count + sum counts = sum_by-cons (λ (n : ℕ). n) count counts in
      let few : count ≤ length xs = omega (arith, total, e) in
      let rest : sum counts ≡ length (drop count xs) = omega (arith, total, e, length-drop count xs) in
      one_branch (rw (take-append-le count xs ys few) p) (rw (drop-append-le count xs ys few) (branches_more ys q rest more))

  -- a branch bone goes last, and then its branches
  pub with_branch_bone : {n : ℕ} {before inside : List Bone} {counts : List ℕ} (exports : List Var) → BonesFit hooks vars (suc n) before → 2 ≤ length counts → sum counts ≡ length inside →
      AreBelow vars exports → BranchesFit hooks vars n counts inside → BonesFit hooks vars (suc n) (before ++ Either counts exports ∷ inside)
  with_branch_bone {inside = inside} {counts = counts} exports front two e p b =
      bones_both _ front (branch_bone two (omega (arith, e)) p (rw (take_all (sum counts) inside (omega (arith, e))) b) (rw (drop_all (sum counts) inside (omega (arith, e))) no_bone))
