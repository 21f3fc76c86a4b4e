-- Inversions of the layout, and its tests.
use Rattle.std.proofs.Common.{◌≡◌, ℕ, zero, suc, ◌+◌, ◌≤◌, ◌<◌, Bool, List, [], ◌∷◌, take, drop, sum, length, get_or, add-one, arith, ◌∙◌, ap}
use Rattle.std.specs.Prelude.{◌↔◌, IsTrue, ◌-◌}
use Rattle.std.proofs.Math.Seq.{drop-cons}
use Rattle.std.proofs.lemmas.List.{length-drop, take-take, drop-drop, drop-take}
use Rattle.std.proofs.lemmas.List.Sums.{sum_by-cons, sum_by-take-drop}
use Rattle.sk_def.specs.declared.ids.HookId.{HookId}
use Rattle.sk_def.specs.declared.ids.Var.{Var}
use Rattle.sk_def.specs.declared.bone.Target.{Target}
use Rattle.sk_def.specs.declared.filter.Filter.{Filter}
use Rattle.sk_def.specs.declared.bone.Bone.{Bone}
use Rattle.sk_def.specs.declared.bone.Bone.TheVariants.{Apply, Call, Either}
use Rattle.sk_def.specs.Layout.{BonesFit, BranchesFit, AreBelow, TargetIsBelow, no_bone, filter_bone, hook_bone, branch_bone, one_branch, branch}

module _ {hooks vars : ℕ} where
  filter_parts : {nesting : ℕ} {filter : Filter} {args outs : List Var} {rest : List Bone} →
      BonesFit hooks vars nesting (Apply filter args outs ∷ rest) → BonesFit hooks vars nesting rest
  filter_parts (filter_bone p q r) = r

  hook_parts : {nesting : ℕ} {id : HookId} {args : List Var} {target : Target} {outs : List Var} {rest : List Bone} →
      BonesFit hooks vars nesting (Call id args target outs ∷ rest) → BonesFit hooks vars nesting rest
  hook_parts (hook_bone p q r s t) = t

  either_parts : {nesting : ℕ} {counts : List ℕ} {exports : List Var} {rest : List Bone} →
      BonesFit hooks vars nesting (Either counts exports ∷ rest) → BonesFit hooks vars nesting (drop (sum counts) rest)
  either_parts (branch_bone p q r s t) = t

  branch_parts : {nesting count : ℕ} {counts : List ℕ} {bones : List Bone} → BranchesFit hooks vars nesting (count ∷ counts) bones →
      BonesFit hooks vars nesting (take count bones) × BranchesFit hooks vars nesting counts (drop count bones)
  branch_parts (one_branch p q) = (p, q)

  pub nothing_fits : (nesting : ℕ) (bones : List Bone) → length bones ≡ 0 → BonesFit hooks vars nesting bones
  nothing_fits nesting [] h = no_bone
  nothing_fits nesting (b ∷ bs) h = absurd (omega (arith, h))

  module _ (r : Bool) (nesting : ℕ) (bones rest : List Bone) where
    pub filter_fits : (filter : Filter) (args outs : List Var) → bones ≡ Apply filter args outs ∷ rest → AreBelow vars args → AreBelow vars outs →
        IsTrue r ↔ BonesFit hooks vars nesting rest → IsTrue r ↔ BonesFit hooks vars nesting bones
    filter_fits filter args outs e p q k = rw e ((λ t. filter_bone p q (k.0 t)), (λ f. k.1 (filter_parts f)))

    pub hook_fits : (id : HookId) (args : List Var) (target : Target) (outs : List Var) → bones ≡ Call id args target outs ∷ rest →
        id.0 < hooks → AreBelow vars args → TargetIsBelow vars target → AreBelow vars outs →
        IsTrue r ↔ BonesFit hooks vars nesting rest → IsTrue r ↔ BonesFit hooks vars nesting bones
    hook_fits id args target outs e d p t q k = rw e ((λ h. hook_bone d p t q (k.0 h)), (λ f. k.1 (hook_parts f)))

  pub either_fits : (r : Bool) (nesting : ℕ) (bones rest inside later : List Bone) (counts : List ℕ) (exports : List Var) → bones ≡ Either counts exports ∷ rest →
      0 < nesting → 2 ≤ length counts → sum counts ≤ length rest → AreBelow vars exports →
      inside ≡ take (sum counts) rest → later ≡ drop (sum counts) rest → BranchesFit hooks vars (nesting - 1) counts inside →
      IsTrue r ↔ BonesFit hooks vars nesting later → IsTrue r ↔ BonesFit hooks vars nesting bones
  either_fits r zero bones rest inside later counts exports e n two within p i l b k = absurd (omega (arith, n))
  either_fits r (suc nesting) bones rest inside later counts exports e n two within p i l b k =
      let m : suc nesting - 1 ≡ nesting = omega arith in
      let b' = rw (m, i) at b in
      let k' = rw l at k in
      rw e ((λ t. branch_bone two within p b' (k'.0 t)), (λ f. k'.1 (either_parts f)))

  module _ (nesting count place : ℕ) (counts : List ℕ) (bones left : List Bone) (within : place < length counts) (is : count ≡ get_or counts place 0)
      (so_far : BranchesFit hooks vars nesting (drop place counts) left ↔ BranchesFit hooks vars nesting counts bones) where
    more : drop place counts ≡ count ∷ drop (place + 1) counts
    more = rw (is, add-one) (drop-cons counts place 0 within)

    pub branch_fails : (BonesFit hooks vars nesting (take count left) → ⊥) → BranchesFit hooks vars nesting counts bones → ⊥
    branch_fails n f = n (branch_parts (rw more at (so_far.1 f))).0

    pub branch_fits : BonesFit hooks vars nesting (take count left) →
        BranchesFit hooks vars nesting (drop (place + 1) counts) (drop count left) ↔ BranchesFit hooks vars nesting counts bones
    branch_fits p = ((λ f. so_far.0 (rw more (one_branch p f))), (λ f. (branch_parts (rw more at (so_far.1 f))).1))

    pub sums_on : sum (drop place counts) ≡ length left → (count ≤ length left) × (sum (drop (place + 1) counts) ≡ length (drop count left))
    sums_on h =
        let s = rw more at h in
        let t = sum_by-cons (λ (n : ℕ). n) count (drop (place + 1) counts) in
        (omega (arith, s, t), omega (arith, s, t, length-drop count left))

-- where branches of these sizes fit one after another, the one at each place does
pub branch_at : {hooks vars nesting : ℕ} (counts : List ℕ) (bones : List Bone) (k : ℕ) → k < length counts →
    BranchesFit hooks vars nesting counts bones → BonesFit hooks vars nesting (branch counts k bones)
branch_at [] bones k within f = absurd (omega (arith, within))
branch_at (count ∷ counts) bones zero within f = (branch_parts f).0
branch_at (count ∷ counts) bones (suc k) within f =
    let later = branch_at counts (drop count bones) k (omega (arith, within)) (branch_parts f).1 in
    rw (sum_by-cons (λ (n : ℕ). n) count (take k counts), ← drop-drop (sum (take k counts)) count bones) later

-- a branch is the same among the bones of all branches and among all that follow the branch bone
pub branch-take : (counts : List ℕ) (k : ℕ) (bones : List Bone) → k < length counts →
    branch counts k (take (sum counts) bones) ≡ branch counts k bones
branch-take counts k bones within =
    let more = sum_by-take-drop (λ (n : ℕ). n) counts k in
    let here = ap (λ (ns : List ℕ). sum ns) (drop-cons counts k 0 within) ∙ sum_by-cons (λ (n : ℕ). n) (get_or counts k 0) (drop (suc k) counts) in
    let rest : ℕ = get_or counts k 0 + sum (drop (suc k) counts) in
    let whole : sum counts ≡ sum (take k counts) + rest = omega (arith, more, here) in
    rw (whole, drop-take (sum (take k counts)) rest bones) (take-take (get_or counts k 0) rest (drop (sum (take k counts)) bones) (omega arith))
