-- The bones that are checked are those of the flat list, each once.
use Rattle.std.proofs.Common.{◌≡◌, ℕ, zero, suc, ◌+◌, ◌≤◌, ◌<◌, List, [], ◌∷◌, ◌++◌, map, length, take, drop, sum, refl, sym, ap, subst, ◌∙◌, arith}
use Rattle.std.specs.Prelude.{slice_index}
use Rattle.std.specs.List.{enumerate_from}
use Rattle.std.specs.List.Sorted.{IsPermutation}
use Rattle.std.proofs.lemmas.List.{map-append, take-take, drop-take, drop-drop}
use Rattle.std.proofs.lemmas.List.Sums.{sum_by-cons}
use Rattle.std.proofs.lemmas.List.Sorted.{IsPermutation-refl, IsPermutation-cons, IsPermutation-append, IsPermutation-middle, IsPermutation-trans}
use Rattle.sk_def.specs.declared.def.Def.{Def}
use Rattle.sk_def.specs.declared.def.Rule.{Rule}
use Rattle.sk_def.specs.declared.def.Hook.{Hook}
use Rattle.sk_def.specs.declared.def.Con.{Con}
use Rattle.sk_def.specs.declared.bone.Bone.{Bone}
use Rattle.sk_def.specs.declared.bone.Bone.TheVariants.{Apply, Call, Either}
use Rattle.sk_def.specs.Layout.{BonesFit, branch, branch_places, first_of_branch, after_branches}
use Rattle.sk_def.specs.Sorts.{Sorts, after_filter, after_hook, after_merge}
use Rattle.sk_def.specs.Fits.{RuleFits}
use Rattle.sk_walk.proofs.Checks.{BonesFit-filter, BonesFit-hook, BonesFit-either}
use Rattle.sk_sort.specs.DefinedBefore.{Placed, placed}
use Rattle.sk_sort.specs.Rules.{BonesArePlaced, header_sorts}
use Rattle.sk_sort.proofs.Walked.{shorter-drop, shorter-branch, inside, ends_of, after_inside}

abbrev numbered : List Placed → List (ℕ × Bone)
numbered ps = map (λ (p : Placed). (p.number, p.bone)) ps

abbrev Once : List Placed → ℕ → List Bone → Type 0
Once ps first bones = IsPermutation (numbered ps) (enumerate_from first bones)

-- a numbered list is its first bones and the rest
enumerate-split : (first n : ℕ) (bones : List Bone) →
    enumerate_from first (take n bones) ++ enumerate_from (first + n) (drop n bones) ≡ enumerate_from first bones
enumerate-split first zero bones = let e : first + 0 ≡ first = omega arith in rw e refl
enumerate-split first (suc n) [] = refl
enumerate-split first (suc n) (bone ∷ bones) =
    let e : first + suc n ≡ first + 1 + n = omega arith in
    rw e (ap (λ (xs : List (ℕ × Bone)). (first, bone) ∷ xs) (enumerate-split (first + 1) n bones))

-- the size of the next branch
next_size : (counts : List ℕ) (j count : ℕ) (left : List ℕ) → drop j counts ≡ count ∷ left →
    (j < length counts) × (slice_index counts j ≡ count) × (drop (j + 1) counts ≡ left) × (sum (take (j + 1) counts) ≡ sum (take j counts) + count)
next_size [] zero count left h = cc
next_size [] (suc j) count left h = cc
next_size (c ∷ cs) zero count left h =
    let same : c ≡ count = cc in
    let rest : cs ≡ left = cc in
    (omega arith, same, rest, omega (arith, same, sum_by-cons (λ (n : ℕ). n) c []))
next_size (c ∷ cs) (suc j) count left h =
    let r = next_size cs j count left h in
    let e : suc j + 1 ≡ suc (j + 1) = omega arith in
    (omega (arith, r.0), r.1, rw e r.2, rw e (omega (arith, r.3, sum_by-cons (λ (n : ℕ). n) c (take (j + 1) cs), sum_by-cons (λ (n : ℕ). n) c (take j cs))))

module _ (d : Def) where
  -- the branches from place j on, where each branch is placed once
  branches_once : (n bone : ℕ) (g : Sorts) (counts : List ℕ) (bones : List Bone) →
      ((k : ℕ) → k < length counts → Once (placed d n (first_of_branch bone counts k) g (branch counts k bones)) (first_of_branch bone counts k) (branch counts k bones)) →
      (j : ℕ) (left : List ℕ) → drop j counts ≡ left →
      Once (inside d n bone g counts bones (branch_places j left)) (first_of_branch bone counts j) (take (sum left) (drop (sum (take j counts)) bones))
  branches_once n bone g counts bones each j [] h = IsPermutation-refl []
  branches_once n bone g counts bones each j (count ∷ left) h =
      let next = next_size counts j count left h in
      let before = sum (take j counts) in
      let first = first_of_branch bone counts j in
      let here = placed d n first g (branch counts j bones) in
      let later = inside d n bone g counts bones (branch_places (j + 1) left) in
      let whole = take (count + sum left) (drop before bones) in
      let a = each j next.0 in
      let b = branches_once n bone g counts bones each (j + 1) left next.2 in
      let from : first_of_branch bone counts (j + 1) ≡ first + count = omega (arith, next.3) in
      let both = IsPermutation-append (numbered here) (enumerate_from first (branch counts j bones)) (numbered later)
      (enumerate_from (first_of_branch bone counts (j + 1)) (take (sum left) (drop (sum (take (j + 1) counts)) bones))) a b in
      let one : branch counts j bones ≡ take count whole = rw (next.1, take-take count (count + sum left) (drop before bones) (omega arith)) refl in
      let more : take (sum left) (drop (sum (take (j + 1) counts)) bones) ≡ drop count whole =
      rw (next.3, drop-take count (sum left) (drop before bones), drop-drop count before bones) refl in
      let joined = enumerate-split first count whole in
      let sizes : sum (count ∷ left) ≡ count + sum left = sum_by-cons (λ (n : ℕ). n) count left in
      let P : List (ℕ × Bone) → Type 0 = λ xs. IsPermutation (numbered here ++ numbered later) xs in
      let Q : List (ℕ × Bone) → Type 0 = λ xs. IsPermutation xs (enumerate_from first (take (sum (count ∷ left)) (drop before bones))) in
      let ends = ap (λ (bs : List Bone). enumerate_from first bs) one in
      let rest = ap (λ (bs : List Bone). enumerate_from (first_of_branch bone counts (j + 1)) bs) more ∙ ap (λ (k : ℕ). enumerate_from k (drop count whole)) from in
      let list : enumerate_from first (branch counts j bones) ++ enumerate_from (first_of_branch bone counts (j + 1)) (take (sum left) (drop (sum (take (j + 1) counts)) bones)) ≡ enumerate_from first whole =
      rw (ends, rest) joined in
      let moved = subst P (list ∙ ap (λ (k : ℕ). enumerate_from first (take k (drop before bones))) (sym sizes)) both in
      subst Q (sym (map-append (λ (p : Placed). (p.number, p.bone)) here later)) moved

  pub placed_once : {hooks vars : ℕ} (n first : ℕ) (g : Sorts) (nesting : ℕ) (bones : List Bone) → length bones ≤ n → BonesFit hooks vars nesting bones →
      Once (placed d n first g bones) first bones
  placed_once n first g nesting [] within fits = IsPermutation-refl []
  placed_once zero first g nesting (bone ∷ bones) within fits = absurd (omega (arith, within))
  placed_once (suc n) first g nesting (Apply filter args outs ∷ bones) within fits =
      let after = after_filter g filter outs in
      IsPermutation-cons (first, Apply filter args outs) (numbered (placed d n (first + 1) after bones)) (enumerate_from (first + 1) bones)
      (placed_once n (first + 1) after nesting bones (omega (arith, within)) (BonesFit-filter fits).2)
  placed_once (suc n) first g nesting (Call hook args target outs ∷ bones) within fits =
      let after = after_hook d g hook outs in
      IsPermutation-cons (first, Call hook args target outs) (numbered (placed d n (first + 1) after bones)) (enumerate_from (first + 1) bones)
      (placed_once n (first + 1) after nesting bones (omega (arith, within)) (BonesFit-hook fits).4)
  placed_once (suc n) first g nesting (Either counts exports ∷ bones) within fits =
      let fit = BonesFit-either fits in
      let short : length bones ≤ n = omega (arith, within) in
      let ends = ends_of d n g counts bones (branch_places 0 counts) in
      let after = after_merge g exports ends in
      let before = inside d n first g counts bones (branch_places 0 counts) in
      let later = placed d n (first + 1 + sum counts) after (after_branches counts bones) in
      let a = branches_once n first g counts bones
      (λ k w. placed_once n (first_of_branch first counts k) g fit.inner (branch counts k bones) (shorter-branch n k counts bones short) (fit.branches k w)) 0 counts refl in
      let zero_more : first + 1 + 0 ≡ first + 1 = omega arith in
      let a' = rw zero_more at a in
      let b = placed_once n (first + 1 + sum counts) after fit.outer (after_branches counts bones) (shorter-drop n (sum counts) bones short) fit.later in
      let both = IsPermutation-append (numbered before) (enumerate_from (first + 1) (take (sum counts) bones)) (numbered later) (enumerate_from (first + 1 + sum counts) (drop (sum counts) bones)) a' b in
      let bone : ℕ × Bone = (first, Either counts exports) in
      let all = IsPermutation-cons bone (numbered before ++ numbered later)
      (enumerate_from (first + 1) (take (sum counts) bones) ++ enumerate_from (first + 1 + sum counts) (drop (sum counts) bones)) both in
      let middle = IsPermutation-middle (numbered before) bone (numbered later) in
      let joined = IsPermutation-trans (numbered before ++ bone ∷ numbered later) (bone ∷ (numbered before ++ numbered later)) _ middle all in
      let P : List (ℕ × Bone) → Type 0 = λ xs. IsPermutation (numbered before ++ bone ∷ numbered later) (bone ∷ xs) in
      let Q : List (ℕ × Bone) → Type 0 = λ xs. IsPermutation xs (bone ∷ enumerate_from (first + 1) bones) in
      subst Q (sym (map-append (λ (p : Placed). (p.number, p.bone)) before (after_inside d n first g counts exports bones)))
      (subst P (enumerate-split (first + 1) (sum counts) bones) joined)

pub rule_placed : (d : Def) (rule : Rule) (hook : Hook) (con : Con) → RuleFits d rule → BonesArePlaced d rule hook con
rule_placed d rule hook con fits =
    let size = length rule.bones in
    placed_once d size 1 (header_sorts rule hook con) 8 rule.bones (omega arith) fits.bones_fit
