-- What a walk of the sort checks ends with.
use Rattle.std.proofs.Common.{◌≡◌, ℕ, zero, suc, ◌≤◌, List, ◌∷◌, length, map, sum, Result, Ok, refl, ◌∙◌, ap, ap₂, arith}
use Rattle.sk_def.specs.declared.ids.SortId.{SortId}
use Rattle.sk_def.specs.declared.bone.Bone.{Bone}
use Rattle.sk_def.specs.declared.def.Def.{Def}
use Rattle.sk_def.specs.Layout.{branch, after_branches}
use Rattle.sk_def.specs.Sorts.{Sorts, after_merge}
use Rattle.sk_walk.specs.Walks.{Walks, WalksBranches, no_bone, filter_goes, hook_goes, merge_goes, no_branch, branch_goes}
use Rattle.sk_walk.specs.Sorted.{sort_checks}
use Rattle.sk_sort.specs.DefinedBefore.{sorts_after}
use Rattle.sk_sort.proofs.Walked.{shorter-drop, shorter-branch}

pub ok_same : {A X : Type 0} (v w : A) → ◌≡◌ {A = Result A X} (Ok v) (Ok w) → v ≡ w
ok_same v w e = cc

module _ (d : Def) (own : SortId) where
  mutual
    pub sorts_walked : (n : ℕ) {first : ℕ} {bones : List Bone} {u t : Unit {0}} {g h : Sorts} → length bones ≤ n → Walks (sort_checks d own) first bones u g t (Ok h) → h ≡ sorts_after d n g bones
    sorts_walked n short no_bone = refl
    sorts_walked zero short (filter_goes p rest) = absurd (omega (arith, short))
    sorts_walked zero short (hook_goes p rest) = absurd (omega (arith, short))
    sorts_walked zero short (merge_goes b p rest) = absurd (omega (arith, short))
    sorts_walked (suc n) short (filter_goes {rest = bones} {v = k} p rest) = sorts_walked n (omega (arith, short)) rest ∙ ap (λ g. sorts_after d n g bones) (ok_same _ _ p.1)
    sorts_walked (suc n) short (hook_goes {rest = bones} {v = k} p rest) = sorts_walked n (omega (arith, short)) rest ∙ ap (λ g. sorts_after d n g bones) (ok_same _ _ p.1)
    sorts_walked (suc n) short (merge_goes {counts} {exports} {rest = bones} {w = g} {v = k} {ends} b p rest) =
        sorts_walked n (shorter-drop n (sum counts) bones (omega (arith, short))) rest
        ∙ ap (λ g. sorts_after d n g (after_branches counts bones)) (ok_same _ _ p.1 ∙ ap (after_merge g exports) (ends_walked n (omega (arith, short)) b))

    pub ends_walked : (n : ℕ) {bone : ℕ} {counts ks : List ℕ} {bones : List Bone} {u t : Unit {0}} {g : Sorts} {ends : List Sorts} → length bones ≤ n → WalksBranches (sort_checks d own) bone counts bones ks g u t (Ok ends) → ends ≡ map (λ k. sorts_after d n g (branch counts k bones)) ks
    ends_walked n short no_branch = refl
    ends_walked n short (branch_goes {k = c} {counts} {places = ks} {bones} {w = g} {v = k} {z = z} {ends} f p rest) =
        ap₂ (λ (z : Sorts). λ (zs : List Sorts). z ∷ zs) (sorts_walked n (shorter-branch n c counts bones short) p ∙ ap (λ g. sorts_after d n g (branch counts c bones)) (ok_same _ _ f)) (ends_walked n short rest)
