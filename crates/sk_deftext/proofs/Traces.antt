-- The variables of bones, as they come in the text: of appended lists, and of a branch bone with its branches.
use Rattle.std.proofs.Common.{◌≡◌, ℕ, zero, suc, ◌+◌, ◌≤◌, List, [], ◌∷◌, ◌++◌, length, take, drop, refl, ap, ◌∙◌, arith, append_assoc, length-append, length-take, length-drop}
use Rattle.std.specs.Prelude.{sum, flat_map}
use Rattle.std.proofs.lemmas.List.{append-nil, take-append-le, drop-append-le, take_all, drop_all}
use Rattle.std.proofs.lemmas.List.Sums.{sum_by-cons}
use Rattle.std.proofs.lemmas.Grind.{flat_map-append}
use Rattle.sk_def.specs.Layout.{BonesFit, no_bone, filter_bone, hook_bone, branch_bone, after_branches}
use Rattle.sk_def.specs.declared.ids.Var.{Var}
use Rattle.sk_def.specs.declared.bone.Bone.{Bone}
use Rattle.sk_def.specs.declared.bone.Bone.TheVariants.{Apply, Call, Either}
use Rattle.sk_deftext.specs.Canonical.{branches}
use Rattle.sk_deftext.specs.Written.{target_vars, bones_vars}

-- of the branches of these sizes, where two readings of a short list are the same
same_branches : (f g : List Bone → List Var) (most : ℕ) → ((bones : List Bone) → length bones ≤ most → f bones ≡ g bones) →
    (counts : List ℕ) (bones : List Bone) → length bones ≤ most → flat_map f (branches counts bones) ≡ flat_map g (branches counts bones)
same_branches f g most same [] bones h = refl
same_branches f g most same (count ∷ counts) bones h =
    let first = same (take count bones) (omega (arith, h, length-take count bones)) in
    let later = same_branches f g most same counts (drop count bones) (omega (arith, h, length-drop count bones)) in
    cc (first, later)

-- a list has the same variables at each size that it has room in
pub same_size : (s t : ℕ) (bones : List Bone) → length bones ≤ s → length bones ≤ t → bones_vars s bones ≡ bones_vars t bones
same_size s t [] h k = refl
same_size zero t (bone ∷ bones) h k = absurd (omega (arith, h))
same_size (suc s) zero (bone ∷ bones) h k = absurd (omega (arith, k))
same_size (suc s) (suc t) (Apply filter args outs ∷ bones) h k = ap (λ vs. args ++ (outs ++ vs)) (same_size s t bones (omega (arith, h)) (omega (arith, k)))
same_size (suc s) (suc t) (Call hook args target outs ∷ bones) h k =
    ap (λ vs. args ++ (target_vars target ++ (outs ++ vs))) (same_size s t bones (omega (arith, h)) (omega (arith, k)))
same_size (suc s) (suc t) (Either counts exports ∷ bones) h k =
    let inner = same_branches (bones_vars s) (bones_vars t) (length bones)
    (λ (inside : List Bone) (few : length inside ≤ length bones). same_size s t inside (omega (arith, few, h)) (omega (arith, few, k))) counts bones (omega arith) in
    let later = same_size s t (after_branches counts bones) (omega (arith, h, length-drop (sum counts) bones)) (omega (arith, k, length-drop (sum counts) bones)) in
    ap (λ vs. vs ++ (exports ++ bones_vars s (after_branches counts bones))) inner
    ∙ ap (λ vs. flat_map (bones_vars t) (branches counts bones) ++ (exports ++ vs)) later

-- branches that end in a front are its branches
front_branches : (counts : List ℕ) (xs ys : List Bone) → sum counts ≤ length xs → branches counts (xs ++ ys) ≡ branches counts xs
front_branches [] xs ys h = refl
front_branches (count ∷ counts) xs ys h =
    let total : sum (count ∷ counts) ≡ count + sum counts = sum_by-cons (λ (n : ℕ). n) count counts in
    let few : count ≤ length xs = omega (arith, total, h) in
    let rest : sum counts ≤ length (drop count xs) = omega (arith, total, h, length-drop count xs) in
    ap (λ bs. bs ∷ branches counts (drop count (xs ++ ys))) (take-append-le count xs ys few)
    ∙ ap (λ bs. take count xs ∷ branches counts bs) (drop-append-le count xs ys few)
    ∙ ap (λ bs. take count xs ∷ bs) (front_branches counts (drop count xs) ys rest)

-- one branch more
more_branches : (counts : List ℕ) (xs ys : List Bone) → sum counts ≡ length xs → branches (counts ++ length ys ∷ []) (xs ++ ys) ≡ branches counts xs ++ ys ∷ []
more_branches [] [] ys e = ap (λ bs. bs ∷ []) (take_all (length ys) ys (omega arith))
more_branches [] (x ∷ xs) ys e = absurd (omega (arith, e))
more_branches (count ∷ counts) xs ys e =
    let total : sum (count ∷ counts) ≡ count + sum counts = sum_by-cons (λ (n : ℕ). n) count counts in
    let few : count ≤ length xs = omega (arith, total, e) in
    let rest : sum counts ≡ length (drop count xs) = omega (arith, total, e, length-drop count xs) in
    ap (λ bs. bs ∷ branches (counts ++ length ys ∷ []) (drop count (xs ++ ys))) (take-append-le count xs ys few)
    ∙ ap (λ bs. take count xs ∷ branches (counts ++ length ys ∷ []) bs) (drop-append-le count xs ys few)
    ∙ ap (λ bs. take count xs ∷ bs) (more_branches counts (drop count xs) ys rest)

-- lists that lie as they must, one after the other
both_at : {hooks vars n : ℕ} {xs : List Bone} (size : ℕ) (ys : List Bone) → BonesFit hooks vars n xs → length (xs ++ ys) ≤ size → bones_vars size (xs ++ ys) ≡ bones_vars size xs ++ bones_vars size ys
both_at size ys no_bone h = refl
both_at zero ys (filter_bone p q r) h = absurd (omega (arith, h))
both_at zero ys (hook_bone d p t q r) h = absurd (omega (arith, h))
both_at zero ys (branch_bone two w p b r) h = absurd (omega (arith, h))
both_at (suc s) ys (filter_bone {args = args} {outs = outs} {rest = rest} p q r) h =
    let few : length ys ≤ s = omega (arith, h, length-append rest ys) in
    let later = both_at s ys r (omega (arith, h)) ∙ ap (λ vs. bones_vars s rest ++ vs) (same_size s (suc s) ys few (omega (arith, few))) in
    ap (λ vs. args ++ (outs ++ vs)) later ∙ simp append_assoc
both_at (suc s) ys (hook_bone {args = args} {target = target} {outs = outs} {rest = rest} d p t q r) h =
    let few : length ys ≤ s = omega (arith, h, length-append rest ys) in
    let later = both_at s ys r (omega (arith, h)) ∙ ap (λ vs. bones_vars s rest ++ vs) (same_size s (suc s) ys few (omega (arith, few))) in
    ap (λ vs. args ++ (target_vars target ++ (outs ++ vs))) later ∙ simp append_assoc
both_at (suc s) ys (branch_bone {counts = counts} {exports = exports} {rest = rest} two w p b r) h =
    let few : length ys ≤ s = omega (arith, h, length-append rest ys) in
    let within : length (after_branches counts rest ++ ys) ≤ s = omega (arith, h, length-append rest ys, length-append (after_branches counts rest) ys, length-drop (sum counts) rest) in
    let later = both_at s ys r within ∙ ap (λ vs. bones_vars s (after_branches counts rest) ++ vs) (same_size s (suc s) ys few (omega (arith, few))) in
    ap (λ bs. flat_map (bones_vars s) bs ++ (exports ++ bones_vars s (after_branches counts (rest ++ ys)))) (front_branches counts rest ys w)
    ∙ ap (λ bs. flat_map (bones_vars s) (branches counts rest) ++ (exports ++ bones_vars s bs)) (drop-append-le (sum counts) rest ys w)
    ∙ ap (λ vs. flat_map (bones_vars s) (branches counts rest) ++ (exports ++ vs)) later ∙ simp append_assoc

-- the variables of a list of bones
abbrev pub vars_of : List Bone → List Var
vars_of bones = bones_vars (length bones) bones

pub both_vars : {hooks vars n : ℕ} (xs ys : List Bone) → BonesFit hooks vars n xs → vars_of (xs ++ ys) ≡ vars_of xs ++ vars_of ys
both_vars xs ys p =
    both_at (length (xs ++ ys)) ys p (omega arith)
    ∙ ap (λ vs. vs ++ bones_vars (length (xs ++ ys)) ys) (same_size (length (xs ++ ys)) (length xs) xs (omega (arith, length-append xs ys)) (omega arith))
    ∙ ap (λ vs. vars_of xs ++ vs) (same_size (length (xs ++ ys)) (length ys) ys (omega (arith, length-append xs ys)) (omega arith))

-- the variables of branches of these sizes
abbrev pub inner_vars : List ℕ → List Bone → List Var
inner_vars counts inside = flat_map vars_of (branches counts inside)

pub inner_more : (counts : List ℕ) (inside bones : List Bone) → sum counts ≡ length inside → inner_vars (counts ++ length bones ∷ []) (inside ++ bones) ≡ inner_vars counts inside ++ vars_of bones
inner_more counts inside bones e =
    ap (flat_map vars_of) (more_branches counts inside bones e) ∙ flat_map-append vars_of (branches counts inside) (bones ∷ [])
    ∙ ap (λ vs. inner_vars counts inside ++ vs) (append-nil (vars_of bones))

-- a branch bone and its branches
pub branch_vars : (counts : List ℕ) (exports : List Var) (inside : List Bone) → sum counts ≡ length inside → vars_of (Either counts exports ∷ inside) ≡ inner_vars counts inside ++ exports
branch_vars counts exports inside e =
    ap (λ bs. flat_map (bones_vars (length inside)) (branches counts inside) ++ (exports ++ bones_vars (length inside) bs)) (drop_all (sum counts) inside (omega (arith, e)))
    ∙ ap (λ vs. flat_map (bones_vars (length inside)) (branches counts inside) ++ vs) (append-nil exports)
    ∙ ap (λ vs. vs ++ exports)
    (same_branches (bones_vars (length inside)) vars_of (length inside)
    (λ (bones : List Bone) (few : length bones ≤ length inside). same_size (length inside) (length bones) bones few (omega arith)) counts inside (omega arith))
