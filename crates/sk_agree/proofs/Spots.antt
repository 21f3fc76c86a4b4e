-- What the positions of a rule have in a walk of its bones: the outcome of each bone, inner ones included.
use Rattle.std.proofs.Common.{◌≡◌, ℕ, zero, suc, ◌+◌, ◌≤◌, ◌<◌, List, [], ◌∷◌, ◌++◌, length, map, take, drop, sum, flat_map, Option, Some, None, refl, ◌∙◌, ap, subst, arith, append_assoc}
use Rattle.std.specs.Prelude.{slice_get, slice_index}
use Rattle.std.specs.List.{AllByRecursion}
use Rattle.std.specs.Option.{option_map, option_and_then}
use Rattle.std.proofs.lemmas.List.{length-append, length-take, length-drop}
use Rattle.std.proofs.lemmas.List.Sums.{sum_by-cons}
use Rattle.sk_def.specs.declared.ids.HookId.{HookId}
use Rattle.sk_def.specs.declared.ids.Var.{Var}
use Rattle.sk_def.specs.declared.filter.Filter.{Filter}
use Rattle.sk_def.specs.declared.bone.Target.{Target}
use Rattle.sk_def.specs.declared.bone.Bone.{Bone}
use Rattle.sk_def.specs.declared.bone.Bone.TheVariants.{Apply, Call, Either}
use Rattle.sk_def.specs.Layout.{BonesFit, no_bone, filter_bone, hook_bone, branch_bone, branch, branch_places, first_of_branch, after_branches}
use Rattle.sk_def.proofs.Layouts.{branch_at, branch-take}
use Rattle.sk_sort.proofs.Walked.{shorter-drop, shorter-branch}
use Rattle.sk_deriv.specs.Env.{args_at, values_at, target_at, gain}
use Rattle.sk_lattice.specs.Domain.{Domain}
use Rattle.sk_absfilter.specs.Abstract.{Outcome}
use Rattle.sk_table.specs.declared.triple.Cover.{Cover}
use Rattle.sk_abswalk.specs.Walk.{AbsEnv, argument_in, Ends, uncovered, ill, with, Walk, go_on, in_world, Answers, call_at, ask, filtered, walk_branches, join_exports, abstract_world, quiet}
use Rattle.sk_abswalk.specs.Order.{GotThere}
use Rattle.sk_rounds.proofs.Lists.{all_first, all_second}

-- Ends of walks.

-- what a walk ends with; nothing where it gets to no end
abbrev pub end_of : {D X : Type 0} → Ends D X → Option X
end_of (uncovered c) = None
end_of ill = None
end_of (with o) = o

-- a walk that got to its end, in two parts
pub record Split {D X Y : Type 0} (Q : Cover D → Type 0) (asked : List (Cover D)) (ends : Ends D X) (next : Option X → Walk D Y) : Type 0 where
  pub got : GotThere ends
  pub calls : AllByRecursion Q asked
  pub later_got : GotThere (next (end_of ends)).ends
  pub later_calls : AllByRecursion Q (next (end_of ends)).asked
  pub same : end_of (go_on asked ends next).ends ≡ end_of (next (end_of ends)).ends

pub split : {D X Y : Type 0} (Q : Cover D → Type 0) (asked : List (Cover D)) (ends : Ends D X) (next : Option X → Walk D Y) → GotThere (go_on asked ends next).ends → AllByRecursion Q (go_on asked ends next).asked → Split Q asked ends next
split Q asked (uncovered c) next g h = absurd g
split Q asked ill next g h = absurd g
split Q asked (with o) next g h = record { got = tt; calls = all_first Q asked (next o).asked h; later_got = g; later_calls = all_second Q asked (next o).asked h; same = refl }

-- walks of branches that all got to an end
pub record BranchesGot {D X : Type 0} (Q : Cover D → Type 0) (walk : ℕ → Walk D X) (ks : List ℕ) : Type 0 where
  pub each : AllByRecursion (λ k. GotThere (walk k).ends × AllByRecursion Q (walk k).asked) ks
  pub ends : (walk_branches walk ks).ends ≡ with (Some (map (λ k. end_of (walk k).ends) ks))

pub branches_got : {D X : Type 0} (Q : Cover D → Type 0) (walk : ℕ → Walk D X) (ks : List ℕ) → GotThere (walk_branches walk ks).ends → AllByRecursion Q (walk_branches walk ks).asked → BranchesGot Q walk ks
branches_got Q walk [] g h = record { each = tt; ends = refl }
branches_got {D} {X} Q walk (k ∷ ks) g h =
    let first = split Q (walk k).asked (walk k).ends (λ o. go_on (walk_branches walk ks).asked (walk_branches walk ks).ends (in_world (λ os. quiet (with (Some (o ∷ os)))))) g h in
    let o = end_of (walk k).ends in
    let next = split Q (walk_branches walk ks).asked (walk_branches walk ks).ends (in_world (λ os. quiet (with (Some (o ∷ os))))) first.later_got first.later_calls in
    let rest = branches_got Q walk ks next.got next.calls in
    record { each = ((first.got, first.calls), rest.each); ends = both (walk k).asked (walk k).ends (walk_branches walk ks).asked (walk_branches walk ks).ends (map (λ k. end_of (walk k).ends) ks) first.got rest.ends }
  where
    both : (asked : List (Cover D)) (ends : Ends D X) (more : List (Cover D)) (rest : Ends D (List (Option X))) (os : List (Option X)) → GotThere ends → rest ≡ with (Some os) →
        (go_on asked ends (λ o. go_on more rest (in_world (λ os. quiet (with (Some (o ∷ os))))))).ends ≡ with (Some (end_of ends ∷ os))
    both asked (uncovered c) more rest os g e = absurd g
    both asked ill more rest os g e = absurd g
    both asked (with o) more rest os g e = rw e refl

-- Lists by place.

-- the list stands in the other one from this place on
abbrev pub IsAt : {A : Type 0} → List A → ℕ → List A → Type 0
IsAt P n [] = Unit {0}
IsAt P n (x ∷ xs) = (slice_get P n ≡ Some x) × IsAt P (n + 1) xs

pub at_append : {A : Type 0} (P : List A) (n : ℕ) (xs ys : List A) → IsAt P n (xs ++ ys) → IsAt P n xs × IsAt P (n + length xs) ys
at_append P n [] ys h = let same : n ≡ n + 0 = omega arith in (tt, subst (λ m. IsAt P m ys) same h)
at_append P n (x ∷ xs) ys h =
    let p = at_append P (n + 1) xs ys h.1 in
    let same : n + 1 + length xs ≡ n + suc (length xs) = omega arith in
    ((h.0, p.0), subst (λ m. IsAt P m ys) same p.1)

at_from : {A : Type 0} (P : List A) (n : ℕ) (xs : List A) → ((i : ℕ) → slice_get P (n + i) ≡ slice_get xs i) → IsAt P n xs
at_from P n [] h = tt
at_from P n (x ∷ xs) h =
    let here : n + 0 ≡ n = omega arith in
    (subst (λ j. slice_get P j ≡ Some x) here (h 0), at_from P (n + 1) xs (λ i. let next : n + suc i ≡ n + 1 + i = omega arith in subst (λ j. slice_get P j ≡ slice_get xs i) next (h (suc i))))

pub at_start : {A : Type 0} (P : List A) → IsAt P 0 P
at_start P = at_from P 0 P (λ i. let same : 0 + i ≡ i = omega arith in ap (slice_get P) same)

-- as many as the sizes say, one list after another
spread_from : {A : Type 0} (P : List A) (f : ℕ → List A) (rest : List A) (i : ℕ) (counts : List ℕ) (start : ℕ) → ((j : ℕ) → j < length counts → length (f (i + j)) ≡ slice_index counts j) → IsAt P start (flat_map f (branch_places i counts) ++ rest) →
    ((j : ℕ) → j < length counts → IsAt P (start + sum (take j counts)) (f (i + j))) × IsAt P (start + sum counts) rest
spread_from P f rest i [] start long h = let same : start ≡ start + 0 = omega arith in ((λ j lt. absurd (omega (arith, lt))), subst (λ m. IsAt P m rest) same h)
spread_from {A} P f rest i (c ∷ cs) start long h =
    let whole = at_append P start (f i) (flat_map f (branch_places (i + 1) cs) ++ rest) (subst (IsAt P start) (append_assoc (f i) (flat_map f (branch_places (i + 1) cs)) rest) h) in
    let here : i + 0 ≡ i = omega arith in
    let first : length (f i) ≡ c = subst (λ k. length (f k) ≡ c) here (long 0 (omega arith)) in
    let later = spread_from P f rest (i + 1) cs (start + c)
    (λ j lt. let next : i + suc j ≡ i + 1 + j = omega arith in subst (λ k. length (f k) ≡ slice_index cs j) next (long (suc j) (omega (arith, lt))))
    (subst (λ n. IsAt P (start + n) (flat_map f (branch_places (i + 1) cs) ++ rest)) first whole.1) in
    let total : start + c + sum cs ≡ start + sum (c ∷ cs) = omega (arith, sum_by-cons (λ (n : ℕ). n) c cs) in
    (each i f start c cs whole.0 later.0, subst (λ m. IsAt P m rest) total later.1)
  where
    each : (i : ℕ) (f : ℕ → List A) (start c : ℕ) (cs : List ℕ) → IsAt P start (f i) → ((j : ℕ) → j < length cs → IsAt P (start + c + sum (take j cs)) (f (i + 1 + j))) → (j : ℕ) → j < suc (length cs) → IsAt P (start + sum (take j (c ∷ cs))) (f (i + j))
    each i f start c cs h k zero lt = let same : start ≡ start + 0 = omega arith in let here : i ≡ i + 0 = omega arith in subst (λ m. IsAt P m (f (i + 0))) same (subst (λ m. IsAt P start (f m)) here h)
    each i f start c cs h k (suc j) lt =
        let sums : start + c + sum (take j cs) ≡ start + sum (c ∷ take j cs) = omega (arith, sum_by-cons (λ (n : ℕ). n) c (take j cs)) in
        let next : i + 1 + j ≡ i + suc j = omega arith in
        subst (λ m. IsAt P m (f (i + suc j))) sums (subst (λ m. IsAt P (start + c + sum (take j cs)) (f m)) next (k j (omega (arith, lt))))

pub spread : {A : Type 0} (P : List A) (f : ℕ → List A) (rest : List A) (counts : List ℕ) (bone : ℕ) → ((k : ℕ) → k < length counts → length (f k) ≡ slice_index counts k) → IsAt P (bone + 1) (flat_map f (branch_places 0 counts) ++ rest) →
    ((k : ℕ) → k < length counts → IsAt P (first_of_branch bone counts k) (f k)) × IsAt P (bone + 1 + sum counts) rest
spread P f rest counts bone long h =
    let all = spread_from P f rest 0 counts (bone + 1) (λ j lt. let same : j ≡ 0 + j = omega arith in subst (λ k. length (f k) ≡ slice_index counts j) same (long j lt)) h in
    ((λ k lt. let same : 0 + k ≡ k = omega arith in subst (λ j. IsAt P (bone + 1 + sum (take k counts)) (f j)) same (all.0 k lt)), all.1)

-- The sizes of branches.

sum_parts : (counts : List ℕ) (k : ℕ) → k < length counts → sum (take k counts) + slice_index counts k ≤ sum counts
sum_parts [] k lt = absurd (omega (arith, lt))
sum_parts (c ∷ cs) zero lt = omega (arith, sum_by-cons (λ (n : ℕ). n) c cs)
sum_parts (c ∷ cs) (suc k) lt = omega (arith, sum_by-cons (λ (n : ℕ). n) c cs, sum_by-cons (λ (n : ℕ). n) c (take k cs), sum_parts cs k (omega (arith, lt)))

pub branch_long : (counts : List ℕ) (k : ℕ) (bones : List Bone) → k < length counts → sum counts ≤ length bones → length (branch counts k bones) ≡ slice_index counts k
branch_long counts k bones lt within =
    omega (arith, within, sum_parts counts k lt, length-take (slice_index counts k) (drop (sum (take k counts)) bones), length-drop (sum (take k counts)) bones)

flat_long : {A : Type 0} (f : ℕ → List A) (i : ℕ) (counts : List ℕ) → ((j : ℕ) → j < length counts → length (f (i + j)) ≡ slice_index counts j) → length (flat_map f (branch_places i counts)) ≡ sum counts
flat_long f i [] long = refl
flat_long f i (c ∷ cs) long =
    let here : i + 0 ≡ i = omega arith in
    let first : length (f i) ≡ c = subst (λ k. length (f k) ≡ c) here (long 0 (omega arith)) in
    let rest = flat_long f (i + 1) cs (λ j lt. let next : i + suc j ≡ i + 1 + j = omega arith in subst (λ k. length (f k) ≡ slice_index cs j) next (long (suc j) (omega (arith, lt)))) in
    omega (arith, first, rest, length-append (f i) (flat_map f (branch_places (i + 1) cs)), sum_by-cons (λ (n : ℕ). n) c cs)

-- The outcomes.

-- what a world becomes where variables gain an outcome
abbrev pub gains : {D : Type 0} → Option (AbsEnv D) → List Var → Outcome D → Option (AbsEnv D)
gains None vars r = None
gains (Some env) vars r = option_map (gain env vars) r

pub moved : {D X : Type 0} (walk : AbsEnv D → Walk D X) (env : AbsEnv D) (vars : List Var) (r : Outcome D) → in_world (λ flows. walk (gain env vars flows)) r ≡ in_world walk (option_map (gain env vars) r)
moved walk env vars None = refl
moved walk env vars (Some flows) = refl

module _ (D : Type 0) (d : Domain D) (answers : Answers D) (names point : ℕ) where
  abbrev pub world : ℕ → List Bone → AbsEnv D → Walk D (AbsEnv D)
  world = abstract_world d answers names point

  -- the outcome of a bone in a world; none where the world is gone
  abbrev pub at_filter : Filter → List Var → Option (AbsEnv D) → Outcome D
  at_filter filter args o = option_and_then (λ env. end_of (filtered d filter names (args_at argument_in env args))) o

  abbrev pub at_call : HookId → Target → List Var → Option (AbsEnv D) → Outcome D
  at_call id target args o = option_and_then (λ env. end_of (ask answers (call_at id (target_at point env target) (values_at env args))).ends) o

  abbrev pub branch_end : ℕ → List ℕ → List Bone → AbsEnv D → ℕ → Option (AbsEnv D)
  branch_end bound counts bones env k = end_of (world bound (branch counts k bones) env).ends

  abbrev pub at_merge : ℕ → List ℕ → List Var → List Bone → Option (AbsEnv D) → Outcome D
  at_merge bound counts exports bones o = option_and_then (λ env. end_of (join_exports d exports None (map (branch_end bound counts bones env) (branch_places 0 counts)))) o

  -- the outcomes of at most so many bones, in the order of the bones
  abbrev pub spots : ℕ → List Bone → Option (AbsEnv D) → List (Outcome D)
  spots bound [] o = []
  spots zero (bone ∷ bones) o = []
  spots (suc bound) (Apply filter args outs ∷ bones) o = at_filter filter args o ∷ spots bound bones (gains o outs (at_filter filter args o))
  spots (suc bound) (Call id args target outs ∷ bones) o = at_call id target args o ∷ spots bound bones (gains o outs (at_call id target args o))
  spots (suc bound) (Either counts exports ∷ bones) o =
      at_merge bound counts exports bones o
      ∷ flat_map (λ k. spots bound (branch counts k bones) o) (branch_places 0 counts)
      ++ spots bound (after_branches counts bones) (gains o exports (at_merge bound counts exports bones o))

  pub spots_long : (bound : ℕ) {hooks vars nesting : ℕ} {bones : List Bone} (o : Option (AbsEnv D)) → length bones ≤ bound → BonesFit hooks vars nesting bones → length (spots bound bones o) ≡ length bones
  spots_long bound o short no_bone = refl
  spots_long zero o short (filter_bone a b rest) = absurd (omega arith)
  spots_long zero o short (hook_bone i a t b rest) = absurd (omega arith)
  spots_long zero o short (branch_bone two within below inside rest) = absurd (omega arith)
  spots_long (suc bound) o short (filter_bone {filter} {args} {outs} {rest = bones} a b rest) = ap suc (spots_long bound (gains o outs (at_filter filter args o)) (omega arith) rest)
  spots_long (suc bound) o short (hook_bone {id} {args} {target} {outs} {rest = bones} i a t b rest) = ap suc (spots_long bound (gains o outs (at_call id target args o)) (omega arith) rest)
  spots_long (suc bound) {hooks} {vars} o short (branch_bone {nesting} {counts} {exports} {rest = bones} two within below inside rest) =
      let each : (j : ℕ) → j < length counts → length (spots bound (branch counts (0 + j) bones) o) ≡ slice_index counts j =
      λ j lt. let same : j ≡ 0 + j = omega arith in
      subst (λ k. length (spots bound (branch counts k bones) o) ≡ slice_index counts j) same
      (spots_long bound o (shorter-branch bound j counts bones (omega arith)) (subst (BonesFit hooks vars nesting) (branch-take counts j bones lt) (branch_at counts (take (sum counts) bones) j lt inside)) ∙ branch_long counts j bones lt within) in
      let inner = flat_long (λ k. spots bound (branch counts k bones) o) 0 counts each in
      let later = spots_long bound (gains o exports (at_merge bound counts exports bones o)) (shorter-drop bound (sum counts) bones (omega arith)) rest in
      omega (arith, within, inner, later, length-drop (sum counts) bones, length-append (flat_map (λ k. spots bound (branch counts k bones) o) (branch_places 0 counts)) (spots bound (after_branches counts bones) (gains o exports (at_merge bound counts exports bones o))))
