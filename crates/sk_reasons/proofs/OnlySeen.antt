-- Before each bone, at the end of each branch and after the list nothing is defined but by bones that are seen.
use Rattle.std.proofs.Common.{◌≡◌, ℕ, zero, suc, ◌+◌, ◌≤◌, ◌<◌, List, [], ◌∷◌, length, map, take, sum, Some, refl, sym, subst, ◌∙◌, ap, arith, inl, inr, slice_get}
use Rattle.std.specs.Prelude.{◌⊎◌, Contains, All}
use Rattle.std.specs.List.{flat_map}
use Rattle.std.proofs.lemmas.List.{length-map}
use Rattle.std.proofs.lemmas.Option.{slice_get_within}
use Rattle.std.proofs.lemmas.List.Elements.{All-nil, All-cons, All-head, All-tail, All-append, All-weaker}
use Rattle.sk_base.specs.declared.flow.FlowSort.{FlowSort}
use Rattle.sk_def.specs.declared.def.Def.{Def}
use Rattle.sk_def.specs.declared.ids.Var.{Var}
use Rattle.sk_def.specs.declared.ids.HookId.{HookId}
use Rattle.sk_def.specs.declared.bone.Target.{Target}
use Rattle.sk_def.specs.declared.filter.Filter.{Filter}
use Rattle.sk_def.specs.declared.bone.Bone.{Bone}
use Rattle.sk_def.specs.declared.bone.Bone.TheVariants.{Apply, Call, Either}
use Rattle.sk_def.specs.declared.sorts.VarSort.{VarSort}
use Rattle.sk_def.specs.declared.sorts.VarSort.TheVariants.{Flow}
use Rattle.sk_def.specs.Signatures.{results}
use Rattle.sk_def.specs.Sorts.{Sorts, sort_of, outputs_of, after_filter, after_hook, after_merge}
use Rattle.sk_def.specs.Layout.{BonesFit, branch, branch_places, first_of_branch, after_branches}
use Rattle.sk_walk.proofs.Checks.{BonesFit-filter, BonesFit-hook, BonesFit-either}
use Rattle.sk_sort.specs.DefinedBefore.{sorts_after, Placed, placed}
use Rattle.sk_sort.proofs.Walked.{shorter-drop, shorter-branch, inside, ends_of, after_inside}
use Rattle.sk_reasons.specs.Scope.{InBranch, Sees, EndSees, IsOuter}
use Rattle.sk_reasons.specs.Gives.{Gives, by_filter, by_hook, by_branch}
use Rattle.sk_reasons.specs.Defined.{HasSort, DefinedBefore, DefinedAtEnd, DefinedAfter, branches_of, StandsAt, OnlySeen}
use Rattle.sk_reasons.proofs.ListParts.{IsPart, comes_later, sees_up, own_up, outer_own, outer_up, gives_up}
use Rattle.sk_reasons.proofs.FirstBone.{Closed, plain_never, plain_part, filter_plain, hook_plain, branch_part, branch_holds, later_part, never_later, closed_list}
use Rattle.sk_reasons.proofs.SortsGiven.{contains_at, mapped, mapped_from, some_same, none_some, define_only, gives_within}

-- Places of branches.

-- what holds of the bones of each branch holds of them all
pub all_places : (f : ℕ → List Placed) (P : Placed → Type 0) (Q : ℕ → Type 0) (ks : List ℕ) → ((k : ℕ) → Q k → All P (f k)) → All Q ks → All P (flat_map f ks)
all_places f P Q [] h a = All-nil P
all_places f P Q (k ∷ ks) h a = All-append P (f k) (flat_map f ks) (h k (All-head Q k ks a)) (all_places f P Q ks h (All-tail Q k ks a))

-- the places of branches lie below their number
pub places_below : (j m : ℕ) (left : List ℕ) → j + length left ≤ m → All (λ k. k < m) (branch_places j left)
places_below j m [] h = All-nil (λ k. k < m)
places_below j m (count ∷ left) h =
    All-cons (λ k. k < m) j (branch_places (j + 1) left) (omega (arith, h)) (places_below (j + 1) m left (omega (arith, h)))

-- there are as many places as sizes
pub length_places : (j : ℕ) (counts : List ℕ) → length (branch_places j counts) ≡ length counts
length_places j [] = refl
length_places j (count ∷ counts) = ap suc (length_places (j + 1) counts)

-- the sorts at the end of a branch
end_at : (f : ℕ → Sorts) (j : ℕ) (counts : List ℕ) (b : ℕ) (end : Sorts) → slice_get (map f (branch_places j counts)) b ≡ Some end →
    (b < length counts) × (end ≡ f (j + b))
end_at f j [] b end h = absurd (none_some h)
end_at f j (count ∷ counts) zero end h =
    let e : j + 0 ≡ j = omega arith in
    (omega arith, rw e (sym (some_same h)))
end_at f j (count ∷ counts) (suc b) end h =
    let r = end_at f (j + 1) counts b end h in
    let e : j + 1 + b ≡ j + suc b = omega arith in
    (omega (arith, r.0), r.1 ∙ ap f e)

-- the sorts at the end of a branch, by its number
pub end_of : (f : ℕ → Sorts) (counts : List ℕ) (b : ℕ) (end : Sorts) → slice_get (map f (branch_places 0 counts)) b ≡ Some end →
    (b < length counts) × (end ≡ f b)
end_of f counts b end h =
    let r = end_at f 0 counts b end h in
    let e : 0 + b ≡ b = omega arith in
    (r.0, r.1 ∙ ap f e)

-- The first bone.

first_seen : {bones : List Bone} {later : ℕ} → 0 < later → ((k : ℕ) → ¬ InBranch bones 0 k later) → Sees bones later 0
first_seen less never = record { before = less; outside = never; same_branches = λ k b h. absurd (omega (arith, comes_later h)) }

first_outer : {bones : List Bone} → IsOuter bones 0
first_outer = λ k b h. omega (arith, comes_later h)

module _ (d : Def) where
  -- what the sorts after the first bone have, they had before it, or the bone gives it
  abbrev pub FromFirst : Sorts → Sorts → List Bone → Type 0
  FromFirst g after bones = (v : Var) (s : VarSort) → sort_of after v ≡ Some s → (sort_of g v ≡ Some s) ⊎ Gives d bones 0 v s

  -- what a filter bone adds, it gives
  pub filter_only : (g : Sorts) (filter : Filter) (args outs : List Var) (rest : List Bone) → FromFirst g (after_filter g filter outs) (Apply filter args outs ∷ rest)
  filter_only g filter args outs rest v s h = by (define_only g outs (map Some (results filter)) v s h)
    where
      by : (sort_of g v ≡ Some s) ⊎ ((i : ℕ) × (slice_get outs i ≡ Some v) × (slice_get (map Some (results filter)) i ≡ Some (Some s))) →
          (sort_of g v ≡ Some s) ⊎ Gives d (Apply filter args outs ∷ rest) 0 v s
      by (inl k) = inl k
      by (inr r) =
          let m = mapped_from Some (results filter) r.0 (Some s) r.2 in
          inr (by_filter r.0 refl r.1 (m.1 ∙ m.2))

  -- what a hook bone adds, it gives
  pub hook_only : (g : Sorts) (hook : HookId) (args : List Var) (target : Target) (outs : List Var) (rest : List Bone) →
      FromFirst g (after_hook d g hook outs) (Call hook args target outs ∷ rest)
  hook_only g hook args target outs rest v s h = by (define_only g outs (map (λ (t : FlowSort). Some (Flow t)) (outputs_of d hook)) v s h)
    where
      by : (sort_of g v ≡ Some s) ⊎ ((i : ℕ) × (slice_get outs i ≡ Some v) × (slice_get (map (λ (t : FlowSort). Some (Flow t)) (outputs_of d hook)) i ≡ Some (Some s))) →
          (sort_of g v ≡ Some s) ⊎ Gives d (Call hook args target outs ∷ rest) 0 v s
      by (inl k) = inl k
      by (inr r) =
          let m = mapped_from (λ (t : FlowSort). Some (Flow t)) (outputs_of d hook) r.0 (Some s) r.2 in
          inr (subst (λ t. Gives d (Call hook args target outs ∷ rest) 0 v t) (some_same m.2) (by_hook r.0 refl r.1 m.1))

  -- what an own bone of the first branch gives
  pub branch_gives : (counts : List ℕ) (exports : List Var) (rest : List Bone) → sum counts ≤ length rest →
      ((k : ℕ) → k < length counts → Closed (branch counts k rest)) → 0 < length counts →
      (v : Var) (s : VarSort) → Contains exports v → (e : ℕ) → IsOuter (branch counts 0 rest) e → Gives d (branch counts 0 rest) e v s →
      Gives d (Either counts exports ∷ rest) 0 v s
  branch_gives counts exports rest within closed some v s c e outer g =
      let part = branch_part counts exports rest within closed 0 some in
      let w = gives_within g in
      let holds = branch_holds counts exports rest within closed 0 e w in
      by_branch refl c (outer_own part (omega arith) w holds outer) (gives_up part g)

  -- what a branch bone adds, it gives
  pub either_only : (n : ℕ) (g : Sorts) (counts : List ℕ) (exports : List Var) (rest : List Bone) → sum counts ≤ length rest →
      ((k : ℕ) → k < length counts → Closed (branch counts k rest)) →
      ((k : ℕ) → k < length counts → (v : Var) (s : VarSort) → sort_of (sorts_after d n g (branch counts k rest)) v ≡ Some s → DefinedAfter d (HasSort g) (branch counts k rest) v s) →
      FromFirst g (after_merge g exports (ends_of d n g counts rest (branch_places 0 counts))) (Either counts exports ∷ rest)
  either_only n g [] exports rest within closed each v s h = inl h
  either_only n g (count ∷ counts) exports rest within closed each v s h =
      by (define_only g exports (map (sort_of (sorts_after d n g (branch (count ∷ counts) 0 rest))) exports) v s h)
    where
      from : Contains exports v → DefinedAfter d (HasSort g) (branch (count ∷ counts) 0 rest) v s →
          (sort_of g v ≡ Some s) ⊎ Gives d (Either (count ∷ counts) exports ∷ rest) 0 v s
      from c (inl k) = inl k
      from c (inr r) = inr (branch_gives (count ∷ counts) exports rest within closed (omega arith) v s c r.0 r.1 r.2)

      by : (sort_of g v ≡ Some s) ⊎ ((i : ℕ) × (slice_get exports i ≡ Some v) × (slice_get (map (sort_of (sorts_after d n g (branch (count ∷ counts) 0 rest))) exports) i ≡ Some (Some s))) →
          (sort_of g v ≡ Some s) ⊎ Gives d (Either (count ∷ counts) exports ∷ rest) 0 v s
      by (inl k) = inl k
      by (inr r) =
          let e : sort_of (sorts_after d n g (branch (count ∷ counts) 0 rest)) v ≡ Some s =
          some_same (sym (mapped (sort_of (sorts_after d n g (branch (count ∷ counts) 0 rest))) exports r.0 v r.1) ∙ r.2) in
          from (contains_at exports r.0 v r.1) (each 0 (omega arith) v s e)

  -- what is defined after the rest is defined after the list
  after_rest : {bones part : List Bone} {from : ℕ} (g after : Sorts) → IsPart bones part from → ((k i : ℕ) → ¬ InBranch bones 0 k (from + i)) →
      FromFirst g after bones → (v : Var) (s : VarSort) → DefinedAfter d (HasSort after) part v s → DefinedAfter d (HasSort g) bones v s
  after_rest {bones} {part} {from} g after p never first v s (inl h) = by (first v s h)
    where
      by : (sort_of g v ≡ Some s) ⊎ Gives d bones 0 v s → DefinedAfter d (HasSort g) bones v s
      by (inl k) = inl k
      by (inr r) = inr (0, first_outer, r)
  after_rest {bones} {part} {from} g after p never first v s (inr r) =
      inr (from + r.0, outer_up p (λ k. never k r.0) (gives_within r.2) r.1, gives_up p r.2)

  -- after a list nothing is defined but by the bones that lie in no branch
  pub after_only : {hooks vars : ℕ} (n : ℕ) (g : Sorts) (nesting : ℕ) (bones : List Bone) → length bones ≤ n → BonesFit hooks vars nesting bones →
      (v : Var) (s : VarSort) → sort_of (sorts_after d n g bones) v ≡ Some s → DefinedAfter d (HasSort g) bones v s
  after_only n g nesting [] within fits v s h = inl h
  after_only zero g nesting (bone ∷ bones) within fits v s h = absurd (omega (arith, within))
  after_only (suc n) g nesting (Apply filter args outs ∷ bones) within fits v s h =
      let short : length bones ≤ n = omega (arith, within) in
      let rest_fits = (BonesFit-filter fits).2 in
      let plain = λ (counts : List ℕ) (exports : List Var) (e : Apply filter args outs ≡ Either counts exports). filter_plain counts exports e in
      let part = plain_part (Apply filter args outs) bones plain (closed_list n nesting bones short rest_fits) in
      after_rest g (after_filter g filter outs) part (λ k i. plain_never (Apply filter args outs) bones plain k (1 + i)) (filter_only g filter args outs bones) v s
      (after_only n (after_filter g filter outs) nesting bones short rest_fits v s h)
  after_only (suc n) g nesting (Call hook args target outs ∷ bones) within fits v s h =
      let short : length bones ≤ n = omega (arith, within) in
      let rest_fits = (BonesFit-hook fits).4 in
      let plain = λ (counts : List ℕ) (exports : List Var) (e : Call hook args target outs ≡ Either counts exports). hook_plain counts exports e in
      let part = plain_part (Call hook args target outs) bones plain (closed_list n nesting bones short rest_fits) in
      after_rest g (after_hook d g hook outs) part (λ k i. plain_never (Call hook args target outs) bones plain k (1 + i)) (hook_only g hook args target outs bones) v s
      (after_only n (after_hook d g hook outs) nesting bones short rest_fits v s h)
  after_only (suc n) g nesting (Either counts exports ∷ bones) within fits v s h =
      let fit = BonesFit-either fits in
      let short : length bones ≤ n = omega (arith, within) in
      let later_short = shorter-drop n (sum counts) bones short in
      let closed_in = λ (k : ℕ) (less : k < length counts). closed_list n fit.inner (branch counts k bones) (shorter-branch n k counts bones short) (fit.branches k less) in
      let part = later_part counts exports bones fit.within closed_in (closed_list n fit.outer (after_branches counts bones) later_short fit.later) in
      after_rest g (after_merge g exports (ends_of d n g counts bones (branch_places 0 counts))) part (λ k i. never_later counts exports bones fit.within closed_in k i)
      (either_only n g counts exports bones fit.within closed_in
      (λ k less. after_only n g fit.inner (branch counts k bones) (shorter-branch n k counts bones short) (fit.branches k less))) v s
      (after_only n (after_merge g exports (ends_of d n g counts bones (branch_places 0 counts))) fit.outer (after_branches counts bones) later_short fit.later v s h)

  -- From a part of the list to the list.

  -- an entry of a part stands in the list
  pub stands_up : {bones part : List Bone} {from : ℕ} (start first at : ℕ) (p : Placed) → IsPart bones part from → start ≡ first + from → StandsAt start part p at →
      StandsAt first bones p (from + at)
  stands_up {bones} {part} {from} start first at p i e h = record {
    number_is = omega (arith, h.number_is, e);
    bone_is = i.same.at at (slice_get_within part at p.bone h.bone_is) ∙ h.bone_is;
    ends_counted = h.ends_counted;
  }

  -- what is defined before a bone of the part is defined before this bone of the list
  pub before_up : {bones part : List Bone} {from at : ℕ} (g after : Sorts) → IsPart bones part from → at < length part →
      ((v : Var) (s : VarSort) → sort_of after v ≡ Some s → DefinedBefore d (HasSort g) bones (from + at) v s) →
      (v : Var) (s : VarSort) → DefinedBefore d (HasSort after) part at v s → DefinedBefore d (HasSort g) bones (from + at) v s
  before_up g after i within base v s (inl h) = base v s h
  before_up {from} g after i within base v s (inr r) = inr (from + r.0, sees_up i within r.1, gives_up i r.2)

  -- and what is defined at the end of a branch
  pub end_up : {bones part : List Bone} {from at : ℕ} (g after : Sorts) → IsPart bones part from → at < length part →
      ((v : Var) (s : VarSort) → sort_of after v ≡ Some s → DefinedBefore d (HasSort g) bones (from + at) v s) →
      (b : ℕ) (v : Var) (s : VarSort) → DefinedAtEnd d (HasSort after) part at b v s → DefinedAtEnd d (HasSort g) bones (from + at) b v s
  end_up {bones} {part} {from} {at} g after i within base b v s (inl h) = by (base v s h)
    where
      by : DefinedBefore d (HasSort g) bones (from + at) v s → DefinedAtEnd d (HasSort g) bones (from + at) b v s
      by (inl k) = inl k
      by (inr r) = inr (r.0, inr r.1, r.2)
  end_up {bones} {part} {from} {at} g after i within base b v s (inr r) = inr (from + r.0, seen r.1, gives_up i r.2)
    where
      seen : EndSees part at b r.0 → EndSees bones (from + at) b (from + r.0)
      seen (inl own) = inl (own_up i own)
      seen (inr sees) = inr (sees_up i within sees)

  only_up : {bones part : List Bone} {from : ℕ} (g after : Sorts) (start first : ℕ) → IsPart bones part from → start ≡ first + from →
      ((v : Var) (s : VarSort) (i : ℕ) → sort_of after v ≡ Some s → DefinedBefore d (HasSort g) bones (from + i) v s) →
      (p : Placed) → OnlySeen d start after part p → OnlySeen d first g bones p
  only_up {bones} {part} {from} g after start first i e base p only =
      let within = slice_get_within part only.at p.bone only.stands.bone_is in
      let here = λ (v : Var) (s : VarSort) (h : sort_of after v ≡ Some s). base v s only.at h in
      record {
        at = from + only.at;
        stands = stands_up start first only.at p i e only.stands;
        before = λ v s h. before_up g after i within here v s (only.before v s h);
        ends = λ b end v s k h. end_up g after i within here b v s (only.ends b end v s k h);
      }

  -- what is defined before the rest is defined before each of its bones
  pub rest_base : {bones : List Bone} {from : ℕ} (g after : Sorts) → 0 < from → ((k i : ℕ) → ¬ InBranch bones 0 k (from + i)) → FromFirst g after bones →
      (v : Var) (s : VarSort) (i : ℕ) → sort_of after v ≡ Some s → DefinedBefore d (HasSort g) bones (from + i) v s
  rest_base {bones} {from} g after less never first v s i h = by (first v s h)
    where
      by : (sort_of g v ≡ Some s) ⊎ Gives d bones 0 v s → DefinedBefore d (HasSort g) bones (from + i) v s
      by (inl k) = inl k
      by (inr r) = inr (0, first_seen (omega (arith, less)) (λ k. never k i), r)

  -- the entry of a bone without branches that comes first
  plain_entry : (first : ℕ) (g : Sorts) (bone : Bone) (rest : List Bone) → branches_of bone ≡ 0 →
      OnlySeen d first g (bone ∷ rest) (record { number = first; before = g; bone = bone; ends = [] })
  plain_entry first g bone rest e = record {
    at = 0;
    stands = record { number_is = omega arith; bone_is = refl; ends_counted = sym e };
    before = λ v s h. inl h;
    ends = λ b end v s k h. absurd (none_some k);
  }

  -- the ends of the branches of a branch bone that comes first
  pub either_ends : (n : ℕ) (g : Sorts) (counts : List ℕ) (exports : List Var) (rest : List Bone) → sum counts ≤ length rest →
      ((k : ℕ) → k < length counts → Closed (branch counts k rest)) →
      ((k : ℕ) → k < length counts → (v : Var) (s : VarSort) → sort_of (sorts_after d n g (branch counts k rest)) v ≡ Some s → DefinedAfter d (HasSort g) (branch counts k rest) v s) →
      (b : ℕ) (end : Sorts) (v : Var) (s : VarSort) → slice_get (ends_of d n g counts rest (branch_places 0 counts)) b ≡ Some end → sort_of end v ≡ Some s →
      DefinedAtEnd d (HasSort g) (Either counts exports ∷ rest) 0 b v s
  either_ends n g counts exports rest within closed each b end v s k h =
      let r = end_of (λ k. sorts_after d n g (branch counts k rest)) counts b end k in
      by r.0 (each b r.0 v s (rw r.1 at h))
    where
      by : b < length counts → DefinedAfter d (HasSort g) (branch counts b rest) v s → DefinedAtEnd d (HasSort g) (Either counts exports ∷ rest) 0 b v s
      by less (inl h) = inl h
      by less (inr r) =
          let part = branch_part counts exports rest within closed b less in
          let w = gives_within r.2 in
          inr (1 + sum (take b counts) + r.0, inl (outer_own part (omega arith) w (branch_holds counts exports rest within closed b r.0 w) r.1), gives_up part r.2)

  -- before each bone nothing is defined but by what it sees
  pub placed_only : {hooks vars : ℕ} (n first : ℕ) (g : Sorts) (nesting : ℕ) (bones : List Bone) → length bones ≤ n → BonesFit hooks vars nesting bones →
      All (OnlySeen d first g bones) (placed d n first g bones)
  placed_only n first g nesting [] within fits = All-nil (OnlySeen d first g [])
  placed_only zero first g nesting (bone ∷ bones) within fits = absurd (omega (arith, within))
  placed_only (suc n) first g nesting (Apply filter args outs ∷ bones) within fits =
      let short : length bones ≤ n = omega (arith, within) in
      let rest_fits = (BonesFit-filter fits).2 in
      let whole = Apply filter args outs ∷ bones in
      let after = after_filter g filter outs in
      let plain = λ (counts : List ℕ) (exports : List Var) (e : Apply filter args outs ≡ Either counts exports). filter_plain counts exports e in
      let part = plain_part (Apply filter args outs) bones plain (closed_list n nesting bones short rest_fits) in
      let base = rest_base {from = 1} g after (omega arith) (λ k i. plain_never (Apply filter args outs) bones plain k (1 + i)) (filter_only g filter args outs bones) in
      All-cons (OnlySeen d first g whole) _ (placed d n (first + 1) after bones) (plain_entry first g (Apply filter args outs) bones refl)
      (All-weaker (OnlySeen d (first + 1) after bones) (OnlySeen d first g whole)
      (only_up g after (first + 1) first part refl base) (placed d n (first + 1) after bones)
      (placed_only n (first + 1) after nesting bones short rest_fits))
  placed_only (suc n) first g nesting (Call hook args target outs ∷ bones) within fits =
      let short : length bones ≤ n = omega (arith, within) in
      let rest_fits = (BonesFit-hook fits).4 in
      let whole = Call hook args target outs ∷ bones in
      let after = after_hook d g hook outs in
      let plain = λ (counts : List ℕ) (exports : List Var) (e : Call hook args target outs ≡ Either counts exports). hook_plain counts exports e in
      let part = plain_part (Call hook args target outs) bones plain (closed_list n nesting bones short rest_fits) in
      let base = rest_base {from = 1} g after (omega arith) (λ k i. plain_never (Call hook args target outs) bones plain k (1 + i)) (hook_only g hook args target outs bones) in
      All-cons (OnlySeen d first g whole) _ (placed d n (first + 1) after bones) (plain_entry first g (Call hook args target outs) bones refl)
      (All-weaker (OnlySeen d (first + 1) after bones) (OnlySeen d first g whole)
      (only_up g after (first + 1) first part refl base) (placed d n (first + 1) after bones)
      (placed_only n (first + 1) after nesting bones short rest_fits))
  placed_only (suc n) first g nesting (Either counts exports ∷ bones) within fits =
      let fit = BonesFit-either fits in
      let short : length bones ≤ n = omega (arith, within) in
      let later_short = shorter-drop n (sum counts) bones short in
      let whole = Either counts exports ∷ bones in
      let ends = ends_of d n g counts bones (branch_places 0 counts) in
      let after = after_merge g exports ends in
      let start = first + 1 + sum counts in
      let each_short = λ (k : ℕ). shorter-branch n k counts bones short in
      let closed_in = λ (k : ℕ) (less : k < length counts). closed_list n fit.inner (branch counts k bones) (each_short k) (fit.branches k less) in
      let later = later_part counts exports bones fit.within closed_in (closed_list n fit.outer (after_branches counts bones) later_short fit.later) in
      let each_after = λ (k : ℕ) (less : k < length counts). after_only n g fit.inner (branch counts k bones) (each_short k) (fit.branches k less) in
      let base = rest_base {from = 1 + sum counts} g after (omega arith) (λ k i. never_later counts exports bones fit.within closed_in k i)
      (either_only n g counts exports bones fit.within closed_in each_after) in
      let entry : Placed = record { number = first; before = g; bone = Either counts exports; ends = ends } in
      let here : OnlySeen d first g whole entry = record {
        at = 0;
        stands = record {
          number_is = omega arith;
          bone_is = refl;
          ends_counted = length-map (branch_places 0 counts) (λ k. sorts_after d n g (branch counts k bones)) ∙ length_places 0 counts;
        };
        before = λ v s h. inl h;
        ends = either_ends n g counts exports bones fit.within closed_in each_after;
      } in
      All-append (OnlySeen d first g whole) (inside d n first g counts bones (branch_places 0 counts)) (after_inside d n first g counts exports bones)
      (all_places (λ k. placed d n (first_of_branch first counts k) g (branch counts k bones)) (OnlySeen d first g whole) (λ k. k < length counts) (branch_places 0 counts)
      (λ k less. All-weaker (OnlySeen d (first_of_branch first counts k) g (branch counts k bones)) (OnlySeen d first g whole)
      (only_up g g (first_of_branch first counts k) first (branch_part counts exports bones fit.within closed_in k less) (omega arith) (λ v s i h. inl h))
      (placed d n (first_of_branch first counts k) g (branch counts k bones))
      (placed_only n (first_of_branch first counts k) g fit.inner (branch counts k bones) (each_short k) (fit.branches k less)))
      (places_below 0 (length counts) counts (omega arith)))
      (All-cons (OnlySeen d first g whole) entry (placed d n start after (after_branches counts bones)) here
      (All-weaker (OnlySeen d start after (after_branches counts bones)) (OnlySeen d first g whole)
      (only_up g after start first later (omega arith) base) (placed d n start after (after_branches counts bones))
      (placed_only n start after fit.outer (after_branches counts bones) later_short fit.later)))
