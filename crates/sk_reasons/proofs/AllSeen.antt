-- Where all checks pass, what the seen bones define is defined.
use Rattle.std.proofs.Common.{◌≡◌, ℕ, zero, suc, ◌+◌, ◌≤◌, ◌<◌, List, [], ◌∷◌, length, map, sum, Option, Some, None, refl, sym, subst, ◌∙◌, ap, arith, inl, inr, slice_get, get_or}
use Rattle.std.specs.Prelude.{◌⊎◌, Contains, All}
use Rattle.std.proofs.lemmas.Bool.{cases_lt}
use Rattle.std.proofs.lemmas.List.{length-map, length-drop}
use Rattle.std.proofs.lemmas.Option.{slice_get_within}
use Rattle.std.proofs.lemmas.List.Elements.{All-nil, All-cons, All-head, All-append, All-weaker}
use Rattle.sk_base.specs.declared.flow.FlowSort.{FlowSort}
use Rattle.sk_def.specs.declared.def.Def.{Def}
use Rattle.sk_def.specs.declared.ids.Var.{Var}
use Rattle.sk_def.specs.declared.ids.SortId.{SortId}
use Rattle.sk_def.specs.declared.ids.HookId.{HookId}
use Rattle.sk_def.specs.declared.bone.Target.{Target}
use Rattle.sk_def.specs.declared.filter.Filter.{Filter}
use Rattle.sk_def.specs.declared.bone.Bone.{Bone}
use Rattle.sk_def.specs.declared.bone.Bone.TheVariants.{Apply, Call, Either}
use Rattle.sk_def.specs.declared.sorts.VarSort.{VarSort}
use Rattle.sk_def.specs.declared.sorts.VarSort.TheVariants.{Flow}
use Rattle.sk_def.specs.Signatures.{results}
use Rattle.sk_def.specs.Sorts.{Sorts, sort_of, outputs_of, FilterPasses, HookPasses, MergePasses, after_filter, after_hook, after_merge}
use Rattle.sk_def.specs.Layout.{BonesFit, AreBelow, branch, branch_places, first_of_branch, after_branches}
use Rattle.sk_walk.proofs.Checks.{BonesFit-filter, BonesFit-hook, BonesFit-either, length-define, length-after_merge}
use Rattle.sk_sort.specs.Checks.{first_error, filter_checks, merge_checks}
use Rattle.sk_sort.specs.Interp.{call_checks}
use Rattle.sk_sort.specs.Parts.{fault_at}
use Rattle.sk_sort.specs.DefinedBefore.{sorts_after, Placed, placed}
use Rattle.sk_sort.proofs.Passes.{filter_passes, call_passes, merge_passes}
use Rattle.sk_sort.proofs.WellSorted.{both_none, none_none}
use Rattle.sk_sort.proofs.Walked.{fault_of, fault_append, shorter-drop, shorter-branch, inside, ends_of, after_inside}
use Rattle.sk_reasons.specs.Scope.{Sees, IsOwnBone, EndSees, IsOuter}
use Rattle.sk_reasons.specs.Gives.{Gives, by_filter, by_hook, defined_by}
use Rattle.sk_reasons.specs.Defined.{HasSort, DefinedBefore, DefinedAtEnd, DefinedAfter, branches_of, AllSeen}
use Rattle.sk_reasons.proofs.ListParts.{IsPart, rest_of, comes_later, sees_down, own_down, own_outer, outer_down, gives_up, gives_down}
use Rattle.sk_reasons.proofs.FirstBone.{Closed, plain_part, filter_plain, hook_plain, branch_part, place_in, later_part, no_sibling, only_first, only_first_outer, closed_list}
use Rattle.sk_reasons.proofs.SortsGiven.{place_of, found, mapped, mapped_from, none_some, new_apart, new_others, define_keeps, define_at, gives_within, below_at, gives_filter, gives_hook, gives_either}
use Rattle.sk_reasons.proofs.OnlySeen.{all_places, places_below, length_places, end_of, branch_gives, after_only, stands_up}

place_is : (j : ℕ) (counts : List ℕ) (k other : ℕ) → k < length counts → get_or (branch_places j counts) k other ≡ j + k
place_is j [] k other h = absurd (omega (arith, h))
place_is j (count ∷ counts) zero other h = omega arith
place_is j (count ∷ counts) (suc k) other h =
    let e : j + suc k ≡ j + 1 + k = omega arith in
    rw e (place_is (j + 1) counts k other (omega (arith, h)))

from_zero : (k : ℕ) → 0 + k ≡ k
from_zero k = omega arith

module _ (d : Def) where
  -- a variable keeps its sort over the first bone, and has the sort that the bone gives it
  pub record Steps (g after : Sorts) (bones : List Bone) : Type 0 where
    pub keeps : (v : Var) (s : VarSort) → sort_of g v ≡ Some s → sort_of after v ≡ Some s
    pub given : (v : Var) (s : VarSort) → Gives d bones 0 v s → sort_of after v ≡ Some s

  -- a filter bone that passes
  pub filter_steps : (g : Sorts) (filter : Filter) (args outs : List Var) (rest : List Bone) → FilterPasses g filter args outs → AreBelow (length g) outs →
      Steps g (after_filter g filter outs) (Apply filter args outs ∷ rest)
  filter_steps g filter args outs rest passes below = record {
    keeps = λ v s h. define_keeps g outs (map Some (results filter)) v s passes.outs_new h;
    given = λ v s h.
        let r = gives_filter filter args outs h refl in
        define_at g outs (map Some (results filter)) v (Some s) r.0 (new_apart g outs passes.outs_new) (below_at (length g) outs r.0 v below r.1) r.1
        (mapped Some (results filter) r.0 s r.2);
  }

  -- a hook bone that passes
  pub hook_steps : (own : SortId) (g : Sorts) (hook : HookId) (args : List Var) (target : Target) (outs : List Var) (rest : List Bone) → HookPasses d own g hook args target outs →
      AreBelow (length g) outs → Steps g (after_hook d g hook outs) (Call hook args target outs ∷ rest)
  hook_steps own g hook args target outs rest passes below = record {
    keeps = λ v s h. define_keeps g outs (map (λ (t : FlowSort). Some (Flow t)) (outputs_of d hook)) v s passes.outs_new h;
    given = λ v s h.
        let r = gives_hook hook args target outs h refl in
        subst (λ t. sort_of (after_hook d g hook outs) v ≡ Some t) r.4
        (define_at g outs (map (λ (t : FlowSort). Some (Flow t)) (outputs_of d hook)) v (Some (Flow r.1)) r.0 (new_apart g outs passes.outs_new)
        (below_at (length g) outs r.0 v below r.2) r.2 (mapped (λ (t : FlowSort). Some (Flow t)) (outputs_of d hook) r.0 r.1 r.3));
  }

  -- what an own bone of a branch of the first bone gives, a bone of the branch gives that lies in no branch of it
  from_branch : (counts : List ℕ) (exports : List Var) (rest : List Bone) → sum counts ≤ length rest →
      ((k : ℕ) → k < length counts → Closed (branch counts k rest)) → (g : Sorts) (k : ℕ) → k < length counts →
      (v : Var) (s : VarSort) (earlier : ℕ) → IsOwnBone (Either counts exports ∷ rest) 0 k earlier → Gives d (Either counts exports ∷ rest) earlier v s →
      DefinedAfter d (HasSort g) (branch counts k rest) v s
  from_branch counts exports rest within closed g k less v s earlier own gives =
      let part = branch_part counts exports rest within closed k less in
      let r = place_in counts exports rest within closed k earlier own.inside in
      inr (r.0, own_outer part (omega arith) (subst (λ x. IsOwnBone (Either counts exports ∷ rest) 0 k x) r.1 own), gives_down part gives r.0 r.1 r.2)

  -- a branch bone that passes
  pub either_steps : (n : ℕ) (g : Sorts) (counts : List ℕ) (exports : List Var) (rest : List Bone) → sum counts ≤ length rest →
      ((k : ℕ) → k < length counts → Closed (branch counts k rest)) →
      ((k : ℕ) → k < length counts → (v : Var) (s : VarSort) → DefinedAfter d (HasSort g) (branch counts k rest) v s → sort_of (sorts_after d n g (branch counts k rest)) v ≡ Some s) →
      2 ≤ length counts → MergePasses g exports (ends_of d n g counts rest (branch_places 0 counts)) → AreBelow (length g) exports →
      Steps g (after_merge g exports (ends_of d n g counts rest (branch_places 0 counts))) (Either counts exports ∷ rest)
  either_steps n g [] exports rest within closed each two passes below = absurd (omega (arith, two))
  either_steps n g (count ∷ counts) exports rest within closed each two passes below = record {
    keeps = λ v s h. define_keeps g exports (map (sort_of (sorts_after d n g (branch (count ∷ counts) 0 rest))) exports) v s passes.exports_new h;
    given = λ v s h.
        let r = gives_either (count ∷ counts) exports h refl in
        let some : 0 < length (count ∷ counts) = omega arith in
        let end = each 0 some v s (from_branch (count ∷ counts) exports rest within closed g 0 some v s r.0 r.2 r.3) in
        let place = place_of exports v r.1 in
        define_at g exports (map (sort_of (sorts_after d n g (branch (count ∷ counts) 0 rest))) exports) v (Some s) place.0 (new_apart g exports passes.exports_new)
        (below_at (length g) exports place.0 v below place.2) place.2
        (mapped (sort_of (sorts_after d n g (branch (count ∷ counts) 0 rest))) exports place.0 v place.2 ∙ ap Some end);
  }

  -- what the only bone before the rest gives is there
  pub first_given : (after : Sorts) (bones : List Bone) → ((v : Var) (s : VarSort) → Gives d bones 0 v s → sort_of after v ≡ Some s) → (e : ℕ) → e < 1 →
      (v : Var) (s : VarSort) → Gives d bones e v s → sort_of after v ≡ Some s
  first_given after bones given e less v s h =
      let first : e ≡ 0 = omega (arith, less) in
      given v s (subst (λ x. Gives d bones x v s) first h)

  inside_pass : (own : SortId) (n bone : ℕ) (g : Sorts) (counts : List ℕ) (bones : List Bone) (ks : List ℕ) → fault_of d own (inside d n bone g counts bones ks) ≡ None →
      All (λ k. fault_of d own (placed d n (first_of_branch bone counts k) g (branch counts k bones)) ≡ None) ks
  inside_pass own n bone g counts bones [] h = All-nil (λ k. fault_of d own (placed d n (first_of_branch bone counts k) g (branch counts k bones)) ≡ None)
  inside_pass own n bone g counts bones (k ∷ ks) h =
      let here = placed d n (first_of_branch bone counts k) g (branch counts k bones) in
      let later = inside d n bone g counts bones ks in
      let p = none_none (fault_of d own here) (fault_of d own later) (sym (fault_append d own here later) ∙ h) in
      All-cons (λ k. fault_of d own (placed d n (first_of_branch bone counts k) g (branch counts k bones)) ≡ None) k ks p.0 (inside_pass own n bone g counts bones ks p.1)

  -- where the checks of a branch bone and of what follows pass: those of each branch, its own, and those of the rest
  pub either_pass : (own : SortId) (n first : ℕ) (g : Sorts) (counts : List ℕ) (exports : List Var) (bones : List Bone) →
      fault_of d own (placed d (suc n) first g (Either counts exports ∷ bones)) ≡ None →
      ((k : ℕ) → k < length counts → fault_of d own (placed d n (first_of_branch first counts k) g (branch counts k bones)) ≡ None)
      × MergePasses g exports (ends_of d n g counts bones (branch_places 0 counts))
      × (fault_of d own (placed d n (first + 1 + sum counts) (after_merge g exports (ends_of d n g counts bones (branch_places 0 counts))) (after_branches counts bones)) ≡ None)
  either_pass own n first g counts exports bones h =
      let before = inside d n first g counts bones (branch_places 0 counts) in
      let rest = after_inside d n first g counts exports bones in
      let ends = ends_of d n g counts bones (branch_places 0 counts) in
      let after = after_merge g exports ends in
      let p = none_none (fault_of d own before) (fault_of d own rest) (sym (fault_append d own before rest) ∙ h) in
      let q = both_none (fault_at first) (first_error (merge_checks g exports ends)) (fault_of d own (placed d n (first + 1 + sum counts) after (after_branches counts bones))) p.1 in
      let all = inside_pass own n first g counts bones (branch_places 0 counts) p.0 in (
        λ k less.
            let at = all k 0 (omega (arith, less, length_places 0 counts)) in
            let e : get_or (branch_places 0 counts) k 0 ≡ k = place_is 0 counts k 0 less ∙ from_zero k in
            subst (λ j. fault_of d own (placed d n (first_of_branch first counts j) g (branch counts j bones)) ≡ None) e at,
        merge_passes g exports ends q.0,
        q.1,
      )

  -- what is defined after the list is defined after the rest
  rest_after : {bones part : List Bone} {from : ℕ} (g after : Sorts) → IsPart bones part from → Steps g after bones → length bones ≤ from + length part →
      ((earlier : ℕ) → IsOuter bones earlier → earlier < from → earlier ≡ 0) →
      (v : Var) (s : VarSort) → DefinedAfter d (HasSort g) bones v s → DefinedAfter d (HasSort after) part v s
  rest_after g after p steps long first v s (inl h) = inl (steps.keeps v s h)
  rest_after {bones} {part} {from} g after p steps long first v s (inr r) = by (cases_lt r.0 from)
    where
      by : (r.0 < from) ⊎ (from ≤ r.0) → DefinedAfter d (HasSort after) part v s
      by (inl less) = inl (steps.given v s (subst (λ x. Gives d bones x v s) (first r.0 r.1 less) r.2))
      by (inr a) =
          let j = rest_of from r.0 a in
          let w : j.0 < length part = omega (arith, j.1, long, gives_within r.2) in
          inr (j.0, outer_down p (subst (λ x. IsOuter bones x) j.1 r.1), gives_down p r.2 j.0 j.1 w)

  -- where the checks pass, what the bones in no branch give is there after the list
  pub after_all : {hooks vars : ℕ} (own : SortId) (n first : ℕ) (g : Sorts) (nesting : ℕ) (bones : List Bone) → length bones ≤ n → BonesFit hooks vars nesting bones →
      vars ≡ length g → fault_of d own (placed d n first g bones) ≡ None →
      (v : Var) (s : VarSort) → DefinedAfter d (HasSort g) bones v s → sort_of (sorts_after d n g bones) v ≡ Some s
  after_all own n first g nesting [] within fits size pass v s (inl h) = h
  after_all own n first g nesting [] within fits size pass v s (inr r) = absurd (omega (arith, gives_within r.2))
  after_all own zero first g nesting (bone ∷ bones) within fits size pass v s h = absurd (omega (arith, within))
  after_all own (suc n) first g nesting (Apply filter args outs ∷ bones) within fits size pass v s h =
      let short : length bones ≤ n = omega (arith, within) in
      let fit = BonesFit-filter fits in
      let after = after_filter g filter outs in
      let plain = λ (counts : List ℕ) (exports : List Var) (e : Apply filter args outs ≡ Either counts exports). filter_plain counts exports e in
      let part = plain_part (Apply filter args outs) bones plain (closed_list n nesting bones short fit.2) in
      let p = both_none (fault_at first) (first_error (filter_checks g filter args outs)) (fault_of d own (placed d n (first + 1) after bones)) pass in
      let below = rw size at fit.1 in
      let steps = filter_steps g filter args outs bones (filter_passes g filter args outs p.0) below in
      after_all own n (first + 1) after nesting bones short fit.2 (size ∙ sym (length-define g outs (map Some (results filter)))) p.1 v s
      (rest_after {from = 1} g after part steps (omega arith) (λ e o less. omega (arith, less)) v s h)
  after_all own (suc n) first g nesting (Call hook args target outs ∷ bones) within fits size pass v s h =
      let short : length bones ≤ n = omega (arith, within) in
      let fit = BonesFit-hook fits in
      let after = after_hook d g hook outs in
      let plain = λ (counts : List ℕ) (exports : List Var) (e : Call hook args target outs ≡ Either counts exports). hook_plain counts exports e in
      let part = plain_part (Call hook args target outs) bones plain (closed_list n nesting bones short fit.4) in
      let p = both_none (fault_at first) (first_error (call_checks d own g hook target args outs)) (fault_of d own (placed d n (first + 1) after bones)) pass in
      let below = rw size at fit.3 in
      let steps = hook_steps own g hook args target outs bones (call_passes d own g hook target args outs (slice_get d.hooks hook.0) refl p.0) below in
      after_all own n (first + 1) after nesting bones short fit.4 (size ∙ sym (length-define g outs (map (λ (t : FlowSort). Some (Flow t)) (outputs_of d hook)))) p.1 v s
      (rest_after {from = 1} g after part steps (omega arith) (λ e o less. omega (arith, less)) v s h)
  after_all own (suc n) first g nesting (Either counts exports ∷ bones) within fits size pass v s h =
      let fit = BonesFit-either fits in
      let short : length bones ≤ n = omega (arith, within) in
      let later_short = shorter-drop n (sum counts) bones short in
      let ends = ends_of d n g counts bones (branch_places 0 counts) in
      let after = after_merge g exports ends in
      let start = first + 1 + sum counts in
      let each_short = λ (k : ℕ). shorter-branch n k counts bones short in
      let closed_in = λ (k : ℕ) (less : k < length counts). closed_list n fit.inner (branch counts k bones) (each_short k) (fit.branches k less) in
      let later = later_part counts exports bones fit.within closed_in (closed_list n fit.outer (after_branches counts bones) later_short fit.later) in
      let pass_parts = either_pass own n first g counts exports bones pass in
      let each = λ (k : ℕ) (less : k < length counts).
      after_all own n (first_of_branch first counts k) g fit.inner (branch counts k bones) (each_short k) (fit.branches k less) size (pass_parts.0 k less) in
      let steps = either_steps n g counts exports bones fit.within closed_in each fit.two pass_parts.1 (rw size at fit.exports_below) in
      let long : length (Either counts exports ∷ bones) ≤ 1 + sum counts + length (after_branches counts bones) = omega (arith, fit.within, length-drop (sum counts) bones) in
      after_all own n start after fit.outer (after_branches counts bones) later_short fit.later (size ∙ sym (length-after_merge g exports ends)) pass_parts.2 v s
      (rest_after {from = 1 + sum counts} g after later steps long (λ e o less. only_first_outer counts exports bones fit.within closed_in e o less) v s h)

  -- The bones give sorts to all that they define.

  filter_gives : (g : Sorts) (filter : Filter) (args outs : List Var) (rest : List Bone) → FilterPasses g filter args outs →
      (v : Var) → Contains outs v → (s : VarSort) × Gives d (Apply filter args outs ∷ rest) 0 v s
  filter_gives g filter args outs rest passes v c =
      let place = place_of outs v c in
      let r = found (results filter) place.0 (omega (arith, place.1, passes.outs_counted)) in
      (r.0, by_filter place.0 refl place.2 r.1)

  hook_gives : (own : SortId) (g : Sorts) (hook : HookId) (args : List Var) (target : Target) (outs : List Var) (rest : List Bone) → HookPasses d own g hook args target outs →
      (v : Var) → Contains outs v → (s : VarSort) × Gives d (Call hook args target outs ∷ rest) 0 v s
  hook_gives own g hook args target outs rest passes v c =
      let place = place_of outs v c in
      let same : outputs_of d hook ≡ passes.hook.outputs = rw passes.declared refl in
      let r = found (outputs_of d hook) place.0 (omega (arith, place.1, passes.outs_counted, ap length same)) in
      (Flow r.0, by_hook place.0 refl place.2 r.1)

  either_gives : (n : ℕ) (g : Sorts) (counts : List ℕ) (exports : List Var) (rest : List Bone) → sum counts ≤ length rest →
      ((k : ℕ) → k < length counts → Closed (branch counts k rest)) →
      ((k : ℕ) → k < length counts → (v : Var) (s : VarSort) → sort_of (sorts_after d n g (branch counts k rest)) v ≡ Some s → DefinedAfter d (HasSort g) (branch counts k rest) v s) →
      2 ≤ length counts → MergePasses g exports (ends_of d n g counts rest (branch_places 0 counts)) →
      (v : Var) → Contains exports v → (s : VarSort) × Gives d (Either counts exports ∷ rest) 0 v s
  either_gives n g [] exports rest within closed each two passes v c = absurd (omega (arith, two))
  either_gives n g (count ∷ counts) exports rest within closed each two passes v c =
      let some : 0 < length (count ∷ counts) = omega arith in
      let end = sorts_after d n g (branch (count ∷ counts) 0 rest) in
      let place = place_of exports v c in
      let agree = All-head (λ e. map (sort_of e) exports ≡ map Some passes.exported) end (ends_of d n g (count ∷ counts) rest (branch_places (0 + 1) counts)) passes.ends_agree in
      let r = mapped_from Some passes.exported place.0 (sort_of end v)
      (ap (λ (xs : List (Option VarSort)). slice_get xs place.0) (sym agree) ∙ mapped (sort_of end) exports place.0 v place.2) in
      (r.0, by r.0 (each 0 some v r.0 (sym r.2)))
    where
      by : (s : VarSort) → DefinedAfter d (HasSort g) (branch (count ∷ counts) 0 rest) v s → Gives d (Either (count ∷ counts) exports ∷ rest) 0 v s
      by s (inl h) = absurd (new_others g exports v s passes.exports_new h c)
      by s (inr r) = branch_gives d (count ∷ counts) exports rest within closed (omega arith) v s c r.0 r.1 r.2

  -- From a part of the list to the list.

  -- what is defined before a bone of the list is defined before this bone of the part
  pub before_down : {bones part : List Bone} {from at : ℕ} (g after : Sorts) → IsPart bones part from → at < length part →
      ((v : Var) (s : VarSort) → sort_of g v ≡ Some s → sort_of after v ≡ Some s) →
      ((e : ℕ) → Sees bones (from + at) e → e < from → (v : Var) (s : VarSort) → Gives d bones e v s → sort_of after v ≡ Some s) →
      (v : Var) (s : VarSort) → DefinedBefore d (HasSort g) bones (from + at) v s → DefinedBefore d (HasSort after) part at v s
  before_down g after i within keeps earlier v s (inl h) = inl (keeps v s h)
  before_down {bones} {part} {from} {at} g after i within keeps earlier v s (inr r) = by (cases_lt r.0 from)
    where
      by : (r.0 < from) ⊎ (from ≤ r.0) → DefinedBefore d (HasSort after) part at v s
      by (inl less) = inl (earlier r.0 r.1 less v s r.2)
      by (inr a) =
          let j = rest_of from r.0 a in
          let below = sees_down i within (subst (λ y. Sees bones (from + at) y) j.1 r.1) in
          let less : j.0 < length part = omega (arith, below.before, within) in
          inr (j.0, below, gives_down i r.2 j.0 j.1 less)

  -- and what is defined at the end of a branch
  pub end_down : {bones part : List Bone} {from at : ℕ} (g after : Sorts) → IsPart bones part from → at < length part →
      ((v : Var) (s : VarSort) → sort_of g v ≡ Some s → sort_of after v ≡ Some s) →
      ((e : ℕ) → Sees bones (from + at) e → e < from → (v : Var) (s : VarSort) → Gives d bones e v s → sort_of after v ≡ Some s) →
      (b : ℕ) (v : Var) (s : VarSort) → DefinedAtEnd d (HasSort g) bones (from + at) b v s → DefinedAtEnd d (HasSort after) part at b v s
  end_down g after i within keeps earlier b v s (inl h) = inl (keeps v s h)
  end_down {bones} {part} {from} {at} g after i within keeps earlier b v s (inr r) = by r.1
    where
      seen : DefinedBefore d (HasSort after) part at v s → DefinedAtEnd d (HasSort after) part at b v s
      seen (inl h) = inl h
      seen (inr q) = inr (q.0, inr q.1, q.2)

      by : EndSees bones (from + at) b r.0 → DefinedAtEnd d (HasSort after) part at b v s
      by (inl own) =
          let j = rest_of from r.0 (omega (arith, comes_later own.inside)) in
          let here = own_down i within (subst (λ y. IsOwnBone bones (from + at) b y) j.1 own) in
          inr (j.0, inl here, gives_down i r.2 j.0 j.1 (i.closed at b j.0 here.inside))
      by (inr sees) = seen (before_down g after i within keeps earlier v s (inr (r.0, sees, r.2)))

  all_up : {bones part : List Bone} {from : ℕ} (g after : Sorts) (start first : ℕ) → IsPart bones part from → start ≡ first + from →
      ((v : Var) (s : VarSort) → sort_of g v ≡ Some s → sort_of after v ≡ Some s) →
      ((i : ℕ) → i < length part → (e : ℕ) → Sees bones (from + i) e → e < from → (v : Var) (s : VarSort) → Gives d bones e v s → sort_of after v ≡ Some s) →
      (p : Placed) → AllSeen d start after part p → AllSeen d first g bones p
  all_up {bones} {part} {from} g after start first i e keeps earlier p all =
      let within = slice_get_within part all.at p.bone all.stands.bone_is in
      record {
        at = from + all.at;
        stands = stands_up d start first all.at p i e all.stands;
        before = λ v s h. all.before v s (before_down g after i within keeps (earlier all.at within) v s h);
        ends = λ b end v s k h. all.ends b end v s k (end_down g after i within keeps (earlier all.at within) b v s h);
        gives = λ v c. let r = all.gives v c in (r.0, gives_up i r.1);
      }

  -- what is defined before the first bone had its sort before
  pub first_before : (g : Sorts) (bones : List Bone) (v : Var) (s : VarSort) → DefinedBefore d (HasSort g) bones 0 v s → sort_of g v ≡ Some s
  first_before g bones v s (inl h) = h
  first_before g bones v s (inr r) = absurd (omega (arith, r.1.before))

  plain_all : (first : ℕ) (g : Sorts) (bone : Bone) (rest : List Bone) → branches_of bone ≡ 0 →
      ((v : Var) → Contains (defined_by bone) v → (s : VarSort) × Gives d (bone ∷ rest) 0 v s) →
      AllSeen d first g (bone ∷ rest) (record { number = first; before = g; bone = bone; ends = [] })
  plain_all first g bone rest e gives = record {
    at = 0;
    stands = record { number_is = omega arith; bone_is = refl; ends_counted = sym e };
    before = λ v s h. first_before g (bone ∷ rest) v s h;
    ends = λ b end v s k h. absurd (none_some k);
    gives = gives;
  }

  -- the ends of the branches of a branch bone that comes first
  pub either_ends : (n : ℕ) (g : Sorts) (counts : List ℕ) (exports : List Var) (rest : List Bone) → sum counts ≤ length rest →
      ((k : ℕ) → k < length counts → Closed (branch counts k rest)) →
      ((k : ℕ) → k < length counts → (v : Var) (s : VarSort) → DefinedAfter d (HasSort g) (branch counts k rest) v s → sort_of (sorts_after d n g (branch counts k rest)) v ≡ Some s) →
      (b : ℕ) (end : Sorts) (v : Var) (s : VarSort) → slice_get (ends_of d n g counts rest (branch_places 0 counts)) b ≡ Some end →
      DefinedAtEnd d (HasSort g) (Either counts exports ∷ rest) 0 b v s → sort_of end v ≡ Some s
  either_ends n g counts exports rest within closed each b end v s k h =
      let r = end_of (λ k. sorts_after d n g (branch counts k rest)) counts b end k in
      rw r.1 (each b r.0 v s (by r.0 h))
    where
      inner : b < length counts → (e : ℕ) → EndSees (Either counts exports ∷ rest) 0 b e → Gives d (Either counts exports ∷ rest) e v s → DefinedAfter d (HasSort g) (branch counts b rest) v s
      inner less e (inl own) gives = from_branch counts exports rest within closed g b less v s e own gives
      inner less e (inr sees) gives = absurd (omega (arith, sees.before))

      by : b < length counts → DefinedAtEnd d (HasSort g) (Either counts exports ∷ rest) 0 b v s → DefinedAfter d (HasSort g) (branch counts b rest) v s
      by less (inl h) = inl h
      by less (inr r) = inner less r.0 r.1 r.2

  -- where the checks pass, what a bone sees is defined before it
  pub placed_all : {hooks vars : ℕ} (own : SortId) (n first : ℕ) (g : Sorts) (nesting : ℕ) (bones : List Bone) → length bones ≤ n → BonesFit hooks vars nesting bones →
      vars ≡ length g → fault_of d own (placed d n first g bones) ≡ None → All (AllSeen d first g bones) (placed d n first g bones)
  placed_all own n first g nesting [] within fits size pass = All-nil (AllSeen d first g [])
  placed_all own zero first g nesting (bone ∷ bones) within fits size pass = absurd (omega (arith, within))
  placed_all own (suc n) first g nesting (Apply filter args outs ∷ bones) within fits size pass =
      let short : length bones ≤ n = omega (arith, within) in
      let fit = BonesFit-filter fits in
      let whole = Apply filter args outs ∷ bones in
      let after = after_filter g filter outs in
      let plain = λ (counts : List ℕ) (exports : List Var) (e : Apply filter args outs ≡ Either counts exports). filter_plain counts exports e in
      let part = plain_part (Apply filter args outs) bones plain (closed_list n nesting bones short fit.2) in
      let p = both_none (fault_at first) (first_error (filter_checks g filter args outs)) (fault_of d own (placed d n (first + 1) after bones)) pass in
      let passes = filter_passes g filter args outs p.0 in
      let steps = filter_steps g filter args outs bones passes (rw size at fit.1) in
      All-cons (AllSeen d first g whole) _ (placed d n (first + 1) after bones) (plain_all first g (Apply filter args outs) bones refl (filter_gives g filter args outs bones passes))
      (All-weaker (AllSeen d (first + 1) after bones) (AllSeen d first g whole)
      (all_up g after (first + 1) first part refl steps.keeps (λ i w e sees less v s k. first_given after whole steps.given e less v s k)) (placed d n (first + 1) after bones)
      (placed_all own n (first + 1) after nesting bones short fit.2 (size ∙ sym (length-define g outs (map Some (results filter)))) p.1))
  placed_all own (suc n) first g nesting (Call hook args target outs ∷ bones) within fits size pass =
      let short : length bones ≤ n = omega (arith, within) in
      let fit = BonesFit-hook fits in
      let whole = Call hook args target outs ∷ bones in
      let after = after_hook d g hook outs in
      let plain = λ (counts : List ℕ) (exports : List Var) (e : Call hook args target outs ≡ Either counts exports). hook_plain counts exports e in
      let part = plain_part (Call hook args target outs) bones plain (closed_list n nesting bones short fit.4) in
      let p = both_none (fault_at first) (first_error (call_checks d own g hook target args outs)) (fault_of d own (placed d n (first + 1) after bones)) pass in
      let passes = call_passes d own g hook target args outs (slice_get d.hooks hook.0) refl p.0 in
      let steps = hook_steps own g hook args target outs bones passes (rw size at fit.3) in
      All-cons (AllSeen d first g whole) _ (placed d n (first + 1) after bones) (plain_all first g (Call hook args target outs) bones refl (hook_gives own g hook args target outs bones passes))
      (All-weaker (AllSeen d (first + 1) after bones) (AllSeen d first g whole)
      (all_up g after (first + 1) first part refl steps.keeps (λ i w e sees less v s k. first_given after whole steps.given e less v s k)) (placed d n (first + 1) after bones)
      (placed_all own n (first + 1) after nesting bones short fit.4 (size ∙ sym (length-define g outs (map (λ (t : FlowSort). Some (Flow t)) (outputs_of d hook)))) p.1))
  placed_all own (suc n) first g nesting (Either counts exports ∷ bones) within fits size pass =
      let fit = BonesFit-either fits in
      let short : length bones ≤ n = omega (arith, within) in
      let later_short = shorter-drop n (sum counts) bones short in
      let whole = Either counts exports ∷ bones in
      let ends = ends_of d n g counts bones (branch_places 0 counts) in
      let after = after_merge g exports ends in
      let start = first + 1 + sum counts in
      let each_short = λ (k : ℕ). shorter-branch n k counts bones short in
      let closed_in = λ (k : ℕ) (less : k < length counts). closed_list n fit.inner (branch counts k bones) (each_short k) (fit.branches k less) in
      let later = later_part counts exports bones fit.within closed_in (closed_list n fit.outer (after_branches counts bones) later_short fit.later) in
      let pass_parts = either_pass own n first g counts exports bones pass in
      let each = λ (k : ℕ) (less : k < length counts).
      after_all own n (first_of_branch first counts k) g fit.inner (branch counts k bones) (each_short k) (fit.branches k less) size (pass_parts.0 k less) in
      let each_only = λ (k : ℕ) (less : k < length counts). after_only d n g fit.inner (branch counts k bones) (each_short k) (fit.branches k less) in
      let steps = either_steps n g counts exports bones fit.within closed_in each fit.two pass_parts.1 (rw size at fit.exports_below) in
      let entry : Placed = record { number = first; before = g; bone = Either counts exports; ends = ends } in
      let here : AllSeen d first g whole entry = record {
        at = 0;
        stands = record {
          number_is = omega arith;
          bone_is = refl;
          ends_counted = length-map (branch_places 0 counts) (λ k. sorts_after d n g (branch counts k bones)) ∙ length_places 0 counts;
        };
        before = λ v s h. first_before g whole v s h;
        ends = either_ends n g counts exports bones fit.within closed_in each;
        gives = either_gives n g counts exports bones fit.within closed_in each_only fit.two pass_parts.1;
      } in
      All-append (AllSeen d first g whole) (inside d n first g counts bones (branch_places 0 counts)) (after_inside d n first g counts exports bones)
      (all_places (λ k. placed d n (first_of_branch first counts k) g (branch counts k bones)) (AllSeen d first g whole) (λ k. k < length counts) (branch_places 0 counts)
      (λ k less. All-weaker (AllSeen d (first_of_branch first counts k) g (branch counts k bones)) (AllSeen d first g whole)
      (all_up g g (first_of_branch first counts k) first (branch_part counts exports bones fit.within closed_in k less) (omega arith) (λ v s h. h)
      (λ i w e sees before v s h. absurd (no_sibling counts exports bones fit.within closed_in k i e w sees before)))
      (placed d n (first_of_branch first counts k) g (branch counts k bones))
      (placed_all own n (first_of_branch first counts k) g fit.inner (branch counts k bones) (each_short k) (fit.branches k less) size (pass_parts.0 k less)))
      (places_below 0 (length counts) counts (omega arith)))
      (All-cons (AllSeen d first g whole) entry (placed d n start after (after_branches counts bones)) here
      (All-weaker (AllSeen d start after (after_branches counts bones)) (AllSeen d first g whole)
      (all_up g after start first later (omega arith) steps.keeps
      (λ i w e sees less v s h. steps.given v s (subst (λ x. Gives d whole x v s) (only_first counts exports bones fit.within closed_in i e sees less) h)))
      (placed d n start after (after_branches counts bones))
      (placed_all own n start after fit.outer (after_branches counts bones) later_short fit.later (size ∙ sym (length-after_merge g exports ends)) pass_parts.2)))
