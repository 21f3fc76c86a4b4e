-- The checks of the bones of a list all pass exactly where each bone is well sorted by what it sees.
use Rattle.std.proofs.Common.{◌≡◌, ℕ, zero, suc, ◌+◌, ◌≤◌, ◌<◌, List, [], ◌∷◌, length, map, take, drop, sum, Option, Some, None, refl, sym, subst, ◌∙◌, arith, inl, inr, slice_get, get_or}
use Rattle.std.specs.Prelude.{◌⊎◌, All, slice_index}
use Rattle.std.specs.Option.{option_or, option_map}
use Rattle.std.proofs.lemmas.Bool.{cases_lt}
use Rattle.std.proofs.lemmas.List.{length-map}
use Rattle.std.proofs.lemmas.Option.{slice_get_within, slice_get-get_or}
use Rattle.std.proofs.lemmas.List.Elements.{All-head, All-tail}
use Rattle.sk_base.specs.declared.flow.FlowSort.{FlowSort}
use Rattle.sk_def.specs.declared.def.Def.{Def}
use Rattle.sk_def.specs.declared.ids.Var.{Var}
use Rattle.sk_def.specs.declared.ids.SortId.{SortId}
use Rattle.sk_def.specs.declared.ids.HookId.{HookId}
use Rattle.sk_def.specs.declared.bone.Target.{Target}
use Rattle.sk_def.specs.declared.bone.Target.TheVariants.{Own, Sub}
use Rattle.sk_def.specs.declared.filter.Filter.{Filter}
use Rattle.sk_def.specs.declared.bone.Bone.{Bone}
use Rattle.sk_def.specs.declared.bone.Bone.TheVariants.{Apply, Call, Either}
use Rattle.sk_def.specs.declared.sorts.VarSort.{VarSort}
use Rattle.sk_def.specs.declared.sorts.VarSort.TheVariants.{Term, Flow}
use Rattle.sk_def.specs.Signatures.{parameters, results}
use Rattle.sk_def.specs.Sorts.{Sorts, sort_of, outputs_of, target_sort, FilterPasses, HookPasses, after_filter, after_hook, after_merge}
use Rattle.sk_def.specs.Layout.{BonesFit, branch, branch_places, first_of_branch, after_branches}
use Rattle.sk_walk.proofs.Checks.{BonesFit-filter, BonesFit-hook, BonesFit-either, length-define, length-after_merge}
use Rattle.sk_sort.specs.Checks.{first_error, filter_checks, merge_checks}
use Rattle.sk_sort.specs.Interp.{call_checks}
use Rattle.sk_sort.specs.Parts.{fault_at}
use Rattle.sk_sort.specs.DefinedBefore.{sorts_after, placed}
use Rattle.sk_sort.proofs.Passes.{filter_passes, call_passes, merge_passes}
use Rattle.sk_sort.proofs.WellSorted.{both_none}
use Rattle.sk_sort.proofs.Walked.{fault_of, fault_append, shorter-drop, shorter-branch, inside, ends_of, after_inside}
use Rattle.sk_reasons.specs.Scope.{IsBone, Sees}
use Rattle.sk_reasons.specs.Gives.{Gives}
use Rattle.sk_reasons.specs.Defined.{HasSort, DefinedBefore, DefinedAtEnd}
use Rattle.sk_reasons.specs.BonesSorted.{AreDefined, AreFree, TargetHas, BoneIsSorted, BonesAreSorted}
use Rattle.sk_reasons.proofs.Branches.{branch_of_place}
use Rattle.sk_reasons.proofs.ListParts.{IsPart, rest_of}
use Rattle.sk_reasons.proofs.FirstBone.{Closed, get_drop, get_take, plain_never, plain_part, filter_plain, hook_plain, branch_part, later_part, never_later, no_sibling, only_first, closed_list}
use Rattle.sk_reasons.proofs.SortsGiven.{some_same}
use Rattle.sk_reasons.proofs.OnlySeen.{places_below, length_places, FromFirst, filter_only, hook_only, either_only, after_only, before_up, end_up, rest_base, either_ends as ends_only}
use Rattle.sk_reasons.proofs.AllSeen.{Steps, filter_steps, hook_steps, either_steps, either_pass, after_all, before_down, end_down, first_before, first_given, either_ends as ends_all}
use Rattle.sk_reasons.proofs.BoneChecks.{sorts_defined, new_free, filter_checked, call_checked, merge_checked, merge_one}

-- The bones of a list, by its parts.

by_first : (P : ℕ → Bone → Type 0) (first : Bone) (rest : List Bone) → P 0 first → ((i : ℕ) (bone : Bone) → IsBone rest i bone → P (1 + i) bone) →
    (at : ℕ) (bone : Bone) → IsBone (first ∷ rest) at bone → P at bone
by_first P first rest here later zero bone is = subst (λ b. P 0 b) (some_same is) here
by_first P first rest here later (suc i) bone is =
    let e : 1 + i ≡ suc i = omega arith in
    subst (λ n. P n bone) e (later i bone is)

by_branch : (P : ℕ → Bone → Type 0) (counts : List ℕ) (rest : List Bone) →
    ((k : ℕ) → k < length counts → (i : ℕ) (bone : Bone) → IsBone (branch counts k rest) i bone → P (1 + sum (take k counts) + i) bone) →
    ((i : ℕ) (bone : Bone) → IsBone (after_branches counts rest) i bone → P (1 + sum counts + i) bone) →
    (i : ℕ) (bone : Bone) → IsBone rest i bone → P (1 + i) bone
by_branch P counts rest each later i bone is = by (cases_lt i (sum counts))
  where
    by : (i < sum counts) ⊎ (sum counts ≤ i) → P (1 + i) bone
    by (inl less) =
        let r = branch_of_place counts i less in
        let n = sum (take r.0 counts) in
        let j = rest_of n i r.2.from in
        let below : j.0 < slice_index counts r.0 = omega (arith, j.1, r.2.below) in
        let here : IsBone rest (n + j.0) bone = subst (λ x. IsBone rest x bone) j.1 is in
        let there : IsBone (branch counts r.0 rest) j.0 bone = get_take (slice_index counts r.0) j.0 (drop n rest) below ∙ get_drop n j.0 rest ∙ here in
        let e : 1 + n + j.0 ≡ 1 + i = omega (arith, j.1) in
        subst (λ x. P x bone) e (each r.0 r.1 j.0 bone there)
    by (inr a) =
        let j = rest_of (sum counts) i a in
        let here : IsBone rest (sum counts + j.0) bone = subst (λ x. IsBone rest x bone) j.1 is in
        let e : 1 + sum counts + j.0 ≡ 1 + i = omega (arith, j.1) in
        subst (λ x. P x bone) e (later j.0 bone (get_drop (sum counts) j.0 rest ∙ here))

-- A bone is well sorted by what is defined, whichever way this is said.

-- what is defined one way is defined the other
pub same_defined : (B C : Var → VarSort → Type 0) (vs : List Var) (ss : List VarSort) → ((v : Var) (s : VarSort) → B v s → C v s) → AreDefined B vs ss → AreDefined C vs ss
same_defined B C vs ss f a = record { counted = a.counted; each = λ i v s p q. f v s (a.each i v s p q) }

same_free : (B C : Var → VarSort → Type 0) (vs : List Var) → ((v : Var) (s : VarSort) → C v s → B v s) → AreFree B vs → AreFree C vs
same_free B C vs f a = record { undefined = λ v s c h. a.undefined v s c (f v s h); different = a.different }

same_target : (B C : Var → VarSort → Type 0) (own sort : SortId) (target : Target) → ((v : Var) (s : VarSort) → B v s → C v s) → TargetHas B own sort target → TargetHas C own sort target
same_target B C own sort Own f h = h
same_target B C own sort (Sub v) f h = f v (Term sort) h

-- a bone that is sorted by one is sorted by the other
pub same_bone : (d : Def) (own : SortId) (B C : Var → VarSort → Type 0) (E F : ℕ → Var → VarSort → Type 0) (bone : Bone) →
    ((v : Var) (s : VarSort) → B v s → C v s) → ((v : Var) (s : VarSort) → C v s → B v s) → ((b : ℕ) (v : Var) (s : VarSort) → E b v s → F b v s) →
    BoneIsSorted B d own E bone → BoneIsSorted C d own F bone
same_bone d own B C E F (Apply filter args outs) to back ends h = (same_defined B C args (parameters filter) to h.0, h.1, same_free B C outs back h.2)
same_bone d own B C E F (Call id args target outs) to back ends h =
    (h.0, h.1, same_defined B C args (map Flow h.0.inputs) to h.2, same_target B C own h.0.sort target to h.3, h.4, same_free B C outs back h.5)
same_bone d own B C E F (Either counts exports) to back ends h =
    (same_free B C exports back h.0, λ v c. let r = h.1 v c in (r.0, λ b less. ends b v r.0 (r.1 b less)))

-- no fault first, and none later
pub none_after : {A B : Type 0} (f : A → B) (a : Option A) (b : Option B) → a ≡ None → b ≡ None → option_or (option_map f a) b ≡ None
none_after f a b p q = rw (p, q) refl

module _ (d : Def) (own : SortId) where
  -- from the sorts `after` on the part defines and sees what it does in the list from the sorts `g` on
  record Agrees (g after : Sorts) (bones part : List Bone) (from : ℕ) : Type 0 where
    part_is : IsPart bones part from
    base : (v : Var) (s : VarSort) (i : ℕ) → sort_of after v ≡ Some s → DefinedBefore d (HasSort g) bones (from + i) v s
    keeps : (v : Var) (s : VarSort) → sort_of g v ≡ Some s → sort_of after v ≡ Some s
    earlier : (i : ℕ) → i < length part → (e : ℕ) → Sees bones (from + i) e → e < from → (v : Var) (s : VarSort) → Gives d bones e v s → sort_of after v ≡ Some s

  abbrev SortedAt : Sorts → List Bone → ℕ → Bone → Type 0
  SortedAt g bones at bone = BoneIsSorted (DefinedBefore d (HasSort g) bones at) d own (DefinedAtEnd d (HasSort g) bones at) bone

  module _ {g after : Sorts} {bones part : List Bone} {from : ℕ} (a : Agrees g after bones part from) where
    sorted_up : (at : ℕ) (bone : Bone) → at < length part → SortedAt after part at bone → SortedAt g bones (from + at) bone
    sorted_up at bone within h =
        same_bone d own (DefinedBefore d (HasSort after) part at) (DefinedBefore d (HasSort g) bones (from + at)) (DefinedAtEnd d (HasSort after) part at) (DefinedAtEnd d (HasSort g) bones (from + at)) bone
        (before_up d g after a.part_is within (λ v s k. a.base v s at k)) (before_down d g after a.part_is within a.keeps (a.earlier at within))
        (end_up d g after a.part_is within (λ v s k. a.base v s at k)) h

    sorted_down : (at : ℕ) (bone : Bone) → at < length part → SortedAt g bones (from + at) bone → SortedAt after part at bone
    sorted_down at bone within h =
        same_bone d own (DefinedBefore d (HasSort g) bones (from + at)) (DefinedBefore d (HasSort after) part at) (DefinedAtEnd d (HasSort g) bones (from + at)) (DefinedAtEnd d (HasSort after) part at) bone
        (before_down d g after a.part_is within a.keeps (a.earlier at within)) (before_up d g after a.part_is within (λ v s k. a.base v s at k))
        (end_down d g after a.part_is within a.keeps (a.earlier at within)) h

    part_sorted : BonesAreSorted d own (HasSort g) bones → BonesAreSorted d own (HasSort after) part
    part_sorted h i bone is =
        let within = slice_get_within part i bone is in
        sorted_down i bone within (h (from + i) bone (a.part_is.same.at i within ∙ is))

  -- the rest after a bone without branches
  plain_agrees : (g after : Sorts) (bone : Bone) (rest : List Bone) → ((counts : List ℕ) (exports : List Var) → bone ≡ Either counts exports → ⊥) → Closed rest →
      FromFirst d g after (bone ∷ rest) → Steps d g after (bone ∷ rest) → Agrees g after (bone ∷ rest) rest 1
  plain_agrees g after bone rest plain closed first steps = record {
    part_is = plain_part bone rest plain closed;
    base = rest_base d {from = 1} g after (omega arith) (λ k i. plain_never bone rest plain k (1 + i)) first;
    keeps = steps.keeps;
    earlier = λ i w e sees less v s k. first_given d after (bone ∷ rest) steps.given e less v s k;
  }

  module _ (counts : List ℕ) (exports : List Var) (rest : List Bone) (within : sum counts ≤ length rest)
      (closed : (k : ℕ) → k < length counts → Closed (branch counts k rest)) where
    branch_agrees : (g : Sorts) (k : ℕ) → k < length counts → Agrees g g (Either counts exports ∷ rest) (branch counts k rest) (1 + sum (take k counts))
    branch_agrees g k less = record {
      part_is = branch_part counts exports rest within closed k less;
      base = λ v s i h. inl h;
      keeps = λ v s h. h;
      earlier = λ i w e sees before v s h. absurd (no_sibling counts exports rest within closed k i e w sees before);
    }

    later_agrees : (g after : Sorts) → Closed (after_branches counts rest) → FromFirst d g after (Either counts exports ∷ rest) →
        Steps d g after (Either counts exports ∷ rest) → Agrees g after (Either counts exports ∷ rest) (after_branches counts rest) (1 + sum counts)
    later_agrees g after last first steps = record {
      part_is = later_part counts exports rest within closed last;
      base = rest_base d {from = 1 + sum counts} g after (omega arith) (λ k i. never_later counts exports rest within closed k i) first;
      keeps = steps.keeps;
      earlier = λ i w e sees less v s h.
          steps.given v s (subst (λ x. Gives d (Either counts exports ∷ rest) x v s) (only_first counts exports rest within closed i e sees less) h);
    }

  -- The first bone.

  first_up : (g : Sorts) (bone : Bone) (rest : List Bone) (E : ℕ → Var → VarSort → Type 0) →
      ((b : ℕ) (v : Var) (s : VarSort) → E b v s → DefinedAtEnd d (HasSort g) (bone ∷ rest) 0 b v s) → BoneIsSorted (HasSort g) d own E bone → SortedAt g (bone ∷ rest) 0 bone
  first_up g bone rest E ends h =
      same_bone d own (HasSort g) (DefinedBefore d (HasSort g) (bone ∷ rest) 0) E (DefinedAtEnd d (HasSort g) (bone ∷ rest) 0) bone
      (λ v s k. inl k) (λ v s k. first_before d g (bone ∷ rest) v s k) ends h

  first_down : (g : Sorts) (bone : Bone) (rest : List Bone) → SortedAt g (bone ∷ rest) 0 bone → BoneIsSorted (HasSort g) d own (DefinedAtEnd d (HasSort g) (bone ∷ rest) 0) bone
  first_down g bone rest h =
      same_bone d own (DefinedBefore d (HasSort g) (bone ∷ rest) 0) (HasSort g) (DefinedAtEnd d (HasSort g) (bone ∷ rest) 0) (DefinedAtEnd d (HasSort g) (bone ∷ rest) 0) bone
      (λ v s k. first_before d g (bone ∷ rest) v s k) (λ v s k. inl k) (λ b v s k. k) h

  filter_first : (g : Sorts) (filter : Filter) (args outs : List Var) (rest : List Bone) → FilterPasses g filter args outs → SortedAt g (Apply filter args outs ∷ rest) 0 (Apply filter args outs)
  filter_first g filter args outs rest p =
      first_up g (Apply filter args outs) rest (λ b v s. ⊥) (λ b v s k. absurd k) (sorts_defined g args (parameters filter) p.args_fit, p.outs_counted, new_free g outs p.outs_new)

  has_target : (g : Sorts) (sort : SortId) (target : Target) → target_sort own g target ≡ Some (Term sort) → TargetHas (HasSort g) own sort target
  has_target g sort Own h = let e : own ≡ sort = cc (h) in e
  has_target g sort (Sub v) h = h

  hook_first : (g : Sorts) (id : HookId) (args : List Var) (target : Target) (outs : List Var) (rest : List Bone) → HookPasses d own g id args target outs →
      SortedAt g (Call id args target outs ∷ rest) 0 (Call id args target outs)
  hook_first g id args target outs rest p =
      first_up g (Call id args target outs) rest (λ b v s. ⊥) (λ b v s k. absurd k)
      (p.hook, p.declared, sorts_defined g args (map Flow p.hook.inputs) p.args_fit, has_target g p.hook.sort target p.target_fits, p.outs_counted, new_free g outs p.outs_new)

  -- where the checks pass the bones are sorted
  pub passing_sorted : {hooks vars : ℕ} (n first : ℕ) (g : Sorts) (nesting : ℕ) (bones : List Bone) → length bones ≤ n → BonesFit hooks vars nesting bones →
      vars ≡ length g → fault_of d own (placed d n first g bones) ≡ None → BonesAreSorted d own (HasSort g) bones
  passing_sorted n first g nesting [] within fits size pass = λ at bone is. cc
  passing_sorted zero first g nesting (bone ∷ bones) within fits size pass = absurd (omega (arith, within))
  passing_sorted (suc n) first g nesting (Apply filter args outs ∷ bones) within fits size pass =
      let short : length bones ≤ n = omega (arith, within) in
      let fit = BonesFit-filter fits in
      let whole = Apply filter args outs ∷ bones in
      let after = after_filter g filter outs in
      let plain = λ (counts : List ℕ) (exports : List Var) (e : Apply filter args outs ≡ Either counts exports). filter_plain counts exports e in
      let p = both_none (fault_at first) (first_error (filter_checks g filter args outs)) (fault_of d own (placed d n (first + 1) after bones)) pass in
      let passes = filter_passes g filter args outs p.0 in
      let steps = filter_steps d g filter args outs bones passes (rw size at fit.1) in
      let agrees = plain_agrees g after (Apply filter args outs) bones plain (closed_list n nesting bones short fit.2) (filter_only d g filter args outs bones) steps in
      let later = passing_sorted n (first + 1) after nesting bones short fit.2 (size ∙ sym (length-define g outs (map Some (results filter)))) p.1 in
      by_first (SortedAt g whole) (Apply filter args outs) bones (filter_first g filter args outs bones passes)
      (λ i bone is. sorted_up agrees i bone (slice_get_within bones i bone is) (later i bone is))
  passing_sorted (suc n) first g nesting (Call hook args target outs ∷ bones) within fits size pass =
      let short : length bones ≤ n = omega (arith, within) in
      let fit = BonesFit-hook fits in
      let whole = Call hook args target outs ∷ bones in
      let after = after_hook d g hook outs in
      let plain = λ (counts : List ℕ) (exports : List Var) (e : Call hook args target outs ≡ Either counts exports). hook_plain counts exports e in
      let p = both_none (fault_at first) (first_error (call_checks d own g hook target args outs)) (fault_of d own (placed d n (first + 1) after bones)) pass in
      let passes = call_passes d own g hook target args outs (slice_get d.hooks hook.0) refl p.0 in
      let steps = hook_steps d own g hook args target outs bones passes (rw size at fit.3) in
      let agrees = plain_agrees g after (Call hook args target outs) bones plain (closed_list n nesting bones short fit.4) (hook_only d g hook args target outs bones) steps in
      let later = passing_sorted n (first + 1) after nesting bones short fit.4 (size ∙ sym (length-define g outs (map (λ (t : FlowSort). Some (Flow t)) (outputs_of d hook)))) p.1 in
      by_first (SortedAt g whole) (Call hook args target outs) bones (hook_first g hook args target outs bones passes)
      (λ i bone is. sorted_up agrees i bone (slice_get_within bones i bone is) (later i bone is))
  passing_sorted (suc n) first g nesting (Either counts exports ∷ bones) within fits size pass =
      let fit = BonesFit-either fits in
      let short : length bones ≤ n = omega (arith, within) in
      let later_short = shorter-drop n (sum counts) bones short in
      let whole = Either counts exports ∷ bones in
      let ends = ends_of d n g counts bones (branch_places 0 counts) in
      let after = after_merge g exports ends in
      let start = first + 1 + sum counts in
      let each_short = λ (k : ℕ). shorter-branch n k counts bones short in
      let closed_in = λ (k : ℕ) (less : k < length counts). closed_list n fit.inner (branch counts k bones) (each_short k) (fit.branches k less) in
      let last = closed_list n fit.outer (after_branches counts bones) later_short fit.later in
      let parts = either_pass d own n first g counts exports bones pass in
      let each = λ (k : ℕ) (less : k < length counts).
      after_all d own n (first_of_branch first counts k) g fit.inner (branch counts k bones) (each_short k) (fit.branches k less) size (parts.0 k less) in
      let each_only = λ (k : ℕ) (less : k < length counts). after_only d n g fit.inner (branch counts k bones) (each_short k) (fit.branches k less) in
      let steps = either_steps d n g counts exports bones fit.within closed_in each fit.two parts.1 (rw size at fit.exports_below) in
      let agrees = later_agrees counts exports bones fit.within closed_in g after last (either_only d n g counts exports bones fit.within closed_in each_only) steps in
      let later = passing_sorted n start after fit.outer (after_branches counts bones) later_short fit.later (size ∙ sym (length-after_merge g exports ends)) parts.2 in
      let long : length ends ≡ length counts = length-map (branch_places 0 counts) (λ k. sorts_after d n g (branch counts k bones)) ∙ length_places 0 counts in
      let some : 0 < length ends = omega (arith, long, fit.two) in
      let here : SortedAt g whole 0 (Either counts exports) = (
        same_free (HasSort g) (DefinedBefore d (HasSort g) whole 0) exports (λ v s k. first_before d g whole v s k) (new_free g exports parts.1.exports_new),
        λ v c.
            let r = merge_one g exports ends some parts.1 v c in (
              r.0,
              λ b less.
                  let w : b < length ends = omega (arith, long, less) in
                  ends_only d n g counts exports bones fit.within closed_in each_only b (get_or ends b []) v r.0 (slice_get-get_or ends b [] w) (r.1 b [] w),
            ),
      ) in
      by_first (SortedAt g whole) (Either counts exports) bones here
      (by_branch (SortedAt g whole) counts bones
      (λ k less i bone is. sorted_up (branch_agrees counts exports bones fit.within closed_in g k less) i bone (slice_get_within (branch counts k bones) i bone is)
      (passing_sorted n (first_of_branch first counts k) g fit.inner (branch counts k bones) (each_short k) (fit.branches k less) size (parts.0 k less) i bone is))
      (λ i bone is. sorted_up agrees i bone (slice_get_within (after_branches counts bones) i bone is) (later i bone is)))

  -- where the bones of each branch pass, those of all branches do
  inside_none : (n bone : ℕ) (g : Sorts) (counts : List ℕ) (bones : List Bone) (ks : List ℕ) →
      All (λ k. fault_of d own (placed d n (first_of_branch bone counts k) g (branch counts k bones)) ≡ None) ks → fault_of d own (inside d n bone g counts bones ks) ≡ None
  inside_none n bone g counts bones [] h = refl
  inside_none n bone g counts bones (k ∷ ks) h =
      let P : ℕ → Type 0 = λ j. fault_of d own (placed d n (first_of_branch bone counts j) g (branch counts j bones)) ≡ None in
      let here = All-head P k ks h in
      let later = inside_none n bone g counts bones ks (All-tail P k ks h) in
      fault_append d own (placed d n (first_of_branch bone counts k) g (branch counts k bones)) (inside d n bone g counts bones ks) ∙ rw (here, later) refl

  -- where the bones are sorted the checks pass
  pub sorted_passing : {hooks vars : ℕ} (n first : ℕ) (g : Sorts) (nesting : ℕ) (bones : List Bone) → length bones ≤ n → BonesFit hooks vars nesting bones →
      vars ≡ length g → BonesAreSorted d own (HasSort g) bones → fault_of d own (placed d n first g bones) ≡ None
  sorted_passing n first g nesting [] within fits size sorted = refl
  sorted_passing zero first g nesting (bone ∷ bones) within fits size sorted = absurd (omega (arith, within))
  sorted_passing (suc n) first g nesting (Apply filter args outs ∷ bones) within fits size sorted =
      let short : length bones ≤ n = omega (arith, within) in
      let fit = BonesFit-filter fits in
      let after = after_filter g filter outs in
      let plain = λ (counts : List ℕ) (exports : List Var) (e : Apply filter args outs ≡ Either counts exports). filter_plain counts exports e in
      let h = first_down g (Apply filter args outs) bones (sorted 0 (Apply filter args outs) refl) in
      let pass = filter_checked g filter args outs h.0 h.1 h.2 in
      let steps = filter_steps d g filter args outs bones (filter_passes g filter args outs pass) (rw size at fit.1) in
      let agrees = plain_agrees g after (Apply filter args outs) bones plain (closed_list n nesting bones short fit.2) (filter_only d g filter args outs bones) steps in
      let later = sorted_passing n (first + 1) after nesting bones short fit.2 (size ∙ sym (length-define g outs (map Some (results filter)))) (part_sorted agrees sorted) in
      none_after (fault_at first) (first_error (filter_checks g filter args outs)) (fault_of d own (placed d n (first + 1) after bones)) pass later
  sorted_passing (suc n) first g nesting (Call hook args target outs ∷ bones) within fits size sorted =
      let short : length bones ≤ n = omega (arith, within) in
      let fit = BonesFit-hook fits in
      let after = after_hook d g hook outs in
      let plain = λ (counts : List ℕ) (exports : List Var) (e : Call hook args target outs ≡ Either counts exports). hook_plain counts exports e in
      let h = first_down g (Call hook args target outs) bones (sorted 0 (Call hook args target outs) refl) in
      let pass = call_checked d own g hook h.0 target args outs h.1 h.2 h.3 h.4 h.5 in
      let steps = hook_steps d own g hook args target outs bones (call_passes d own g hook target args outs (slice_get d.hooks hook.0) refl pass) (rw size at fit.3) in
      let agrees = plain_agrees g after (Call hook args target outs) bones plain (closed_list n nesting bones short fit.4) (hook_only d g hook args target outs bones) steps in
      let later = sorted_passing n (first + 1) after nesting bones short fit.4 (size ∙ sym (length-define g outs (map (λ (t : FlowSort). Some (Flow t)) (outputs_of d hook)))) (part_sorted agrees sorted) in
      none_after (fault_at first) (first_error (call_checks d own g hook target args outs)) (fault_of d own (placed d n (first + 1) after bones)) pass later
  sorted_passing (suc n) first g nesting (Either counts exports ∷ bones) within fits size sorted =
      let fit = BonesFit-either fits in
      let short : length bones ≤ n = omega (arith, within) in
      let later_short = shorter-drop n (sum counts) bones short in
      let whole = Either counts exports ∷ bones in
      let ends = ends_of d n g counts bones (branch_places 0 counts) in
      let after = after_merge g exports ends in
      let start = first + 1 + sum counts in
      let each_short = λ (k : ℕ). shorter-branch n k counts bones short in
      let closed_in = λ (k : ℕ) (less : k < length counts). closed_list n fit.inner (branch counts k bones) (each_short k) (fit.branches k less) in
      let last = closed_list n fit.outer (after_branches counts bones) later_short fit.later in
      let each_pass = λ (k : ℕ) (less : k < length counts).
      sorted_passing n (first_of_branch first counts k) g fit.inner (branch counts k bones) (each_short k) (fit.branches k less) size
      (part_sorted (branch_agrees counts exports bones fit.within closed_in g k less) sorted) in
      let each = λ (k : ℕ) (less : k < length counts).
      after_all d own n (first_of_branch first counts k) g fit.inner (branch counts k bones) (each_short k) (fit.branches k less) size (each_pass k less) in
      let each_only = λ (k : ℕ) (less : k < length counts). after_only d n g fit.inner (branch counts k bones) (each_short k) (fit.branches k less) in
      let long : length ends ≡ length counts = length-map (branch_places 0 counts) (λ k. sorts_after d n g (branch counts k bones)) ∙ length_places 0 counts in
      let h = sorted 0 (Either counts exports) refl in
      let pass = merge_checked g exports ends (same_free (DefinedBefore d (HasSort g) whole 0) (HasSort g) exports (λ v s k. inl k) h.0)
      (λ v c.
      let r = h.1 v c in (
        r.0,
        λ k e w.
            ends_all d n g counts exports bones fit.within closed_in each k (get_or ends k e) v r.0 (slice_get-get_or ends k e w) (r.1 k (omega (arith, w, long))),
      )) in
      let passes = merge_passes g exports ends pass in
      let steps = either_steps d n g counts exports bones fit.within closed_in each fit.two passes (rw size at fit.exports_below) in
      let agrees = later_agrees counts exports bones fit.within closed_in g after last (either_only d n g counts exports bones fit.within closed_in each_only) steps in
      let later = sorted_passing n start after fit.outer (after_branches counts bones) later_short fit.later (size ∙ sym (length-after_merge g exports ends)) (part_sorted agrees sorted) in
      let below = places_below 0 (length counts) counts (omega arith) in
      let branches = inside_none n first g counts bones (branch_places 0 counts) (λ k e w. each_pass (get_or (branch_places 0 counts) k e) (below k e w)) in
      let rest = none_after (fault_at first) (first_error (merge_checks g exports ends)) (fault_of d own (placed d n start after (after_branches counts bones))) pass later in
      fault_append d own (inside d n first g counts bones (branch_places 0 counts)) (after_inside d n first g counts exports bones) ∙ rw (branches, rest) refl
