-- A rule whose checks all pass is sorted as a walk asks.
use Rattle.std.proofs.Common.{◌≡◌, ℕ, zero, suc, ◌+◌, ◌≤◌, ◌<◌, List, [], ◌∷◌, ◌++◌, map, length, take, sum, Some, None, Ok, refl, sym, ◌∙◌, arith, slice_get, get_or, All}
use Rattle.std.proofs.lemmas.List.{length-map}
use Rattle.std.proofs.lemmas.Option.{slice_get-get_or}
use Rattle.sk_def.specs.declared.def.Def.{Def}
use Rattle.sk_def.specs.declared.ids.SortId.{SortId}
use Rattle.sk_def.specs.declared.def.Rule.{Rule}
use Rattle.sk_def.specs.declared.def.Hook.{Hook}
use Rattle.sk_def.specs.declared.def.Con.{Con}
use Rattle.sk_def.specs.declared.bone.Bone.{Bone}
use Rattle.sk_def.specs.declared.bone.Bone.TheVariants.{Apply, Call, Either}
use Rattle.sk_def.specs.declared.sorts.VarSort.TheVariants.{Flow}
use Rattle.sk_def.specs.Layout.{branch, branch_places, first_of_branch, after_branches}
use Rattle.sk_def.specs.Sorts.{Sorts, after_filter, after_hook, after_merge}
use Rattle.sk_def.specs.Fits.{RuleFits}
use Rattle.sk_walk.specs.Walks.{WalksBranches, no_bone, filter_goes, hook_goes, merge_goes, no_branch, branch_goes}
use Rattle.sk_walk.specs.Sorted.{Sorted, sort_checks}
use Rattle.sk_sort.specs.Checks.{first_error, filter_checks, merge_checks, argument_checks}
use Rattle.sk_sort.specs.Interp.{call_checks}
use Rattle.sk_sort.specs.DefinedBefore.{sorts_after, placed}
use Rattle.sk_sort.specs.Parts.{fault_at, first_failing, bone_parts}
use Rattle.sk_sort.specs.Rules.{RuleIsSorted, header_sorts, header_checks, closing_checks, fault_of_rule, rule_fault}
use Rattle.sk_sort.specs.Definition.{IsWellSorted}
use Rattle.sk_sort.proofs.Passes.{filter_passes, call_passes, merge_passes, count_passes, arguments_pass}
use Rattle.sk_sort.proofs.Walked.{fault_of, fault_append, first_failing_append, shorter-drop, shorter-branch, inside, ends_of, after_inside}
use Rattle.sk_sort.proofs.WellSorted.{both_none, none_none}
use Rattle.sk_sort.proofs.RuleParts.{part_passes}

module _ (d : Def) (own : SortId) where
  -- the branches at these places, where shorter lists of bones are sorted
  places_sorted : (n bone : ℕ) (g : Sorts) (counts : List ℕ) (bones : List Bone) → length bones ≤ n →
      ((first : ℕ) (bs : List Bone) → length bs ≤ n → fault_of d own (placed d n first g bs) ≡ None → Sorted d own first bs g (sorts_after d n g bs)) →
      (places : List ℕ) → fault_of d own (inside d n bone g counts bones places) ≡ None →
      WalksBranches (sort_checks d own) bone counts bones places g tt tt (Ok (ends_of d n g counts bones places))
  places_sorted n bone g counts bones within sorted [] h = no_branch
  places_sorted n bone g counts bones within sorted (k ∷ ks) h =
      let first = first_of_branch bone counts k in
      let here = placed d n first g (branch counts k bones) in
      let later = inside d n bone g counts bones ks in
      let p = none_none (fault_of d own here) (fault_of d own later) (sym (fault_append d own here later) ∙ h) in
      branch_goes refl (sorted first (branch counts k bones) (shorter-branch n k counts bones within) p.0)
      (places_sorted n bone g counts bones within sorted ks p.1)

  bones_sorted : (n first : ℕ) (g : Sorts) (bones : List Bone) → length bones ≤ n → fault_of d own (placed d n first g bones) ≡ None →
      Sorted d own first bones g (sorts_after d n g bones)
  bones_sorted n first g [] within h = no_bone
  bones_sorted zero first g (bone ∷ bones) within h = absurd (omega (arith, within))
  bones_sorted (suc n) first g (Apply filter args outs ∷ bones) within h =
      let after = after_filter g filter outs in
      let p = both_none (fault_at first) (first_error (filter_checks g filter args outs)) (fault_of d own (placed d n (first + 1) after bones)) h in
      filter_goes (filter_passes g filter args outs p.0, refl) (bones_sorted n (first + 1) after bones (omega (arith, within)) p.1)
  bones_sorted (suc n) first g (Call hook args target outs ∷ bones) within h =
      let after = after_hook d g hook outs in
      let p = both_none (fault_at first) (first_error (call_checks d own g hook target args outs)) (fault_of d own (placed d n (first + 1) after bones)) h in
      hook_goes (call_passes d own g hook target args outs (slice_get d.hooks hook.0) refl p.0, refl) (bones_sorted n (first + 1) after bones (omega (arith, within)) p.1)
  bones_sorted (suc n) first g (Either counts exports ∷ bones) within h =
      let before = inside d n first g counts bones (branch_places 0 counts) in
      let rest = after_inside d n first g counts exports bones in
      let ends = ends_of d n g counts bones (branch_places 0 counts) in
      let after = after_merge g exports ends in
      let p = none_none (fault_of d own before) (fault_of d own rest) (sym (fault_append d own before rest) ∙ h) in
      let q = both_none (fault_at first) (first_error (merge_checks g exports ends)) (fault_of d own (placed d n (first + 1 + sum counts) after (after_branches counts bones))) p.1 in
      let short : length bones ≤ n = omega (arith, within) in
      merge_goes (places_sorted n first g counts bones short (λ f bs w e. bones_sorted n f g bs w e) (branch_places 0 counts) p.0)
      (merge_passes g exports ends q.0, refl)
      (bones_sorted n (first + 1 + sum counts) after (after_branches counts bones) (shorter-drop n (sum counts) bones short) q.1)

rule_passes : (d : Def) (earlier : List Rule) (rule : Rule) (hook : Hook) (con : Con) →
    slice_get d.hooks rule.hook.0 ≡ Some hook → slice_get d.cons rule.con.0 ≡ Some con →
    fault_of_rule d earlier rule (Some hook) (Some con) ≡ None → RuleIsSorted d rule
rule_passes d earlier rule hook con e f h =
    let size = length rule.bones in
    let all : size ≤ size = omega arith in
    let start = header_sorts rule hook con in
    let after = sorts_after d size start rule.bones in
    let parts = bone_parts d con.sort size 1 start rule.bones in
    let closing = record { number = size + 1; checks = closing_checks after rule hook } ∷ [] in
    let a = both_none (fault_at 0) (first_error (header_checks earlier rule hook con)) (first_failing (parts ++ closing)) h in
    let b = none_none (first_failing parts) (first_failing closing) (sym (first_failing_append parts closing) ∙ a.1) in
    let c = part_passes (size + 1) (first_error (closing_checks after rule hook)) b.1 in
    let counted = count_passes (length rule.outputs) (length hook.outputs) (argument_checks after rule.outputs (map Flow hook.outputs)) c in
    record {
      hook = hook;
      con = con;
      hook_is = e;
      con_is = f;
      after = after;
      bones = bones_sorted d con.sort size 1 start rule.bones all b.0;
      outputs = arguments_pass after rule.outputs (map Flow hook.outputs) (counted.0 ∙ sym (length-map hook.outputs Flow)) counted.1;
    }

found : {A : Type 0} (xs : List A) (k : ℕ) → k < length xs → (x : A) × (slice_get xs k ≡ Some x)
found [] k h = absurd (omega (arith, h))
found (x ∷ xs) zero h = (x, refl)
found (x ∷ xs) (suc k) h = found xs k (omega (arith, h))

rule_sorted : (d : Def) (earlier : List Rule) (rule : Rule) → RuleFits d rule → rule_fault d earlier rule ≡ None → RuleIsSorted d rule
rule_sorted d earlier rule fits h =
    let hook = found d.hooks rule.hook.0 fits.hook_declared in
    let con = found d.cons rule.con.0 fits.con_declared in
    rule_passes d earlier rule hook.0 con.0 hook.1 con.1 (rw (hook.1, con.1) at h)

pub rules_sorted : (d : Def) → IsWellSorted d → All (RuleIsSorted d) d.rules
rules_sorted d well k x within =
    let rule = get_or d.rules k x in
    rule_sorted d (take k d.rules) rule (well.fits.rules_fit k x within) (well.rules_pass k rule (slice_get-get_or d.rules k x within))
