-- A definition has no fault exactly where it is good.
use Rattle.std.proofs.Common.{◌≡◌, ℕ, zero, suc, ◌+◌, ◌<◌, ◌≤◌, Bool, true, false, List, [], ◌∷◌, ◌++◌, length, map, take, Option, Some, None, refl, sym, subst, ◌∙◌, ap, arith, inl, inr, slice_get, cond}
use Rattle.std.specs.Prelude.{◌⊎◌, ◌↔◌, All, find, IsSome}
use Rattle.std.specs.Option.{option_or}
use Rattle.std.proofs.lemmas.Bool.{cases_lt}
use Rattle.std.proofs.lemmas.List.{length-map, length-take}
use Rattle.std.proofs.lemmas.List.Elements.{All-contains}
use Rattle.std.proofs.lemmas.Option.{slice_get_within}
use Rattle.sk_def.specs.declared.def.Def.{Def}
use Rattle.sk_def.specs.declared.def.Rule.{Rule}
use Rattle.sk_def.specs.declared.def.Hook.{Hook}
use Rattle.sk_def.specs.declared.def.Con.{Con}
use Rattle.sk_def.specs.declared.ids.Var.{Var}
use Rattle.sk_def.specs.declared.ids.SortId.{SortId}
use Rattle.sk_def.specs.declared.bone.Bone.{Bone}
use Rattle.sk_def.specs.declared.sorts.VarSort.{VarSort}
use Rattle.sk_def.specs.declared.sorts.VarSort.TheVariants.{Flow}
use Rattle.sk_def.specs.Sorts.{Sorts}
use Rattle.sk_def.specs.Fits.{RuleFits}
use Rattle.sk_def.specs.Rules.{is_rule_for, rule_of}
use Rattle.sk_sort.specs.Checks.{first_error, argument_checks}
use Rattle.sk_sort.specs.DefinedBefore.{sorts_after}
use Rattle.sk_sort.specs.Parts.{Part, PartFault, fault_at, first_failing, bone_parts}
use Rattle.sk_sort.specs.Rules.{header_sorts, header_checks, closing_checks, fault_of_rule, rule_fault}
use Rattle.sk_sort.specs.Definition.{IsWellSorted, first_fault}
use Rattle.sk_sort.proofs.Passes.{count_passes, arguments_pass}
use Rattle.sk_sort.proofs.Walked.{first_failing_append}
use Rattle.sk_sort.proofs.WellSorted.{both_none, none_none, well_sorted_exactly}
use Rattle.sk_sort.proofs.RuleParts.{part_passes, header_long}
use Rattle.sk_reasons.specs.Defined.{HasSort, DefinedBefore, DefinedAtEnd, DefinedAfter}
use Rattle.sk_reasons.specs.BonesSorted.{AreDefined, BonesAreSorted}
use Rattle.sk_reasons.specs.Good.{HeaderGives, RuleIsGood, DefinitionIsGood}
use Rattle.sk_reasons.proofs.SortsGiven.{contains_at, found, some_same, none_some}
use Rattle.sk_reasons.proofs.FirstBone.{get_take}
use Rattle.sk_reasons.proofs.OnlySeen.{after_only}
use Rattle.sk_reasons.proofs.AllSeen.{after_all}
use Rattle.sk_reasons.proofs.BoneChecks.{sorts_defined, arguments_checked, counted}
use Rattle.sk_reasons.proofs.SortedExactly.{same_defined, same_bone, none_after, passing_sorted, sorted_passing}
use Rattle.sk_reasons.proofs.HeaderSorts.{NoneLike, header_only, header_all, header_passes, header_checked, is_for, for_is, same_sort_id}

-- Two headers that give the same.

module _ (d : Def) (own : SortId) (B C : Var → VarSort → Type 0) (bones : List Bone) (to : (v : Var) (s : VarSort) → B v s → C v s) where
  before_to : (at : ℕ) (v : Var) (s : VarSort) → DefinedBefore d B bones at v s → DefinedBefore d C bones at v s
  before_to at v s (inl h) = inl (to v s h)
  before_to at v s (inr r) = inr r

  end_to : (at b : ℕ) (v : Var) (s : VarSort) → DefinedAtEnd d B bones at b v s → DefinedAtEnd d C bones at b v s
  end_to at b v s (inl h) = inl (to v s h)
  end_to at b v s (inr r) = inr r

  after_to : (v : Var) (s : VarSort) → DefinedAfter d B bones v s → DefinedAfter d C bones v s
  after_to v s (inl h) = inl (to v s h)
  after_to v s (inr r) = inr r

bones_to : (d : Def) (own : SortId) (B C : Var → VarSort → Type 0) (bones : List Bone) → ((v : Var) (s : VarSort) → B v s → C v s) → ((v : Var) (s : VarSort) → C v s → B v s) →
    BonesAreSorted d own B bones → BonesAreSorted d own C bones
bones_to d own B C bones to back h at bone is =
    same_bone d own (DefinedBefore d B bones at) (DefinedBefore d C bones at) (DefinedAtEnd d B bones at) (DefinedAtEnd d C bones at) bone
    (before_to d own B C bones to at) (before_to d own C B bones back at) (end_to d own B C bones to at) (h at bone is)

-- A rule.

module _ (d : Def) (earlier : List Rule) (rule : Rule) (hook : Hook) (con : Con) (hook_is : slice_get d.hooks rule.hook.0 ≡ Some hook)
    (con_is : slice_get d.cons rule.con.0 ≡ Some con) (fits : RuleFits d rule) where
  abbrev size : ℕ
  size = length rule.bones

  abbrev start : Sorts
  start = header_sorts rule hook con

  all : length rule.bones ≤ length rule.bones
  all = omega arith

  long : length rule.vars ≡ length (header_sorts rule hook con)
  long = sym (header_long rule hook con)

  closing_part : Part
  closing_part = record { number = size + 1; checks = closing_checks (sorts_after d size start rule.bones) rule hook }

  rule_good : fault_of_rule d earlier rule (Some hook) (Some con) ≡ None → NoneLike earlier rule × RuleIsGood d rule
  rule_good h =
      let after = sorts_after d size start rule.bones in
      let parts = bone_parts d con.sort size 1 start rule.bones in
      let closing = record { number = size + 1; checks = closing_checks after rule hook } ∷ [] in
      let a = both_none (fault_at 0) (first_error (header_checks earlier rule hook con)) (first_failing (parts ++ closing)) h in
      let b = none_none (first_failing parts) (first_failing closing) (sym (first_failing_append parts closing) ∙ a.1) in
      let c = part_passes (size + 1) (first_error (closing_checks after rule hook)) b.1 in
      let outputs = count_passes (length rule.outputs) (length hook.outputs) (argument_checks after rule.outputs (map Flow hook.outputs)) c in
      let have = arguments_pass after rule.outputs (map Flow hook.outputs) (outputs.0 ∙ sym (length-map hook.outputs Flow)) outputs.1 in
      let header = header_passes earlier rule hook con a.0 in
      let only = header_only rule hook con in
      let every = header_all rule hook con header.different fits.terms_below fits.inputs_below in
      let sorted = passing_sorted d con.sort size 1 start 8 rule.bones all fits.bones_fit long b.0 in (
        header.first_one,
        record {
          hook = hook;
          con = con;
          hook_is = hook_is;
          con_is = con_is;
          sorts_agree = header.sorts_agree;
          terms_counted = header.terms_counted;
          inputs_counted = header.inputs_counted;
          different = header.different;
          bones = bones_to d con.sort (HasSort start) (HeaderGives rule hook con) rule.bones only every sorted;
          outputs = same_defined (HasSort after) (DefinedAfter d (HeaderGives rule hook con) rule.bones) rule.outputs (map Flow hook.outputs)
              (λ v s k. after_to d con.sort (HasSort start) (HeaderGives rule hook con) rule.bones only v s (after_only d size start 8 rule.bones all fits.bones_fit v s k))
              (sorts_defined after rule.outputs (map Flow hook.outputs) have);
        },
      )

  good_rule : NoneLike earlier rule → con.sort ≡ hook.sort → length rule.terms ≡ length con.args → length rule.inputs ≡ length hook.inputs →
      ((i j : ℕ) (v : Var) → slice_get (rule.terms ++ rule.inputs) i ≡ Some v → slice_get (rule.terms ++ rule.inputs) j ≡ Some v → i ≡ j) →
      BonesAreSorted d con.sort (HeaderGives rule hook con) rule.bones →
      AreDefined (DefinedAfter d (HeaderGives rule hook con) rule.bones) rule.outputs (map Flow hook.outputs) →
      fault_of_rule d earlier rule (Some hook) (Some con) ≡ None
  good_rule first_one sorts terms inputs different bones outputs =
      let after = sorts_after d size start rule.bones in
      let parts = bone_parts d con.sort size 1 start rule.bones in
      let closing = record { number = size + 1; checks = closing_checks after rule hook } ∷ [] in
      let only = header_only rule hook con in
      let every = header_all rule hook con different fits.terms_below fits.inputs_below in
      let header = header_checked earlier rule hook con
      (record { first_one = first_one; sorts_agree = sorts; terms_counted = terms; inputs_counted = inputs; different = different }) in
      let sorted = bones_to d con.sort (HeaderGives rule hook con) (HasSort start) rule.bones every only bones in
      let pass = sorted_passing d con.sort size 1 start 8 rule.bones all fits.bones_fit long sorted in
      let have = same_defined (DefinedAfter d (HeaderGives rule hook con) rule.bones) (HasSort after) rule.outputs (map Flow hook.outputs)
      (λ v s k. after_all d con.sort size 1 start 8 rule.bones all fits.bones_fit long pass v s (after_to d con.sort (HeaderGives rule hook con) (HasSort start) rule.bones every v s k)) outputs in
      let last : first_error (closing_checks after rule hook) ≡ None =
      counted (length rule.outputs) (length hook.outputs) (argument_checks after rule.outputs (map Flow hook.outputs)) (have.counted ∙ length-map hook.outputs Flow)
      (arguments_checked after rule.outputs (map Flow hook.outputs) have.counted have.each) in
      let ends : first_failing closing ≡ None = none_after (fault_at (size + 1)) (first_error (closing_checks after rule hook)) None last refl in
      let P : Option PartFault → Type 0 = λ o. option_or o (first_failing closing) ≡ None in
      none_after (fault_at 0) (first_error (header_checks earlier rule hook con)) (first_failing (parts ++ closing)) header
      (first_failing_append parts closing ∙ subst P (sym pass) ends)

rule_exactly_good : (d : Def) (earlier : List Rule) (rule : Rule) → RuleFits d rule → rule_fault d earlier rule ≡ None → NoneLike earlier rule × RuleIsGood d rule
rule_exactly_good d earlier rule fits h =
    let hook = found d.hooks rule.hook.0 fits.hook_declared in
    let con = found d.cons rule.con.0 fits.con_declared in
    rule_good d earlier rule hook.0 con.0 hook.1 con.1 fits (rw (hook.1, con.1) at h)

good_exactly_rule : (d : Def) (earlier : List Rule) (rule : Rule) → RuleFits d rule → NoneLike earlier rule → RuleIsGood d rule → rule_fault d earlier rule ≡ None
good_exactly_rule d earlier rule fits none good =
    rw (good.hook_is, good.con_is)
    (good_rule d earlier rule good.hook good.con good.hook_is good.con_is fits none good.sorts_agree good.terms_counted good.inputs_counted good.different good.bones good.outputs)

-- A definition.

found_at : (p : Rule → Bool) (xs : List Rule) (o : Option Rule) → find p xs ≡ o → IsSome o → (k : ℕ) × (x : Rule) × (slice_get xs k ≡ Some x) × (p x ≡ true)
found_at p [] o h some = absurd (no_rule o h some)
  where
    no_rule : (o : Option Rule) → None ≡ o → IsSome o → ⊥
    no_rule None e k = cc
    no_rule (Some x) e k = cc
found_at p (y ∷ ys) o h some = by (p y) refl (found_at p ys o)
  where
    by : (b : Bool) → p y ≡ b → (find p ys ≡ o → IsSome o → (k : ℕ) × (x : Rule) × (slice_get ys k ≡ Some x) × (p x ≡ true)) →
        (k : ℕ) × (x : Rule) × (slice_get (y ∷ ys) k ≡ Some x) × (p x ≡ true)
    by true e later = (0, y, refl, e)
    by false e later = let r = later (rw e at h) some in (suc r.0, r.1, r.2, r.3)

at_found : (p : Rule → Bool) (xs : List Rule) (k : ℕ) (x : Rule) → slice_get xs k ≡ Some x → p x ≡ true → IsSome (find p xs)
at_found p [] k x h e = absurd (none_some h)
at_found p (y ∷ ys) zero x h e =
    let f : p y ≡ true = ap p (some_same h) ∙ e in
    rw f refl
at_found p (y ∷ ys) (suc k) x h e =
    let later = at_found p ys k x h e in
    elim (p y) as (λ b. IsSome (cond b (Some y) (find p ys))) [ true ↦ refl | false ↦ later ]

rule_fits_at : (d : Def) (place : ℕ) (rule : Rule) → All (RuleFits d) d.rules → slice_get d.rules place ≡ Some rule → RuleFits d rule
rule_fits_at d place rule fits h = All-contains (RuleFits d) d.rules rule fits (contains_at d.rules place rule h)

well_sorted_good : (d : Def) → IsWellSorted d → DefinitionIsGood d
well_sorted_good d well = record {
  fits = well.fits;
  rules_good = λ place rule h. (both place rule h).1;
  complete = λ hook con h c p q s.
      let some = well.complete hook.0 con.0 h c p q (ap (λ (x : SortId). x.0) s) in
      let r = found_at (is_rule_for hook con) d.rules (rule_of d hook con) refl some in
      let f = is_for hook con r.1 r.3 in
      (r.0, r.1, r.2, f.0, f.1);
  different = λ i j rule other p q same_hook same_con. by i j rule other p q same_hook same_con (cases_lt i j) (cases_lt j i);
}
  where
    both : (place : ℕ) (rule : Rule) → slice_get d.rules place ≡ Some rule → NoneLike (take place d.rules) rule × RuleIsGood d rule
    both place rule h = rule_exactly_good d (take place d.rules) rule (rule_fits_at d place rule well.fits.rules_fit h) (well.rules_pass place rule h)

    never : (i j : ℕ) (rule other : Rule) → slice_get d.rules i ≡ Some rule → slice_get d.rules j ≡ Some other → rule.hook ≡ other.hook → rule.con ≡ other.con → i < j → ⊥
    never i j rule other p q same_hook same_con less = (both j other q).0 i rule (get_take j i d.rules less ∙ p) same_hook same_con

    by : (i j : ℕ) (rule other : Rule) → slice_get d.rules i ≡ Some rule → slice_get d.rules j ≡ Some other → rule.hook ≡ other.hook → rule.con ≡ other.con →
        (i < j) ⊎ (j ≤ i) → (j < i) ⊎ (i ≤ j) → i ≡ j
    by i j rule other p q same_hook same_con (inl a) b = absurd (never i j rule other p q same_hook same_con a)
    by i j rule other p q same_hook same_con (inr a) (inl b) = absurd (never j i other rule q p (sym same_hook) (sym same_con) b)
    by i j rule other p q same_hook same_con (inr a) (inr b) = omega (arith, a, b)

good_well_sorted : (d : Def) → DefinitionIsGood d → IsWellSorted d
good_well_sorted d good = record {
  fits = good.fits;
  rules_pass = λ place rule h.
      good_exactly_rule d (take place d.rules) rule (rule_fits_at d place rule good.fits.rules_fit h) (none_like place rule h) (good.rules_good place rule h);
  complete = λ hook con x c e f s.
      let r = good.complete (record { 0 = hook }) (record { 0 = con }) x c e f (same_sort_id c.sort x.sort s) in
      at_found (is_rule_for (record { 0 = hook }) (record { 0 = con })) d.rules r.0 r.1 r.2 (for_is (record { 0 = hook }) (record { 0 = con }) r.1 r.3 r.4);
}
  where
    none_like : (place : ℕ) (rule : Rule) → slice_get d.rules place ≡ Some rule → NoneLike (take place d.rules) rule
    none_like place rule h k r is p q =
        let within = slice_get_within (take place d.rules) k r is in
        let less : k < place = omega (arith, within, length-take place d.rules) in
        let e = good.different k place r rule (sym (get_take place k d.rules less) ∙ is) h p q in
        omega (arith, less, e)

-- a definition has no fault exactly where it is good
pub good_has_no_fault : (d : Def) → (first_fault d ≡ None) ↔ DefinitionIsGood d
good_has_no_fault d =
    let exactly = well_sorted_exactly d in
    ((λ h. well_sorted_good d (exactly.1 h)), (λ g. exactly.0 (good_well_sorted d g)))
