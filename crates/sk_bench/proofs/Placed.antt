-- The part of a definition that is at fault has a place in the text.
use Rattle.std.proofs.Common.{◌≡◌, ◌≢◌, ℕ, zero, suc, ◌+◌, ◌≤◌, ◌<◌, List, [], ◌∷◌, ◌++◌, length, map, take, Option, None, Some, refl, sym, subst, ◌∙◌, arith}
use Rattle.std.specs.Prelude.{IsSome, slice_get, All}
use Rattle.std.specs.Option.{option_or, option_map}
use Rattle.std.specs.List.{enumerate_from}
use Rattle.std.proofs.lemmas.List.Elements.{All-nil, All-cons}
use Rattle.std.proofs.lemmas.List.Sorted.{All-permutation, IsPermutation-sym}
use Rattle.sk_def.specs.Fits.{RuleFits, DefinitionFits}
use Rattle.sk_def.proofs.FitTests.{definition_test}
use Rattle.sk_def.specs.declared.ids.SortId.{SortId}
use Rattle.sk_def.specs.declared.ids.HookId.{HookId}
use Rattle.sk_def.specs.declared.ids.ConId.{ConId}
use Rattle.sk_def.specs.declared.bone.Bone.{Bone}
use Rattle.sk_def.specs.declared.def.Def.{Def}
use Rattle.sk_def.specs.declared.def.Rule.{Rule}
use Rattle.sk_def.specs.declared.def.Hook.{Hook}
use Rattle.sk_def.specs.declared.def.Con.{Con}
use Rattle.sk_sort.specs.declared.error.SortError.{SortError}
use Rattle.sk_sort.specs.declared.error.SortFault.{SortFault}
use Rattle.sk_sort.specs.declared.error.SortFault.TheVariants.{Bad, MissingRule, NoMemory}
use Rattle.sk_sort.specs.Checks.{first_error}
use Rattle.sk_sort.specs.DefinedBefore.{Placed}
use Rattle.sk_sort.specs.Parts.{Part, PartFault, first_failing, fault_at, bone_part}
use Rattle.sk_sort.specs.Rules.{rule_parts, fault_of_rule, rule_fault, placed_bones}
use Rattle.sk_sort.specs.Definition.{bad_rule, missing_constructor, missing_rule, first_fault, checked_fault}
use Rattle.sk_sort.proofs.Placed.{rule_placed}
use Rattle.sk_sort.proofs.WellSorted.{fault_of_fitting}
use Rattle.sk_deftext.specs.Places.{PlacesFit, place_of_part}
use Rattle.sk_deftext.specs.declared.source.Source.{Source}
use Rattle.sk_bench.specs.Accepted.{FaultIsPlaced}

-- The numbers of a rule's parts.

abbrev UpTo : ℕ → List Part → Type 0
UpTo most [] = Unit {0}
UpTo most (part ∷ parts) = (part.number ≤ most) × UpTo most parts

up_append : (most : ℕ) (ps qs : List Part) → UpTo most ps → UpTo most qs → UpTo most (ps ++ qs)
up_append most [] qs p q = q
up_append most (part ∷ ps) qs p q = (p.0, up_append most ps qs p.1 q)

chosen : (most number : ℕ) (error : Option SortError) (later : Option PartFault) (fault : PartFault) → number ≤ most
    → (later ≡ Some fault → fault.part ≤ most) → option_or (option_map (fault_at number) error) later ≡ Some fault → fault.part ≤ most
chosen most number None later fault le next h = next h
chosen most number (Some error) later fault le next h =
    let same : fault_at number error ≡ fault = cc in
    subst (λ (f : PartFault). f.part ≤ most) same le

failing_up : (most : ℕ) (parts : List Part) (fault : PartFault) → UpTo most parts → first_failing parts ≡ Some fault → fault.part ≤ most
failing_up most [] fault up h = cc
failing_up most (part ∷ parts) fault up h =
    chosen most part.number (first_error part.checks) (first_failing parts) fault up.0 (failing_up most parts fault up.1) h

numbers_up : (first most : ℕ) (bones : List Bone) → first + length bones ≤ most + 1 → All (λ (q : ℕ × Bone). q.0 ≤ most) (enumerate_from first bones)
numbers_up first most [] le = All-nil (λ (q : ℕ × Bone). q.0 ≤ most)
numbers_up first most (bone ∷ bones) le =
    All-cons (λ (q : ℕ × Bone). q.0 ≤ most) (first, bone) (enumerate_from (first + 1) bones) (omega (arith, le)) (numbers_up (first + 1) most bones (omega (arith, le)))

parts_up : (most : ℕ) (d : Def) (own : SortId) (ps : List Placed) → All (λ (q : ℕ × Bone). q.0 ≤ most) (map (λ (p : Placed). (p.number, p.bone)) ps)
    → UpTo most (map (bone_part d own) ps)
parts_up most d own [] h = tt
parts_up most d own (p ∷ ps) h = (h 0 (p.number, p.bone) (omega arith), parts_up most d own ps (λ k q l. h (suc k) q (omega (arith, l))))

first_up : (count : ℕ) → 1 + count ≤ count + 1 + 1
first_up count = omega arith

module _ (d : Def) (earlier : List Rule) (rule : Rule) (fits : RuleFits d rule) where
  bones_up : (hook : Hook) (con : Con) → UpTo (length rule.bones + 1) (map (bone_part d con.sort) (placed_bones d rule hook con))
  bones_up hook con =
      let numbered = map (λ (p : Placed). (p.number, p.bone)) (placed_bones d rule hook con) in
      let same = IsPermutation-sym numbered (enumerate_from 1 rule.bones) (rule_placed d rule hook con fits) in
      parts_up (length rule.bones + 1) d con.sort (placed_bones d rule hook con)
      (All-permutation (λ (q : ℕ × Bone). q.0 ≤ length rule.bones + 1) (enumerate_from 1 rule.bones) numbered same
      (numbers_up 1 (length rule.bones + 1) rule.bones (first_up (length rule.bones))))

  rule_up : (hook : Hook) (con : Con) → UpTo (length rule.bones + 1) (rule_parts d earlier rule hook con)
  rule_up hook con =
      (omega arith, up_append (length rule.bones + 1) (map (bone_part d con.sort) (placed_bones d rule hook con)) _ (bones_up hook con) (omega arith, tt))

  part_up : (hook : Option Hook) (con : Option Con) (fault : PartFault) → fault_of_rule d earlier rule hook con ≡ Some fault → fault.part ≤ length rule.bones + 1
  part_up None con fault h = cc
  part_up (Some hook) None fault h = cc
  part_up (Some hook) (Some con) fault h = failing_up (length rule.bones + 1) (rule_parts d earlier rule hook con) fault (rule_up hook con) h

-- The rule and the part of a fault.

record Found (rules : List Rule) (place number part : ℕ) : Type 0 where
  at : ℕ
  rule : Rule
  number_is : number ≡ place + at
  rule_is : slice_get rules at ≡ Some rule
  within : part ≤ length rule.bones + 1

found_later : (rule : Rule) (rules : List Rule) (place number part : ℕ) → Found rules (place + 1) number part → Found (rule ∷ rules) place number part
found_later rule rules place number part found = record {
  at = suc found.at;
  rule = found.rule;
  number_is = let e = found.number_is in omega (arith, e);
  rule_is = found.rule_is;
  within = found.within;
}

bad_here : (rule : Rule) (rules : List Rule) (place : ℕ) (here : Option PartFault) (later : Option SortFault) (why : SortError) (number part : ℕ)
    → ((fault : PartFault) → here ≡ Some fault → fault.part ≤ length rule.bones + 1) → (later ≡ Some (Bad why number part) → Found rules (place + 1) number part)
    → option_or (option_map (λ (f : PartFault). Bad f.why place f.part) here) later ≡ Some (Bad why number part) → Found (rule ∷ rules) place number part
bad_here rule rules place None later why number part up next h = found_later rule rules place number part (next h)
bad_here rule rules place (Some fault) later why number part up next h =
    let number_is : place ≡ number = cc in
    let part_is : fault.part ≡ part = cc in
    record { at = zero; rule = rule; number_is = omega (arith, number_is); rule_is = refl; within = subst (λ n. n ≤ length rule.bones + 1) part_is (up fault refl) }

bad_found : (d : Def) (place : ℕ) (rules : List Rule) → All (RuleFits d) rules → (why : SortError) (number part : ℕ)
    → bad_rule d place rules ≡ Some (Bad why number part) → Found rules place number part
bad_found d place [] fit why number part h = cc
bad_found d place (rule ∷ rules) fit why number part h =
    bad_here rule rules place (rule_fault d (take place d.rules) rule) (bad_rule d (place + 1) rules) why number part
    (λ fault e. part_up d (take place d.rules) rule (fit 0 rule (omega arith)) (slice_get d.hooks rule.hook.0) (slice_get d.cons rule.con.0) fault e)
    (bad_found d (place + 1) rules (λ k r l. fit (suc k) r (omega (arith, l))) why number part) h

-- Which of the two the first fault is.

not_missing : (d : Def) (place : ℕ) (rules : List Rule) (hook : HookId) (con : ConId) → bad_rule d place rules ≡ Some (MissingRule hook con) → ⊥
not_missing d place [] hook con h = cc
not_missing d place (rule ∷ rules) hook con h =
    either_way (rule_fault d (take place d.rules) rule) (bad_rule d (place + 1) rules) (not_missing d (place + 1) rules hook con) h where
      either_way : (here : Option PartFault) (later : Option SortFault) → (later ≡ Some (MissingRule hook con) → ⊥)
          → option_or (option_map (λ (f : PartFault). Bad f.why place f.part) here) later ≡ Some (MissingRule hook con) → ⊥
      either_way None later next h = next h
      either_way (Some fault) later next h = cc

missing_here : (place count : ℕ) (found : Option ConId) (later : Option SortFault) (hook : HookId) (con : ConId)
    → (later ≡ Some (MissingRule hook con) → hook.0 < place + 1 + count) → option_or (option_map (MissingRule (record { 0 = place })) found) later ≡ Some (MissingRule hook con)
    → hook.0 < place + suc count
missing_here place count None later hook con next h = let le = next h in omega (arith, le)
missing_here place count (Some c) later hook con next h = let same : place ≡ hook.0 = cc in omega (arith, same)

missing_below : (d : Def) (place : ℕ) (hooks : List Hook) (hook : HookId) (con : ConId) → missing_rule d place hooks ≡ Some (MissingRule hook con) → hook.0 < place + length hooks
missing_below d place [] hook con h = cc
missing_below d place (first ∷ hooks) hook con h =
    missing_here place (length hooks) (missing_constructor d (record { 0 = place }) first.sort 0 d.cons) (missing_rule d (place + 1) hooks) hook con
    (missing_below d (place + 1) hooks hook con) h

not_bad : (d : Def) (place : ℕ) (hooks : List Hook) (why : SortError) (number part : ℕ) → missing_rule d place hooks ≡ Some (Bad why number part) → ⊥
not_bad d place [] why number part h = cc
not_bad d place (first ∷ hooks) why number part h =
    either_way (missing_constructor d (record { 0 = place }) first.sort 0 d.cons) (missing_rule d (place + 1) hooks) (not_bad d (place + 1) hooks why number part) h where
      either_way : (found : Option ConId) (later : Option SortFault) → (later ≡ Some (Bad why number part) → ⊥)
          → option_or (option_map (MissingRule (record { 0 = place })) found) later ≡ Some (Bad why number part) → ⊥
      either_way None later next h = next h
      either_way (Some c) later next h = cc

first_or : (first later : Option SortFault) (fault : SortFault) → option_or first later ≡ Some fault → (later ≡ Some fault → ⊥) → first ≡ Some fault
first_or None later fault h other = absurd (other h)
first_or (Some f) later fault h other = h

second_or : (first later : Option SortFault) (fault : SortFault) → option_or first later ≡ Some fault → (first ≡ Some fault → ⊥) → later ≡ Some fault
second_or None later fault h other = h
second_or (Some f) later fault h other = absurd (other h)

-- neither of the two is want of memory
never_memory : (d : Def) → checked_fault d ≡ Some NoMemory → ⊥
never_memory d h =
    no_missing 0 d.hooks (second_or (bad_rule d 0 d.rules) (missing_rule d 0 d.hooks) NoMemory h (no_bad 0 d.rules)) where
      no_bad_here : (place : ℕ) (here : Option PartFault) (later : Option SortFault) → (later ≡ Some NoMemory → ⊥)
          → option_or (option_map (λ (f : PartFault). Bad f.why place f.part) here) later ≡ Some NoMemory → ⊥
      no_bad_here place None later next h = next h
      no_bad_here place (Some fault) later next h = cc

      no_bad : (place : ℕ) (rules : List Rule) → bad_rule d place rules ≡ Some NoMemory → ⊥
      no_bad place [] h = cc
      no_bad place (rule ∷ rules) h = no_bad_here place (rule_fault d (take place d.rules) rule) (bad_rule d (place + 1) rules) (no_bad (place + 1) rules) h

      no_missing_here : (place : ℕ) (found : Option ConId) (later : Option SortFault) → (later ≡ Some NoMemory → ⊥)
          → option_or (option_map (MissingRule (record { 0 = place })) found) later ≡ Some NoMemory → ⊥
      no_missing_here place None later next h = next h
      no_missing_here place (Some con) later next h = cc

      no_missing : (place : ℕ) (hooks : List Hook) → missing_rule d place hooks ≡ Some NoMemory → ⊥
      no_missing place [] h = cc
      no_missing place (first ∷ hooks) h =
          no_missing_here place (missing_constructor d (record { 0 = place }) first.sort 0 d.cons) (missing_rule d (place + 1) hooks) (no_missing (place + 1) hooks) h

is_there : {A : Type 0} (found : Option A) → found ≢ None → IsSome found
is_there None h = absurd (h refl)
is_there (Some x) h = refl

within : {A : Type 0} (xs : List A) (at : ℕ) → at < length xs → IsSome (slice_get xs at)
within [] at below = absurd (omega (arith, below))
within (x ∷ xs) zero below = refl
within (x ∷ xs) (suc at) below = within xs at (omega (arith, below))

module _ (source : Source) (fits : DefinitionFits source.def) (placed : PlacesFit source) where
  checked : (fault : SortFault) → first_fault source.def ≡ Some fault → checked_fault source.def ≡ Some fault
  checked fault h = sym (fault_of_fitting source.def (definition_test source.def fits)) ∙ h

  pub part_is_placed : (why : SortError) (rule part : ℕ) → first_fault source.def ≡ Some (Bad why rule part) → place_of_part source.places rule part ≢ None
  part_is_placed why rule part h =
      let bad = first_or (bad_rule source.def 0 source.def.rules) (missing_rule source.def 0 source.def.hooks) (Bad why rule part) (checked (Bad why rule part) h)
      (not_bad source.def 0 source.def.hooks why rule part) in
      let found = bad_found source.def 0 source.def.rules fits.rules_fit why rule part bad in
      let number = found.number_is in
      let same : rule ≡ found.at = omega (arith, number) in
      subst (λ n. place_of_part source.places n part ≢ None) (sym same) (placed.rules_placed found.at part found.rule found.rule_is found.within)

  pub hook_is_placed : (hook : HookId) (con : ConId) → first_fault source.def ≡ Some (MissingRule hook con) → hook.0 < length source.places.hooks
  hook_is_placed hook con h =
      let missing = second_or (bad_rule source.def 0 source.def.rules) (missing_rule source.def 0 source.def.hooks) (MissingRule hook con) (checked (MissingRule hook con) h)
      (not_missing source.def 0 source.def.rules hook con) in
      let below = missing_below source.def 0 source.def.hooks hook con missing in
      let count = placed.hooks_placed in omega (arith, below, count)

  pub fault_is_placed : FaultIsPlaced source
  fault_is_placed (Bad why rule part) h = is_there (place_of_part source.places rule part) (part_is_placed why rule part h)
  fault_is_placed (MissingRule hook con) h = within source.places.hooks hook.0 (hook_is_placed hook con h)
  fault_is_placed NoMemory h = never_memory source.def (checked NoMemory h)
