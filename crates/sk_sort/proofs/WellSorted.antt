-- A definition is well sorted exactly where it has no fault.
use Rattle.std.proofs.Common.{◌≡◌, ℕ, zero, suc, ◌+◌, Bool, true, false, ◌&&◌, List, [], ◌∷◌, take, Option, Some, None, refl, sym, ap, subst, ◌∙◌, cond, eqb, arith, slice_get}
use Rattle.std.specs.Option.{option_or, option_map, is_none, is_some}
use Rattle.std.proofs.lemmas.Bool.{eqb-true, eq-eqb}
use Rattle.sk_def.specs.declared.def.Def.{Def}
use Rattle.sk_def.specs.declared.def.Rule.{Rule}
use Rattle.sk_def.specs.declared.def.Hook.{Hook}
use Rattle.sk_def.specs.declared.def.Con.{Con}
use Rattle.sk_def.specs.declared.ids.SortId.{SortId}
use Rattle.sk_def.specs.declared.ids.HookId.{HookId}
use Rattle.sk_def.specs.Rules.{rule_of}
use Rattle.std.specs.Prelude.{◌↔◌}
use Rattle.sk_def.specs.Fits.{DefinitionFits, definition_fits}
use Rattle.sk_def.proofs.FitTests.{definition_fit, definition_test}
use Rattle.sk_sort.specs.declared.error.SortError.TheVariants.{Undefined}
use Rattle.sk_sort.specs.declared.error.SortFault.{SortFault}
use Rattle.sk_sort.specs.declared.error.SortFault.TheVariants.{Bad, MissingRule}
use Rattle.sk_sort.specs.Parts.{PartFault}
use Rattle.sk_sort.specs.Rules.{rule_fault}
use Rattle.sk_sort.specs.Definition.{bad_rule, missing_constructor, missing_rule, checked_fault, first_fault, IsWellSorted}

-- neither of two is there
pub both_none : {A B : Type 0} (f : A → B) (a : Option A) (b : Option B) → option_or (option_map f a) b ≡ None → (a ≡ None) × (b ≡ None)
both_none f None b h = (refl, h)
both_none f (Some x) b h = cc

none_both : {A B : Type 0} (f : A → B) (a : Option A) (b : Option B) → a ≡ None → b ≡ None → option_or (option_map f a) b ≡ None
none_both f a b p q = rw (p, q) refl

pub none_none : {A : Type 0} (a b : Option A) → option_or a b ≡ None → (a ≡ None) × (b ≡ None)
none_none None b h = (refl, h)
none_none (Some x) b h = cc

-- The rules.

rules_pass : (d : Def) (place : ℕ) (rules : List Rule) → bad_rule d place rules ≡ None →
    (k : ℕ) (rule : Rule) → slice_get rules k ≡ Some rule → rule_fault d (take (place + k) d.rules) rule ≡ None
rules_pass d place [] h k rule e = cc
rules_pass d place (r ∷ rs) h zero rule e =
    let p = both_none (λ (f : PartFault). Bad f.why place f.part) (rule_fault d (take place d.rules) r) (bad_rule d (place + 1) rs) h in
    let same : r ≡ rule = cc in
    let here : place ≡ place + 0 = omega arith in
    let P : ℕ → Type 0 = λ n. rule_fault d (take n d.rules) rule ≡ None in
    let Q : Rule → Type 0 = λ x. rule_fault d (take place d.rules) x ≡ None in
    subst P here (subst Q same p.0)
rules_pass d place (r ∷ rs) h (suc k) rule e =
    let p = both_none (λ (f : PartFault). Bad f.why place f.part) (rule_fault d (take place d.rules) r) (bad_rule d (place + 1) rs) h in
    let next : place + 1 + k ≡ place + suc k = omega arith in
    let P : ℕ → Type 0 = λ n. rule_fault d (take n d.rules) rule ≡ None in
    subst P next (rules_pass d (place + 1) rs p.1 k rule e)

no_bad_rule : (d : Def) (place : ℕ) (rules : List Rule) →
    ((k : ℕ) (rule : Rule) → slice_get rules k ≡ Some rule → rule_fault d (take (place + k) d.rules) rule ≡ None) → bad_rule d place rules ≡ None
no_bad_rule d place [] h = refl
no_bad_rule d place (r ∷ rs) h =
    let here : place + 0 ≡ place = omega arith in
    let P : ℕ → Type 0 = λ n. rule_fault d (take n d.rules) r ≡ None in
    none_both (λ (f : PartFault). Bad f.why place f.part) (rule_fault d (take place d.rules) r) (bad_rule d (place + 1) rs) (subst P here (h 0 r refl))
    (no_bad_rule d (place + 1) rs (λ k rule e.
    let next : place + suc k ≡ place + 1 + k = omega arith in
    let Q : ℕ → Type 0 = λ n. rule_fault d (take n d.rules) rule ≡ None in
    subst Q next (h (suc k) rule e)))

-- The constructors of a hook.

false_is_true : ◌≡◌ {A = Bool} false true → ⊥
false_is_true k = cc

test_fails : {A B : Type 0} (a : Bool) (b : Option B) (x : A) (later : Option A) → cond (a && is_none b) (Some x) later ≡ None → ((a ≡ true → is_some b ≡ true) × (later ≡ None))
test_fails false b x later h = ((λ e. cc), h)
test_fails true (Some y) x later h = ((λ e. refl), h)
test_fails true None x later h = cc

fails_test : {A B : Type 0} (a : Bool) (b : Option B) (x : A) (later : Option A) → (a ≡ true → is_some b ≡ true) → later ≡ None → cond (a && is_none b) (Some x) later ≡ None
fails_test false b x later p q = q
fails_test true (Some y) x later p q = q
fails_test true None x later p q = absurd (false_is_true (p refl))

constructors_have : (d : Def) (hook : HookId) (sort : SortId) (place : ℕ) (cons : List Con) → missing_constructor d hook sort place cons ≡ None →
    (k : ℕ) (c : Con) → slice_get cons k ≡ Some c → c.sort.0 ≡ sort.0 → is_some (rule_of d hook (record { 0 = place + k })) ≡ true
constructors_have d hook sort place [] h k c e s = cc
constructors_have d hook sort place (x ∷ xs) h zero c e s =
    let p = test_fails (eqb x.sort.0 sort.0) (rule_of d hook (record { 0 = place })) (record { 0 = place }) (missing_constructor d hook sort (place + 1) xs) h in
    let same : x ≡ c = cc in
    let sorts : x.sort.0 ≡ sort.0 = ap (λ (y : Con). y.sort.0) same ∙ s in
    let here : place ≡ place + 0 = omega arith in
    let P : ℕ → Type 0 = λ n. is_some (rule_of d hook (record { 0 = n })) ≡ true in
    subst P here (p.0 (eq-eqb x.sort.0 sort.0 sorts))
constructors_have d hook sort place (x ∷ xs) h (suc k) c e s =
    let p = test_fails (eqb x.sort.0 sort.0) (rule_of d hook (record { 0 = place })) (record { 0 = place }) (missing_constructor d hook sort (place + 1) xs) h in
    let next : place + 1 + k ≡ place + suc k = omega arith in
    let P : ℕ → Type 0 = λ n. is_some (rule_of d hook (record { 0 = n })) ≡ true in
    subst P next (constructors_have d hook sort (place + 1) xs p.1 k c e s)

none_missing : (d : Def) (hook : HookId) (sort : SortId) (place : ℕ) (cons : List Con) →
    ((k : ℕ) (c : Con) → slice_get cons k ≡ Some c → c.sort.0 ≡ sort.0 → is_some (rule_of d hook (record { 0 = place + k })) ≡ true) → missing_constructor d hook sort place cons ≡ None
none_missing d hook sort place [] h = refl
none_missing d hook sort place (x ∷ xs) h =
    let here : place + 0 ≡ place = omega arith in
    let P : ℕ → Type 0 = λ n. is_some (rule_of d hook (record { 0 = n })) ≡ true in
    fails_test (eqb x.sort.0 sort.0) (rule_of d hook (record { 0 = place })) (record { 0 = place }) (missing_constructor d hook sort (place + 1) xs)
    (λ e. subst P here (h 0 x refl (eqb-true x.sort.0 sort.0 e)))
    (none_missing d hook sort (place + 1) xs (λ k c e s.
    let next : place + suc k ≡ place + 1 + k = omega arith in
    subst P next (h (suc k) c e s)))

-- The hooks.

hooks_have : (d : Def) (place : ℕ) (hooks : List Hook) → missing_rule d place hooks ≡ None →
    (k : ℕ) (x : Hook) → slice_get hooks k ≡ Some x → missing_constructor d (record { 0 = place + k }) x.sort 0 d.cons ≡ None
hooks_have d place [] h k x e = cc
hooks_have d place (y ∷ ys) h zero x e =
    let p = both_none (MissingRule (record { 0 = place })) (missing_constructor d (record { 0 = place }) y.sort 0 d.cons) (missing_rule d (place + 1) ys) h in
    let same : y ≡ x = cc in
    let here : place ≡ place + 0 = omega arith in
    let P : ℕ → Type 0 = λ n. missing_constructor d (record { 0 = n }) x.sort 0 d.cons ≡ None in
    let Q : Hook → Type 0 = λ z. missing_constructor d (record { 0 = place }) z.sort 0 d.cons ≡ None in
    subst P here (subst Q same p.0)
hooks_have d place (y ∷ ys) h (suc k) x e =
    let p = both_none (MissingRule (record { 0 = place })) (missing_constructor d (record { 0 = place }) y.sort 0 d.cons) (missing_rule d (place + 1) ys) h in
    let next : place + 1 + k ≡ place + suc k = omega arith in
    let P : ℕ → Type 0 = λ n. missing_constructor d (record { 0 = n }) x.sort 0 d.cons ≡ None in
    subst P next (hooks_have d (place + 1) ys p.1 k x e)

no_missing_rule : (d : Def) (place : ℕ) (hooks : List Hook) →
    ((k : ℕ) (x : Hook) → slice_get hooks k ≡ Some x → missing_constructor d (record { 0 = place + k }) x.sort 0 d.cons ≡ None) → missing_rule d place hooks ≡ None
no_missing_rule d place [] h = refl
no_missing_rule d place (y ∷ ys) h =
    let here : place + 0 ≡ place = omega arith in
    let P : ℕ → Type 0 = λ n. missing_constructor d (record { 0 = n }) y.sort 0 d.cons ≡ None in
    none_both (MissingRule (record { 0 = place })) (missing_constructor d (record { 0 = place }) y.sort 0 d.cons) (missing_rule d (place + 1) ys) (subst P here (h 0 y refl))
    (no_missing_rule d (place + 1) ys (λ k x e.
    let next : place + suc k ≡ place + 1 + k = omega arith in
    let Q : ℕ → Type 0 = λ n. missing_constructor d (record { 0 = n }) x.sort 0 d.cons ≡ None in
    subst Q next (h (suc k) x e)))

from_zero : (n : ℕ) → 0 + n ≡ n
from_zero n = omega arith

pub well_sorted : (d : Def) → DefinitionFits d → checked_fault d ≡ None → IsWellSorted d
well_sorted d fits h =
    let p = none_none (bad_rule d 0 d.rules) (missing_rule d 0 d.hooks) h in
    record {
      fits = fits;
      rules_pass = λ place rule e.
          let P : ℕ → Type 0 = λ n. rule_fault d (take n d.rules) rule ≡ None in
          subst P (from_zero place) (rules_pass d 0 d.rules p.0 place rule e);
      complete = λ hook con x c e f s.
          let P : ℕ → Type 0 = λ n. missing_constructor d (record { 0 = n }) x.sort 0 d.cons ≡ None in
          let Q : ℕ → Type 0 = λ n. is_some (rule_of d (record { 0 = hook }) (record { 0 = n })) ≡ true in
          subst Q (from_zero con) (constructors_have d (record { 0 = hook }) x.sort 0 d.cons (subst P (from_zero hook) (hooks_have d 0 d.hooks p.1 hook x e)) con c f s);
    }

no_failing_check : (d : Def) → IsWellSorted d → checked_fault d ≡ None
no_failing_check d w =
    let a = no_bad_rule d 0 d.rules (λ k rule e.
    let P : ℕ → Type 0 = λ n. rule_fault d (take n d.rules) rule ≡ None in
    subst P (sym (from_zero k)) (w.rules_pass k rule e)) in
    let b = no_missing_rule d 0 d.hooks (λ k x e.
    let P : ℕ → Type 0 = λ n. missing_constructor d (record { 0 = n }) x.sort 0 d.cons ≡ None in
    subst P (sym (from_zero k)) (none_missing d (record { 0 = k }) x.sort 0 d.cons (λ j c f s.
    let Q : ℕ → Type 0 = λ n. is_some (rule_of d (record { 0 = k }) (record { 0 = n })) ≡ true in
    subst Q (sym (from_zero j)) (w.complete k j x c e f s)))) in
    rw (a, b) refl

-- The first fault, by whether the definition fits.

if_fits : (b : Bool) (checked : Option SortFault) (fault : SortFault) → b ≡ true → cond b checked (Some fault) ≡ checked
if_fits true checked fault e = refl
if_fits false checked fault e = cc

if_not : (b : Bool) (checked : Option SortFault) (fault : SortFault) → b ≡ false → cond b checked (Some fault) ≡ Some fault
if_not false checked fault e = refl
if_not true checked fault e = cc

if_none : (b : Bool) (checked : Option SortFault) (fault : SortFault) → cond b checked (Some fault) ≡ None → (b ≡ true) × (checked ≡ None)
if_none true checked fault h = (refl, h)
if_none false checked fault h = cc

pub fault_of_fitting : (d : Def) → definition_fits d ≡ true → first_fault d ≡ checked_fault d
fault_of_fitting d e = if_fits (definition_fits d) (checked_fault d) (Bad Undefined 0 0) e

pub fault_of_others : (d : Def) → definition_fits d ≡ false → first_fault d ≡ Some (Bad Undefined 0 0)
fault_of_others d e = if_not (definition_fits d) (checked_fault d) (Bad Undefined 0 0) e

pub well_sorted_exactly : (d : Def) → IsWellSorted d ↔ (first_fault d ≡ None)
well_sorted_exactly d = (
  (λ w. fault_of_fitting d (definition_test d w.fits) ∙ no_failing_check d w),
  (λ h.
      let p = if_none (definition_fits d) (checked_fault d) (Bad Undefined 0 0) h in
      well_sorted d (definition_fit d p.0) p.1),
)
