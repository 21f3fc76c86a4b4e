-- The rule of a call that fits, in a well-sorted definition.
use Rattle.std.proofs.Common.{◌≡◌, ℕ, ◌+◌, List, [], ◌∷◌, ◌++◌, length, take, Option, Some, None, refl, ap, sym, subst, ◌∙◌, arith, eqb, true, false, Bool, cond, zero, suc}
use Rattle.std.specs.Prelude.{slice_get, find}
use Rattle.std.specs.Option.{option_map, option_map_or}
use Rattle.std.proofs.lemmas.Bool.{eqb-true, and_parts}
use Rattle.std.proofs.lemmas.Option.{same_Some}
use Rattle.sk_def.specs.declared.ids.HookId.{HookId}
use Rattle.sk_def.specs.declared.ids.ConId.{ConId}
use Rattle.sk_def.specs.declared.def.Def.{Def}
use Rattle.sk_def.specs.declared.def.Rule.{Rule}
use Rattle.sk_def.specs.declared.def.Hook.{Hook}
use Rattle.sk_def.specs.declared.def.Con.{Con}
use Rattle.sk_def.specs.Rules.{is_rule_for, rule_of}
use Rattle.sk_def.specs.Fits.{RuleFits, HookFits}
use Rattle.sk_walk.specs.Sorted.{Sorted}
use Rattle.sk_sort.specs.declared.error.SortError.TheVariants.{WrongSort, DuplicateRule}
use Rattle.sk_sort.specs.Checks.{check, first_error, count_check, new_checks}
use Rattle.sk_sort.specs.Parts.{fault_at, first_failing, bone_parts}
use Rattle.sk_sort.specs.DefinedBefore.{sorts_after}
use Rattle.sk_sort.specs.Rules.{RuleIsSorted, nothing, header_sorts, header_checks, closing_checks, fault_of_rule, rule_fault}
use Rattle.sk_sort.specs.Definition.{DefinitionIsSorted}
use Rattle.sk_sort.proofs.Passes.{one_passes, count_passes}
use Rattle.sk_sort.proofs.WellSorted.{both_none}
use Rattle.sk_term.specs.declared.node.TermNode.{TermNode}
use Rattle.sk_term.specs.Program.{Program, con_of_point, children_of_point}
use Rattle.sk_term.specs.Terms.{arguments_of}
use Rattle.sk_abswalk.specs.RuleAt.{RuleFor}
use Rattle.sk_abswalk.proofs.TableSteps.{all_at, sorts_counted, hook_fits}

-- the first element that passes stands in the list
first_found : {A : Type 0} (p : A → Bool) (xs : List A) (x : A) → find p xs ≡ Some x → (k : ℕ) × (slice_get xs k ≡ Some x) × (p x ≡ true)
first_found p [] x h = cc
first_found p (y ∷ ys) x h =
    elim (p y) as (λ b. p y ≡ b → cond b (Some y) (find p ys) ≡ Some x → (k : ℕ) × (slice_get (y ∷ ys) k ≡ Some x) × (p x ≡ true)) [
      | true ↦ (λ e k. let same : y ≡ x = cc in (zero, k, rw (← same) e))
      | false ↦ (λ e k. let r = first_found p ys x k in (suc r.0, r.1, r.2))
    ] refl h

-- a rule of the definition is where its place says, and is the one for the hook and the constructor
record IsThere (d : Def) (hook : HookId) (con : ConId) (rule : Rule) : Type 0 where
  place : ℕ
  at : slice_get d.rules place ≡ Some rule
  of_hook : rule.hook.0 ≡ hook.0
  of_con : rule.con.0 ≡ con.0

is_there : (d : Def) (hook : HookId) (con : ConId) (rule : Rule) → rule_of d hook con ≡ Some rule → IsThere d hook con rule
is_there d hook con rule e =
    let found = first_found (is_rule_for hook con) d.rules rule e in
    let ids = and_parts (eqb rule.hook.0 hook.0) (eqb rule.con.0 con.0) found.2 in
    record { place = found.0; at = found.1; of_hook = eqb-true rule.hook.0 hook.0 ids.0; of_con = eqb-true rule.con.0 con.0 ids.1 }

-- a header whose checks pass has as many variables as there are arguments and inputs
header_counted : (d : Def) (earlier : List Rule) (rule : Rule) (hook : Hook) (con : Con) → slice_get d.hooks rule.hook.0 ≡ Some hook → slice_get d.cons rule.con.0 ≡ Some con →
    rule_fault d earlier rule ≡ None → (length rule.terms ≡ length con.args) × (length rule.inputs ≡ length hook.inputs)
header_counted d earlier rule hook con e f h =
    let size = length rule.bones in
    let start = header_sorts rule hook con in
    let parts = bone_parts d con.sort size 1 start rule.bones in
    let closing = record { number = size + 1; checks = closing_checks (sorts_after d size start rule.bones) rule hook } ∷ [] in
    let k : fault_of_rule d earlier rule (Some hook) (Some con) ≡ None = rw (e, f) at h in
    let a = both_none (fault_at 0) (first_error (header_checks earlier rule hook con)) (first_failing (parts ++ closing)) k in
    let b = one_passes (check DuplicateRule _) (check WrongSort (eqb con.sort.0 hook.sort.0) ∷ count_check (length rule.terms) (length con.args) ∷ count_check (length rule.inputs) (length hook.inputs) ∷ new_checks (nothing rule) (rule.terms ++ rule.inputs)) a.0 in
    let c = one_passes (check WrongSort (eqb con.sort.0 hook.sort.0)) (count_check (length rule.terms) (length con.args) ∷ count_check (length rule.inputs) (length hook.inputs) ∷ new_checks (nothing rule) (rule.terms ++ rule.inputs)) b.1 in
    let t = count_passes (length rule.terms) (length con.args) (count_check (length rule.inputs) (length hook.inputs) ∷ new_checks (nothing rule) (rule.terms ++ rule.inputs)) c.1 in
    let i = count_passes (length rule.inputs) (length hook.inputs) (new_checks (nothing rule) (rule.terms ++ rule.inputs)) t.1 in
    (t.0, i.0)

node_of_con : {A B : Type 0} (f : A → B) (o : Option A) (y : B) → option_map f o ≡ Some y → (x : A) × (o ≡ Some x) × (f x ≡ y)
node_of_con f None y e = absurd (cc)
node_of_con f (Some x) y e = (x, refl, same_Some (f x) y e)

pub rule_for : (d : Def) (program : Program) (id : HookId) (point : ℕ) (con_id : ConId) (rule : Rule) (hook : Hook) (con : Con) → DefinitionIsSorted d → con_of_point program.nodes point ≡ Some con_id →
    length (children_of_point program.nodes point) ≡ length (arguments_of d con_id) → rule_of d id con_id ≡ Some rule → slice_get d.hooks id.0 ≡ Some hook → slice_get d.cons con_id.0 ≡ Some con → RuleFor d program id point rule hook con
rule_for d program id point con_id rule hook con is_sorted at counted found hook-is con-is =
    let node = node_of_con (λ (n : TermNode). n.con) (slice_get program.nodes point) con_id at in
    let r = is_there d id con_id rule found in
    let fits : RuleFits d rule = all_at (RuleFits d) d.rules r.place rule is_sorted.well_sorted.fits.rules_fit r.at in
    let sorted : RuleIsSorted d rule = all_at (RuleIsSorted d) d.rules r.place rule is_sorted.rules_sorted r.at in
    let hook-is2 : slice_get d.hooks rule.hook.0 ≡ Some hook = ap (slice_get d.hooks) r.of_hook ∙ hook-is in
    let con-is2 : slice_get d.cons rule.con.0 ≡ Some con = ap (slice_get d.cons) r.of_con ∙ con-is in
    let header = header_counted d (take r.place d.rules) rule hook con hook-is2 con-is2 (is_sorted.well_sorted.rules_pass r.place rule r.at) in
    let same_hook : sorted.hook ≡ hook = same_Some sorted.hook hook (sym sorted.hook_is ∙ hook-is2) in
    let same_con : sorted.con ≡ con = same_Some sorted.con con (sym sorted.con_is ∙ con-is2) in
    let few : HookFits (length d.sorts) hook = hook_fits d is_sorted id.0 hook hook-is in
    let outputs : length rule.outputs ≡ length hook.outputs = sorts_counted sorted.after rule.outputs sorted.hook.outputs sorted.outputs ∙ ap (λ (h : Hook). length h.outputs) same_hook in
    let arguments : arguments_of d con_id ≡ con.args = ap (λ (o : Option Con). option_map_or (λ (entry : Con). entry.args) o []) con-is in
    record {
      node = node.0;
      node_is = node.1;
      rule_is = ap (rule_of d id) node.2 ∙ found;
      terms_below = fits.terms_below;
      inputs_below = fits.inputs_below;
      terms_counted = header.0;
      inputs_counted = header.1;
      children_counted = header.0 ∙ sym (counted ∙ ap length arguments);
      few_outputs = omega (arith, outputs, few.few_outputs);
      few_bones = fits.few_bones;
      bones_fit = fits.bones_fit;
      after = sorted.after;
      bones_sorted = subst (λ (h : Hook). Sorted d con.sort 1 rule.bones (header_sorts rule h con) sorted.after) same_hook
          (subst (λ (k : Con). Sorted d k.sort 1 rule.bones (header_sorts rule sorted.hook k) sorted.after) same_con sorted.bones);
    }
