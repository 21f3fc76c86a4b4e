-- The rule of a call in a well-sorted definition.
use Rattle.std.proofs.Common.{◌≡◌, ℕ, zero, suc, ◌+◌, Bool, true, false, ◌&&◌, cond, eqb, List, [], ◌∷◌, ◌++◌, length, map, take, Option, Some, None, refl, ap, sym, subst, ◌∙◌, arith, slice_get}
use Rattle.std.specs.Prelude.{find}
use Rattle.std.specs.List.{filter_map}
use Rattle.std.specs.Option.{option_map, option_map_or}
use Rattle.std.proofs.lemmas.Bool.{eqb-true}
use Rattle.std.proofs.lemmas.Option.{same_Some}
use Rattle.sk_def.specs.declared.ids.HookId.{HookId}
use Rattle.sk_def.specs.declared.ids.ConId.{ConId}
use Rattle.sk_def.specs.declared.def.Def.{Def}
use Rattle.sk_def.specs.declared.def.Rule.{Rule}
use Rattle.sk_def.specs.declared.def.Hook.{Hook}
use Rattle.sk_def.specs.declared.def.Con.{Con}
use Rattle.sk_def.specs.Rules.{is_rule_for, rule_of}
use Rattle.sk_def.specs.declared.sorts.VarSort.TheVariants.{Flow as OfFlow}
use Rattle.sk_def.specs.Sorts.{HaveSorts}
use Rattle.sk_def.specs.Fits.{RuleFits, HookFits}
use Rattle.sk_walk.specs.Sorted.{Sorted}
use Rattle.sk_sort.specs.declared.error.SortError.TheVariants.{WrongSort, DuplicateRule}
use Rattle.sk_sort.specs.Checks.{check, first_error, count_check, new_checks}
use Rattle.sk_sort.specs.Parts.{fault_at, first_failing, bone_parts}
use Rattle.sk_sort.specs.DefinedBefore.{sorts_after}
use Rattle.sk_sort.specs.Rules.{RuleIsSorted, nothing, header_sorts, header_checks, closing_checks, fault_of_rule, rule_fault}
use Rattle.sk_sort.specs.Definition.{DefinitionIsSorted}
use Rattle.sk_sort.proofs.Passes.{one_passes, count_passes}
use Rattle.sk_sort.proofs.WellSorted.{both_none}
use Rattle.sk_term.specs.declared.node.TermNode.{TermNode}
use Rattle.sk_term.specs.Program.{Program, IsProgramOf, ChildrenFit, con_of_point, children_of_point}
use Rattle.sk_term.proofs.Entries.{entries_fit}
use Rattle.sk_term.specs.Terms.{arguments_of}
use Rattle.sk_deriv.specs.declared.call.Call.{Call}
use Rattle.sk_deriv.specs.Env.{start_of}
use Rattle.sk_deriv.specs.Moves.{Setting, fit_hook, have_sorts, setting_of}
use Rattle.sk_deriv.specs.Listing.{trails, closed, rule_at, derivations}
use Rattle.sk_concrete.specs.Rules.{RuleFor}
use Rattle.sk_concrete.proofs.Bounds.{all_at, sorts_counted}
use Rattle.sk_concrete.proofs.Fitted.{start_env_fits}

-- the first element that passes stands in the list
first_found : {A : Type 0} (p : A → Bool) (xs : List A) (x : A) → find p xs ≡ Some x → (k : ℕ) × (slice_get xs k ≡ Some x) × (p x ≡ true)
first_found p [] x h = cc
first_found p (y ∷ ys) x h =
    elim (p y) as (λ b. p y ≡ b → cond b (Some y) (find p ys) ≡ Some x → (k : ℕ) × (slice_get (y ∷ ys) k ≡ Some x) × (p x ≡ true)) [
      | true ↦ (λ e k. let same : y ≡ x = cc in (zero, k, rw (← same) e))
      | false ↦ (λ e k. let r = first_found p ys x k in (suc r.0, r.1, r.2))
    ] refl h

two : (a b : Bool) → (a && b) ≡ true → (a ≡ true) × (b ≡ true)
two true b h = (refl, h)
two false b h = cc

-- a rule of the definition is where its place says, and is the one for the hook and the constructor
pub record IsThere (d : Def) (hook : HookId) (con : ConId) (rule : Rule) : Type 0 where
  pub place : ℕ
  pub at : slice_get d.rules place ≡ Some rule
  pub of_hook : rule.hook.0 ≡ hook.0
  pub of_con : rule.con.0 ≡ con.0

pub rule_there : (d : Def) (hook : HookId) (con : ConId) (rule : Rule) → rule_of d hook con ≡ Some rule → IsThere d hook con rule
rule_there d hook con rule e =
    let found = first_found (is_rule_for hook con) d.rules rule e in
    let ids = two (eqb rule.hook.0 hook.0) (eqb rule.con.0 con.0) found.2 in
    record { place = found.0; at = found.1; of_hook = eqb-true rule.hook.0 hook.0 ids.0; of_con = eqb-true rule.con.0 con.0 ids.1 }

pub rule_fits : (d : Def) (hook : HookId) (con : ConId) (rule : Rule) → DefinitionIsSorted d → rule_of d hook con ≡ Some rule → RuleFits d rule
rule_fits d hook con rule is_sorted e = let r = rule_there d hook con rule e in all_at (RuleFits d) d.rules r.place rule is_sorted.well_sorted.fits.rules_fit r.at

header_counted : (d : Def) (earlier : List Rule) (rule : Rule) (hook : Hook) (con : Con) → slice_get d.hooks rule.hook.0 ≡ Some hook → slice_get d.cons rule.con.0 ≡ Some con →
    rule_fault d earlier rule ≡ None → (length rule.terms ≡ length con.args) × (length rule.inputs ≡ length hook.inputs)
header_counted d earlier rule hook con e f h =
    let size = length rule.bones in
    let start = header_sorts rule hook con in
    let parts = bone_parts d con.sort size 1 start rule.bones in
    let closing = record { number = size + 1; checks = closing_checks (sorts_after d size start rule.bones) rule hook } ∷ [] in
    let k : fault_of_rule d earlier rule (Some hook) (Some con) ≡ None = rw (e, f) at h in
    let a = both_none (fault_at 0) (first_error (header_checks earlier rule hook con)) (first_failing (parts ++ closing)) k in
    let b = one_passes (check DuplicateRule _) (check WrongSort (eqb con.sort.0 hook.sort.0) ∷ count_check (length rule.terms) (length con.args) ∷ count_check (length rule.inputs) (length hook.inputs) ∷ new_checks (nothing rule) (rule.terms ++ rule.inputs)) a.0 in
    let c = one_passes (check WrongSort (eqb con.sort.0 hook.sort.0)) (count_check (length rule.terms) (length con.args) ∷ count_check (length rule.inputs) (length hook.inputs) ∷ new_checks (nothing rule) (rule.terms ++ rule.inputs)) b.1 in
    let t = count_passes (length rule.terms) (length con.args) (count_check (length rule.inputs) (length hook.inputs) ∷ new_checks (nothing rule) (rule.terms ++ rule.inputs)) c.1 in
    let i = count_passes (length rule.inputs) (length hook.inputs) (new_checks (nothing rule) (rule.terms ++ rule.inputs)) t.1 in
    (t.0, i.0)

pub rule_for : (d : Def) (program : Program) (c : Call) (node : TermNode) (rule : Rule) (hook : Hook) (con : Con) → DefinitionIsSorted d →
    slice_get program.nodes c.point ≡ Some node → rule_of d c.hook node.con ≡ Some rule → slice_get d.hooks rule.hook.0 ≡ Some hook → slice_get d.cons rule.con.0 ≡ Some con →
    length node.children ≡ length con.args → fit_hook (setting_of d program) c.hook c.ins ≡ true → have_sorts program.names hook.inputs c.ins ≡ true →
    ChildrenFit d program.nodes program.names (children_of_point program.nodes c.point) con.args → RuleFor (setting_of d program) c rule hook con
rule_for d program c node rule hook con is_sorted at found hook-is con-is counted fit ins children =
    let r = rule_there d c.hook node.con rule found in
    let fits : RuleFits d rule = all_at (RuleFits d) d.rules r.place rule is_sorted.well_sorted.fits.rules_fit r.at in
    let sorted : RuleIsSorted d rule = all_at (RuleIsSorted d) d.rules r.place rule is_sorted.rules_sorted r.at in
    let header = header_counted d (take r.place d.rules) rule hook con hook-is con-is (is_sorted.well_sorted.rules_pass r.place rule r.at) in
    let same_hook : sorted.hook ≡ hook = same_Some sorted.hook hook (sym sorted.hook_is ∙ hook-is) in
    let same_con : sorted.con ≡ con = same_Some sorted.con con (sym sorted.con_is ∙ con-is) in
    let hook_fits : HookFits (length d.sorts) hook = all_at (HookFits (length d.sorts)) d.hooks rule.hook.0 hook is_sorted.well_sorted.fits.hooks_fit hook-is in
    let outputs : length rule.outputs ≡ length hook.outputs = sorts_counted sorted.after rule.outputs sorted.hook.outputs sorted.outputs ∙ ap (λ (h : Hook). length h.outputs) same_hook in
    record {
      ins_fit = fit;
      hook_is = ap (slice_get d.hooks) (sym r.of_hook) ∙ hook-is;
      node = node;
      node_is = at;
      rule_is = found;
      terms_below = fits.terms_below;
      inputs_below = fits.inputs_below;
      terms_counted = header.0;
      inputs_counted = header.1;
      children_counted = header.0 ∙ sym counted;
      few_outputs = omega (arith, outputs, hook_fits.few_outputs);
      few_bones = fits.few_bones;
      bones_fit = fits.bones_fit;
      after = sorted.after;
      bones_sorted = subst (λ (h : Hook). Sorted d con.sort 1 rule.bones (header_sorts rule h con) sorted.after) same_hook
          (subst (λ (k : Con). Sorted d k.sort 1 rule.bones (header_sorts rule sorted.hook k) sorted.after) same_con sorted.bones);
      outputs_sorted = subst (λ (h : Hook). HaveSorts sorted.after rule.outputs (map OfFlow h.outputs)) same_hook sorted.outputs;
      start_fits = start_env_fits d program.nodes program.names rule hook con (children_of_point program.nodes c.point) c.ins children ins;
    }

-- Calls without a derivation.

module _ (s : Setting) (c : Call) where
  if_none : (n : ℕ) (b : Bool) → cond b (option_map_or (λ (r : TermNode × Rule). filter_map (closed c r.1) (trails s.names c.point (derivations s n) (length r.1.bones) r.1.bones (start_of r.1 r.0 c.ins))) None []) [] ≡ []
  if_none n true = refl
  if_none n false = refl

  pub no_rule_at : rule_at s c ≡ None → (n : ℕ) → derivations s n c ≡ []
  no_rule_at e zero = refl
  no_rule_at e (suc n) = rw e (if_none n (fit_hook s c.hook c.ins))

  pub no_node : slice_get s.nodes c.point ≡ None → rule_at s c ≡ None
  no_node e = rw e refl

  pub no_rule : (node : TermNode) → slice_get s.nodes c.point ≡ Some node → rule_of s.def c.hook node.con ≡ None → rule_at s c ≡ None
  no_rule node e f = rw (e, f) refl

  pub no_fit : fit_hook s c.hook c.ins ≡ false → (n : ℕ) → derivations s n c ≡ []
  no_fit e zero = refl
  no_fit e (suc n) = rw e refl

  pub fit_is : (hook : Hook) → slice_get s.def.hooks c.hook.0 ≡ Some hook → fit_hook s c.hook c.ins ≡ have_sorts s.names hook.inputs c.ins
  fit_is hook e = rw e refl

-- the node of a point whose constructor is known
pub node_of_con : {A B : Type 0} (f : A → B) (o : Option A) (y : B) → option_map f o ≡ Some y → (x : A) × (o ≡ Some x) × (f x ≡ y)
node_of_con f None y e = absurd (cc)
node_of_con f (Some x) y e = (x, refl, same_Some (f x) y e)

module _ (d : Def) (program : Program) (c : Call) (id : ConId) (rule : Rule) (hook : Hook) (found : rule_of d c.hook id ≡ Some rule) (hook-is : slice_get d.hooks rule.hook.0 ≡ Some hook) where
  -- whether the inputs fit
  fitting : fit_hook (setting_of d program) c.hook c.ins ≡ have_sorts program.names hook.inputs c.ins
  fitting =
      let r = rule_there d c.hook id rule found in
      fit_is (setting_of d program) c hook (ap (slice_get d.hooks) (sym r.of_hook) ∙ hook-is)

  pub unfit : false ≡ have_sorts program.names hook.inputs c.ins → (n : ℕ) → derivations (setting_of d program) n c ≡ []
  unfit e = no_fit (setting_of d program) c (fitting ∙ sym e)

  pub some_rule : (con : Con) → DefinitionIsSorted d → IsProgramOf d program → slice_get d.cons rule.con.0 ≡ Some con → con_of_point program.nodes c.point ≡ Some id →
      length (children_of_point program.nodes c.point) ≡ length (arguments_of d id) → true ≡ have_sorts program.names hook.inputs c.ins → RuleFor (setting_of d program) c rule hook con
  some_rule con is_sorted of_program con-is at counted e =
      let r = rule_there d c.hook id rule found in
      let node = node_of_con (λ (n : TermNode). n.con) (slice_get program.nodes c.point) id at in
      let children : length node.0.children ≡ length (arguments_of d id) = rw node.1 at counted in
      let arguments : arguments_of d id ≡ con.args = ap (λ (o : Option Con). option_map_or (λ (entry : Con). entry.args) o []) (ap (slice_get d.cons) (sym r.of_con) ∙ con-is) in
      rule_for d program c node.0 rule hook con is_sorted node.1 (ap (rule_of d c.hook) node.2 ∙ found) hook-is con-is (children ∙ ap length arguments) (fitting ∙ sym e) (sym e)
      (subst (ChildrenFit d program.nodes program.names (children_of_point program.nodes c.point)) (ap (arguments_of d) node.2 ∙ arguments) (entries_fit d program c.point node.0 of_program node.1))
