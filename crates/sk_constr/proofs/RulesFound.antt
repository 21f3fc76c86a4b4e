-- The rule of a key in a well-sorted definition.
use Rattle.std.proofs.Common.{◌≡◌, ℕ, zero, suc, ◌+◌, ◌<◌, Bool, true, false, ◌&&◌, cond, eqb, List, [], ◌∷◌, ◌++◌, length, take, map, Option, Some, None, refl, ap, sym, subst, ◌∙◌, slice_get, All, arith}
use Rattle.std.specs.Prelude.{find, IsSome}
use Rattle.std.specs.Option.{option_map, option_map_or}
use Rattle.std.proofs.lemmas.Bool.{eqb-true}
use Rattle.std.proofs.lemmas.Option.{same_Some, slice_get_within, get_or_from_slice_get}
use Rattle.sk_def.specs.declared.ids.HookId.{HookId}
use Rattle.sk_def.specs.declared.ids.ConId.{ConId}
use Rattle.sk_def.specs.declared.ids.SortId.{SortId}
use Rattle.sk_def.specs.declared.def.Def.{Def}
use Rattle.sk_def.specs.declared.def.Rule.{Rule}
use Rattle.sk_def.specs.declared.def.Hook.{Hook}
use Rattle.sk_def.specs.declared.def.Con.{Con}
use Rattle.sk_def.specs.Rules.{is_rule_for, rule_of}
use Rattle.sk_def.specs.Fits.{RuleFits}
use Rattle.sk_def.specs.declared.sorts.VarSort.TheVariants.{Flow}
use Rattle.sk_def.specs.Sorts.{HaveSorts}
use Rattle.sk_walk.specs.Sorted.{Sorted}
use Rattle.sk_sort.specs.declared.error.SortError.TheVariants.{WrongSort, DuplicateRule}
use Rattle.sk_sort.specs.Checks.{check, first_error, count_check, new_checks}
use Rattle.sk_sort.specs.Parts.{fault_at, first_failing, bone_parts}
use Rattle.sk_sort.specs.DefinedBefore.{sorts_after}
use Rattle.sk_sort.specs.Rules.{RuleIsSorted, nothing, header_sorts, header_checks, closing_checks, fault_of_rule, rule_fault}
use Rattle.sk_sort.specs.Definition.{DefinitionIsSorted}
use Rattle.sk_sort.proofs.Passes.{one_passes, count_passes}
use Rattle.sk_sort.proofs.WellSorted.{both_none}
use Rattle.sk_sort.proofs.RuleFound.{rule_found}
use Rattle.sk_term.specs.declared.node.TermNode.{TermNode}
use Rattle.sk_term.specs.Program.{con_of_point, children_of_point}
use Rattle.sk_term.specs.Terms.{takes_node, arguments_of}
use Rattle.sk_constr.specs.Keys.{RuleOfKey}

pub all_at : {A : Type 0} (P : A → Type 0) (xs : List A) (k : ℕ) (x : A) → All P xs → slice_get xs k ≡ Some x → P x
all_at P xs k x h e = subst P (get_or_from_slice_get xs k x x e) (h k x (slice_get_within xs k x e))

-- the first element that passes stands in the list
first_found : {A : Type 0} (p : A → Bool) (xs : List A) (x : A) → find p xs ≡ Some x → (k : ℕ) × (slice_get xs k ≡ Some x) × (p x ≡ true)
first_found p [] x h = cc
first_found p (y ∷ ys) x h =
    elim (p y) as (λ b. p y ≡ b → cond b (Some y) (find p ys) ≡ Some x → (k : ℕ) × (slice_get (y ∷ ys) k ≡ Some x) × (p x ≡ true)) [
      | true ↦ (λ e k. let same : y ≡ x = cc in (zero, k, rw (← same) e))
      | false ↦ (λ e k. let r = first_found p ys x k in (suc r.0, r.1, r.2))
    ] refl h

two : (a b : Bool) → (a && b) ≡ true → (a ≡ true) × (b ≡ true)
two true b h = (refl, h)
two false b h = cc

header_counted : (d : Def) (earlier : List Rule) (rule : Rule) (hook : Hook) (con : Con) → slice_get d.hooks rule.hook.0 ≡ Some hook → slice_get d.cons rule.con.0 ≡ Some con →
    rule_fault d earlier rule ≡ None → (length rule.terms ≡ length con.args) × (length rule.inputs ≡ length hook.inputs)
header_counted d earlier rule hook con e f h =
    let size = length rule.bones in
    let start = header_sorts rule hook con in
    let parts = bone_parts d con.sort size 1 start rule.bones in
    let closing = record { number = size + 1; checks = closing_checks (sorts_after d size start rule.bones) rule hook } ∷ [] in
    let k : fault_of_rule d earlier rule (Some hook) (Some con) ≡ None = rw (e, f) at h in
    let a = both_none (fault_at 0) (first_error (header_checks earlier rule hook con)) (first_failing (parts ++ closing)) k in
    let b = one_passes (check DuplicateRule _) (check WrongSort (eqb con.sort.0 hook.sort.0) ∷ count_check (length rule.terms) (length con.args) ∷ count_check (length rule.inputs) (length hook.inputs) ∷ new_checks (nothing rule) (rule.terms ++ rule.inputs)) a.0 in
    let c = one_passes (check WrongSort (eqb con.sort.0 hook.sort.0)) (count_check (length rule.terms) (length con.args) ∷ count_check (length rule.inputs) (length hook.inputs) ∷ new_checks (nothing rule) (rule.terms ++ rule.inputs)) b.1 in
    let t = count_passes (length rule.terms) (length con.args) (count_check (length rule.inputs) (length hook.inputs) ∷ new_checks (nothing rule) (rule.terms ++ rule.inputs)) c.1 in
    let i = count_passes (length rule.inputs) (length hook.inputs) (new_checks (nothing rule) (rule.terms ++ rule.inputs)) t.1 in
    (t.0, i.0)

-- the node of a point whose constructor is known
node_of_con : {A B : Type 0} (f : A → B) (o : Option A) (y : B) → option_map f o ≡ Some y → (x : A) × (o ≡ Some x) × (f x ≡ y)
node_of_con f None y e = absurd (cc)
node_of_con f (Some x) y e = (x, refl, same_Some (f x) y e)

-- a node that a hook takes has a constructor of the hook's sort
sort_of : (h : Hook) (o : Option Con) → option_map_or (λ (found : SortId). eqb found.0 h.sort.0) (option_map (λ (entry : Con). entry.sort) o) false ≡ true →
    (k : Con) × (o ≡ Some k) × (k.sort.0 ≡ h.sort.0)
sort_of h None e = absurd (cc)
sort_of h (Some k) e = (k, refl, eqb-true k.sort.0 h.sort.0 e)

pub there : {A : Type 0} (xs : List A) (k : ℕ) → k < length xs → (x : A) × (slice_get xs k ≡ Some x)
there [] k h = absurd (omega (arith, h))
there (x ∷ xs) zero h = (x, refl)
there (x ∷ xs) (suc k) h = there xs k (omega (arith, h))

abbrev pub Takes : Def → List TermNode → HookId → ℕ → Type 0
Takes d nodes id point = (node : TermNode) (hook : Hook) → slice_get nodes point ≡ Some node → slice_get d.hooks id.0 ≡ Some hook → takes_node d node hook ≡ true

-- the node, the hook and the constructor of a key
pub record KeyParts (d : Def) (nodes : List TermNode) (id : HookId) (point : ℕ) (con : ConId) : Type 0 where
  pub node : TermNode
  pub node_is : slice_get nodes point ≡ Some node
  pub con_of : node.con ≡ con
  pub hook : Hook
  pub hook_is : slice_get d.hooks id.0 ≡ Some hook
  pub entry : Con
  pub entry_is : slice_get d.cons con.0 ≡ Some entry
  pub same_sort : entry.sort.0 ≡ hook.sort.0

pub key_parts : (d : Def) (nodes : List TermNode) (id : HookId) (point : ℕ) (con : ConId) → con_of_point nodes point ≡ Some con → id.0 < length d.hooks → Takes d nodes id point → KeyParts d nodes id point con
key_parts d nodes id point con at within takes =
    let node = node_of_con (λ (n : TermNode). n.con) (slice_get nodes point) con at in
    let hook = there d.hooks id.0 within in
    let sort = sort_of hook.0 (slice_get d.cons node.0.con.0) (takes node.0 hook.0 node.1 hook.1) in
    record {
      node = node.0;
      node_is = node.1;
      con_of = node.2;
      hook = hook.0;
      hook_is = hook.1;
      entry = sort.0;
      entry_is = ap (λ (c : ConId). slice_get d.cons c.0) (sym node.2) ∙ sort.1;
      same_sort = sort.2;
    }

pub has_rule : (d : Def) (nodes : List TermNode) (id : HookId) (point : ℕ) (con : ConId) → DefinitionIsSorted d → KeyParts d nodes id point con → IsSome (rule_of d id con)
has_rule d nodes id point con is_sorted p =
    let found = rule_found d is_sorted id con p.hook p.entry p.hook_is p.entry_is p.same_sort in
    rw found.is_first refl

pub rule_of_parts : (d : Def) (nodes : List TermNode) (id : HookId) (point : ℕ) (con : ConId) (rule : Rule) (hook : Hook) (entry : Con) → DefinitionIsSorted d → KeyParts d nodes id point con →
    rule_of d id con ≡ Some rule → slice_get d.hooks id.0 ≡ Some hook → slice_get d.cons con.0 ≡ Some entry → length (children_of_point nodes point) ≡ length (arguments_of d con) → RuleOfKey d nodes id point rule hook entry
rule_of_parts d nodes id point con rule hook entry is_sorted p is hook-is con-is counted =
    let found = first_found (is_rule_for id con) d.rules rule is in
    let ids = two (eqb rule.hook.0 id.0) (eqb rule.con.0 con.0) found.2 in
    let of_hook = eqb-true rule.hook.0 id.0 ids.0 in
    let of_con = eqb-true rule.con.0 con.0 ids.1 in
    let fits : RuleFits d rule = all_at (RuleFits d) d.rules found.0 rule is_sorted.well_sorted.fits.rules_fit found.1 in
    let sorted : RuleIsSorted d rule = all_at (RuleIsSorted d) d.rules found.0 rule is_sorted.rules_sorted found.1 in
    let rule_hook : slice_get d.hooks rule.hook.0 ≡ Some hook = ap (slice_get d.hooks) of_hook ∙ hook-is in
    let rule_con : slice_get d.cons rule.con.0 ≡ Some entry = ap (slice_get d.cons) of_con ∙ con-is in
    let header = header_counted d (take found.0 d.rules) rule hook entry rule_hook rule_con (is_sorted.well_sorted.rules_pass found.0 rule found.1) in
    let same_hook : sorted.hook ≡ hook = same_Some sorted.hook hook (sym sorted.hook_is ∙ rule_hook) in
    let same_con : sorted.con ≡ entry = same_Some sorted.con entry (sym sorted.con_is ∙ rule_con) in
    let arguments : arguments_of d con ≡ entry.args = ap (λ (o : Option Con). option_map_or (λ (c : Con). c.args) o []) con-is in
    let children : length p.node.children ≡ length entry.args = (rw p.node_is at counted) ∙ ap length arguments in
    record {
      node = p.node;
      node_is = p.node_is;
      rule_is = ap (rule_of d id) p.con_of ∙ is;
      hook_is = hook-is;
      con_is = ap (λ (c : ConId). slice_get d.cons c.0) p.con_of ∙ con-is;
      terms_below = fits.terms_below;
      inputs_below = fits.inputs_below;
      terms_counted = header.0;
      inputs_counted = header.1;
      children_counted = header.0 ∙ sym children;
      few_bones = fits.few_bones;
      bones_fit = fits.bones_fit;
      after = sorted.after;
      bones_sorted = subst (λ (h : Hook). Sorted d entry.sort 1 rule.bones (header_sorts rule h entry) sorted.after) same_hook
          (subst (λ (k : Con). Sorted d k.sort 1 rule.bones (header_sorts rule sorted.hook k) sorted.after) same_con sorted.bones);
      outputs_sorted = subst (λ (h : Hook). HaveSorts sorted.after rule.outputs (map Flow h.outputs)) same_hook sorted.outputs;
      place = found.0;
      stands = found.1;
    }
