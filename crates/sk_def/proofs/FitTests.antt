-- The tests of what fits decide it.
use Rattle.std.proofs.Common.{◌≡◌, ℕ, zero, suc, ◌+◌, ◌-◌, ◌≤◌, ◌<◌, Bool, true, false, ◌&&◌, List, [], ◌∷◌, take, drop, sum, length, refl, sym, subst, arith, All}
use Rattle.std.specs.Prelude.{◌↔◌, IsTrue, slice_index, nat_lt, nat_le}
use Rattle.std.specs.List.{list_all}
use Rattle.std.proofs.lemmas.Bool.{ltb-true, leb-true, lt-ltb, le-leb}
use Rattle.std.proofs.lemmas.List.{length-take, length-drop, drop-drop}
use Rattle.std.proofs.lemmas.List.Elements.{All-weaker}
use Rattle.std.proofs.lemmas.List.Sums.{AllPass-from_list_all, list_all-from_AllPass, sum_by-cons}
use Rattle.sk_def.specs.declared.ids.Var.{Var}
use Rattle.sk_def.specs.declared.sorts.ArgSort.{ArgSort}
use Rattle.sk_def.specs.declared.sorts.ArgSort.TheVariants as arg
use Rattle.sk_def.specs.declared.def.Con.{Con}
use Rattle.sk_def.specs.declared.def.Hook.{Hook}
use Rattle.sk_def.specs.declared.def.Rule.{Rule}
use Rattle.sk_def.specs.declared.def.Def.{Def}
use Rattle.sk_def.specs.declared.bone.Target.{Target}
use Rattle.sk_def.specs.declared.bone.Target.TheVariants.{Own, Sub}
use Rattle.sk_def.specs.declared.bone.Bone.{Bone}
use Rattle.sk_def.specs.declared.bone.Bone.TheVariants.{Apply, Call, Either}
use Rattle.sk_def.specs.Layout.{AreBelow, TargetIsBelow, BonesFit, BranchesFit, no_bone, filter_bone, hook_bone, branch_bone, no_branch, one_branch, branch, branch_places, after_branches}
use Rattle.sk_def.specs.Fits.{ArgumentFits, ConstructorFits, HookFits, RuleFits, ListsAreShort, HasFewBranches, RuleIsShort, DefinitionFits, are_below, target_is_below, bones_fit, argument_fits, constructor_fits, hook_fits, rule_fits, lists_are_short, has_few_branches, rule_is_short, definition_fits}
use Rattle.sk_def.proofs.Layouts.{branch_at, branch-take}

both : (a b : Bool) → (a && b) ≡ true → (a ≡ true) × (b ≡ true)
both true b h = (refl, h)
both false b h = cc

joined : (a b : Bool) → a ≡ true → b ≡ true → (a && b) ≡ true
joined true b p q = q
joined false b p q = cc

all_pass : {X : Type 0} (p : X → Bool) (P : X → Type 0) → ((x : X) → p x ≡ true → P x) → (xs : List X) → list_all p xs ≡ true → All P xs
all_pass p P f xs h = All-weaker (λ x. p x ≡ true) P f xs (AllPass-from_list_all p xs h)

pass_all : {X : Type 0} (p : X → Bool) (P : X → Type 0) → ((x : X) → P x → p x ≡ true) → (xs : List X) → All P xs → list_all p xs ≡ true
pass_all p P f xs h = list_all-from_AllPass p xs (All-weaker P (λ x. p x ≡ true) f xs h)

below : (vars : ℕ) (vs : List Var) → are_below vars vs ≡ true → AreBelow vars vs
below vars vs h = all_pass (λ (v : Var). nat_lt v.0 vars) (λ (v : Var). v.0 < vars) (λ v e. ltb-true v.0 vars e) vs h

below_test : (vars : ℕ) (vs : List Var) → AreBelow vars vs → are_below vars vs ≡ true
below_test vars vs h = pass_all (λ (v : Var). nat_lt v.0 vars) (λ (v : Var). v.0 < vars) (λ v e. lt-ltb v.0 vars e) vs h

target : (vars : ℕ) (t : Target) → target_is_below vars t ≡ true → TargetIsBelow vars t
target vars Own h = tt
target vars (Sub v) h = ltb-true v.0 vars h

target_test : (vars : ℕ) (t : Target) → TargetIsBelow vars t → target_is_below vars t ≡ true
target_test vars Own h = refl
target_test vars (Sub v) h = lt-ltb v.0 vars h

-- Each branch and all of them.

each_place : (p : ℕ → Bool) (j : ℕ) (counts : List ℕ) → list_all p (branch_places j counts) ≡ true → (k : ℕ) → k < length counts → p (j + k) ≡ true
each_place p j [] h k w = absurd (omega (arith, w))
each_place p j (c ∷ cs) h zero w =
    let e : j ≡ j + 0 = omega arith in
    let P : ℕ → Type 0 = λ n. p n ≡ true in
    subst P e (both (p j) (list_all p (branch_places (j + 1) cs)) h).0
each_place p j (c ∷ cs) h (suc k) w =
    let e : j + 1 + k ≡ j + suc k = omega arith in
    let P : ℕ → Type 0 = λ n. p n ≡ true in
    subst P e (each_place p (j + 1) cs (both (p j) (list_all p (branch_places (j + 1) cs)) h).1 k (omega (arith, w)))

every_place : (p : ℕ → Bool) (j : ℕ) (counts : List ℕ) → ((k : ℕ) → k < length counts → p (j + k) ≡ true) → list_all p (branch_places j counts) ≡ true
every_place p j [] h = refl
every_place p j (c ∷ cs) h =
    let P : ℕ → Type 0 = λ n. p n ≡ true in
    let here : j + 0 ≡ j = omega arith in
    joined (p j) (list_all p (branch_places (j + 1) cs)) (subst P here (h 0 (omega arith)))
    (every_place p (j + 1) cs (λ k w.
    let e : j + suc k ≡ j + 1 + k = omega arith in
    subst P e (h (suc k) (omega (arith, w)))))

from_zero : (p : ℕ → Bool) (k : ℕ) → p (0 + k) ≡ true → p k ≡ true
from_zero p k h = let e : 0 + k ≡ k = omega arith in let P : ℕ → Type 0 = λ n. p n ≡ true in subst P e h

to_zero : (p : ℕ → Bool) (k : ℕ) → p k ≡ true → p (0 + k) ≡ true
to_zero p k h = let e : k ≡ 0 + k = omega arith in let P : ℕ → Type 0 = λ n. p n ≡ true in subst P e h

shorter : (size k : ℕ) (counts : List ℕ) (bones : List Bone) → length bones ≤ size → length (branch counts k bones) ≤ size
shorter size k counts bones h =
    let later = drop (sum (take k counts)) bones in
    omega (arith, h, length-take (slice_index counts k) later, length-drop (sum (take k counts)) bones)

module _ {hooks vars : ℕ} where
  all_branches : {nesting : ℕ} (counts : List ℕ) (bones : List Bone) → ((k : ℕ) → k < length counts → BonesFit hooks vars nesting (branch counts k bones)) →
      BranchesFit hooks vars nesting counts bones
  all_branches [] bones h = no_branch
  all_branches (count ∷ counts) bones h = one_branch (h 0 (omega arith)) (all_branches counts (drop count bones) (λ k w.
      rw (drop-drop (sum (take k counts)) count bones, ← sum_by-cons (λ (n : ℕ). n) count (take k counts)) (h (suc k) (omega (arith, w)))))

  pub fit : (size nesting : ℕ) (bones : List Bone) → length bones ≤ size → bones_fit hooks vars size nesting bones ≡ true → BonesFit hooks vars nesting bones
  fit size nesting [] w h = no_bone
  fit zero nesting (bone ∷ bones) w h = cc
  fit (suc size) nesting (Apply filter args outs ∷ bones) w h =
      let a = both (are_below vars args && are_below vars outs) (bones_fit hooks vars size nesting bones) h in
      let b = both (are_below vars args) (are_below vars outs) a.0 in
      filter_bone (below vars args b.0) (below vars outs b.1) (fit size nesting bones (omega (arith, w)) a.1)
  fit (suc size) nesting (Call id args t outs ∷ bones) w h =
      let first = nat_lt id.0 hooks && are_below vars args in
      let a = both (first && target_is_below vars t && are_below vars outs) (bones_fit hooks vars size nesting bones) h in
      let b = both (first && target_is_below vars t) (are_below vars outs) a.0 in
      let c = both first (target_is_below vars t) b.0 in
      let d = both (nat_lt id.0 hooks) (are_below vars args) c.0 in
      hook_bone (ltb-true id.0 hooks d.0) (below vars args d.1) (target vars t c.1) (below vars outs b.1) (fit size nesting bones (omega (arith, w)) a.1)
  fit (suc size) zero (Either counts exports ∷ bones) w h = cc
  fit (suc size) (suc nesting) (Either counts exports ∷ bones) w h =
      let n : suc nesting - 1 ≡ nesting = omega arith in
      let test : ℕ → Bool = λ k. bones_fit hooks vars size (suc nesting - 1) (branch counts k bones) in
      let later = bones_fit hooks vars size (suc nesting) (after_branches counts bones) in
      let counted = nat_lt 0 (suc nesting) && nat_le 2 (length counts) in
      let sized = counted && nat_le (sum counts) (length bones) in
      let a = both (sized && are_below vars exports && list_all test (branch_places 0 counts)) later h in
      let b = both (sized && are_below vars exports) (list_all test (branch_places 0 counts)) a.0 in
      let c = both sized (are_below vars exports) b.0 in
      let d = both counted (nat_le (sum counts) (length bones)) c.0 in
      let e = both (nat_lt 0 (suc nesting)) (nat_le 2 (length counts)) d.0 in
      branch_bone (leb-true 2 (length counts) e.1) (leb-true (sum counts) (length bones) d.1) (below vars exports c.1)
      (all_branches counts (take (sum counts) bones) (λ k v. rw (branch-take counts k bones v)
      (fit size nesting (branch counts k bones) (shorter size k counts bones (omega (arith, w))) (rw n at (from_zero test k (each_place test 0 counts b.1 k v))))))
      (fit size (suc nesting) (after_branches counts bones) (omega (arith, w, length-drop (sum counts) bones)) a.1)

  pub fit_test : (size nesting : ℕ) (bones : List Bone) → length bones ≤ size → BonesFit hooks vars nesting bones → bones_fit hooks vars size nesting bones ≡ true
  fit_test size nesting [] w no_bone = refl
  fit_test zero nesting (bone ∷ bones) w h = absurd (omega (arith, w))
  fit_test (suc size) nesting (Apply filter args outs ∷ bones) w (filter_bone p q r) =
      joined (are_below vars args && are_below vars outs) (bones_fit hooks vars size nesting bones)
      (joined (are_below vars args) (are_below vars outs) (below_test vars args p) (below_test vars outs q)) (fit_test size nesting bones (omega (arith, w)) r)
  fit_test (suc size) nesting (Call id args t outs ∷ bones) w (hook_bone p q r s u) =
      let first = nat_lt id.0 hooks && are_below vars args in
      joined (first && target_is_below vars t && are_below vars outs) (bones_fit hooks vars size nesting bones)
      (joined (first && target_is_below vars t) (are_below vars outs)
      (joined first (target_is_below vars t)
      (joined (nat_lt id.0 hooks) (are_below vars args) (lt-ltb id.0 hooks p) (below_test vars args q)) (target_test vars t r))
      (below_test vars outs s)) (fit_test size nesting bones (omega (arith, w)) u)
  fit_test (suc size) zero (Either counts exports ∷ bones) w h = elim h [ ]
  fit_test (suc size) (suc nesting) (Either counts exports ∷ bones) w (branch_bone p q r s u) =
      let n : suc nesting - 1 ≡ nesting = omega arith in
      let test : ℕ → Bool = λ k. bones_fit hooks vars size (suc nesting - 1) (branch counts k bones) in
      let later = bones_fit hooks vars size (suc nesting) (after_branches counts bones) in
      let counted = nat_lt 0 (suc nesting) && nat_le 2 (length counts) in
      let sized = counted && nat_le (sum counts) (length bones) in
      joined (sized && are_below vars exports && list_all test (branch_places 0 counts)) later
      (joined (sized && are_below vars exports) (list_all test (branch_places 0 counts))
      (joined sized (are_below vars exports)
      (joined counted (nat_le (sum counts) (length bones))
      (joined (nat_lt 0 (suc nesting)) (nat_le 2 (length counts)) (lt-ltb 0 (suc nesting) (omega arith)) (le-leb 2 (length counts) p))
      (le-leb (sum counts) (length bones) q)) (below_test vars exports r))
      (every_place test 0 counts (λ k v. to_zero test k (rw n
      (fit_test size nesting (branch counts k bones) (shorter size k counts bones (omega (arith, w)))
      (rw (branch-take counts k bones v) at (branch_at counts (take (sum counts) bones) k v s)))))))
      (fit_test size (suc nesting) (after_branches counts bones) (omega (arith, w, length-drop (sum counts) bones)) u)

-- Constructors, hooks, rules and the definition.

argument : (sorts : ℕ) (a : ArgSort) → argument_fits sorts a ≡ true → ArgumentFits sorts a
argument sorts (arg.Term s) h = ltb-true s.0 sorts h
argument sorts arg.Number h = tt
argument sorts arg.Name h = tt

argument_test : (sorts : ℕ) (a : ArgSort) → ArgumentFits sorts a → argument_fits sorts a ≡ true
argument_test sorts (arg.Term s) h = lt-ltb s.0 sorts h
argument_test sorts arg.Number h = refl
argument_test sorts arg.Name h = refl

constructor : (sorts : ℕ) (con : Con) → constructor_fits sorts con ≡ true → ConstructorFits sorts con
constructor sorts con h =
    let a = both (nat_lt con.sort.0 sorts && nat_le (length con.args) 8) (list_all (argument_fits sorts) con.args) h in
    let b = both (nat_lt con.sort.0 sorts) (nat_le (length con.args) 8) a.0 in
    record {
      sort_declared = ltb-true con.sort.0 sorts b.0;
      few_arguments = leb-true (length con.args) 8 b.1;
      arguments_declared = all_pass (argument_fits sorts) (ArgumentFits sorts) (argument sorts) con.args a.1;
    }

constructor_test : (sorts : ℕ) (con : Con) → ConstructorFits sorts con → constructor_fits sorts con ≡ true
constructor_test sorts con f =
    joined (nat_lt con.sort.0 sorts && nat_le (length con.args) 8) (list_all (argument_fits sorts) con.args)
    (joined (nat_lt con.sort.0 sorts) (nat_le (length con.args) 8) (lt-ltb con.sort.0 sorts f.sort_declared) (le-leb (length con.args) 8 f.few_arguments))
    (pass_all (argument_fits sorts) (ArgumentFits sorts) (argument_test sorts) con.args f.arguments_declared)

hook : (sorts : ℕ) (x : Hook) → hook_fits sorts x ≡ true → HookFits sorts x
hook sorts x h =
    let a = both (nat_lt x.sort.0 sorts && nat_le (length x.inputs) 4) (nat_le (length x.outputs) 4) h in
    let b = both (nat_lt x.sort.0 sorts) (nat_le (length x.inputs) 4) a.0 in
    record {
      sort_declared = ltb-true x.sort.0 sorts b.0;
      few_inputs = leb-true (length x.inputs) 4 b.1;
      few_outputs = leb-true (length x.outputs) 4 a.1;
    }

hook_test : (sorts : ℕ) (x : Hook) → HookFits sorts x → hook_fits sorts x ≡ true
hook_test sorts x f =
    joined (nat_lt x.sort.0 sorts && nat_le (length x.inputs) 4) (nat_le (length x.outputs) 4)
    (joined (nat_lt x.sort.0 sorts) (nat_le (length x.inputs) 4) (lt-ltb x.sort.0 sorts f.sort_declared) (le-leb (length x.inputs) 4 f.few_inputs))
    (le-leb (length x.outputs) 4 f.few_outputs)

module _ (d : Def) (rule : Rule) where
  pub rule_fit : rule_fits d rule ≡ true → RuleFits d rule
  rule_fit h =
      let n = length rule.vars in
      let t1 = nat_lt rule.hook.0 (length d.hooks) in
      let t2 = nat_lt rule.con.0 (length d.cons) in
      let t3 = nat_le n 64 in
      let t4 = are_below n rule.terms in
      let t5 = are_below n rule.inputs in
      let t6 = are_below n rule.outputs in
      let t7 = nat_le (length rule.bones) 64 in
      let a = both (t1 && t2 && t3 && t4 && t5 && t6 && t7) (bones_fit (length d.hooks) n (length rule.bones) 8 rule.bones) h in
      let b = both (t1 && t2 && t3 && t4 && t5 && t6) t7 a.0 in
      let c = both (t1 && t2 && t3 && t4 && t5) t6 b.0 in
      let e = both (t1 && t2 && t3 && t4) t5 c.0 in
      let f = both (t1 && t2 && t3) t4 e.0 in
      let g = both (t1 && t2) t3 f.0 in
      let i = both t1 t2 g.0 in
      record {
        hook_declared = ltb-true rule.hook.0 (length d.hooks) i.0;
        con_declared = ltb-true rule.con.0 (length d.cons) i.1;
        few_variables = leb-true n 64 g.1;
        terms_below = below n rule.terms f.1;
        inputs_below = below n rule.inputs e.1;
        outputs_below = below n rule.outputs c.1;
        few_bones = leb-true (length rule.bones) 64 b.1;
        bones_fit = fit (length rule.bones) 8 rule.bones (omega arith) a.1;
      }

  pub rule_test : RuleFits d rule → rule_fits d rule ≡ true
  rule_test f =
      let n = length rule.vars in
      let t1 = nat_lt rule.hook.0 (length d.hooks) in
      let t2 = nat_lt rule.con.0 (length d.cons) in
      let t3 = nat_le n 64 in
      let t4 = are_below n rule.terms in
      let t5 = are_below n rule.inputs in
      let t6 = are_below n rule.outputs in
      let t7 = nat_le (length rule.bones) 64 in
      joined (t1 && t2 && t3 && t4 && t5 && t6 && t7) (bones_fit (length d.hooks) n (length rule.bones) 8 rule.bones)
      (joined (t1 && t2 && t3 && t4 && t5 && t6) t7
      (joined (t1 && t2 && t3 && t4 && t5) t6
      (joined (t1 && t2 && t3 && t4) t5
      (joined (t1 && t2 && t3) t4
      (joined (t1 && t2) t3
      (joined t1 t2 (lt-ltb rule.hook.0 (length d.hooks) f.hook_declared) (lt-ltb rule.con.0 (length d.cons) f.con_declared))
      (le-leb n 64 f.few_variables))
      (below_test n rule.terms f.terms_below))
      (below_test n rule.inputs f.inputs_below))
      (below_test n rule.outputs f.outputs_below))
      (le-leb (length rule.bones) 64 f.few_bones))
      (fit_test (length rule.bones) 8 rule.bones (omega arith) f.bones_fit)

short_lists : (bone : Bone) → lists_are_short bone ≡ true → ListsAreShort bone
short_lists (Apply filter args outs) h =
    let a = both (nat_le (length args) 8) (nat_le (length outs) 8) h in (leb-true (length args) 8 a.0, leb-true (length outs) 8 a.1)
short_lists (Call id args t outs) h =
    let a = both (nat_le (length args) 8) (nat_le (length outs) 8) h in (leb-true (length args) 8 a.0, leb-true (length outs) 8 a.1)
short_lists (Either counts exports) h = leb-true (length exports) 8 h

short_lists_test : (bone : Bone) → ListsAreShort bone → lists_are_short bone ≡ true
short_lists_test (Apply filter args outs) f = joined (nat_le (length args) 8) (nat_le (length outs) 8) (le-leb (length args) 8 f.0) (le-leb (length outs) 8 f.1)
short_lists_test (Call id args t outs) f = joined (nat_le (length args) 8) (nat_le (length outs) 8) (le-leb (length args) 8 f.0) (le-leb (length outs) 8 f.1)
short_lists_test (Either counts exports) f = le-leb (length exports) 8 f

branches_few : (bone : Bone) → has_few_branches bone ≡ true → HasFewBranches bone
branches_few (Apply filter args outs) h = tt
branches_few (Call id args t outs) h = tt
branches_few (Either counts exports) h = leb-true (length counts) 8 h

branches_few_test : (bone : Bone) → HasFewBranches bone → has_few_branches bone ≡ true
branches_few_test (Apply filter args outs) f = refl
branches_few_test (Call id args t outs) f = refl
branches_few_test (Either counts exports) f = le-leb (length counts) 8 f

rule_short : (rule : Rule) → rule_is_short rule ≡ true → RuleIsShort rule
rule_short rule h =
    let t1 = nat_le (length rule.terms) 8 in
    let t2 = nat_le (length rule.inputs) 8 in
    let t3 = nat_le (length rule.outputs) 8 in
    let t4 = list_all lists_are_short rule.bones in
    let a = both (t1 && t2 && t3 && t4) (list_all has_few_branches rule.bones) h in
    let b = both (t1 && t2 && t3) t4 a.0 in
    let c = both (t1 && t2) t3 b.0 in
    let e = both t1 t2 c.0 in
    record {
      few_terms = leb-true (length rule.terms) 8 e.0;
      few_inputs = leb-true (length rule.inputs) 8 e.1;
      few_outputs = leb-true (length rule.outputs) 8 c.1;
      lists_short = all_pass lists_are_short ListsAreShort short_lists rule.bones b.1;
      few_branches = all_pass has_few_branches HasFewBranches branches_few rule.bones a.1;
    }

rule_short_test : (rule : Rule) → RuleIsShort rule → rule_is_short rule ≡ true
rule_short_test rule f =
    let t1 = nat_le (length rule.terms) 8 in
    let t2 = nat_le (length rule.inputs) 8 in
    let t3 = nat_le (length rule.outputs) 8 in
    let t4 = list_all lists_are_short rule.bones in
    joined (t1 && t2 && t3 && t4) (list_all has_few_branches rule.bones)
    (joined (t1 && t2 && t3) t4
    (joined (t1 && t2) t3
    (joined t1 t2 (le-leb (length rule.terms) 8 f.few_terms) (le-leb (length rule.inputs) 8 f.few_inputs))
    (le-leb (length rule.outputs) 8 f.few_outputs))
    (pass_all lists_are_short ListsAreShort short_lists_test rule.bones f.lists_short))
    (pass_all has_few_branches HasFewBranches branches_few_test rule.bones f.few_branches)

pub definition_fit : (d : Def) → definition_fits d ≡ true → DefinitionFits d
definition_fit d h =
    let n = length d.sorts in
    let t1 = nat_le n 16 in
    let t2 = nat_le (length d.cons) 128 in
    let t3 = nat_le (length d.hooks) 8 in
    let t4 = list_all (constructor_fits n) d.cons in
    let t5 = list_all (hook_fits n) d.hooks in
    let t6 = list_all (rule_fits d) d.rules in
    let a = both (t1 && t2 && t3 && t4 && t5 && t6) (list_all rule_is_short d.rules) h in
    let b = both (t1 && t2 && t3 && t4 && t5) t6 a.0 in
    let c = both (t1 && t2 && t3 && t4) t5 b.0 in
    let e = both (t1 && t2 && t3) t4 c.0 in
    let f = both (t1 && t2) t3 e.0 in
    let g = both t1 t2 f.0 in
    record {
      few_sorts = leb-true n 16 g.0;
      few_constructors = leb-true (length d.cons) 128 g.1;
      few_hooks = leb-true (length d.hooks) 8 f.1;
      constructors_fit = all_pass (constructor_fits n) (ConstructorFits n) (constructor n) d.cons e.1;
      hooks_fit = all_pass (hook_fits n) (HookFits n) (hook n) d.hooks c.1;
      rules_fit = all_pass (rule_fits d) (RuleFits d) (rule_fit d) d.rules b.1;
      rules_short = all_pass rule_is_short RuleIsShort rule_short d.rules a.1;
    }

pub definition_test : (d : Def) → DefinitionFits d → definition_fits d ≡ true
definition_test d f =
    let n = length d.sorts in
    let t1 = nat_le n 16 in
    let t2 = nat_le (length d.cons) 128 in
    let t3 = nat_le (length d.hooks) 8 in
    let t4 = list_all (constructor_fits n) d.cons in
    let t5 = list_all (hook_fits n) d.hooks in
    let t6 = list_all (rule_fits d) d.rules in
    joined (t1 && t2 && t3 && t4 && t5 && t6) (list_all rule_is_short d.rules)
    (joined (t1 && t2 && t3 && t4 && t5) t6
    (joined (t1 && t2 && t3 && t4) t5
    (joined (t1 && t2 && t3) t4
    (joined (t1 && t2) t3
    (joined t1 t2 (le-leb n 16 f.few_sorts) (le-leb (length d.cons) 128 f.few_constructors))
    (le-leb (length d.hooks) 8 f.few_hooks))
    (pass_all (constructor_fits n) (ConstructorFits n) (constructor_test n) d.cons f.constructors_fit))
    (pass_all (hook_fits n) (HookFits n) (hook_test n) d.hooks f.hooks_fit))
    (pass_all (rule_fits d) (RuleFits d) (rule_test d) d.rules f.rules_fit))
    (pass_all rule_is_short RuleIsShort rule_short_test d.rules f.rules_short)

-- two tests of one fact are one
pub same_test : {P : Type 0} (a b : Bool) → (IsTrue a ↔ P) → (b ≡ true → P) → (P → b ≡ true) → a ≡ b
same_test true true p q r = refl
same_test false false p q r = refl
same_test true false p q r = sym (r (p.0 refl))
same_test false true p q r = p.1 (q refl)
