-- How what holds of a draft goes on when a part of it changes.
use Rattle.std.proofs.Common.{◌≡◌, ℕ, suc, ◌+◌, ◌-◌, ◌<◌, ◌≤◌, nat_lt, cond, Bool, true, false, if◌then◌else◌, List, [], ◌∷◌, ◌++◌, length, refl, subst, ◌∙◌, arith, length-append, Option, Some, None}
use Rattle.std.specs.Prelude.{IfSome, position}
use Rattle.std.specs.List.{position_or_len}
use Rattle.std.proofs.lemmas.Bool.{ltb-true}
use Rattle.std.proofs.lemmas.List.Elements.{All-weaker}
use Rattle.std.proofs.lemmas.List.Sums.{sum_by-append}
use Rattle.sk_base.specs.Names.{place_of_name, with_name}
use Rattle.sk_base.specs.declared.flow.FlowSort.{FlowSort}
use Rattle.sk_def.specs.Layout.{AreBelow, BonesFit, no_bone, filter_bone, hook_bone, no_branch}
use Rattle.sk_def.specs.Fits.{ArgumentFits, ConstructorFits, HookFits, RuleFits}
use Rattle.sk_def.specs.declared.def.Def.{Def}
use Rattle.sk_def.specs.declared.def.Con.{Con}
use Rattle.sk_def.specs.declared.def.Hook.{Hook}
use Rattle.sk_def.specs.declared.def.Rule.{Rule}
use Rattle.sk_def.specs.declared.ids.SortId.{SortId}
use Rattle.sk_def.specs.declared.ids.HookId.{HookId}
use Rattle.sk_def.specs.declared.ids.ConId.{ConId}
use Rattle.sk_def.specs.declared.ids.Var.{Var}
use Rattle.sk_def.specs.declared.sorts.ArgSort.{ArgSort}
use Rattle.sk_def.specs.declared.sorts.ArgSort.TheVariants as arg
use Rattle.sk_def.specs.declared.bone.Bone.{Bone}
use Rattle.sk_def.specs.declared.bone.Bone.TheVariants.{Either}
use Rattle.sk_def.specs.declared.bone.Target.{Target}
use Rattle.sk_deftext.specs.Bodies.{bone_of}
use Rattle.sk_deftext.specs.declared.draft.OpenBone.{OpenBone}
use Rattle.sk_deftext.specs.declared.draft.BoneHead.{BoneHead}
use Rattle.sk_deftext.specs.declared.draft.BoneHead.TheVariants as head
use Rattle.sk_deftext.proofs.Standing.{Heads, RuleHeads, HeadFits, Variables, OneFits, UnclosedFit, Bodies, RulesPlaced}
use Rattle.sk_deftext.proofs.Bones.{below_wider, target_wider, bones_wider, bones_both, branches_wider, branches_more, with_branch_bone}

-- one more entry
pub one_more : {A : Type 0} (xs : List A) (x : A) → length (xs ++ x ∷ []) ≡ length xs + 1
one_more xs x = length-append xs (x ∷ [])

pub fewer : (n m : ℕ) → nat_lt n m ≡ true → n < m
fewer n m e = ltb-true n m e

below : (b : Bool) (n len i : ℕ) → nat_lt n len ≡ b → cond b (Some n) None ≡ Some i → i < len
below true n len i e s = let same : n ≡ i = cc s in omega (arith, ltb-true n len e, same)
below false n len i e s = absurd (cc s)

-- the first place of an entry is a place
pub position_below : {A : Type 0} (p : A → Bool) (xs : List A) (i : ℕ) → position p xs ≡ Some i → i < length xs
position_below p xs i s = below (nat_lt (position_or_len p xs) (length xs)) (position_or_len p xs) (length xs) i refl s

-- names with one that is added
abbrev pub NamesGrow : List (List ℕ) → Option (ℕ × List (List ℕ)) → Type 0
NamesGrow names None = Unit {0}
NamesGrow names (Some (place, after)) = (place < length after) × (length names ≤ length after) × (length after ≤ 64)

grown : (names : List (List ℕ)) (name : List ℕ) (b : Bool) → nat_lt (length names) 64 ≡ b → NamesGrow names (if b then Some (length names, names ++ name ∷ []) else None)
grown names name true e = (omega (arith, one_more names name), omega (arith, one_more names name), omega (arith, one_more names name, ltb-true (length names) 64 e))
grown names name false e = tt

pub names_grow : (names : List (List ℕ)) (name : List ℕ) → length names ≤ 64 → NamesGrow names (with_name names name)
names_grow names name few = by (place_of_name names name) refl where
  by : (o : Option ℕ) → place_of_name names name ≡ o → NamesGrow names (with_name names name)
  by (Some place) e = rw e (position_below _ names place e, omega arith, few)
  by None e = rw e (grown names name (nat_lt (length names) 64) refl)

-- wider limits
pub argument_wider : (m n : ℕ) → m ≤ n → (sort : ArgSort) → ArgumentFits m sort → ArgumentFits n sort
argument_wider m n le arg.Number p = tt
argument_wider m n le arg.Name p = tt
argument_wider m n le (arg.Term sort) p = omega (arith, p, le)

pub con_wider : (m n : ℕ) → m ≤ n → (con : Con) → ConstructorFits m con → ConstructorFits n con
con_wider m n le con p = record {
  sort_declared = omega (arith, p.sort_declared, le);
  few_arguments = p.few_arguments;
  arguments_declared = All-weaker (ArgumentFits m) (ArgumentFits n) (argument_wider m n le) con.args p.arguments_declared;
}

pub hook_wider : (m n : ℕ) → m ≤ n → (hook : Hook) → HookFits m hook → HookFits n hook
hook_wider m n le hook p = record { sort_declared = omega (arith, p.sort_declared, le); few_inputs = p.few_inputs; few_outputs = p.few_outputs }

pub rule_wider : (d e : Def) → length d.hooks ≤ length e.hooks → length d.cons ≤ length e.cons → (rule : Rule) → RuleFits d rule → RuleFits e rule
rule_wider d e hooks cons rule p = record {
  hook_declared = omega (arith, p.hook_declared, hooks);
  con_declared = omega (arith, p.con_declared, cons);
  few_variables = p.few_variables;
  terms_below = p.terms_below;
  inputs_below = p.inputs_below;
  outputs_below = p.outputs_below;
  few_bones = p.few_bones;
  bones_fit = bones_wider hooks (omega arith) 8 (omega arith) p.bones_fit;
}

if_some : {A : Type 0} (P Q : A → Type 0) (o : Option A) → ((x : A) → P x → Q x) → IfSome o P → IfSome o Q
if_some P Q None h p = p
if_some P Q (Some x) h p = h x p

pub heads_wider : (m n : ℕ) (sort : Option SortId) (args : List ArgSort) (inputs outputs : List FlowSort) → m ≤ n → Heads m sort args inputs outputs → Heads n sort args inputs outputs
heads_wider m n sort args inputs outputs le p = record {
  sort_declared = if_some (λ (s : SortId). s.0 < m) (λ (s : SortId). s.0 < n) sort (λ (s : SortId) (h : s.0 < m). omega (arith, h, le)) p.sort_declared;
  few_args = p.few_args;
  args_declared = All-weaker (ArgumentFits m) (ArgumentFits n) (argument_wider m n le) args p.args_declared;
  few_inputs = p.few_inputs;
  few_outputs = p.few_outputs;
}

pub rule_heads_wider : (h k c e : ℕ) (hook : Option HookId) (con : Option ConId) → h ≤ k → c ≤ e → RuleHeads h c hook con → RuleHeads k e hook con
rule_heads_wider h k c e hook con le lf p = record {
  hook_declared = if_some (λ (x : HookId). x.0 < h) (λ (x : HookId). x.0 < k) hook (λ (x : HookId) (q : x.0 < h). omega (arith, q, le)) p.hook_declared;
  con_declared = if_some (λ (x : ConId). x.0 < c) (λ (x : ConId). x.0 < e) con (λ (x : ConId) (q : x.0 < c). omega (arith, q, lf)) p.con_declared;
}

head_wider : (h k : ℕ) → h ≤ k → (first : BoneHead) → HeadFits h first → HeadFits k first
head_wider h k le (head.Filter filter) p = tt
head_wider h k le (head.Hook hook) p = omega (arith, p, le)

pub variables_wider : (h k v w : ℕ) (terms inputs args listed : List Var) (target : Target) (opened : Option BoneHead) → h ≤ k → v ≤ w → w ≤ 64 →
    Variables h v terms inputs args listed target opened → Variables k w terms inputs args listed target opened
variables_wider h k v w terms inputs args listed target opened le more few p = record {
  few = few;
  terms_below = below_wider v w more terms p.terms_below;
  inputs_below = below_wider v w more inputs p.inputs_below;
  args_below = below_wider v w more args p.args_below;
  listed_below = below_wider v w more listed p.listed_below;
  target_below = target_wider v w more target p.target_below;
  opened_fits = if_some (HeadFits h) (HeadFits k) opened (head_wider h k le) p.opened_fits;
}

one_wider : (h k v w level : ℕ) (one : OpenBone) → h ≤ k → v ≤ w → OneFits h v level one → OneFits k w level one
one_wider h k v w level one le more p = record {
  before_fits = bones_wider le more (suc level) (omega arith) p.before_fits;
  inside_fits = branches_wider le more level (omega arith) p.inside_fits;
  counts_are = p.counts_are;
}

unclosed_wider : (h k v w : ℕ) (unclosed : List OpenBone) → h ≤ k → v ≤ w → UnclosedFit h v unclosed → UnclosedFit k w unclosed
unclosed_wider h k v w [] le more p = tt
unclosed_wider h k v w (one ∷ outer) le more p = (one_wider h k v w (7 - length outer) one le more p.0, unclosed_wider h k v w outer le more p.1)

pub bodies_wider : (h k v w : ℕ) (bones : List Bone) (unclosed : List OpenBone) → h ≤ k → v ≤ w → Bodies h v bones unclosed → Bodies k w bones unclosed
bodies_wider h k v w bones unclosed le more p = record {
  nesting = p.nesting;
  bones_fit = bones_wider le more (8 - length unclosed) (omega arith) p.bones_fit;
  unclosed_fit = unclosed_wider h k v w unclosed le more p.unclosed_fit;
}

-- one bone more, which is no branch bone
pub bodies_one : (h v : ℕ) (bones : List Bone) (unclosed : List OpenBone) (first : BoneHead) (args : List Var) (target : Target) (outs : List Var) → Bodies h v bones unclosed →
    Variables h v [] [] args outs target (Some first) → Bodies h v (bones ++ bone_of first args target outs ∷ []) unclosed
bodies_one h v bones unclosed (head.Filter filter) args target outs p q = record {
  nesting = p.nesting;
  bones_fit = bones_both _ p.bones_fit (filter_bone q.args_below q.listed_below no_bone);
  unclosed_fit = p.unclosed_fit;
}
bodies_one h v bones unclosed (head.Hook hook) args target outs p q = record {
  nesting = p.nesting;
  bones_fit = bones_both _ p.bones_fit (hook_bone q.opened_fits q.args_below q.target_below q.listed_below no_bone);
  unclosed_fit = p.unclosed_fit;
}

-- a branch bone begins, a branch ends, a branch bone ends
pub bodies_branches : (h v : ℕ) (bones : List Bone) (unclosed : List OpenBone) → length unclosed < 8 → Bodies h v bones unclosed →
    Bodies h v [] (record { before = bones; counts = []; inside = [] } ∷ unclosed)
bodies_branches h v bones unclosed few p =
    let level : 8 - length unclosed ≡ suc (7 - length unclosed) = omega (arith, few) in
    let P : ℕ → Type 0 = λ n. BonesFit h v n bones in
    record {
      nesting = few;
      bones_fit = no_bone;
      unclosed_fit = (record { before_fits = subst P level p.bones_fit; inside_fits = no_branch; counts_are = refl }, p.unclosed_fit);
    }

pub bodies_branch : (h v : ℕ) (bones : List Bone) (one : OpenBone) (outer : List OpenBone) → Bodies h v bones (one ∷ outer) →
    Bodies h v [] (record { before = one.before; counts = one.counts ++ length bones ∷ []; inside = one.inside ++ bones } ∷ outer)
bodies_branch h v bones one outer p =
    let first = p.unclosed_fit.0 in
    let level : 8 - suc (length outer) ≡ 7 - length outer = omega arith in
    let P : ℕ → Type 0 = λ n. BonesFit h v n bones in
    record {
      nesting = p.nesting;
      bones_fit = no_bone;
      unclosed_fit = (
        record {
          before_fits = first.before_fits;
          inside_fits = branches_more bones first.inside_fits first.counts_are (subst P level p.bones_fit);
          counts_are = sum_by-append (λ (n : ℕ). n) one.counts (length bones ∷ []) ∙ omega (arith, first.counts_are, length-append one.inside bones);
        },
        p.unclosed_fit.1,
      );
    }

pub bodies_ended : (h v : ℕ) (bones : List Bone) (one : OpenBone) (outer : List OpenBone) (exports : List Var) → 2 ≤ length one.counts → AreBelow v exports → Bodies h v bones (one ∷ outer) →
    Bodies h v (one.before ++ Either one.counts exports ∷ one.inside) outer
bodies_ended h v bones one outer exports two below p =
    let first = p.unclosed_fit.0 in
    let level : suc (7 - length outer) ≡ 8 - length outer = omega (arith, p.nesting) in
    let P : ℕ → Type 0 = λ n. BonesFit h v n (one.before ++ Either one.counts exports ∷ one.inside) in
    record {
      nesting = omega (arith, p.nesting);
      bones_fit = subst P level (with_branch_bone exports first.before_fits two first.counts_are below first.inside_fits);
      unclosed_fit = p.unclosed_fit.1;
    }

-- the parts of one rule more have their marks
pub placed_more : (marks : List (List ℕ)) (rules : List Rule) (last : List ℕ) (rule : Rule) → RulesPlaced marks rules → length rule.bones + 2 ≤ length last →
    RulesPlaced (marks ++ last ∷ []) (rules ++ rule ∷ [])
placed_more [] [] last rule p q = (q, tt)
placed_more [] (r ∷ rules) last rule p q = absurd p
placed_more (m ∷ marks) [] last rule p q = absurd p
placed_more (m ∷ marks) (r ∷ rules) last rule p q = (p.0, placed_more marks rules last rule p.1 q)
