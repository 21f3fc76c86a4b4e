-- The sorts after the header are those that it gives, and its checks pass exactly where its variables are different.
use Rattle.std.proofs.Common.{◌≡◌, ℕ, zero, suc, ◌+◌, ◌<◌, Bool, true, false, not, List, [], ◌∷◌, ◌++◌, length, map, Option, Some, None, refl, sym, ◌∙◌, ap, arith, inl, inr, slice_get, eqb, ◌||◌, ◌&&◌}
use Rattle.std.specs.Prelude.{◌⊎◌, Contains}
use Rattle.std.specs.List.{list_any}
use Rattle.std.proofs.lemmas.Bool.{eqb-true, eq-eqb}
use Rattle.std.proofs.lemmas.List.{length-map}
use Rattle.std.proofs.lemmas.Option.{slice_get_within}
use Rattle.sk_base.specs.declared.flow.FlowSort.{FlowSort}
use Rattle.sk_def.specs.declared.def.Rule.{Rule}
use Rattle.sk_def.specs.declared.def.Hook.{Hook}
use Rattle.sk_def.specs.declared.def.Con.{Con}
use Rattle.sk_base.specs.declared.ident.Ident.{Ident}
use Rattle.sk_def.specs.declared.ids.Var.{Var}
use Rattle.sk_def.specs.declared.ids.SortId.{SortId}
use Rattle.sk_def.specs.declared.ids.HookId.{HookId}
use Rattle.sk_def.specs.declared.ids.ConId.{ConId}
use Rattle.sk_def.specs.declared.sorts.ArgSort.{ArgSort}
use Rattle.sk_def.specs.declared.sorts.VarSort.{VarSort}
use Rattle.sk_def.specs.declared.sorts.VarSort.TheVariants.{Flow}
use Rattle.sk_def.specs.Sorts.{sort_of, define}
use Rattle.sk_def.specs.Layout.{AreBelow}
use Rattle.sk_def.specs.Rules.{is_rule_for}
use Rattle.sk_walk.proofs.Checks.{length-define}
use Rattle.sk_sort.specs.declared.error.SortError.TheVariants.{WrongSort, DuplicateRule}
use Rattle.sk_sort.specs.Checks.{check, first_error, count_check, new_checks}
use Rattle.sk_sort.specs.Rules.{arg_sort, nothing, header_sorts, header_checks}
use Rattle.sk_sort.proofs.Passes.{one_passes, count_passes, new_pass}
use Rattle.sk_reasons.specs.Defined.{HasSort}
use Rattle.sk_reasons.specs.Good.{HeaderGives}
use Rattle.sk_reasons.proofs.SortsGiven.{place_of, mapped, mapped_from, some_same, none_some, AreApart, define_only, define_other, define_at, below_at}
use Rattle.sk_reasons.proofs.BoneChecks.{new_free, free_checked, one, counted}

-- Lists whose variables are different.

-- none stands twice
abbrev pub AreDifferent : List Var → Type 0
AreDifferent vs = (i j : ℕ) (v : Var) → slice_get vs i ≡ Some v → slice_get vs j ≡ Some v → i ≡ j

front_at : {A : Type 0} (xs ys : List A) (i : ℕ) (x : A) → slice_get xs i ≡ Some x → slice_get (xs ++ ys) i ≡ Some x
front_at [] ys i x h = absurd (none_some h)
front_at (y ∷ xs) ys zero x h = h
front_at (y ∷ xs) ys (suc i) x h = front_at xs ys i x h

back_at : {A : Type 0} (xs ys : List A) (i : ℕ) (x : A) → slice_get ys i ≡ Some x → slice_get (xs ++ ys) (length xs + i) ≡ Some x
back_at [] ys i x h = let e : 0 + i ≡ i = omega arith in rw e h
back_at (y ∷ xs) ys i x h = let e : suc (length xs) + i ≡ suc (length xs + i) = omega arith in rw e (back_at xs ys i x h)

apart : (vs : List Var) → AreDifferent vs → AreApart vs
apart [] d = tt
apart (v ∷ vs) d = (
  (λ c. let p = place_of vs v c in omega (arith, d 0 (suc p.0) v refl p.2)),
  apart vs (λ i j w p q. let e = d (suc i) (suc j) w p q in omega (arith, e)),
)

front_apart : (xs ys : List Var) → AreDifferent (xs ++ ys) → AreApart xs
front_apart xs ys d = apart xs (λ i j v p q. d i j v (front_at xs ys i v p) (front_at xs ys j v q))

back_apart : (xs ys : List Var) → AreDifferent (xs ++ ys) → AreApart ys
back_apart xs ys d = apart ys (λ i j v p q. let e = d (length xs + i) (length xs + j) v (back_at xs ys i v p) (back_at xs ys j v q) in omega (arith, e))

not_in_back : (xs ys : List Var) → AreDifferent (xs ++ ys) → (i : ℕ) (v : Var) → slice_get xs i ≡ Some v → i < length xs → ¬ Contains ys v
not_in_back xs ys d i v h w c =
    let p = place_of ys v c in
    omega (arith, w, d i (length xs + p.0) v (front_at xs ys i v h) (back_at xs ys p.0 v p.2))

-- The sorts after the header.

unset : (vars : List Ident) (v : Var) → sort_of (map (λ x. None) vars) v ≡ None
unset vars v = by vars v.0
  where
    by : (xs : List Ident) (n : ℕ) → sort_of (map (λ x. None) xs) (record { 0 = n }) ≡ None
    by [] n = refl
    by (x ∷ xs) zero = refl
    by (x ∷ xs) (suc n) = by xs n

module _ (rule : Rule) (hook : Hook) (con : Con) where
  abbrev arguments : List (Option VarSort)
  arguments = map (λ (a : ArgSort). Some (arg_sort a)) con.args

  abbrev inputs : List (Option VarSort)
  inputs = map (λ (s : FlowSort). Some (Flow s)) hook.inputs

  -- what has a sort after the header, the header gives it
  pub header_only : (v : Var) (s : VarSort) → HasSort (header_sorts rule hook con) v s → HeaderGives rule hook con v s
  header_only v s h = by (define_only (define (nothing rule) rule.terms arguments) rule.inputs inputs v s h)
    where
      first : (sort_of (nothing rule) v ≡ Some s) ⊎ ((i : ℕ) × (slice_get rule.terms i ≡ Some v) × (slice_get (map (λ (a : ArgSort). Some (arg_sort a)) con.args) i ≡ Some (Some s))) →
          HeaderGives rule hook con v s
      first (inl k) = absurd (none_some (sym (unset rule.vars v) ∙ k))
      first (inr r) =
          let m = mapped_from (λ (a : ArgSort). Some (arg_sort a)) con.args r.0 (Some s) r.2 in
          inl (r.0, m.0, r.1, m.1, some_same m.2)

      by : (sort_of (define (nothing rule) rule.terms (map (λ (a : ArgSort). Some (arg_sort a)) con.args)) v ≡ Some s)
          ⊎ ((i : ℕ) × (slice_get rule.inputs i ≡ Some v) × (slice_get (map (λ (t : FlowSort). Some (Flow t)) hook.inputs) i ≡ Some (Some s))) → HeaderGives rule hook con v s
      by (inl k) = first (define_only (nothing rule) rule.terms (map (λ (a : ArgSort). Some (arg_sort a)) con.args) v s k)
      by (inr r) =
          let m = mapped_from (λ (t : FlowSort). Some (Flow t)) hook.inputs r.0 (Some s) r.2 in
          inr (r.0, m.0, r.1, m.1, some_same m.2)

  -- and where its variables are different, what the header gives is there
  pub header_all : AreDifferent (rule.terms ++ rule.inputs) → AreBelow (length rule.vars) rule.terms → AreBelow (length rule.vars) rule.inputs →
      (v : Var) (s : VarSort) → HeaderGives rule hook con v s → HasSort (header_sorts rule hook con) v s
  header_all d below_terms below_inputs v s (inl r) =
      let g = define (nothing rule) rule.terms arguments in
      let size : length (nothing rule) ≡ length rule.vars = length-map rule.vars (λ x. None) in
      let below = below_at (length rule.vars) rule.terms r.0 v below_terms r.2 in
      let set = define_at (nothing rule) rule.terms arguments v (Some (arg_sort r.1)) r.0 (front_apart rule.terms rule.inputs d) (omega (arith, below, size)) r.2
      (mapped (λ (a : ArgSort). Some (arg_sort a)) con.args r.0 r.1 r.3) in
      define_other g rule.inputs inputs v (not_in_back rule.terms rule.inputs d r.0 v r.2 (slice_get_within rule.terms r.0 v r.2)) ∙ set ∙ ap Some r.4
  header_all d below_terms below_inputs v s (inr r) =
      let g = define (nothing rule) rule.terms arguments in
      let size : length g ≡ length rule.vars = length-define (nothing rule) rule.terms arguments ∙ length-map rule.vars (λ x. None) in
      let below = below_at (length rule.vars) rule.inputs r.0 v below_inputs r.2 in
      define_at g rule.inputs inputs v (Some (Flow r.1)) r.0 (back_apart rule.terms rule.inputs d) (omega (arith, below, size)) r.2
      (mapped (λ (t : FlowSort). Some (Flow t)) hook.inputs r.0 r.1 r.3) ∙ ap Some r.4

-- The header's checks.

-- no rule of the list is for the same hook and constructor
abbrev pub NoneLike : List Rule → Rule → Type 0
NoneLike earlier rule = (k : ℕ) (r : Rule) → slice_get earlier k ≡ Some r → r.hook ≡ rule.hook → r.con ≡ rule.con → ⊥

two : (a b : Bool) → (a && b) ≡ true → (a ≡ true) × (b ≡ true)
two true b h = (refl, h)
two false b h = cc

same_hook : (a b : HookId) → a.0 ≡ b.0 → a ≡ b
same_hook a b e = λ i. record { 0 = e i }

same_con : (a b : ConId) → a.0 ≡ b.0 → a ≡ b
same_con a b e = λ i. record { 0 = e i }

-- sorts of one number are one
pub same_sort_id : (a b : SortId) → a.0 ≡ b.0 → a ≡ b
same_sort_id a b e = λ i. record { 0 = e i }

-- a rule that passes the test has this hook and constructor
pub is_for : (hook : HookId) (con : ConId) (r : Rule) → is_rule_for hook con r ≡ true → (r.hook ≡ hook) × (r.con ≡ con)
is_for hook con r h =
    let p = two (eqb r.hook.0 hook.0) (eqb r.con.0 con.0) h in
    (same_hook r.hook hook (eqb-true r.hook.0 hook.0 p.0), same_con r.con con (eqb-true r.con.0 con.0 p.1))

-- a rule with this hook and constructor passes the test
pub for_is : (hook : HookId) (con : ConId) (r : Rule) → r.hook ≡ hook → r.con ≡ con → is_rule_for hook con r ≡ true
for_is hook con r p q = rw (eq-eqb r.hook.0 hook.0 (ap (λ (x : HookId). x.0) p), eq-eqb r.con.0 con.0 (ap (λ (x : ConId). x.0) q)) refl

any_at : (hook : HookId) (con : ConId) (rules : List Rule) → list_any (is_rule_for hook con) rules ≡ true → (k : ℕ) × (r : Rule) × (slice_get rules k ≡ Some r) × (is_rule_for hook con r ≡ true)
any_at hook con [] h = cc
any_at hook con (r ∷ rs) h = by (is_rule_for hook con r) refl (any_at hook con rs)
  where
    by : (b : Bool) → is_rule_for hook con r ≡ b →
        (list_any (is_rule_for hook con) rs ≡ true → (k : ℕ) × (x : Rule) × (slice_get rs k ≡ Some x) × (is_rule_for hook con x ≡ true)) →
        (k : ℕ) × (x : Rule) × (slice_get (r ∷ rs) k ≡ Some x) × (is_rule_for hook con x ≡ true)
    by true e later = (0, r, refl, e)
    by false e later = let q = later (rw e at h) in (suc q.0, q.1, q.2, q.3)

at_any : (hook : HookId) (con : ConId) (rules : List Rule) (k : ℕ) (r : Rule) → slice_get rules k ≡ Some r → is_rule_for hook con r ≡ true → list_any (is_rule_for hook con) rules ≡ true
at_any hook con [] k r h e = absurd (none_some h)
at_any hook con (x ∷ xs) zero r h e =
    let f : is_rule_for hook con x ≡ true = ap (λ (y : Rule). is_rule_for hook con y) (some_same h) ∙ e in
    rw f refl
at_any hook con (x ∷ xs) (suc k) r h e =
    let later = at_any hook con xs k r h e in
    elim (is_rule_for hook con x) as (λ b. (b || list_any (is_rule_for hook con) xs) ≡ true) [ true ↦ refl | false ↦ later ]

not_both : (b : Bool) → not b ≡ true → b ≡ true → ⊥
not_both true p q = cc
not_both false p q = cc

-- what the checks of a header say
pub record HeaderIsGood (earlier : List Rule) (rule : Rule) (hook : Hook) (con : Con) : Type 0 where
  pub first_one : NoneLike earlier rule
  pub sorts_agree : con.sort ≡ hook.sort
  pub terms_counted : length rule.terms ≡ length con.args
  pub inputs_counted : length rule.inputs ≡ length hook.inputs
  pub different : AreDifferent (rule.terms ++ rule.inputs)

-- where the checks of a header pass it is good
pub header_passes : (earlier : List Rule) (rule : Rule) (hook : Hook) (con : Con) → first_error (header_checks earlier rule hook con) ≡ None → HeaderIsGood earlier rule hook con
header_passes earlier rule hook con h =
    let new = new_checks (nothing rule) (rule.terms ++ rule.inputs) in
    let inputs_check = count_check (length rule.inputs) (length hook.inputs) in
    let terms_check = count_check (length rule.terms) (length con.args) in
    let sort_check = check WrongSort (eqb con.sort.0 hook.sort.0) in
    let a = one_passes (check DuplicateRule (not (list_any (is_rule_for rule.hook rule.con) earlier))) (sort_check ∷ terms_check ∷ inputs_check ∷ new) h in
    let b = one_passes sort_check (terms_check ∷ inputs_check ∷ new) a.1 in
    let c = count_passes (length rule.terms) (length con.args) (inputs_check ∷ new) b.1 in
    let e = count_passes (length rule.inputs) (length hook.inputs) new c.1 in
    record {
      first_one = λ k r is p q. not_both (list_any (is_rule_for rule.hook rule.con) earlier) a.0 (at_any rule.hook rule.con earlier k r is (for_is rule.hook rule.con r p q));
      sorts_agree = same_sort_id con.sort hook.sort (eqb-true con.sort.0 hook.sort.0 b.0);
      terms_counted = c.0;
      inputs_counted = e.0;
      different = (new_free (nothing rule) (rule.terms ++ rule.inputs) (new_pass (nothing rule) (rule.terms ++ rule.inputs) e.1)).different;
    }

-- the checks of a good header pass
pub header_checked : (earlier : List Rule) (rule : Rule) (hook : Hook) (con : Con) → HeaderIsGood earlier rule hook con → first_error (header_checks earlier rule hook con) ≡ None
header_checked earlier rule hook con good =
    let new = new_checks (nothing rule) (rule.terms ++ rule.inputs) in
    let inputs_check = count_check (length rule.inputs) (length hook.inputs) in
    let terms_check = count_check (length rule.terms) (length con.args) in
    let sort_check = check WrongSort (eqb con.sort.0 hook.sort.0) in
    one (check DuplicateRule (not (list_any (is_rule_for rule.hook rule.con) earlier))) (sort_check ∷ terms_check ∷ inputs_check ∷ new) (none_like (list_any (is_rule_for rule.hook rule.con) earlier) refl)
    (one sort_check (terms_check ∷ inputs_check ∷ new) (eq-eqb con.sort.0 hook.sort.0 (ap (λ (x : SortId). x.0) good.sorts_agree))
    (counted (length rule.terms) (length con.args) (inputs_check ∷ new) good.terms_counted
    (counted (length rule.inputs) (length hook.inputs) new good.inputs_counted
    (free_checked (nothing rule) (rule.terms ++ rule.inputs)
    (record { undefined = λ v s c k. none_some (sym (unset rule.vars v) ∙ k); different = good.different })))))
  where
    none_like : (b : Bool) → list_any (is_rule_for rule.hook rule.con) earlier ≡ b → not b ≡ true
    none_like false e = refl
    none_like true e =
        let r = any_at rule.hook rule.con earlier e in
        let f = is_for rule.hook rule.con r.1 r.3 in
        absurd (good.first_one r.0 r.1 r.2 f.0 f.1)
