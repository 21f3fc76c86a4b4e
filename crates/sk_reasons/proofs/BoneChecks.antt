-- The checks of a bone pass exactly where it is well sorted by the sorts before it and at the ends of its branches.
use Rattle.std.proofs.Common.{◌≡◌, ℕ, zero, suc, ◌<◌, Bool, true, false, not, List, [], ◌∷◌, ◌++◌, length, map, Option, Some, None, refl, sym, subst, ◌∙◌, ap, arith, slice_get, eqb}
use Rattle.std.specs.Prelude.{Contains, All}
use Rattle.std.specs.Option.{is_none, option_map_or}
use Rattle.std.specs.List.{flat_map}
use Rattle.std.proofs.lemmas.Bool.{eqb-true, eq-eqb}
use Rattle.std.proofs.lemmas.List.{length-map}
use Rattle.std.proofs.lemmas.List.Elements.{All-head, All-tail}
use Rattle.sk_base.specs.declared.flow.FlowSort.{FlowSort}
use Rattle.sk_def.specs.declared.def.Def.{Def}
use Rattle.sk_def.specs.declared.def.Hook.{Hook}
use Rattle.sk_def.specs.declared.ids.Var.{Var}
use Rattle.sk_def.specs.declared.ids.SortId.{SortId}
use Rattle.sk_def.specs.declared.ids.HookId.{HookId}
use Rattle.sk_def.specs.declared.bone.Target.{Target}
use Rattle.sk_def.specs.declared.bone.Target.TheVariants.{Own, Sub}
use Rattle.sk_def.specs.declared.filter.Filter.{Filter}
use Rattle.sk_def.specs.declared.sorts.VarSort.{VarSort}
use Rattle.sk_def.specs.declared.sorts.VarSort.TheVariants.{Number, Name, Term, Flow}
use Rattle.sk_def.specs.Signatures.{parameters, results}
use Rattle.sk_def.specs.Same.{same_flow, same_sort}
use Rattle.sk_def.specs.Sorts.{Sorts, sort_of, target_sort, HaveSorts, AreNew, MergePasses}
use Rattle.sk_sort.specs.declared.error.SortError.TheVariants.{WrongSort, Redefined}
use Rattle.sk_sort.specs.Checks.{Check, check, first_error, sort_checks, argument_checks, is_among, new_checks, count_check, filter_checks, hook_checks, export_check, export_checks, merge_checks}
use Rattle.sk_sort.specs.Interp.{call_checks}
use Rattle.sk_sort.proofs.FirstError.{first_error_passes}
use Rattle.sk_reasons.specs.Defined.{HasSort}
use Rattle.sk_reasons.specs.BonesSorted.{AreDefined, AreFree, TargetHas}
use Rattle.sk_reasons.proofs.SortsGiven.{contains_at, place_of, found, mapped, mapped_from, some_same, none_some, new_others}

-- From passing checks.

-- variables with these sorts are defined with them
pub sorts_defined : (g : Sorts) (vs : List Var) (ss : List VarSort) → HaveSorts g vs ss → AreDefined (HasSort g) vs ss
sorts_defined g vs ss h = record {
  counted = omega (arith, length-map vs (sort_of g), length-map ss (λ (s : VarSort). Some s), ap length h);
  each = λ i v s p q.
      let a = mapped (sort_of g) vs i v p in
      let b = mapped (λ (s : VarSort). Some s) ss i s q in
      some_same (sym a ∙ ap (λ (xs : List (Option VarSort)). slice_get xs i) h ∙ b);
}

new_different : (g : Sorts) (vs : List Var) → AreNew g vs → (i j : ℕ) (v : Var) → slice_get vs i ≡ Some v → slice_get vs j ≡ Some v → i ≡ j
new_different g [] n i j v p q = absurd (none_some p)
new_different g (w ∷ vs) n zero zero v p q = refl
new_different g (w ∷ vs) n zero (suc j) v p q =
    let e : w ≡ v = some_same p in
    absurd (n.1 (subst (λ x. Contains vs x) (sym e) (contains_at vs j v q)))
new_different g (w ∷ vs) n (suc i) zero v p q =
    let e : w ≡ v = some_same q in
    absurd (n.1 (subst (λ x. Contains vs x) (sym e) (contains_at vs i v p)))
new_different g (w ∷ vs) n (suc i) (suc j) v p q = ap suc (new_different g vs n.2 i j v p q)

-- new variables are free
pub new_free : (g : Sorts) (vs : List Var) → AreNew g vs → AreFree (HasSort g) vs
new_free g vs n = record {
  undefined = λ v s c h. new_others g vs v s n h c;
  different = new_different g vs n;
}

-- To passing checks.

flow_same : (s : FlowSort) → same_flow s s ≡ true
flow_same FlowSort.Int = refl
flow_same FlowSort.Bool = refl
flow_same FlowSort.Val = refl
flow_same FlowSort.Store = refl

sort_same : (s : VarSort) → same_sort s s ≡ true
sort_same Number = refl
sort_same Name = refl
sort_same (Term a) = eq-eqb a.0 a.0 refl
sort_same (Flow a) = flow_same a

-- checks one after another
both : (xs ys : List Check) → first_error xs ≡ None → first_error ys ≡ None → first_error (xs ++ ys) ≡ None
both xs ys p q = first_error_passes xs ys p ∙ q

-- a check that passes, before others
pub one : (c : Check) (cs : List Check) → c.passes ≡ true → first_error cs ≡ None → first_error (c ∷ cs) ≡ None
one c cs p q = rw p q

-- a number that is right, before other checks
pub counted : (n m : ℕ) (cs : List Check) → n ≡ m → first_error cs ≡ None → first_error (count_check n m ∷ cs) ≡ None
counted n m cs e q = one (count_check n m) cs (eq-eqb n m e) q

sort_checked : (found : Option VarSort) (s : VarSort) → found ≡ Some s → first_error (sort_checks found (Some s)) ≡ None
sort_checked found s e = rw (e, sort_same s) refl

-- arguments that are defined pass
pub arguments_checked : (g : Sorts) (vs : List Var) (ss : List VarSort) → length vs ≡ length ss →
    ((i : ℕ) (v : Var) (s : VarSort) → slice_get vs i ≡ Some v → slice_get ss i ≡ Some s → sort_of g v ≡ Some s) →
    first_error (argument_checks g vs ss) ≡ None
arguments_checked g [] ss n h = refl
arguments_checked g (v ∷ vs) [] n h = refl
arguments_checked g (v ∷ vs) (s ∷ ss) n h =
    both (sort_checks (sort_of g v) (Some s)) (argument_checks g vs ss) (sort_checked (sort_of g v) s (h 0 v s refl refl))
    (arguments_checked g vs ss (omega (arith, n)) (λ i. h (suc i)))

among_at : (v : Var) (vs : List Var) → is_among v vs ≡ true → (j : ℕ) × (slice_get vs j ≡ Some v)
among_at v [] h = cc
among_at v (w ∷ vs) h = by (eqb w.0 v.0) refl (among_at v vs)
  where
    by : (b : Bool) → eqb w.0 v.0 ≡ b → (is_among v vs ≡ true → (j : ℕ) × (slice_get vs j ≡ Some v)) → (j : ℕ) × (slice_get (w ∷ vs) j ≡ Some v)
    by true e later = let f : w.0 ≡ v.0 = eqb-true w.0 v.0 e in (0, λ i. Some (record { 0 = f i }))
    by false e later = let r = later (rw e at h) in (suc r.0, r.1)

-- free variables pass
pub free_checked : (g : Sorts) (vs : List Var) → AreFree (HasSort g) vs → first_error (new_checks g vs) ≡ None
free_checked g [] n = refl
free_checked g (v ∷ vs) n =
    one (check Redefined (is_none (sort_of g v))) (check Redefined (not (is_among v vs)) ∷ new_checks g vs) (unset (sort_of g v) refl)
    (one (check Redefined (not (is_among v vs))) (new_checks g vs) (apart (is_among v vs) refl)
    (free_checked g vs (record {
      undefined = λ w s c h. n.undefined w s (suc c.0, omega (arith, c.1), c.2) h;
      different = λ i j w p q. let e = n.different (suc i) (suc j) w p q in omega (arith, e);
    })))
  where
    unset : (o : Option VarSort) → sort_of g v ≡ o → is_none o ≡ true
    unset None e = refl
    unset (Some s) e = absurd (n.undefined v s (0, omega arith, refl) e)

    apart : (b : Bool) → is_among v vs ≡ b → not b ≡ true
    apart false e = refl
    apart true e = let r = among_at v vs e in absurd (omega (arith, n.different 0 (suc r.0) v refl r.1))

-- the checks of a filter bone
pub filter_checked : (g : Sorts) (filter : Filter) (args outs : List Var) → AreDefined (HasSort g) args (parameters filter) → length outs ≡ length (results filter) → AreFree (HasSort g) outs →
    first_error (filter_checks g filter args outs) ≡ None
filter_checked g filter args outs a n f =
    let rest = argument_checks g args (parameters filter) ++ new_checks g outs in
    counted (length args) (length (parameters filter)) (count_check (length outs) (length (results filter)) ∷ rest) a.counted
    (counted (length outs) (length (results filter)) rest n
    (both (argument_checks g args (parameters filter)) (new_checks g outs) (arguments_checked g args (parameters filter) a.counted a.each) (free_checked g outs f)))

target_checked : (own : SortId) (g : Sorts) (sort : SortId) (target : Target) → TargetHas (HasSort g) own sort target → target_sort own g target ≡ Some (Term sort)
target_checked own g sort Own h = ap (λ (x : SortId). Some (Term x)) h
target_checked own g sort (Sub v) h = h

hook_checked : (own : SortId) (g : Sorts) (hook : Hook) (target : Target) (args outs : List Var) → AreDefined (HasSort g) args (map Flow hook.inputs) →
    TargetHas (HasSort g) own hook.sort target → length outs ≡ length hook.outputs → AreFree (HasSort g) outs → first_error (hook_checks own g hook target args outs) ≡ None
hook_checked own g hook target args outs a t n f =
    let inputs = argument_checks g args (map Flow hook.inputs) in
    let terms = sort_checks (target_sort own g target) (Some (Term hook.sort)) in
    let last = count_check (length outs) (length hook.outputs) ∷ new_checks g outs in
    both (count_check (length args) (length hook.inputs) ∷ inputs ++ terms) last
    (both (count_check (length args) (length hook.inputs) ∷ inputs) terms
    (counted (length args) (length hook.inputs) inputs (a.counted ∙ length-map hook.inputs Flow) (arguments_checked g args (map Flow hook.inputs) a.counted a.each))
    (sort_checked (target_sort own g target) (Term hook.sort) (target_checked own g hook.sort target t)))
    (counted (length outs) (length hook.outputs) (new_checks g outs) n (free_checked g outs f))

-- the checks of a hook bone
pub call_checked : (d : Def) (own : SortId) (g : Sorts) (id : HookId) (hook : Hook) (target : Target) (args outs : List Var) → slice_get d.hooks id.0 ≡ Some hook →
    AreDefined (HasSort g) args (map Flow hook.inputs) → TargetHas (HasSort g) own hook.sort target → length outs ≡ length hook.outputs → AreFree (HasSort g) outs →
    first_error (call_checks d own g id target args outs) ≡ None
call_checked d own g id hook target args outs e a t n f =
    let P : Option Hook → Type 0 = λ o. first_error (option_map_or (λ (h : Hook). hook_checks own g h target args outs) o (check WrongSort false ∷ [])) ≡ None in
    subst P (sym e) (hook_checked own g hook target args outs a t n f)

-- an export has one sort at the end of each branch
abbrev HasOne : List Sorts → Var → Type 0
HasOne ends v = (s : VarSort) × All (λ e. HasSort e v s) ends

exports_checked : (first end : Sorts) (exports : List Var) → ((v : Var) → Contains exports v → (s : VarSort) × HasSort first v s × HasSort end v s) →
    first_error (export_checks first exports end) ≡ None
exports_checked first end [] h = refl
exports_checked first end (v ∷ vs) h =
    let r = h v (0, omega arith, refl) in
    both (export_check (sort_of first v) (sort_of end v)) (export_checks first vs end) (rw (r.1, r.2, sort_same r.0) refl)
    (exports_checked first end vs (λ w c. h w (suc c.0, omega (arith, c.1), c.2)))

ends_checked : (first : Sorts) (exports : List Var) (ends : List Sorts) → ((v : Var) → Contains exports v → (s : VarSort) × HasSort first v s × All (λ e. HasSort e v s) ends) →
    first_error (flat_map (export_checks first exports) ends) ≡ None
ends_checked first exports [] h = refl
ends_checked first exports (e ∷ es) h =
    both (export_checks first exports e) (flat_map (export_checks first exports) es)
    (exports_checked first e exports (λ v c. let r = h v c in (r.0, r.1, All-head (λ x. HasSort x v r.0) e es r.2)))
    (ends_checked first exports es (λ v c. let r = h v c in (r.0, r.1, All-tail (λ x. HasSort x v r.0) e es r.2)))

-- the checks of a branch bone
pub merge_checked : (g : Sorts) (exports : List Var) (ends : List Sorts) → AreFree (HasSort g) exports → ((v : Var) → Contains exports v → HasOne ends v) →
    first_error (merge_checks g exports ends) ≡ None
merge_checked g exports [] f h = free_checked g exports f
merge_checked g exports (first ∷ ends) f h =
    both (new_checks g exports) (flat_map (export_checks first exports) (first ∷ ends)) (free_checked g exports f)
    (ends_checked first exports (first ∷ ends) (λ v c. let r = h v c in (r.0, All-head (λ x. HasSort x v r.0) first ends r.1, r.1)))

-- the same of a branch bone whose checks pass
pub merge_one : (g : Sorts) (exports : List Var) (ends : List Sorts) → 0 < length ends → MergePasses g exports ends → (v : Var) → Contains exports v → HasOne ends v
merge_one g exports [] some passes v c = absurd (omega (arith, some))
merge_one g exports (first ∷ ends) some passes v c =
    let place = place_of exports v c in
    let at_place = λ (e : Sorts) (h : HaveSorts e exports passes.exported).
    ap (λ (xs : List (Option VarSort)). slice_get xs place.0) (sym h) ∙ mapped (sort_of e) exports place.0 v place.2 in
    let r = mapped_from (λ (s : VarSort). Some s) passes.exported place.0 (sort_of first v)
    (at_place first (All-head (λ e. HaveSorts e exports passes.exported) first ends passes.ends_agree)) in
    let each = mapped (λ (s : VarSort). Some s) passes.exported place.0 r.0 r.1 in
    (r.0, λ k e w. some_same (sym (at_place _ (passes.ends_agree k e w)) ∙ each))
