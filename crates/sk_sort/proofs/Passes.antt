-- What it means that all checks of a bone pass.
use Rattle.std.proofs.Common.{◌≡◌, ℕ, zero, suc, Bool, true, false, not, List, [], ◌∷◌, ◌++◌, map, length, Option, Some, None, refl, sym, ap, ◌∙◌, cond, slice_get, arith, eqb, ◌||◌}
use Rattle.std.specs.Prelude.{Contains, All}
use Rattle.std.specs.Option.{is_some, is_none, option_map_or, unwrap_or}
use Rattle.std.specs.List.{flat_map}
use Rattle.std.proofs.lemmas.Bool.{eqb-true, eq-eqb}
use Rattle.std.proofs.lemmas.List.{length-map}
use Rattle.sk_base.specs.declared.flow.FlowSort.{FlowSort}
use Rattle.sk_def.specs.declared.def.Def.{Def}
use Rattle.sk_def.specs.declared.ids.SortId.{SortId}
use Rattle.sk_def.specs.declared.ids.HookId.{HookId}
use Rattle.sk_def.specs.declared.def.Hook.{Hook}
use Rattle.sk_def.specs.declared.filter.Filter.{Filter}
use Rattle.sk_def.specs.declared.bone.Target.{Target}
use Rattle.sk_def.specs.declared.ids.Var.{Var}
use Rattle.sk_def.specs.declared.sorts.VarSort.{VarSort}
use Rattle.sk_def.specs.declared.sorts.VarSort.TheVariants.{Number, Name, Term, Flow}
use Rattle.sk_def.specs.Signatures.{parameters, results}
use Rattle.sk_def.specs.Sorts.{Sorts, sort_of, target_sort, HaveSorts, AreNew, FilterPasses, HookPasses, MergePasses}
use Rattle.sk_def.specs.Same.{same_flow, same_sort, are_same}
use Rattle.sk_sort.specs.declared.error.SortError.{SortError}
use Rattle.sk_sort.specs.declared.error.SortError.TheVariants.{WrongSort, Undefined, Redefined, BranchLacks}
use Rattle.sk_sort.specs.Checks.{Check, check, first_error, sort_checks, argument_checks, new_checks, is_among, count_check, filter_checks, hook_checks, export_check, export_checks, merge_checks}

fault_is_some : {e : SortError} → ◌≡◌ {A = Option SortError} (Some e) None → ⊥
fault_is_some k = cc

-- all of the first checks pass, and all of the others
pub both_pass : (xs ys : List Check) → first_error (xs ++ ys) ≡ None → (first_error xs ≡ None) × (first_error ys ≡ None)
both_pass [] ys h = (refl, h)
both_pass (c ∷ cs) ys h =
    elim c.passes as (λ b. cond b (first_error (cs ++ ys)) (Some c.why) ≡ None → (cond b (first_error cs) (Some c.why) ≡ None) × (first_error ys ≡ None))
    [ true ↦ (λ k. both_pass cs ys k) | false ↦ (λ k. absurd (fault_is_some k)) ] h

-- the first check passes, and all of the others
pub one_passes : (c : Check) (cs : List Check) → first_error (c ∷ cs) ≡ None → (c.passes ≡ true) × (first_error cs ≡ None)
one_passes c cs h =
    elim c.passes as (λ b. cond b (first_error cs) (Some c.why) ≡ None → (b ≡ true) × (first_error cs ≡ None))
    [ true ↦ (λ k. (refl, k)) | false ↦ (λ k. cc) ] h

pub count_passes : (n m : ℕ) (cs : List Check) → first_error (count_check n m ∷ cs) ≡ None → (n ≡ m) × (first_error cs ≡ None)
count_passes n m cs h = let p = one_passes (count_check n m) cs h in (eqb-true n m p.0, p.1)

same_flow-is : (a b : FlowSort) → same_flow a b ≡ true → a ≡ b
same_flow-is FlowSort.Int FlowSort.Int h = refl
same_flow-is FlowSort.Bool FlowSort.Bool h = refl
same_flow-is FlowSort.Val FlowSort.Val h = refl
same_flow-is FlowSort.Store FlowSort.Store h = refl
same_flow-is FlowSort.Int FlowSort.Bool h = cc
same_flow-is FlowSort.Int FlowSort.Val h = cc
same_flow-is FlowSort.Int FlowSort.Store h = cc
same_flow-is FlowSort.Bool FlowSort.Int h = cc
same_flow-is FlowSort.Bool FlowSort.Val h = cc
same_flow-is FlowSort.Bool FlowSort.Store h = cc
same_flow-is FlowSort.Val FlowSort.Int h = cc
same_flow-is FlowSort.Val FlowSort.Bool h = cc
same_flow-is FlowSort.Val FlowSort.Store h = cc
same_flow-is FlowSort.Store FlowSort.Int h = cc
same_flow-is FlowSort.Store FlowSort.Bool h = cc
same_flow-is FlowSort.Store FlowSort.Val h = cc

same_sort-is : (a b : VarSort) → same_sort a b ≡ true → a ≡ b
same_sort-is Number Number h = refl
same_sort-is Name Name h = refl
same_sort-is (Term a) (Term b) h = let e : a.0 ≡ b.0 = eqb-true a.0 b.0 h in let f : a ≡ b = λ i. record { 0 = e i } in ap Term f
same_sort-is (Flow a) (Flow b) h = ap Flow (same_flow-is a b h)
same_sort-is Number Name h = cc
same_sort-is Number (Term b) h = cc
same_sort-is Number (Flow b) h = cc
same_sort-is Name Number h = cc
same_sort-is Name (Term b) h = cc
same_sort-is Name (Flow b) h = cc
same_sort-is (Term a) Number h = cc
same_sort-is (Term a) Name h = cc
same_sort-is (Term a) (Flow b) h = cc
same_sort-is (Flow a) Number h = cc
same_sort-is (Flow a) Name h = cc
same_sort-is (Flow a) (Term b) h = cc

are_same-is : (a b : Option VarSort) → are_same a b ≡ true → a ≡ b
are_same-is (Some a) (Some b) h = ap Some (same_sort-is a b h)
are_same-is (Some a) None h = cc
are_same-is None (Some b) h = cc
are_same-is None None h = refl

pub sort_passes : (found wanted : Option VarSort) → first_error (sort_checks found wanted) ≡ None → found ≡ wanted
sort_passes found wanted h =
    let p = one_passes (check Undefined (is_some found)) (check WrongSort (are_same found wanted) ∷ []) h in
    let q = one_passes (check WrongSort (are_same found wanted)) [] p.1 in
    are_same-is found wanted q.0

pub arguments_pass : (g : Sorts) (vs : List Var) (ss : List VarSort) → length vs ≡ length ss →
    first_error (argument_checks g vs ss) ≡ None → HaveSorts g vs ss
arguments_pass g [] [] n h = refl
arguments_pass g [] (s ∷ ss) n h = absurd (omega (arith, n))
arguments_pass g (v ∷ vs) [] n h = absurd (omega (arith, n))
arguments_pass g (v ∷ vs) (s ∷ ss) n h =
    let p = both_pass (sort_checks (sort_of g v) (Some s)) (argument_checks g vs ss) h in
    let e = sort_passes (sort_of g v) (Some s) p.0 in
    let r = arguments_pass g vs ss (omega (arith, n)) p.1 in
    rw (e, r) refl

among : (v : Var) (vs : List Var) → Contains vs v → is_among v vs ≡ true
among v [] (k, h, e) = absurd (omega (arith, h))
among v (w ∷ vs) (zero, h, e) = rw (eq-eqb w.0 v.0 (ap (λ (x : Var). x.0) e)) refl
among v (w ∷ vs) (suc k, h, e) =
    elim (eqb w.0 v.0) as (λ b. (b || is_among v vs) ≡ true) [ true ↦ refl | false ↦ among v vs (k, omega (arith, h), e) ]

none_is : (o : Option VarSort) → is_none o ≡ true → o ≡ None
none_is None h = refl
none_is (Some s) h = cc

absent : (b : Bool) → not b ≡ true → b ≡ true → ⊥
absent true h k = cc
absent false h k = cc

pub new_pass : (g : Sorts) (vs : List Var) → first_error (new_checks g vs) ≡ None → AreNew g vs
new_pass g [] h = tt
new_pass g (v ∷ vs) h =
    let p = one_passes (check Redefined (is_none (sort_of g v))) (check Redefined (not (is_among v vs)) ∷ new_checks g vs) h in
    let q = one_passes (check Redefined (not (is_among v vs))) (new_checks g vs) p.1 in
    (none_is (sort_of g v) p.0, (λ c. absent (is_among v vs) q.0 (among v vs c)), new_pass g vs q.1)

pub filter_passes : (g : Sorts) (filter : Filter) (args outs : List Var) →
    first_error (filter_checks g filter args outs) ≡ None → FilterPasses g filter args outs
filter_passes g filter args outs h =
    let rest = argument_checks g args (parameters filter) ++ new_checks g outs in
    let a = count_passes (length args) (length (parameters filter)) (count_check (length outs) (length (results filter)) ∷ rest) h in
    let b = count_passes (length outs) (length (results filter)) rest a.1 in
    let p = both_pass (argument_checks g args (parameters filter)) (new_checks g outs) b.1 in
    record {
      args_fit = arguments_pass g args (parameters filter) a.0 p.0;
      outs_counted = b.0;
      outs_new = new_pass g outs p.1;
    }

-- a filter bone defines as many outputs as the filter has results
pub filter_counts : (g : Sorts) (filter : Filter) (args outs : List Var) →
    None ≡ first_error (filter_checks g filter args outs) → length outs ≡ length (results filter)
filter_counts g filter args outs h = (filter_passes g filter args outs (sym h)).outs_counted

-- a hook bone calls as many outputs as the hook has
pub hook_passes : (d : Def) (own : SortId) (g : Sorts) (id : HookId) (hook : Hook) (args : List Var) (target : Target) (outs : List Var) →
    slice_get d.hooks id.0 ≡ Some hook → first_error (hook_checks own g hook target args outs) ≡ None → HookPasses d own g id args target outs
hook_passes d own g id hook args target outs e h =
    let p = both_pass (count_check (length args) (length hook.inputs) ∷ argument_checks g args (map Flow hook.inputs) ++ sort_checks (target_sort own g target) (Some (Term hook.sort)))
    (count_check (length outs) (length hook.outputs) ∷ new_checks g outs) h in
    let q = both_pass (count_check (length args) (length hook.inputs) ∷ argument_checks g args (map Flow hook.inputs)) (sort_checks (target_sort own g target) (Some (Term hook.sort))) p.0 in
    let a = count_passes (length args) (length hook.inputs) (argument_checks g args (map Flow hook.inputs)) q.0 in
    let b = count_passes (length outs) (length hook.outputs) (new_checks g outs) p.1 in
    record {
      hook = hook;
      declared = e;
      args_fit = arguments_pass g args (map Flow hook.inputs) (a.0 ∙ sym (length-map hook.inputs Flow)) a.1;
      target_fits = sort_passes (target_sort own g target) (Some (Term hook.sort)) q.1;
      outs_counted = b.0;
      outs_new = new_pass g outs b.1;
    }

pub hook_counts : (own : SortId) (g : Sorts) (hook : Hook) (args : List Var) (target : Target) (outs : List Var) →
    None ≡ first_error (hook_checks own g hook target args outs) → length outs ≡ length hook.outputs
hook_counts own g hook args target outs h =
    let p = both_pass (count_check (length args) (length hook.inputs) ∷ argument_checks g args (map Flow hook.inputs) ++ sort_checks (target_sort own g target) (Some (Term hook.sort)))
    (count_check (length outs) (length hook.outputs) ∷ new_checks g outs) (sym h) in
    (count_passes (length outs) (length hook.outputs) (new_checks g outs) p.1).0

defined_is : (a b : Option VarSort) → is_some a ≡ true → a ≡ b → a ≡ Some (unwrap_or b Number)
defined_is a None h e = cc
defined_is a (Some s) h e = e

export_pass : (first : Sorts) (exports : List Var) (end : Sorts) → first_error (export_checks first exports end) ≡ None →
    HaveSorts end exports (map (λ (v : Var). unwrap_or (sort_of first v) Number) exports)
export_pass first [] end h = refl
export_pass first (v ∷ vs) end h =
    let p = both_pass (export_check (sort_of first v) (sort_of end v)) (export_checks first vs end) h in
    let a = one_passes (check BranchLacks (is_some (sort_of end v))) (check WrongSort (are_same (sort_of end v) (sort_of first v)) ∷ []) p.0 in
    let b = one_passes (check WrongSort (are_same (sort_of end v) (sort_of first v))) [] a.1 in
    let e = are_same-is (sort_of end v) (sort_of first v) b.0 in
    let r = export_pass first vs end p.1 in
    rw (defined_is (sort_of end v) (sort_of first v) a.0 e, r) refl

all_of : (P : Sorts → Type 0) (e : Sorts) (es : List Sorts) → P e → All P es → All P (e ∷ es)
all_of P e es p ps zero d w = p
all_of P e es p ps (suc k) d w = ps k d (omega (arith, w))

ends_agree : (first : Sorts) (exports : List Var) (ends : List Sorts) → first_error (flat_map (export_checks first exports) ends) ≡ None →
    All (λ e. HaveSorts e exports (map (λ (v : Var). unwrap_or (sort_of first v) Number) exports)) ends
ends_agree first exports [] h = λ k d w. absurd (omega (arith, w))
ends_agree first exports (e ∷ es) h =
    let p = both_pass (export_checks first exports e) (flat_map (export_checks first exports) es) h in
    all_of (λ e. HaveSorts e exports (map (λ (v : Var). unwrap_or (sort_of first v) Number) exports)) e es (export_pass first exports e p.0) (ends_agree first exports es p.1)

pub merge_passes : (g : Sorts) (exports : List Var) (ends : List Sorts) → first_error (merge_checks g exports ends) ≡ None → MergePasses g exports ends
merge_passes g exports [] h = record { exports_new = new_pass g exports h; exported = []; ends_agree = λ k d w. absurd (omega (arith, w)) }
merge_passes g exports (first ∷ ends) h =
    let p = both_pass (new_checks g exports) (flat_map (export_checks first exports) (first ∷ ends)) h in
    record {
      exports_new = new_pass g exports p.0;
      exported = map (λ (v : Var). unwrap_or (sort_of first v) Number) exports;
      ends_agree = ends_agree first exports (first ∷ ends) p.1;
    }

pub call_passes : (d : Def) (own : SortId) (g : Sorts) (id : HookId) (target : Target) (args outs : List Var) (found : Option Hook) →
    slice_get d.hooks id.0 ≡ found →
    first_error (option_map_or (λ (hook : Hook). hook_checks own g hook target args outs) found (check WrongSort false ∷ [])) ≡ None →
    HookPasses d own g id args target outs
call_passes d own g id target args outs (Some hook) e h = hook_passes d own g id hook args target outs e h
call_passes d own g id target args outs None e h = cc
