-- In a well-sorted definition there is a rule for each hook and each constructor of its sort.
use Rattle.std.proofs.Common.{◌≡◌, ℕ, zero, suc, Bool, true, false, ◌&&◌, List, [], ◌∷◌, Option, Some, None, refl, cond, eqb, slice_get}
use Rattle.std.specs.Prelude.{find, IsSome}
use Rattle.std.proofs.lemmas.Bool.{eqb-true}
use Rattle.std.proofs.lemmas.Option.{slice_get_within, get_or_from_slice_get}
use Rattle.sk_def.specs.declared.def.Def.{Def}
use Rattle.sk_def.specs.Rules.{is_rule_for, rule_of}
use Rattle.sk_sort.specs.Definition.{DefinitionIsSorted, HasRules}

-- the first element that passes stands in the list
first_found : {A : Type 0} (p : A → Bool) (xs : List A) (x : A) → find p xs ≡ Some x → (k : ℕ) × (slice_get xs k ≡ Some x) × (p x ≡ true)
first_found p [] x h = cc
first_found p (y ∷ ys) x h =
    elim (p y) as (λ b. p y ≡ b → cond b (Some y) (find p ys) ≡ Some x → (k : ℕ) × (slice_get (y ∷ ys) k ≡ Some x) × (p x ≡ true)) [
      | true ↦ (λ e k. let same : y ≡ x = cc in (zero, k, rw (← same) e))
      | false ↦ (λ e k. let r = first_found p ys x k in (suc r.0, r.1, r.2))
    ] refl h

there : {A : Type 0} (o : Option A) → IsSome o → (x : A) × (o ≡ Some x)
there (Some x) h = (x, refl)
there None h = cc

two : (a b : Bool) → (a && b) ≡ true → (a ≡ true) × (b ≡ true)
two true b h = (refl, h)
two false b h = cc

pub rule_found : (d : Def) → DefinitionIsSorted d → HasRules d
rule_found d is_sorted hook con h c e f s =
    let some = there (rule_of d hook con) (is_sorted.well_sorted.complete hook.0 con.0 h c e f s) in
    let found = first_found (is_rule_for hook con) d.rules some.0 some.1 in
    let ids = two (eqb some.0.hook.0 hook.0) (eqb some.0.con.0 con.0) found.2 in
    let within = slice_get_within d.rules found.0 some.0 found.1 in
    let same = get_or_from_slice_get d.rules found.0 some.0 some.0 found.1 in
    record {
      rule = some.0;
      is_first = some.1;
      of_hook = eqb-true some.0.hook.0 hook.0 ids.0;
      of_con = eqb-true some.0.con.0 con.0 ids.1;
      fits = rw same at (is_sorted.well_sorted.fits.rules_fit found.0 some.0 within);
      sorted = rw same at (is_sorted.rules_sorted found.0 some.0 within);
    }
