-- The first error of checks that stand one after another.
use Rattle.std.proofs.Common.{◌≡◌, ℕ, suc, not, ◌+◌, ◌<◌, true, false, List, [], ◌∷◌, ◌++◌, drop, length, Some, None, Option, refl, sym, ap, ◌∙◌, cond, get_or, add-one}
use Rattle.std.proofs.Math.Seq.{drop-cons}
use Rattle.std.specs.Option.{option_or, is_some, is_none}
use Rattle.std.specs.List.{flat_map}
use Rattle.sk_def.specs.declared.ids.Var.{Var}
use Rattle.sk_def.specs.Sorts.{Sorts, sort_of}
use Rattle.sk_sort.specs.declared.error.SortError.{SortError}
use Rattle.sk_sort.specs.declared.error.SortError.TheVariants.{Redefined}
use Rattle.sk_sort.specs.Checks.{Check, first_error, new_checks, export_checks, check, is_among}

-- the first checks fail
pub first_error_fails : (xs ys : List Check) (e : SortError) → first_error xs ≡ Some e → first_error (xs ++ ys) ≡ Some e
first_error_fails [] ys e h = cc
first_error_fails (c ∷ cs) ys e h =
    elim c.passes as (λ b. cond b (first_error cs) (Some c.why) ≡ Some e → cond b (first_error (cs ++ ys)) (Some c.why) ≡ Some e)
    [ true ↦ (λ k. first_error_fails cs ys e k) | false ↦ (λ k. k) ] h

-- the first checks pass
pub first_error_passes : (xs ys : List Check) → first_error xs ≡ None → first_error (xs ++ ys) ≡ first_error ys
first_error_passes [] ys h = refl
first_error_passes (c ∷ cs) ys h =
    elim c.passes as (λ b. cond b (first_error cs) (Some c.why) ≡ None → cond b (first_error (cs ++ ys)) (Some c.why) ≡ first_error ys)
    [ true ↦ (λ k. first_error_passes cs ys k) | false ↦ (λ k. cc) ] h

pub first_error_append : (xs ys : List Check) → first_error (xs ++ ys) ≡ option_or (first_error xs) (first_error ys)
first_error_append [] ys = refl
first_error_append (c ∷ cs) ys =
    elim c.passes as (λ b. cond b (first_error (cs ++ ys)) (Some c.why) ≡ option_or (cond b (first_error cs) (Some c.why)) (first_error ys))
    [ true ↦ first_error_append cs ys | false ↦ refl ]

module _ (g : Sorts) (vs : List Var) (n : ℕ) (v : Var) (within : n < length vs) (is : v ≡ get_or vs n (record { 0 = 0 })) where
  new_from : new_checks g (drop n vs) ≡ check Redefined (is_none (sort_of g v)) ∷ check Redefined (not (is_among v (drop (n + 1) vs))) ∷ new_checks g (drop (n + 1) vs)
  new_from = rw (drop-cons vs n (record { 0 = 0 }) within, ← is, add-one) refl

  -- the variable at this place stands once more further on
  pub twice : (whole : List Check) → is_some (sort_of g v) ≡ false → is_among v (drop (n + 1) vs) ≡ true →
      first_error (new_checks g (drop n vs)) ≡ first_error whole → Some Redefined ≡ first_error whole
  twice whole p q r = sym (ap first_error new_from ∙ rw (p, q) refl) ∙ r

  pub once : (whole : List Check) → is_some (sort_of g v) ≡ false → is_among v (drop (n + 1) vs) ≡ false →
      first_error (new_checks g (drop n vs)) ≡ first_error whole → first_error (new_checks g (drop (n + 1) vs)) ≡ first_error whole
  once whole p q r = sym (ap first_error new_from ∙ rw (p, q) refl) ∙ r

-- the branch ends from a place on
pub first_end : (first : Sorts) (exports : List Var) (ends : List Sorts) (n : ℕ) → n < length ends →
    first_error (flat_map (export_checks first exports) (drop n ends))
    ≡ option_or (first_error (export_checks first exports (get_or ends n []))) (first_error (flat_map (export_checks first exports) (drop (n + 1) ends)))
first_end first exports ends n h =
    rw (drop-cons ends n [] h, add-one) (first_error_append (export_checks first exports (get_or ends n [])) (flat_map (export_checks first exports) (drop (suc n) ends)))

module _ (first : Sorts) (exports : List Var) (ends : List Sorts) (n : ℕ) (within : n < length ends) (end : Sorts) (is : end ≡ get_or ends n [])
    (whole : Option SortError) (so_far : first_error (flat_map (export_checks first exports) (drop n ends)) ≡ whole) where
  -- the checks of the end at this place fail
  pub end_fails : (e : SortError) → Some e ≡ first_error (export_checks first exports end) → Some e ≡ whole
  end_fails e h =
      let here = first_end first exports ends n within in
      sym (here ∙ rw (← is, ← h) refl) ∙ so_far

  -- they pass
  pub end_passes : None ≡ first_error (export_checks first exports end) →
      first_error (flat_map (export_checks first exports) (drop (n + 1) ends)) ≡ whole
  end_passes h =
      let here = first_end first exports ends n within in
      sym (here ∙ rw (← is, ← h) refl) ∙ so_far
