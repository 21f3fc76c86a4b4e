-- Members of sets of truth values that give what an operation gives, and results in lists of numbers.
use Rattle.std.proofs.Common.{◌≡◌, ℤ, Bool, true, false, not, ◌&&◌, List, [], ◌∷◌, map, cond, refl, inl, inr, arith}
use Rattle.std.specs.List.{Contains, AllByRecursion, filter}
use Rattle.std.proofs.lemmas.Bool.{and_parts, or_cases, both_ways, not-true}
use Rattle.std.proofs.lemmas.List.Elements.{All-from_recursion, All-contains}
use Rattle.sk_value.specs.declared.flow.Flow.TheVariants as concrete
use Rattle.sk_value.specs.Numbers.{IsNumber, is_number}
use Rattle.sk_filter.specs.Arguments.{Values}
use Rattle.sk_filter.specs.Results.{numbers}
use Rattle.sk_lattice.specs.declared.truth.AbsBool.{AbsBool}
use Rattle.sk_lattice.specs.Truth.{bool_holds}
use Rattle.sk_absfilter.specs.Truths.{some_passes, truths_given, truths_of_pairs}
use Rattle.sk_least.proofs.InRange.{number_passes}

-- a member that passes
record Passes (a : AbsBool) (test : Bool → Bool) : Type 0 where
  member : Bool
  inside : bool_holds a member ≡ true
  passes : test member ≡ true

passing : (a : AbsBool) (test : Bool → Bool) → some_passes a test ≡ true → Passes a test
passing a test h =
    elim (or_cases (a.has_true && test true) (a.has_false && test false) h) [
      | inl e ↦ let p = and_parts _ _ e in record { member = true; inside = p.0; passes = p.1 }
      | inr e ↦ let p = and_parts _ _ e in record { member = false; inside = p.0; passes = p.1 }
    ]

-- a member whose value is this one
pub record Gives (f : Bool → Bool) (a : AbsBool) (u : Bool) : Type 0 where
  pub member : Bool
  pub inside : bool_holds a member ≡ true
  pub is : f member ≡ u

pub truth_given : (f : Bool → Bool) (a : AbsBool) (u : Bool) → bool_holds (truths_given f a) u ≡ true → Gives f a u
truth_given f a true h = let w = passing a f h in record { member = w.member; inside = w.inside; is = w.passes }
truth_given f a false h = let w = passing a (λ x. not (f x)) h in record { member = w.member; inside = w.inside; is = not-true (f w.member) w.passes }

-- two members whose value is this one
pub record PairGives (f : Bool → Bool → Bool) (a b : AbsBool) (u : Bool) : Type 0 where
  pub left : Bool
  pub right : Bool
  pub in_left : bool_holds a left ≡ true
  pub in_right : bool_holds b right ≡ true
  pub is : f left right ≡ u

pub truth_of_pair : (f : Bool → Bool → Bool) (a b : AbsBool) (u : Bool) → bool_holds (truths_of_pairs f a b) u ≡ true → PairGives f a b u
truth_of_pair f a b true h =
    let v = passing a (λ x. some_passes b (f x)) h in
    let w = passing b (f v.member) v.passes in
    record { left = v.member; right = w.member; in_left = v.inside; in_right = w.inside; is = w.passes }
truth_of_pair f a b false h =
    let v = passing a (λ x. some_passes b (λ y. not (f x y))) h in
    let w = passing b (λ y. not (f v.member y)) v.passes in
    record { left = v.member; right = w.member; in_left = v.inside; in_right = w.inside; is = not-true (f v.member w.member) w.passes }

-- what holds of all results that are numbers holds of each
each_number : (P : Values → Type 0) (zs : List ℤ) → AllByRecursion P (numbers zs) → AllByRecursion (λ z. is_number z ≡ true → P (concrete.Int z ∷ [])) zs
each_number P [] h = tt
each_number P (z ∷ zs) h = by_test (is_number z) refl (each_number P zs) h
  where
    by_test : (t : Bool) → is_number z ≡ t → (AllByRecursion P (numbers zs) → AllByRecursion (λ z. is_number z ≡ true → P (concrete.Int z ∷ [])) zs) → AllByRecursion P (map (λ z. concrete.Int z ∷ []) (cond t (z ∷ filter is_number zs) (filter is_number zs))) → AllByRecursion (λ z. is_number z ≡ true → P (concrete.Int z ∷ [])) (z ∷ zs)
    by_test true e rest h = ((λ _. h.0), rest h.1)
    by_test false e rest h = ((λ f. absurd (both_ways (is_number z) e f)), rest h)

pub at_number : (P : Values → Type 0) (zs : List ℤ) (r : ℤ) → AllByRecursion P (numbers zs) → Contains zs r → IsNumber r → P (concrete.Int r ∷ [])
at_number P zs r h c f =
    All-contains (λ z. is_number z ≡ true → P (concrete.Int z ∷ [])) zs r (All-from_recursion (λ z. is_number z ≡ true → P (concrete.Int z ∷ [])) zs (each_number P zs h)) c (number_passes r f)
