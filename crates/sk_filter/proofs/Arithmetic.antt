-- Results that are numbers.
use Rattle.std.proofs.Common.{◌≡◌, ℕ, zero, suc, ◌+◌, ◌^◌, ℤ, pos, negsuc, ◌+ℤ◌, ◌-ℤ◌, ◌*ℤ◌, ◌≤ℤ◌, Bool, true, false, cond, List, [], ◌∷◌, ◌++◌, length, map, add-one, Option, Some, None, refl, sym, ap, ◌∙◌, arith}
use Rattle.std.proofs.Common.{w64, to_z, of_z}
use Rattle.std.proofs.lemmas.Bool.{false_from_ne_true}
use Rattle.std.proofs.lemmas.Bool.Decides.{Decides-int_eq}
use borrow.Author.Tests.{lt-ltb, ltb-true}
use Rattle.std.specs.Prelude.{int_div, int_rem}
use Rattle.std.specs.Ordering.{int_eq}
use Rattle.std.specs.Option.{option_map_or, SomeIff}
use Rattle.std.proofs.lemmas.Int.{ints, quot-rem, to_z-of_z}
use Rattle.std.proofs.Math.IntN.{*ℤ_comm}
use Rattle.sk_value.specs.declared.flow.Flow.{Flow}
use Rattle.sk_value.specs.declared.arith.Arith.TheVariants.{Rem}
use Rattle.sk_value.specs.Numbers.{IsNumber, is_number, numbers_from, whole_results}
use Rattle.sk_filter.specs.Arguments.{Values}
use Rattle.sk_filter.specs.Results.{one, number, numbers}

pub is_number-true : (z : ℤ) → IsNumber z → is_number z ≡ true
is_number-true (pos n) f = lt-ltb n (2 ^ 63) f.sfits
is_number-true (negsuc n) f = lt-ltb n (2 ^ 63) f.sfits

is_number-fits : (z : ℤ) → is_number z ≡ true → IsNumber z
is_number-fits (pos n) e = record { sfits = ltb-true n (2 ^ 63) e }
is_number-fits (negsuc n) e = record { sfits = ltb-true n (2 ^ 63) e }

-- the number that was found, as the one result
abbrev pub found : Option ℤ → List Values
found r = option_map_or (λ z. one (Flow.Int z)) r []

number_by_test : (z : ℤ) (t : Bool) → is_number z ≡ t → (IsNumber z → ⊥) → map (λ x. Flow.Int x ∷ []) (cond t (z ∷ []) []) ≡ []
number_by_test z true e h = absurd (h (is_number-fits z e))
number_by_test z false e h = refl

pub number_of_number : (z : ℤ) → IsNumber z → number z ≡ one (Flow.Int z)
number_of_number z f = rw (is_number-true z f) refl

-- what a checked operation found
pub checked : (z : ℤ) (r : Option ℤ) → SomeIff r (IsNumber z) z → number z ≡ found r
checked z None h = number_by_test z (is_number z) refl h
checked z (Some x) h = rw (is_number-true z h.0, h.1) refl

remainder_is : (a b : ℤ) → a -ℤ (b *ℤ int_div a b) ≡ int_rem a b
remainder_is a b = omega (arith, ints, quot-rem a b, *ℤ_comm b (int_div a b))

-- a number that isn't zero as its bits say
not_zero : (b : ℤ) → (of_z w64 b ≡ 0 → ⊥) → int_eq b (pos 0) ≡ false
not_zero b h = false_from_ne_true (int_eq b (pos 0)) (λ e. h (ap (of_z w64) ((Decides-int_eq b (pos 0)).0 e)))

remainder_at : (a b x : ℤ) → int_eq b (pos 0) ≡ false → IsNumber x → x ≡ int_rem a b → numbers (whole_results Rem a b) ≡ one (Flow.Int x)
remainder_at a b x e f is = rw (e, remainder_is a b, sym is) (number_of_number x f)

pub remainder : (a b x : ℤ) → IsNumber a → IsNumber b → IsNumber x → (of_z w64 b ≡ 0 → ⊥) → x ≡ int_rem (to_z w64 (of_z w64 a)) (to_z w64 (of_z w64 b))
    → numbers (whole_results Rem a b) ≡ one (Flow.Int (to_z w64 (of_z w64 x)))
remainder a b x f g k h is =
    let e : x ≡ int_rem a b = is ∙ ap (λ z. int_rem z (to_z w64 (of_z w64 b))) (to_z-of_z w64 a f) ∙ ap (int_rem a) (to_z-of_z w64 b g) in
    remainder_at a b x (not_zero b h) k e ∙ ap (λ z. one (Flow.Int z)) (sym (to_z-of_z w64 x k))

-- numbers as results, without the test
abbrev pub plain : List ℤ → List Values
plain zs = map (λ z. Flow.Int z ∷ []) zs

pub plain-more : (first : ℤ) (count : ℕ) → plain (numbers_from first (suc count)) ≡ plain (numbers_from first count) ++ (Flow.Int (first +ℤ pos count) ∷ []) ∷ []
plain-more first zero = ap (λ z. (Flow.Int z ∷ []) ∷ []) (omega (arith, ints))
plain-more first (suc count) =
    let e : (first +ℤ pos 1) +ℤ pos count ≡ first +ℤ pos (suc count) = omega (arith, ints) in
    ap (λ l. (Flow.Int first ∷ []) ∷ l) (plain-more (first +ℤ pos 1) count ∙ ap (λ z. plain (numbers_from (first +ℤ pos 1) count) ++ (Flow.Int z ∷ []) ∷ []) e)

pub all_in_range : (first : ℤ) (count : ℕ) → IsNumber first → (first +ℤ pos count) ≤ℤ pos (2 ^ 63) → numbers (numbers_from first count) ≡ plain (numbers_from first count)
all_in_range first zero f le = refl
all_in_range first (suc zero) f le = number_of_number first f
all_in_range first (suc (suc count)) f le =
    let g : IsNumber (first +ℤ pos 1) = omega (arith, ints) in
    rw (is_number-true first f) (ap (λ l. (Flow.Int first ∷ []) ∷ l) (all_in_range (first +ℤ pos 1) (suc count) g (omega (arith, ints))))

pub length-plain : (first : ℤ) (count : ℕ) → length (plain (numbers_from first count)) ≡ count
length-plain first zero = refl
length-plain first (suc count) = ap suc (length-plain (first +ℤ pos 1) count)

-- the next number was pushed
pub plain_pushed : (first next : ℤ) (count : ℕ) (old new : List Values) → old ≡ plain (numbers_from first count) → new ≡ old ++ (Flow.Int next ∷ []) ∷ [] → next ≡ first +ℤ pos count
    → new ≡ plain (numbers_from first (count + 1))
plain_pushed first next count old new so_far pushed is =
    pushed ∙ ap (λ l. l ++ (Flow.Int next ∷ []) ∷ []) so_far ∙ ap (λ z. plain (numbers_from first count) ++ (Flow.Int z ∷ []) ∷ []) is ∙ sym (plain-more first count)
    ∙ ap (λ n. plain (numbers_from first n)) (sym (add-one count))

-- all were pushed
pub plain_finished : (first at : ℤ) (count above : ℕ) (results : List Values) → IsNumber first → (first +ℤ pos count) ≤ℤ pos (2 ^ 63) → results ≡ plain (numbers_from at above) → at ≡ first → above ≡ count
    → results ≡ numbers (numbers_from first count)
plain_finished first at count above results f le is same all =
    is ∙ ap (λ z. plain (numbers_from z above)) same ∙ ap (λ n. plain (numbers_from first n)) all ∙ sym (all_in_range first count f le)

-- what the machine adds is the sum
pub next_is : (first from : ℤ) (above : ℕ) → IsNumber first → IsNumber from → from ≡ pos above → IsNumber (first +ℤ pos above)
    → to_z w64 (of_z w64 (to_z w64 (of_z w64 first) +ℤ to_z w64 (of_z w64 from))) ≡ to_z w64 (of_z w64 first) +ℤ pos above
next_is first from above f g is k =
    let d : to_z w64 (of_z w64 from) ≡ pos above = to_z-of_z w64 from g ∙ is in
    rw (to_z-of_z w64 first f, d, to_z-of_z w64 (first +ℤ pos above) k) refl
