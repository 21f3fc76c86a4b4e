-- Words of digits as numbers.
use Rattle.std.proofs.Common.{◌≡◌, ℕ, ◌^◌, ◌<◌, ◌&&◌, Bool, true, false, List, [], ◌∷◌, nat_le, None, Some, if◌then◌else◌, refl, sym, subst, arith}
use Rattle.std.proofs.lemmas.Grind.{common_steps}
use Rattle.std.proofs.lemmas.Str.{digit_value_digit}
use Rattle.std.specs.Char.{digit_value, is_ascii_digit}
use Rattle.std.specs.List.{list_all}
use Rattle.std.specs.Str.Parse.{AllDigits, IsNumeral, digits_value, without_leading_plus}
use Rattle.sk_bench.specs.Words.{is_number, number_up_to}

below_ten : (c : ℕ) → is_ascii_digit c ≡ true → digit_value c < 10
below_ten c h = grind (arith, common_steps, digit_value_digit)

all_digits : (word : List ℕ) → list_all is_ascii_digit word ≡ true → AllDigits 10 word
all_digits [] h = tt
all_digits (c ∷ cs) h = (below_ten c (grind (arith, common_steps)), all_digits cs (grind (arith, common_steps)))

-- a word of digits is a numeral
pub numeral : (word : List ℕ) → is_number word ≡ true → IsNumeral 10 word
numeral word h = (grind (arith, common_steps), all_digits word (grind (arith, common_steps)))

-- no digit is a plus
pub no_plus : (word : List ℕ) → IsNumeral 10 word → without_leading_plus word ≡ word
no_plus [] h = refl
no_plus (c ∷ cs) h = grind (arith, common_steps, h.1.0)

neither : (a b : Bool) (value : ℕ) → (b ≡ true → ⊥) → (if a && b then Some value else None) ≡ None
neither a true value h = absurd (h refl)
neither true false value h = refl
neither false false value h = refl

below_most : (value most : ℕ) → nat_le value most ≡ true → most < 2 ^ 32 → value < 2 ^ 32
below_most value most h few = grind (arith, common_steps)

-- where no number of 32 bits can be read, there is none up to such a number
pub none_up_to : (most : ℕ) (word : List ℕ) → most < 2 ^ 32 → is_number word ≡ true
    → ¬ (IsNumeral 10 (without_leading_plus word) × (digits_value 10 (without_leading_plus word) < 2 ^ 32)) → number_up_to most word ≡ None
none_up_to most word few digits unread =
    let is : IsNumeral 10 word = numeral word digits in
    let P : List ℕ → Type 0 = λ ds. IsNumeral 10 ds × (digits_value 10 ds < 2 ^ 32) in
    neither (is_number word) (nat_le (digits_value 10 word) most) (digits_value 10 word)
    (λ le. unread (subst P (sym (no_plus word is)) (is, below_most (digits_value 10 word) most le few)))
