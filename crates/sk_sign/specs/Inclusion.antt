-- The order of signs is inclusion of the sets of numbers.
use Rattle.std.specs.Prelude.{◌≡◌, ◌↔◌, ℤ, true}
use Rattle.sk_value.specs.Numbers.{IsNumber}
use Rattle.sk_sign.specs.declared.sign.Sign.{Sign}
use Rattle.sk_sign.specs.Signs.{sign_domain}

-- a set is below another exactly where each number that it holds is held by the other
abbrev pub OrderIsInclusion : Type 0
OrderIsInclusion =
    (a b : Sign) → (sign_domain.leq a b ≡ true) ↔ ((n : ℤ) → IsNumber n → sign_domain.holds a n ≡ true → sign_domain.holds b n ≡ true)
