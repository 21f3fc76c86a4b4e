-- Each sign is that of a small number, so inclusion shows at three numbers.
use Rattle.std.proofs.Common.{◌≡◌, ℤ, pos, negsuc, true, lit<}
use Rattle.sk_value.specs.Numbers.{IsNumber}
use Rattle.sk_sign.specs.declared.sign.Sign.{Sign}
use Rattle.sk_sign.specs.Signs.{One, Negative, Zero, Positive, one_of, has}
use Rattle.sk_sign.specs.Laws.Sets.{has_more, leq_by_members}
use Rattle.sk_sign.specs.Inclusion.{OrderIsInclusion}

-- what holds of each number's sign holds of each sign
at_sign : (a b : Sign) → ((n : ℤ) → IsNumber n → has a (one_of n) ≡ true → has b (one_of n) ≡ true) → (p : One) → has a p ≡ true → has b p ≡ true
at_sign a b h Negative = h (negsuc 0) (record { sfits = lit< tt })
at_sign a b h Zero = h (pos 0) (record { sfits = lit< tt })
at_sign a b h Positive = h (pos 1) (record { sfits = lit< tt })

pub order_is_inclusion : OrderIsInclusion
order_is_inclusion = λ a b. (λ h n f e. has_more a b h (one_of n) e, λ h. leq_by_members a b (at_sign a b h))
