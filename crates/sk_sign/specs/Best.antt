-- Signs are best: a sign or truth value is in a result exactly where numbers of the arguments give it.
use Rattle.std.specs.Prelude.{◌≡◌, ℤ, neg_ℤ, Bool, true}
use Rattle.std.specs.Bool.{Decides}
use Rattle.sk_value.specs.declared.arith.Arith.{Arith}
use Rattle.sk_value.specs.declared.arith.Compare.{Compare}
use Rattle.sk_value.specs.declared.arith.Refine.{Refine}
use Rattle.sk_value.specs.Numbers.{IsNumber, HasResult, compares, keeps}
use Rattle.sk_lattice.specs.Truth.{bool_holds}
use Rattle.sk_sign.specs.declared.sign.Sign.{Sign}
use Rattle.sk_sign.specs.Signs.{One, one_of, has, sign_domain}

-- two numbers of the sets of which the fact holds
pub record NumbersGive (G : ℤ → ℤ → Type 0) (a b : Sign) : Type 0 where
  pub left : ℤ
  pub right : ℤ
  pub left_fits : IsNumber left
  pub right_fits : IsNumber right
  pub in_left : sign_domain.holds a left ≡ true
  pub in_right : sign_domain.holds b right ≡ true
  pub gives : G left right

-- two numbers have a result of the sign
pub record GiveSign (op : Arith) (r : One) (m n : ℤ) : Type 0 where
  pub result : ℤ
  pub gives : HasResult op m n result
  pub sign : one_of result ≡ r

-- two numbers are kept, and this one of them has the sign
pub record KeepSign (op : Refine) (r : One) (m n this : ℤ) : Type 0 where
  pub kept : keeps op m n ≡ true
  pub sign : one_of this ≡ r

-- a number of the set whose negation has the sign
pub record NegGives (a : Sign) (r : One) : Type 0 where
  pub number : ℤ
  pub fits : IsNumber number
  pub negated_fits : IsNumber (neg_ℤ number)
  pub member : sign_domain.holds a number ≡ true
  pub sign : one_of (neg_ℤ number) ≡ r

-- the law: a sign or truth value is in a result exactly where numbers with the arguments' signs give it
pub record SignsAreBest : Type 0 where
  pub arith : (op : Arith) (a b : Sign) (r : One) → Decides (has (sign_domain.arith op a b) r) (NumbersGive (GiveSign op r) a b)
  pub neg : (a : Sign) (r : One) → Decides (has (sign_domain.neg a) r) (NegGives a r)
  pub compare : (op : Compare) (a b : Sign) (t : Bool) → Decides (bool_holds (sign_domain.compare op a b) t) (NumbersGive (λ m n. compares op m n ≡ t) a b)
  pub left : (op : Refine) (a b : Sign) (r : One) → Decides (has (sign_domain.refine op a b).0 r) (NumbersGive (λ m n. KeepSign op r m n m) a b)
  pub right : (op : Refine) (a b : Sign) (r : One) → Decides (has (sign_domain.refine op a b).1 r) (NumbersGive (λ m n. KeepSign op r m n n) a b)
