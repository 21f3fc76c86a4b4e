-- Domains whose operations are least: what they give lies below every element that covers all results on covered numbers.
use Rattle.std.specs.Prelude.{◌≡◌, ℤ, pos, negsuc, neg_ℤ, ◌*ℤ◌, ◌≤ℤ◌, Bool, true, false, not, ◌&&◌}
use Rattle.sk_value.specs.declared.arith.Arith.{Arith}
use Rattle.sk_value.specs.declared.arith.Arith.TheVariants.{Mul, Div, Rem}
use Rattle.sk_value.specs.declared.arith.Compare.{Compare}
use Rattle.sk_value.specs.declared.arith.Refine.{Refine}
use Rattle.sk_value.specs.Numbers.{IsNumber, is_number, Gives, compares, keeps}
use Rattle.sk_lattice.specs.declared.truth.AbsBool.{AbsBool}
use Rattle.sk_lattice.specs.Truth.{bool_holds, bool_leq}
use Rattle.sk_lattice.specs.Thresholds.{LEAST}
use Rattle.sk_lattice.specs.Domain.{Domain}
use Rattle.sk_sign.specs.Signs.{sign_domain}
use Rattle.sk_interval.specs.declared.bounds.Interval.{Interval}
use Rattle.sk_interval.specs.declared.bounds.Interval.TheVariants.{Range}
use Rattle.sk_interval.specs.Intervals.{interval_domain}

-- a number in range that the element holds
pub record Held {E : Type 0} (d : Domain E) (a : E) (n : ℤ) : Type 0 where
  pub fits : IsNumber n
  pub held : d.holds a n ≡ true

-- the element holds each number that an operation of arithmetic gives on numbers of two others
abbrev pub HoldsResults : {E : Type 0} → Domain E → Arith → E → E → E → Type 0
HoldsResults d op a b c = (m n r : ℤ) → Held d a m → Held d b n → Gives op m n r → IsNumber r → d.holds c r ≡ true

-- each negation that is a number
abbrev pub HoldsNegations : {E : Type 0} → Domain E → E → E → Type 0
HoldsNegations d a c = (n : ℤ) → Held d a n → IsNumber (neg_ℤ n) → d.holds c (neg_ℤ n) ≡ true

-- the set has each answer of a comparison
abbrev pub HasAnswers : {E : Type 0} → Domain E → Compare → E → E → AbsBool → Type 0
HasAnswers d op a b c = (m n : ℤ) → Held d a m → Held d b n → bool_holds c (compares op m n) ≡ true

-- the element holds the first, or the second, of each pair that is kept
abbrev pub HoldsFirsts : {E : Type 0} → Domain E → Refine → E → E → E → Type 0
HoldsFirsts d op a b c = (m n : ℤ) → Held d a m → Held d b n → keeps op m n ≡ true → d.holds c m ≡ true

abbrev pub HoldsSeconds : {E : Type 0} → Domain E → Refine → E → E → E → Type 0
HoldsSeconds d op a b c = (m n : ℤ) → Held d a m → Held d b n → keeps op m n ≡ true → d.holds c n ≡ true

-- What an operation gives lies below every element that holds all results on numbers of its arguments; of arithmetic this
-- is asked where the test holds. An element that isn't empty holds a number, and lies below every one that holds all its
-- numbers; that of zero holds zero alone.
pub record LeastLaws {E : Type 0} (d : Domain E) (least_on : Arith → E → E → Bool) : Type 0 where
  pub filled : (a : E) → d.is_empty a ≡ false → (n : ℤ) × Held d a n
  pub inclusion : (a c : E) → ((n : ℤ) → Held d a n → d.holds c n ≡ true) → d.leq a c ≡ true
  pub of : (n : ℤ) (c : E) → IsNumber n → d.holds c n ≡ true → d.leq (d.of n) c ≡ true
  pub zero_alone : (n : ℤ) → d.holds (d.of (pos 0)) n ≡ true → n ≡ pos 0
  pub arith : (op : Arith) (a b c : E) → least_on op a b ≡ true → HoldsResults d op a b c → d.leq (d.arith op a b) c ≡ true
  pub neg : (a c : E) → HoldsNegations d a c → d.leq (d.neg a) c ≡ true
  pub compare : (op : Compare) (a b : E) (c : AbsBool) → HasAnswers d op a b c → bool_leq (d.compare op a b) c ≡ true
  pub refine_left : (op : Refine) (a b c : E) → HoldsFirsts d op a b c → d.leq (d.refine op a b).0 c ≡ true
  pub refine_right : (op : Refine) (a b c : E) → HoldsSeconds d op a b c → d.leq (d.refine op a b).1 c ≡ true

-- on all elements
abbrev pub everywhere : {E : Type 0} → Arith → E → E → Bool
everywhere op a b = true

-- whether the products of the ends are in range, and so all products
abbrev pub products_fit : Interval → Interval → Bool
products_fit (Range a) (Range b) = (is_number (a.low *ℤ b.low) && is_number (a.low *ℤ b.high)) && (is_number (a.high *ℤ b.low) && is_number (a.high *ℤ b.high))
products_fit _ _ = true

-- whether all quotients are in range: only that of the least number by -1 isn't
abbrev pub quotients_fit : Interval → Interval → Bool
quotients_fit a b = not (interval_domain.holds a LEAST && interval_domain.holds b (negsuc 0))

-- Where arithmetic on intervals is least: products and quotients where no result leaves the range (past it numbers are
-- missed between the results that are left), remainders where zero is among the dividends, all else everywhere.
abbrev pub intervals_least_on : Arith → Interval → Interval → Bool
intervals_least_on Mul a b = products_fit a b
intervals_least_on Div a b = quotients_fit a b
intervals_least_on Rem a b = interval_domain.holds a (pos 0)
intervals_least_on _ a b = true

-- the numbers from which results are asked: of remainders zero counts as a dividend
abbrev pub dividends : Arith → Interval → Interval
dividends Rem a = interval_domain.join a (interval_domain.of (pos 0))
dividends _ a = a

-- n lies from one end to the other
abbrev pub Between : ℤ → ℤ → ℤ → Type 0
Between low high n = (low ≤ℤ n) × (n ≤ℤ high)

-- The law for all intervals, also where results leave the range: what arithmetic gives has no number outside two ends
-- between which all whole results lie.
abbrev pub SpansAreLeast : Type 0
SpansAreLeast =
    (op : Arith) (a b : Interval) (low high : ℤ) →
    ((m n r : ℤ) → Held interval_domain (dividends op a) m → Held interval_domain b n → Gives op m n r → Between low high r) →
    (n : ℤ) → interval_domain.holds (interval_domain.arith op a b) n ≡ true → Between low high n

-- the laws of the two domains
abbrev pub SignsAreLeast : Type 0
SignsAreLeast = LeastLaws sign_domain everywhere

abbrev pub IntervalsAreLeast : Type 0
IntervalsAreLeast = LeastLaws interval_domain intervals_least_on
