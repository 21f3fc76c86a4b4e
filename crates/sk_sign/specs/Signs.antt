-- The domain of signs, by its entries for single signs.
use Rattle.std.specs.Prelude.{ℕ, ◌+◌, ℤ, pos, negsuc, zero, suc, Bool, true, false, not, ◌&&◌, ◌||◌, if◌then◌else◌}
use Rattle.sk_value.specs.declared.arith.Arith.{Arith}
use Rattle.sk_value.specs.declared.arith.Arith.TheVariants.{Add, Sub, Mul, Div, Rem, Pick}
use Rattle.sk_value.specs.declared.arith.Compare.{Compare}
use Rattle.sk_value.specs.declared.arith.Compare.TheVariants.{Lt, Le, Eq}
use Rattle.sk_value.specs.declared.arith.Refine.{Refine}
use Rattle.sk_value.specs.declared.arith.Refine.TheVariants.{Below, AtLeast, Same, Differ}
use Rattle.sk_lattice.specs.declared.truth.AbsBool.{AbsBool}
use Rattle.sk_lattice.specs.Domain.{Domain}
use Rattle.sk_sign.specs.declared.sign.Sign.{Sign}
use Rattle.sk_sign.specs.Sets as set

-- one sign
pub data One : Type 0 where
  Negative : One
  Zero : One
  Positive : One

-- the sign of a number
abbrev pub one_of : ℤ → One
one_of (negsuc n) = Negative
one_of (pos zero) = Zero
one_of (pos (suc n)) = Positive

-- whether a set has a sign
abbrev pub has : Sign → One → Bool
has s Negative = s.negative
has s Zero = s.zero
has s Positive = s.positive

-- the set of the signs that pass a test
abbrev pub set_of : (One → Bool) → Sign
set_of f = record { negative = f Negative; zero = f Zero; positive = f Positive }

-- whether some sign of the set passes a test
abbrev pub some_one : Sign → (One → Bool) → Bool
some_one s f = (s.negative && f Negative) || ((s.zero && f Zero) || (s.positive && f Positive))

-- whether some pair of signs of two sets passes a test
abbrev pub some_pair : Sign → Sign → (One → One → Bool) → Bool
some_pair a b f = some_one a (λ p. some_one b (λ q. f p q))

-- the union of the entries of all pairs of signs
abbrev pub union : (One → One → Sign) → Sign → Sign → Sign
union f a b = set_of (λ r. some_pair a b (λ p q. has (f p q) r))

-- the same for entries that are sets of truth values
abbrev pub truth_union : (One → One → AbsBool) → Sign → Sign → AbsBool
truth_union f a b = record {
  has_true = some_pair a b (λ p q. (f p q).has_true);
  has_false = some_pair a b (λ p q. (f p q).has_false);
}

-- an entry for each pair of single signs, the first sign before the second, and each negative, zero, positive
abbrev pub nine : {X : Type 0} → X → X → X → X → X → X → X → X → X → One → One → X
nine nn nz np zn zz zp pn pz pp Negative Negative = nn
nine nn nz np zn zz zp pn pz pp Negative Zero = nz
nine nn nz np zn zz zp pn pz pp Negative Positive = np
nine nn nz np zn zz zp pn pz pp Zero Negative = zn
nine nn nz np zn zz zp pn pz pp Zero Zero = zz
nine nn nz np zn zz zp pn pz pp Zero Positive = zp
nine nn nz np zn zz zp pn pz pp Positive Negative = pn
nine nn nz np zn zz zp pn pz pp Positive Zero = pz
nine nn nz np zn zz zp pn pz pp Positive Positive = pp

-- the entries of each operation
abbrev pub single : Arith → One → One → Sign
single Add = nine set.neg set.neg set.any set.neg set.zero set.pos set.any set.pos set.pos
single Sub = nine set.any set.neg set.neg set.pos set.zero set.neg set.pos set.pos set.any
single Mul = nine set.pos set.zero set.neg set.zero set.zero set.zero set.neg set.zero set.pos
single Div = nine set.nonneg set.none set.nonpos set.zero set.none set.zero set.nonpos set.none set.nonneg
single Rem = nine set.nonpos set.none set.nonpos set.zero set.none set.zero set.nonneg set.none set.nonneg
single Pick = nine set.neg set.nonpos set.any set.none set.zero set.nonneg set.none set.none set.pos

abbrev pub truths : Bool → Bool → AbsBool
truths t f = record { has_true = t; has_false = f }

-- the sets of truth values that aren't empty
abbrev pub only_true : AbsBool
only_true = truths true false

abbrev pub only_false : AbsBool
only_false = truths false true

abbrev pub either_truth : AbsBool
either_truth = truths true true

-- the entries of each comparison
abbrev pub single_truth : Compare → One → One → AbsBool
single_truth Lt = nine either_truth only_true only_true only_false only_false only_true only_false only_false either_truth
single_truth Le = nine either_truth only_true only_true only_false only_true only_true only_false only_false either_truth
single_truth Eq = nine either_truth only_false only_false only_false only_true only_false only_false only_false either_truth

-- the pairs that each refinement allows
abbrev pub allows : Refine → One → One → Bool
allows Below = nine true true true false false true false false true
allows AtLeast = nine true false false true true false true true true
allows Same = nine true false false false true false false false true
allows Differ = nine true true true true false true true true true

-- the set of one sign
abbrev pub just : One → Sign
just Negative = set.neg
just Zero = set.zero
just Positive = set.pos

-- the entries of each side of a refinement: the side's sign where the pair is allowed
abbrev pub single_left : Refine → One → One → Sign
single_left op p q = if allows op p q then just p else set.none

abbrev pub single_right : Refine → One → One → Sign
single_right op p q = if allows op p q then just q else set.none

-- whether each sign of the first set is in the second
abbrev pub sign_leq : Sign → Sign → Bool
sign_leq a b = (not a.negative || b.negative) && ((not a.zero || b.zero) && (not a.positive || b.positive))

-- how many signs the set lacks
abbrev pub lacking : Sign → ℕ
lacking a = (if a.negative then 0 else 1) + (if a.zero then 0 else 1) + (if a.positive then 0 else 1)

abbrev pub both : Sign → Sign → Sign
both a b = set_of (λ p. has a p || has b p)

abbrev pub common : Sign → Sign → Sign
common a b = set_of (λ p. has a p && has b p)

-- the domain of signs
abbrev pub sign_domain : Domain Sign
sign_domain = record {
  empty = set.none;
  any = set.any;
  of = λ n. just (one_of n);
  holds = λ a n. has a (one_of n);
  is_empty = λ a. not a.negative && (not a.zero && not a.positive);
  leq = sign_leq;
  join = both;
  meet = common;
  widen = λ a b marks. both a b;
  rank = λ a marks. lacking a;
  arith = λ op. union (single op);
  neg = λ a. set.signs a.positive a.zero a.negative;
  compare = λ op. truth_union (single_truth op);
  refine = λ op a b. (union (single_left op) a b, union (single_right op) a b);
}
