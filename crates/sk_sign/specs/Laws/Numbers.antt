-- The entries for single signs hold the results of numbers with these signs.
use Rattle.std.proofs.Common.{◌≡◌, ◌≢◌, ℕ, zero, suc, ◌*◌, ◌/◌, ◌%◌, ◌<◌, ℤ, pos, negsuc, ◌+ℤ◌, ◌-ℤ◌, ◌*ℤ◌, neg_ℤ, ◌≤ℤ◌, ◌<ℤ◌, Bool, true, false, refl, ap, arith}
use Rattle.std.proofs.lemmas.Bool.{lt-ltb, le-ltb, le-leb, lt-leb, both_ways, false_from_ne_true}
use Rattle.std.proofs.lemmas.Bool.Decides.{Decides-int_eq}
use Rattle.std.specs.Ordering.{int_eq}
use Rattle.std.specs.Prelude.{int_div, int_rem}
use Rattle.std.proofs.lemmas.Int.{ints}
use Rattle.sk_value.specs.declared.arith.Arith.{Arith}
use Rattle.sk_value.specs.declared.arith.Arith.TheVariants.{Add, Sub, Mul, Div, Rem, Pick}
use Rattle.sk_value.specs.declared.arith.Compare.{Compare}
use Rattle.sk_value.specs.declared.arith.Compare.TheVariants.{Lt, Le, Eq}
use Rattle.sk_value.specs.declared.arith.Refine.{Refine}
use Rattle.sk_value.specs.declared.arith.Refine.TheVariants.{Below, AtLeast, Same, Differ}
use Rattle.sk_value.specs.Numbers.{Gives, compares, keeps}
use Rattle.sk_lattice.specs.Truth.{bool_holds}
use Rattle.sk_sign.specs.Sets as set
use Rattle.sk_sign.specs.Signs.{one_of, has, single, only_true, only_false, either_truth, single_truth, allows}
use Rattle.sk_sign.specs.declared.sign.Sign.{Sign}

in_n : (r : ℤ) → r <ℤ pos 0 → has set.neg (one_of r) ≡ true
in_n (negsuc r) h = refl
in_n (pos zero) h = absurd (omega (arith, ints))
in_n (pos (suc r)) h = absurd (omega (arith, ints))

in_z : (r : ℤ) → r ≡ pos 0 → has set.zero (one_of r) ≡ true
in_z (negsuc r) h = absurd (omega (arith, ints))
in_z (pos zero) h = refl
in_z (pos (suc r)) h = absurd (omega (arith, ints))

in_p : (r : ℤ) → pos 0 <ℤ r → has set.pos (one_of r) ≡ true
in_p (negsuc r) h = absurd (omega (arith, ints))
in_p (pos zero) h = absurd (omega (arith, ints))
in_p (pos (suc r)) h = refl

in_nz : (r : ℤ) → r ≤ℤ pos 0 → has set.nonpos (one_of r) ≡ true
in_nz (negsuc r) h = refl
in_nz (pos zero) h = refl
in_nz (pos (suc r)) h = absurd (omega (arith, ints))

in_zp : (r : ℤ) → pos 0 ≤ℤ r → has set.nonneg (one_of r) ≡ true
in_zp (negsuc r) h = absurd (omega (arith, ints))
in_zp (pos zero) h = refl
in_zp (pos (suc r)) h = refl

in_a : (r : ℤ) → has set.any (one_of r) ≡ true
in_a (negsuc r) = refl
in_a (pos zero) = refl
in_a (pos (suc r)) = refl

add_holds : (m n r : ℤ) → r ≡ m +ℤ n → has (single Add (one_of m) (one_of n)) (one_of r) ≡ true
add_holds (negsuc a) (negsuc b) r e = in_n r (omega (arith, ints))
add_holds (negsuc a) (pos zero) r e = in_n r (omega (arith, ints))
add_holds (negsuc a) (pos (suc b)) r e = in_a r
add_holds (pos zero) (negsuc b) r e = in_n r (omega (arith, ints))
add_holds (pos zero) (pos zero) r e = in_z r (omega (arith, ints))
add_holds (pos zero) (pos (suc b)) r e = in_p r (omega (arith, ints))
add_holds (pos (suc a)) (negsuc b) r e = in_a r
add_holds (pos (suc a)) (pos zero) r e = in_p r (omega (arith, ints))
add_holds (pos (suc a)) (pos (suc b)) r e = in_p r (omega (arith, ints))

sub_holds : (m n r : ℤ) → r ≡ m -ℤ n → has (single Sub (one_of m) (one_of n)) (one_of r) ≡ true
sub_holds (negsuc a) (negsuc b) r e = in_a r
sub_holds (negsuc a) (pos zero) r e = in_n r (omega (arith, ints))
sub_holds (negsuc a) (pos (suc b)) r e = in_n r (omega (arith, ints))
sub_holds (pos zero) (negsuc b) r e = in_p r (omega (arith, ints))
sub_holds (pos zero) (pos zero) r e = in_z r (omega (arith, ints))
sub_holds (pos zero) (pos (suc b)) r e = in_n r (omega (arith, ints))
sub_holds (pos (suc a)) (negsuc b) r e = in_p r (omega (arith, ints))
sub_holds (pos (suc a)) (pos zero) r e = in_p r (omega (arith, ints))
sub_holds (pos (suc a)) (pos (suc b)) r e = in_a r

pick_holds : (m n r : ℤ) → m ≤ℤ r → r ≤ℤ n → has (single Pick (one_of m) (one_of n)) (one_of r) ≡ true
pick_holds (negsuc a) (negsuc b) r l u = in_n r (omega (arith, ints))
pick_holds (negsuc a) (pos zero) r l u = in_nz r (omega (arith, ints))
pick_holds (negsuc a) (pos (suc b)) r l u = in_a r
pick_holds (pos zero) (negsuc b) r l u = absurd (omega (arith, ints))
pick_holds (pos zero) (pos zero) r l u = in_z r (omega (arith, ints))
pick_holds (pos zero) (pos (suc b)) r l u = in_zp r (omega (arith, ints))
pick_holds (pos (suc a)) (negsuc b) r l u = absurd (omega (arith, ints))
pick_holds (pos (suc a)) (pos zero) r l u = absurd (omega (arith, ints))
pick_holds (pos (suc a)) (pos (suc b)) r l u = in_p r (omega (arith, ints))

-- a number and its negation
pos_zp : (n : ℕ) → has set.nonneg (one_of (pos n)) ≡ true
pos_zp zero = refl
pos_zp (suc n) = refl

neg_nz : (n : ℕ) → has set.nonpos (one_of (neg_ℤ (pos n))) ≡ true
neg_nz zero = refl
neg_nz (suc n) = refl

above_p : (n : ℕ) → 0 < n → has set.pos (one_of (pos n)) ≡ true
above_p zero h = absurd (omega arith)
above_p (suc n) h = refl

above_n : (n : ℕ) → 0 < n → has set.neg (one_of (neg_ℤ (pos n))) ≡ true
above_n zero h = absurd (omega arith)
above_n (suc n) h = refl

none_z : (n : ℕ) → n ≡ 0 → has set.zero (one_of (pos n)) ≡ true
none_z zero h = refl
none_z (suc n) h = absurd (omega arith)

none_neg_z : (n : ℕ) → n ≡ 0 → has set.zero (one_of (neg_ℤ (pos n))) ≡ true
none_neg_z zero h = refl
none_neg_z (suc n) h = absurd (omega arith)

mul_at : (m n : ℤ) → has (single Mul (one_of m) (one_of n)) (one_of (m *ℤ n)) ≡ true
mul_at (negsuc a) (negsuc b) = above_p (suc a * suc b) (omega arith)
mul_at (negsuc a) (pos zero) = none_neg_z (suc a * 0) (omega arith)
mul_at (negsuc a) (pos (suc b)) = above_n (suc a * suc b) (omega arith)
mul_at (pos zero) (negsuc b) = none_neg_z (0 * suc b) (omega arith)
mul_at (pos zero) (pos zero) = refl
mul_at (pos zero) (pos (suc b)) = none_z (0 * suc b) (omega arith)
mul_at (pos (suc a)) (negsuc b) = above_n (suc a * suc b) (omega arith)
mul_at (pos (suc a)) (pos zero) = none_z (suc a * 0) (omega arith)
mul_at (pos (suc a)) (pos (suc b)) = above_p (suc a * suc b) (omega arith)

div_at : (m n : ℤ) → n ≢ pos 0 → has (single Div (one_of m) (one_of n)) (one_of (int_div m n)) ≡ true
div_at (negsuc a) (negsuc b) h = pos_zp _
div_at (negsuc a) (pos zero) h = absurd (h refl)
div_at (negsuc a) (pos (suc b)) h = neg_nz _
div_at (pos zero) (negsuc b) h = none_neg_z (0 / suc b) (omega arith)
div_at (pos zero) (pos zero) h = absurd (h refl)
div_at (pos zero) (pos (suc b)) h = none_z (0 / suc b) (omega arith)
div_at (pos (suc a)) (negsuc b) h = neg_nz _
div_at (pos (suc a)) (pos zero) h = absurd (h refl)
div_at (pos (suc a)) (pos (suc b)) h = pos_zp _

rem_at : (m n : ℤ) → n ≢ pos 0 → has (single Rem (one_of m) (one_of n)) (one_of (int_rem m n)) ≡ true
rem_at (negsuc a) (negsuc b) h = neg_nz _
rem_at (negsuc a) (pos zero) h = absurd (h refl)
rem_at (negsuc a) (pos (suc b)) h = neg_nz _
rem_at (pos zero) (negsuc b) h = none_z (0 % suc b) (omega arith)
rem_at (pos zero) (pos zero) h = absurd (h refl)
rem_at (pos zero) (pos (suc b)) h = none_z (0 % suc b) (omega arith)
rem_at (pos (suc a)) (negsuc b) h = pos_zp _
rem_at (pos (suc a)) (pos zero) h = absurd (h refl)
rem_at (pos (suc a)) (pos (suc b)) h = pos_zp _

-- each result of numbers has a sign that the entry of their signs has
pub single_holds : (op : Arith) (m n r : ℤ) → Gives op m n r → has (single op (one_of m) (one_of n)) (one_of r) ≡ true
single_holds Add m n r e = add_holds m n r e
single_holds Sub m n r e = sub_holds m n r e
single_holds Mul m n r e = rw e (mul_at m n)
single_holds Div m n r e = rw e.1 (div_at m n e.0)
single_holds Rem m n r e = rw e.1 (rem_at m n e.0)
single_holds Pick m n r e = pick_holds m n r e.0 e.1

not_same : (m n : ℤ) → (m ≡ n → ⊥) → int_eq m n ≡ false
not_same m n h = false_from_ne_true _ (λ e. h ((Decides-int_eq m n).0 e))

holds_both : (t : Bool) → bool_holds either_truth t ≡ true
holds_both true = refl
holds_both false = refl

pub compare_at : (op : Compare) (m n : ℤ) → bool_holds (single_truth op (one_of m) (one_of n)) (compares op m n) ≡ true
compare_at Lt (negsuc a) (negsuc b) = holds_both _
compare_at Lt (negsuc a) (pos zero) = refl
compare_at Lt (negsuc a) (pos (suc b)) = refl
compare_at Lt (pos zero) (negsuc b) = refl
compare_at Lt (pos zero) (pos zero) = refl
compare_at Lt (pos zero) (pos (suc b)) = ap (bool_holds only_true) (lt-ltb 0 (suc b) (omega arith))
compare_at Lt (pos (suc a)) (negsuc b) = refl
compare_at Lt (pos (suc a)) (pos zero) = ap (bool_holds only_false) (le-ltb (suc a) 0 (omega arith))
compare_at Lt (pos (suc a)) (pos (suc b)) = holds_both _
compare_at Le (negsuc a) (negsuc b) = holds_both _
compare_at Le (negsuc a) (pos zero) = refl
compare_at Le (negsuc a) (pos (suc b)) = refl
compare_at Le (pos zero) (negsuc b) = refl
compare_at Le (pos zero) (pos zero) = refl
compare_at Le (pos zero) (pos (suc b)) = ap (bool_holds only_true) (le-leb 0 (suc b) (omega arith))
compare_at Le (pos (suc a)) (negsuc b) = refl
compare_at Le (pos (suc a)) (pos zero) = ap (bool_holds only_false) (lt-leb (suc a) 0 (omega arith))
compare_at Le (pos (suc a)) (pos (suc b)) = holds_both _
compare_at Eq (negsuc a) (negsuc b) = holds_both _
compare_at Eq (negsuc a) (pos zero) = refl
compare_at Eq (negsuc a) (pos (suc b)) = refl
compare_at Eq (pos zero) (negsuc b) = refl
compare_at Eq (pos zero) (pos zero) = refl
compare_at Eq (pos zero) (pos (suc b)) = ap (bool_holds only_false) (not_same (pos 0) (pos (suc b)) (λ e. omega (arith, ints)))
compare_at Eq (pos (suc a)) (negsuc b) = refl
compare_at Eq (pos (suc a)) (pos zero) = ap (bool_holds only_false) (not_same (pos (suc a)) (pos 0) (λ e. omega (arith, ints)))
compare_at Eq (pos (suc a)) (pos (suc b)) = holds_both _

pub allowed_at : (op : Refine) (m n : ℤ) → keeps op m n ≡ true → allows op (one_of m) (one_of n) ≡ true
allowed_at Below (negsuc a) (negsuc b) h = refl
allowed_at Below (negsuc a) (pos zero) h = refl
allowed_at Below (negsuc a) (pos (suc b)) h = refl
allowed_at Below (pos zero) (negsuc b) h = h
allowed_at Below (pos zero) (pos zero) h = h
allowed_at Below (pos zero) (pos (suc b)) h = refl
allowed_at Below (pos (suc a)) (negsuc b) h = h
allowed_at Below (pos (suc a)) (pos zero) h = absurd (both_ways _ (le-ltb (suc a) 0 (omega arith)) h)
allowed_at Below (pos (suc a)) (pos (suc b)) h = refl
allowed_at AtLeast (negsuc a) (negsuc b) h = refl
allowed_at AtLeast (negsuc a) (pos zero) h = h
allowed_at AtLeast (negsuc a) (pos (suc b)) h = h
allowed_at AtLeast (pos zero) (negsuc b) h = refl
allowed_at AtLeast (pos zero) (pos zero) h = refl
allowed_at AtLeast (pos zero) (pos (suc b)) h = absurd (both_ways _ (lt-leb (suc b) 0 (omega arith)) h)
allowed_at AtLeast (pos (suc a)) (negsuc b) h = refl
allowed_at AtLeast (pos (suc a)) (pos zero) h = refl
allowed_at AtLeast (pos (suc a)) (pos (suc b)) h = refl
allowed_at Same (negsuc a) (negsuc b) h = refl
allowed_at Same (negsuc a) (pos zero) h = h
allowed_at Same (negsuc a) (pos (suc b)) h = h
allowed_at Same (pos zero) (negsuc b) h = h
allowed_at Same (pos zero) (pos zero) h = refl
allowed_at Same (pos zero) (pos (suc b)) h = absurd (both_ways _ (not_same (pos 0) (pos (suc b)) (λ e. omega (arith, ints))) h)
allowed_at Same (pos (suc a)) (negsuc b) h = h
allowed_at Same (pos (suc a)) (pos zero) h = absurd (both_ways _ (not_same (pos (suc a)) (pos 0) (λ e. omega (arith, ints))) h)
allowed_at Same (pos (suc a)) (pos (suc b)) h = refl
allowed_at Differ (negsuc a) (negsuc b) h = refl
allowed_at Differ (negsuc a) (pos zero) h = refl
allowed_at Differ (negsuc a) (pos (suc b)) h = refl
allowed_at Differ (pos zero) (negsuc b) h = refl
allowed_at Differ (pos zero) (pos zero) h = h
allowed_at Differ (pos zero) (pos (suc b)) h = refl
allowed_at Differ (pos (suc a)) (negsuc b) h = refl
allowed_at Differ (pos (suc a)) (pos zero) h = refl
allowed_at Differ (pos (suc a)) (pos (suc b)) h = refl

-- a number's negation has the other sign
pub negated : (a : Sign) (n : ℤ) → has a (one_of n) ≡ true → has (set.signs a.positive a.zero a.negative) (one_of (neg_ℤ n)) ≡ true
negated a (negsuc n) h = h
negated a (pos zero) h = h
negated a (pos (suc n)) h = h
