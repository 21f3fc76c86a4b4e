-- Tests on bounds, and what they tell.
use Rattle.std.proofs.Common.{◌≡◌, ℤ, ◌≤ℤ◌, ◌<ℤ◌, Bool, true, false, ◌&&◌, arith}
use Rattle.std.specs.Prelude.{int_lt, int_le}
use Rattle.std.proofs.lemmas.Int.{ints}
use Rattle.std.proofs.lemmas.Bool.{and_parts}
use Rattle.sk_value.specs.Numbers.{IsNumber}
use Rattle.sk_lattice.specs.Thresholds.{LEAST, GREATEST}

-- whether two ends are numbers in order
abbrev pub are_bounds : ℤ → ℤ → Bool
are_bounds low high = int_le LEAST low && (int_le low high && int_le high GREATEST)

pub le_from : (m n : ℤ) → int_le m n ≡ true → m ≤ℤ n
le_from m n h = grind (arith, ints)

pub le_test : (m n : ℤ) → m ≤ℤ n → int_le m n ≡ true
le_test m n h = grind (arith, ints)

pub le_not : (m n : ℤ) → int_le m n ≡ false → n <ℤ m
le_not m n h = grind (arith, ints)

pub le_false : (m n : ℤ) → n <ℤ m → int_le m n ≡ false
le_false m n h = grind (arith, ints)

pub lt_from : (m n : ℤ) → int_lt m n ≡ true → m <ℤ n
lt_from m n h = grind (arith, ints)

pub lt_test : (m n : ℤ) → m <ℤ n → int_lt m n ≡ true
lt_test m n h = grind (arith, ints)

pub lt_false : (m n : ℤ) → n ≤ℤ m → int_lt m n ≡ false
lt_false m n h = grind (arith, ints)

pub lt_not : (m n : ℤ) → int_lt m n ≡ false → n ≤ℤ m
lt_not m n h = grind (arith, ints)

pub is_number : (n : ℤ) → LEAST ≤ℤ n → n ≤ℤ GREATEST → IsNumber n
is_number n h k = omega (arith, ints)

pub number_above : (n : ℤ) → IsNumber n → LEAST ≤ℤ n
number_above n h = omega (arith, ints)

pub number_below : (n : ℤ) → IsNumber n → n ≤ℤ GREATEST
number_below n h = omega (arith, ints)

least_from : (low high : ℤ) → are_bounds low high ≡ true → LEAST ≤ℤ low
least_from low high e = le_from LEAST low (and_parts (int_le LEAST low) (int_le low high && int_le high GREATEST) e).0

ends_from : (low high : ℤ) → are_bounds low high ≡ true → (low ≤ℤ high) × (high ≤ℤ GREATEST)
ends_from low high e =
    let rest = (and_parts (int_le LEAST low) (int_le low high && int_le high GREATEST) e).1 in
    let parts = and_parts (int_le low high) (int_le high GREATEST) rest in
    (le_from low high parts.0, le_from high GREATEST parts.1)

greatest_from : (low high : ℤ) → are_bounds low high ≡ true → high ≤ℤ GREATEST
greatest_from low high e = (ends_from low high e).1

pub ordered_from : (low high : ℤ) → are_bounds low high ≡ true → low ≤ℤ high
ordered_from low high e = (ends_from low high e).0

pub low_fits_from : (low high : ℤ) → are_bounds low high ≡ true → IsNumber low
low_fits_from low high e =
    let least = least_from low high e in
    let ordered = ordered_from low high e in
    let greatest = greatest_from low high e in
    omega (arith, ints)

pub high_fits_from : (low high : ℤ) → are_bounds low high ≡ true → IsNumber high
high_fits_from low high e =
    let least = least_from low high e in
    let ordered = ordered_from low high e in
    let greatest = greatest_from low high e in
    omega (arith, ints)
