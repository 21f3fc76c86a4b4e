-- How a grid of bytes is read.
use Rattle.std.specs.Prelude.{ℕ, ◌+◌, ◌*◌, not, nat_eq, if◌then◌else◌, bit_and, List, [], slice_index, slice_index_or}
use Rattle.sk_lattice.specs.declared.truth.AbsBool.{AbsBool}
use Rattle.sk_sign.specs.declared.sign.Sign.{Sign}

-- the number of a set of signs
abbrev pub bits_of : Sign → ℕ
bits_of s = (if s.negative then 1 else 0) + 2 * (if s.zero then 1 else 0) + 4 * (if s.positive then 1 else 0)

-- the set of signs with a number
abbrev pub signs_at : ℕ → Sign
signs_at n = record {
  negative = not (nat_eq (bit_and n 1) 0);
  zero = not (nat_eq (bit_and n 2) 0);
  positive = not (nat_eq (bit_and n 4) 0);
}

-- the byte at the place of two sets
abbrev pub byte_at : List (List ℕ) → Sign → Sign → ℕ
byte_at grid a b = slice_index (slice_index_or grid (bits_of a) []) (bits_of b)

-- the signs at the place of two sets
abbrev pub sign_entry : List (List ℕ) → Sign → Sign → Sign
sign_entry grid a b = signs_at (byte_at grid a b)

-- the truth values at the place of two sets
abbrev pub truth_entry : List (List ℕ) → Sign → Sign → AbsBool
truth_entry grid a b =
    let n = byte_at grid a b in
    record { has_true = not (nat_eq (bit_and n 1) 0); has_false = not (nat_eq (bit_and n 2) 0) }
