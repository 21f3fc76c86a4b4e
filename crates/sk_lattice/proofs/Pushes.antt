-- Marks put at the end of a list.
use Rattle.std.proofs.Common.{◌≡◌, ℕ, ◌+◌, ◌*◌, ◌^◌, ◌≤◌, ℤ, pos, negsuc, ◌+ℤ◌, ◌-ℤ◌, ◌≤ℤ◌, ◌<ℤ◌, Bool, true, false, cond, List, [], ◌∷◌, ◌++◌, length, drop, Some, sym, ◌∙◌, ap, append_assoc, arith, add-one, length-append}
use Rattle.std.specs.Prelude.{slice_get}
use Rattle.std.proofs.Math.ListN.{drop_of_length-le}
use Rattle.std.proofs.lemmas.Bool.{false_from_ne_true, ltb-true}
use Rattle.std.proofs.lemmas.Int.{ints}
use Rattle.std.proofs.lemmas.List.{append-nil}
use Rattle.sk_base.proofs.Drops.{drop_at}
use Rattle.sk_value.specs.Numbers.{is_number}
use Rattle.sk_lattice.specs.Thresholds.{LEAST, GREATEST, in_range, near, near_all, all_marks, standard}

-- the test of the range
pub number_within : (m : ℤ) → LEAST ≤ℤ m → m ≤ℤ GREATEST → is_number m ≡ true
number_within (pos n) h k = grind (arith, ints)
number_within (negsuc n) h k = grind (arith, ints)

none_past : (m : ℤ) → (is_number m ≡ true → ⊥) → is_number m ≡ false
none_past m h = false_from_ne_true (is_number m) h

pub within_number : (m : ℤ) → is_number m ≡ true → (LEAST ≤ℤ m) × (m ≤ℤ GREATEST)
within_number (pos n) h = let k = ltb-true n (2 ^ 63) h in (omega (arith, ints), omega (arith, ints))
within_number (negsuc n) h = let k = ltb-true n (2 ^ 63) h in (omega (arith, ints), omega (arith, ints))

pub one_more : (xs ys : List ℤ) (m x : ℤ) → ys ≡ xs ++ x ∷ [] → LEAST ≤ℤ m → m ≤ℤ GREATEST → x ≡ m → ys ≡ xs ++ in_range m
one_more xs ys m x f h k e = rw (number_within m h k, ← e) f

pub none_below : (xs : List ℤ) (m : ℤ) → m <ℤ LEAST → xs ≡ xs ++ in_range m
none_below xs m h = rw (none_past m (λ e. let k = within_number m e in let l = k.0 in omega (arith, ints))) (sym (append-nil xs))

pub none_above : (xs : List ℤ) (m : ℤ) → GREATEST <ℤ m → xs ≡ xs ++ in_range m
none_above xs m h = rw (none_past m (λ e. let k = within_number m e in let l = k.1 in omega (arith, ints))) (sym (append-nil xs))

pub three : (xs ys zs ws a b c : List ℤ) → ys ≡ xs ++ a → zs ≡ ys ++ b → ws ≡ zs ++ c → ws ≡ xs ++ (a ++ (b ++ c))
three xs ys zs ws a b c e f g = g ∙ (ap (λ l. l ++ c) (f ∙ ap (λ l. l ++ b) e) ∙ simp append_assoc)

-- a turn of the loop over the literals
pub near_turn : (ls xs ys : List ℤ) (i : ℕ) (v : ℤ) → xs ++ near_all (drop i ls) ≡ all_marks ls → ys ≡ xs ++ near v → slice_get ls i ≡ Some v → ys ++ near_all (drop (i + 1) ls) ≡ all_marks ls
near_turn ls xs ys i v so e h = rw (e, append_assoc, add-one) (rw (drop_at ls i v h) at so)

pub near_end : (ls xs : List ℤ) (i : ℕ) → xs ++ near_all (drop i ls) ≡ all_marks ls → length ls ≤ i → xs ≡ all_marks ls
near_end ls xs i so h = sym (append-nil xs) ∙ rw (drop_of_length-le ls h) at so

-- how many there are
at_most_one : (t : Bool) (x : ℤ) → length (cond t (x ∷ []) []) ≤ 1
at_most_one true x = omega arith
at_most_one false x = omega arith

length_in_range : (m : ℤ) → length (in_range m) ≤ 1
length_in_range m = at_most_one (is_number m) m

length_near : (v : ℤ) → length (near v) ≤ 3
length_near v =
    let p = length_in_range (v -ℤ pos 1) in
    let q = length_in_range v in
    let r = length_in_range (v +ℤ pos 1) in
    omega (arith, length-append (in_range (v -ℤ pos 1)) (in_range v ++ in_range (v +ℤ pos 1)), length-append (in_range v) (in_range (v +ℤ pos 1)))

length_near_all : (ls : List ℤ) → length (near_all ls) ≤ 3 * length ls
length_near_all [] = omega arith
length_near_all (v ∷ vs) = let p = length_near v in let q = length_near_all vs in omega (arith, length-append (near v) (near_all vs))

pub length_all : (ls : List ℤ) → length (all_marks ls) ≤ 5 + 3 * length ls
length_all ls = let p = length_near_all ls in omega (arith, length-append standard (near_all ls))
