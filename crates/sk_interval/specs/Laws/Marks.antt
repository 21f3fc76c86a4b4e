-- The marks of a widening: the nearest ones at most and at least a number, and how many pass a test.
use Rattle.std.proofs.Common.{◌≡◌, ℕ, zero, suc, ◌+◌, ◌<◌, ◌≤◌, ℤ, ◌≤ℤ◌, Bool, true, false, cond, Option, Some, None, List, [], ◌∷◌, refl, sym, ◌∙◌, ◌⊎◌, inl, inr, arith}
use Rattle.std.specs.Prelude.{int_lt, int_le, slice_get}
use Rattle.std.specs.Int.{int_max, int_min}
use Rattle.std.specs.List.{count_by}
use Rattle.std.proofs.lemmas.Int.{ints, clamps}
use Rattle.std.proofs.lemmas.List.Sums.{sum_by-cons}
use Rattle.sk_lattice.specs.Thresholds.{LEAST, GREATEST}
use Rattle.sk_interval.specs.Ends.{le_from, le_test}
use Rattle.sk_interval.specs.Widening.{floor_mark, ceiling_mark}

-- t is an entry
abbrev pub In : List ℤ → ℤ → Type 0
In [] t = ⊥
In (m ∷ ms) t = (m ≡ t) ⊎ In ms t

pub in_at : (ms : List ℤ) (k : ℕ) (t : ℤ) → slice_get ms k ≡ Some t → In ms t
in_at [] k t h = absurd (none_some t h)
  where
    none_some : (t : ℤ) → ◌≡◌ {A = Option ℤ} None (Some t) → ⊥
    none_some t h = cc
in_at (m ∷ ms) zero t h = inl (some_same m t h)
  where
    some_same : (m t : ℤ) → Some m ≡ Some t → m ≡ t
    some_same m t h = cc
in_at (m ∷ ms) (suc k) t h = inr (in_at ms k t h)

-- the mark at most n: it is at most n, and it is the least number or in the list
floor_step : (m n r : ℤ) (t : Bool) → int_le m n ≡ t → r ≤ℤ n → cond t (int_max m r) r ≤ℤ n
floor_step m n r true e h = let f = le_from m n e in omega (arith, ints, clamps)
floor_step m n r false e h = h

pub floor_below : (ms : List ℤ) (n : ℤ) → LEAST ≤ℤ n → floor_mark ms n ≤ℤ n
floor_below [] n h = h
floor_below (m ∷ ms) n h = floor_step m n (floor_mark ms n) (int_le m n) refl (floor_below ms n h)

floor_least_step : (m r : ℤ) (t : Bool) → LEAST ≤ℤ r → LEAST ≤ℤ cond t (int_max m r) r
floor_least_step m r true h = omega (arith, ints, clamps)
floor_least_step m r false h = h

pub floor_least : (ms : List ℤ) (n : ℤ) → LEAST ≤ℤ floor_mark ms n
floor_least [] n = omega (arith, ints)
floor_least (m ∷ ms) n = floor_least_step m (floor_mark ms n) (int_le m n) (floor_least ms n)

max_one : (x y : ℤ) → (int_max x y ≡ x) ⊎ (int_max x y ≡ y)
max_one x y = by (int_lt y x)
  where
    by : (t : Bool) → (cond t x y ≡ x) ⊎ (cond t x y ≡ y)
    by true = inl refl
    by false = inr refl

min_one : (x y : ℤ) → (int_min x y ≡ x) ⊎ (int_min x y ≡ y)
min_one x y = by (int_lt y x)
  where
    by : (t : Bool) → (cond t y x ≡ x) ⊎ (cond t y x ≡ y)
    by true = inr refl
    by false = inl refl

pub in_same : (ms : List ℤ) (s t : ℤ) → s ≡ t → In ms t → In ms s
in_same ms s t e h = rw e h

floor_in_step : (m r x : ℤ) (ms : List ℤ) (t : Bool) → x ≡ cond t (int_max m r) r → (r ≡ LEAST) ⊎ In ms r → (x ≡ LEAST) ⊎ In (m ∷ ms) x
floor_in_step m r x ms true e h =
    elim (max_one m r) [
      | inl f ↦ inr (inl (sym (e ∙ f)))
      | inr f ↦ elim h [ inl g ↦ inl (e ∙ (f ∙ g)) | inr g ↦ inr (inr (in_same ms x r (e ∙ f) g)) ]
    ]
floor_in_step m r x ms false e h = elim h [ inl g ↦ inl (e ∙ g) | inr g ↦ inr (inr (in_same ms x r e g)) ]

pub floor_in : (ms : List ℤ) (n : ℤ) → (floor_mark ms n ≡ LEAST) ⊎ In ms (floor_mark ms n)
floor_in [] n = inl refl
floor_in (m ∷ ms) n = floor_in_step m (floor_mark ms n) (floor_mark (m ∷ ms) n) ms (int_le m n) refl (floor_in ms n)

-- the mark at least n, likewise
ceiling_step : (m n r : ℤ) (t : Bool) → int_le n m ≡ t → n ≤ℤ r → n ≤ℤ cond t (int_min m r) r
ceiling_step m n r true e h = let f = le_from n m e in omega (arith, ints, clamps)
ceiling_step m n r false e h = h

pub ceiling_above : (ms : List ℤ) (n : ℤ) → n ≤ℤ GREATEST → n ≤ℤ ceiling_mark ms n
ceiling_above [] n h = h
ceiling_above (m ∷ ms) n h = ceiling_step m n (ceiling_mark ms n) (int_le n m) refl (ceiling_above ms n h)

ceiling_greatest_step : (m r : ℤ) (t : Bool) → r ≤ℤ GREATEST → cond t (int_min m r) r ≤ℤ GREATEST
ceiling_greatest_step m r true h = omega (arith, ints, clamps)
ceiling_greatest_step m r false h = h

pub ceiling_greatest : (ms : List ℤ) (n : ℤ) → ceiling_mark ms n ≤ℤ GREATEST
ceiling_greatest [] n = omega (arith, ints)
ceiling_greatest (m ∷ ms) n = ceiling_greatest_step m (ceiling_mark ms n) (int_le n m) (ceiling_greatest ms n)

ceiling_in_step : (m r x : ℤ) (ms : List ℤ) (t : Bool) → x ≡ cond t (int_min m r) r → (r ≡ GREATEST) ⊎ In ms r → (x ≡ GREATEST) ⊎ In (m ∷ ms) x
ceiling_in_step m r x ms true e h =
    elim (min_one m r) [
      | inl f ↦ inr (inl (sym (e ∙ f)))
      | inr f ↦ elim h [ inl g ↦ inl (e ∙ (f ∙ g)) | inr g ↦ inr (inr (in_same ms x r (e ∙ f) g)) ]
    ]
ceiling_in_step m r x ms false e h = elim h [ inl g ↦ inl (e ∙ g) | inr g ↦ inr (inr (in_same ms x r e g)) ]

pub ceiling_in : (ms : List ℤ) (n : ℤ) → (ceiling_mark ms n ≡ GREATEST) ⊎ In ms (ceiling_mark ms n)
ceiling_in [] n = inl refl
ceiling_in (m ∷ ms) n = ceiling_in_step m (ceiling_mark ms n) (ceiling_mark (m ∷ ms) n) ms (int_le n m) refl (ceiling_in ms n)

-- ---- counts of marks
pub count_cons : (p : ℤ → Bool) (m : ℤ) (ms : List ℤ) → count_by p (m ∷ ms) ≡ cond (p m) 1 0 + count_by p ms
count_cons p m ms = sum_by-cons (λ x. cond (p x) 1 0) m ms

one_more : (x y : Bool) → (x ≡ true → y ≡ true) → cond x 1 0 ≤ cond y 1 0
one_more true y h = rw (h refl) (omega arith)
one_more false y h = omega arith

count_more : (p q : ℤ → Bool) (ms : List ℤ) → ((m : ℤ) → p m ≡ true → q m ≡ true) → count_by p ms ≤ count_by q ms
count_more p q [] h = omega arith
count_more p q (m ∷ ms) h =
    let k = one_more (p m) (q m) (h m) in
    let l = count_more p q ms h in
    rw (count_cons p m ms, count_cons q m ms) (omega arith)

-- a mark that passes the second test alone
pub count_above : (p q : ℤ → Bool) (ms : List ℤ) (t : ℤ) → ((m : ℤ) → p m ≡ true → q m ≡ true) → In ms t → p t ≡ false → q t ≡ true → count_by p ms < count_by q ms
count_above p q [] t h k e f = absurd k
count_above p q (m ∷ ms) t h (inl s) e f =
    let l = count_more p q ms h in
    let one : cond (p m) 1 0 < cond (q m) 1 0 = rw (s, e, f) (omega arith) in
    rw (count_cons p m ms, count_cons q m ms) (omega arith)
count_above p q (m ∷ ms) t h (inr k) e f =
    let one = one_more (p m) (q m) (h m) in
    let l = count_above p q ms t h k e f in
    rw (count_cons p m ms, count_cons q m ms) (omega arith)

-- ---- the marks of one side of a number
-- the nearest mark is the greatest of those at most the number
floor_most_step : (m n r x : ℤ) (t : Bool) → int_le m n ≡ t → x ≤ℤ r → x ≤ℤ cond t (int_max m r) r
floor_most_step m n r x true e h = omega (arith, ints, clamps)
floor_most_step m n r x false e h = h

pub floor_most : (ms : List ℤ) (n x : ℤ) → In ms x → x ≤ℤ n → x ≤ℤ floor_mark ms n
floor_most [] n x h k = absurd h
floor_most (m ∷ ms) n x (inl e) k = rw (e, le_test x n k) (omega (arith, ints, clamps))
floor_most (m ∷ ms) n x (inr h) k = floor_most_step m n (floor_mark ms n) x (int_le m n) refl (floor_most ms n x h k)

ceiling_least_step : (m n r x : ℤ) (t : Bool) → int_le n m ≡ t → r ≤ℤ x → cond t (int_min m r) r ≤ℤ x
ceiling_least_step m n r x true e h = omega (arith, ints, clamps)
ceiling_least_step m n r x false e h = h

pub ceiling_least : (ms : List ℤ) (n x : ℤ) → In ms x → n ≤ℤ x → ceiling_mark ms n ≤ℤ x
ceiling_least [] n x h k = absurd h
ceiling_least (m ∷ ms) n x (inl e) k = rw (e, le_test n x k) (omega (arith, ints, clamps))
ceiling_least (m ∷ ms) n x (inr h) k = ceiling_least_step m n (ceiling_mark ms n) x (int_le n m) refl (ceiling_least ms n x h k)
