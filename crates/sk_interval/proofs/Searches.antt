-- What a binary search in the marks of a widening finds.
use Rattle.std.proofs.Common.{◌≡◌, ℕ, zero, suc, ◌+◌, ◌-◌, ◌<◌, ◌≤◌, ℤ, ◌≤ℤ◌, Bool, true, false, not, cond, List, [], ◌∷◌, length, get_or, Some, refl, sym, ap, ◌∙◌, inl, inr, arith}
use Rattle.std.specs.Prelude.{int_lt, int_le, slice_get}
use Rattle.std.specs.List.{Contains, count_by}
use Rattle.std.specs.List.Sorted.{IsPartitionedBy, IsPartitionPoint}
use Rattle.std.proofs.lemmas.Bool.{cases_lt, both_ways}
use Rattle.std.proofs.lemmas.Int.{ints}
use Rattle.std.proofs.lemmas.Option.{get_or_from_slice_get, slice_get-get_or, same_Some, slice_get_within}
use Rattle.sk_lattice.specs.Thresholds.{IsThresholds, LEAST, GREATEST}
use Rattle.sk_interval.specs.Ends.{le_from, le_test, le_not, lt_from, lt_test, lt_not, lt_false, number_above, number_below}
use Rattle.sk_interval.specs.Widening.{floor_mark, ceiling_mark, MarksAreNearest}
use Rattle.sk_interval.specs.Laws.Widen.{floor_marked, ceiling_marked}
use Rattle.sk_interval.specs.Laws.Marks.{In, in_at, count_cons, floor_below, floor_in, floor_most, ceiling_above, ceiling_in, ceiling_least}

-- as many pass a test as come before the first that fails it
pub counted : (p : ℤ → Bool) (ms : List ℤ) (i : ℕ) → i ≤ length ms → IsPartitionPoint (λ m. p m ≡ true) (λ m. p m ≡ false) ms i → i ≡ count_by p ms
counted p [] i h point = omega arith
counted p (m ∷ ms) zero h point =
    let fails = point.1 0 m (omega arith) (omega arith) in
    let rest = counted p ms 0 (omega arith) ((λ k d l u. absurd (omega arith)), λ k d l u. point.1 (suc k) d (omega arith) (omega arith)) in
    rw (count_cons p m ms, fails) (omega arith)
counted p (m ∷ ms) (suc i) h point =
    let passes = point.0 0 m (omega arith) (omega arith) in
    let rest = counted p ms i (omega arith) ((λ k d l u. point.0 (suc k) d (omega arith) (omega arith)), λ k d l u. point.1 (suc k) d (omega arith) (omega arith)) in
    rw (count_cons p m ms, passes) (omega arith)

-- those that fail it are the others
counts_of_both : (x y : Bool) → y ≡ not x → cond x 1 0 + cond y 1 0 ≡ 1
counts_of_both true y h = rw h refl
counts_of_both false y h = rw h refl

pub counted_both : (p q : ℤ → Bool) (ms : List ℤ) → ((m : ℤ) → q m ≡ not (p m)) → count_by p ms + count_by q ms ≡ length ms
counted_both p q [] h = omega arith
counted_both p q (m ∷ ms) h =
    let rest = counted_both p q ms h in
    let one = counts_of_both (p m) (q m) (h m) in
    rw (count_cons p m ms, count_cons q m ms) (omega arith)

not_test : (x y : Bool) → (x ≡ true → y ≡ false) → (x ≡ false → y ≡ true) → y ≡ not x
not_test true y h k = h refl
not_test false y h k = k refl

pub above_or_not : (n m : ℤ) → int_lt n m ≡ not (int_le m n)
above_or_not n m =
    not_test (int_le m n) (int_lt n m)
    (λ e. let h = le_from m n e in lt_false n m h)
    (λ e. let h = le_not m n e in lt_test n m h)

-- an entry of a list by its place
place_of : (ms : List ℤ) (t : ℤ) → In ms t → (k : ℕ) × (slice_get ms k ≡ Some t)
place_of [] t h = absurd h
place_of (m ∷ ms) t (inl e) = (0, ap (λ (z : ℤ). Some z) e)
place_of (m ∷ ms) t (inr h) = let p = place_of ms t h in (suc p.0, p.1)

module _ (marks : List ℤ) (is : IsThresholds marks) where
  rise : (i j : ℕ) (m n : ℤ) → slice_get marks i ≡ Some m → slice_get marks j ≡ Some n → i ≤ j → m ≤ℤ n
  rise i j m n e f h = elim (cases_lt i j) [
    | inl lt ↦ let g = is.increasing i j m n lt e f in omega (arith, ints)
    | inr le ↦
        let same : i ≡ j = omega arith in
        same_entry (rw same at e)
  ]
    where
      same_entry : slice_get marks j ≡ Some m → m ≤ℤ n
      same_entry g = let s : m ≡ n = same_Some m n (sym g ∙ f) in omega (arith, ints)

  rises : (i j : ℕ) (d : ℤ) → i ≤ j → j < length marks → get_or marks i d ≤ℤ get_or marks j d
  rises i j d h k = rise i j (get_or marks i d) (get_or marks j d) (slice_get-get_or marks i d (omega arith)) (slice_get-get_or marks j d k) h

  -- those below a number come first, and those at most a number
  pub below_first : (n : ℤ) → IsPartitionedBy (λ m. int_lt m n) marks
  below_first n = λ i j d h k up. let e = rises i j d h k in let f = lt_from (get_or marks j d) n up in lt_test (get_or marks i d) n (omega (arith, ints))

  pub at_most_first : (n : ℤ) → IsPartitionedBy (λ m. int_le m n) marks
  at_most_first n = λ i j d h k up. let e = rises i j d h k in let f = le_from (get_or marks j d) n up in le_test (get_or marks i d) n (omega (arith, ints))

  module _ (n : ℤ) (i : ℕ) where
    -- what is known of a mark before or after the place
    passes : (p : ℤ → Bool) → IsPartitionPoint (λ m. p m ≡ true) (λ m. p m ≡ false) marks i → (k : ℕ) (m : ℤ) → k < i → slice_get marks k ≡ Some m → p m ≡ true
    passes p point k m h e = ap p (sym (get_or_from_slice_get marks k m m e)) ∙ point.0 k m (omega arith) h

    fails : (p : ℤ → Bool) → IsPartitionPoint (λ m. p m ≡ true) (λ m. p m ≡ false) marks i → (k : ℕ) (m : ℤ) → i ≤ k → slice_get marks k ≡ Some m → p m ≡ false
    fails p point k m h e = ap p (sym (get_or_from_slice_get marks k m m e)) ∙ point.1 k m h (slice_get_within marks k m e)

    module _ (point : IsPartitionPoint (λ m. int_le m n ≡ true) (λ m. int_le m n ≡ false) marks i) where
      pub some_at_most : LEAST ≤ℤ n → 0 < i
      some_at_most low = elim (cases_lt 0 i) [
        | inl lt ↦ lt
        | inr le ↦ absurd (both_ways (int_le LEAST n) (fails (λ m. int_le m n) point 0 LEAST le is.least) (le_test LEAST n low))
      ]

      pub floor_is : (x : ℤ) → LEAST ≤ℤ n → slice_get marks (i - 1) ≡ Some x → x ≡ floor_mark marks n
      floor_is x low e =
          let some = some_at_most low in
          let least = rise 0 (i - 1) LEAST x is.least e (omega arith) in
          let under = le_from x n (passes (λ m. int_le m n) point (i - 1) x (omega arith) e) in
          let most = floor_most marks n x (in_at marks (i - 1) x e) under in
          let least_of : floor_mark marks n ≤ℤ x = elim (floor_in marks n) [
            | inl f ↦ rw f least
            | inr f ↦
                let p = place_of marks (floor_mark marks n) f in
                let below = le_test (floor_mark marks n) n (floor_below marks n low) in
                elim (cases_lt p.0 i) [
                  | inl lt ↦ rise p.0 (i - 1) (floor_mark marks n) x p.1 e (omega arith)
                  | inr le ↦ absurd (both_ways (int_le (floor_mark marks n) n) (fails (λ m. int_le m n) point p.0 (floor_mark marks n) le p.1) below)
                ]
          ] in
          omega (arith, ints)

    module _ (point : IsPartitionPoint (λ m. int_lt m n ≡ true) (λ m. int_lt m n ≡ false) marks i) where
      pub some_at_least : n ≤ℤ GREATEST → i < length marks
      some_at_least high = elim (cases_lt i (length marks)) [
        | inl lt ↦ lt
        | inr le ↦
            let some = slice_get_within marks 0 LEAST is.least in
            let last = is.greatest (length marks - 1) (omega arith) (omega arith) in
            absurd (both_ways (int_lt GREATEST n) (lt_false GREATEST n high) (passes (λ m. int_lt m n) point (length marks - 1) GREATEST (omega arith) last))
      ]

      pub ceiling_is : (x : ℤ) → n ≤ℤ GREATEST → slice_get marks i ≡ Some x → x ≡ ceiling_mark marks n
      ceiling_is x high e =
          let within = some_at_least high in
          let last = is.greatest (length marks - 1) (omega arith) (omega arith) in
          let greatest = rise i (length marks - 1) x GREATEST e last (omega arith) in
          let over = lt_not x n (fails (λ m. int_lt m n) point i x (omega arith) e) in
          let least = ceiling_least marks n x (in_at marks i x e) over in
          let most_of : x ≤ℤ ceiling_mark marks n = elim (ceiling_in marks n) [
            | inl f ↦ rw f greatest
            | inr f ↦
                let p = place_of marks (ceiling_mark marks n) f in
                let above = lt_false (ceiling_mark marks n) n (ceiling_above marks n high) in
                elim (cases_lt p.0 i) [
                  | inl lt ↦ absurd (both_ways (int_lt (ceiling_mark marks n) n) above (passes (λ m. int_lt m n) point p.0 (ceiling_mark marks n) lt p.1))
                  | inr le ↦ rise i p.0 x (ceiling_mark marks n) e p.1 le
                ]
          ] in
          omega (arith, ints)

-- an entry of a list, by std's word
contains : (ms : List ℤ) (t : ℤ) → In ms t → Contains ms t
contains ms t h = let p = place_of ms t h in (p.0, slice_get_within ms p.0 t p.1, get_or_from_slice_get ms p.0 t t p.1)

in_by : (ms : List ℤ) (t : ℤ) → Contains ms t → In ms t
in_by ms t h = in_at ms h.0 t (slice_get-get_or ms h.0 t h.1 ∙ ap (λ (z : ℤ). Some z) h.2)

pub marks_are_nearest : MarksAreNearest
marks_are_nearest marks is n fits =
    let low = number_above n fits in
    let high = number_below n fits in (
      record {
        mark = contains marks (floor_mark marks n) (floor_marked marks is n);
        below = floor_below marks n low;
        nearest = λ m h k. floor_most marks n m (in_by marks m h) k;
      },
      record {
        mark = contains marks (ceiling_mark marks n) (ceiling_marked marks is n);
        above = ceiling_above marks n high;
        nearest = λ m h k. ceiling_least marks n m (in_by marks m h) k;
      },
    )
