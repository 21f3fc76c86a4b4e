-- The sorted list of the marks.
use Rattle.std.proofs.Common.{◌≡◌, ℕ, zero, suc, ◌+◌, ◌^◌, ◌<◌, ◌≤◌, ℤ, pos, ◌+ℤ◌, ◌-ℤ◌, ◌≤ℤ◌, ◌<ℤ◌, Bool, true, false, cond, List, [], ◌∷◌, ◌++◌, length, get_or, Some, refl, sym, ◌∙◌, ap, subst, inl, inr, arith}
use Rattle.std.specs.Prelude.{int_lt, slice_get}
use Rattle.std.specs.List.{Contains, dedup}
use Rattle.std.specs.List.Sorted.{IsPermutation, IsSorted, IsStrictlySortedBy}
use Rattle.std.proofs.Common.{Ordering, Less, Greater, Equal}
use Rattle.std.specs.Ordering.{int_cmp, int_eq, eq_by_cmp, is_eq}
use Rattle.std.proofs.lemmas.Int.{ints}
use Rattle.std.proofs.lemmas.Bool.{cases_lt, false_from_ne_true}
use Rattle.std.proofs.lemmas.Bool.Decides.{Decides-int_eq}
use Rattle.std.proofs.lemmas.Cmp.{int_cmp_total, int_eq_equiv}
use Rattle.std.proofs.lemmas.List.Kept.{IsStrictlySortedBy-dedup, Contains-dedup, Contains-from_dedup}
use Rattle.std.proofs.lemmas.List.Sorted.{Contains-permutation}
use Rattle.std.proofs.lemmas.List.Elements.{Contains-append_cases}
use Rattle.std.proofs.lemmas.Map.Keys.{Less-from_sorted}
use Rattle.std.proofs.lemmas.Option.{get_or_from_slice_get, slice_get-get_or, slice_get_within}
use Rattle.sk_value.specs.Numbers.{is_number}
use Rattle.sk_lattice.proofs.Pushes.{length_all, within_number}
use Rattle.sk_lattice.specs.Thresholds.{IsThresholds, LEAST, GREATEST, in_range, near, near_all, all_marks, standard, AreMarksOf}

less_from : (m n : ℤ) → int_cmp m n ≡ Less → m <ℤ n
less_from m n h = by (int_lt m n) refl (int_lt n m) h
  where
    other : (x : Ordering) → x ≡ Greater → x ≡ Less → ⊥
    other x e f = cc

    same : (x : Ordering) → x ≡ Equal → x ≡ Less → ⊥
    same x e f = cc

    by : (t : Bool) → int_lt m n ≡ t → (u : Bool) → cond t Less (cond u Greater Equal) ≡ Less → m <ℤ n
    by true e u h = omega (arith, ints)
    by false e true h = absurd (other Greater refl h)
    by false e false h = absurd (same Equal refl h)

ties : (x y : ℤ) → int_eq x y ≡ eq_by_cmp int_cmp x y
ties x y = by (int_lt x y) refl (int_lt y x) refl
  where
    by : (t : Bool) → int_lt x y ≡ t → (u : Bool) → int_lt y x ≡ u → int_eq x y ≡ is_eq (cond t Less (cond u Greater Equal))
    by true e u f = false_from_ne_true (int_eq x y) (λ g. let h = (Decides-int_eq x y).0 g in omega (arith, ints))
    by false e true f = false_from_ne_true (int_eq x y) (λ g. let h = (Decides-int_eq x y).0 g in omega (arith, ints))
    by false e false f = (Decides-int_eq x y).1 (omega (arith, ints))

rises : (zs : List ℤ) → IsStrictlySortedBy int_cmp zs → (i j : ℕ) (m n : ℤ) → i < j → slice_get zs i ≡ Some m → slice_get zs j ≡ Some n → m <ℤ n
rises zs up i j m n h p q =
    let in_list = slice_get_within zs j n q in
    let e = get_or_from_slice_get zs i m m p in
    let f = get_or_from_slice_get zs j n m q in
    less_from m n (rw (e, f) at (Less-from_sorted int_cmp zs i j m up h in_list))

module _ (zs : List ℤ) (up : IsStrictlySortedBy int_cmp zs)
    (low : (m : ℤ) → Contains zs m → LEAST ≤ℤ m)
    (high : (m : ℤ) → Contains zs m → m ≤ℤ GREATEST)
  where
    first : Contains zs LEAST → slice_get zs 0 ≡ Some LEAST
    first h =
        let k = h.0 in
        let z = get_or zs 0 LEAST in
        let there = slice_get-get_or zs 0 LEAST (omega (arith, h.1)) in
        elim (cases_lt 0 k) [
          | inl p ↦
              let less = less_from z LEAST (rw h.2 at (Less-from_sorted int_cmp zs 0 k LEAST up p h.1)) in
              let least = low z (0, omega (arith, h.1), get_or_from_slice_get zs 0 z z there) in
              absurd (omega (arith, ints))
          | inr p ↦ there ∙ ap Some (ap (λ (x : ℕ). get_or zs x LEAST) (omega arith) ∙ h.2)
        ]

    last : Contains zs GREATEST → (k : ℕ) → k < length zs → length zs ≤ k + 1 → slice_get zs k ≡ Some GREATEST
    last h k p q =
        let j = h.0 in
        let z = get_or zs k GREATEST in
        let there = slice_get-get_or zs k GREATEST p in
        elim (cases_lt j k) [
          | inl r ↦
              let more = less_from GREATEST z (rw h.2 at (Less-from_sorted int_cmp zs j k GREATEST up r p)) in
              let most = high z (k, p, get_or_from_slice_get zs k z z there) in
              absurd (omega (arith, ints))
          | inr r ↦ there ∙ ap Some (ap (λ (x : ℕ). get_or zs x GREATEST) (omega (arith, h.1)) ∙ h.2)
        ]

-- all marks are numbers
abbrev pub InRange : ℤ → Type 0
InRange m = (LEAST ≤ℤ m) × (m ≤ℤ GREATEST)

abbrev pub AllIn : List ℤ → Type 0
AllIn [] = Unit {0}
AllIn (x ∷ xs) = InRange x × AllIn xs

all_append : (xs ys : List ℤ) → AllIn xs → AllIn ys → AllIn (xs ++ ys)
all_append [] ys h k = k
all_append (x ∷ xs) ys h k = (h.0, all_append xs ys h.1 k)

one_in : (t : Bool) (x : ℤ) → (t ≡ true → InRange x) → AllIn (cond t (x ∷ []) [])
one_in true x h = (h refl, tt)
one_in false x h = tt

number_in : (m : ℤ) → AllIn (in_range m)
number_in m = one_in (is_number m) m (within_number m)

near_in : (v : ℤ) → AllIn (near v)
near_in v =
    all_append (in_range (v -ℤ pos 1)) (in_range v ++ in_range (v +ℤ pos 1)) (number_in (v -ℤ pos 1))
    (all_append (in_range v) (in_range (v +ℤ pos 1)) (number_in v) (number_in (v +ℤ pos 1)))

near_all_in : (ls : List ℤ) → AllIn (near_all ls)
near_all_in [] = tt
near_all_in (v ∷ vs) = all_append (near v) (near_all vs) (near_in v) (near_all_in vs)

all_marks_in : (ls : List ℤ) → AllIn (all_marks ls)
all_marks_in ls =
    all_append standard (near_all ls)
    ((omega (arith, ints), omega (arith, ints)), ((omega (arith, ints), omega (arith, ints)), ((omega (arith, ints), omega (arith, ints)), ((omega (arith, ints), omega (arith, ints)), ((omega (arith, ints), omega (arith, ints)), tt)))))
    (near_all_in ls)

only : (x m : ℤ) → Contains (x ∷ []) m → x ≡ m
only x m h = at_zero h.0 h.1 h.2
  where
    at_zero : (k : ℕ) → k < length (x ∷ []) → get_or (x ∷ []) k m ≡ m → x ≡ m
    at_zero zero p e = e
    at_zero (suc k) p e = absurd (omega arith)

at_in : (xs : List ℤ) (m : ℤ) → AllIn xs → Contains xs m → InRange m
at_in [] m h k = absurd (omega (arith, k.1))
at_in (x ∷ xs) m h k =
    elim (Contains-append_cases (x ∷ []) xs m k) [
      | inl p ↦ rw (only x m p) at h.0
      | inr p ↦ at_in xs m h.1 p
    ]

-- the marks after the sort and the removal of doubles
module _ (ls xs ys zs : List ℤ) (is : xs ≡ all_marks ls) (moved : IsPermutation xs ys) (back : IsPermutation ys xs)
    (sorted : IsSorted int_cmp ys) (once : zs ≡ dedup int_eq ys)
  where
    kept : (m : ℤ) → Contains xs m → Contains zs m
    kept m h =
        subst (λ (l : List ℤ). Contains l m) (sym once)
        (Contains-dedup int_eq_equiv (λ x y e. (Decides-int_eq x y).0 e) ys m (Contains-permutation xs ys m moved h))

    came : (m : ℤ) → Contains zs m → Contains xs m
    came m h = Contains-permutation ys xs m back (Contains-from_dedup int_eq ys m (subst (λ (l : List ℤ). Contains l m) once h))

    pub are_marks : AreMarksOf ls zs
    are_marks = record { same = λ m. ((λ h. subst (λ (l : List ℤ). Contains l m) is (came m h)), (λ h. kept m (subst (λ (l : List ℤ). Contains l m) (sym is) h))) }

    pub are_thresholds : length ls < 2 ^ 30 → length zs ≤ length xs → IsThresholds zs
    are_thresholds few short =
        let up : IsStrictlySortedBy int_cmp zs = subst (λ (l : List ℤ). IsStrictlySortedBy int_cmp l) (sym once) (IsStrictlySortedBy-dedup int_cmp_total ties ys sorted) in
        record {
          at_most = few_marks;
          least = first zs up (λ m h. (bound m h).0) (λ m h. (bound m h).1) ((are_marks.same LEAST).1 (0, omega arith, refl));
          greatest = last zs up (λ m h. (bound m h).0) (λ m h. (bound m h).1) ((are_marks.same GREATEST).1 (4, omega arith, refl));
          increasing = rises zs up;
        }
      where
        bound : (m : ℤ) → Contains zs m → InRange m
        bound m h = at_in (all_marks ls) m (all_marks_in ls) ((are_marks.same m).0 h)

        few_marks : length zs ≤ 2 ^ 32
        few_marks = let p : length xs ≡ length (all_marks ls) = ap length is in omega (arith, length_all ls)
