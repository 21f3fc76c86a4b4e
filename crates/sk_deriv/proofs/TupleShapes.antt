-- The sorts of the values that were read, as long as names may still be added.
use Rattle.std.proofs.Common.{◌≡◌, ℕ, zero, suc, ◌+◌, ◌-◌, ◌≤◌, Bool, true, false, List, [], ◌∷◌, ◌++◌, length, map, replicate, refl, ap, arith, rules, length-append, Option, Some, None}
use Rattle.std.specs.Prelude.{slice_get, slice_set, ◌&&◌, ◌==◌}
use Rattle.std.specs.List.{list_all}
use Rattle.std.proofs.lemmas.List.{length-replicate}
use Rattle.sk_base.specs.declared.flow.FlowSort.{FlowSort}
use Rattle.sk_base.specs.declared.flow.FlowSort.TheVariants as sort
use Rattle.sk_value.specs.declared.flow.Flow.{Flow}
use Rattle.sk_value.specs.declared.value.Value.{Value}
use Rattle.sk_value.specs.Padding.{padded_flow, padded_store}
use Rattle.sk_deriv.specs.Meets.{flow_holds_numbers}
use Rattle.sk_deriv.specs.Moves.{has_sort, have_sorts, holds_number, place_holds_number}
use Rattle.sk_deriv.specs.Reading.{with_value}

-- a value has the sort, and a store no more places than names
abbrev pub HasShape : ℕ → FlowSort → Flow → Type 0
HasShape names sort.Int (Flow.Int z) = Unit {0}
HasShape names sort.Bool (Flow.Bool b) = Unit {0}
HasShape names sort.Val (Flow.Val v) = Unit {0}
HasShape names sort.Store (Flow.Store s) = length s ≤ names
HasShape names _ _ = ⊥

abbrev pub HaveShapes : ℕ → List FlowSort → List Flow → Type 0
HaveShapes names [] [] = Unit {0}
HaveShapes names (s ∷ sorts) (flow ∷ flows) = HasShape names s flow × HaveShapes names sorts flows
HaveShapes names _ _ = ⊥

-- more names may stand
shape_by_more : (names more : ℕ) (s : FlowSort) (flow : Flow) → names ≤ more → HasShape names s flow → HasShape more s flow
shape_by_more names more sort.Int (Flow.Int z) h k = tt
shape_by_more names more sort.Bool (Flow.Bool b) h k = tt
shape_by_more names more sort.Val (Flow.Val v) h k = tt
shape_by_more names more sort.Store (Flow.Store s) h k = omega arith
shape_by_more names more sort.Int (Flow.Bool b) h k = absurd k
shape_by_more names more sort.Int (Flow.Val v) h k = absurd k
shape_by_more names more sort.Int (Flow.Store s) h k = absurd k
shape_by_more names more sort.Bool (Flow.Int z) h k = absurd k
shape_by_more names more sort.Bool (Flow.Val v) h k = absurd k
shape_by_more names more sort.Bool (Flow.Store s) h k = absurd k
shape_by_more names more sort.Val (Flow.Int z) h k = absurd k
shape_by_more names more sort.Val (Flow.Bool b) h k = absurd k
shape_by_more names more sort.Val (Flow.Store s) h k = absurd k
shape_by_more names more sort.Store (Flow.Int z) h k = absurd k
shape_by_more names more sort.Store (Flow.Bool b) h k = absurd k
shape_by_more names more sort.Store (Flow.Val v) h k = absurd k

pub shapes_by_more : (names more : ℕ) (sorts : List FlowSort) (flows : List Flow) → names ≤ more → HaveShapes names sorts flows → HaveShapes more sorts flows
shapes_by_more names more [] [] h k = tt
shapes_by_more names more (s ∷ sorts) (flow ∷ flows) h k = (shape_by_more names more s flow h k.0, shapes_by_more names more sorts flows h k.1)
shapes_by_more names more [] (flow ∷ flows) h k = absurd k
shapes_by_more names more (s ∷ sorts) [] h k = absurd k

-- one value more
pub shapes_and : (names : ℕ) (sorts : List FlowSort) (flows : List Flow) (s : FlowSort) (flow : Flow) → HaveShapes names sorts flows → HasShape names s flow → HaveShapes names (sorts ++ s ∷ []) (flows ++ flow ∷ [])
shapes_and names [] [] s flow h k = (k, tt)
shapes_and names (first ∷ sorts) (value ∷ flows) s flow h k = (h.0, shapes_and names sorts flows s flow h.1 k)
shapes_and names [] (value ∷ flows) s flow h k = absurd h
shapes_and names (first ∷ sorts) [] s flow h k = absurd h

-- as many values as sorts
pub as_many_values : (names : ℕ) (sorts : List FlowSort) (flows : List Flow) → HaveShapes names sorts flows → length flows ≡ length sorts
as_many_values names [] [] h = refl
as_many_values names (s ∷ sorts) (flow ∷ flows) h = ap suc (as_many_values names sorts flows h.1)
as_many_values names [] (flow ∷ flows) h = absurd h
as_many_values names (s ∷ sorts) [] h = absurd h

abbrev pub head_of : List FlowSort → Option FlowSort
head_of [] = None
head_of (s ∷ sorts) = Some s

-- the sort of the next value
pub next_is : (names : ℕ) (front rest : List FlowSort) (flows : List Flow) → HaveShapes names front flows → slice_get (front ++ rest) (length flows) ≡ head_of rest
next_is names [] [] [] h = refl
next_is names [] (s ∷ rest) [] h = refl
next_is names (s ∷ front) rest (flow ∷ flows) h = next_is names front rest flows h.1
next_is names [] rest (flow ∷ flows) h = absurd h
next_is names (s ∷ front) rest [] h = absurd h

both : (a b : Bool) → a ≡ true → b ≡ true → a && b ≡ true
both a b h k = rw (h, k) refl

unset_holds : (n : ℕ) → list_all place_holds_number (replicate n None) ≡ true
unset_holds zero = refl
unset_holds (suc n) = unset_holds n

padded_holds : (s : List (Option Value)) (n : ℕ) → list_all place_holds_number s ≡ true → list_all place_holds_number (s ++ replicate n None) ≡ true
padded_holds [] n h = unset_holds n
padded_holds (value ∷ s) n h = search (rules, padded_holds s n)

length_is : (n m : ℕ) → n ≡ m → n == m ≡ true
length_is n m h = search (rules, h)

padded_long : (names : ℕ) (s : List (Option Value)) → length s ≤ names → length (padded_store names s) ≡ names
padded_long names s h = omega (arith, length-append s (replicate (names - length s) None), length-replicate {A = Option Value} (names - length s) None)

padded_has_sort : (names : ℕ) (s : FlowSort) (flow : Flow) → HasShape names s flow → flow_holds_numbers flow ≡ true → has_sort names s (padded_flow names flow) ≡ true
padded_has_sort names sort.Int (Flow.Int z) h k = k
padded_has_sort names sort.Bool (Flow.Bool b) h k = refl
padded_has_sort names sort.Val (Flow.Val v) h k = k
padded_has_sort names sort.Store (Flow.Store s) h k = both _ _ (length_is _ _ (padded_long names s h)) (padded_holds s (names - length s) k)
padded_has_sort names sort.Int (Flow.Bool b) h k = absurd h
padded_has_sort names sort.Int (Flow.Val v) h k = absurd h
padded_has_sort names sort.Int (Flow.Store s) h k = absurd h
padded_has_sort names sort.Bool (Flow.Int z) h k = absurd h
padded_has_sort names sort.Bool (Flow.Val v) h k = absurd h
padded_has_sort names sort.Bool (Flow.Store s) h k = absurd h
padded_has_sort names sort.Val (Flow.Int z) h k = absurd h
padded_has_sort names sort.Val (Flow.Bool b) h k = absurd h
padded_has_sort names sort.Val (Flow.Store s) h k = absurd h
padded_has_sort names sort.Store (Flow.Int z) h k = absurd h
padded_has_sort names sort.Store (Flow.Bool b) h k = absurd h
padded_has_sort names sort.Store (Flow.Val v) h k = absurd h

parts : (a b : Bool) → a && b ≡ true → (a ≡ true) × (b ≡ true)
parts true b h = (refl, h)
parts false b h = absurd (cc)

-- once all names stand, the padded values have their sorts
pub padded_have_sorts : (names : ℕ) (sorts : List FlowSort) (flows : List Flow) → HaveShapes names sorts flows → list_all flow_holds_numbers flows ≡ true → have_sorts names sorts (map (padded_flow names) flows) ≡ true
padded_have_sorts names [] [] h k = refl
padded_have_sorts names (s ∷ sorts) (flow ∷ flows) h k =
    let p = parts (flow_holds_numbers flow) (list_all flow_holds_numbers flows) k in
    both _ _ (padded_has_sort names s flow h.0 p.0) (padded_have_sorts names sorts flows h.1 p.1)
padded_have_sorts names [] (flow ∷ flows) h k = absurd h
padded_have_sorts names (s ∷ sorts) [] h k = absurd h

set_holds : (s : List (Option Value)) (at : ℕ) (v : Value) → holds_number v ≡ true → list_all place_holds_number s ≡ true → list_all place_holds_number (slice_set s at (Some v)) ≡ true
set_holds [] at v h k = refl
set_holds (first ∷ s) zero v h k = both _ _ h (parts (place_holds_number first) (list_all place_holds_number s) k).1
set_holds (first ∷ s) (suc at) v h k =
    let p = parts (place_holds_number first) (list_all place_holds_number s) k in
    both _ _ p.0 (set_holds s at v h p.1)

-- a store in which a name is set to a number in range
pub with_value_holds : (s : List (Option Value)) (place : ℕ) (v : Value) → holds_number v ≡ true → list_all place_holds_number s ≡ true → list_all place_holds_number (with_value s place v) ≡ true
with_value_holds s place v h k = set_holds (padded_store (place + 1) s) place v h (padded_holds s ((place + 1) - length s) k)
