-- The sorts of the flows that were read, as long as names may still be added.
use Rattle.std.proofs.Common.{◌≡◌, ℕ, zero, suc, ◌-◌, ◌≤◌, Bool, true, false, cond, List, [], ◌∷◌, ◌++◌, length, map, replicate, refl, ap, ◌∙◌, arith, rules, length-append, Option, Some, None}
use Rattle.std.specs.Prelude.{slice_get, ◌&&◌, ◌||◌, not, nat_eq}
use Rattle.std.specs.List.{list_all, list_any}
use Rattle.std.proofs.lemmas.Bool.{or_parts}
use Rattle.std.proofs.lemmas.List.{length-replicate}
use Rattle.std.proofs.lemmas.List.Folds.{list_all-append}
use Rattle.sk_base.specs.declared.flow.FlowSort.{FlowSort}
use Rattle.sk_base.specs.declared.flow.FlowSort.TheVariants as sort
use Rattle.sk_lattice.specs.Domain.{Domain}
use Rattle.sk_lattice.specs.Empty.{cell_is_empty, store_of, val_is_empty, flow_is_empty, flow_is_proper, is_proper}
use Rattle.sk_lattice.specs.Padding.{padded_cells, padded_flow, unset_cell}
use Rattle.sk_lattice.specs.Shapes.{flow_has_sort, has_sorts}
use Rattle.sk_lattice.specs.Truth.{bool_is_empty}
use Rattle.sk_lattice.specs.declared.truth.AbsBool.{AbsBool}
use Rattle.sk_lattice.specs.declared.value.AbsVal.{AbsVal}
use Rattle.sk_lattice.specs.declared.cell.AbsCell.{AbsCell}
use Rattle.sk_lattice.specs.declared.store.AbsStore.TheVariants.{Empty, Cells}
use Rattle.sk_lattice.specs.declared.flow.AbsFlow.{AbsFlow}
use Rattle.sk_lattice.specs.declared.flow.AbsFlow.TheVariants as flow
use Rattle.sk_table.specs.Meets.{is_clean}
use Rattle.sk_table.specs.Tuples.{all_cells}

-- a flow has the sort, and a store no more cells than names, none of them empty
pub data HasShape {D : Type 0} (d : Domain D) (names : ℕ) : FlowSort → AbsFlow D → Type 0 where
  an_int : {a : D} → HasShape d names sort.Int (flow.Int a)
  a_bool : {a : AbsBool} → HasShape d names sort.Bool (flow.Bool a)
  a_val : {a : AbsVal D} → HasShape d names sort.Val (flow.Val a)
  no_store : HasShape d names sort.Store (flow.Store Empty)
  a_store : {cells : List (AbsCell D)} → length cells ≤ names → list_all (λ c. not (cell_is_empty d c)) cells ≡ true → HasShape d names sort.Store (flow.Store (Cells cells))

pub data HaveShapes {D : Type 0} (d : Domain D) (names : ℕ) : List FlowSort → List (AbsFlow D) → Type 0 where
  no_flow : HaveShapes d names [] []
  a_flow : {s : FlowSort} {x : AbsFlow D} {sorts : List FlowSort} {flows : List (AbsFlow D)} → HasShape d names s x → HaveShapes d names sorts flows → HaveShapes d names (s ∷ sorts) (x ∷ flows)

-- more names may stand
shape_by_more : {D : Type 0} {d : Domain D} {names more : ℕ} {s : FlowSort} {x : AbsFlow D} → names ≤ more → HasShape d names s x → HasShape d more s x
shape_by_more h an_int = an_int
shape_by_more h a_bool = a_bool
shape_by_more h a_val = a_val
shape_by_more h no_store = no_store
shape_by_more h (a_store long proper) = a_store (omega (arith, h, long)) proper

pub shapes_by_more : {D : Type 0} {d : Domain D} {names more : ℕ} {sorts : List FlowSort} {flows : List (AbsFlow D)} → names ≤ more → HaveShapes d names sorts flows → HaveShapes d more sorts flows
shapes_by_more h no_flow = no_flow
shapes_by_more h (a_flow shape shapes) = a_flow (shape_by_more h shape) (shapes_by_more h shapes)

-- one flow more
pub shapes_and : {D : Type 0} {d : Domain D} {names : ℕ} {sorts : List FlowSort} {flows : List (AbsFlow D)} {s : FlowSort} {x : AbsFlow D} → HaveShapes d names sorts flows → HasShape d names s x →
    HaveShapes d names (sorts ++ s ∷ []) (flows ++ x ∷ [])
shapes_and no_flow k = a_flow k no_flow
shapes_and (a_flow shape shapes) k = a_flow shape (shapes_and shapes k)

-- as many flows as sorts
pub as_many_flows : {D : Type 0} {d : Domain D} {names : ℕ} {sorts : List FlowSort} {flows : List (AbsFlow D)} → HaveShapes d names sorts flows → length flows ≡ length sorts
as_many_flows no_flow = refl
as_many_flows (a_flow shape shapes) = ap suc (as_many_flows shapes)

abbrev pub head_of : List FlowSort → Option FlowSort
head_of [] = None
head_of (s ∷ sorts) = Some s

-- the sort of the next flow
pub next_is : {D : Type 0} {d : Domain D} {names : ℕ} {front : List FlowSort} {flows : List (AbsFlow D)} (rest : List FlowSort) → HaveShapes d names front flows → slice_get (front ++ rest) (length flows) ≡ head_of rest
next_is [] no_flow = refl
next_is (s ∷ rest) no_flow = refl
next_is rest (a_flow shape shapes) = next_is rest shapes

both_false : (b c e : Bool) → b || c ≡ false → (c ≡ false → e ≡ true) → not b && e ≡ true
both_false true c e h k = absurd (cc)
both_false false c e h k = k h

none_empty : {D : Type 0} (p : D → Bool) (xs : List D) → list_any p xs ≡ false → list_all (λ x. not (p x)) xs ≡ true
none_empty p [] h = refl
none_empty p (x ∷ xs) h = both_false (p x) _ _ h (none_empty p xs)

-- a store of no more cells than names
pub store_has_shape : {D : Type 0} (d : Domain D) (names : ℕ) (cells : List (AbsCell D)) → length cells ≤ names → HasShape d names sort.Store (flow.Store (store_of d cells))
store_has_shape d names cells h = by_empty (list_any (cell_is_empty d) cells) refl where
  by_empty : (b : Bool) → list_any (cell_is_empty d) cells ≡ b → HasShape d names sort.Store (flow.Store (cond b Empty (Cells cells)))
  by_empty true e = no_store
  by_empty false e = a_store h (none_empty (cell_is_empty d) cells e)

pub all_cells_long : {D : Type 0} (d : Domain D) (cells : List (Option (AbsCell D))) → length (all_cells d cells) ≡ length cells
all_cells_long d [] = refl
all_cells_long d (cell ∷ cells) = ap suc (all_cells_long d cells)

excluded : (b : Bool) → b || not b ≡ true
excluded true = refl
excluded false = refl

shape_is_clean : {D : Type 0} {d : Domain D} {names : ℕ} {s : FlowSort} {x : AbsFlow D} → HasShape d names s x → is_clean d x ≡ true
shape_is_clean {d = d} (an_int {a = a}) = excluded (d.is_empty a)
shape_is_clean {d = d} (a_bool {a = a}) = excluded (bool_is_empty a)
shape_is_clean {d = d} (a_val {a = a}) = excluded (val_is_empty d a)
shape_is_clean no_store = refl
shape_is_clean (a_store long proper) = proper

both : (a b : Bool) → a ≡ true → b ≡ true → a && b ≡ true
both a b h k = rw (h, k) refl

pub shapes_are_clean : {D : Type 0} {d : Domain D} {names : ℕ} {sorts : List FlowSort} {flows : List (AbsFlow D)} → HaveShapes d names sorts flows → list_all (is_clean d) flows ≡ true
shapes_are_clean no_flow = refl
shapes_are_clean (a_flow shape shapes) = both _ _ (shape_is_clean shape) (shapes_are_clean shapes)

same_length : (n m : ℕ) → n ≡ m → nat_eq n m ≡ true
same_length n m h = search (rules, h)

padded_long : {D : Type 0} (d : Domain D) (names : ℕ) (cells : List (AbsCell D)) → length cells ≤ names → length (padded_cells d names cells) ≡ names
padded_long d names cells h = omega (arith, h, length-append cells (replicate (names - length cells) (unset_cell d)), length-replicate (names - length cells) (unset_cell d))

padded_has_sort : {D : Type 0} {d : Domain D} {names : ℕ} {s : FlowSort} {x : AbsFlow D} → HasShape d names s x → flow_has_sort names s (padded_flow d names x) ≡ true
padded_has_sort an_int = refl
padded_has_sort a_bool = refl
padded_has_sort a_val = refl
padded_has_sort no_store = refl
padded_has_sort {d = d} {names = names} (a_store {cells = cells} long proper) = same_length _ _ (padded_long d names cells long)

-- once all names stand, the padded flows have their sorts
pub padded_have_sorts : {D : Type 0} {d : Domain D} {names : ℕ} {sorts : List FlowSort} {flows : List (AbsFlow D)} → HaveShapes d names sorts flows → has_sorts names sorts (map (padded_flow d names) flows) ≡ true
padded_have_sorts no_flow = refl
padded_have_sorts (a_flow shape shapes) = both _ _ (padded_has_sort shape) (padded_have_sorts shapes)

not_unset : (b : Bool) → not (b && not true) ≡ true
not_unset true = refl
not_unset false = refl

unset_full : {D : Type 0} (d : Domain D) (n : ℕ) → list_all (λ c. not (cell_is_empty d c)) (replicate n (unset_cell d)) ≡ true
unset_full d zero = refl
unset_full d (suc n) = both _ _ (not_unset (val_is_empty d (unset_cell d).val)) (unset_full d n)

full_is_proper : {D : Type 0} {d : Domain D} {names : ℕ} {s : FlowSort} {x : AbsFlow D} → HasShape d names s x → flow_is_empty d x ≡ false → flow_is_proper d (padded_flow d names x) ≡ true
full_is_proper an_int e = ap not e
full_is_proper a_bool e = ap not e
full_is_proper a_val e = ap not e
full_is_proper no_store e = absurd (cc)
full_is_proper {d = d} {names = names} (a_store {cells = cells} long proper) e =
    list_all-append (λ c. not (cell_is_empty d c)) cells (replicate (names - length cells) (unset_cell d)) ∙ both _ _ proper (unset_full d (names - length cells))

-- where no flow is empty, no part of the padded ones is
pub full_are_proper : {D : Type 0} {d : Domain D} {names : ℕ} {sorts : List FlowSort} {flows : List (AbsFlow D)} → HaveShapes d names sorts flows → list_any (flow_is_empty d) flows ≡ false → is_proper d (map (padded_flow d names) flows) ≡ true
full_are_proper no_flow e = refl
full_are_proper {d = d} (a_flow {x = x} {flows = flows} shape shapes) e =
    let p = or_parts (flow_is_empty d x) (list_any (flow_is_empty d) flows) e in
    both _ _ (full_is_proper shape p.0) (full_are_proper shapes p.1)
