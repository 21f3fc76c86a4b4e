-- The abstract results of the filters: one line per filter, in the words of their results on values.
use Rattle.std.specs.Prelude.{ℕ, ℤ, pos, Bool, true, false, not, ◌&&◌, ◌||◌, if◌then◌else◌, List, [], ◌∷◌, replicate, Option, Some, None, slice_get, slice_set, unwrap_or}
use Rattle.std.specs.List.{list_all}
use Rattle.std.specs.Option.{option_map_or, option_and_then}
use Rattle.sk_def.specs.declared.filter.Filter.{Filter}
use Rattle.sk_value.specs.declared.arith.Arith.{Arith}
use Rattle.sk_value.specs.declared.arith.Compare.{Compare}
use Rattle.sk_value.specs.declared.arith.Refine.TheVariants as refine
use Rattle.sk_lattice.specs.declared.truth.AbsBool.{AbsBool}
use Rattle.sk_lattice.specs.declared.value.AbsVal.{AbsVal}
use Rattle.sk_lattice.specs.declared.cell.AbsCell.{AbsCell}
use Rattle.sk_lattice.specs.declared.store.AbsStore.TheVariants.{Cells}
use Rattle.sk_lattice.specs.declared.flow.AbsFlow.{AbsFlow}
use Rattle.sk_lattice.specs.declared.flow.AbsFlow.TheVariants as flow
use Rattle.sk_lattice.specs.Domain.{Domain}
use Rattle.sk_lattice.specs.Empty.{val_is_empty, flow_is_proper, is_proper}
use Rattle.sk_lattice.specs.Padding.{unset_cell}
use Rattle.sk_absfilter.specs.declared.arg.AbsArg.{AbsArg}
use Rattle.sk_absfilter.specs.declared.arg.AbsArg.TheVariants.{Number, Name, Flow}
use Rattle.sk_absfilter.specs.Arguments.{the_number, the_int, the_ints, the_bool, the_bools, the_val, the_store, the_cell, the_cell_and_val}
use Rattle.sk_absfilter.specs.Truths.{no_truth, both_truths, only_truth, truths_given, truths_of_pairs}

-- a tuple, or none where nothing is covered
abbrev pub Outcome : Type 0 → Type 0
Outcome D = Option (List (AbsFlow D))

abbrev pub one : {D : Type 0} → AbsFlow D → Outcome D
one a = Some (a ∷ [])

-- the element of one number
abbrev pub number : {D : Type 0} → Domain D → ℤ → Outcome D
number d z = one (flow.Int (d.of z))

-- the empty tuple where the test holds
abbrev pub passing : {D : Type 0} → Bool → Outcome D
passing holds = if holds then Some [] else None

-- both sides of a refined pair, and whether neither is empty
abbrev pub sides : {D : Type 0} → D × D → Outcome D
sides p = Some (flow.Int p.0 ∷ flow.Int p.1 ∷ [])

abbrev pub some_pair : {D : Type 0} → Domain D → D × D → Bool
some_pair d p = not (d.is_empty p.0) && not (d.is_empty p.1)

-- numbers with no truth value, and truth values with no number
abbrev pub numbers_alone : {D : Type 0} → D → AbsVal D
numbers_alone a = record { num = a; truth = no_truth }

abbrev pub truths_alone : {D : Type 0} → Domain D → AbsBool → AbsVal D
truths_alone d b = record { num = d.empty; truth = b }

-- the cell of a name that is set to the val
abbrev pub set_cell : {D : Type 0} → AbsVal D → AbsCell D
set_cell v = record { val = v; unset = false }

-- the cell of a name; past the last one no name is set
abbrev pub cell_at : {D : Type 0} → Domain D → List (AbsCell D) → ℕ → AbsCell D
cell_at d cells n = unwrap_or (slice_get cells n) (unset_cell d)

-- whether a name is set: it may be where there is a value, and may not be where the cell says so
abbrev pub may_be_set : {D : Type 0} → Domain D → AbsCell D → AbsBool
may_be_set d c = record { has_true = not (val_is_empty d c.val); has_false = c.unset }

-- what a filter does with arguments of the sorts that it takes; with others it has no result
abbrev pub on : {D X : Type 0} → Option X → (X → Outcome D) → Outcome D
on given f = option_map_or f given None

abbrev pub on_both : {D X Y : Type 0} → Option (X × Y) → (X → Y → Outcome D) → Outcome D
on_both given f = option_map_or (λ p. f p.0 p.1) given None

abbrev pub on_all : {D X Y Z : Type 0} → Option (X × Y × Z) → (X → Y → Z → Outcome D) → Outcome D
on_all given f = option_map_or (λ p. f p.0 p.1 p.2) given None

-- what a filter gives before emptiness is looked at, over this number of names
abbrev pub raw_result : {D : Type 0} → Domain D → Filter → ℕ → List (AbsArg D) → Outcome D
raw_result d Filter.Lit names args = on (the_number args) (number d)
raw_result d Filter.Zero names args = number d (pos 0)
raw_result d Filter.One names args = number d (pos 1)
raw_result d Filter.Yes names args = one (flow.Bool (only_truth true))
raw_result d Filter.No names args = one (flow.Bool (only_truth false))
raw_result d Filter.Add names args = on_both (the_ints args) (λ a b. one (flow.Int (d.arith Arith.Add a b)))
raw_result d Filter.Sub names args = on_both (the_ints args) (λ a b. one (flow.Int (d.arith Arith.Sub a b)))
raw_result d Filter.Mul names args = on_both (the_ints args) (λ a b. one (flow.Int (d.arith Arith.Mul a b)))
raw_result d Filter.Neg names args = on (the_int args) (λ a. one (flow.Int (d.neg a)))
raw_result d Filter.Div names args = on_both (the_ints args) (λ a b. one (flow.Int (d.arith Arith.Div a b)))
raw_result d Filter.Rem names args = on_both (the_ints args) (λ a b. one (flow.Int (d.arith Arith.Rem a b)))
raw_result d Filter.Lt names args = on_both (the_ints args) (λ a b. one (flow.Bool (d.compare Compare.Lt a b)))
raw_result d Filter.Le names args = on_both (the_ints args) (λ a b. one (flow.Bool (d.compare Compare.Le a b)))
raw_result d Filter.Eq names args = on_both (the_ints args) (λ a b. one (flow.Bool (d.compare Compare.Eq a b)))
raw_result d Filter.Not names args = on (the_bool args) (λ a. one (flow.Bool (truths_given not a)))
raw_result d Filter.And names args = on_both (the_bools args) (λ a b. one (flow.Bool (truths_of_pairs (λ x y. x && y) a b)))
raw_result d Filter.Or names args = on_both (the_bools args) (λ a b. one (flow.Bool (truths_of_pairs (λ x y. x || y) a b)))
raw_result d Filter.IsTrue names args = on (the_bool args) (λ a. passing a.has_true)
raw_result d Filter.IsFalse names args = on (the_bool args) (λ a. passing a.has_false)
raw_result d Filter.IsZero names args = on (the_int args) (λ a. passing (not (d.is_empty (d.meet a (d.of (pos 0))))))
raw_result d Filter.NonZero names args = on (the_int args) (λ a. passing (some_pair d (d.refine refine.Differ a (d.of (pos 0)))))
raw_result d Filter.IsPos names args = on (the_int args) (λ a. passing (some_pair d (d.refine refine.Below (d.of (pos 0)) a)))
raw_result d Filter.IsNeg names args = on (the_int args) (λ a. passing (some_pair d (d.refine refine.Below a (d.of (pos 0)))))
raw_result d Filter.Below names args = on_both (the_ints args) (λ a b. sides (d.refine refine.Below a b))
raw_result d Filter.AtLeast names args = on_both (the_ints args) (λ a b. sides (d.refine refine.AtLeast a b))
raw_result d Filter.Same names args = on_both (the_ints args) (λ a b. sides (d.refine refine.Same a b))
raw_result d Filter.Differ names args = on_both (the_ints args) (λ a b. sides (d.refine refine.Differ a b))
raw_result d Filter.OfInt names args = on (the_int args) (λ a. one (flow.Val (numbers_alone a)))
raw_result d Filter.OfBool names args = on (the_bool args) (λ a. one (flow.Val (truths_alone d a)))
raw_result d Filter.AsInt names args = on (the_val args) (λ v. one (flow.Int v.num))
raw_result d Filter.AsBool names args = on (the_val args) (λ v. one (flow.Bool v.truth))
raw_result d Filter.Empty names args = one (flow.Store (Cells (replicate names (unset_cell d))))
raw_result d Filter.Read names args = on_both (the_cell args) (λ cells n. one (flow.Val (cell_at d cells n).val))
raw_result d Filter.Write names args = on_all (the_cell_and_val args) (λ cells n v. one (flow.Store (Cells (slice_set cells n (set_cell v)))))
raw_result d Filter.Forget names args = on_both (the_cell args) (λ cells n. one (flow.Store (Cells (slice_set cells n (unset_cell d)))))
raw_result d Filter.Bound names args = on_both (the_cell args) (λ cells n. one (flow.Bool (may_be_set d (cell_at d cells n))))
raw_result d Filter.KeepInt names args = on (the_int args) (λ a. one (flow.Int a))
raw_result d Filter.KeepBool names args = on (the_bool args) (λ a. one (flow.Bool a))
raw_result d Filter.KeepVal names args = on (the_val args) (λ v. one (flow.Val v))
raw_result d Filter.KeepStore names args = on (the_store args) (λ s. one (flow.Store s))
raw_result d Filter.AnyBool names args = one (flow.Bool both_truths)
raw_result d Filter.Pick names args = on_both (the_ints args) (λ a b. one (flow.Int (d.arith Arith.Pick a b)))

-- whether an argument isn't empty, and no cell of its store is
abbrev pub arg_is_proper : {D : Type 0} → Domain D → AbsArg D → Bool
arg_is_proper d (Number z) = true
arg_is_proper d (Name n) = true
arg_is_proper d (Flow a) = flow_is_proper d a

-- the tuple, or none where a component of it is empty
abbrev pub proper_tuple : {D : Type 0} → Domain D → List (AbsFlow D) → Outcome D
proper_tuple d flows = if is_proper d flows then Some flows else None

-- the result of a filter on abstract arguments: a tuple without an empty component, or none; there is none where an
-- argument is empty
abbrev pub abstract_result : {D : Type 0} → Domain D → Filter → ℕ → List (AbsArg D) → Outcome D
abstract_result d filter names args =
    if list_all (arg_is_proper d) args then option_and_then (proper_tuple d) (raw_result d filter names args) else None
