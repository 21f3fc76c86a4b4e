-- The climb to the least solution: assignments below every solution, and steps that raise them.
use Rattle.std.specs.Prelude.{◌≡◌, ℕ, suc, ◌+◌, ◌*◌, ◌<◌, ℤ, Bool, true, false, if◌then◌else◌, List, [], ◌∷◌, length, map, Option, Some, None, slice_get, slice_set}
use Rattle.std.specs.List.{AllByRecursion}
use Rattle.std.specs.Option.{option_map}
use Rattle.sk_base.specs.declared.flow.FlowSort.{FlowSort}
use Rattle.sk_lattice.specs.declared.flow.AbsFlow.{AbsFlow}
use Rattle.sk_lattice.specs.Domain.{Domain}
use Rattle.sk_lattice.specs.Merge.{Join, tuple_merge}
use Rattle.sk_lattice.specs.Ranks.{tuple_rank}
use Rattle.sk_lattice.specs.Thresholds.{LEAST, GREATEST}
use Rattle.sk_absfilter.specs.Abstract.{Outcome}
use Rattle.sk_absfilter.specs.Laws.{outcome_leq}
use Rattle.sk_table.specs.declared.triple.Cover.{Cover}
use Rattle.sk_constr.specs.declared.line.Line.{Line}
use Rattle.sk_constr.specs.declared.line.KeyLines.{KeyLines}
use Rattle.sk_constr.specs.declared.constraint_list.ConstraintList.{ConstraintList}
use Rattle.sk_solve.specs.declared.assignment.Solved.{Solved}
use Rattle.sk_solve.specs.declared.slot.Slot.{Slot}
use Rattle.sk_solve.specs.Solves.{value_at, line_holds, cover_holds, outcome_fits, IsAssignment, Solves, LiesBelow}

-- what a slot has, and the entry in which it has something else
abbrev pub slot_of : {D : Type 0} → Slot → Solved D → Outcome D
slot_of (Slot.Position position) s = value_at s.positions position
slot_of Slot.Outs s = s.outs

abbrev pub with_slot : {D : Type 0} → Slot → Outcome D → Solved D → Solved D
with_slot (Slot.Position position) o s = record { hook = s.hook; point = s.point; positions = slice_set s.positions position o; outs = s.outs }
with_slot Slot.Outs o s = record { hook = s.hook; point = s.point; positions = s.positions; outs = o }

-- the sorts of a slot, where the key has it
abbrev pub slot_sorts : Slot → KeyLines → Option (List FlowSort)
slot_sorts (Slot.Position position) key = slice_get key.positions position
slot_sorts Slot.Outs key = Some key.outputs

-- the least tuple above what a slot has and a tuple
abbrev pub joined : {D : Type 0} → Domain D → Outcome D → List (AbsFlow D) → List (AbsFlow D)
joined d None t = t
joined d (Some have) t = tuple_merge d Join have t

-- whether a tuple lies below what a slot has; the entry in which it does
abbrev pub stays : {D : Type 0} → Domain D → Slot → List (AbsFlow D) → Solved D → Bool
stays d slot asked s = outcome_leq d (Some asked) (slot_of slot s)

abbrev pub raised : {D : Type 0} → Domain D → Slot → List (AbsFlow D) → Solved D → Solved D
raised d slot asked s = if stays d slot asked s then s else with_slot slot (Some (joined d (slot_of slot s) asked)) s

-- a key in which every position has none
abbrev pub nothing_at : {D : Type 0} → KeyLines → Solved D
nothing_at key = record { hook = key.hook; point = key.point; positions = map (λ _. None) key.positions; outs = None }

-- the least and the greatest number, by which elements are ranked
abbrev pub ends : List ℤ
ends = LEAST ∷ GREATEST ∷ []

-- the rank of what a slot of these sorts has: that of the tuple, and more than that of every tuple for none
abbrev pub slot_rank : {D : Type 0} → Domain D → ℕ → List FlowSort → Outcome D → ℕ
slot_rank d names sorts None = 1 + length sorts * ((names + 1) * (d.rank d.empty ends + 3))
slot_rank d names sorts (Some t) = tuple_rank d ends t

-- the sum of what f gives for the entries at each place of both lists
abbrev pub zip_sum : {A B : Type 0} → (A → B → ℕ) → List A → List B → ℕ
zip_sum f (x ∷ xs) (y ∷ ys) = f x y + zip_sum f xs ys
zip_sum f _ _ = 0

-- the rank of all slots of a key, and of all keys
abbrev pub entry_rank : {D : Type 0} → Domain D → ℕ → KeyLines → Solved D → ℕ
entry_rank d names key s = zip_sum (slot_rank d names) key.positions s.positions + slot_rank d names key.outputs s.outs

abbrev pub total_rank : {D : Type 0} → Domain D → ConstraintList D → List (Solved D) → ℕ
total_rank d list a = zip_sum (entry_rank d list.names) list.keys a

-- an assignment that lies below every one that satisfies the list
pub record IsUnderway {D : Type 0} (d : Domain D) (list : ConstraintList D) (a : List (Solved D)) : Type 0 where
  pub assigns : IsAssignment d list a
  pub below : (b : List (Solved D)) → Solves d list b → LiesBelow d a b

-- an outcome has the sorts of a key's slot, and lies below what the slot has in every assignment that satisfies the list
pub record IsDue {D : Type 0} (d : Domain D) (list : ConstraintList D) (at : ℕ) (slot : Slot) (asked : Outcome D) : Type 0 where
  pub key : KeyLines
  pub key_is : slice_get list.keys at ≡ Some key
  pub sorts : List FlowSort
  pub sorts_are : slot_sorts slot key ≡ Some sorts
  pub fits : outcome_fits d list.names sorts asked ≡ true
  pub below : (b : List (Solved D)) → Solves d list b → (s : Solved D) → slice_get b at ≡ Some s → outcome_leq d asked (slot_of slot s) ≡ true

-- A step tells whether it changed the assignment. Where it did, the rank fell; else what it is to bring about holds.
pub record IsStep {D : Type 0} (d : Domain D) (list : ConstraintList D) (Holds : List (Solved D) → Type 0) (old new : List (Solved D)) (changed : Bool) : Type 0 where
  pub underway : IsUnderway d list new
  pub falls : changed ≡ true → total_rank d list new < total_rank d list old
  pub still : changed ≡ false → (new ≡ old) × Holds new

-- what steps bring about: an outcome lies below a slot, a cover line or a line holds, and those of a key or of all keys do
abbrev pub LiesIn : {D : Type 0} → Domain D → ℕ → Slot → Outcome D → List (Solved D) → Type 0
LiesIn {D} d at slot asked a = (s : Solved D) → slice_get a at ≡ Some s → outcome_leq d asked (slot_of slot s) ≡ true

abbrev pub LineHolds : {D : Type 0} → Domain D → ℕ → ℕ → Line → List (Solved D) → Type 0
LineHolds {D} d names at line a = (s : Solved D) → slice_get a at ≡ Some s → line_holds d names a s line ≡ true

abbrev pub LinesHold : {D : Type 0} → Domain D → ℕ → ℕ → List Line → List (Solved D) → Type 0
LinesHold d names at lines a = AllByRecursion (λ line. LineHolds d names at line a) lines

abbrev pub KeysHold : {D : Type 0} → Domain D → ConstraintList D → ℕ → List (Solved D) → Type 0
KeysHold d list keys a = (at : ℕ) → at < keys → (key : KeyLines) → slice_get list.keys at ≡ Some key → LinesHold d list.names at key.lines a

abbrev pub CoversHold : {D : Type 0} → Domain D → ℕ → List (Cover D) → List (Solved D) → Type 0
CoversHold d names covers a = AllByRecursion (λ cover. cover_holds d names a cover ≡ true) covers

-- the first place of an entry that passes
abbrev pub first_place : {A : Type 0} → (A → Bool) → List A → Option ℕ
first_place passes [] = None
first_place passes (x ∷ xs) = if passes x then Some 0 else option_map (λ n. suc n) (first_place passes xs)

-- a line of a key of the list, and a cover line of it
pub record IsLineOf {D : Type 0} (list : ConstraintList D) (at : ℕ) (line : Line) : Type 0 where
  pub key : KeyLines
  pub key_is : slice_get list.keys at ≡ Some key
  pub place : ℕ
  pub line_is : slice_get key.lines place ≡ Some line

pub record IsCoverOf {D : Type 0} (list : ConstraintList D) (cover : Cover D) : Type 0 where
  pub place : ℕ
  pub cover_is : slice_get list.covers place ≡ Some cover
