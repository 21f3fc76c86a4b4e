-- Constraints whose lines fit: each position and key that a line names is there, its names lie below the number of names, and
-- what it asks for has the sorts of where it asks for it.
use Rattle.std.specs.Prelude.{◌≡◌, ℕ, ◌==◌, ◌<◌, ◌≤◌, Bool, true, ◌&&◌, List, map, length, Option, Some, slice_get, find}
use Rattle.std.specs.List.{AllZip, AllByRecursion, filter_map}
use Rattle.std.specs.Option.{option_and_then}
use Rattle.sk_base.specs.declared.flow.FlowSort.{FlowSort}
use Rattle.sk_def.specs.declared.ids.HookId.{HookId}
use Rattle.sk_def.specs.declared.filter.Filter.{Filter}
use Rattle.sk_def.specs.declared.sorts.VarSort.{VarSort}
use Rattle.sk_def.specs.Signatures.{parameters, results}
use Rattle.sk_lattice.specs.Shapes.{has_sorts}
use Rattle.sk_table.specs.declared.triple.Cover.{Cover}
use Rattle.sk_constr.specs.declared.line.Operand.{Operand}
use Rattle.sk_constr.specs.declared.line.Part.{Part}
use Rattle.sk_constr.specs.declared.line.Line.{Line}
use Rattle.sk_constr.specs.declared.line.KeyLines.{KeyLines}
use Rattle.sk_constr.specs.declared.constraint_list.ConstraintList.{ConstraintList}
use Rattle.sk_constr.specs.Positions.{flow_sort}

-- the sort of an entry of a position
abbrev pub sort_at : List (List FlowSort) → ℕ → ℕ → Option FlowSort
sort_at positions position entry = option_and_then (λ sorts. slice_get sorts entry) (slice_get positions position)

-- an operand is of the sort of a variable: a leaf of the program over so many names, or an entry of that sort
abbrev pub OperandFits : ℕ → List (List FlowSort) → VarSort → Operand → Type 0
OperandFits names positions VarSort.Number (Operand.Number z) = Unit {0}
OperandFits names positions VarSort.Name (Operand.Name n) = n < names
OperandFits names positions (VarSort.Flow sort) (Operand.At position entry) = sort_at positions position entry ≡ Some sort
OperandFits names positions _ _ = ⊥

abbrev pub OperandsFit : ℕ → List (List FlowSort) → List VarSort → List Operand → Type 0
OperandsFit names positions = AllZip (OperandFits names positions)

-- operands are values of these sorts, and so few that a tuple has room for them
pub record ValuesFit (names : ℕ) (positions : List (List FlowSort)) (sorts : List FlowSort) (operands : List Operand) : Type 0 where
  pub few : length operands ≤ 8
  pub fit : OperandsFit names positions (map VarSort.Flow sorts) operands

-- whether these are the lines of a key
abbrev pub is_lines_of : HookId → ℕ → KeyLines → Bool
is_lines_of hook point key = (key.hook.0 == hook.0) && (key.point == point)

-- a key is there, with inputs and outputs of these sorts
pub record IsCalled (keys : List KeyLines) (hook : HookId) (point : ℕ) (inputs outputs : List FlowSort) : Type 0 where
  pub called : KeyLines
  pub called_is : find (is_lines_of hook point) keys ≡ Some called
  pub inputs_are : slice_get called.positions 0 ≡ Some inputs
  pub outputs_are : called.outputs ≡ outputs

-- the arguments are those that the filter takes, and the position is of its results' sorts
pub record FilterFits (names : ℕ) (key : KeyLines) (to : ℕ) (filter : Filter) (args : List Operand) : Type 0 where
  pub args_fit : OperandsFit names key.positions (parameters filter) args
  pub to_is : slice_get key.positions to ≡ Some (filter_map flow_sort (results filter))

-- the arguments are of the sorts of the called key's inputs, and the position of those of its outputs
pub record CallFits (names : ℕ) (keys : List KeyLines) (key : KeyLines) (to : ℕ) (hook : HookId) (point : ℕ) (args : List Operand) : Type 0 where
  pub inputs : List FlowSort
  pub outputs : List FlowSort
  pub called : IsCalled keys hook point inputs outputs
  pub args_fit : ValuesFit names key.positions inputs args
  pub to_is : slice_get key.positions to ≡ Some outputs

-- the variables are of the sorts of the position
pub record JoinFits (names : ℕ) (key : KeyLines) (to : ℕ) (vars : List Operand) : Type 0 where
  pub sorts : List FlowSort
  pub to_is : slice_get key.positions to ≡ Some sorts
  pub vars_fit : ValuesFit names key.positions sorts vars

abbrev pub PartFits : ℕ → List KeyLines → KeyLines → Part → Type 0
PartFits names keys key (Part.Filter to filter args) = FilterFits names key to filter args
PartFits names keys key (Part.Call to hook point args) = CallFits names keys key to hook point args
PartFits names keys key (Part.Join to vars) = JoinFits names key to vars
PartFits names keys key (Part.End vars) = ValuesFit names key.positions key.outputs vars

-- a line stands after a position of its key, and what it asks for fits
pub record LineFits (names : ℕ) (keys : List KeyLines) (key : KeyLines) (line : Line) : Type 0 where
  pub from_there : line.from < length key.positions
  pub part_fits : PartFits names keys key line.part

abbrev pub LinesFit : ℕ → List KeyLines → KeyLines → Type 0
LinesFit names keys key = AllByRecursion (LineFits names keys key) key.lines

-- a cover line is of a key, and has the sorts of its inputs
pub record CoverLineFits {D : Type 0} (names : ℕ) (keys : List KeyLines) (cover : Cover D) : Type 0 where
  pub inputs : List FlowSort
  pub outputs : List FlowSort
  pub called : IsCalled keys cover.hook cover.point inputs outputs
  pub ins_fit : has_sorts names inputs cover.ins ≡ true

abbrev pub CoverLinesFit : {D : Type 0} → ℕ → List KeyLines → List (Cover D) → Type 0
CoverLinesFit names keys = AllByRecursion (CoverLineFits names keys)

-- each cover line and each line fits
pub record ConstraintsFit {D : Type 0} (list : ConstraintList D) : Type 0 where
  pub covers_fit : CoverLinesFit list.names list.keys list.covers
  pub lines_fit : AllByRecursion (LinesFit list.names list.keys) list.keys
