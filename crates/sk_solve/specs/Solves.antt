-- Which assignments satisfy a list of constraints, and which is the least.
use Rattle.std.specs.Prelude.{◌≡◌, ℕ, ◌==◌, Bool, true, ◌&&◌, List, Option, Some, None, slice_get, unwrap_or, find}
use Rattle.std.specs.List.{AllZip, AllByRecursion, list_all}
use Rattle.std.specs.Option.{option_map, option_map_or, option_and_then}
use Rattle.sk_base.specs.declared.flow.FlowSort.{FlowSort}
use Rattle.sk_def.specs.declared.ids.HookId.{HookId}
use Rattle.sk_deriv.specs.Env.{all_of}
use Rattle.sk_lattice.specs.declared.flow.AbsFlow.{AbsFlow}
use Rattle.sk_lattice.specs.Domain.{Domain}
use Rattle.sk_lattice.specs.Empty.{is_proper}
use Rattle.sk_lattice.specs.Shapes.{has_sorts}
use Rattle.sk_absfilter.specs.declared.arg.AbsArg.{AbsArg}
use Rattle.sk_absfilter.specs.Abstract.{Outcome, abstract_result}
use Rattle.sk_absfilter.specs.Laws.{outcome_leq}
use Rattle.sk_table.specs.declared.triple.Cover.{Cover}
use Rattle.sk_constr.specs.declared.line.Operand.{Operand}
use Rattle.sk_constr.specs.declared.line.Part.{Part}
use Rattle.sk_constr.specs.declared.line.Line.{Line}
use Rattle.sk_constr.specs.declared.line.KeyLines.{KeyLines}
use Rattle.sk_constr.specs.declared.constraint_list.ConstraintList.{ConstraintList}
use Rattle.sk_solve.specs.declared.assignment.Solved.{Solved}

-- what a position has
abbrev pub value_at : {D : Type 0} → List (Outcome D) → ℕ → Outcome D
value_at positions position = unwrap_or (slice_get positions position) None

-- an entry of a position, nothing where the position has none
abbrev pub flow_at : {D : Type 0} → List (Outcome D) → ℕ → ℕ → Option (AbsFlow D)
flow_at positions position entry = option_and_then (λ flows. slice_get flows entry) (value_at positions position)

-- the argument of a filter that an operand is, and the value that it is
abbrev pub argument_at : {D : Type 0} → List (Outcome D) → Operand → Option (AbsArg D)
argument_at positions (Operand.Number z) = Some (AbsArg.Number z)
argument_at positions (Operand.Name n) = Some (AbsArg.Name n)
argument_at positions (Operand.At position entry) = option_map AbsArg.Flow (flow_at positions position entry)

abbrev pub operand_value : {D : Type 0} → List (Outcome D) → Operand → Option (AbsFlow D)
operand_value positions (Operand.Number z) = None
operand_value positions (Operand.Name n) = None
operand_value positions (Operand.At position entry) = flow_at positions position entry

-- what a line asks for by its operands: nothing where the position before it has none, or an operand can't be read
abbrev pub asked : {D X : Type 0} → (Operand → Option X) → Outcome D → List Operand → (List X → Bool) → Bool
asked read before operands test = option_map_or test (option_and_then (λ (t : List (AbsFlow _)). all_of read operands) before) true

-- whether this is the entry of a key, and what the key's inputs and outputs are
abbrev pub is_of_key : {D : Type 0} → HookId → ℕ → Solved D → Bool
is_of_key hook point s = (s.hook.0 == hook.0) && (s.point == point)

abbrev pub inputs_at : {D : Type 0} → List (Solved D) → HookId → ℕ → Outcome D
inputs_at a hook point = option_and_then (λ s. value_at s.positions 0) (find (is_of_key hook point) a)

abbrev pub outputs_at : {D : Type 0} → List (Solved D) → HookId → ℕ → Outcome D
outputs_at a hook point = option_and_then (λ s. s.outs) (find (is_of_key hook point) a)

module _ {D : Type 0} (d : Domain D) (names : ℕ) (a : List (Solved D)) where
  -- what each kind of line asks for, from the position before it: a filter's result below its position; a call's arguments
  -- below the called key's inputs, and that key's outputs below its position; variables below a joined position, or below
  -- the key's outputs
  abbrev pub part_holds : Solved D → Outcome D → Part → Bool
  part_holds s before (Part.Filter to filter args) =
      asked (argument_at s.positions) before args (λ given. outcome_leq d (abstract_result d filter names given) (value_at s.positions to))
  part_holds s before (Part.Call to hook point args) =
      asked (operand_value s.positions) before args (λ ins. outcome_leq d (Some ins) (inputs_at a hook point) && outcome_leq d (outputs_at a hook point) (value_at s.positions to))
  part_holds s before (Part.Join to vars) = asked (operand_value s.positions) before vars (λ values. outcome_leq d (Some values) (value_at s.positions to))
  part_holds s before (Part.End vars) = asked (operand_value s.positions) before vars (λ values. outcome_leq d (Some values) s.outs)

  abbrev pub line_holds : Solved D → Line → Bool
  line_holds s line = part_holds s (value_at s.positions line.from) line.part

  abbrev pub cover_holds : Cover D → Bool
  cover_holds cover = outcome_leq d (Some cover.ins) (inputs_at a cover.hook cover.point)

-- a tuple of these sorts without an empty part, or none
abbrev pub outcome_fits : {D : Type 0} → Domain D → ℕ → List FlowSort → Outcome D → Bool
outcome_fits d names sorts None = true
outcome_fits d names sorts (Some a) = has_sorts names sorts a && is_proper d a

-- what an assignment gives a key: its hook and point, and at each position and as output something of its sorts
pub record IsOfKey {D : Type 0} (d : Domain D) (names : ℕ) (key : KeyLines) (s : Solved D) : Type 0 where
  pub same_hook : s.hook ≡ key.hook
  pub same_point : s.point ≡ key.point
  pub positions_fit : AllZip (λ sorts o. outcome_fits d names sorts o ≡ true) key.positions s.positions
  pub outs_fit : outcome_fits d names key.outputs s.outs ≡ true

-- an assignment gives each key, in order, what is of it
abbrev pub IsAssignment : {D : Type 0} → Domain D → ConstraintList D → List (Solved D) → Type 0
IsAssignment d list a = AllZip (IsOfKey d list.names) list.keys a

-- an assignment satisfies a list where each cover line lies below position 0 of its key, and each line holds
pub record Solves {D : Type 0} (d : Domain D) (list : ConstraintList D) (a : List (Solved D)) : Type 0 where
  pub assigns : IsAssignment d list a
  pub covered : AllByRecursion (λ cover. cover_holds d list.names a cover ≡ true) list.covers
  pub lines_hold : AllZip (λ (key : KeyLines) s. list_all (line_holds d list.names a s) key.lines ≡ true) list.keys a

-- an assignment lies below another at every position and output
pub record KeyLies {D : Type 0} (d : Domain D) (s t : Solved D) : Type 0 where
  pub positions : AllZip (λ o p. outcome_leq d o p ≡ true) s.positions t.positions
  pub outs : outcome_leq d s.outs t.outs ≡ true

abbrev pub LiesBelow : {D : Type 0} → Domain D → List (Solved D) → List (Solved D) → Type 0
LiesBelow d a b = AllZip (KeyLies d) a b

-- the least assignment that satisfies a list: it lies below every one that does
pub record IsLeastSolution {D : Type 0} (d : Domain D) (list : ConstraintList D) (a : List (Solved D)) : Type 0 where
  pub solves : Solves d list a
  pub least : (b : List (Solved D)) → Solves d list b → LiesBelow d a b

-- the law of least solutions: there is one at most
abbrev pub LeastIsOne : {D : Type 0} → Domain D → Type 0
LeastIsOne {D} d = (list : ConstraintList D) (a b : List (Solved D)) → IsLeastSolution d list a → IsLeastSolution d list b → a ≡ b
