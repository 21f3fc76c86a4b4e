-- What the solutions of a program's constraints are to the analyser's rounds.
use Rattle.std.specs.Prelude.{◌≡◌, ℕ, ℤ, Bool, true, List}
use Rattle.sk_def.specs.declared.def.Def.{Def}
use Rattle.sk_sort.specs.Definition.{IsWellSorted}
use Rattle.sk_term.specs.Program.{Program, IsProgramOf}
use Rattle.sk_deriv.specs.Moves.{setting_of}
use Rattle.sk_lattice.specs.Domain.{Domain}
use Rattle.sk_lattice.specs.Thresholds.{IsThresholds}
use Rattle.sk_table.specs.declared.triple.Cover.{Cover}
use Rattle.sk_rounds.specs.Walks.{Inputs, Outputs, Table, Walks, FitTable, Lies}
use Rattle.sk_rounds.specs.Rounds.{IsAnalysed, IsAccepted}
use Rattle.sk_rounds.specs.Laws.{IsLeastAccepted}
use Rattle.sk_abswalk.specs.Walk.{Flows}
use Rattle.sk_abswalk.specs.Reading.{Key, CoversFit, walks_of, triples_of}
use Rattle.sk_constr.specs.declared.constraint_list.ConstraintList.{ConstraintList}
use Rattle.sk_constr.specs.Keys.{AreConstraints}
use Rattle.sk_solve.specs.declared.assignment.Solved.{Solved}
use Rattle.sk_solve.specs.Solves.{inputs_at, outputs_at, Solves, IsLeastSolution}
use Rattle.sk_solve.specs.Tables.{table_of}

-- the inputs and outputs that an assignment gives each key, as a table of the rounds
abbrev pub sides_of : {D : Type 0} → List (Solved D) → Table Key (Flows D)
sides_of a k Inputs = inputs_at a k.0 k.1
sides_of a k Outputs = outputs_at a k.0 k.1

-- a table is accepted, of tuples that fit, and the analyser's table lies below it
pub record IsAbove {K E : Type 0} (w : Walks K E) (U : Table K E) : Type 0 where
  pub fits : FitTable w U
  pub accepted : IsAccepted w U
  pub above : w.is_finite ≡ true → (table : Table K E) (rounds : ℕ) → IsAnalysed w table rounds → Lies w table U

-- the law of solutions: the table of every assignment that satisfies a program's constraints is accepted, and on finite
-- domains the analyser's table lies below it
abbrev pub SolutionsAreAbove : {D : Type 0} → Domain D → Bool → Type 0
SolutionsAreAbove {D} d finite =
    (def : Def) (program : Program) (covers : List (Cover D)) (marks : List ℤ) → IsWellSorted def → IsProgramOf def program → IsThresholds marks →
    CoversFit d (setting_of def program) covers → (list : ConstraintList D) → AreConstraints def program covers list → (a : List (Solved D)) → Solves d list a →
    IsAbove (walks_of d finite marks (setting_of def program) covers) (sides_of a)

-- an assignment that satisfies the constraints, whose table is this one
pub record HasSolution {D : Type 0} (d : Domain D) (list : ConstraintList D) (table : Table Key (Flows D)) : Type 0 where
  pub assignment : List (Solved D)
  pub solves : Solves d list assignment
  pub table_is : sides_of assignment ≡ table

-- the law of accepted tables: each is the table of an assignment that satisfies the program's constraints
abbrev pub AcceptedAreSolutions : {D : Type 0} → Domain D → Bool → Type 0
AcceptedAreSolutions {D} d finite =
    (def : Def) (program : Program) (covers : List (Cover D)) (marks : List ℤ) → IsWellSorted def → IsProgramOf def program → (list : ConstraintList D) → AreConstraints def program covers list → (table : Table Key (Flows D)) →
    FitTable (walks_of d finite marks (setting_of def program) covers) table → IsAccepted (walks_of d finite marks (setting_of def program) covers) table → HasSolution d list table

-- the law of least solutions: their table is the least accepted one
abbrev pub LeastSolutionsAreLeast : {D : Type 0} → Domain D → Bool → Type 0
LeastSolutionsAreLeast {D} d finite =
    (def : Def) (program : Program) (covers : List (Cover D)) (marks : List ℤ) → IsWellSorted def → IsProgramOf def program → IsThresholds marks →
    CoversFit d (setting_of def program) covers → (list : ConstraintList D) → AreConstraints def program covers list → (a : List (Solved D)) → IsLeastSolution d list a →
    IsLeastAccepted (walks_of d finite marks (setting_of def program) covers) (sides_of a)

-- a least assignment that satisfies the constraints
pub record HasLeastSolution {D : Type 0} (d : Domain D) (list : ConstraintList D) : Type 0 where
  pub assignment : List (Solved D)
  pub least : IsLeastSolution d list assignment

-- the law of solvability: on a finite domain a program's constraints have a least solution
abbrev pub LeastSolutionsExist : {D : Type 0} → Domain D → Bool → Type 0
LeastSolutionsExist {D} d finite =
    finite ≡ true → (def : Def) (program : Program) (covers : List (Cover D)) → IsWellSorted def → IsProgramOf def program →
    CoversFit d (setting_of def program) covers → (list : ConstraintList D) → AreConstraints def program covers list → HasLeastSolution d list

-- the law of agreement: on a finite domain the table of the least solution of a program's constraints is the analyser's
abbrev pub SolutionsAgree : {D : Type 0} → Domain D → Bool → Type 0
SolutionsAgree {D} d finite =
    finite ≡ true → (def : Def) (program : Program) (covers : List (Cover D)) (marks : List ℤ) → IsWellSorted def → IsProgramOf def program → IsThresholds marks →
    CoversFit d (setting_of def program) covers → (list : ConstraintList D) → AreConstraints def program covers list → (a : List (Solved D)) → IsLeastSolution d list a →
    (table : Table Key (Flows D)) (rounds : ℕ) → IsAnalysed (walks_of d finite marks (setting_of def program) covers) table rounds →
    table_of a ≡ triples_of (walks_of d finite marks (setting_of def program) covers) table
