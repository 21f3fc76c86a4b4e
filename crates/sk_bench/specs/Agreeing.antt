-- Two readings of one definition, and one answer.
use Rattle.std.specs.Prelude.{◌≡◌, ℤ, Bool, true, List}
use Rattle.sk_def.specs.declared.def.Def.{Def}
use Rattle.sk_sort.specs.Definition.{IsWellSorted}
use Rattle.sk_term.specs.Program.{Program, IsProgramOf}
use Rattle.sk_deriv.specs.Moves.{setting_of}
use Rattle.sk_lattice.specs.Domain.{Domain}
use Rattle.sk_lattice.specs.Thresholds.{IsThresholds}
use Rattle.sk_table.specs.declared.triple.Cover.{Cover}
use Rattle.sk_abswalk.specs.Reading.{CoversFit, walks_of}
use Rattle.sk_analyse.specs.declared.rounds.Analysis.{Analysis}
use Rattle.sk_analyse.specs.Jobs.{IsAnalysis}
use Rattle.sk_constr.specs.declared.constraint_list.ConstraintList.{ConstraintList}
use Rattle.sk_constr.specs.Keys.{AreConstraints}
use Rattle.sk_solve.specs.declared.assignment.Solved.{Solved}
use Rattle.sk_solve.specs.Solves.{IsLeastSolution}
use Rattle.sk_solve.specs.Tables.{table_of}

-- The law of one answer: on a finite domain the table of the least solution of a program's constraints is that of its
-- analysis, wherever the analysis may widen.
abbrev pub SolutionsAreAnalyses : {D : Type 0} → Domain D → Bool → Type 0
SolutionsAreAnalyses {D} d finite =
    finite ≡ true → (def : Def) (program : Program) (covers : List (Cover D)) (marks : List ℤ) → IsWellSorted def → IsProgramOf def program → IsThresholds marks →
    CoversFit d (setting_of def program) covers → (list : ConstraintList D) → AreConstraints def program covers list → (assignment : List (Solved D)) → IsLeastSolution d list assignment →
    (analysis : Analysis D) → IsAnalysis (walks_of d finite marks (setting_of def program) covers) analysis → table_of assignment ≡ analysis.table
