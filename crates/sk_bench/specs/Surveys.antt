-- What is asked of a program with the cover lines of a domain in its job.
use Rattle.std.specs.Prelude.{◌≡◌, Bool, true, ℕ, ℤ, List}
use Rattle.sk_def.specs.declared.def.Def.{Def}
use Rattle.sk_term.specs.Program.{Program}
use Rattle.sk_term.specs.Program.{number_leaves}
use Rattle.sk_deriv.specs.Moves.{Setting, setting_of}
use Rattle.sk_lattice.specs.Domain.{Domain}
use Rattle.sk_lattice.specs.DomainTexts.{DomainTexts}
use Rattle.sk_lattice.specs.Thresholds.{IsThresholds, AreMarksOf}
use Rattle.sk_table.specs.declared.triple.Cover.{Cover}
use Rattle.sk_table.specs.declared.triple.Triple.{Triple}
use Rattle.sk_table.specs.Texts.{table_text}
use Rattle.sk_rounds.specs.Walks.{Table, Walks}
use Rattle.sk_rounds.specs.Rounds.{IsAnalysed}
use Rattle.sk_abswalk.specs.Walk.{Flows}
use Rattle.sk_abswalk.specs.Reading.{Key, walks_of, triples_of}
use Rattle.sk_abswalk.specs.LeastTable.{HasOnePerKey, IsLeastTable}
use Rattle.sk_constr.specs.declared.constraint_list.ConstraintList.{ConstraintList}
use Rattle.sk_constr.specs.Keys.{AreConstraints}
use Rattle.sk_constr.specs.Texts.{constraints_text}
use Rattle.sk_solve.specs.declared.assignment.Solved.{Solved}
use Rattle.sk_solve.specs.Solves.{IsLeastSolution}
use Rattle.sk_solve.specs.Tables.{table_of}
use Rattle.sk_bench.specs.Verdicts.{Trial, IsTrusted}
use Rattle.sk_bench.specs.Accepted.{program_of}
use Rattle.sk_bench.specs.Jobs.{ReadJob}

-- a definition, a job, and the job's cover lines of a domain
pub record Survey (D : Type 0) : Type 0 where
  pub def : Def
  pub job : ReadJob
  pub covers : List (Cover D)

abbrev pub program_in : {D : Type 0} → Survey D → Program
program_in survey = program_of survey.def survey.job

-- the constraints of the program and its cover lines
abbrev pub AreConstraintsIn : {D : Type 0} → Survey D → ConstraintList D → Type 0
AreConstraintsIn survey list = AreConstraints survey.def (program_in survey) survey.covers list

-- the text is theirs
abbrev pub IsConstraintsText : {D : Type 0} → Domain D → DomainTexts D → Survey D → List ℕ → Type 0
IsConstraintsText {D} d t survey text =
    (list : ConstraintList D) × AreConstraintsIn survey list × (text ≡ constraints_text d t survey.def survey.job.names list)

-- Tables.

abbrev pub setting_in : {D : Type 0} → Survey D → Setting
setting_in survey = setting_of survey.def (program_in survey)

-- the walks of the program from the cover lines, with widenings at these thresholds
abbrev pub walks_in : {D : Type 0} → Domain D → Bool → List ℤ → Survey D → Walks Key (Flows D)
walks_in d finite marks survey = walks_of d finite marks (setting_in survey) survey.covers

-- the triples are those of the table at the first round that changes nothing, where widenings are at the thresholds of the
-- program's number leaves
pub record IsAnalysis {D : Type 0} (d : Domain D) (finite : Bool) (survey : Survey D) (triples : List (Triple D)) : Type 0 where
  pub marks : List ℤ
  pub increase : IsThresholds marks
  pub of_leaves : AreMarksOf (number_leaves survey.job.nodes) marks
  pub table : Table Key (Flows D)
  pub rounds : ℕ
  pub analysed : IsAnalysed (walks_in d finite marks survey) table rounds
  pub triples_are : triples ≡ triples_of (walks_in d finite marks survey) table

-- the triples are those of the least solution of the constraints
pub record IsSolution {D : Type 0} (d : Domain D) (survey : Survey D) (triples : List (Triple D)) : Type 0 where
  pub list : ConstraintList D
  pub list_is : AreConstraintsIn survey list
  pub assignment : List (Solved D)
  pub least : IsLeastSolution d list assignment
  pub triples_are : triples ≡ table_of assignment

-- the text is that of a table
abbrev pub IsTextOf : {D : Type 0} → Domain D → DomainTexts D → Survey D → (List (Triple D) → Type 0) → List ℕ → Type 0
IsTextOf {D} d t survey P text = (triples : List (Triple D)) × P triples × (text ≡ table_text d t survey.def survey.job.names triples)

abbrev pub IsAnalysisText : {D : Type 0} → Domain D → Bool → DomainTexts D → Survey D → List ℕ → Type 0
IsAnalysisText d finite t survey text = IsTextOf d t survey (IsAnalysis d finite survey) text

abbrev pub IsSolutionText : {D : Type 0} → Domain D → DomainTexts D → Survey D → List ℕ → Type 0
IsSolutionText d t survey text = IsTextOf d t survey (IsSolution d survey) text

-- What the tables say.

abbrev pub tried : {D : Type 0} → Survey D → List (Triple D) → Trial D
tried survey triples = record { def = survey.def; job = survey.job; covers = survey.covers; table = triples }

-- The table is accepted, and so its triples and what it answers to the cover lines hold of all derivations; it has one
-- triple for each key, and on a finite domain it is the least.
pub record IsSoundAnalysis {D : Type 0} (d : Domain D) (finite : Bool) (survey : Survey D) (triples : List (Triple D)) : Type 0 where
  pub trusted : IsTrusted d (tried survey triples)
  pub one_per_key : HasOnePerKey triples
  pub least : finite ≡ true → IsLeastTable d (setting_in survey) survey.covers triples

-- the table of the analysis is so
abbrev pub AnalysisMeans : {D : Type 0} → Domain D → Bool → Survey D → Type 0
AnalysisMeans {D} d finite survey = (triples : List (Triple D)) → IsAnalysis d finite survey triples → IsSoundAnalysis d finite survey triples

-- the table of the least solution is that of the analysis, so both commands write the same bytes
abbrev pub SolutionMeans : {D : Type 0} → Domain D → Survey D → Type 0
SolutionMeans {D} d survey = (solved analysed : List (Triple D)) → IsSolution d survey solved → IsAnalysis d true survey analysed → solved ≡ analysed
