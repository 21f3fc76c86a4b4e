-- The analysis and the least solution of a job: each is one, and what their tables say.
use Rattle.std.proofs.Common.{◌≡◌, ◌+◌, ℕ, ℤ, Bool, true, List, length, refl, sym, ap, subst, ◌∙◌}
use Rattle.sk_def.specs.declared.def.Def.{Def}
use Rattle.sk_sort.specs.Definition.{IsWellSorted}
use Rattle.sk_term.specs.Program.{Program, IsProgramOf, number_leaves}
use Rattle.sk_deriv.specs.Moves.{setting_of}
use Rattle.sk_lattice.specs.Domain.{Domain}
use Rattle.sk_lattice.specs.Thresholds.{IsThresholds, AreMarksOf}
use Rattle.sk_lattice.proofs.Tuples.{tuple_laws}
use Rattle.sk_sign.specs.Signs.{sign_domain}
use Rattle.sk_sign.specs.Laws.{sign_laws}
use Rattle.sk_sign.specs.declared.sign.Sign.{Sign}
use Rattle.sk_table.specs.declared.triple.Triple.{Triple}
use Rattle.sk_table.specs.declared.triple.Cover.{Cover}
use Rattle.sk_rounds.specs.Walks.{Table, Walks}
use Rattle.sk_rounds.specs.Rounds.{IsAnalysed, table_after}
use Rattle.sk_rounds.proofs.Climbs.{one_end}
use Rattle.sk_abswalk.specs.Tables.{AcceptedAreSound}
use Rattle.sk_abswalk.specs.Walk.{Flows}
use Rattle.sk_abswalk.specs.Reading.{Key, CoversFit, walks_of, triples_of}
use Rattle.sk_abswalk.specs.RoundLaws.{AnalysedTablesAreAccepted}
use Rattle.sk_analyse.specs.Jobs as analyser
use Rattle.sk_analyse.specs.declared.rounds.Analysis.{Analysis}
use Rattle.sk_constr.specs.declared.constraint_list.ConstraintList.{ConstraintList}
use Rattle.sk_constr.specs.Keys.{AreConstraints}
use Rattle.sk_solve.specs.declared.assignment.Solved.{Solved}
use Rattle.sk_solve.specs.Solves.{IsLeastSolution}
use Rattle.sk_solve.specs.Tables.{table_of}
use Rattle.sk_solve.proofs.LeastOne.{least_is_one}
use Rattle.sk_agree.specs.Agree.{SolutionsAgree}
use Rattle.sk_bench.specs.Accepted.{program_of}
use Rattle.sk_bench.specs.Commands.{survey}
use Rattle.sk_bench.specs.Jobs.{ReadJob}
use Rattle.sk_bench.specs.Surveys.{Survey, IsAnalysis, IsSolution, IsSoundAnalysis, AnalysisMeans, SolutionMeans, walks_in}
use Rattle.sk_bench.proofs.JobPrograms.{program_is}
use Rattle.sk_bench.proofs.Marks.{marks_are_one}
use Rattle.sk_bench.proofs.OneList.{one_list}

-- One answer.

one_table : {K E : Type 0} (w : Walks K E) (T U : Table K E) (m n : ℕ) → IsAnalysed w T m → IsAnalysed w U n → T ≡ U
one_table w T U m n a b = a.table_is ∙ ap (table_after w) (one_end (table_after w) a.last b.last a.is_last b.is_last) ∙ sym b.table_is

module _ {D : Type 0} (d : Domain D) (finite : Bool) (s : Survey D) where
  same_triples : (marks other : List ℤ) → marks ≡ other → (T U : Table Key (Flows D)) (m n : ℕ) → IsAnalysed (walks_in d finite marks s) T m → IsAnalysed (walks_in d finite other s) U n
      → triples_of (walks_in d finite marks s) T ≡ triples_of (walks_in d finite other s) U
  same_triples marks other e T U m n a b =
      let P : List ℤ → Type 0 = λ l. IsAnalysed (walks_in d finite l s) U n → triples_of (walks_in d finite marks s) T ≡ triples_of (walks_in d finite l s) U in
      subst P e (λ c. ap (triples_of (walks_in d finite marks s)) (one_table (walks_in d finite marks s) T U m n a c)) b

  pub one_analysis : (xs ys : List (Triple D)) → IsAnalysis d finite s xs → IsAnalysis d finite s ys → xs ≡ ys
  one_analysis xs ys a b =
      let marks : a.marks ≡ b.marks = marks_are_one (number_leaves s.job.nodes) a.marks b.marks a.increase a.of_leaves b.increase b.of_leaves in
      a.triples_are ∙ same_triples a.marks b.marks marks a.table b.table a.rounds b.rounds a.analysed b.analysed ∙ sym b.triples_are

one_assignment : (list other : ConstraintList Sign) → list ≡ other → (a b : List (Solved Sign)) → IsLeastSolution sign_domain list a → IsLeastSolution sign_domain other b → a ≡ b
one_assignment list other e a b is are =
    least_is_one sign_domain (tuple_laws _ sign_domain sign_laws) list a b is (subst (λ (l : ConstraintList Sign). IsLeastSolution sign_domain l b) (sym e) are)

pub one_solution : (s : Survey Sign) (xs ys : List (Triple Sign)) → IsSolution sign_domain s xs → IsSolution sign_domain s ys → xs ≡ ys
one_solution s xs ys a b =
    a.triples_are ∙ ap table_of (one_assignment a.list b.list (one_list s a.list b.list a.list_is b.list_is) a.assignment b.assignment a.least b.least) ∙ sym b.triples_are

-- What the tables say.

module _ {D : Type 0} (d : Domain D) (finite : Bool) (def : Def) (job : ReadJob) (covers : List (Cover D)) (sorted : IsWellSorted def) where
  means : AnalysedTablesAreAccepted d finite → AcceptedAreSound d → IsProgramOf def (program_of def job) → CoversFit d (setting_of def (program_of def job)) covers
      → AnalysisMeans d finite (survey def job covers)
  means law sound is fit =
      λ triples a.
      let made = law def (program_of def job) covers a.marks sorted is a.increase fit a.table a.rounds a.analysed in
      let holds = sound (setting_of def (program_of def job)) covers _ made.accepted in
      subst (λ (ts : List (Triple D)). IsSoundAnalysis d finite (survey def job covers) ts) (sym a.triples_are)
      (record { trusted = record { accepted = made.accepted; triples = holds.0; lines = holds.1 }; one_per_key = made.one_per_key; least = made.least })

pub analysis_means : {D : Type 0} (d : Domain D) (finite : Bool) (def : Def) (program : Program) (job : ReadJob) (covers : List (Cover D)) → AnalysedTablesAreAccepted d finite → AcceptedAreSound d
    → IsWellSorted def → IsProgramOf def program → program.nodes ≡ job.nodes → program.names ≡ length job.names → CoversFit d (setting_of def program) covers
    → AnalysisMeans d finite (survey def job covers)
analysis_means d finite def program job covers law sound sorted is nodes names fit =
    let same = program_is def program job is nodes names in
    means d finite def job covers sorted law sound (subst (IsProgramOf def) same is) (subst (λ (p : Program). CoversFit d (setting_of def p) covers) same fit)

pub analysis_in : {D : Type 0} (d : Domain D) (finite : Bool) (def : Def) (program : Program) (job : ReadJob) (covers : List (Cover D)) (marks : List ℤ) (analysis : Analysis D)
    → IsProgramOf def program → program.nodes ≡ job.nodes → program.names ≡ length job.names → IsThresholds marks → AreMarksOf (number_leaves program.nodes) marks
    → analyser.IsAnalysis (walks_of d finite marks (setting_of def program) covers) analysis → IsAnalysis d finite (survey def job covers) analysis.table
analysis_in {D} d finite def program job covers marks analysis is nodes names up of a =
    let P : Program → Type 0 = λ p. AreMarksOf (number_leaves p.nodes) marks → analyser.IsAnalysis (walks_of d finite marks (setting_of def p) covers) analysis → IsAnalysis d finite (survey def job covers) analysis.table in
    subst P (sym (program_is def program job is nodes names))
    (λ leaves found. record { marks = marks; increase = up; of_leaves = leaves; table = found.table; rounds = analysis.rounds; analysed = found.analysed; triples_are = found.triples_are })
    of a

pub solution_means : (def : Def) (program : Program) (job : ReadJob) (covers : List (Cover Sign)) → SolutionsAgree sign_domain true → IsWellSorted def → IsProgramOf def program
    → program.nodes ≡ job.nodes → program.names ≡ length job.names → CoversFit sign_domain (setting_of def program) covers → SolutionMeans sign_domain (survey def job covers)
solution_means def program job covers law sorted is nodes names fit =
    let same = program_is def program job is nodes names in
    let is' = subst (IsProgramOf def) same is in
    let fit' = subst (λ (p : Program). CoversFit sign_domain (setting_of def p) covers) same fit in
    λ solved analysed s a.
    s.triples_are ∙ law refl def (program_of def job) covers a.marks sorted is' a.increase fit' s.list s.list_is s.assignment s.least a.table a.rounds a.analysed ∙ sym a.triples_are

pub solution_in : (def : Def) (program : Program) (job : ReadJob) (covers : List (Cover Sign)) (list : ConstraintList Sign) (assignment : List (Solved Sign)) (triples : List (Triple Sign))
    → IsProgramOf def program → program.nodes ≡ job.nodes → program.names ≡ length job.names → AreConstraints def program covers list → IsLeastSolution sign_domain list assignment
    → triples ≡ table_of assignment → IsSolution sign_domain (survey def job covers) triples
solution_in def program job covers list assignment triples is nodes names are least spells =
    record { list = list; list_is = subst (λ (p : Program). AreConstraints def p covers list) (program_is def program job is nodes names) are; assignment = assignment; least = least; triples_are = spells }
