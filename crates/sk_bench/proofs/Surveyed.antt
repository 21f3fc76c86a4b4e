-- What is made of a job's cover lines is what the plan asks for.
use Rattle.std.proofs.Common.{◌≡◌, ◌==◌, ℕ, true, false, List, [], ◌∷◌, Result, Ok, Err, codes, length, subst, arith}
use Rattle.std.proofs.lemmas.Bool.{eqb-true}
use Rattle.sk_def.specs.declared.def.Def.{Def}
use Rattle.sk_lattice.specs.Domain.{Domain}
use Rattle.sk_lattice.specs.DomainTexts.{DomainTexts}
use Rattle.sk_sign.specs.Signs.{sign_domain}
use Rattle.sk_sign.specs.Texts.{sign_texts}
use Rattle.sk_interval.specs.Intervals.{interval_domain}
use Rattle.sk_interval.specs.Texts.{interval_texts}
use Rattle.sk_table.specs.declared.triple.Cover.{Cover}
use Rattle.sk_term.specs.Program.{Program, IsProgramOf}
use Rattle.sk_constr.specs.declared.constraint_list.ConstraintList.{ConstraintList}
use Rattle.sk_constr.specs.Keys.{AreConstraints}
use Rattle.sk_bench.specs.declared.kinds.DomainWord.TheVariants as word
use Rattle.sk_bench.specs.declared.kinds.JobCommand.TheVariants as command
use Rattle.sk_bench.specs.declared.status.Ending.{Ending}
use Rattle.sk_bench.specs.declared.status.Ending.TheVariants.{Done, Job}
use Rattle.sk_bench.specs.declared.status.Output.{Output}
use Rattle.sk_bench.specs.declared.status.Stop.{Stop}
use Rattle.sk_bench.specs.Accepted.{program_of}
use Rattle.sk_bench.specs.Analysing.{SoundlyAnalyses, AgreeablySolves}
use Rattle.sk_bench.specs.Asked.{Asked, IsAnswer, Means}
use Rattle.sk_bench.specs.Asked as asked
use Rattle.sk_bench.specs.Commands.{job_plan, on_covers, survey}
use Rattle.sk_bench.specs.Following.{Prepares}
use Rattle.sk_bench.specs.Jobs.{ReadJob}
use Rattle.sk_bench.specs.Plan.{Write}
use Rattle.sk_bench.specs.Refused.{missing, refused_line}
use Rattle.sk_bench.specs.Surveying.{Makes, Surveys}
use Rattle.sk_bench.specs.Surveys.{Survey, AreConstraintsIn, IsConstraintsText}
use Rattle.sk_bench.proofs.JobPrograms.{program_is}

module _ {D : Type 0} (P : Survey D → List ℕ → Type 0) (d : Def) (job : ReadJob) (text : List ℕ) where
  pub surveys_none : (covers : List (Cover D)) (result : Result Output Stop) → (length covers == 0) ≡ true
      → Prepares (Write Job (refused_line (codes "job") (missing (codes "NoCover") text))) result → Surveys P d job text covers result
  surveys_none [] result is h = h
  surveys_none (line ∷ lines) result is h = absurd (let none : length (line ∷ lines) ≡ 0 = eqb-true (length (line ∷ lines)) 0 is in omega (arith, none))

  pub surveys_some : (covers : List (Cover D)) (result : Result Output Stop) → (length covers == 0) ≡ false → Makes (P (survey d job covers)) result → Surveys P d job text covers result
  surveys_some [] result is h = absurd cc
  surveys_some (line ∷ lines) result is h = h

  -- where what is made answers what is asked, the plan is followed
  surveyed : (asks : Survey D → Asked)
      → ((s : Survey D) (ending : Ending) (said : List ℕ) → ending ≡ Done → P s said → IsAnswer (asks s) ending said × Means (asks s) ending)
      → (covers : List (Cover D)) (result : Result Output Stop) → Surveys P d job text covers result → Prepares (on_covers asks d job text covers) result
  surveyed asks answers [] result h = h
  surveyed asks answers (line ∷ lines) (Ok output) h = answers (survey d job (line ∷ lines)) output.ending output.text.items h.0 h.1
  surveyed asks answers (line ∷ lines) (Err reason) h = h

pub sign_constraints : (d : Def) (job : ReadJob) (text : List ℕ) (result : Result Output Stop)
    → Surveys (IsConstraintsText sign_domain sign_texts) d job text job.sign result → Prepares (job_plan (command.Constrain word.Sign) d text job) result
sign_constraints d job text result h =
    surveyed (IsConstraintsText sign_domain sign_texts) d job text asked.sign_constraints (λ s ending said done is. ((done, is), tt)) job.sign result h

pub interval_constraints : (d : Def) (job : ReadJob) (text : List ℕ) (result : Result Output Stop)
    → Surveys (IsConstraintsText interval_domain interval_texts) d job text job.interval result → Prepares (job_plan (command.Constrain word.Interval) d text job) result
interval_constraints d job text result h =
    surveyed (IsConstraintsText interval_domain interval_texts) d job text asked.interval_constraints (λ s ending said done is. ((done, is), tt)) job.interval result h

pub sign_analysis : (d : Def) (job : ReadJob) (text : List ℕ) (result : Result Output Stop)
    → Surveys (SoundlyAnalyses sign_domain true sign_texts) d job text job.sign result → Prepares (job_plan (command.Analyse word.Sign) d text job) result
sign_analysis d job text result h =
    surveyed (SoundlyAnalyses sign_domain true sign_texts) d job text asked.sign_analysis (λ s ending said done is. ((done, is.0), is.1)) job.sign result h

pub interval_analysis : (d : Def) (job : ReadJob) (text : List ℕ) (result : Result Output Stop)
    → Surveys (SoundlyAnalyses interval_domain false interval_texts) d job text job.interval result → Prepares (job_plan (command.Analyse word.Interval) d text job) result
interval_analysis d job text result h =
    surveyed (SoundlyAnalyses interval_domain false interval_texts) d job text asked.interval_analysis (λ s ending said done is. ((done, is.0), is.1)) job.interval result h

pub solution : (d : Def) (job : ReadJob) (text : List ℕ) (result : Result Output Stop) → Surveys AgreeablySolves d job text job.sign result → Prepares (job_plan command.Solve d text job) result
solution d job text result h = surveyed AgreeablySolves d job text asked.solution (λ s ending said done is. ((done, is.0), is.1)) job.sign result h

-- constraints over a program are those over its job
pub constraints_in : {D : Type 0} (d : Def) (program : Program) (job : ReadJob) (covers : List (Cover D)) (list : ConstraintList D) → IsProgramOf d program → program.nodes ≡ job.nodes
    → program.names ≡ length job.names → AreConstraints d program covers list → AreConstraintsIn (survey d job covers) list
constraints_in d program job covers list is nodes names h = subst (λ (p : Program). AreConstraints d p covers list) (program_is d program job is nodes names) h
