-- What a command is asked in the end, the texts that answer it, and what an answer says.
use Rattle.std.specs.Prelude.{◌≡◌, true, false, ⊤, ℕ, List}
use Rattle.sk_sign.specs.Signs.{sign_domain}
use Rattle.sk_sign.specs.Texts.{sign_texts}
use Rattle.sk_sign.specs.declared.sign.Sign.{Sign}
use Rattle.sk_interval.specs.Intervals.{interval_domain}
use Rattle.sk_interval.specs.Texts.{interval_texts}
use Rattle.sk_interval.specs.declared.bounds.Interval.{Interval}
use Rattle.sk_bench.specs.declared.status.Ending.{Ending}
use Rattle.sk_bench.specs.declared.status.Ending.TheVariants.{Done}
use Rattle.sk_bench.specs.Outcomes.{Question, IsResultsText}
use Rattle.sk_bench.specs.Surveys.{Survey, IsConstraintsText, IsAnalysisText, IsSolutionText, AnalysisMeans, SolutionMeans}
use Rattle.sk_bench.specs.Verdicts.{Trial, IsVerdictText, VerdictMeans}

-- the results of a call, the verdict on a table of a domain, the constraints of a program, the table of its analysis, or
-- that of the least solution of its constraints over signs
pub data Asked : Type 0 where
  results : Question → Asked
  sign_verdict : Trial Sign → Asked
  interval_verdict : Trial Interval → Asked
  sign_constraints : Survey Sign → Asked
  interval_constraints : Survey Interval → Asked
  sign_analysis : Survey Sign → Asked
  interval_analysis : Survey Interval → Asked
  solution : Survey Sign → Asked

-- the command ends so, with this text
abbrev pub IsAnswer : Asked → Ending → List ℕ → Type 0
IsAnswer (results q) ending text = (ending ≡ Done) × IsResultsText q text
IsAnswer (sign_verdict trial) ending text = IsVerdictText sign_domain sign_texts trial ending text
IsAnswer (interval_verdict trial) ending text = IsVerdictText interval_domain interval_texts trial ending text
IsAnswer (sign_constraints survey) ending text = (ending ≡ Done) × IsConstraintsText sign_domain sign_texts survey text
IsAnswer (interval_constraints survey) ending text = (ending ≡ Done) × IsConstraintsText interval_domain interval_texts survey text
IsAnswer (sign_analysis survey) ending text = (ending ≡ Done) × IsAnalysisText sign_domain true sign_texts survey text
IsAnswer (interval_analysis survey) ending text = (ending ≡ Done) × IsAnalysisText interval_domain false interval_texts survey text
IsAnswer (solution survey) ending text = (ending ≡ Done) × IsSolutionText sign_domain sign_texts survey text

-- what it says of the derivations of the program where a command ends so; the texts of results and of constraints say all
-- by themselves
abbrev pub Means : Asked → Ending → Type 0
Means (results q) ending = ⊤
Means (sign_verdict trial) ending = VerdictMeans sign_domain trial ending
Means (interval_verdict trial) ending = VerdictMeans interval_domain trial ending
Means (sign_constraints survey) ending = ⊤
Means (interval_constraints survey) ending = ⊤
Means (sign_analysis survey) ending = AnalysisMeans sign_domain true survey
Means (interval_analysis survey) ending = AnalysisMeans interval_domain false survey
Means (solution survey) ending = SolutionMeans sign_domain survey
