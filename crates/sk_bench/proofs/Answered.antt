-- What is asked has one answer.
use Rattle.std.proofs.Common.{◌≡◌, true, false, ℕ, List, Some, ap, length, sym, ◌∙◌}
use Rattle.sk_deriv.proofs.Unique.{results_are_one}
use Rattle.sk_lattice.specs.Domain.{Domain}
use Rattle.sk_lattice.specs.DomainTexts.{DomainTexts}
use Rattle.sk_sign.specs.Signs.{sign_domain}
use Rattle.sk_sign.specs.Texts.{sign_texts}
use Rattle.sk_interval.specs.Intervals.{interval_domain}
use Rattle.sk_interval.specs.Texts.{interval_texts}
use Rattle.sk_abswalk.specs.declared.verdict.Verdict.{Verdict}
use Rattle.sk_bench.specs.declared.status.Ending.{Ending}
use Rattle.sk_bench.specs.Asked.{Asked, IsAnswer, results, sign_verdict, interval_verdict, sign_constraints, interval_constraints, sign_analysis, interval_analysis, solution}
use Rattle.sk_bench.specs.Outcomes.{Question, IsResultsText, setting_in, outcomes_text}
use Rattle.sk_constr.specs.declared.constraint_list.ConstraintList.{ConstraintList}
use Rattle.sk_table.specs.declared.triple.Triple.{Triple}
use Rattle.sk_table.specs.Texts.{table_text}
use Rattle.sk_constr.specs.Texts.{constraints_text}
use Rattle.sk_bench.specs.Surveys.{Survey, IsConstraintsText, IsTextOf, IsAnalysis, IsSolution}
use Rattle.sk_bench.proofs.Analysed.{one_analysis, one_solution}
use Rattle.sk_bench.proofs.OneList.{one_list}
use Rattle.sk_bench.specs.Verdicts.{Trial, IsVerdictText, verdict_ending, verdict_text}

-- a call has one text of its results
one_text : (q : Question) (text said : List ℕ) → IsResultsText q text → IsResultsText q said → text ≡ said
one_text q text said (xs, is, spells) (ys, are, told) =
    spells ∙ ap (outcomes_text q.def q.names) (results_are_one (setting_in q) q.call q.depth xs ys is are) ∙ sym told

some_one : {A : Type 0} (x y : A) → Some x ≡ Some y → x ≡ y
some_one x y e = cc

one_verdict : {D : Type 0} (d : Domain D) (t : DomainTexts D) (trial : Trial D) (ending said_ending : Ending) (text said : List ℕ)
    → IsVerdictText d t trial ending text → IsVerdictText d t trial said_ending said → (ending ≡ said_ending) × (text ≡ said)
one_verdict {D} d t trial ending said_ending text said (verdict, is, ends, spells) (other, told, ended, spelled) =
    let same : verdict ≡ other = some_one verdict other (sym is ∙ told) in
    (ends ∙ ap (λ (v : Verdict D). verdict_ending v) same ∙ sym ended, spells ∙ ap (verdict_text d t trial.def trial.job.names (length trial.table)) same ∙ sym spelled)

one_constraints_text : {D : Type 0} (d : Domain D) (t : DomainTexts D) (survey : Survey D) (text said : List ℕ)
    → IsConstraintsText d t survey text → IsConstraintsText d t survey said → text ≡ said
one_constraints_text d t survey text said (list, is, spells) (other, are, spelled) =
    spells ∙ ap (constraints_text d t survey.def survey.job.names) (one_list survey list other is are) ∙ sym spelled

one_table_text : {D : Type 0} (d : Domain D) (t : DomainTexts D) (survey : Survey D) (P : List (Triple D) → Type 0) → ((xs ys : List (Triple D)) → P xs → P ys → xs ≡ ys)
    → (text said : List ℕ) → IsTextOf d t survey P text → IsTextOf d t survey P said → text ≡ said
one_table_text d t survey P one text said (xs, is, spells) (ys, are, spelled) = spells ∙ ap (table_text d t survey.def survey.job.names) (one xs ys is are) ∙ sym spelled

pub one_answer : (asked : Asked) (ending said_ending : Ending) (text said : List ℕ) → IsAnswer asked ending text → IsAnswer asked said_ending said
    → (ending ≡ said_ending) × (text ≡ said)
one_answer (sign_constraints survey) ending said_ending text said is told =
    (is.0 ∙ sym told.0, one_constraints_text sign_domain sign_texts survey text said is.1 told.1)
one_answer (interval_constraints survey) ending said_ending text said is told =
    (is.0 ∙ sym told.0, one_constraints_text interval_domain interval_texts survey text said is.1 told.1)
one_answer (sign_analysis survey) ending said_ending text said is told =
    (is.0 ∙ sym told.0, one_table_text sign_domain sign_texts survey (IsAnalysis sign_domain true survey) (one_analysis sign_domain true survey) text said is.1 told.1)
one_answer (interval_analysis survey) ending said_ending text said is told =
    (is.0 ∙ sym told.0, one_table_text interval_domain interval_texts survey (IsAnalysis interval_domain false survey) (one_analysis interval_domain false survey) text said is.1 told.1)
one_answer (solution survey) ending said_ending text said is told =
    (is.0 ∙ sym told.0, one_table_text sign_domain sign_texts survey (IsSolution sign_domain survey) (one_solution survey) text said is.1 told.1)
one_answer (results q) ending said_ending text said is told = (is.0 ∙ sym told.0, one_text q text said is.1 told.1)
one_answer (sign_verdict trial) ending said_ending text said is told = one_verdict sign_domain sign_texts trial ending said_ending text said is told
one_answer (interval_verdict trial) ending said_ending text said is told = one_verdict interval_domain interval_texts trial ending said_ending text said is told
