-- What a verdict says, and the plan of a table that is judged.
use Rattle.std.proofs.Common.{◌≡◌, ℕ, All, List, Option, Result, Ok, Err, Some, codes, refl, sym, ◌∙◌, length, subst}
use Rattle.sk_def.specs.declared.def.Def.{Def}
use Rattle.sk_lattice.specs.Domain.{Domain}
use Rattle.sk_lattice.specs.DomainTexts.{DomainTexts}
use Rattle.sk_sign.specs.Signs.{sign_domain}
use Rattle.sk_sign.specs.Texts.{sign_texts}
use Rattle.sk_interval.specs.Intervals.{interval_domain}
use Rattle.sk_interval.specs.Texts.{interval_texts}
use Rattle.sk_table.specs.declared.triple.Triple.{Triple}
use Rattle.sk_table.specs.Fits.{TripleFits}
use Rattle.sk_term.specs.Program.{Program, IsProgramOf}
use Rattle.sk_verify.specs.Reading.{ReadTablesFit}
use Rattle.sk_abswalk.specs.Fits.{TableFits}
use Rattle.sk_abswalk.specs.Tables.{IsSound, IsBounded}
use Rattle.sk_abswalk.specs.Verdict.{verdict_of, VerdictsAreRight}
use Rattle.sk_abswalk.specs.declared.verdict.Verdict.{Verdict}
use Rattle.sk_abswalk.specs.declared.verdict.Verdict.TheVariants.{Yes, Unjustified, CoverMissing}
use Rattle.sk_abswalk.specs.declared.verdict.Why.{Why}
use Rattle.sk_bench.specs.declared.kinds.DomainWord.TheVariants as word
use Rattle.sk_bench.specs.declared.status.Ending.{Ending}
use Rattle.sk_bench.specs.declared.status.Ending.TheVariants.{Table}
use Rattle.sk_bench.specs.declared.status.Output.{Output}
use Rattle.sk_bench.specs.declared.status.Stop.{Stop}
use Rattle.sk_bench.specs.Accepted.{accepted_table, program_of}
use Rattle.sk_bench.specs.Asked.{Asked, IsAnswer, Means, sign_verdict, interval_verdict}
use Rattle.sk_bench.specs.Commands.{on_accepted, trial, verify_table}
use Rattle.sk_bench.specs.Following.{Prepares}
use Rattle.sk_bench.specs.Jobs.{ReadJob}
use Rattle.sk_bench.specs.Judging.{JudgesTable}
use Rattle.sk_bench.specs.Plan.{WriteAnswer}
use Rattle.sk_bench.specs.Refused.{Refused}
use Rattle.sk_deriv.specs.Moves.{Setting, setting_of}
use Rattle.sk_bench.specs.Verdicts.{Trial, IsVerdictText, VerdictMeans, setting_at, verdict_ending, verdict_text}

module _ {D : Type 0} (d : Domain D) (asked : Trial D) where
  unjustified_is_no : (n : ℕ) (why : Why D) → ◌≡◌ {A = Option (Verdict D)} (Some (Unjustified n why)) (Some Yes) → ⊥
  unjustified_is_no n why e = absurd cc

  missing_is_no : (n : ℕ) → ◌≡◌ {A = Option (Verdict D)} (Some (CoverMissing n)) (Some Yes) → ⊥
  missing_is_no n e = absurd cc

  -- yes is the verdict just on accepted tables
  pub verdict_means : (verdict : Verdict D) → VerdictsAreRight d → verdict_of d (setting_at asked) asked.covers asked.table ≡ Some verdict
      → (verdict ≡ Yes → All (IsSound d (setting_at asked)) asked.table × All (IsBounded d (setting_at asked) asked.table) asked.covers)
      → VerdictMeans d asked (verdict_ending verdict)
  verdict_means Yes right is sound =
      record { accepted = (right (setting_at asked) asked.covers asked.table).0 is; triples = (sound refl).0; lines = (sound refl).1 }
  verdict_means (Unjustified n why) right is sound =
      λ accepted. unjustified_is_no n why (sym is ∙ (right (setting_at asked) asked.covers asked.table).1 accepted)
  verdict_means (CoverMissing n) right is sound = λ accepted. missing_is_no n (sym is ∙ (right (setting_at asked) asked.covers asked.table).1 accepted)

  -- the line of the verdict is made over the names of the job
  pub judged : (t : DomainTexts D) (program : Program) (verdict : Verdict D) (ending : Ending) (text : List ℕ) → program.nodes ≡ asked.job.nodes
      → program.names ≡ length asked.job.names → VerdictsAreRight d → verdict_of d (setting_of asked.def program) asked.covers asked.table ≡ Some verdict
      → (verdict ≡ Yes → All (IsSound d (setting_of asked.def program)) asked.table × All (IsBounded d (setting_of asked.def program) asked.table) asked.covers)
      → ending ≡ verdict_ending verdict → text ≡ verdict_text d t asked.def asked.job.names (length asked.table) verdict
      → IsVerdictText d t asked ending text × VerdictMeans d asked ending
  judged t program verdict ending text nodes names right is sound ends spells =
      let same : setting_of asked.def program ≡ setting_at asked = λ i. record { def = asked.def; nodes = nodes i; names = names i } in
      let is' = subst (λ (x : Setting). verdict_of d x asked.covers asked.table ≡ Some verdict) same is in
      let sound' = subst (λ (x : Setting). verdict ≡ Yes → All (IsSound d x) asked.table × All (IsBounded d x asked.table) asked.covers) same sound in
      ((verdict, is', ends, spells), subst (VerdictMeans d asked) (sym ends) (verdict_means verdict right is' sound'))

-- a table that was read over the names of a job fits walks
pub table_fits : {D : Type 0} (def : Def) (program : Program) (names : ℕ) (table : List (Triple D)) → ReadTablesFit D → IsProgramOf def program → program.names ≡ names
    → All (TripleFits def program names) table → TableFits (setting_of def program) table
table_fits def program names table law is same fit = law def program table is (subst (λ n. All (TripleFits def program n) table) (sym same) fit)

-- what is made of a table that is judged is what the plan asks for
module _ {D : Type 0} (d : Domain D) (t : DomainTexts D) (asks : Trial D → Asked)
    (answers : (x : Trial D) (ending : Ending) (text : List ℕ) → IsVerdictText d t x ending text → IsAnswer (asks x) ending text)
    (means : (x : Trial D) (ending : Ending) → VerdictMeans d x ending → Means (asks x) ending) (trials : List (Triple D) → Trial D) where
  prepares : (table : Result (List (Triple D)) Refused) (result : Result Output Stop) → JudgesTable d t trials table result
      → Prepares (on_accepted Table (codes "table") (λ xs. WriteAnswer (asks (trials xs))) table) result
  prepares (Ok xs) (Ok output) h = (answers (trials xs) output.ending output.text.items h.0, means (trials xs) output.ending h.1)
  prepares (Ok xs) (Err reason) h = h
  prepares (Err refused) result h = h

pub sign_prepares : (d : Def) (job : ReadJob) (text : List ℕ) (result : Result Output Stop)
    → JudgesTable sign_domain sign_texts (trial d job job.sign) (accepted_table sign_domain sign_texts d (program_of d job) job.names text) result
    → Prepares (verify_table word.Sign d job text) result
sign_prepares d job text result h =
    prepares sign_domain sign_texts sign_verdict (λ x ending said is. is) (λ x ending is. is) (trial d job job.sign)
    (accepted_table sign_domain sign_texts d (program_of d job) job.names text) result h

pub interval_prepares : (d : Def) (job : ReadJob) (text : List ℕ) (result : Result Output Stop)
    → JudgesTable interval_domain interval_texts (trial d job job.interval) (accepted_table interval_domain interval_texts d (program_of d job) job.names text) result
    → Prepares (verify_table word.Interval d job text) result
interval_prepares d job text result h =
    prepares interval_domain interval_texts interval_verdict (λ x ending said is. is) (λ x ending is. is) (trial d job job.interval)
    (accepted_table interval_domain interval_texts d (program_of d job) job.names text) result h
