-- The verdict on a table: its text, how the command ends, and what that says of derivations.
use Rattle.std.specs.Prelude.{◌≡◌, ℕ, List, ◌++◌, All, Some, codes, decimal, length}
use Rattle.sk_def.specs.Named.{hook_name}
use Rattle.sk_def.specs.declared.def.Def.{Def}
use Rattle.sk_lattice.specs.Domain.{Domain}
use Rattle.sk_lattice.specs.DomainTexts.{DomainTexts}
use Rattle.sk_lattice.specs.Texts.{tuple_text}
use Rattle.sk_deriv.specs.Moves.{Setting}
use Rattle.sk_table.specs.declared.triple.Triple.{Triple}
use Rattle.sk_table.specs.declared.triple.Cover.{Cover}
use Rattle.sk_abswalk.specs.Tables.{IsAccepted, IsSound, IsBounded}
use Rattle.sk_abswalk.specs.Verdict.{verdict_of}
use Rattle.sk_abswalk.specs.declared.verdict.Why.{Why}
use Rattle.sk_abswalk.specs.declared.verdict.Why.TheVariants.{Uncovered, Larger}
use Rattle.sk_abswalk.specs.declared.verdict.Verdict.{Verdict}
use Rattle.sk_abswalk.specs.declared.verdict.Verdict.TheVariants.{Yes, Unjustified, CoverMissing}
use Rattle.sk_bench.specs.declared.status.Ending.{Ending}
use Rattle.sk_bench.specs.declared.status.Ending.TheVariants.{Done, No}
use Rattle.sk_bench.specs.Jobs.{ReadJob}

-- a table of a domain that is judged, with the definition, the job and its cover lines of that domain
pub record Trial (D : Type 0) : Type 0 where
  pub def : Def
  pub job : ReadJob
  pub covers : List (Cover D)
  pub table : List (Triple D)

abbrev pub setting_at : {D : Type 0} → Trial D → Setting
setting_at trial = record { def = trial.def; nodes = trial.job.nodes; names = length trial.job.names }

-- why a triple isn't justified
abbrev pub why_text : {D : Type 0} → Domain D → DomainTexts D → Def → List (List ℕ) → Why D → List ℕ
why_text d t def names (Uncovered hook point args) = codes "uncovered " ++ hook_name def hook ++ codes " " ++ decimal point ++ codes " " ++ tuple_text d t names args
why_text d t def names (Larger outs) = codes "larger " ++ tuple_text d t names outs

-- the line of a verdict on a table of so many triples
abbrev pub verdict_text : {D : Type 0} → Domain D → DomainTexts D → Def → List (List ℕ) → ℕ → Verdict D → List ℕ
verdict_text d t def names count Yes = codes "yes " ++ decimal count ++ codes " triples\n"
verdict_text d t def names count (Unjustified triple why) = codes "no triple " ++ decimal triple ++ codes " " ++ why_text d t def names why ++ codes "\n"
verdict_text d t def names count (CoverMissing line) = codes "no cover " ++ decimal line ++ codes "\n"

abbrev pub verdict_ending : {D : Type 0} → Verdict D → Ending
verdict_ending Yes = Done
verdict_ending other = No

-- the text is the line of the table's verdict, and the command ends as that says
abbrev pub IsVerdictText : {D : Type 0} → Domain D → DomainTexts D → Trial D → Ending → List ℕ → Type 0
IsVerdictText {D} d t trial ending text =
    (verdict : Verdict D) × (verdict_of d (setting_at trial) trial.covers trial.table ≡ Some verdict) × (ending ≡ verdict_ending verdict)
    × (text ≡ verdict_text d t trial.def trial.job.names (length trial.table) verdict)

-- The table is accepted. Then the outputs of each triple cover those of all valid derivations of its hook and point, of any
-- height, from inputs that the triple's cover, and there are none where the outputs are none; and the same holds of what the
-- table answers to each cover line.
pub record IsTrusted {D : Type 0} (d : Domain D) (trial : Trial D) : Type 0 where
  pub accepted : IsAccepted d (setting_at trial) trial.covers trial.table
  pub triples : All (IsSound d (setting_at trial)) trial.table
  pub lines : All (IsBounded d (setting_at trial) trial.table) trial.covers

-- yes is said just of tables that are accepted
abbrev pub VerdictMeans : {D : Type 0} → Domain D → Trial D → Ending → Type 0
VerdictMeans d trial Done = IsTrusted d trial
VerdictMeans d trial other = ¬ IsAccepted d (setting_at trial) trial.covers trial.table
