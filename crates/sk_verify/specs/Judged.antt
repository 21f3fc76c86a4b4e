-- What the check of one triple finds, and that of all.
use Rattle.std.specs.Prelude.{◌≡◌, true, false, ℕ, List, Option, Some, None}
use Rattle.sk_deriv.specs.Moves.{Setting}
use Rattle.sk_lattice.specs.Domain.{Domain}
use Rattle.sk_table.specs.declared.triple.Triple.{Triple}
use Rattle.sk_abswalk.specs.declared.verdict.Why.{Why}
use Rattle.sk_abswalk.specs.Walk.{abstract_outputs}
use Rattle.sk_abswalk.specs.Tables.{table_answer, call_of, is_justified}
use Rattle.sk_abswalk.specs.Verdict.{why_of, first_failing}

-- why a triple isn't justified: the cause at the end of its walk
abbrev pub IsCause : {D : Type 0} → Domain D → Setting → List (Triple D) → Triple D → Why D → Type 0
IsCause d s table triple why = why_of (abstract_outputs d (table_answer d table) s (call_of triple)) ≡ Some why

-- there is no cause where the triple is justified, and else this one
abbrev pub IsJudged : {D : Type 0} → Domain D → Setting → List (Triple D) → Triple D → Option (Why D) → Type 0
IsJudged d s table triple None = is_justified d s table triple ≡ true
IsJudged d s table triple (Some why) = (is_justified d s table triple ≡ false) × IsCause d s table triple why

-- all triples are justified, or the first that isn't has this number and this cause
abbrev pub IsFirst : {D : Type 0} → Domain D → Setting → List (Triple D) → Option (ℕ × Why D) → Type 0
IsFirst d s table None = first_failing (is_justified d s table) table ≡ None
IsFirst {D} d s table (Some found) =
    (triple : Triple D) × (first_failing (is_justified d s table) table ≡ Some (found.0, triple)) × IsCause d s table triple found.1
