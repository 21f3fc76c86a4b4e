-- What is made of a table that is judged.
use Rattle.std.specs.Prelude.{◌≡◌, List, Result, Ok, Err, codes}
use Rattle.sk_lattice.specs.Domain.{Domain}
use Rattle.sk_lattice.specs.DomainTexts.{DomainTexts}
use Rattle.sk_table.specs.declared.triple.Triple.{Triple}
use Rattle.sk_bench.specs.declared.status.Ending.TheVariants.{Table}
use Rattle.sk_bench.specs.declared.status.Output.{Output}
use Rattle.sk_bench.specs.declared.status.Stop.{Stop}
use Rattle.sk_bench.specs.declared.status.Stop.TheVariants as stop
use Rattle.sk_bench.specs.Following.{Prepares}
use Rattle.sk_bench.specs.Plan.{Write}
use Rattle.sk_bench.specs.Refused.{Refused, refused_line}
use Rattle.sk_bench.specs.Verdicts.{Trial, IsVerdictText, VerdictMeans}

-- the line of the table's verdict with what that says, or memory was refused
abbrev pub Judges : {D : Type 0} → Domain D → DomainTexts D → Trial D → Result Output Stop → Type 0
Judges domain texts trial (Ok output) = IsVerdictText domain texts trial output.ending output.text.items × VerdictMeans domain trial output.ending
Judges domain texts trial (Err reason) = reason ≡ stop.NoMemory

-- the same of the table that a text is, or the line of its refusal
abbrev pub JudgesTable : {D : Type 0} → Domain D → DomainTexts D → (List (Triple D) → Trial D) → Result (List (Triple D)) Refused → Result Output Stop → Type 0
JudgesTable domain texts trial (Ok table) result = Judges domain texts (trial table) result
JudgesTable domain texts trial (Err refused) result = Prepares (Write Table (refused_line (codes "table") refused)) result
