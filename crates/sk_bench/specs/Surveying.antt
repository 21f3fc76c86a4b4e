-- What is made of a job and its cover lines of a domain.
use Rattle.std.specs.Prelude.{◌≡◌, ℕ, List, [], ◌∷◌, Result, Ok, Err, codes}
use Rattle.sk_def.specs.declared.def.Def.{Def}
use Rattle.sk_table.specs.declared.triple.Cover.{Cover}
use Rattle.sk_bench.specs.declared.status.Ending.TheVariants.{Done, Job}
use Rattle.sk_bench.specs.declared.status.Output.{Output}
use Rattle.sk_bench.specs.declared.status.Stop.{Stop}
use Rattle.sk_bench.specs.declared.status.Stop.TheVariants as stop
use Rattle.sk_bench.specs.Commands.{survey}
use Rattle.sk_bench.specs.Following.{Prepares}
use Rattle.sk_bench.specs.Jobs.{ReadJob}
use Rattle.sk_bench.specs.Plan.{Write}
use Rattle.sk_bench.specs.Refused.{missing, refused_line}
use Rattle.sk_bench.specs.Surveys.{Survey}

-- the work was done, with a text of which P holds, or memory was refused
abbrev pub Makes : (List ℕ → Type 0) → Result Output Stop → Type 0
Makes P (Ok output) = (output.ending ≡ Done) × P output.text.items
Makes P (Err reason) = reason ≡ stop.NoMemory

-- the same where the job has such cover lines, and else the line that it has none
abbrev pub Surveys : {D : Type 0} → (Survey D → List ℕ → Type 0) → Def → ReadJob → List ℕ → List (Cover D) → Result Output Stop → Type 0
Surveys P d job text [] result = Prepares (Write Job (refused_line (codes "job") (missing (codes "NoCover") text))) result
Surveys P d job text (line ∷ lines) result = Makes (P (survey d job (line ∷ lines))) result
