-- The plan of each command.
use Rattle.std.specs.Prelude.{ℕ, List, [], ◌∷◌, ◌++◌, Option, Some, None, Result, Ok, Err, length, codes, decimal, option_map, slice_get, unwrap_or}
use Rattle.sk_def.specs.declared.def.Def.{Def}
use Rattle.sk_lattice.specs.Domain.{Domain}
use Rattle.sk_lattice.specs.DomainTexts.{DomainTexts}
use Rattle.sk_table.specs.declared.triple.Triple.{Triple}
use Rattle.sk_table.specs.declared.triple.Cover.{Cover}
use Rattle.sk_sign.specs.Signs.{sign_domain}
use Rattle.sk_sign.specs.Texts.{sign_texts}
use Rattle.sk_interval.specs.Intervals.{interval_domain}
use Rattle.sk_interval.specs.Texts.{interval_texts}
use Rattle.sk_bench.specs.Verdicts.{Trial}
use Rattle.sk_bench.specs.declared.check.Counts.{Counts}
use Rattle.sk_bench.specs.declared.kinds.Command.{Command}
use Rattle.sk_bench.specs.declared.kinds.Command.TheVariants.{Check, Run, Verify, Constrain, Analyse, Solve}
use Rattle.sk_bench.specs.declared.kinds.JobCommand.{JobCommand}
use Rattle.sk_bench.specs.declared.kinds.JobCommand.TheVariants as command
use Rattle.sk_bench.specs.declared.kinds.DomainWord.{DomainWord}
use Rattle.sk_bench.specs.declared.kinds.DomainWord.TheVariants.{Sign, Interval}
use Rattle.sk_bench.specs.declared.status.Ending.{Ending}
use Rattle.sk_bench.specs.declared.status.Ending.TheVariants.{Done, Definition, Job, Table}
use Rattle.sk_bench.specs.Asked.{Asked, results, sign_verdict, interval_verdict, sign_constraints, interval_constraints, sign_analysis, interval_analysis, solution}
use Rattle.sk_bench.specs.Accepted.{accepted_definition, accepted_job, accepted_table, program_of}
use Rattle.sk_bench.specs.declared.job.Start.{Start}
use Rattle.sk_bench.specs.Jobs.{ReadJob}
use Rattle.sk_bench.specs.Outcomes.{Question}
use Rattle.sk_bench.specs.Plan.{Plan, Write, Read, WriteAnswer}
use Rattle.sk_bench.specs.Refused.{Refused, refused_line, missing}
use Rattle.sk_bench.specs.Surveys.{Survey}
use Rattle.sk_bench.specs.Words.{command_of}

-- the greatest number of bytes of a definition or a job, and of a table
abbrev pub text_limit : ℕ
text_limit = 4194304

abbrev pub table_limit : ℕ
table_limit = 16777216

-- a word by its place
abbrev pub word_at : List (List ℕ) → ℕ → List ℕ
word_at words place = unwrap_or (slice_get words place) []

-- goes on with what was accepted of a text of this kind, or ends with the line of its refusal
abbrev pub on_accepted : {A : Type 0} → Ending → List ℕ → (A → Plan) → Result A Refused → Plan
on_accepted ending kind next (Ok accepted) = next accepted
on_accepted ending kind next (Err refused) = Write ending (refused_line kind refused)

-- goes on with the definition that a text is
abbrev pub on_definition : (Def → Plan) → List ℕ → Plan
on_definition next text = on_accepted Definition (codes "definition") next (accepted_definition text)

-- how much a definition declares
abbrev pub counts_of : Def → Counts
counts_of d = record { sorts = length d.sorts; constructors = length d.cons; hooks = length d.hooks; rules = length d.rules }

-- the line for a good definition: how much it declares
abbrev pub good_line : Counts → List ℕ
good_line counts =
    codes "good" ++ codes " sorts " ++ decimal counts.sorts ++ codes " constructors " ++ decimal counts.constructors ++ codes " hooks " ++ decimal counts.hooks
    ++ codes " rules " ++ decimal counts.rules ++ codes "\n"

-- what `check` does with the text of its definition
abbrev pub check_on : List ℕ → Plan
check_on text = on_definition (λ d. Write Done (good_line (counts_of d))) text

-- goes on with the call of a job's start line, or ends with the line that the job has none, at the end of its text
abbrev pub on_start : (Start → Plan) → List ℕ → Option Start → Plan
on_start next text (Some start) = next start
on_start next text None = Write Job (refused_line (codes "job") (missing (codes "NoStart") text))

-- what is asked of a job's start line, to a depth
abbrev pub question : Def → ℕ → ReadJob → Start → Question
question d depth job start = record {
  def = d;
  nodes = job.nodes;
  names = job.names;
  call = record { hook = start.hook; point = start.point; ins = start.ins };
  depth = depth;
}

-- what is asked of a job's cover lines
abbrev pub survey : {D : Type 0} → Def → ReadJob → List (Cover D) → Survey D
survey d job covers = record { def = d; job = job; covers = covers }

-- asks with a job's cover lines of a domain, or ends with the line that the job has none, at the end of its text
abbrev pub on_covers : {D : Type 0} → (Survey D → Asked) → Def → ReadJob → List ℕ → List (Cover D) → Plan
on_covers asks d job text [] = Write Job (refused_line (codes "job") (missing (codes "NoCover") text))
on_covers asks d job text (line ∷ lines) = WriteAnswer (asks (survey d job (line ∷ lines)))

-- what a command over a definition and a job makes of the job that a text is
abbrev pub job_plan : JobCommand → Def → List ℕ → ReadJob → Plan
job_plan (command.Run depth) d text job = on_start (λ start. WriteAnswer (results (question d depth job start))) text job.start
job_plan (command.Constrain Sign) d text job = on_covers sign_constraints d job text job.sign
job_plan (command.Constrain Interval) d text job = on_covers interval_constraints d job text job.interval
job_plan (command.Analyse Sign) d text job = on_covers sign_analysis d job text job.sign
job_plan (command.Analyse Interval) d text job = on_covers interval_analysis d job text job.interval
job_plan command.Solve d text job = on_covers solution d job text job.sign

-- what it does with the text of its job
abbrev pub job_on : JobCommand → Def → List ℕ → Plan
job_on command d text = on_accepted Job (codes "job") (job_plan command d text) (accepted_job d text)

-- what it does with the text of its definition: it reads the job of this name
abbrev pub definition_on : JobCommand → List ℕ → List ℕ → Plan
definition_on command job text = on_definition (λ d. Read job text_limit (job_on command d)) text

-- a table over a job, with the job's cover lines of its domain
abbrev pub trial : {D : Type 0} → Def → ReadJob → List (Cover D) → List (Triple D) → Trial D
trial d job covers table = record { def = d; job = job; covers = covers; table = table }

-- goes on with the table of a domain that a text is, over a job
abbrev pub on_table : {D : Type 0} → Domain D → DomainTexts D → Def → ReadJob → (List (Triple D) → Plan) → List ℕ → Plan
on_table domain texts d job next text = on_accepted Table (codes "table") next (accepted_table domain texts d (program_of d job) job.names text)

-- what `verify` does with the text of its table, over the domain of a word
abbrev pub verify_table : DomainWord → Def → ReadJob → List ℕ → Plan
verify_table Sign d job text = on_table sign_domain sign_texts d job (λ table. WriteAnswer (sign_verdict (trial d job job.sign table))) text
verify_table Interval d job text = on_table interval_domain interval_texts d job (λ table. WriteAnswer (interval_verdict (trial d job job.interval table))) text

-- what `verify` does with the text of its job: it reads the table of this name
abbrev pub verify_job : List ℕ → DomainWord → Def → List ℕ → Plan
verify_job table domain d text =
    on_accepted Job (codes "job") (λ job. Read table table_limit (verify_table domain d job)) (accepted_job d text)

-- what `verify` does with the text of its definition: it reads the job of this name
abbrev pub verify_on : List ℕ → List ℕ → DomainWord → List ℕ → Plan
verify_on job table domain text = on_definition (λ d. Read job text_limit (verify_job table domain d)) text

-- the plan of a command with these words
unfoldable pub plan_of : List (List ℕ) → Command → Plan
plan_of words Check = Read (word_at words 1) text_limit check_on
plan_of words (Run depth) = Read (word_at words 1) text_limit (definition_on (command.Run depth) (word_at words 2))
plan_of words (Constrain domain) = Read (word_at words 1) text_limit (definition_on (command.Constrain domain) (word_at words 2))
plan_of words (Analyse domain) = Read (word_at words 1) text_limit (definition_on (command.Analyse domain) (word_at words 2))
plan_of words Solve = Read (word_at words 1) text_limit (definition_on command.Solve (word_at words 2))
plan_of words (Verify domain) = Read (word_at words 1) text_limit (verify_on (word_at words 2) (word_at words 4) domain)

-- the plan that the words ask for, if they are a command
abbrev pub planned : List (List ℕ) → Option Plan
planned words = option_map (plan_of words) (command_of words)
