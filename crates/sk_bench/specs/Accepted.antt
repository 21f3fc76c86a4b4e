-- The texts that are accepted: definitions that are read and are well sorted, and jobs and tables that are read.
use Rattle.std.specs.List.{filter_map}
use Rattle.std.specs.Prelude.{◌≡◌, IsSome, ℕ, List, length, codes, Option, Some, None, Result, Ok, Err, slice_get, unwrap_or}
use Rattle.sk_base.specs.Answer.{◌>>=◌}
use Rattle.sk_base.specs.declared.place.Place.{Place}
use Rattle.sk_def.specs.declared.def.Def.{Def}
use Rattle.sk_deftext.specs.Places.{place_of_part}
use Rattle.sk_deftext.specs.Texts.{read_definition}
use Rattle.sk_deftext.specs.declared.fault.DefFault.{DefFault}
use Rattle.sk_deftext.specs.declared.fault.DefFault.TheVariants as fault
use Rattle.sk_deftext.specs.declared.source.Places.{Places}
use Rattle.sk_deftext.specs.declared.source.Source.{Source}
use Rattle.sk_sort.specs.Definition.{first_fault}
use Rattle.sk_sort.specs.declared.error.SortFault.{SortFault}
use Rattle.sk_sort.specs.declared.error.SortFault.TheVariants as sorts
use Rattle.sk_bench.specs.declared.job.JobError.{JobError}
use Rattle.sk_lattice.specs.Domain.{Domain}
use Rattle.sk_lattice.specs.DomainTexts.{DomainTexts}
use Rattle.sk_term.specs.Program.{Program}
use Rattle.sk_term.specs.Terms.{sort_of_node}
use Rattle.sk_table.specs.Tables.{read_table}
use Rattle.sk_table.specs.declared.fault.TableError.{TableError}
use Rattle.sk_table.specs.declared.triple.Triple.{Triple}
use Rattle.sk_bench.specs.Codes.{job_code, lex_code, sort_code, table_code}
use Rattle.sk_bench.specs.Jobs.{ReadJob}
use Rattle.sk_bench.specs.JobText.{read_job}
use Rattle.sk_bench.specs.Refused.{Refused}

-- the first byte
abbrev pub text_start : Place
text_start = record { line = 1; column = 1 }

abbrev pub refused_at : List ℕ → Place → Refused
refused_at code place = record { code = code; place = place }

-- the refusal of a text that is no definition. Reading gives each fault but want of memory, which is none of a text's
abbrev pub read_refusal : DefFault → Refused
read_refusal (fault.Lex error place) = refused_at (lex_code error) place
read_refusal (fault.Unexpected place) = refused_at (codes "Unexpected") place
read_refusal (fault.Unknown place) = refused_at (codes "Unknown") place
read_refusal (fault.Duplicate place) = refused_at (codes "Duplicate") place
read_refusal (fault.TooMany place which) = refused_at (codes "TooMany") place
read_refusal fault.NoMemory = refused_at (codes "NoMemory") text_start

-- the refusal of a definition that isn't well sorted: at the part of the rule whose check fails, or at the hook without a
-- rule. `faults_are_placed` says that these have places, so that no refusal falls back to the text's start
abbrev pub sort_refusal : Places → SortFault → Refused
sort_refusal places (sorts.Bad why rule bone) = refused_at (sort_code why) (unwrap_or (place_of_part places rule bone) text_start)
sort_refusal places (sorts.MissingRule hook con) = refused_at (codes "MissingRule") (unwrap_or (slice_get places.hooks hook.0) text_start)
sort_refusal places sorts.NoMemory = refused_at (codes "NoMemory") text_start

abbrev pub when_read : Result Source DefFault → Result Source Refused
when_read (Ok source) = Ok source
when_read (Err fault) = Err (read_refusal fault)

abbrev pub unless_fault : Source → Option SortFault → Result Def Refused
unless_fault source None = Ok source.def
unless_fault source (Some fault) = Err (sort_refusal source.places fault)

-- the part that a fault names has a place in the text; want of memory is no fault of a definition
abbrev pub IsPlaced : Places → SortFault → Type 0
IsPlaced places (sorts.Bad why rule bone) = IsSome (place_of_part places rule bone)
IsPlaced places (sorts.MissingRule hook con) = IsSome (slice_get places.hooks hook.0)
IsPlaced places sorts.NoMemory = ⊥

-- the first fault of a definition has its place
abbrev pub FaultIsPlaced : Source → Type 0
FaultIsPlaced source = (fault : SortFault) → first_fault source.def ≡ Some fault → IsPlaced source.places fault

-- the definition that a text is, where it is read and is well sorted
unfoldable pub accepted_definition : List ℕ → Result Def Refused
accepted_definition text = when_read (read_definition text) >>= λ source. unless_fault source (first_fault source.def)

abbrev pub when_job : Result ReadJob (JobError × Place) → Result ReadJob Refused
when_job (Ok job) = Ok job
when_job (Err (error, place)) = Err (refused_at (job_code error) place)

-- the job that a text is, over a definition
abbrev pub accepted_job : Def → List ℕ → Result ReadJob Refused
accepted_job d text = when_job (read_job d text)

-- the program of a job
abbrev pub program_of : Def → ReadJob → Program
program_of d job = record { nodes = job.nodes; sorts = filter_map (sort_of_node d) job.nodes; names = length job.names }

abbrev pub when_table : {A : Type 0} → Result A (TableError × Place) → Result A Refused
when_table (Ok table) = Ok table
when_table (Err (error, place)) = Err (refused_at (table_code error) place)

-- the table of a domain that a text is, over a definition, a program and its names
abbrev pub accepted_table : {D : Type 0} → Domain D → DomainTexts D → Def → Program → List (List ℕ) → List ℕ → Result (List (Triple D)) Refused
accepted_table domain texts d program names text = when_table (read_table domain texts d program names text)
