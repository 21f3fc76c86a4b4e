-- The text of a job.
use Rattle.std.specs.Prelude.{ℕ, List, Option, Some, None, Result, Ok, Err}
use Rattle.sk_base.specs.Answer.{◌>>=◌}
use Rattle.sk_base.specs.Place.{place_at}
use Rattle.sk_base.specs.declared.place.Place.{Place}
use Rattle.sk_lex.specs.Symbols.{symbols, place_in}
use Rattle.sk_lex.specs.Tokens.{tokens_of}
use Rattle.sk_lex.specs.declared.token.Token.{Token}
use Rattle.sk_lex.specs.declared.token.LexError.{LexError}
use Rattle.sk_def.specs.declared.def.Def.{Def}
use Rattle.sk_bench.specs.Jobs.{ReadJob, read_symbols}
use Rattle.sk_bench.specs.declared.job.Job.{Job}
use Rattle.sk_bench.specs.declared.job.JobError.{JobError}
use Rattle.sk_bench.specs.declared.job.JobError.TheVariants.{Lex}
use Rattle.sk_bench.specs.declared.job.JobFault.{JobFault}
use Rattle.sk_bench.specs.declared.job.JobFault.TheVariants as fault

-- what callers see of a job
abbrev pub seen : Job → ReadJob
seen job = record { nodes = job.arena.nodes; names = job.names; start = job.start; sign = job.sign; interval = job.interval }

-- the error and the place of a fault, none for want of memory
abbrev pub bad_of : JobFault → Option (JobError × Place)
bad_of (fault.Bad error place) = Some (error, place)
bad_of fault.NoMemory = None

-- a lexical error stands at its byte
abbrev pub lexed : List ℕ → Result (List Token) (LexError × ℕ) → Result (List Token) (JobError × Place)
lexed text (Ok tokens) = Ok tokens
lexed text (Err (error, at)) = Err (Lex error, place_at text at)

-- another one stands at its token, or at the text's end
abbrev pub located : List ℕ → List Token → Result ReadJob (JobError × ℕ) → Result ReadJob (JobError × Place)
located text tokens (Ok job) = Ok job
located text tokens (Err (error, number)) = Err (error, place_in text tokens number)

-- a job's text over a definition: what it says, or its error and where it stands
unfoldable pub read_job : Def → List ℕ → Result ReadJob (JobError × Place)
read_job d text = lexed text (tokens_of text) >>= λ tokens. located text tokens (read_symbols d (symbols text tokens))
