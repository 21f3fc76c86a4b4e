-- Texts of tables and jobs are read by their tokens.
use Rattle.std.proofs.Common.{◌≡◌, ℕ, List, refl, ap, ◌∙◌, Result, Ok, Err}
use Rattle.sk_base.specs.Answer.{◌>>=◌}
use Rattle.sk_lex.specs.Symbols.{Symbol, symbols}
use Rattle.sk_lex.specs.Tokens.{tokens_of}
use Rattle.sk_lex.specs.declared.token.Token.{Token}
use Rattle.sk_lex.specs.declared.token.LexError.{LexError}
use Rattle.sk_def.specs.declared.def.Def.{Def}
use Rattle.sk_term.specs.Program.{Program}
use Rattle.sk_lattice.specs.Domain.{Domain}
use Rattle.sk_lattice.specs.DomainTexts.{DomainTexts}
use Rattle.sk_table.specs.declared.triple.Triple.{Triple}
use Rattle.sk_table.specs.declared.fault.TableError.{TableError}
use Rattle.sk_table.specs.Meets.{with_place}
use Rattle.sk_table.specs.Tables as tables
use Rattle.sk_table.specs.Tables.{triples_read, read_table}
use Rattle.sk_bench.specs.declared.job.JobError.{JobError}
use Rattle.sk_bench.specs.Jobs as jobs
use Rattle.sk_bench.specs.Jobs.{ReadJob}
use Rattle.sk_bench.specs.JobText as job_text
use Rattle.sk_bench.specs.JobText.{read_job}
use Rattle.sk_spell.specs.JobSpelling.{JobsAreReadExactly}
use Rattle.sk_spell.specs.TableInFull.{TablesAreSpelledInFull}
use Rattle.sk_spell.specs.Texts.{TokensAre}
use Rattle.sk_spell.specs.TextSpelling.{TableTextsAreReadExactly, JobTextsAreReadExactly}

-- what holds of symbols, weaker or stronger
tokens_are : {P Q : List Symbol → Type 0} (text : List ℕ) → ((ss : List Symbol) → P ss → Q ss) → TokensAre P text → TokensAre Q text
tokens_are text more t = record { tokens = t.tokens; are = t.are; holds = more (symbols text t.tokens) t.holds }

module _ {D : Type 0} (d : Domain D) (t : DomainTexts D) (def : Def) (program : Program) (names : List (List ℕ)) (triples : List (Triple D)) (text : List ℕ) where
  abbrev IsTable : List Symbol → Type 0
  IsTable ss = triples_read (tables.read_symbols d t def program names ss) ≡ Ok triples

  placed_table : (tokens : List Token) (r : Result (List (Triple D)) (TableError × ℕ)) → with_place text tokens r ≡ Ok triples → r ≡ Ok triples
  placed_table tokens (Ok x) e = cc e
  placed_table tokens (Err (error, at)) e = absurd (cc e)

  lexed_table : (r : Result (List Token) (LexError × ℕ)) → tokens_of text ≡ r →
      (tables.lexed text r >>= λ tokens. with_place text tokens (triples_read (tables.read_symbols d t def program names (symbols text tokens)))) ≡ Ok triples → TokensAre IsTable text
  lexed_table (Ok tokens) k e = record { tokens = tokens; are = k; holds = placed_table tokens (triples_read (tables.read_symbols d t def program names (symbols text tokens))) e }
  lexed_table (Err (error, at)) k e = absurd (cc e)

  -- a text that is read as a table, and its tokens
  table_tokens : read_table d t def program names text ≡ Ok triples → TokensAre IsTable text
  unfolding read_table
  table_tokens e = lexed_table (tokens_of text) refl e

  tokens_table : TokensAre IsTable text → read_table d t def program names text ≡ Ok triples
  unfolding read_table
  tokens_table k =
      ap (λ r. tables.lexed text r >>= λ tokens. with_place text tokens (triples_read (tables.read_symbols d t def program names (symbols text tokens)))) k.are
      ∙ ap (with_place text k.tokens) k.holds

pub table_texts : {D : Type 0} (d : Domain D) (t : DomainTexts D) → TablesAreSpelledInFull d t → TableTextsAreReadExactly d t
table_texts d t law def program names triples text different = (
  λ e. tokens_are text (λ ss h. (law def program names triples ss different).0 h) (table_tokens d t def program names triples text e),
  λ k. tokens_table d t def program names triples text (tokens_are text (λ ss h. (law def program names triples ss different).1 h) k),
)

module _ (d : Def) (job : ReadJob) (text : List ℕ) where
  abbrev IsJob : List Symbol → Type 0
  IsJob ss = jobs.read_symbols d ss ≡ Ok job

  placed_job : (tokens : List Token) (r : Result ReadJob (JobError × ℕ)) → job_text.located text tokens r ≡ Ok job → r ≡ Ok job
  placed_job tokens (Ok x) e = cc e
  placed_job tokens (Err (error, at)) e = absurd (cc e)

  lexed_job : (r : Result (List Token) (LexError × ℕ)) → tokens_of text ≡ r →
      (job_text.lexed text r >>= λ tokens. job_text.located text tokens (jobs.read_symbols d (symbols text tokens))) ≡ Ok job → TokensAre IsJob text
  lexed_job (Ok tokens) k e = record { tokens = tokens; are = k; holds = placed_job tokens (jobs.read_symbols d (symbols text tokens)) e }
  lexed_job (Err (error, at)) k e = absurd (cc e)

  -- a text that is read as a job, and its tokens
  job_tokens : read_job d text ≡ Ok job → TokensAre IsJob text
  unfolding read_job
  job_tokens e = lexed_job (tokens_of text) refl e

  tokens_job : TokensAre IsJob text → read_job d text ≡ Ok job
  unfolding read_job
  tokens_job k =
      ap (λ r. job_text.lexed text r >>= λ tokens. job_text.located text tokens (jobs.read_symbols d (symbols text tokens))) k.are
      ∙ ap (job_text.located text k.tokens) k.holds

pub job_texts : JobsAreReadExactly → JobTextsAreReadExactly
job_texts law d text job constructors = (
  λ e. tokens_are text (λ ss h. (law d ss job constructors).0 h) (job_tokens d job text e),
  λ k. tokens_job d job text (tokens_are text (λ ss h. (law d ss job constructors).1 h) k),
)
