-- Texts of tables and jobs: they are read exactly where their tokens are spelled so.
use Rattle.std.specs.Prelude.{◌≡◌, ◌↔◌, ℕ, List, Ok}
use Rattle.std.specs.List.{IsDistinct}
use Rattle.std.specs.Str.{bytes_eq}
use Rattle.sk_def.specs.declared.def.Def.{Def}
use Rattle.sk_term.specs.Program.{Program}
use Rattle.sk_term.specs.Spelling.{ConstructorsAreFound}
use Rattle.sk_lattice.specs.Domain.{Domain}
use Rattle.sk_lattice.specs.DomainTexts.{DomainTexts}
use Rattle.sk_table.specs.declared.triple.Triple.{Triple}
use Rattle.sk_table.specs.Tables.{read_table}
use Rattle.sk_bench.specs.Jobs.{ReadJob}
use Rattle.sk_bench.specs.JobText.{read_job}
use Rattle.sk_spell.specs.JobSpelling.{JobIsSpelled}
use Rattle.sk_spell.specs.TableInFull.{SpelledTuple}
use Rattle.sk_spell.specs.TableSpelling.{SpellTable}
use Rattle.sk_spell.specs.Texts.{TokensAre}

-- A text is read as a table exactly where its tokens spell the table, its tuples value by value, given that the names are
-- different words.
abbrev pub TableTextsAreReadExactly : {D : Type 0} → Domain D → DomainTexts D → Type 0
TableTextsAreReadExactly {D} d t =
    (def : Def) (program : Program) (names : List (List ℕ)) (triples : List (Triple D)) (text : List ℕ) → IsDistinct bytes_eq names →
    read_table d t def program names text ≡ Ok triples ↔ TokensAre (SpellTable (SpelledTuple d t names) t.word def program triples) text

-- A text is read as a job exactly where its tokens are the job's, given that each constructor is found by its own name.
abbrev pub JobTextsAreReadExactly : Type 0
JobTextsAreReadExactly =
    (d : Def) (text : List ℕ) (job : ReadJob) → ConstructorsAreFound d →
    read_job d text ≡ Ok job ↔ TokensAre (λ symbols. JobIsSpelled d symbols job) text
