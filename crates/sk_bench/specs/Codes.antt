-- The names of errors, as refusals write them.
use Rattle.std.specs.Prelude.{ℕ, List, codes}
use Rattle.sk_lex.specs.declared.token.LexError.{LexError}
use Rattle.sk_lex.specs.declared.token.LexError.TheVariants as lex
use Rattle.sk_sort.specs.declared.error.SortError.{SortError}
use Rattle.sk_sort.specs.declared.error.SortError.TheVariants as sort
use Rattle.sk_bench.specs.declared.job.JobError.{JobError}
use Rattle.sk_bench.specs.declared.job.JobError.TheVariants as job
use Rattle.sk_table.specs.declared.fault.TableError.{TableError}
use Rattle.sk_table.specs.declared.fault.TableError.TheVariants as table

abbrev pub lex_code : LexError → List ℕ
lex_code lex.BadUtf8 = codes "BadUtf8"
lex_code lex.BadChar = codes "BadChar"
lex_code lex.NumberTooLarge = codes "NumberTooLarge"
lex_code lex.LongName = codes "LongName"

abbrev pub sort_code : SortError → List ℕ
sort_code sort.WrongSort = codes "WrongSort"
sort_code sort.WrongCount = codes "WrongCount"
sort_code sort.Undefined = codes "Undefined"
sort_code sort.Redefined = codes "Redefined"
sort_code sort.BranchLacks = codes "BranchLacks"
sort_code sort.DuplicateRule = codes "DuplicateRule"

abbrev pub job_code : JobError → List ℕ
job_code (job.Lex error) = lex_code error
job_code job.Unexpected = codes "Unexpected"
job_code job.UnknownConstructor = codes "UnknownConstructor"
job_code job.WrongSort = codes "WrongSort"
job_code job.WrongCount = codes "WrongCount"
job_code job.TooManyPoints = codes "TooManyPoints"
job_code job.TooManyNames = codes "TooManyNames"
job_code job.UnknownHook = codes "UnknownHook"
job_code job.WrongPoint = codes "WrongPoint"
job_code job.Duplicate = codes "Duplicate"
job_code job.Empty = codes "Empty"

abbrev pub table_code : TableError → List ℕ
table_code (table.Lex error) = lex_code error
table_code table.Unexpected = codes "Unexpected"
table_code table.WrongDomain = codes "WrongDomain"
table_code table.UnknownHook = codes "UnknownHook"
table_code table.WrongPoint = codes "WrongPoint"
table_code table.WrongCount = codes "WrongCount"
table_code table.UnknownName = codes "UnknownName"
table_code table.TooManyNames = codes "TooManyNames"
table_code table.Duplicate = codes "Duplicate"
table_code table.Empty = codes "Empty"
table_code table.TooMany = codes "TooMany"
