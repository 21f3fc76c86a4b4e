-- What a caller sees of files in memory.
use Rattle.std.specs.Prelude.{ℕ, List}
use Rattle.sk_base.specs.Files.{Selection}
use Rattle.sk_base.specs.MemFiles.{bytes_left, is_reliable}
use Rattle.sk_base.specs.declared.mem_files.HeldFile.{HeldFile}
use Rattle.sk_base.specs.declared.mem_files.MemFiles.{MemFiles}

-- the files that are held, in the order in which they were put there
abbrev pub files_held : MemFiles → List HeldFile
files_held files = files.held.items

-- how many calls of `select` and `pull` there were, which stays at the last value of a `u64`
abbrev pub calls_made : MemFiles → ℕ
calls_made files = files.script.calls

-- the numbers of the calls that are to fail
abbrev pub calls_failing : MemFiles → List ℕ
calls_failing files = files.script.failing.items

-- how many calls failed, which stays at the last value of a `u64`
abbrev pub calls_failed : MemFiles → ℕ
calls_failed files = files.script.faults

-- the file that was selected last, and how often one was
abbrev pub selection_of : MemFiles → Selection
selection_of files = record {
  left = bytes_left files.held.items files.selected files.taken;
  steady = is_reliable files.script.failing.items;
  given = files.given;
  ended = files.ended;
  turns = files.turns;
}
