-- The words of a command line.
use Rattle.std.specs.Prelude.{ℕ, ◌&&◌, nat_le, Bool, List, [], ◌∷◌, length, Option, None, Some, codes, option_map, if◌then◌else◌}
use Rattle.std.specs.Char.{is_ascii_digit}
use Rattle.std.specs.List.{list_all}
use Rattle.std.specs.Str.{bytes_eq}
use Rattle.std.specs.Str.Parse.{digits_value}
use Rattle.sk_bench.specs.declared.kinds.Command.{Command}
use Rattle.sk_bench.specs.declared.kinds.Command.TheVariants.{Check, Run, Verify, Constrain, Analyse, Solve}
use Rattle.sk_bench.specs.declared.kinds.DomainWord.{DomainWord}
use Rattle.sk_bench.specs.declared.kinds.DomainWord.TheVariants.{Sign, Interval}

-- the word has 1 to 10 digits, and nothing else
abbrev pub is_number : List ℕ → Bool
is_number word = nat_le 1 (length word) && nat_le (length word) 10 && list_all is_ascii_digit word

-- the number that such a word writes, where it is at most this one
abbrev pub number_up_to : ℕ → List ℕ → Option ℕ
number_up_to most word = if is_number word && nat_le (digits_value 10 word) most then Some (digits_value 10 word) else None

-- the domain of a word
abbrev pub domain_of : List ℕ → Option DomainWord
domain_of word =
    if bytes_eq word (codes "sign") then Some Sign else (if bytes_eq word (codes "interval") then Some Interval else None)

-- the command of this word over a definition and a job, with the last word of its line: `run DEF JOB N`,
-- `constrain DEF JOB DOMAIN`, `analyse DEF JOB DOMAIN` or `solve DEF JOB sign`
abbrev pub job_command_of : List ℕ → List ℕ → Option Command
job_command_of word last =
    if bytes_eq word (codes "run") then option_map Run (number_up_to 64 last)
    else (if bytes_eq word (codes "constrain") then option_map Constrain (domain_of last)
    else (if bytes_eq word (codes "analyse") then option_map Analyse (domain_of last)
    else (if bytes_eq word (codes "solve") && bytes_eq last (codes "sign") then Some Solve else None)))

-- the command that the words are: `check DEF`, one over a definition and a job, or `verify DEF JOB DOMAIN TABLE`
abbrev pub command_of : List (List ℕ) → Option Command
command_of (word ∷ _ ∷ []) = if bytes_eq word (codes "check") then Some Check else None
command_of (word ∷ _ ∷ _ ∷ last ∷ []) = job_command_of word last
command_of (word ∷ _ ∷ _ ∷ domain ∷ _ ∷ []) = if bytes_eq word (codes "verify") then option_map Verify (domain_of domain) else None
command_of _ = None
