-- Reading a job. What is expected and the next symbols decide.
use Rattle.std.specs.Prelude.{◌≡◌, ℕ, ◌+◌, ◌-◌, ◌==◌, Bool, true, false, if◌then◌else◌, List, [], ◌∷◌, ◌++◌, All, IfSome, codes, drop, length, map, slice_get, ℤ, pos, negsuc, IsTrue, Option, Some, None, Result, Ok, Err}
use Rattle.std.specs.Option.{option_map, option_map_or}
use Rattle.std.specs.Ordering.{int_eq}
use Rattle.std.specs.Str.{bytes_eq}
use Rattle.sk_base.specs.Answer.{◌>>=◌}
use Rattle.sk_base.specs.declared.flow.FlowSort.{FlowSort}
use Rattle.sk_lex.specs.Run.{Turn, Rules, run, ended}
use Rattle.sk_lex.specs.Symbols.{Symbol, word_of, number_of}
use Rattle.sk_def.specs.Named.{hook_named}
use Rattle.sk_def.specs.declared.ids.SortId.{SortId}
use Rattle.sk_def.specs.declared.ids.HookId.{HookId}
use Rattle.sk_def.specs.declared.def.Hook.{Hook}
use Rattle.sk_def.specs.declared.def.Def.{Def}
use Rattle.sk_term.specs.Reading.{ReadTerm, read_term}
use Rattle.sk_term.specs.Terms.{sort_of_node}
use Rattle.sk_term.specs.declared.node.TermNode.{TermNode}
use Rattle.sk_term.specs.declared.fault.TermError.{TermError}
use Rattle.sk_term.specs.declared.fault.TermError.TheVariants as term
use Rattle.sk_value.specs.Padding.{padded_flow}
use Rattle.sk_lattice.specs.Domain.{Domain}
use Rattle.sk_lattice.specs.DomainTexts.{DomainTexts}
use Rattle.sk_lattice.specs.Padding as abstracts
use Rattle.sk_lattice.specs.Shapes.{has_sorts}
use Rattle.sk_sign.specs.Signs.{sign_domain}
use Rattle.sk_sign.specs.Texts.{sign_texts}
use Rattle.sk_sign.specs.declared.sign.Sign.{Sign}
use Rattle.sk_interval.specs.Intervals.{interval_domain}
use Rattle.sk_interval.specs.Texts.{interval_texts}
use Rattle.sk_interval.specs.declared.bounds.Interval.{Interval}
use Rattle.sk_deriv.specs.Moves.{fit_hook}
use Rattle.sk_deriv.specs.Reading.{ReadTuple, read_tuple}
use Rattle.sk_deriv.specs.declared.fault.TupleError.{TupleError}
use Rattle.sk_deriv.specs.declared.fault.TupleError.TheVariants as tuple
use Rattle.sk_table.specs.Tuples as abstract
use Rattle.sk_table.specs.declared.fault.TableError.{TableError}
use Rattle.sk_table.specs.declared.fault.TableError.TheVariants as table
use Rattle.sk_table.specs.declared.triple.Cover.{Cover}
use Rattle.sk_bench.specs.declared.job.JobError.{JobError}
use Rattle.sk_bench.specs.declared.job.JobError.TheVariants.{Unexpected, UnknownConstructor, WrongSort, WrongCount, TooManyPoints, TooManyNames, UnknownHook, WrongPoint, Duplicate, Empty}
use Rattle.sk_bench.specs.declared.job.Start.{Start}
use Rattle.sk_bench.specs.declared.job_lines.Expected.{Expected}
use Rattle.sk_bench.specs.declared.job_lines.Expected.TheVariants.{First, Line, Call, DomainWord, SignCover, IntervalCover}

-- a value or an error, with the place of the next symbol or of the error's
abbrev pub Met : Type 0 → Type 0
Met A = Result A (JobError × ℕ)

abbrev pub placed : {A : Type 0} → ℕ → Result A JobError → Met A
placed at (Ok x) = Ok x
placed at (Err error) = Err (error, at)

-- what the symbol at a place is, of these symbols from there on
abbrev pub at_front : {A : Type 0} → ℕ → (Symbol → Result A JobError) → List Symbol → Met A
at_front at reads [] = Err (Unexpected, at)
at_front at reads (symbol ∷ left) = placed at (reads symbol)

-- Marks.

abbrev pub mark : Bool → Result (Unit {0}) JobError
mark stands = if stands then Ok tt else Err Unexpected

abbrev pub is_word : List ℕ → Symbol → Bool
is_word word symbol = option_map_or (λ bytes. bytes_eq bytes word) (word_of symbol) false

unfoldable pub is_one : Option ℤ → Bool
is_one None = false
is_one (Some value) = int_eq value (pos 1)

abbrev pub word_at : ℕ → List ℕ → List Symbol → Met (Unit {0})
word_at at word symbols = at_front at (λ symbol. mark (is_word word symbol)) symbols

abbrev pub one_at : ℕ → List Symbol → Met (Unit {0})
one_at at symbols = at_front at (λ symbol. mark (is_one (number_of symbol))) symbols

-- `job 1 program`
unfoldable pub heading : List Symbol → Met (Unit {0})
heading symbols =
    word_at 0 (codes "job") (drop 0 symbols) >>= λ job. one_at 1 (drop 1 symbols) >>= λ one. word_at 2 (codes "program") (drop 2 symbols)

-- Calls.

abbrev pub named_hook : Option HookId → Result HookId JobError
named_hook None = Err UnknownHook
named_hook (Some hook) = Ok hook

-- the hook that a symbol names
abbrev pub hook_of : Def → Symbol → Result HookId JobError
hook_of d symbol = option_map_or (λ word. named_hook (hook_named d word)) (word_of symbol) (Err Unexpected)

abbrev pub inputs_of : Def → HookId → List FlowSort
inputs_of d hook = option_map_or (λ (h : Hook). h.inputs) (slice_get d.hooks hook.0) []

-- whether a point's sort is a hook's
abbrev pub has_sort_of : Def → HookId → Option (Option SortId) → Bool
has_sort_of d hook (Some (Some sort)) = option_map_or (λ (h : Hook). sort.0 == h.sort.0) (slice_get d.hooks hook.0) false
has_sort_of d hook other = false

-- whether the program has such a point, of the hook's sort
abbrev pub is_point : Def → List TermNode → HookId → ℕ → Bool
is_point d nodes hook point = has_sort_of d hook (option_map (sort_of_node d) (slice_get nodes point))

unfoldable pub numbered_point : Def → List TermNode → HookId → ℤ → Result ℕ JobError
numbered_point d nodes hook (pos point) = if is_point d nodes hook point then Ok point else Err WrongPoint
numbered_point d nodes hook (negsuc below) = Err WrongPoint

-- the point that a number is, for this hook
unfoldable pub point_of : Def → List TermNode → HookId → Option ℤ → Result ℕ JobError
point_of d nodes hook None = Err Unexpected
point_of d nodes hook (Some number) = numbered_point d nodes hook number

-- the error of a tuple as one of the job; a job knows all the names that stand in it, so `UnknownName` never comes
abbrev pub tuple_error : TupleError → JobError
tuple_error tuple.Unexpected = Unexpected
tuple_error tuple.WrongCount = WrongCount
tuple_error tuple.Duplicate = Duplicate
tuple_error tuple.TooManyNames = TooManyNames
tuple_error tuple.UnknownName = Unexpected

-- a call, and the names with those in its inputs
pub record ReadCall : Type 0 where
  pub start : Start
  pub names : List (List ℕ)

abbrev pub call_of : HookId → ℕ → ReadTuple → ReadCall
call_of hook point read = record { start = record { hook = hook; point = point; ins = read.tuple }; names = read.names }

abbrev pub tupled : Result (ReadTuple × ℕ) (TupleError × ℕ) → Met (ReadTuple × ℕ)
tupled (Ok read) = Ok read
tupled (Err (error, at)) = Err (tuple_error error, at)

-- the point and the inputs after a hook at this place, and the place of the next symbol
unfoldable pub read_inputs : Def → List TermNode → List (List ℕ) → HookId → ℕ → List Symbol → Met (ReadCall × ℕ)
read_inputs d nodes names hook at symbols =
    at_front (at + 1) (λ symbol. point_of d nodes hook (number_of symbol)) (drop 1 symbols) >>= λ point.
    tupled (read_tuple (inputs_of d hook) names (at + 2) (drop 2 symbols)) >>= λ read. Ok (call_of hook point read.0, read.1)

-- the hook, the point and the inputs of a start line
unfoldable pub read_call : Def → List TermNode → List (List ℕ) → ℕ → List Symbol → Met (ReadCall × ℕ)
read_call d nodes names at symbols = at_front at (hook_of d) symbols >>= λ hook. read_inputs d nodes names hook at symbols

-- Cover lines.

-- the error of an abstract tuple as one of the job; no other errors come of one
abbrev pub abstract_error : TableError → JobError
abstract_error table.WrongCount = WrongCount
abstract_error table.TooManyNames = TooManyNames
abstract_error table.Duplicate = Duplicate
abstract_error table.Empty = Empty
abstract_error other = Unexpected

-- a cover line's call, and the names with those in its inputs
pub record ReadCover (D : Type 0) : Type 0 where
  pub cover : Cover D
  pub names : List (List ℕ)

abbrev pub cover_of : {D : Type 0} → HookId → ℕ → abstract.ReadTuple D → ReadCover D
cover_of hook point read = record { cover = record { hook = hook; point = point; ins = read.tuple }; names = read.names }

abbrev pub abstract_tupled : {D : Type 0} → Result (abstract.ReadTuple D × ℕ) (TableError × ℕ) → Met (abstract.ReadTuple D × ℕ)
abstract_tupled (Ok read) = Ok read
abstract_tupled (Err (error, at)) = Err (abstract_error error, at)

-- the point and the inputs after the hook of a cover line at this place, and the place of the next symbol
unfoldable pub read_cover_inputs : {D : Type 0} → Domain D → DomainTexts D → Def → List TermNode → List (List ℕ) → HookId → ℕ → List Symbol → Met (ReadCover D × ℕ)
read_cover_inputs domain texts d nodes names hook at symbols =
    at_front (at + 1) (λ symbol. point_of d nodes hook (number_of symbol)) (drop 1 symbols) >>= λ point.
    abstract_tupled (abstract.read_tuple domain texts false (inputs_of d hook) names (at + 2) (drop 2 symbols)) >>= λ read. Ok (cover_of hook point read.0, read.1)

-- the hook, the point and the inputs of a cover line
unfoldable pub read_cover : {D : Type 0} → Domain D → DomainTexts D → Def → List TermNode → List (List ℕ) → ℕ → List Symbol → Met (ReadCover D × ℕ)
read_cover domain texts d nodes names at symbols = at_front at (hook_of d) symbols >>= λ hook. read_cover_inputs domain texts d nodes names hook at symbols

-- Lines.

-- what was read before and in the lines after the program: its definition, its nodes, the names, the start line's call and
-- the cover lines of each domain
pub record Lines : Type 0 where
  pub def : Def
  pub nodes : List TermNode
  pub names : List (List ℕ)
  pub start : Option Start
  pub sign : List (Cover Sign)
  pub interval : List (Cover Interval)

abbrev pub turn_to : Lines → List Expected → Turn Expected Lines
turn_to state expected = record { expected = expected; state = state; more = 0 }

-- a cover line
abbrev pub cover_line : Symbol → Result (List Expected) JobError
cover_line symbol = if is_word (codes "cover") symbol then Ok (DomainWord ∷ Line ∷ []) else Err Unexpected

-- the start line, or a cover line
abbrev pub first_line : Symbol → Result (List Expected) JobError
first_line symbol = if is_word (codes "start") symbol then Ok (Call ∷ Line ∷ []) else cover_line symbol

-- the domain of a cover line
abbrev pub domain : Symbol → Result (List Expected) JobError
domain symbol =
    if is_word (codes "sign") symbol then Ok (SignCover ∷ [])
    else (if is_word (codes "interval") symbol then Ok (IntervalCover ∷ []) else Err Unexpected)

-- a symbol that stands alone
abbrev pub alone : Lines → ℕ → Result (List Expected) JobError → Met (Turn Expected Lines)
alone state at (Ok expected) = Ok (turn_to state expected)
alone state at (Err error) = Err (error, at)

-- the start line's call was read up to a place
abbrev pub started : Lines → ℕ → Met (ReadCall × ℕ) → Met (Turn Expected Lines)
started state at (Ok (read, end)) = Ok (record { expected = []; state = record state { names = read.names; start = Some read.start }; more = end - (at + 1) })
started state at (Err bad) = Err bad

-- a cover line of a domain was read up to a place
abbrev pub sign_covered : Lines → ℕ → Met (ReadCover Sign × ℕ) → Met (Turn Expected Lines)
sign_covered state at (Ok (read, end)) = Ok (record { expected = []; state = record state { names = read.names; sign = state.sign ++ read.cover ∷ [] }; more = end - (at + 1) })
sign_covered state at (Err bad) = Err bad

abbrev pub interval_covered : Lines → ℕ → Met (ReadCover Interval × ℕ) → Met (Turn Expected Lines)
interval_covered state at (Ok (read, end)) = Ok (record { expected = []; state = record state { names = read.names; interval = state.interval ++ read.cover ∷ [] }; more = end - (at + 1) })
interval_covered state at (Err bad) = Err bad

-- what comes of a symbol at a place, with those after it
unfoldable pub meets : Expected → Lines → ℕ → Symbol → List Symbol → Met (Turn Expected Lines)
meets First state at symbol left = alone state at (first_line symbol)
meets Line state at symbol left = alone state at (cover_line symbol)
meets Call state at symbol left = started state at (read_call state.def state.nodes state.names at (symbol ∷ left))
meets DomainWord state at symbol left = alone state at (domain symbol)
meets SignCover state at symbol left = sign_covered state at (read_cover sign_domain sign_texts state.def state.nodes state.names at (symbol ∷ left))
meets IntervalCover state at symbol left =
    interval_covered state at (read_cover interval_domain interval_texts state.def state.nodes state.names at (symbol ∷ left))

abbrev pub may_end : Expected → Bool
may_end First = true
may_end Line = true
may_end other = false

-- the grammar of the lines
abbrev pub line_rules : Rules Expected Lines JobError
line_rules = record { meets = meets; may_end = may_end; unexpected = Unexpected }

-- Jobs.

abbrev pub term_error : TermError → JobError
term_error term.Unexpected = Unexpected
term_error term.UnknownConstructor = UnknownConstructor
term_error term.WrongSort = WrongSort
term_error term.WrongCount = WrongCount
term_error term.TooManyPoints = TooManyPoints
term_error term.TooManyNames = TooManyNames

abbrev pub termed : Result (ReadTerm × ℕ) (TermError × ℕ) → Met (ReadTerm × ℕ)
termed (Ok read) = Ok read
termed (Err (error, at)) = Err (term_error error, at)

abbrev pub no_lines : Def → ReadTerm → Lines
no_lines d read = record { def = d; nodes = read.nodes; names = read.names; start = None; sign = []; interval = [] }

-- a call whose stores have one place per name
abbrev pub padded_start : ℕ → Start → Start
padded_start names start = record start { ins = map (padded_flow names) start.ins }

abbrev pub padded_cover : {D : Type 0} → Domain D → ℕ → Cover D → Cover D
padded_cover d names cover = record cover { ins = map (abstracts.padded_flow d names) cover.ins }

-- a job: the nodes of its program, its names, the call of its start line and its cover lines of each domain
pub record ReadJob : Type 0 where
  pub nodes : List TermNode
  pub names : List (List ℕ)
  pub start : Option Start
  pub sign : List (Cover Sign)
  pub interval : List (Cover Interval)

-- all stores are over the names of the whole job: one that comes later in the text is unset there
abbrev pub job_of : Lines → ReadJob
job_of state = record {
  nodes = state.nodes;
  names = state.names;
  start = option_map (padded_start (length state.names)) state.start;
  sign = map (padded_cover sign_domain (length state.names)) state.sign;
  interval = map (padded_cover interval_domain (length state.names)) state.interval;
}

-- the lines after a program up to the end of the text, of so many symbols
abbrev pub read_lines : Def → List Symbol → ReadTerm × ℕ → Met Lines
read_lines d symbols term = ended line_rules (length symbols) (run line_rules 0 term.1 (First ∷ []) (no_lines d term.0) (drop term.1 symbols))

-- all of a job's symbols
unfoldable pub read_symbols : Def → List Symbol → Met ReadJob
read_symbols d symbols =
    heading symbols >>= λ head. termed (read_term d [] 3 (drop 3 symbols)) >>= λ term. read_lines d symbols term >>= λ state. Ok (job_of state)

-- the call of a start line fits the job: its point has its hook's sort, and its inputs the hook's sorts, over so many names
pub record StartFits (d : Def) (nodes : List TermNode) (names : ℕ) (start : Start) : Type 0 where
  pub point_is : is_point d nodes start.hook start.point ≡ true
  pub ins_fit : IsTrue (fit_hook (record { def = d; nodes = nodes; names = names }) start.hook start.ins)

-- the same of a cover line
pub record CoverFits {D : Type 0} (d : Def) (nodes : List TermNode) (names : ℕ) (cover : Cover D) : Type 0 where
  pub point_is : is_point d nodes cover.hook cover.point ≡ true
  pub ins_fit : has_sorts names (inputs_of d cover.hook) cover.ins ≡ true

-- all calls of a job fit it
pub record CallsFit (d : Def) (job : ReadJob) : Type 0 where
  pub start : IfSome job.start (StartFits d job.nodes (length job.names))
  pub sign : All (CoverFits d job.nodes (length job.names)) job.sign
  pub interval : All (CoverFits d job.nodes (length job.names)) job.interval
