-- Reading a table. What is expected and the next symbol decide; a tuple takes several symbols.
use Rattle.std.specs.Prelude.{ℕ, ◌+◌, ◌-◌, ◌==◌, nat_lt, ◌&&◌, ℤ, pos, negsuc, Bool, true, false, if◌then◌else◌, List, [], ◌∷◌, ◌++◌, length, codes, slice_get, Option, Some, None, Result, Ok, Err}
use Rattle.std.specs.Option.{option_map_or}
use Rattle.std.specs.Ordering.{int_eq}
use Rattle.std.specs.Str.{bytes_eq}
use Rattle.sk_base.specs.Answer.{◌>>=◌}
use Rattle.sk_base.specs.Place.{place_at}
use Rattle.sk_base.specs.declared.place.Place.{Place}
use Rattle.sk_base.specs.declared.flow.FlowSort.{FlowSort}
use Rattle.sk_def.specs.Named.{hook_named}
use Rattle.sk_def.specs.declared.ids.HookId.{HookId}
use Rattle.sk_def.specs.declared.ids.SortId.{SortId}
use Rattle.sk_def.specs.declared.def.Def.{Def}
use Rattle.sk_def.specs.declared.def.Hook.{Hook}
use Rattle.sk_lex.specs.Run.{Turn, Rules, run_whole}
use Rattle.sk_lex.specs.Symbols.{Symbol, symbols, word_of, number_of, is_arrow}
use Rattle.sk_lex.specs.Tokens.{tokens_of}
use Rattle.sk_lex.specs.declared.token.LexError.{LexError}
use Rattle.sk_term.specs.Program.{Program}
use Rattle.sk_lattice.specs.Domain.{Domain}
use Rattle.sk_lattice.specs.DomainTexts.{DomainTexts, is_domain_word}
use Rattle.sk_lattice.specs.declared.flow.AbsFlow.{AbsFlow}
use Rattle.sk_table.specs.declared.expected.TableExpected.{TableExpected}
use Rattle.sk_table.specs.declared.expected.TableExpected.TheVariants.{TableWord, One, DomainWord, HookWord, Point, Ins, Arrow, Outs}
use Rattle.sk_table.specs.declared.fault.TableError.{TableError}
use Rattle.sk_table.specs.declared.fault.TableError.TheVariants.{Lex, Unexpected, WrongDomain, UnknownHook, WrongPoint, TooMany}
use Rattle.sk_table.specs.declared.triple.Triple.{Triple}
use Rattle.sk_table.specs.Meets.{with_place}
use Rattle.sk_table.specs.Tuples.{read_tuple, is_none_word}

-- What was read so far: the triples of a table over this definition, program and names, and the hook, the point and the
-- inputs of the triple that is being read.
pub record TableReading (D : Type 0) : Type 0 where
  pub def : Def
  pub program : Program
  pub names : List (List ℕ)
  pub triples : List (Triple D)
  pub hook : HookId
  pub point : ℕ
  pub ins : List (AbsFlow D)

-- what comes of a symbol: what is expected in its place, and what was read then, or the code and its place
abbrev pub Met : Type 0 → Type 0
Met D = Result (Turn TableExpected (TableReading D)) (TableError × ℕ)

abbrev pub met : {D : Type 0} → TableReading D → List TableExpected → Met D
met state expected = Ok (record { expected = expected; state = state; more = 0 })

abbrev pub refused : {D : Type 0} → TableError → ℕ → Met D
refused error at = Err (error, at)

-- a symbol that stands alone
abbrev pub alone : {D : Type 0} → TableReading D → ℕ → Bool → Met D
alone state at stands = if stands then met state [] else refused Unexpected at

abbrev pub is_table_word : Symbol → Bool
is_table_word symbol = option_map_or (λ word. bytes_eq word (codes "table")) (word_of symbol) false

abbrev pub is_one : Symbol → Bool
is_one symbol = option_map_or (λ number. int_eq number (pos 1)) (number_of symbol) false

-- the word of the domain
unfoldable pub domain_word : {D : Type 0} → DomainTexts D → TableReading D → ℕ → Option (List ℕ) → Met D
domain_word t state at None = refused Unexpected at
domain_word t state at (Some word) =
    if bytes_eq word t.word then met state [] else (if is_domain_word word then refused WrongDomain at else refused Unexpected at)

-- the hook of the next triple, of which there are at most 32,768
abbrev pub hook_found : {D : Type 0} → TableReading D → ℕ → Option HookId → Met D
hook_found state at None = refused UnknownHook at
hook_found state at (Some hook) = met (record state { hook = hook }) (Point ∷ Ins ∷ Arrow ∷ Outs ∷ HookWord ∷ [])

unfoldable pub hook_word : {D : Type 0} → TableReading D → ℕ → Option (List ℕ) → Met D
hook_word state at None = refused Unexpected at
hook_word state at (Some word) = if nat_lt (length state.triples) 32768 then hook_found state at (hook_named state.def word) else refused TooMany at

-- the hook of the triple that is being read; before the first triple the first hook, where there is one
abbrev pub hook_of : {D : Type 0} → TableReading D → Option Hook
hook_of state = slice_get state.def.hooks state.hook.0

-- whether a number is that of a point of the sort
abbrev pub has_sort_at : Program → SortId → ℕ → Bool
has_sort_at program wanted point = nat_lt point (length program.nodes) && option_map_or (λ (sort : SortId). sort.0 == wanted.0) (slice_get program.sorts point) false

abbrev pub point_of : Program → SortId → ℤ → Option ℕ
point_of program wanted (pos point) = if has_sort_at program wanted point then Some point else None
point_of program wanted (negsuc n) = None

abbrev pub point_found : {D : Type 0} → TableReading D → ℕ → Option ℕ → Met D
point_found state at None = refused WrongPoint at
point_found state at (Some point) = met (record state { point = point }) []

abbrev pub pointed : {D : Type 0} → TableReading D → ℕ → SortId → Option ℤ → Met D
pointed state at wanted None = refused Unexpected at
pointed state at wanted (Some number) = point_found state at (point_of state.program wanted number)

unfoldable pub point : {D : Type 0} → TableReading D → Option Hook → ℕ → Symbol → Met D
point state None at symbol = refused Unexpected at
point state (Some hook) at symbol = pointed state at hook.sort (number_of symbol)

-- a tuple of these sorts, with the number of its symbols but the first
unfoldable pub tuple_at : {D : Type 0} → Domain D → DomainTexts D → List FlowSort → List (List ℕ) → ℕ → List Symbol → Result (List (AbsFlow D) × ℕ) (TableError × ℕ)
tuple_at d t sorts names at symbols = read_tuple d t true sorts names at symbols >>= λ read. Ok (read.0.tuple, read.1 - (at + 1))

-- after a tuple
abbrev pub with_tuple : {D : Type 0} → (List (AbsFlow D) → TableReading D) → Result (List (AbsFlow D) × ℕ) (TableError × ℕ) → Met D
with_tuple state found = found >>= λ taken. Ok (record { expected = []; state = state taken.0; more = taken.1 })

-- the inputs
abbrev pub with_ins : {D : Type 0} → TableReading D → List (AbsFlow D) → TableReading D
with_ins state tuple = record state { ins = tuple }

unfoldable pub ins : {D : Type 0} → Domain D → DomainTexts D → TableReading D → Option Hook → ℕ → List Symbol → Met D
ins d t state None at symbols = refused Unexpected at
ins d t state (Some hook) at symbols = with_tuple (with_ins state) (tuple_at d t hook.inputs state.names at symbols)

-- the triple ends with its outputs
abbrev pub with_triple : {D : Type 0} → TableReading D → Option (List (AbsFlow D)) → TableReading D
with_triple state tuple = record state {
  triples = state.triples ++ record { hook = state.hook; point = state.point; ins = state.ins; outs = tuple } ∷ [];
  ins = [];
}

unfoldable pub outs : {D : Type 0} → Domain D → DomainTexts D → TableReading D → Option Hook → ℕ → Symbol → List Symbol → Met D
outs d t state None at symbol left = refused Unexpected at
outs d t state (Some hook) at symbol left =
    if is_none_word symbol then met (with_triple state None) []
    else with_tuple (λ tuple. with_triple state (Some tuple)) (tuple_at d t hook.outputs state.names at (symbol ∷ left))

-- what a symbol is where this is expected
unfoldable pub step : {D : Type 0} → Domain D → DomainTexts D → TableReading D → TableExpected → ℕ → Symbol → List Symbol → Met D
step d t state TableWord at symbol left = alone state at (is_table_word symbol)
step d t state One at symbol left = alone state at (is_one symbol)
step d t state DomainWord at symbol left = domain_word t state at (word_of symbol)
step d t state HookWord at symbol left = hook_word state at (word_of symbol)
step d t state Point at symbol left = point state (hook_of state) at symbol
step d t state Ins at symbol left = ins d t state (hook_of state) at (symbol ∷ left)
step d t state Arrow at symbol left = alone state at (is_arrow symbol)
step d t state Outs at symbol left = outs d t state (hook_of state) at symbol left

-- a table may end where the next triple's hook is expected
abbrev pub may_end : TableExpected → Bool
may_end HookWord = true
may_end other = false

-- the grammar of tables
abbrev pub table_rules : {D : Type 0} → Domain D → DomainTexts D → Rules TableExpected (TableReading D) TableError
table_rules d t = record {
  meets = λ expected state at symbol left. step d t state expected at symbol left;
  may_end = may_end;
  unexpected = Unexpected;
}

-- nothing was read
abbrev pub no_triple : {D : Type 0} → Def → Program → List (List ℕ) → TableReading D
no_triple d program names = record { def = d; program = program; names = names; triples = []; hook = record { 0 = 0 }; point = 0; ins = [] }

-- all of a table's symbols
unfoldable pub read_symbols : {D : Type 0} → Domain D → DomainTexts D → Def → Program → List (List ℕ) → List Symbol → Result (TableReading D) (TableError × ℕ)
read_symbols d t def program names symbols = run_whole (table_rules d t) (TableWord ∷ One ∷ DomainWord ∷ HookWord ∷ []) (no_triple def program names) symbols

-- a lexical error with its line and column
abbrev pub lexed : {X : Type 0} → List ℕ → Result X (LexError × ℕ) → Result X (TableError × Place)
lexed text (Ok x) = Ok x
lexed text (Err (error, at)) = Err (Lex error, place_at text at)

-- the triples that were read
abbrev pub triples_read : {D E : Type 0} → Result (TableReading D) E → Result (List (Triple D)) E
triples_read found = found >>= λ read. Ok read.triples

-- a table's text: its triples, or a code with its line and column
unfoldable pub read_table : {D : Type 0} → Domain D → DomainTexts D → Def → Program → List (List ℕ) → List ℕ → Result (List (Triple D)) (TableError × Place)
read_table d t def program names text =
    lexed text (tokens_of text) >>= λ tokens. with_place text tokens (triples_read (read_symbols d t def program names (symbols text tokens)))
