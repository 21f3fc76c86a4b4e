-- Reading a term. What is expected and the next symbol decide.
use Rattle.std.specs.Prelude.{ℕ, ◌==◌, nat_lt, Bool, true, false, if◌then◌else◌, List, [], ◌∷◌, ◌++◌, length, slice_get, slice_set, ℤ, Option, Some, None, Result, Ok, Err}
use Rattle.std.specs.Option.{option_map_or}
use Rattle.sk_base.specs.Answer.{◌>>=◌}
use Rattle.sk_base.specs.Names.{with_name}
use Rattle.sk_lex.specs.Run.{Turn, Rules, run, shown_at_stop}
use Rattle.sk_lex.specs.Symbols.{Symbol, word_of, number_of, is_open, is_close, is_comma}
use Rattle.sk_def.specs.Named.{con_named}
use Rattle.sk_def.specs.declared.ids.ConId.{ConId}
use Rattle.sk_def.specs.declared.ids.SortId.{SortId}
use Rattle.sk_def.specs.declared.sorts.ArgSort.{ArgSort}
use Rattle.sk_def.specs.declared.sorts.ArgSort.TheVariants as sort
use Rattle.sk_def.specs.declared.def.Def.{Def}
use Rattle.sk_term.specs.Terms.{arguments_of, sort_of_con}
use Rattle.sk_term.specs.declared.node.Child.{Child}
use Rattle.sk_term.specs.declared.node.Child.TheVariants.{Number, Name, Point}
use Rattle.sk_term.specs.declared.node.TermNode.{TermNode}
use Rattle.sk_term.specs.declared.expected.Expected.{Expected}
use Rattle.sk_term.specs.declared.expected.Expected.TheVariants.{Root, Open, First, After, Next}
use Rattle.sk_term.specs.declared.expected.OpenTerm.{OpenTerm}
use Rattle.sk_term.specs.declared.fault.TermError.{TermError}
use Rattle.sk_term.specs.declared.fault.TermError.TheVariants.{Unexpected, UnknownConstructor, WrongSort, WrongCount, TooManyPoints, TooManyNames}

-- What was read so far: the nodes of a program of this definition, its number leaves, the terms whose `)` is still to
-- come, the innermost first, and the names. The nodes of these terms have no entries yet among the others.
pub record Reading : Type 0 where
  pub def : Def
  pub nodes : List TermNode
  pub literals : List ℤ
  pub unclosed : List OpenTerm
  pub names : List (List ℕ)

-- what comes of a symbol: what is expected in its place, and what was read then
abbrev pub Met : Type 0
Met = Result (Turn Expected Reading) TermError

abbrev pub turn_to : Reading → List Expected → Turn Expected Reading
turn_to state expected = record { expected = expected; state = state; more = 0 }

abbrev pub met : Reading → List Expected → Met
met state expected = Ok (turn_to state expected)

-- the sort of the next argument of the innermost term, none where it has all
abbrev pub next_sort : Def → List OpenTerm → Option ArgSort
next_sort d [] = None
next_sort d (innermost ∷ outer) = slice_get (arguments_of d innermost.node.con) (length innermost.node.children)

-- the innermost term gets an entry
abbrev pub with_child : Child → List OpenTerm → List OpenTerm
with_child child [] = []
with_child child (innermost ∷ outer) =
    record { point = innermost.point; node = record { con = innermost.node.con; children = innermost.node.children ++ child ∷ [] } } ∷ outer

-- a constructor begins its term
abbrev pub node_begun : ConId → TermNode
node_begun c = record { con = c; children = [] }

abbrev pub begun : ConId → Reading → Reading
begun c state = record state {
  nodes = state.nodes ++ node_begun c ∷ [];
  unclosed = record { point = length state.nodes; node = node_begun c } ∷ state.unclosed;
}

-- the innermost term ends: its node gets its entries
abbrev pub ended : List OpenTerm → Reading → Reading
ended [] state = state
ended (innermost ∷ outer) state = record state { nodes = slice_set state.nodes innermost.point innermost.node; unclosed = outer }

abbrev pub closing : Reading → Symbol → Met
closing state symbol = if is_close symbol then met (ended state.unclosed state) [] else Err Unexpected

-- whether a constructor has the sort that is wanted, if one is
abbrev pub has_sort : Def → Option SortId → ConId → Bool
has_sort d None c = true
has_sort d (Some wanted) c = option_map_or (λ (found : SortId). found.0 == wanted.0) (sort_of_con d c) false

abbrev pub checked_con : Def → Option SortId → ℕ → Option ConId → Result ConId TermError
checked_con d wanted points None = Err UnknownConstructor
checked_con d wanted points (Some c) =
    if has_sort d wanted c then (if nat_lt points 4096 then Ok c else Err TooManyPoints) else Err WrongSort

-- the constructor that a word is, where so many points stand already
unfoldable pub constructor : Def → Option SortId → ℕ → List ℕ → Result ConId TermError
constructor d wanted points word = checked_con d wanted points (con_named d word)

-- the constructor of the whole program
unfoldable pub root : Reading → Option (List ℕ) → Met
root state None = Err Unexpected
root state (Some word) = constructor state.def None (length state.nodes) word >>= λ c. met (begun c state) (Open ∷ First ∷ [])

-- a subterm of a sort: its point is the next
unfoldable pub subterm : Reading → SortId → Option (List ℕ) → Met
subterm state wanted None = Err Unexpected
subterm state wanted (Some word) =
    constructor state.def (Some wanted) (length state.nodes) word >>= λ c.
    met (begun c (record state { unclosed = with_child (Point (length state.nodes)) state.unclosed })) (Open ∷ First ∷ After ∷ [])

unfoldable pub number : Reading → Option ℤ → Met
number state None = Err Unexpected
number state (Some value) =
    met (record state { literals = state.literals ++ value ∷ []; unclosed = with_child (Number value) state.unclosed }) (After ∷ [])

abbrev pub added_name : Reading → Option (ℕ × List (List ℕ)) → Met
added_name state None = Err TooManyNames
added_name state (Some (place, names)) = met (record state { names = names; unclosed = with_child (Name place) state.unclosed }) (After ∷ [])

-- any word
unfoldable pub name : Reading → Option (List ℕ) → Met
name state None = Err Unexpected
name state (Some word) = added_name state (with_name state.names word)

-- an argument of a sort
unfoldable pub argument : Reading → ArgSort → Symbol → Met
argument state sort.Number symbol = number state (number_of symbol)
argument state sort.Name symbol = name state (word_of symbol)
argument state (sort.Term wanted) symbol = subterm state wanted (word_of symbol)

-- the first argument, or `)` where there is none
unfoldable pub first : Reading → Option ArgSort → Symbol → Met
first state None symbol = closing state symbol
first state (Some wanted) symbol = if is_close symbol then Err WrongCount else argument state wanted symbol

-- the `,` before the next argument, or `)` where there is none
unfoldable pub after : Reading → Option ArgSort → Symbol → Met
after state None symbol = if is_comma symbol then Err WrongCount else closing state symbol
after state (Some wanted) symbol = if is_comma symbol then met state (Next ∷ []) else (if is_close symbol then Err WrongCount else Err Unexpected)

-- the next argument, after a comma
unfoldable pub next : Reading → Option ArgSort → Symbol → Met
next state None symbol = Err Unexpected
next state (Some wanted) symbol = argument state wanted symbol

abbrev pub opening : Reading → Symbol → Met
opening state symbol = if is_open symbol then met state [] else Err Unexpected

-- what a symbol is where this is expected
unfoldable pub step : Reading → Expected → Symbol → Met
step state Root symbol = root state (word_of symbol)
step state Open symbol = opening state symbol
step state First symbol = first state (next_sort state.def state.unclosed) symbol
step state After symbol = after state (next_sort state.def state.unclosed) symbol
step state Next symbol = next state (next_sort state.def state.unclosed) symbol

-- a refusal stands at its symbol
abbrev pub at_symbol : ℕ → Met → Result (Turn Expected Reading) (TermError × ℕ)
at_symbol at (Ok turn) = Ok turn
at_symbol at (Err error) = Err (error, at)

-- the grammar of terms
abbrev pub term_rules : Rules Expected Reading TermError
term_rules = record {
  meets = λ expected state at symbol left. at_symbol at (step state expected symbol);
  may_end = λ expected. false;
  unexpected = Unexpected;
}

-- the names that stand, which a symbol that is refused leaves as they are
abbrev pub names_of : Reading → List (List ℕ)
names_of state = state.names

abbrev pub names_refused : Expected → Reading → Symbol → List (List ℕ)
names_refused expected state symbol = state.names

-- nothing was read, and these names stand
abbrev pub nothing : Def → List (List ℕ) → Reading
nothing d names = record { def = d; nodes = []; literals = []; unclosed = []; names = names }

-- One term from a place on: what was read and the place of the next symbol, or the code and its place.
unfoldable pub read_symbols : Def → List (List ℕ) → ℕ → List Symbol → Result (Reading × ℕ) (TermError × ℕ)
read_symbols d names at symbols = run term_rules 0 at (Root ∷ []) (nothing d names) symbols

-- the names where the reading of one term stops: those that stood, and its own words in name positions up to there
unfoldable pub names_at_stop : Def → List (List ℕ) → ℕ → List Symbol → List (List ℕ)
names_at_stop d names at symbols = shown_at_stop term_rules names_refused names_of 0 at (Root ∷ []) (nothing d names) symbols

-- the program's nodes and the names with its own
pub record ReadTerm : Type 0 where
  pub nodes : List TermNode
  pub names : List (List ℕ)

unfoldable pub read_term : Def → List (List ℕ) → ℕ → List Symbol → Result (ReadTerm × ℕ) (TermError × ℕ)
read_term d names at symbols = read_symbols d names at symbols >>= λ read. Ok (record { nodes = read.0.nodes; names = read.0.names }, read.1)
