-- Reading a tuple of values. What is expected and the next symbol decide.
use Rattle.std.specs.Prelude.{ℕ, ◌+◌, Bool, true, false, if◌then◌else◌, List, [], ◌∷◌, ◌++◌, length, map, slice_get, slice_set, Option, Some, None, unwrap_or, is_some, Result, Ok, Err}
use Rattle.std.specs.Option.{option_map, option_map_or, option_and_then}
use Rattle.std.specs.Str.{bytes_eq}
use Rattle.sk_base.specs.Answer.{◌>>=◌}
use Rattle.sk_base.specs.Names.{with_name}
use Rattle.sk_base.specs.declared.flow.FlowSort.{FlowSort}
use Rattle.sk_base.specs.declared.flow.FlowSort.TheVariants as sort
use Rattle.sk_lex.specs.Run.{Turn, Rules, run, shown_at_stop}
use Rattle.sk_lex.specs.Symbols.{Symbol, word_of, number_of, is_open, is_close, is_comma, is_equals, is_left_brace, is_right_brace}
use Rattle.sk_value.specs.Padding.{padded_flow, padded_store}
use Rattle.sk_value.specs.Texts.{truth_text}
use Rattle.sk_value.specs.declared.flow.Flow.{Flow}
use Rattle.sk_value.specs.declared.value.Value.{Value}
use Rattle.sk_deriv.specs.declared.expected.Expected.{Expected}
use Rattle.sk_deriv.specs.declared.expected.Expected.TheVariants.{Open, Item, After, FirstName, NextName, Equals, SetTo, AfterName}
use Rattle.sk_deriv.specs.declared.fault.TupleError.{TupleError}
use Rattle.sk_deriv.specs.declared.fault.TupleError.TheVariants.{Unexpected, WrongCount, Duplicate, TooManyNames}

-- What was read so far: the sorts of the whole tuple, its values, the places of a store whose `}` is still to come,
-- the name in it whose value is to come, and all names.
pub record Reading : Type 0 where
  pub sorts : List FlowSort
  pub flows : List Flow
  pub store : List (Option Value)
  pub name : ℕ
  pub names : List (List ℕ)

-- what comes of a symbol: what is expected in its place, and what was read then
abbrev pub Met : Type 0
Met = Result (Turn Expected Reading) TupleError

abbrev pub turn_to : Reading → List Expected → Turn Expected Reading
turn_to state expected = record { expected = expected; state = state; more = 0 }

abbrev pub met : Reading → List Expected → Met
met state expected = Ok (turn_to state expected)

-- the sort of the next value, none where the tuple has all
abbrev pub next_sort : Reading → Option FlowSort
next_sort state = slice_get state.sorts (length state.flows)

abbrev pub truth_named : List ℕ → Option Bool
truth_named word = if bytes_eq word (truth_text true) then Some true else (if bytes_eq word (truth_text false) then Some false else None)

-- the truth value that a word is, and the number or truth value that a symbol is
abbrev pub truth_of : Symbol → Option Bool
truth_of symbol = option_and_then truth_named (word_of symbol)

abbrev pub value_of : Symbol → Option Value
value_of symbol = option_map_or (λ number. Some (Value.Int number)) (number_of symbol) (option_map Value.Bool (truth_of symbol))

-- whether a name is set
abbrev pub is_set : List (Option Value) → ℕ → Bool
is_set store place = is_some (unwrap_or (slice_get store place) None)

-- a name is set; those before it that have no place yet are unset
abbrev pub with_value : List (Option Value) → ℕ → Value → List (Option Value)
with_value store place value = slice_set (padded_store (place + 1) store) place (Some value)

-- a value goes last
abbrev pub given : Reading → Option Flow → Met
given state None = Err Unexpected
given state (Some flow) = met (record state { flows = state.flows ++ flow ∷ [] }) (After ∷ [])

-- a store begins
abbrev pub begun : Reading → Symbol → Met
begun state symbol = if is_left_brace symbol then met state (FirstName ∷ After ∷ []) else Err Unexpected

-- a value of a sort
unfoldable pub value : Reading → FlowSort → Symbol → Met
value state sort.Int symbol = given state (option_map Flow.Int (number_of symbol))
value state sort.Bool symbol = given state (option_map Flow.Bool (truth_of symbol))
value state sort.Val symbol = given state (option_map Flow.Val (value_of symbol))
value state sort.Store symbol = begun state symbol

-- the `)` after the last value
abbrev pub closing : Reading → Symbol → Met
closing state symbol = if is_close symbol then met state [] else (if is_comma symbol then Err WrongCount else Err Unexpected)

-- the next value, or `)` where there is none
unfoldable pub item : Reading → Option FlowSort → Symbol → Met
item state None symbol = closing state symbol
item state (Some wanted) symbol = if is_close symbol then Err WrongCount else value state wanted symbol

-- the `,` before the next value, or `)` where there is none
unfoldable pub after : Reading → Option FlowSort → Symbol → Met
after state None symbol = closing state symbol
after state (Some wanted) symbol = if is_comma symbol then met state (Item ∷ []) else (if is_close symbol then Err WrongCount else Err Unexpected)

-- the store ends
abbrev pub ended : Reading → Reading
ended state = record state { flows = state.flows ++ Flow.Store state.store ∷ []; store = [] }

abbrev pub named : Reading → Option (ℕ × List (List ℕ)) → Met
named state None = Err TooManyNames
named state (Some (place, names)) =
    if is_set state.store place then Err Duplicate else met (record state { name = place; names = names }) (Equals ∷ SetTo ∷ AfterName ∷ [])

-- any word that isn't set yet
unfoldable pub name : Reading → Option (List ℕ) → Met
name state None = Err Unexpected
name state (Some word) = named state (with_name state.names word)

-- the first name, or `}` where there is none
unfoldable pub first_name : Reading → Symbol → Met
first_name state symbol = if is_right_brace symbol then met (ended state) [] else name state (word_of symbol)

-- the `,` before the next name, or `}`
unfoldable pub after_name : Reading → Symbol → Met
after_name state symbol = if is_comma symbol then met state (NextName ∷ []) else (if is_right_brace symbol then met (ended state) [] else Err Unexpected)

-- the value of the name
unfoldable pub set_to : Reading → Option Value → Met
set_to state None = Err Unexpected
set_to state (Some value) = met (record state { store = with_value state.store state.name value }) []

-- a mark that stands alone
abbrev pub mark : Reading → Bool → Met
mark state stands = if stands then met state [] else Err Unexpected

-- what a symbol is where this is expected
unfoldable pub step : Reading → Expected → Symbol → Met
step state Open symbol = mark state (is_open symbol)
step state Item symbol = item state (next_sort state) symbol
step state After symbol = after state (next_sort state) symbol
step state FirstName symbol = first_name state symbol
step state NextName symbol = name state (word_of symbol)
step state Equals symbol = mark state (is_equals symbol)
step state SetTo symbol = set_to state (value_of symbol)
step state AfterName symbol = after_name state symbol

-- a refusal stands at its symbol
abbrev pub at_symbol : ℕ → Met → Result (Turn Expected Reading) (TupleError × ℕ)
at_symbol at (Ok turn) = Ok turn
at_symbol at (Err error) = Err (error, at)

-- the grammar of tuples
abbrev pub tuple_rules : Rules Expected Reading TupleError
tuple_rules = record {
  meets = λ expected state at symbol left. at_symbol at (step state expected symbol);
  may_end = λ expected. false;
  unexpected = Unexpected;
}

-- the names that stand
abbrev pub names_of : Reading → List (List ℕ)
names_of state = state.names

-- the names with a word, if there is one and they have room for it
abbrev pub names_with : List (List ℕ) → Option (List ℕ) → List (List ℕ)
names_with names None = names
names_with names (Some word) = option_map_or (λ (added : ℕ × List (List ℕ)). added.1) (with_name names word) names

-- the names that stand once a symbol was refused: those from before, with the word where one was refused in a name's place;
-- such a word is among them already or has no place, so they are those from before
abbrev pub names_refused : Expected → Reading → Symbol → List (List ℕ)
names_refused Open state symbol = state.names
names_refused Item state symbol = state.names
names_refused After state symbol = state.names
names_refused FirstName state symbol = names_with state.names (word_of symbol)
names_refused NextName state symbol = names_with state.names (word_of symbol)
names_refused Equals state symbol = state.names
names_refused SetTo state symbol = state.names
names_refused AfterName state symbol = state.names

-- nothing was read, and these names stand
abbrev pub nothing : List FlowSort → List (List ℕ) → Reading
nothing sorts names = record { sorts = sorts; flows = []; store = []; name = 0; names = names }

-- One tuple from a place on: what was read and the place of the next symbol, or the code and its place.
unfoldable pub read_symbols : List FlowSort → List (List ℕ) → ℕ → List Symbol → Result (Reading × ℕ) (TupleError × ℕ)
read_symbols sorts names at symbols = run tuple_rules 0 at (Open ∷ Item ∷ []) (nothing sorts names) symbols

-- the names where the reading of one tuple stops: those that stood, and the names in its stores up to there
unfoldable pub names_at_stop : List FlowSort → List (List ℕ) → ℕ → List Symbol → List (List ℕ)
names_at_stop sorts names at symbols = shown_at_stop tuple_rules names_refused names_of 0 at (Open ∷ Item ∷ []) (nothing sorts names) symbols

-- the tuple, and the names with its own
pub record ReadTuple : Type 0 where
  pub tuple : List Flow
  pub names : List (List ℕ)

-- its stores have one place per name that stands afterwards
unfoldable pub read_tuple : List FlowSort → List (List ℕ) → ℕ → List Symbol → Result (ReadTuple × ℕ) (TupleError × ℕ)
read_tuple sorts names at symbols =
    read_symbols sorts names at symbols >>= λ read.
    Ok (record { tuple = map (padded_flow (length read.0.names)) read.0.flows; names = read.0.names }, read.1)
