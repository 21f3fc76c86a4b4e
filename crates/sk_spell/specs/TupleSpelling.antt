-- How tuples of values are written: the symbols of a tuple, and symbols that begin with those of one.
use Rattle.std.specs.Prelude.{◌≡◌, ◌↔◌, ℕ, ◌+◌, ℤ, Bool, List, [], ◌∷◌, ◌++◌, length, map, if◌then◌else◌, Option, Some, None, Ok, All}
use Rattle.std.specs.List.{flat_map, join_by, IsDistinct}
use Rattle.std.specs.Str.{bytes_eq}
use Rattle.sk_base.specs.declared.flow.FlowSort.{FlowSort}
use Rattle.sk_base.specs.declared.flow.FlowSort.TheVariants as sort
use Rattle.sk_lex.specs.Symbols.{Symbol, Named, Plain}
use Rattle.sk_lex.specs.declared.token.TokenKind.TheVariants as token
use Rattle.sk_term.specs.Spelling.{with_words}
use Rattle.sk_value.specs.Texts.{truth_text}
use Rattle.sk_value.specs.declared.flow.Flow.{Flow}
use Rattle.sk_value.specs.declared.value.Value.{Value}
use Rattle.sk_deriv.specs.Reading.{ReadTuple, read_tuple}

-- an entry of a store: a word, and the value that it is set to
abbrev pub Entry : Type 0
Entry = List ℕ × Value

-- a value as it is written: a number, a truth value, one of the two, or a store by its entries from left to right
pub data Written : Type 0 where
  number : ℤ → Written
  truth : Bool → Written
  either : Value → Written
  store : List Entry → Written

-- the sort of what is written
abbrev pub sort_of : Written → FlowSort
sort_of (number z) = sort.Int
sort_of (truth b) = sort.Bool
sort_of (either value) = sort.Val
sort_of (store entries) = sort.Store

-- a number stands for itself, a truth value is the word `true` or `false`
abbrev pub value_symbol : Value → Symbol
value_symbol (Value.Int z) = Plain (token.Number z)
value_symbol (Value.Bool b) = Named (truth_text b)

-- `name = value`
abbrev pub entry_symbols : Entry → List Symbol
entry_symbols entry = Named entry.0 ∷ Plain token.Equals ∷ value_symbol entry.1 ∷ []

-- the symbols of a value; a store has its entries in braces, with `,` between
abbrev pub value_symbols : Written → List Symbol
value_symbols (number z) = value_symbol (Value.Int z) ∷ []
value_symbols (truth b) = value_symbol (Value.Bool b) ∷ []
value_symbols (either value) = value_symbol value ∷ []
value_symbols (store entries) = Plain token.LeftBrace ∷ (join_by entry_symbols (Plain token.Comma ∷ []) entries ++ Plain token.RightBrace ∷ [])

-- the symbols of a tuple: its values in parentheses, with `,` between
abbrev pub spelling : List Written → List Symbol
spelling values = Plain token.LeftParen ∷ (join_by value_symbols (Plain token.Comma ∷ []) values ++ Plain token.RightParen ∷ [])

-- the words that a store sets, from left to right
abbrev pub words_set : Written → List (List ℕ)
words_set (number z) = []
words_set (truth b) = []
words_set (either value) = []
words_set (store entries) = map (λ entry. entry.0) entries

-- the value that entries set a word to, if one of them does
abbrev pub value_for : List Entry → List ℕ → Option Value
value_for [] word = None
value_for (entry ∷ entries) word = if bytes_eq entry.0 word then Some entry.1 else value_for entries word

-- what a written value is among names: a store has one place for each name, with the value that its word is set to
abbrev pub flow_of : List (List ℕ) → Written → Flow
flow_of names (number z) = Flow.Int z
flow_of names (truth b) = Flow.Bool b
flow_of names (either value) = Flow.Val value
flow_of names (store entries) = Flow.Store (map (value_for entries) names)

-- Symbols begin with the spelling of values of these sorts, and end after it. No word is set twice in one store. The names
-- are those that stood, and then the new words from left to right.
pub record BeginWithTuple (sorts : List FlowSort) (names : List (List ℕ)) (at : ℕ) (symbols : List Symbol) (read : ReadTuple) (end : ℕ) : Type 0 where
  pub values : List Written
  pub sorts_are : map sort_of values ≡ sorts
  pub set_once : All (λ value. IsDistinct bytes_eq (words_set value)) values
  pub names_are : with_words names (flat_map words_set values) ≡ Some read.names
  pub tuple_is : read.tuple ≡ map (flow_of read.names) values
  pub left : List Symbol
  pub symbols_are : symbols ≡ spelling values ++ left
  pub end_is : end ≡ at + length (spelling values)

-- A tuple is read from a place exactly where the symbols there begin with its spelling, given that the names that stood
-- are different words.
abbrev pub TuplesAreReadExactly : Type 0
TuplesAreReadExactly = (sorts : List FlowSort) (names : List (List ℕ)) (at : ℕ) (symbols : List Symbol) (read : ReadTuple) (end : ℕ) → IsDistinct bytes_eq names →
    read_tuple sorts names at symbols ≡ Ok (read, end) ↔ BeginWithTuple sorts names at symbols read end
