-- How terms are written: the symbols of a term, and symbols that begin with those of one.
use Rattle.std.specs.Prelude.{◌≡◌, ◌↔◌, ℕ, ◌+◌, ◌<◌, ◌≤◌, List, [], ◌∷◌, ◌++◌, length, Option, Some, Ok, slice_get, unwrap_or}
use Rattle.std.specs.List.{join_by, IsDistinct}
use Rattle.std.specs.Option.{option_map_or, option_and_then}
use Rattle.std.specs.Str.{bytes_eq}
use Rattle.sk_base.specs.Names.{with_name}
use Rattle.sk_lex.specs.Symbols.{Symbol, Named, Plain}
use Rattle.sk_lex.specs.declared.token.TokenKind.TheVariants as token
use Rattle.sk_def.specs.Named.{con_named}
use Rattle.sk_def.specs.declared.ids.ConId.{ConId}
use Rattle.sk_def.specs.declared.def.Con.{Con}
use Rattle.sk_def.specs.declared.def.Def.{Def}
use Rattle.sk_term.specs.Reading.{ReadTerm, read_term}
use Rattle.sk_term.specs.Terms.{Term, con, Args, none, number, name, term, node_count, nodes, IsWellSorted, NamesAreBelow}

-- the name of a constructor
abbrev pub con_name : Def → ConId → List ℕ
con_name d c = option_map_or (λ (entry : Con). entry.name) (slice_get d.cons c.0) []

-- the word at a place of names
abbrev pub word_at : List (List ℕ) → ℕ → List ℕ
word_at names place = unwrap_or (slice_get names place) []

abbrev mutual
  -- the symbols of a term: the name of its constructor, and in parentheses its arguments with `,` between
  pub spelling : Def → List (List ℕ) → Term → List Symbol
  spelling d names (con c args) =
      Named (con_name d c) ∷ Plain token.LeftParen ∷ (join_by (λ argument. argument) (Plain token.Comma ∷ []) (spellings d names args) ++ Plain token.RightParen ∷ [])

  -- those of each argument: a number, the word of a name, or the symbols of a subterm
  pub spellings : Def → List (List ℕ) → Args → List (List Symbol)
  spellings d names none = []
  spellings d names (number z rest) = (Plain (token.Number z) ∷ []) ∷ spellings d names rest
  spellings d names (name n rest) = (Named (word_at names n) ∷ []) ∷ spellings d names rest
  spellings d names (term t rest) = spelling d names t ∷ spellings d names rest

abbrev mutual
  -- the words of a term's name leaves, from left to right
  pub words : List (List ℕ) → Term → List (List ℕ)
  words names (con c args) = words_of_args names args

  pub words_of_args : List (List ℕ) → Args → List (List ℕ)
  words_of_args names none = []
  words_of_args names (number z rest) = words_of_args names rest
  words_of_args names (name n rest) = word_at names n ∷ words_of_args names rest
  words_of_args names (term t rest) = words names t ++ words_of_args names rest

-- the names once each of these words is added that doesn't stand among them, none where there would be more than 64
abbrev pub with_words : List (List ℕ) → List (List ℕ) → Option (List (List ℕ))
with_words names [] = Some names
with_words names (word ∷ others) = option_and_then (λ (added : ℕ × List (List ℕ)). with_words added.1 others) (with_name names word)

-- Symbols begin with the spelling of a well-sorted term of at most 4,096 nodes, which are these, and end after it. The
-- names that it is spelled with are those that stood, and then the term's own.
pub record BeginWithTerm (d : Def) (names : List (List ℕ)) (at : ℕ) (symbols : List Symbol) (read : ReadTerm) (end : ℕ) : Type 0 where
  pub whole : Term
  pub well_sorted : IsWellSorted d whole
  pub few : node_count whole ≤ 4096
  pub nodes_are : read.nodes ≡ nodes whole
  pub names_are : with_words names (words read.names whole) ≡ Some read.names
  pub names_below : NamesAreBelow (length read.names) whole
  pub left : List Symbol
  pub symbols_are : symbols ≡ spelling d read.names whole ++ left
  pub end_is : end ≡ at + length (spelling d read.names whole)

-- each constructor of a definition is found by its own name
abbrev pub ConstructorsAreFound : Def → Type 0
ConstructorsAreFound d = (c : ConId) → c.0 < length d.cons → con_named d (con_name d c) ≡ Some c

-- A term is read from a place exactly where the symbols there begin with its spelling, given that each constructor is
-- found by its own name and that the names are different words.
abbrev pub TermsAreReadExactly : Type 0
TermsAreReadExactly = (d : Def) (names : List (List ℕ)) (at : ℕ) (symbols : List Symbol) (read : ReadTerm) (end : ℕ) → ConstructorsAreFound d → IsDistinct bytes_eq names →
    read_term d names at symbols ≡ Ok (read, end) ↔ BeginWithTerm d names at symbols read end

-- Only terms are read, whatever the definition and the names.
abbrev pub OnlyTermsAreRead : Type 0
OnlyTermsAreRead = (d : Def) (names : List (List ℕ)) (at : ℕ) (symbols : List Symbol) (read : ReadTerm) (end : ℕ) →
    read_term d names at symbols ≡ Ok (read, end) → BeginWithTerm d names at symbols read end
