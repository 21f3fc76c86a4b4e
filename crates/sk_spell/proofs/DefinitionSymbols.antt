-- What the keywords and tests of a definition tell of its symbols, and the marks that a reading took.
use Rattle.std.proofs.Common.{◌≡◌, ℕ, Bool, true, false, if◌then◌else◌, List, [], ◌∷◌, refl, sym, ap, ◌∙◌, Option, Some, None, Ok}
use Rattle.std.specs.Prelude.{codes}
use Rattle.std.specs.Str.{bytes_eq}
use Rattle.std.proofs.lemmas.Option.{same_Some}
use Rattle.std.proofs.lemmas.Slice.Eq.{bytes_eq-Decides}
use Rattle.sk_lex.specs.Run.{Turn}
use Rattle.sk_lex.specs.Symbols.{Symbol, Named, Plain, word_of, is_open, is_colon, is_arrow, is_left_brace}
use Rattle.sk_lex.specs.declared.token.TokenKind.TheVariants as token
use Rattle.sk_deftext.specs.Met.{asked}
use Rattle.sk_deftext.specs.Words.{keyword_of, keyword_in, plain_word, unless_keyword}
use Rattle.sk_deftext.specs.Reading.{step}
use Rattle.sk_deftext.specs.declared.draft.Draft.{Draft}
use Rattle.sk_deftext.specs.declared.expected.Expected.{Expected}
use Rattle.sk_deftext.specs.declared.expected.Expected.TheVariants as expected
use Rattle.sk_deftext.specs.declared.word.Keyword.{Keyword}
use Rattle.sk_deftext.specs.declared.word.Keyword.TheVariants as keyword
use Rattle.sk_deftext.proofs.Steps.{open_step, arrow_step, colon_step, left_brace_step}
use Rattle.sk_spell.proofs.DefinitionRuns.{Final, Reads, took, goes_on}
use Rattle.sk_spell.proofs.SymbolForms.{open_is, colon_is, arrow_is, left_brace_is}

-- how a keyword is written
abbrev pub keyword_word : Keyword → List ℕ
keyword_word keyword.Sort = codes "sort"
keyword_word keyword.Con = codes "con"
keyword_word keyword.Hook = codes "hook"
keyword_word keyword.Rule = codes "rule"
keyword_word keyword.Else = codes "else"
keyword_word keyword.Either = codes "either"
keyword_word keyword.Or = codes "or"
keyword_word keyword.With = codes "with"
keyword_word keyword.Own = codes "self"

word_or : (word : List ℕ) (one key : Keyword) (other : Option Keyword) → (other ≡ Some key → word ≡ keyword_word key) →
    (if bytes_eq word (keyword_word one) then Some one else other) ≡ Some key → word ≡ keyword_word key
word_or word one key other later h = by (bytes_eq word (keyword_word one)) refl h where
  by : (b : Bool) → bytes_eq word (keyword_word one) ≡ b → (if b then Some one else other) ≡ Some key → word ≡ keyword_word key
  by true e h = (bytes_eq-Decides word (keyword_word one)).0 e ∙ ap keyword_word (same_Some one key h)
  by false e h = later h

-- a word that is this keyword is written so
pub keyword_word_is : (word : List ℕ) (key : Keyword) → keyword_of word ≡ Some key → word ≡ keyword_word key
keyword_word_is word key h =
    word_or word keyword.Sort key _ (word_or word keyword.Con key _ (word_or word keyword.Hook key _ (word_or word keyword.Rule key _ (word_or word keyword.Else key _
    (word_or word keyword.Either key _ (word_or word keyword.Or key _ (word_or word keyword.With key _ (word_or word keyword.Own key None (λ bad. absurd (cc bad)))))))))) h

-- a symbol that is this keyword is its word
pub keyword_is : (symbol : Symbol) (key : Keyword) → keyword_in (word_of symbol) ≡ Some key → symbol ≡ Named (keyword_word key)
keyword_is (Named bytes) key h = ap Named (keyword_word_is bytes key h)
keyword_is (Plain kind) key h = absurd (cc)

-- a symbol whose bytes are no keyword is this word, which is no keyword
pub plain_is : (symbol : Symbol) (word : List ℕ) → plain_word (word_of symbol) ≡ Some word → (symbol ≡ Named word) × (keyword_of word ≡ None)
plain_is (Named bytes) word h = by (keyword_of bytes) refl h where
  by : (key : Option Keyword) → keyword_of bytes ≡ key → unless_keyword bytes key ≡ Some word → (Named bytes ≡ Named word) × (keyword_of word ≡ None)
  by None e h = let same = same_Some bytes word h in (ap Named same, ap keyword_of (sym same) ∙ e)
  by (Some key) e h = absurd (cc h)
plain_is (Plain kind) word h = absurd (cc)

-- a symbol that was asked for has the form
pub asked_is : (draft : Draft) (fits : Bool) (turn : Turn Expected Draft) → asked draft fits ≡ Ok turn → fits ≡ true
asked_is draft true turn h = refl
asked_is draft false turn h = absurd (cc h)

open_met : (draft : Draft) (at : ℕ) (symbol : Symbol) (turn : Turn Expected Draft) → step draft expected.Open at symbol ≡ Ok turn → symbol ≡ Plain token.LeftParen
unfolding step
open_met draft at symbol turn h = open_is symbol (asked_is draft (is_open symbol) turn h)

arrow_met : (draft : Draft) (at : ℕ) (symbol : Symbol) (turn : Turn Expected Draft) → step draft expected.Arrow at symbol ≡ Ok turn → symbol ≡ Plain token.Arrow
unfolding step
arrow_met draft at symbol turn h = arrow_is symbol (asked_is draft (is_arrow symbol) turn h)

colon_met : (draft : Draft) (at : ℕ) (symbol : Symbol) (turn : Turn Expected Draft) → step draft expected.Colon at symbol ≡ Ok turn → symbol ≡ Plain token.Colon
unfolding step
colon_met draft at symbol turn h = colon_is symbol (asked_is draft (is_colon symbol) turn h)

left_brace_met : (draft : Draft) (at : ℕ) (symbol : Symbol) (turn : Turn Expected Draft) → step draft expected.LeftBrace at symbol ≡ Ok turn → symbol ≡ Plain token.LeftBrace
unfolding step
left_brace_met draft at symbol turn h = left_brace_is symbol (asked_is draft (is_left_brace symbol) turn h)

module _ {final : Final} {below : List Expected} {draft : Draft} {symbols : List Symbol} where
  -- where `(` was expected it was taken
  pub open_taken : Reads final (expected.Open ∷ below) draft symbols → (left : List Symbol) × (symbols ≡ Plain token.LeftParen ∷ left) × Reads final below draft left
  open_taken r =
      let t = took refl r in
      let is = open_met draft t.at t.symbol t.turn t.met_is in
      (t.left, t.symbols_are ∙ ap (λ symbol. symbol ∷ t.left) is, goes_on t draft [] (ap (step draft expected.Open t.at) is ∙ open_step draft t.at))

  -- where `->` was expected it was taken
  pub arrow_taken : Reads final (expected.Arrow ∷ below) draft symbols → (left : List Symbol) × (symbols ≡ Plain token.Arrow ∷ left) × Reads final below draft left
  arrow_taken r =
      let t = took refl r in
      let is = arrow_met draft t.at t.symbol t.turn t.met_is in
      (t.left, t.symbols_are ∙ ap (λ symbol. symbol ∷ t.left) is, goes_on t draft [] (ap (step draft expected.Arrow t.at) is ∙ arrow_step draft t.at))

  -- where `:` was expected it was taken
  pub colon_taken : Reads final (expected.Colon ∷ below) draft symbols → (left : List Symbol) × (symbols ≡ Plain token.Colon ∷ left) × Reads final below draft left
  colon_taken r =
      let t = took refl r in
      let is = colon_met draft t.at t.symbol t.turn t.met_is in
      (t.left, t.symbols_are ∙ ap (λ symbol. symbol ∷ t.left) is, goes_on t draft [] (ap (step draft expected.Colon t.at) is ∙ colon_step draft t.at))

  -- where `{` was expected it was taken
  pub left_brace_taken : Reads final (expected.LeftBrace ∷ below) draft symbols → (left : List Symbol) × (symbols ≡ Plain token.LeftBrace ∷ left) × Reads final below draft left
  left_brace_taken r =
      let t = took refl r in
      let is = left_brace_met draft t.at t.symbol t.turn t.met_is in
      (t.left, t.symbols_are ∙ ap (λ symbol. symbol ∷ t.left) is, goes_on t draft [] (ap (step draft expected.LeftBrace t.at) is ∙ left_brace_step draft t.at))
