-- The texts of a domain's elements.
use Rattle.std.specs.Prelude.{◌≡◌, ℕ, ◌+◌, ◌<◌, ◌≤◌, ◌==◌, nat_lt, Bool, true, false, ◌||◌, List, [], ◌∷◌, ◌++◌, length, codes, Result, Ok, Err, MatchResult}
use Rattle.std.specs.List.{list_any, list_all}
use Rattle.std.specs.Str.{bytes_eq}
use Rattle.sk_lex.specs.Symbols.{Symbol, Plain, is_close}
use Rattle.sk_lex.specs.Spelling.{Spells}
use Rattle.sk_lex.specs.declared.token.TokenKind.TheVariants.{Comma, RightParen, Slash, Colon}
use Rattle.sk_lattice.specs.Domain.{Domain}

-- the domain's word, each element's printed text with its symbols, and what stands at the front of symbols: an element
-- with the number of its symbols, or how many come before the first that fits no text
pub record DomainTexts (E : Type 0) : Type 0 where
  pub word : List ℕ
  pub text : E → List ℕ
  pub symbols : E → List Symbol
  pub taken : List Symbol → Result (E × ℕ) ℕ

-- the same from a place on
abbrev pub taken_at : {E : Type 0} → ℕ → Result (E × ℕ) ℕ → Result (E × ℕ) ℕ
taken_at from (Ok (element, count)) = Ok (element, from + count)
taken_at from (Err count) = Err (from + count)

-- the words of the domains
abbrev pub is_domain_word : List ℕ → Bool
is_domain_word word = list_any (bytes_eq word) (codes "sign" ∷ codes "interval" ∷ [])

-- the text ends, or one of `,` `)` `/` `:` comes next
abbrev pub EndsElement : List ℕ → Type 0
EndsElement [] = Unit {0}
EndsElement (c ∷ cs) = (c == 44 || c == 41 || c == 47 || c == 58) ≡ true

abbrev pub is_mark : Symbol → Bool
is_mark (Plain Comma) = true
is_mark (Plain RightParen) = true
is_mark (Plain Slash) = true
is_mark (Plain Colon) = true
is_mark other = false

-- no symbol is left, or one of these marks comes next
abbrev pub EndsSymbols : List Symbol → Type 0
EndsSymbols [] = Unit {0}
EndsSymbols (symbol ∷ symbols) = is_mark symbol ≡ true

-- whether a `)` comes first
abbrev pub closes : List Symbol → Bool
closes [] = false
closes (symbol ∷ symbols) = is_close symbol

-- A printed text is ASCII, spells its symbols where it ends or such a mark follows, and is read back there. It doesn't
-- begin with the mark that ends a tuple. What is taken is one symbol at least.
pub record TextLaws {E : Type 0} (d : Domain E) (t : DomainTexts E) : Type 0 where
  pub word_is : is_domain_word t.word ≡ true
  pub empty_text : t.text d.empty ≡ codes "none"
  pub ascii : (a : E) → list_all (λ c. nat_lt c 128) (t.text a) ≡ true
  pub spells : (a : E) → Spells EndsElement (t.text a) (t.symbols a)
  pub begins : (a : E) → closes (t.symbols a) ≡ false
  pub reads : (a : E) (rest : List Symbol) → EndsSymbols rest → t.taken (t.symbols a ++ rest) ≡ Ok (a, length (t.symbols a))
  pub within : (symbols : List Symbol) → MatchResult (t.taken symbols) (λ p. (0 < p.1) × (p.1 ≤ length symbols)) (λ count. count ≤ length symbols)
