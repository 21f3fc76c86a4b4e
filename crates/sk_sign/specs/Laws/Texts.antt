-- The laws of the texts of signs.
use Rattle.std.proofs.Common.{◌≡◌, ℕ, ◌<◌, ◌≤◌, ◌==◌, Bool, true, false, ◌||◌, List, [], ◌∷◌, ◌++◌, length, Option, Some, None, Result, Ok, refl, sym, ap, ◌∙◌, arith}
use Rattle.std.specs.Prelude.{nat_lt, MatchResult}
use Rattle.std.specs.List.{list_all}
use Rattle.sk_lex.specs.Symbols.{Symbol, Named, Plain}
use Rattle.sk_lex.specs.Spelling.{is_plain_word}
use Rattle.sk_lex.proofs.Words.{plain_word_spells}
use Rattle.sk_lattice.proofs.Endings.{word_ends}
use Rattle.sk_lattice.specs.DomainTexts.{TextLaws}
use Rattle.sk_sign.specs.declared.sign.Sign.{Sign}
use Rattle.sk_sign.specs.Signs.{sign_domain}
use Rattle.sk_sign.specs.Texts.{word_of, taken_word, set_named, sign_taken, sign_texts}

-- what holds of the word of each set
each : (P : List ℕ → Type 0) → P (word_of false false false) → P (word_of true false false) → P (word_of false true false) → P (word_of false false true) → P (word_of true true false) → P (word_of false true true) → P (word_of true false true) → P (word_of true true true) → (n z p : Bool) → P (word_of n z p)
each P none neg zero pos nonpos nonneg nonzero any false false false = none
each P none neg zero pos nonpos nonneg nonzero any true false false = neg
each P none neg zero pos nonpos nonneg nonzero any false true false = zero
each P none neg zero pos nonpos nonneg nonzero any false false true = pos
each P none neg zero pos nonpos nonneg nonzero any true true false = nonpos
each P none neg zero pos nonpos nonneg nonzero any false true true = nonneg
each P none neg zero pos nonpos nonneg nonzero any true false true = nonzero
each P none neg zero pos nonpos nonneg nonzero any true true true = any

plain : (n z p : Bool) → is_plain_word (word_of n z p) ≡ true
plain = each (λ w. is_plain_word w ≡ true) refl refl refl refl refl refl refl refl

ascii : (n z p : Bool) → list_all (λ c. nat_lt c 128) (word_of n z p) ≡ true
ascii = each (λ w. list_all (λ c. nat_lt c 128) w ≡ true) refl refl refl refl refl refl refl refl

named : (n z p : Bool) → set_named (word_of n z p) ≡ Some (record { negative = n; zero = z; positive = p })
named false false false = refl
named true false false = refl
named false true false = refl
named false false true = refl
named true true false = refl
named false true true = refl
named true false true = refl
named true true true = refl

taken_within : (o : Option Sign) (symbols : List Symbol) (word : List ℕ) → MatchResult (taken_word o) (λ p. (0 < p.1) × (p.1 ≤ length (Named word ∷ symbols))) (λ count. count ≤ length (Named word ∷ symbols))
taken_within (Some s) symbols word = (omega arith, omega arith)
taken_within None symbols word = omega arith

within : (symbols : List Symbol) → MatchResult (sign_taken symbols) (λ p. (0 < p.1) × (p.1 ≤ length symbols)) (λ count. count ≤ length symbols)
within [] = omega arith
within (Plain kind ∷ symbols) = omega arith
within (Named word ∷ symbols) = taken_within (set_named word) symbols word

pub sign_text_laws : TextLaws sign_domain sign_texts
sign_text_laws = record {
  word_is = refl;
  empty_text = refl;
  ascii = λ a. ascii a.negative a.zero a.positive;
  spells = λ a rest ok. plain_word_spells (word_of a.negative a.zero a.positive) (plain a.negative a.zero a.positive) rest (word_ends rest ok);
  begins = λ a. refl;
  reads = λ a rest ok. ap taken_word (named a.negative a.zero a.positive);
  within = within;
}
