-- What tests tell of a symbol: which mark, word or number it is.
use Rattle.std.proofs.Common.{◌≡◌, ℕ, true, ℤ, List, refl, ap, Some}
use Rattle.std.proofs.lemmas.Option.{same_Some}
use Rattle.sk_lex.specs.Symbols.{Symbol, Named, Plain, word_of, number_of, is_open, is_close, is_comma, is_colon, is_arrow, is_equals, is_slash, is_question, is_left_brace, is_right_brace}
use Rattle.sk_lex.specs.declared.token.TokenKind.TheVariants as token

pub open_is : (symbol : Symbol) → is_open symbol ≡ true → symbol ≡ Plain token.LeftParen
open_is (Plain token.LeftParen) h = refl
open_is symbol h = absurd (cc)

pub close_is : (symbol : Symbol) → is_close symbol ≡ true → symbol ≡ Plain token.RightParen
close_is (Plain token.RightParen) h = refl
close_is symbol h = absurd (cc)

pub comma_is : (symbol : Symbol) → is_comma symbol ≡ true → symbol ≡ Plain token.Comma
comma_is (Plain token.Comma) h = refl
comma_is symbol h = absurd (cc)

pub colon_is : (symbol : Symbol) → is_colon symbol ≡ true → symbol ≡ Plain token.Colon
colon_is (Plain token.Colon) h = refl
colon_is symbol h = absurd (cc)

pub arrow_is : (symbol : Symbol) → is_arrow symbol ≡ true → symbol ≡ Plain token.Arrow
arrow_is (Plain token.Arrow) h = refl
arrow_is symbol h = absurd (cc)

pub equals_is : (symbol : Symbol) → is_equals symbol ≡ true → symbol ≡ Plain token.Equals
equals_is (Plain token.Equals) h = refl
equals_is symbol h = absurd (cc)

pub slash_is : (symbol : Symbol) → is_slash symbol ≡ true → symbol ≡ Plain token.Slash
slash_is (Plain token.Slash) h = refl
slash_is symbol h = absurd (cc)

pub question_is : (symbol : Symbol) → is_question symbol ≡ true → symbol ≡ Plain token.Question
question_is (Plain token.Question) h = refl
question_is symbol h = absurd (cc)

pub left_brace_is : (symbol : Symbol) → is_left_brace symbol ≡ true → symbol ≡ Plain token.LeftBrace
left_brace_is (Plain token.LeftBrace) h = refl
left_brace_is symbol h = absurd (cc)

pub right_brace_is : (symbol : Symbol) → is_right_brace symbol ≡ true → symbol ≡ Plain token.RightBrace
right_brace_is (Plain token.RightBrace) h = refl
right_brace_is symbol h = absurd (cc)

pub word_is : (symbol : Symbol) (word : List ℕ) → word_of symbol ≡ Some word → symbol ≡ Named word
word_is (Named bytes) word h = ap Named (same_Some bytes word h)
word_is (Plain kind) word h = absurd (cc)

pub number_is : (symbol : Symbol) (value : ℤ) → number_of symbol ≡ Some value → symbol ≡ Plain (token.Number value)
number_is (Plain (token.Number found)) value h = ap (λ z. Plain (token.Number z)) (same_Some found value h)
number_is symbol value h = absurd (cc)
