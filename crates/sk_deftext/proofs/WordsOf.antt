-- The words of a text are words.
use Rattle.std.proofs.Common.{◌≡◌, ℕ, zero, suc, nat_lt, Bool, true, false, cond, ◌==◌, List, [], ◌∷◌, ◌++◌, length, refl, sym, ap, subst, ◌∙◌, Option, Some, None, Result, Ok, Err}
use Rattle.std.specs.Prelude.{take_while}
use Rattle.std.specs.List.{list_all, AllByRecursion}
use Rattle.std.proofs.lemmas.Bool.{and_parts, and_from}
use Rattle.std.proofs.lemmas.List.Sums.{take_while-cons}
use Rattle.std.proofs.lemmas.Str.{chars-encodes, scalars-chars, IsUtf8-from_is_utf8}
use Rattle.std.proofs.Math.Utf8.{scalars}
use Rattle.std.specs.Char.{is_ascii_digit}
use Rattle.std.specs.Str.{IsUtf8, chars, encode_utf8_all, is_utf8}
use Rattle.std.specs.Str.Parse.{signed_digits_value}
use Rattle.unicode_ident.specs.Ident.{is_xid_continue}
use Rattle.sk_base.specs.Answer.{◌>>=◌}
use Rattle.sk_lex.specs.Spelling.{symbols_from, symbol_in}
use Rattle.sk_lex.specs.Symbols.{Symbol, Named, Plain, symbols, symbol_by}
use Rattle.sk_lex.specs.Tokens as lex
use Rattle.sk_lex.specs.Tokens.{tokens_of, tokens_from, piece, sign, minus, dots, word, number, Piece}
use Rattle.sk_lex.specs.declared.token.Token.{Token}
use Rattle.sk_lex.specs.declared.token.TokenKind.{TokenKind}
use Rattle.sk_lex.specs.declared.token.TokenKind.TheVariants.{Word, Number, LeftParen, RightParen, LeftBrace, RightBrace, LeftBracket, RightBracket, Comma, Colon, Equals, Slash, Question, Dots, Arrow}
use Rattle.sk_lex.specs.declared.token.LexError.{LexError}
use Rattle.sk_lex.specs.declared.token.LexError.TheVariants.{BadChar, NumberTooLarge, LongName}
use Rattle.sk_lex.proofs.Spans.{IsPiece, Holds, piece_holds}
use Rattle.sk_lex.proofs.Seen.{tokens_are_symbols}
use Rattle.sk_deftext.specs.Written.{are_word, IsWord}

-- what holds of a symbol that is a word
abbrev pub WordSymbol : Symbol → Type 0
WordSymbol (Named bytes) = IsWord bytes
WordSymbol (Plain kind) = Unit {0}

-- a piece that is a word has a word's characters
abbrev OfKind : ℕ → List ℕ → Option TokenKind → Type 0
OfKind c more (Some Word) = are_word (c ∷ more) ≡ true
OfKind c more other = Unit {0}

abbrev OfPiece : ℕ → Result Piece LexError → Type 0
OfPiece c (Ok p) = OfKind c p.1 p.0
OfPiece c (Err e) = Unit {0}

record Spelt (c : ℕ) (r : Result Piece LexError) : Type 0 where
  is : OfPiece c r

either_way : {c : ℕ} (b : Bool) {x y : Result Piece LexError} → (b ≡ true → Spelt c x) → (b ≡ false → Spelt c y) → Spelt c (cond b x y)
either_way true h k = h refl
either_way false h k = k refl

fails : {c : ℕ} (e : LexError) → Spelt c (Err e)
fails e = record { is = tt }

all_pass : (p : ℕ → Bool) (xs : List ℕ) → list_all p (take_while p xs) ≡ true
all_pass p [] = refl
all_pass p (x ∷ xs) = ap (list_all p) (take_while-cons p x xs) ∙ by (p x) refl (all_pass p xs) where
  by : (b : Bool) → p x ≡ b → list_all p (take_while p xs) ≡ true → list_all p (cond b (x ∷ take_while p xs) []) ≡ true
  by true e later = and_from (p x) (list_all p (take_while p xs)) e later
  by false e later = refl

word_spelt : (c : ℕ) (cs : List ℕ) → lex.starts_word c ≡ true → Spelt c (word c cs)
unfolding word
word_spelt c cs h =
    either_way (nat_lt 64 (length (encode_utf8_all (c ∷ take_while is_xid_continue cs)))) (λ _. fails LongName)
    (λ _. record { is = and_from (lex.starts_word c) (list_all is_xid_continue (take_while is_xid_continue cs)) h (all_pass is_xid_continue cs) })

number_spelt : (c : ℕ) (cs : List ℕ) → Spelt c (number c cs)
unfolding number
number_spelt c cs = either_way (lex.is_in_range (signed_digits_value 10 (c ∷ take_while is_ascii_digit cs))) (λ _. record { is = tt }) (λ _. fails NumberTooLarge)

minus_spelt : (c : ℕ) (cs : List ℕ) → Spelt c (minus c cs)
unfolding minus
minus_spelt c [] = fails BadChar
minus_spelt c (d ∷ cs) = either_way (is_ascii_digit d) (λ _. number_spelt c (d ∷ cs)) (λ _. either_way (d == 62) (λ _. record { is = tt }) (λ _. fails BadChar))

dots_spelt : (c : ℕ) (cs : List ℕ) → Spelt c (dots cs)
unfolding dots
dots_spelt c [] = fails BadChar
dots_spelt c (d ∷ cs) = either_way (d == 46) (λ _. record { is = tt }) (λ _. fails BadChar)

mark_of : {c : ℕ} (b : Bool) (kind : TokenKind) (other : Option TokenKind) → Spelt c (Ok (Some kind, [])) → Spelt c (lex.marked other) → Spelt c (lex.marked (cond b (Some kind) other))
mark_of true kind other h k = h
mark_of false kind other h k = k

marked_spelt : (c : ℕ) → Spelt c (lex.marked (lex.mark c))
marked_spelt c =
    mark_of (c == 40) LeftParen _ (record { is = tt }) (mark_of (c == 41) RightParen _ (record { is = tt })
    (mark_of (c == 123) LeftBrace _ (record { is = tt }) (mark_of (c == 125) RightBrace _ (record { is = tt })
    (mark_of (c == 91) LeftBracket _ (record { is = tt }) (mark_of (c == 93) RightBracket _ (record { is = tt })
    (mark_of (c == 44) Comma _ (record { is = tt }) (mark_of (c == 58) Colon _ (record { is = tt })
    (mark_of (c == 61) Equals _ (record { is = tt }) (mark_of (c == 47) Slash _ (record { is = tt })
    (mark_of (c == 63) Question None (record { is = tt }) (fails BadChar)))))))))))

sign_spelt : (c : ℕ) (cs : List ℕ) → Spelt c (sign c cs)
unfolding sign
sign_spelt c cs =
    either_way (c == 35) (λ _. record { is = tt })
    (λ _. either_way (c == 45) (λ _. minus_spelt c cs) (λ _. either_way (c == 46) (λ _. dots_spelt c cs) (λ _. marked_spelt c)))

piece_spelt : (c : ℕ) (cs : List ℕ) → Spelt c (piece c cs)
unfolding piece
piece_spelt c cs =
    either_way (lex.is_blank c) (λ _. record { is = tt })
    (λ _. either_way (is_ascii_digit c) (λ _. number_spelt c cs) (λ _. either_way (lex.starts_word c) (λ h. word_spelt c cs h) (λ _. sign_spelt c cs)))

scalars_front : (xs ys : List ℕ) → scalars (xs ++ ys) ≡ true → scalars xs ≡ true
scalars_front [] ys h = refl
scalars_front (x ∷ xs) ys h = let p = and_parts _ (scalars (xs ++ ys)) h in and_from _ (scalars xs) p.0 (scalars_front xs ys p.1)

scalars_rest : (x : ℕ) (xs : List ℕ) → scalars (x ∷ xs) ≡ true → scalars xs ≡ true
scalars_rest x xs h = (and_parts _ (scalars xs) h).1

word_of_kind : (bytes : List ℕ) (kind : TokenKind) → (kind ≡ Word → IsWord bytes) → WordSymbol (symbol_by bytes kind)
word_of_kind bytes Word h = h refl
word_of_kind bytes (Number z) h = tt
word_of_kind bytes LeftParen h = tt
word_of_kind bytes RightParen h = tt
word_of_kind bytes LeftBrace h = tt
word_of_kind bytes RightBrace h = tt
word_of_kind bytes LeftBracket h = tt
word_of_kind bytes RightBracket h = tt
word_of_kind bytes Comma h = tt
word_of_kind bytes Colon h = tt
word_of_kind bytes Equals h = tt
word_of_kind bytes Slash h = tt
word_of_kind bytes Question h = tt
word_of_kind bytes Dots h = tt
word_of_kind bytes Arrow h = tt

is_word : (c : ℕ) (cs more : List ℕ) (kind : TokenKind) → scalars (c ∷ cs) ≡ true → IsPiece c cs (Some kind, more) → OfKind c more (Some kind) → kind ≡ Word → IsWord (encode_utf8_all (c ∷ more))
is_word c cs more kind s p k e =
    let whole : scalars ((c ∷ more) ++ p.rest) ≡ true = ap (λ xs. scalars (c ∷ xs)) (sym p.front) ∙ s in
    let valid : scalars (c ∷ more) ≡ true = scalars_front (c ∷ more) p.rest whole in
    let P : TokenKind → Type 0 = λ kind. OfKind c more (Some kind) in
    let spelled : are_word (c ∷ more) ≡ true = subst P e k in
    record {
      utf8 = (c ∷ more, (valid, refl));
      characters = ap are_word (chars-encodes (c ∷ more) valid) ∙ spelled;
      short = p.short (ap (λ k. Some k) e);
    }

words_on : (c : ℕ) (cs : List ℕ) (r : Result Piece LexError) → scalars (c ∷ cs) ≡ true → Holds c cs r → Spelt c r → ((skip : ℕ) (ss : List Symbol) → symbols_from skip cs ≡ Ok ss → AllByRecursion WordSymbol ss) → (ss : List Symbol) →
    (r >>= λ p. symbols_from (length p.1) cs >>= λ more. Ok (symbol_in (c ∷ p.1) p.0 ++ more)) ≡ Ok ss → AllByRecursion WordSymbol ss
words_on c cs (Err e) s h k ih ss eq = absurd (cc eq)
words_on c cs (Ok (kind, front)) s h k ih ss eq = by (symbols_from (length front) cs) refl eq where
  first : (kind : Option TokenKind) → IsPiece c cs (kind, front) → OfKind c front kind → (more : List Symbol) → AllByRecursion WordSymbol more → AllByRecursion WordSymbol (symbol_in (c ∷ front) kind ++ more)
  first None p o more all = all
  first (Some kind) p o more all = (word_of_kind (encode_utf8_all (c ∷ front)) kind (is_word c cs front kind s p o), all)

  by : (r : Result (List Symbol) LexError) → symbols_from (length front) cs ≡ r → (r >>= λ more. Ok (symbol_in (c ∷ front) kind ++ more)) ≡ Ok ss → AllByRecursion WordSymbol ss
  by (Err e) f g = absurd (cc g)
  by (Ok more) f g =
      let same : symbol_in (c ∷ front) kind ++ more ≡ ss = cc g in
      subst (AllByRecursion WordSymbol) same (first kind h.is k.is more (ih (length front) more f))

words_from : (skip : ℕ) (cs : List ℕ) (ss : List Symbol) → scalars cs ≡ true → symbols_from skip cs ≡ Ok ss → AllByRecursion WordSymbol ss
words_from skip [] ss s e = let none : [] ≡ ss = cc e in subst (AllByRecursion WordSymbol) none tt
words_from (suc skip) (c ∷ cs) ss s e = words_from skip cs ss (scalars_rest c cs s) e
words_from zero (c ∷ cs) ss s e = words_on c cs (piece c cs) s (piece_holds c cs) (piece_spelt c cs) (λ skip more f. words_from skip cs more (scalars_rest c cs s) f) ss e

utf8_tokens : (text : List ℕ) (b : Bool) (e : LexError × ℕ) (ts : List Token) → is_utf8 text ≡ b → cond b (tokens_from 0 0 (chars text)) (Err e) ≡ Ok ts → IsUtf8 text
utf8_tokens text true e ts u eq = IsUtf8-from_is_utf8 text u
utf8_tokens text false e ts u eq = absurd (cc eq)

text_is_utf8 : (text : List ℕ) (ts : List Token) → tokens_of text ≡ Ok ts → IsUtf8 text
unfolding tokens_of
text_is_utf8 text ts eq = utf8_tokens text (is_utf8 text) _ ts refl eq

-- each word of a text is a word
pub text_words : (text : List ℕ) (ts : List Token) → tokens_of text ≡ Ok ts → AllByRecursion WordSymbol (symbols text ts)
text_words text ts eq = words_from 0 (chars text) (symbols text ts) (scalars-chars text (text_is_utf8 text ts eq)) (tokens_are_symbols text ts eq)
