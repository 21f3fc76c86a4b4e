-- Texts that spell symbols, by their bytes.
use Rattle.std.proofs.Common.{◌≡◌, ℕ, zero, suc, ◌+◌, ◌<◌, ◌≤◌, nat_lt, Bool, true, false, cond, not, ◌&&◌, ◌||◌, ◌==◌, List, [], ◌∷◌, ◌++◌, length, refl, sym, ap, subst, ◌∙◌, arith, append_assoc, Some, None, Result, Ok, Err, pos, inl, inr}
use Rattle.std.specs.Prelude.{nat_le, take_while}
use Rattle.std.specs.List.{list_all}
use Rattle.std.specs.Str.Parse.{signed_digits_value}
use Rattle.std.proofs.lemmas.Bool.{and_parts, and_from, le-ltb, leb-true, cases_lt}
use Rattle.std.proofs.lemmas.Bool.Decides.{nat_tests}
use Rattle.std.proofs.lemmas.List.{append-nil}
use Rattle.std.proofs.lemmas.List.Sums.{take_while-cons}
use Rattle.std.proofs.lemmas.Str.{chars-append, chars-nil, chars-IsAscii, encodes-chars, IsUtf8-append, IsUtf8-nil, IsUtf8-from_ascii, is_utf8-from_IsUtf8}
use Rattle.std.proofs.lemmas.Str.Ascii.{IsAscii-cons, IsAscii-nil}
use Rattle.std.specs.Char.{is_ascii_digit, is_ascii_alphabetic, is_ascii_alphanumeric, len_utf8}
use Rattle.std.specs.Str.{IsUtf8, IsAscii, chars, encode_utf8_all}
use Rattle.unicode_ident.specs.Ident.{is_xid_continue}
use Rattle.unicode_ident.proofs.IdentLemmas.{is_xid_start-ascii, is_xid_continue-ascii}
use Rattle.sk_base.specs.Answer.{◌>>=◌}
use Rattle.sk_lex.specs.Spelling.{symbols_from, symbol_in, before, Spells, Anything, NoWord, is_plain, is_plain_word}
use Rattle.sk_lex.specs.Symbols.{Symbol, Named, Plain, symbols}
use Rattle.sk_lex.specs.Tokens as lex
use Rattle.sk_lex.specs.Tokens.{tokens_of, tokens_from, token_of, piece, sign, minus, number, word, placed, Piece}
use Rattle.sk_lex.specs.declared.token.Token.{Token}
use Rattle.sk_lex.specs.declared.token.TokenKind.TheVariants.{Word, Number, LeftParen, RightParen, LeftBrace, RightBrace, Comma, Colon, Arrow}
use Rattle.sk_lex.specs.declared.token.LexError.{LexError}
use Rattle.sk_lex.specs.declared.token.LexError.TheVariants.{LongName, NumberTooLarge}
use Rattle.sk_lex.proofs.Spellings.{piece_then, open_spells, close_spells, comma_spells, blank_spells}
use Rattle.sk_lex.proofs.Seen.{tokens_are_symbols}
use Rattle.sk_deftext.specs.Written.{are_word, IsWord}

-- the whole text spells these symbols
pub record Spelled (text : List ℕ) (ss : List Symbol) : Type 0 where
  pub utf8 : IsUtf8 text
  pub reads : symbols_from 0 (chars text) ≡ Ok ss

-- before any text that passes the test this one spells its own symbols
pub record Writes (follows : List ℕ → Type 0) (text : List ℕ) (ss : List Symbol) : Type 0 where
  pub on : (rest : List ℕ) (more : List Symbol) → follows rest → Spelled rest more → Spelled (text ++ rest) (ss ++ more)

-- no word goes on with the next byte
abbrev pub ends_word : ℕ → Bool
ends_word b = nat_lt b 128 && not (is_ascii_alphanumeric b || (b == 95))

abbrev pub EndsWord : List ℕ → Type 0
EndsWord [] = Unit {0}
EndsWord (b ∷ bs) = ends_word b ≡ true

pub both : {mid follows : List ℕ → Type 0} {s t : List ℕ} {a b : List Symbol} → Writes mid s a → Writes follows t b → ((rest : List ℕ) → follows rest → mid (t ++ rest)) → Writes follows (s ++ t) (a ++ b)
both {mid} {follows} {s} {t} {a} {b} p q seam = record {
  on = λ (rest : List ℕ) (more : List Symbol) (ok : follows rest) (w : Spelled rest more).
      let P : List ℕ → Type 0 = λ text. Spelled text ((a ++ b) ++ more) in
      let Q : List Symbol → Type 0 = λ ss. Spelled (s ++ (t ++ rest)) ss in
      subst P (sym (append_assoc s t rest)) (subst Q (sym (append_assoc a b more)) (p.on (t ++ rest) (b ++ more) (seam rest ok) (q.on rest more ok w)));
}

-- a text and then another, where the first may be followed by anything
pub and_then : {follows : List ℕ → Type 0} {s t : List ℕ} {a b : List Symbol} → Writes Anything s a → Writes follows t b → Writes follows (s ++ t) (a ++ b)
and_then p q = both p q (λ rest ok. tt)

pub nothing_writes : Writes Anything [] []
nothing_writes = record { on = λ rest more ok w. w }

ascii_one : (b : ℕ) → b < 128 → IsAscii (b ∷ [])
ascii_one b h = IsAscii-cons b [] h IsAscii-nil

-- an ASCII byte is its character
byte_utf8 : (b : ℕ) (rest : List ℕ) → b < 128 → IsUtf8 rest → IsUtf8 (b ∷ rest)
byte_utf8 b rest h u = IsUtf8-append (b ∷ []) rest (IsUtf8-from_ascii (b ∷ []) (ascii_one b h)) u

byte_chars : (b : ℕ) (rest : List ℕ) → b < 128 → chars (b ∷ rest) ≡ b ∷ chars rest
byte_chars b rest h =
    chars-append (b ∷ []) rest (IsUtf8-from_ascii (b ∷ []) (ascii_one b h)) ∙ ap (λ cs. cs ++ chars rest) (chars-IsAscii (b ∷ []) (ascii_one b h))

before_ok : (ss more : List Symbol) (r : Result (List Symbol) LexError) → r ≡ Ok more → before ss r ≡ Ok (ss ++ more)
before_ok ss more r e = ap (before ss) e

-- one character that may be followed by anything
byte_writes : (b : ℕ) (ss : List Symbol) → b < 128 → Spells Anything (b ∷ []) ss → Writes Anything (b ∷ []) ss
byte_writes b ss h p = record {
  on = λ rest more ok w. record {
    utf8 = byte_utf8 b rest h w.utf8;
    reads = ap (symbols_from 0) (byte_chars b rest h) ∙ p (chars rest) tt ∙ before_ok ss more (symbols_from 0 (chars rest)) w.reads;
  };
}

newline_piece : (cs : List ℕ) → piece 10 cs ≡ Ok (None, [])
unfolding piece
newline_piece cs = refl

colon_piece : (cs : List ℕ) → piece 58 cs ≡ Ok (Some Colon, [])
unfolding piece sign
colon_piece cs = rw (is_xid_start-ascii 58 (omega arith))

left_brace_piece : (cs : List ℕ) → piece 123 cs ≡ Ok (Some LeftBrace, [])
unfolding piece sign
left_brace_piece cs = rw (is_xid_start-ascii 123 (omega arith))

right_brace_piece : (cs : List ℕ) → piece 125 cs ≡ Ok (Some RightBrace, [])
unfolding piece sign
right_brace_piece cs = rw (is_xid_start-ascii 125 (omega arith))

arrow_piece : (cs : List ℕ) → piece 45 (62 ∷ cs) ≡ Ok (Some Arrow, 62 ∷ [])
unfolding piece sign minus
arrow_piece cs = rw (is_xid_start-ascii 45 (omega arith))

pub open_writes : Writes Anything (40 ∷ []) (Plain LeftParen ∷ [])
open_writes = byte_writes 40 _ (omega arith) open_spells

pub close_writes : Writes Anything (41 ∷ []) (Plain RightParen ∷ [])
close_writes = byte_writes 41 _ (omega arith) close_spells

pub comma_writes : Writes Anything (44 ∷ []) (Plain Comma ∷ [])
comma_writes = byte_writes 44 _ (omega arith) comma_spells

pub blank_writes : Writes Anything (32 ∷ []) []
blank_writes = byte_writes 32 _ (omega arith) blank_spells

pub newline_writes : Writes Anything (10 ∷ []) []
newline_writes = byte_writes 10 [] (omega arith) (λ rest ok. piece_then 10 [] rest None (newline_piece rest))

pub colon_writes : Writes Anything (58 ∷ []) (Plain Colon ∷ [])
colon_writes = byte_writes 58 (Plain Colon ∷ []) (omega arith) (λ rest ok. piece_then 58 [] rest (Some Colon) (colon_piece rest))

pub left_brace_writes : Writes Anything (123 ∷ []) (Plain LeftBrace ∷ [])
left_brace_writes = byte_writes 123 (Plain LeftBrace ∷ []) (omega arith) (λ rest ok. piece_then 123 [] rest (Some LeftBrace) (left_brace_piece rest))

pub right_brace_writes : Writes Anything (125 ∷ []) (Plain RightBrace ∷ [])
right_brace_writes = byte_writes 125 (Plain RightBrace ∷ []) (omega arith) (λ rest ok. piece_then 125 [] rest (Some RightBrace) (right_brace_piece rest))

pub arrow_writes : Writes Anything (45 ∷ 62 ∷ []) (Plain Arrow ∷ [])
arrow_writes = record {
  on = λ rest more ok w. record {
    utf8 = byte_utf8 45 (62 ∷ rest) (omega arith) (byte_utf8 62 rest (omega arith) w.utf8);
    reads = ap (symbols_from 0) (byte_chars 45 (62 ∷ rest) (omega arith) ∙ ap (λ cs. 45 ∷ cs) (byte_chars 62 rest (omega arith)))
        ∙ piece_then 45 (62 ∷ []) (chars rest) (Some Arrow) (arrow_piece (chars rest)) ∙ before_ok (Plain Arrow ∷ []) more (symbols_from 0 (chars rest)) w.reads;
  };
}

one_piece : (cs : List ℕ) → piece 49 (10 ∷ cs) ≡ Ok (Some (Number (pos 1)), [])
unfolding piece number
one_piece cs =
    ap (λ ds. cond (lex.is_in_range (signed_digits_value 10 (49 ∷ ds))) (Ok (Some (Number (signed_digits_value 10 (49 ∷ ds))), ds)) (Err NumberTooLarge))
    (take_while-cons is_ascii_digit 10 cs)

-- the version, which stands at its line's end
pub version_writes : Writes Anything (49 ∷ 10 ∷ []) (Plain (Number (pos 1)) ∷ [])
version_writes = record {
  on = λ rest more ok w.
      let line = newline_writes.on rest more tt w in
      record {
        utf8 = byte_utf8 49 (10 ∷ rest) (omega arith) line.utf8;
        reads = ap (symbols_from 0) (byte_chars 49 (10 ∷ rest) (omega arith) ∙ ap (λ cs. 49 ∷ cs) (byte_chars 10 rest (omega arith)))
            ∙ piece_then 49 [] (10 ∷ chars rest) (Some (Number (pos 1))) (one_piece (chars rest))
            ∙ ap (λ r. before (Plain (Number (pos 1)) ∷ []) r) (ap (symbols_from 0) (sym (byte_chars 10 rest (omega arith))) ∙ line.reads);
      };
}

-- Words.

letter_or_line : (c : ℕ) → c < 128 → (is_ascii_alphabetic c || (c == 95)) ≡ true → (lex.is_blank c ≡ false) × (is_ascii_digit c ≡ false)
letter_or_line c low h = (grind (arith, nat_tests), grind (arith, nat_tests))

far : (c : ℕ) → 128 ≤ c → (lex.is_blank c ≡ false) × (is_ascii_digit c ≡ false)
far c h = (grind (arith, nat_tests), grind (arith, nat_tests))

-- a word begins with no blank and no digit
starts_plainly : (c : ℕ) → lex.starts_word c ≡ true → (lex.is_blank c ≡ false) × (is_ascii_digit c ≡ false)
starts_plainly c h = elim (cases_lt c 128) [
  | inl low ↦ letter_or_line c low (sym (ap (λ b. b || (c == 95)) (is_xid_start-ascii c low)) ∙ h)
  | inr high ↦ far c high
]

word_ends : (rest : List ℕ) → NoWord rest → take_while is_xid_continue rest ≡ []
word_ends [] ok = refl
word_ends (c ∷ rest) ok = take_while-cons is_xid_continue c rest ∙ ap (λ b. cond b (c ∷ take_while is_xid_continue rest) []) ok

word_run : (cs rest : List ℕ) → list_all is_xid_continue cs ≡ true → NoWord rest → take_while is_xid_continue (cs ++ rest) ≡ cs
word_run [] rest h ok = word_ends rest ok
word_run (c ∷ cs) rest h ok =
    let p = and_parts (is_xid_continue c) (list_all is_xid_continue cs) h in
    take_while-cons is_xid_continue c (cs ++ rest)
    ∙ ap (λ b. cond b (c ∷ take_while is_xid_continue (cs ++ rest)) []) p.0
    ∙ ap (λ ds. c ∷ ds) (word_run cs rest p.1 ok)

word_is : (c : ℕ) (cs rest : List ℕ) → list_all is_xid_continue cs ≡ true → length (encode_utf8_all (c ∷ cs)) ≤ 64 → NoWord rest → word c (cs ++ rest) ≡ Ok (Some Word, cs)
unfolding word
word_is c cs rest h short ok =
    ap (λ ds. cond (nat_lt 64 (length (encode_utf8_all (c ∷ ds)))) (Err LongName) (Ok (Some Word, ds))) (word_run cs rest h ok)
    ∙ ap (λ b. cond b (Err LongName) (Ok (Some Word, cs))) (le-ltb 64 (length (encode_utf8_all (c ∷ cs))) short)

word_piece : (c : ℕ) (cs : List ℕ) → lex.starts_word c ≡ true → piece c cs ≡ word c cs
unfolding piece
word_piece c cs h = let p = starts_plainly c h in rw (p.0, p.1, h)

characters_spell : (bytes cs : List ℕ) → encode_utf8_all cs ≡ bytes → are_word cs ≡ true → length bytes ≤ 64 → Spells NoWord cs (Named bytes ∷ [])
characters_spell bytes [] e h short = absurd (cc)
characters_spell bytes (c ∷ cs) e h short = λ rest ok.
    let p = and_parts (lex.starts_word c) (list_all is_xid_continue cs) h in
    piece_then c cs rest (Some Word) (word_piece c (cs ++ rest) p.0 ∙ word_is c cs rest p.1 (omega (arith, ap length e, short)) ok)
    ∙ ap (λ bs. before (Named bs ∷ []) (symbols_from 0 rest)) e

no_word_goes_on : (b : ℕ) → ends_word b ≡ true → (b < 128) × (is_xid_continue b ≡ false)
no_word_goes_on b h =
    let low : b < 128 = grind (arith, nat_tests) in
    let other : (is_ascii_alphanumeric b || (b == 95)) ≡ false = grind (arith, nat_tests) in
    (low, is_xid_continue-ascii b low ∙ other)

next_ends : (rest : List ℕ) → EndsWord rest → NoWord (chars rest)
next_ends [] ok = let P : List ℕ → Type 0 = NoWord in subst P (sym chars-nil) tt
next_ends (b ∷ rest) ok =
    let p = no_word_goes_on b ok in
    let P : List ℕ → Type 0 = NoWord in subst P (sym (byte_chars b rest p.0)) p.1

-- a word that no other goes on with
pub word_writes : (w : List ℕ) → IsWord w → Writes EndsWord w (Named w ∷ [])
word_writes w h = record {
  on = λ rest more ok s. record {
    utf8 = IsUtf8-append w rest h.utf8 s.utf8;
    reads = ap (symbols_from 0) (chars-append w rest h.utf8)
        ∙ characters_spell w (chars w) (encodes-chars w h.utf8) h.characters h.short (chars rest) (next_ends rest ok)
        ∙ before_ok (Named w ∷ []) more (symbols_from 0 (chars rest)) s.reads;
  };
}

plain_ascii : (cs : List ℕ) → list_all is_plain cs ≡ true → IsAscii cs
plain_ascii [] h = IsAscii-nil
plain_ascii (c ∷ cs) h =
    let p = and_parts (is_plain c) (list_all is_plain cs) h in
    let low : nat_lt c 128 ≡ true = (and_parts (nat_lt c 128) (is_ascii_alphanumeric c || (c == 95)) p.0).0 in
    let below : c < 128 = grind (arith, nat_tests) in
    IsAscii-cons c cs below (plain_ascii cs p.1)

plain_goes_on : (cs : List ℕ) → list_all is_plain cs ≡ true → list_all is_xid_continue cs ≡ true
plain_goes_on [] h = refl
plain_goes_on (c ∷ cs) h =
    let p = and_parts (is_plain c) (list_all is_plain cs) h in
    let q = and_parts (nat_lt c 128) (is_ascii_alphanumeric c || (c == 95)) p.0 in
    let low : nat_lt c 128 ≡ true = q.0 in
    let below : c < 128 = grind (arith, nat_tests) in
    and_from (is_xid_continue c) (list_all is_xid_continue cs) (is_xid_continue-ascii c below ∙ q.1) (plain_goes_on cs p.1)

-- a word of letters
pub plain_is_word : (w : List ℕ) → is_plain_word w ≡ true → IsWord w
plain_is_word [] h = absurd (cc)
plain_is_word (c ∷ cs) h =
    let p = and_parts (is_plain c) (is_ascii_alphabetic c && (list_all is_plain cs && nat_le (length cs) 63)) h in
    let q = and_parts (is_ascii_alphabetic c) (list_all is_plain cs && nat_le (length cs) 63) p.1 in
    let r = and_parts (list_all is_plain cs) (nat_le (length cs) 63) q.1 in
    let all : list_all is_plain (c ∷ cs) ≡ true = and_from (is_plain c) (list_all is_plain cs) p.0 r.0 in
    let low : nat_lt c 128 ≡ true = (and_parts (nat_lt c 128) (is_ascii_alphanumeric c || (c == 95)) p.0).0 in
    let below : c < 128 = grind (arith, nat_tests) in
    let few : length cs ≤ 63 = leb-true (length cs) 63 r.1 in
    let starts : lex.starts_word c ≡ true = ap (λ b. b || (c == 95)) (is_xid_start-ascii c below) ∙ ap (λ b. b || (c == 95)) q.0 in
    let ascii : IsAscii (c ∷ cs) = plain_ascii (c ∷ cs) all in
    record {
      utf8 = IsUtf8-from_ascii (c ∷ cs) ascii;
      characters = ap are_word (chars-IsAscii (c ∷ cs) ascii) ∙ and_from (lex.starts_word c) (list_all is_xid_continue cs) starts (plain_goes_on cs r.0);
      short = omega (arith, few);
    }

-- a word of letters with a blank after it
pub key_writes : (w : List ℕ) → is_plain_word w ≡ true → Writes Anything (w ++ 32 ∷ []) (Named w ∷ [])
key_writes w h = both (word_writes w (plain_is_word w h)) blank_writes (λ rest ok. refl)

-- Where a text's characters spell symbols it has tokens.

pub record HasTokens (r : Result (List Token) (LexError × ℕ)) : Type 0 where
  pub tokens : List Token
  pub are : r ≡ Ok tokens

tokens_on : (c at : ℕ) (cs : List ℕ) (r : Result Piece LexError) →
    ((skip place : ℕ) (ss : List Symbol) → symbols_from skip cs ≡ Ok ss → HasTokens (tokens_from skip place cs)) → (ss : List Symbol) →
    (r >>= λ p. symbols_from (length p.1) cs >>= λ more. Ok (symbol_in (c ∷ p.1) p.0 ++ more)) ≡ Ok ss →
    HasTokens (placed at r >>= λ p. tokens_from (length p.1) (at + len_utf8 c) cs >>= λ ts. Ok (token_of p.0 at (at + length (encode_utf8_all (c ∷ p.1))) ++ ts))
tokens_on c at cs (Err e) ih ss eq = absurd (cc eq)
tokens_on c at cs (Ok p) ih ss eq = by (symbols_from (length p.1) cs) refl eq where
  by : (r : Result (List Symbol) LexError) → symbols_from (length p.1) cs ≡ r → (r >>= λ more. Ok (symbol_in (c ∷ p.1) p.0 ++ more)) ≡ Ok ss →
      HasTokens (tokens_from (length p.1) (at + len_utf8 c) cs >>= λ ts. Ok (token_of p.0 at (at + length (encode_utf8_all (c ∷ p.1))) ++ ts))
  by (Err e) f g = absurd (cc g)
  by (Ok more) f g =
      let later = ih (length p.1) (at + len_utf8 c) more f in
      record {
        tokens = token_of p.0 at (at + length (encode_utf8_all (c ∷ p.1))) ++ later.tokens;
        are = ap (λ r. r >>= λ ts. Ok (token_of p.0 at (at + length (encode_utf8_all (c ∷ p.1))) ++ ts)) later.are;
      }

has_tokens : (skip at : ℕ) (cs : List ℕ) (ss : List Symbol) → symbols_from skip cs ≡ Ok ss → HasTokens (tokens_from skip at cs)
has_tokens skip at [] ss e = record { tokens = []; are = refl }
has_tokens (suc skip) at (c ∷ cs) ss e = has_tokens skip (at + len_utf8 c) cs ss e
has_tokens zero at (c ∷ cs) ss e = tokens_on c at cs (piece c cs) (λ skip place more f. has_tokens skip place cs more f) ss e

pub text_tokens : (text : List ℕ) (ss : List Symbol) → Spelled text ss → HasTokens (tokens_of text)
unfolding tokens_of
text_tokens text ss s =
    let found = has_tokens 0 0 (chars text) ss s.reads in
    record { tokens = found.tokens; are = rw (is_utf8-from_IsUtf8 text s.utf8) found.are }

pub text_symbols : (text : List ℕ) (ss : List Symbol) (tokens : List Token) → Spelled text ss → tokens_of text ≡ Ok tokens → symbols text tokens ≡ ss
text_symbols text ss tokens s e = let same : Ok ss ≡ Ok (symbols text tokens) = sym s.reads ∙ tokens_are_symbols text tokens e in cc

pub written_spells : (text : List ℕ) (ss : List Symbol) → Writes Anything text ss → Spelled text ss
written_spells text ss w =
    let end : Spelled [] [] = record { utf8 = IsUtf8-nil; reads = ap (symbols_from 0) chars-nil } in
    let whole = w.on [] [] tt end in
    let P : List ℕ → Type 0 = λ t. Spelled t ss in
    let Q : List Symbol → Type 0 = λ more. Spelled (text ++ []) more in
    subst P (append-nil text) (subst Q (append-nil ss) whole)
