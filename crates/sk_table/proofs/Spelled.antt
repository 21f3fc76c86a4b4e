-- Pieces of a table's text that spell symbols.
use Rattle.std.proofs.Common.{◌≡◌, ℕ, ◌<◌, nat_lt, Bool, true, false, List, [], ◌∷◌, ◌++◌, refl, sym, ap, subst, ◌∙◌, arith, Some, Ok, pos, w64, FitsSigned}
use Rattle.std.specs.Prelude.{codes, decimal}
use Rattle.std.specs.List.{list_all}
use Rattle.std.specs.Str.{IsAscii, chars}
use Rattle.std.specs.Char.{is_ascii_digit}
use Rattle.std.proofs.lemmas.Bool.{and_parts, ltb-true}
use Rattle.std.proofs.lemmas.Bool.Decides.{nat_tests}
use Rattle.std.proofs.lemmas.Fmt.{IsAscii-decimal}
use Rattle.std.proofs.lemmas.Int.{fits_signed_from_abs}
use Rattle.std.proofs.lemmas.Str.{chars-append, chars-nil, chars-IsAscii, IsUtf8-append, IsUtf8-from_ascii}
use Rattle.std.proofs.lemmas.Str.Ascii.{IsAscii-cons, IsAscii-nil}
use Rattle.unicode_ident.proofs.IdentLemmas.{is_xid_start-ascii}
use Rattle.sk_lex.specs.Spelling.{symbols_from, before, Spells, Anything, NoDigit}
use Rattle.sk_lex.specs.Symbols.{Symbol, Named, Plain}
use Rattle.sk_lex.specs.Tokens.{piece, sign}
use Rattle.sk_lex.specs.declared.token.TokenKind.TheVariants.{Number, Equals, Slash, Question}
use Rattle.sk_lex.proofs.Spellings.{piece_then, number_spells}
use Rattle.sk_lattice.specs.Domain.{Domain}
use Rattle.sk_lattice.specs.DomainTexts.{DomainTexts, EndsElement, TextLaws}
use Rattle.sk_lattice.specs.Texts.{truths_text, mark_text}
use Rattle.sk_deftext.specs.Written.{IsWord}
use Rattle.sk_deftext.proofs.Spelled.{Writes, EndsWord, ends_word, nothing_writes, word_writes, plain_is_word}

ascii_one : (b : ℕ) → b < 128 → IsAscii (b ∷ [])
ascii_one b h = IsAscii-cons b [] h IsAscii-nil

-- an ASCII byte is its character
byte_chars : (b : ℕ) (rest : List ℕ) → b < 128 → chars (b ∷ rest) ≡ b ∷ chars rest
byte_chars b rest h =
    chars-append (b ∷ []) rest (IsUtf8-from_ascii (b ∷ []) (ascii_one b h)) ∙ ap (λ cs. cs ++ chars rest) (chars-IsAscii (b ∷ []) (ascii_one b h))

-- an ASCII text that spells symbols where the characters that follow pass a test
ascii_writes : {follows goes_on : List ℕ → Type 0} {text : List ℕ} {ss : List Symbol} → IsAscii text → Spells goes_on text ss → ((rest : List ℕ) → follows rest → goes_on (chars rest)) → Writes follows text ss
ascii_writes {text = text} {ss = ss} ascii spells seam = record {
  on = λ rest more ok s.
      let utf8 = IsUtf8-from_ascii text ascii in
      record {
        utf8 = IsUtf8-append text rest utf8 s.utf8;
        reads = ap (symbols_from 0) (chars-append text rest utf8 ∙ ap (λ cs. cs ++ chars rest) (chars-IsAscii text ascii))
            ∙ spells (chars rest) (seam rest ok) ∙ ap (before ss) s.reads;
      };
}

-- Marks.

equals_piece : (cs : List ℕ) → piece 61 cs ≡ Ok (Some Equals, [])
unfolding piece sign
equals_piece cs = rw (is_xid_start-ascii 61 (omega arith))

slash_piece : (cs : List ℕ) → piece 47 cs ≡ Ok (Some Slash, [])
unfolding piece sign
slash_piece cs = rw (is_xid_start-ascii 47 (omega arith))

question_piece : (cs : List ℕ) → piece 63 cs ≡ Ok (Some Question, [])
unfolding piece sign
question_piece cs = rw (is_xid_start-ascii 63 (omega arith))

mark_writes : (b : ℕ) (ss : List Symbol) → b < 128 → Spells Anything (b ∷ []) ss → Writes Anything (b ∷ []) ss
mark_writes b ss h p = ascii_writes {goes_on = Anything} (ascii_one b h) p (λ rest ok. tt)

pub equals_writes : Writes Anything (61 ∷ []) (Plain Equals ∷ [])
equals_writes = mark_writes 61 (Plain Equals ∷ []) (omega arith) (λ rest ok. piece_then 61 [] rest (Some Equals) (equals_piece rest))

pub slash_writes : Writes Anything (47 ∷ []) (Plain Slash ∷ [])
slash_writes = mark_writes 47 (Plain Slash ∷ []) (omega arith) (λ rest ok. piece_then 47 [] rest (Some Slash) (slash_piece rest))

pub question_writes : Writes Anything (63 ∷ []) (Plain Question ∷ [])
question_writes = mark_writes 63 (Plain Question ∷ []) (omega arith) (λ rest ok. piece_then 63 [] rest (Some Question) (question_piece rest))

-- what may be followed by anything may be followed by what passes a test
pub under : {follows : List ℕ → Type 0} {text : List ℕ} {ss : List Symbol} → Writes Anything text ss → Writes follows text ss
under w = record { on = λ rest more ok s. w.on rest more tt s }

-- and what may be followed by some texts by fewer
pub narrowed : {wide follows : List ℕ → Type 0} {text : List ℕ} {ss : List Symbol} → Writes wide text ss → ((rest : List ℕ) → follows rest → wide rest) → Writes follows text ss
narrowed w fewer = record { on = λ rest more ok s. w.on rest more (fewer rest ok) s }

pub same : {follows : List ℕ → Type 0} {s t : List ℕ} {a b : List Symbol} → Writes follows s a → s ≡ t → a ≡ b → Writes follows t b
same {follows} {s} {t} {a} {b} w e f =
    let P : List ℕ → Type 0 = λ text. Writes follows text b in
    let Q : List Symbol → Type 0 = λ ss. Writes follows s ss in
    subst P e (subst Q f w)

-- Elements.

ascii_text : (bs : List ℕ) → list_all (λ c. nat_lt c 128) bs ≡ true → IsAscii bs
ascii_text [] h = IsAscii-nil
ascii_text (b ∷ bs) h = let p = and_parts (nat_lt b 128) (list_all (λ c. nat_lt c 128) bs) h in IsAscii-cons b bs (ltb-true b 128 p.0) (ascii_text bs p.1)

element_ends : (rest : List ℕ) → EndsElement rest → EndsElement (chars rest)
element_ends [] ok = let P : List ℕ → Type 0 = EndsElement in subst P (sym chars-nil) tt
element_ends (b ∷ rest) ok =
    let low : b < 128 = grind (arith, nat_tests) in
    let P : List ℕ → Type 0 = EndsElement in
    subst P (sym (byte_chars b rest low)) ok

pub element_writes : {D : Type 0} {d : Domain D} {t : DomainTexts D} → TextLaws d t → (a : D) → Writes EndsElement (t.text a) (t.symbols a)
element_writes {t = t} laws a = ascii_writes {goes_on = EndsElement} (ascii_text (t.text a) (laws.ascii a)) (laws.spells a) element_ends

-- Numbers.

no_digit : (b : ℕ) → ends_word b ≡ true → (b < 128) × (is_ascii_digit b ≡ false)
no_digit b h = (grind (arith, nat_tests), grind (arith, nat_tests))

number_ends : (rest : List ℕ) → EndsWord rest → NoDigit (chars rest)
number_ends [] ok = let P : List ℕ → Type 0 = NoDigit in subst P (sym chars-nil) tt
number_ends (b ∷ rest) ok =
    let p = no_digit b ok in
    let P : List ℕ → Type 0 = NoDigit in
    subst P (sym (byte_chars b rest p.0)) p.1

pub number_writes : (n : ℕ) → n < 65536 → Writes EndsWord (decimal n) (Plain (Number (pos n)) ∷ [])
number_writes n h =
    let fits : FitsSigned w64 (pos n) = fits_signed_from_abs w64 (pos n) (omega (arith, h)) in
    ascii_writes {goes_on = NoDigit} (IsAscii-decimal n (omega (arith, h))) (number_spells (pos n) fits) number_ends

-- Words.

truths_word : (some other : Bool) → IsWord (truths_text some other)
truths_word false false = plain_is_word (codes "none") refl
truths_word true false = plain_is_word (codes "true") refl
truths_word false true = plain_is_word (codes "false") refl
truths_word true true = plain_is_word (codes "any") refl

pub truths_write : (some other : Bool) → Writes EndsWord (truths_text some other) (Named (truths_text some other) ∷ [])
truths_write some other = word_writes (truths_text some other) (truths_word some other)

pub none_writes : Writes EndsWord (codes "none") (Named (codes "none") ∷ [])
none_writes = truths_write false false

abbrev pub mark_symbols : Bool → List Symbol
mark_symbols true = Plain Question ∷ []
mark_symbols false = []

pub unset_writes : (unset : Bool) → Writes EndsWord (mark_text unset) (mark_symbols unset)
unset_writes true = under question_writes
unset_writes false = under nothing_writes

pub before_mark : (unset : Bool) (rest : List ℕ) → EndsWord rest → EndsWord (mark_text unset ++ rest)
before_mark true rest ok = refl
before_mark false rest ok = ok
