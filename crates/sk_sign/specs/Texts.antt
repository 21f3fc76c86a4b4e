-- The texts of sets of signs: one word for each.
use Rattle.std.specs.Prelude.{ℕ, Bool, true, false, List, [], ◌∷◌, codes, Option, Some, None, Result, Ok, Err, find}
use Rattle.std.specs.Str.{bytes_eq}
use Rattle.sk_lex.specs.Symbols.{Symbol, Named, Plain}
use Rattle.sk_lattice.specs.DomainTexts.{DomainTexts}
use Rattle.sk_sign.specs.declared.sign.Sign.{Sign}
use Rattle.sk_sign.specs.Sets as set

-- the word of the set of these signs: negative, zero, positive
abbrev pub word_of : Bool → Bool → Bool → List ℕ
word_of false false false = codes "none"
word_of true false false = codes "neg"
word_of false true false = codes "zero"
word_of false false true = codes "pos"
word_of true true false = codes "nonpos"
word_of false true true = codes "nonneg"
word_of true false true = codes "nonzero"
word_of true true true = codes "any"

abbrev pub sign_text : Sign → List ℕ
sign_text s = word_of s.negative s.zero s.positive

-- all sets
abbrev pub all_sets : List Sign
all_sets = set.none ∷ set.neg ∷ set.zero ∷ set.pos ∷ set.nonpos ∷ set.nonneg ∷ set.nonzero ∷ set.any ∷ []

-- the set of this word
abbrev pub set_named : List ℕ → Option Sign
set_named word = find (λ s. bytes_eq (sign_text s) word) all_sets

abbrev pub taken_word : Option Sign → Result (Sign × ℕ) ℕ
taken_word (Some s) = Ok (s, 1)
taken_word None = Err 0

-- a set's word at the front
abbrev pub sign_taken : List Symbol → Result (Sign × ℕ) ℕ
sign_taken (Named word ∷ symbols) = taken_word (set_named word)
sign_taken (Plain kind ∷ symbols) = Err 0
sign_taken [] = Err 0

abbrev pub sign_texts : DomainTexts Sign
sign_texts = record {
  word = codes "sign";
  text = sign_text;
  symbols = λ s. Named (sign_text s) ∷ [];
  taken = sign_taken;
}
