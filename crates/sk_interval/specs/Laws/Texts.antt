-- The laws of the texts of intervals.
use Rattle.std.proofs.Common.{◌≡◌, ℕ, suc, ◌<◌, ◌≤◌, ◌==◌, ℤ, pos, negsuc, Bool, true, false, cond, ◌||◌, List, [], ◌∷◌, ◌++◌, length, drop, Option, Some, None, Result, Ok, Err, refl, sym, ap, ◌∙◌, arith, inl, inr}
use Rattle.std.specs.Prelude.{nat_lt, MatchResult, codes, ok_or, int_le}
use Rattle.std.specs.List.{list_all}
use Rattle.std.specs.Char.{is_ascii_digit, is_ascii_alphabetic, is_ascii_alphanumeric}
use Rattle.std.specs.Fmt.{decimal, signed_decimal}
use Rattle.std.specs.Ordering.{int_eq}
use Rattle.std.specs.Str.{bytes_eq}
use Rattle.std.specs.Str.Parse.{AllDigits}
use Rattle.std.proofs.lemmas.Bool.{and_from, lt-ltb, cases_lt}
use Rattle.std.proofs.lemmas.Fmt.{decimal_is_IsNumeral}
use Rattle.std.proofs.lemmas.List.{drop_all}
use Rattle.std.proofs.lemmas.List.Folds.{list_all-append}
use Rattle.std.proofs.lemmas.Str.Parse.{digit_from_value}
use Rattle.unicode_ident.proofs.IdentLemmas.{is_xid_start-ascii, is_xid_continue-ascii}
use Rattle.sk_base.specs.Answer.{◌>>=◌}
use Rattle.sk_lex.specs.Symbols.{Symbol, Named, Plain}
use Rattle.sk_lex.specs.Spelling.{Spells, NoDigit, NoWord, Anything}
use Rattle.sk_lex.specs.Tokens as spec
use Rattle.sk_lex.specs.Tokens.{piece, sign, dots}
use Rattle.sk_lex.specs.declared.token.TokenKind.{TokenKind}
use Rattle.sk_lex.specs.declared.token.TokenKind.TheVariants as kind
use Rattle.sk_lex.proofs.Spellings.{piece_then, spells_both, number_spells}
use Rattle.sk_lex.proofs.Words.{plain_word_spells}
use Rattle.sk_lattice.proofs.Endings.{word_ends}
use Rattle.sk_lattice.specs.DomainTexts.{TextLaws, EndsElement, EndsSymbols, closes}
use Rattle.sk_lattice.specs.Thresholds.{LEAST, GREATEST}
use Rattle.sk_value.specs.Numbers.{IsNumber}
use Rattle.sk_interval.specs.declared.bounds.Bounds.{Bounds}
use Rattle.sk_interval.specs.declared.bounds.Interval.{Interval}
use Rattle.sk_interval.specs.declared.bounds.Interval.TheVariants.{Empty, Range}
use Rattle.sk_interval.specs.declared.text.Mark.{Mark}
use Rattle.sk_interval.specs.declared.text.Mark.TheVariants.{LeftBracket, Dots, RightBracket}
use Rattle.sk_interval.specs.Ends.{le_test}
use Rattle.sk_interval.specs.Cuts.{cut}
use Rattle.sk_interval.specs.Intervals.{interval_domain}
use Rattle.sk_interval.specs.Texts.{by_end, end_text, end_symbol, bounds_text, interval_text, interval_symbols, end_of, first_end, end_at, begins_with, passes_at, mark_at, bounds_taken, interval_taken, interval_texts}
use Rattle.sk_interval.specs.Laws.Sets.{cut_bounds}
use Rattle.sk_interval.specs.Laws.Compare.{eq_from}

-- ---- ASCII
abbrev is_ascii : List ℕ → Bool
is_ascii = list_all (λ c. nat_lt c 128)

both_ascii : (s t : List ℕ) → is_ascii s ≡ true → is_ascii t ≡ true → is_ascii (s ++ t) ≡ true
both_ascii s t h k = list_all-append (λ c. nat_lt c 128) s t ∙ and_from (is_ascii s) (is_ascii t) h k

digits_ascii : (ds : List ℕ) → AllDigits 10 ds → is_ascii ds ≡ true
digits_ascii [] h = refl
digits_ascii (d ∷ ds) h = let e = digit_from_value d h.0 in and_from (nat_lt d 128) (is_ascii ds) (lt-ltb d 128 (omega arith)) (digits_ascii ds h.1)

number_ascii : (n : ℤ) → IsNumber n → is_ascii (signed_decimal n) ≡ true
number_ascii (pos n) fits = let d = decimal_is_IsNumeral n (omega (arith, fits.sfits)) in digits_ascii (decimal n) d.0.1
number_ascii (negsuc n) fits = let d = decimal_is_IsNumeral (suc n) (omega (arith, fits.sfits)) in digits_ascii (decimal (suc n)) d.0.1

-- what holds of the word of each end of the range and of a number holds of an end
by_each : {X : Type 0} (P : X → Type 0) (n : ℤ) (least greatest other : X) → (n ≡ LEAST → P least) → (n ≡ GREATEST → P greatest) → P other → P (by_end n least greatest other)
by_each {X} P n least greatest other p q r = at (int_eq n LEAST) (int_eq n GREATEST) (eq_from n LEAST) (eq_from n GREATEST)
  where
    at : (t u : Bool) → (t ≡ true → n ≡ LEAST) → (u ≡ true → n ≡ GREATEST) → P (cond t least (cond u greatest other))
    at true u h k = p (h refl)
    at false true h k = q (k refl)
    at false false h k = r

end_ascii : (n : ℤ) → IsNumber n → is_ascii (end_text n) ≡ true
end_ascii n fits = by_each (λ t. is_ascii t ≡ true) n (codes "min") (codes "max") (signed_decimal n) (λ _. refl) (λ _. refl) (number_ascii n fits)

ascii : (a : Interval) → is_ascii (interval_text a) ≡ true
ascii Empty = refl
ascii (Range a) =
    let one = both_ascii (codes "[") (end_text a.low) refl (end_ascii a.low a.low_fits) in
    let two = both_ascii (codes "[" ++ end_text a.low) (codes "..") one refl in
    let three = both_ascii (codes "[" ++ end_text a.low ++ codes "..") (end_text a.high) two (end_ascii a.high a.high_fits) in
    both_ascii (codes "[" ++ end_text a.low ++ codes ".." ++ end_text a.high) (codes "]") three refl

-- ---- what the texts read as
mark_piece : (c : ℕ) (cs : List ℕ) (kind : TokenKind) → c < 128 → spec.is_blank c ≡ false → is_ascii_digit c ≡ false → (is_ascii_alphabetic c || (c == 95)) ≡ false → (c == 35) ≡ false → (c == 45) ≡ false → (c == 46) ≡ false → spec.mark c ≡ Some kind → piece c cs ≡ Ok (Some kind, [])
unfolding piece sign
mark_piece c cs kind low blank digit word comment minus dot m = rw (is_xid_start-ascii c low, blank, digit, word, comment, minus, dot, m)

dots_piece : (cs : List ℕ) → piece 46 (46 ∷ cs) ≡ Ok (Some kind.Dots, 46 ∷ [])
unfolding piece sign dots
dots_piece cs = rw (is_xid_start-ascii 46 (omega arith))

left_spells : Spells Anything (codes "[") (Plain kind.LeftBracket ∷ [])
left_spells = λ rest ok. piece_then 91 [] rest (Some kind.LeftBracket) (mark_piece 91 rest kind.LeftBracket (omega arith) refl refl refl refl refl refl refl)

right_spells : Spells Anything (codes "]") (Plain kind.RightBracket ∷ [])
right_spells = λ rest ok. piece_then 93 [] rest (Some kind.RightBracket) (mark_piece 93 rest kind.RightBracket (omega arith) refl refl refl refl refl refl refl)

dots_spell : Spells Anything (codes "..") (Plain kind.Dots ∷ [])
dots_spell = λ rest ok. piece_then 46 (46 ∷ []) rest (Some kind.Dots) (dots_piece rest)

-- no number and no word goes on
abbrev EndsEnd : List ℕ → Type 0
EndsEnd rest = NoDigit rest × NoWord rest

mark_ends : (c : ℕ) (rest : List ℕ) → c < 128 → is_ascii_digit c ≡ false → (is_ascii_alphanumeric c || (c == 95)) ≡ false → EndsEnd (c ∷ rest)
mark_ends c rest low digit word = (digit, is_xid_continue-ascii c low ∙ word)

end_spells : (n : ℤ) → IsNumber n → Spells EndsEnd (end_text n) (end_symbol n ∷ [])
end_spells n fits = at (int_eq n LEAST) (int_eq n GREATEST)
  where
    at : (t u : Bool) → Spells EndsEnd (cond t (codes "min") (cond u (codes "max") (signed_decimal n))) (cond t (Named (codes "min")) (cond u (Named (codes "max")) (Plain (kind.Number n))) ∷ [])
    at true u = λ rest ok. plain_word_spells (codes "min") refl rest ok.1
    at false true = λ rest ok. plain_word_spells (codes "max") refl rest ok.1
    at false false = λ rest ok. number_spells n fits rest ok.0

bounds_spell : (a : Bounds) → Spells EndsElement (bounds_text a) (interval_symbols (Range a))
bounds_spell a =
    let left = Plain kind.LeftBracket ∷ [] in
    let low = end_symbol a.low ∷ [] in
    let dots = Plain kind.Dots ∷ [] in
    let high = end_symbol a.high ∷ [] in
    let right = Plain kind.RightBracket ∷ [] in
    let one = spells_both Anything EndsEnd (codes "[") (end_text a.low) left low left_spells (end_spells a.low a.low_fits) (λ rest ok. tt) in
    let two = spells_both EndsEnd Anything (codes "[" ++ end_text a.low) (codes "..") (left ++ low) dots one dots_spell (λ rest ok. mark_ends 46 (46 ∷ rest) (omega arith) refl refl) in
    let three = spells_both Anything EndsEnd (codes "[" ++ end_text a.low ++ codes "..") (end_text a.high) (left ++ low ++ dots) high two (end_spells a.high a.high_fits) (λ rest ok. tt) in
    let four = spells_both EndsEnd Anything (codes "[" ++ end_text a.low ++ codes ".." ++ end_text a.high) (codes "]") (left ++ low ++ dots ++ high) right three right_spells (λ rest ok. mark_ends 93 rest (omega arith) refl refl) in
    λ rest ok. four rest tt

spells : (a : Interval) → Spells EndsElement (interval_text a) (interval_symbols a)
spells Empty = λ rest ok. plain_word_spells (codes "none") refl rest (word_ends rest ok)
spells (Range a) = bounds_spell a

-- ---- reading back
end_back : (n : ℤ) → end_of (end_symbol n) ≡ Some n
end_back n = at (int_eq n LEAST) (int_eq n GREATEST) (eq_from n LEAST) (eq_from n GREATEST)
  where
    at : (t u : Bool) → (t ≡ true → n ≡ LEAST) → (u ≡ true → n ≡ GREATEST) → end_of (cond t (Named (codes "min")) (cond u (Named (codes "max")) (Plain (kind.Number n)))) ≡ Some n
    at true u h k = ap (λ (z : ℤ). Some z) (sym (h refl))
    at false true h k = ap (λ (z : ℤ). Some z) (sym (k refl))
    at false false h k = refl

range_reads : (a : Bounds) (rest : List Symbol) → bounds_taken (interval_symbols (Range a) ++ rest) ≡ Ok (Range a, 5)
range_reads a rest = rw (end_back a.low, end_back a.high, le_test a.low a.high a.ordered, cut_bounds a) refl

reads : (a : Interval) (rest : List Symbol) → EndsSymbols rest → interval_taken (interval_symbols a ++ rest) ≡ Ok (a, length (interval_symbols a))
reads Empty rest ok = refl
reads (Range a) rest ok = range_reads a rest

-- ---- no more is taken than there is
left_over : (at : ℕ) (symbols : List Symbol) → (drop at symbols ≡ [] → ⊥) → at < length symbols
left_over at symbols h = elim (cases_lt at (length symbols)) [ inl lt ↦ lt | inr le ↦ absurd (h (drop_all at symbols le)) ]

mark_left : (mark : Mark) (at : ℕ) (symbols : List Symbol) (u : Unit {0}) → mark_at mark at symbols ≡ Ok u → at < length symbols
mark_left mark at symbols u h = left_over at symbols (λ e. none_there (rw e at h))
  where
    none_there : ◌≡◌ {A = Result (Unit {0}) ℕ} (Err at) (Ok u) → ⊥
    none_there h = cc

end_left : (at : ℕ) (symbols : List Symbol) (n : ℤ) → end_at at symbols ≡ Ok n → at < length symbols
end_left at symbols n h = left_over at symbols (λ e. none_there (rw e at h))
  where
    none_there : ◌≡◌ {A = Result ℤ ℕ} (Err at) (Ok n) → ⊥
    none_there h = cc

test_place : (t : Bool) (at e : ℕ) → passes_at t at ≡ Err e → at ≡ e
test_place true at e h = absurd (cc)
test_place false at e h = cc

end_place : (o : Option ℤ) (at e : ℕ) → ok_or o at ≡ Err e → at ≡ e
end_place (Some n) at e h = absurd (cc)
end_place None at e h = cc

abbrev IsWithin : List Symbol → Result (Interval × ℕ) ℕ → Type 0
IsWithin symbols taken = MatchResult taken (λ p. (0 < p.1) × (p.1 ≤ length symbols)) (λ count. count ≤ length symbols)

within_step : {A : Type 0} (m : Result A ℕ) (f : A → Result (Interval × ℕ) ℕ) (symbols : List Symbol) → ((e : ℕ) → m ≡ Err e → e ≤ length symbols) → ((x : A) → m ≡ Ok x → IsWithin symbols (f x)) → IsWithin symbols (m >>= f)
within_step (Ok x) f symbols h k = k x refl
within_step (Err e) f symbols h k = h e refl

module _ (symbols : List Symbol) where
  -- what comes after the order of the ends was seen, after `..`, and after `[`
  abbrev pub at_close : ℤ → ℤ → Result (Interval × ℕ) ℕ
  at_close low high = mark_at RightBracket 4 symbols >>= λ _. Ok (cut low high, 5)

  abbrev pub at_order : ℤ → ℤ → Result (Interval × ℕ) ℕ
  at_order low high = passes_at (int_le low high) 3 >>= λ _. at_close low high

  abbrev pub at_high : ℤ → Result (Interval × ℕ) ℕ
  at_high low = end_at 3 symbols >>= λ high. at_order low high

  abbrev pub at_dots : ℤ → Result (Interval × ℕ) ℕ
  at_dots low = mark_at Dots 2 symbols >>= λ _. at_high low

  abbrev pub at_low : Result (Interval × ℕ) ℕ
  at_low = end_at 1 symbols >>= λ low. at_dots low

  mark_within : (mark : Mark) (at : ℕ) (f : Unit {0} → Result (Interval × ℕ) ℕ) → at ≤ length symbols → (at < length symbols → IsWithin symbols (f tt)) → IsWithin symbols (mark_at mark at symbols >>= f)
  mark_within mark at f h k =
      within_step (mark_at mark at symbols) f symbols
      (λ e p. let s = test_place (begins_with mark (drop at symbols)) at e p in omega arith)
      (λ u p. k (mark_left mark at symbols u p))

  end_within : (at : ℕ) (f : ℤ → Result (Interval × ℕ) ℕ) → at ≤ length symbols → ((n : ℤ) → at < length symbols → IsWithin symbols (f n)) → IsWithin symbols (end_at at symbols >>= f)
  end_within at f h k =
      within_step (end_at at symbols) f symbols
      (λ e p. let s = end_place (first_end (drop at symbols)) at e p in omega arith)
      (λ n p. k n (end_left at symbols n p))

  order_within : (low high : ℤ) → 3 < length symbols → IsWithin symbols (at_order low high)
  order_within low high h =
      within_step (passes_at (int_le low high) 3) (λ _. at_close low high) symbols
      (λ e p. let s = test_place (int_le low high) 3 e p in omega arith)
      (λ u p. mark_within RightBracket 4 (λ _. Ok (cut low high, 5)) (omega arith) (λ k. (omega arith, omega arith)))

  bounds_within : IsWithin symbols (bounds_taken symbols)
  bounds_within =
      mark_within LeftBracket 0 (λ _. at_low) (omega arith) (λ h.
      end_within 1 (λ low. at_dots low) (omega arith) (λ low k.
      mark_within Dots 2 (λ _. at_high low) (omega arith) (λ l.
      end_within 3 (λ high. at_order low high) (omega arith) (λ high m. order_within low high m))))

within : (symbols : List Symbol) → IsWithin symbols (interval_taken symbols)
within [] = omega arith
within (Plain kind ∷ symbols) = bounds_within (Plain kind ∷ symbols)
within (Named word ∷ symbols) = word_within (bytes_eq word (codes "none"))
  where
    word_within : (t : Bool) → IsWithin (Named word ∷ symbols) (cond t (Ok (Empty, 1)) (bounds_taken (Named word ∷ symbols)))
    word_within true = (omega arith, omega arith)
    word_within false = bounds_within (Named word ∷ symbols)

begins : (a : Interval) → closes (interval_symbols a) ≡ false
begins Empty = refl
begins (Range a) = refl

pub interval_text_laws : TextLaws interval_domain interval_texts
interval_text_laws = record {
  word_is = refl;
  empty_text = refl;
  ascii = ascii;
  spells = spells;
  begins = begins;
  reads = reads;
  within = within;
}
