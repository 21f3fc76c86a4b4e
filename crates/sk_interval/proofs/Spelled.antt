-- Just the spellings of intervals are taken.
use Rattle.std.proofs.Common.{◌≡◌, ℕ, ◌≤ℤ◌, ℤ, Bool, true, false, cond, List, [], ◌∷◌, ◌++◌, length, drop, Option, Some, None, Result, Ok, Err, refl, sym, ap, ◌∙◌}
use Rattle.std.specs.Prelude.{codes, ok_or, int_le}
use Rattle.std.specs.Str.{bytes_eq}
use Rattle.std.proofs.lemmas.Bool.{false≢true}
use Rattle.std.proofs.lemmas.Slice.Eq.{bytes_eq-Decides}
use Rattle.sk_base.specs.Answer.{◌>>=◌}
use Rattle.sk_lex.specs.Symbols.{Symbol, Named, Plain, is_left_bracket, is_right_bracket, is_dots}
use Rattle.sk_lex.specs.declared.token.TokenKind.TheVariants as kind
use Rattle.sk_interval.specs.declared.bounds.Interval.{Interval}
use Rattle.sk_interval.specs.declared.bounds.Interval.TheVariants.{Empty}
use Rattle.sk_interval.specs.declared.text.Mark.{Mark}
use Rattle.sk_interval.specs.declared.text.Mark.TheVariants.{LeftBracket, Dots, RightBracket}
use Rattle.sk_interval.specs.Ends.{le_from, le_test}
use Rattle.sk_interval.specs.Cuts.{cut}
use Rattle.sk_interval.specs.Texts.{end_of, first_end, end_at, is_mark, begins_with, passes_at, mark_at, bounds_taken, interval_taken}
use Rattle.sk_interval.specs.Spellings.{IsSpelling, Nothing, Between, BeginsWith, SpellingsAreTaken}
use Rattle.sk_interval.specs.Laws.Texts.{at_low, at_dots, at_high, at_order, at_close}

pub left_is : (s : Symbol) → is_left_bracket s ≡ true → s ≡ Plain kind.LeftBracket
left_is (Named word) h = absurd (false≢true h)
left_is (Plain kind.Word) h = absurd (false≢true h)
left_is (Plain (kind.Number value)) h = absurd (false≢true h)
left_is (Plain kind.LeftParen) h = absurd (false≢true h)
left_is (Plain kind.RightParen) h = absurd (false≢true h)
left_is (Plain kind.LeftBrace) h = absurd (false≢true h)
left_is (Plain kind.RightBrace) h = absurd (false≢true h)
left_is (Plain kind.LeftBracket) h = refl
left_is (Plain kind.RightBracket) h = absurd (false≢true h)
left_is (Plain kind.Comma) h = absurd (false≢true h)
left_is (Plain kind.Colon) h = absurd (false≢true h)
left_is (Plain kind.Equals) h = absurd (false≢true h)
left_is (Plain kind.Slash) h = absurd (false≢true h)
left_is (Plain kind.Question) h = absurd (false≢true h)
left_is (Plain kind.Dots) h = absurd (false≢true h)
left_is (Plain kind.Arrow) h = absurd (false≢true h)

pub dots_are : (s : Symbol) → is_dots s ≡ true → s ≡ Plain kind.Dots
dots_are (Named word) h = absurd (false≢true h)
dots_are (Plain kind.Word) h = absurd (false≢true h)
dots_are (Plain (kind.Number value)) h = absurd (false≢true h)
dots_are (Plain kind.LeftParen) h = absurd (false≢true h)
dots_are (Plain kind.RightParen) h = absurd (false≢true h)
dots_are (Plain kind.LeftBrace) h = absurd (false≢true h)
dots_are (Plain kind.RightBrace) h = absurd (false≢true h)
dots_are (Plain kind.LeftBracket) h = absurd (false≢true h)
dots_are (Plain kind.RightBracket) h = absurd (false≢true h)
dots_are (Plain kind.Comma) h = absurd (false≢true h)
dots_are (Plain kind.Colon) h = absurd (false≢true h)
dots_are (Plain kind.Equals) h = absurd (false≢true h)
dots_are (Plain kind.Slash) h = absurd (false≢true h)
dots_are (Plain kind.Question) h = absurd (false≢true h)
dots_are (Plain kind.Dots) h = refl
dots_are (Plain kind.Arrow) h = absurd (false≢true h)

pub right_is : (s : Symbol) → is_right_bracket s ≡ true → s ≡ Plain kind.RightBracket
right_is (Named word) h = absurd (false≢true h)
right_is (Plain kind.Word) h = absurd (false≢true h)
right_is (Plain (kind.Number value)) h = absurd (false≢true h)
right_is (Plain kind.LeftParen) h = absurd (false≢true h)
right_is (Plain kind.RightParen) h = absurd (false≢true h)
right_is (Plain kind.LeftBrace) h = absurd (false≢true h)
right_is (Plain kind.RightBrace) h = absurd (false≢true h)
right_is (Plain kind.LeftBracket) h = absurd (false≢true h)
right_is (Plain kind.RightBracket) h = refl
right_is (Plain kind.Comma) h = absurd (false≢true h)
right_is (Plain kind.Colon) h = absurd (false≢true h)
right_is (Plain kind.Equals) h = absurd (false≢true h)
right_is (Plain kind.Slash) h = absurd (false≢true h)
right_is (Plain kind.Question) h = absurd (false≢true h)
right_is (Plain kind.Dots) h = absurd (false≢true h)
right_is (Plain kind.Arrow) h = absurd (false≢true h)

-- two steps that both answer
record Steps {A B : Type 0} (m : Result A ℕ) (f : A → Result B ℕ) (y : B) : Type 0 where
  pub value : A
  pub first : m ≡ Ok value
  pub second : f value ≡ Ok y

steps : {A B : Type 0} (m : Result A ℕ) (f : A → Result B ℕ) (y : B) → (m >>= f) ≡ Ok y → Steps m f y
steps (Ok x) f y h = record { value = x; first = refl; second = h }
steps (Err e) f y h = absurd (cc)

-- a symbol of which something is known comes first
record Front (symbols : List Symbol) (P : Symbol → Type 0) : Type 0 where
  pub symbol : Symbol
  pub rest : List Symbol
  pub is : symbols ≡ symbol ∷ rest
  pub known : P symbol

pub passed : (t : Bool) (at : ℕ) (u : Unit {0}) → passes_at t at ≡ Ok u → t ≡ true
passed true at u h = refl
passed false at u h = absurd (cc)

pub found : (o : Option ℤ) (at : ℕ) (n : ℤ) → ok_or o at ≡ Ok n → o ≡ Some n
found (Some m) at n h = cc
found None at n h = absurd (cc)

front_mark : (mark : Mark) (at : ℕ) (symbols : List Symbol) (u : Unit {0}) → passes_at (begins_with mark symbols) at ≡ Ok u → Front symbols (λ s. is_mark mark s ≡ true)
front_mark mark at [] u h = absurd (cc)
front_mark mark at (s ∷ symbols) u h = record { symbol = s; rest = symbols; is = refl; known = passed (is_mark mark s) at u h }

front_end : (at : ℕ) (symbols : List Symbol) (n : ℤ) → ok_or (first_end symbols) at ≡ Ok n → Front symbols (λ s. end_of s ≡ Some n)
front_end at [] n h = absurd (cc)
front_end at (s ∷ symbols) n h = record { symbol = s; rest = symbols; is = refl; known = found (end_of s) at n h }

same_front : (s t : Symbol) (ss ts : List Symbol) → s ∷ ss ≡ t ∷ ts → s ≡ t
same_front s t ss ts h = cc

no_front : (t : Symbol) (ts : List Symbol) → ◌≡◌ {A = List Symbol} [] (t ∷ ts) → ⊥
no_front t ts h = cc

same_taken : (p q : Interval × ℕ) → ◌≡◌ {A = Result (Interval × ℕ) ℕ} (Ok p) (Ok q) → p ≡ q
same_taken p q h = cc

same_interval : (a b : Interval) (m n : ℕ) → ◌≡◌ {A = Result (Interval × ℕ) ℕ} (Ok (a, m)) (Ok (b, n)) → b ≡ a
same_interval a b m n h = sym (ap (λ (p : Interval × ℕ). p.0) (same_taken (a, m) (b, n) h))

same_count : (a b : Interval) (m n : ℕ) → ◌≡◌ {A = Result (Interval × ℕ) ℕ} (Ok (a, m)) (Ok (b, n)) → n ≡ m
same_count a b m n h = sym (ap (λ (p : Interval × ℕ). p.1) (same_taken (a, m) (b, n) h))

spelled : (s0 s1 s2 s3 s4 : Symbol) (l h : ℤ) (a : Interval) → s0 ≡ Plain kind.LeftBracket → end_of s1 ≡ Some l → s2 ≡ Plain kind.Dots → end_of s3 ≡ Some h → s4 ≡ Plain kind.RightBracket → l ≤ℤ h → a ≡ cut l h → IsSpelling (s0 ∷ s1 ∷ s2 ∷ s3 ∷ s4 ∷ []) a
spelled s0 s1 s2 s3 s4 l h a e p f q g order is = rw (e, f, g, is) (Between s1 s3 l h p q order)

five : (symbols : List Symbol) (l h : ℤ) (a : Interval) (n : ℕ) → Front (drop 0 symbols) (λ s. is_left_bracket s ≡ true) → Front (drop 1 symbols) (λ s. end_of s ≡ Some l) → Front (drop 2 symbols) (λ s. is_dots s ≡ true) → Front (drop 3 symbols) (λ s. end_of s ≡ Some h) → Front (drop 4 symbols) (λ s. is_right_bracket s ≡ true) → l ≤ℤ h → ◌≡◌ {A = Result (Interval × ℕ) ℕ} (Ok (cut l h, 5)) (Ok (a, n)) → BeginsWith symbols a n
five [] l h a n p q r s t order is = absurd (no_front _ _ p.is)
five (s0 ∷ []) l h a n p q r s t order is = absurd (no_front _ _ q.is)
five (s0 ∷ s1 ∷ []) l h a n p q r s t order is = absurd (no_front _ _ r.is)
five (s0 ∷ s1 ∷ s2 ∷ []) l h a n p q r s t order is = absurd (no_front _ _ s.is)
five (s0 ∷ s1 ∷ s2 ∷ s3 ∷ []) l h a n p q r s t order is = absurd (no_front _ _ t.is)
five (s0 ∷ s1 ∷ s2 ∷ s3 ∷ s4 ∷ rest) l h a n p q r s t order is = record {
  front = s0 ∷ s1 ∷ s2 ∷ s3 ∷ s4 ∷ [];
  rest = rest;
  parts = refl;
  counted = same_count (cut l h) a 5 n is;
  spelling = spelled s0 s1 s2 s3 s4 l h a
      (same_front _ _ _ _ p.is ∙ left_is p.symbol p.known)
      (ap end_of (same_front _ _ _ _ q.is) ∙ q.known)
      (same_front _ _ _ _ r.is ∙ dots_are r.symbol r.known)
      (ap end_of (same_front _ _ _ _ s.is) ∙ s.known)
      (same_front _ _ _ _ t.is ∙ right_is t.symbol t.known)
      order
      (same_interval (cut l h) a 5 n is);
}

bounds_spelled : (symbols : List Symbol) (a : Interval) (n : ℕ) → bounds_taken symbols ≡ Ok (a, n) → BeginsWith symbols a n
bounds_spelled symbols a n e =
    let p = steps (mark_at LeftBracket 0 symbols) (λ _. at_low symbols) (a, n) e in
    let q = steps (end_at 1 symbols) (λ low. at_dots symbols low) (a, n) p.second in
    let r = steps (mark_at Dots 2 symbols) (λ _. at_high symbols q.value) (a, n) q.second in
    let s = steps (end_at 3 symbols) (λ high. at_order symbols q.value high) (a, n) r.second in
    let o = steps (passes_at (int_le q.value s.value) 3) (λ _. at_close symbols q.value s.value) (a, n) s.second in
    let t = steps (mark_at RightBracket 4 symbols) (λ _. Ok (cut q.value s.value, 5)) (a, n) o.second in
    five symbols q.value s.value a n
    (front_mark LeftBracket 0 (drop 0 symbols) p.value p.first)
    (front_end 1 (drop 1 symbols) q.value q.first)
    (front_mark Dots 2 (drop 2 symbols) r.value r.first)
    (front_end 3 (drop 3 symbols) s.value s.first)
    (front_mark RightBracket 4 (drop 4 symbols) t.value t.first)
    (le_from q.value s.value (passed (int_le q.value s.value) 3 o.value o.first))
    t.second

taken_spelled : (symbols : List Symbol) (a : Interval) (n : ℕ) → interval_taken symbols ≡ Ok (a, n) → BeginsWith symbols a n
taken_spelled [] a n e = bounds_spelled [] a n e
taken_spelled (Plain other ∷ symbols) a n e = bounds_spelled (Plain other ∷ symbols) a n e
taken_spelled (Named word ∷ symbols) a n e = by (bytes_eq word (codes "none")) (bytes_eq-Decides word (codes "none")).0 e
  where
    by : (t : Bool) → (t ≡ true → word ≡ codes "none") → cond t (Ok (Empty, 1)) (bounds_taken (Named word ∷ symbols)) ≡ Ok (a, n) → BeginsWith (Named word ∷ symbols) a n
    by true h e = record {
      front = Named word ∷ [];
      rest = symbols;
      parts = refl;
      counted = same_count Empty a 1 n e;
      spelling = rw (h refl, same_interval Empty a 1 n e) Nothing;
    }
    by false h e = bounds_spelled (Named word ∷ symbols) a n e

spelling_taken : (front : List Symbol) (a : Interval) (rest : List Symbol) → IsSpelling front a → interval_taken (front ++ rest) ≡ Ok (a, length front)
spelling_taken _ _ rest Nothing = refl
spelling_taken _ _ rest (Between low high l h p q order) = rw (p, q, le_test l h order) refl

begun_taken : (symbols : List Symbol) (a : Interval) (n : ℕ) → BeginsWith symbols a n → interval_taken symbols ≡ Ok (a, n)
begun_taken symbols a n b = rw (b.parts, b.counted) (spelling_taken b.front a b.rest b.spelling)

pub spellings_are_taken : SpellingsAreTaken
spellings_are_taken symbols a n = (taken_spelled symbols a n, begun_taken symbols a n)
