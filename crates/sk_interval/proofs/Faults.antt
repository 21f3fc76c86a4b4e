-- Where no interval is taken, the place is that of the first symbol that fits no spelling.
use Rattle.std.proofs.Common.{◌≡◌, ℕ, ◌≤ℤ◌, ℤ, pos, Bool, true, false, cond, List, [], ◌∷◌, Option, Some, None, Result, Ok, Err, refl, sym, ap, ◌∙◌, ◌⊎◌, inl, inr, arith}
use Rattle.std.specs.Prelude.{codes, ok_or, int_le}
use Rattle.std.specs.Str.{bytes_eq}
use Rattle.std.proofs.lemmas.Bool.{both_ways}
use Rattle.std.proofs.lemmas.Int.{ints}
use Rattle.std.proofs.lemmas.Option.{same_Some}
use Rattle.std.proofs.lemmas.Slice.Eq.{bytes_eq-Decides}
use Rattle.sk_base.specs.Answer.{◌>>=◌}
use Rattle.sk_lex.specs.Symbols.{Symbol, Named, Plain}
use Rattle.sk_lex.specs.declared.token.TokenKind.TheVariants as kind
use Rattle.sk_interval.specs.declared.bounds.Interval.{Interval}
use Rattle.sk_interval.specs.declared.bounds.Interval.TheVariants.{Empty}
use Rattle.sk_interval.specs.declared.text.Mark.TheVariants.{LeftBracket, Dots, RightBracket}
use Rattle.sk_interval.specs.Ends.{le_from, le_not}
use Rattle.sk_interval.specs.Cuts.{cut}
use Rattle.sk_interval.specs.Texts.{end_of, first_end, end_at, is_mark, begins_with, passes_at, mark_at, bounds_taken, begins_with_none}
use Rattle.sk_interval.specs.Spellings.{IsSpelling, Nothing, Between, CanBegin, IsFault, FaultsAreFirst}
use Rattle.sk_interval.specs.Laws.Texts.{at_low, at_dots, at_high, at_order, at_close}
use Rattle.sk_interval.proofs.Spelled.{left_is, dots_are, passed, found}

-- the first step stops, or the second does
record Later {A B : Type 0} (m : Result A ℕ) (f : A → Result B ℕ) (e : ℕ) : Type 0 where
  pub value : A
  pub first : m ≡ Ok value
  pub second : f value ≡ Err e

stopped : {A B : Type 0} (m : Result A ℕ) (f : A → Result B ℕ) (e : ℕ) → (m >>= f) ≡ Err e → (m ≡ Err e) ⊎ Later m f e
stopped (Ok x) f e h = inr (record { value = x; first = refl; second = h })
stopped (Err k) f e h = inl (same_err k e h)
  where
    same_err : {A B : Type 0} (k e : ℕ) → ◌≡◌ {A = Result B ℕ} (Err k) (Err e) → ◌≡◌ {A = Result A ℕ} (Err k) (Err e)
    same_err k e h = cc

mark_missing : (t : Bool) (at e : ℕ) → passes_at t at ≡ Err e → (t ≡ false) × (e ≡ at)
mark_missing true at e h = absurd (cc)
mark_missing false at e h = (refl, sym (same at e h))
  where
    same : (at e : ℕ) → ◌≡◌ {A = Result (Unit {0}) ℕ} (Err at) (Err e) → at ≡ e
    same at e h = cc

end_missing : (o : Option ℤ) (at e : ℕ) → ok_or o at ≡ Err e → (o ≡ None) × (e ≡ at)
end_missing (Some n) at e h = absurd (cc)
end_missing None at e h = (refl, sym (same at e h))
  where
    same : (at e : ℕ) → ◌≡◌ {A = Result ℤ ℕ} (Err at) (Err e) → at ≡ e
    same at e h = cc

-- a spelling with brackets
record InBrackets (front : List Symbol) : Type 0 where
  pub low : Symbol
  pub high : Symbol
  pub least : ℤ
  pub greatest : ℤ
  pub is : front ≡ Plain kind.LeftBracket ∷ low ∷ Plain kind.Dots ∷ high ∷ Plain kind.RightBracket ∷ []
  pub low_is : end_of low ≡ Some least
  pub high_is : end_of high ≡ Some greatest
  pub ordered : least ≤ℤ greatest

either : (front : List Symbol) (a : Interval) → IsSpelling front a → (front ≡ Named (codes "none") ∷ []) ⊎ InBrackets front
either _ _ Nothing = inl refl
either _ _ (Between low high l h p q order) = inr (record { low = low; high = high; least = l; greatest = h; is = refl; low_is = p; high_is = q; ordered = order })

none_begins : CanBegin []
none_begins = record { rest = Named (codes "none") ∷ []; interval = Empty; spelling = Nothing }

-- the spelling of an end alone goes on with the same end
end_begins : (low : Symbol) (l : ℤ) → end_of low ≡ Some l → IsSpelling (Plain kind.LeftBracket ∷ low ∷ Plain kind.Dots ∷ low ∷ Plain kind.RightBracket ∷ []) (cut l l)
end_begins low l e = Between low low l l e e (omega (arith, ints))

no_end : (s : Symbol) (l : ℤ) → end_of s ≡ Some l → end_of s ≡ None → ⊥
no_end s l e f = apart (sym e ∙ f)
  where
    apart : ◌≡◌ {A = Option ℤ} (Some l) None → ⊥
    apart h = cc

not_none : (bytes : List ℕ) → bytes_eq bytes (codes "none") ≡ false → bytes ≡ codes "none" → ⊥
not_none bytes h e = both_ways (bytes_eq bytes (codes "none")) h ((bytes_eq-Decides bytes (codes "none")).1 e)

-- ---- the first symbol
first_fault : (symbols : List Symbol) → begins_with_none symbols ≡ false → begins_with LeftBracket symbols ≡ false → IsFault symbols 0
first_fault symbols h k = record {
  front = [];
  rest = symbols;
  parts = refl;
  counted = refl;
  begins = none_begins;
  ends = λ next more e b. elim (either (next ∷ b.rest) b.interval b.spelling) [
    | inl f ↦ both_ways (begins_with_none symbols) h (rw (e, same_first next (Named (codes "none")) b.rest [] f) refl)
    | inr f ↦ both_ways (begins_with LeftBracket symbols) k (rw (e, same_first next (Plain kind.LeftBracket) b.rest _ f.is) refl)
  ];
}
  where
    same_first : (s t : Symbol) (ss ts : List Symbol) → s ∷ ss ≡ t ∷ ts → s ≡ t
    same_first s t ss ts h = cc

-- ---- the symbols after `[`
abbrev left : Symbol
left = Plain kind.LeftBracket

abbrev dots : Symbol
dots = Plain kind.Dots

abbrev right : Symbol
right = Plain kind.RightBracket

abbrev nought : Symbol
nought = Plain (kind.Number (pos 0))

-- what a spelling that begins with `[` has next
in_brackets : (ss : List Symbol) (a : Interval) → IsSpelling (left ∷ ss) a → InBrackets (left ∷ ss)
in_brackets ss a b = elim (either (left ∷ ss) a b) [ inl f ↦ absurd (no_word ss f) | inr f ↦ f ]
  where
    no_word : (ss : List Symbol) → left ∷ ss ≡ Named (codes "none") ∷ [] → ⊥
    no_word ss f = cc

at_1 : (s t t0 : Symbol) (ss ts : List Symbol) → left ∷ s ∷ ss ≡ t0 ∷ t ∷ ts → s ≡ t
at_1 s t t0 ss ts h = cc

at_2 : (s1 s t0 t1 t : Symbol) (ss ts : List Symbol) → left ∷ s1 ∷ s ∷ ss ≡ t0 ∷ t1 ∷ t ∷ ts → s ≡ t
at_2 s1 s t0 t1 t ss ts h = cc

at_3 : (s1 s2 s t0 t1 t2 t : Symbol) (ss ts : List Symbol) → left ∷ s1 ∷ s2 ∷ s ∷ ss ≡ t0 ∷ t1 ∷ t2 ∷ t ∷ ts → s ≡ t
at_3 s1 s2 s t0 t1 t2 t ss ts h = cc

at_4 : (s1 s2 s3 s t0 t1 t2 t3 t : Symbol) (ss ts : List Symbol) → left ∷ s1 ∷ s2 ∷ s3 ∷ s ∷ ss ≡ t0 ∷ t1 ∷ t2 ∷ t3 ∷ t ∷ ts → s ≡ t
at_4 s1 s2 s3 s t0 t1 t2 t3 t ss ts h = cc

second_fault : (rest : List Symbol) → first_end rest ≡ None → IsFault (left ∷ rest) 1
second_fault rest h = record {
  front = left ∷ [];
  rest = rest;
  parts = refl;
  counted = refl;
  begins = record { rest = nought ∷ dots ∷ nought ∷ right ∷ []; interval = cut (pos 0) (pos 0); spelling = end_begins nought (pos 0) refl };
  ends = λ next more e b.
      let f = in_brackets (next ∷ b.rest) b.interval b.spelling in
      no_end next f.least (ap end_of (at_1 next f.low _ b.rest _ f.is) ∙ f.low_is) (rw e at h);
}

third_fault : (low : Symbol) (l : ℤ) (rest : List Symbol) → end_of low ≡ Some l → begins_with Dots rest ≡ false → IsFault (left ∷ low ∷ rest) 2
third_fault low l rest p h = record {
  front = left ∷ low ∷ [];
  rest = rest;
  parts = refl;
  counted = refl;
  begins = record { rest = dots ∷ low ∷ right ∷ []; interval = cut l l; spelling = end_begins low l p };
  ends = λ next more e b.
      let f = in_brackets (low ∷ next ∷ b.rest) b.interval b.spelling in
      both_ways (begins_with Dots rest) h (rw (e, at_2 low next _ f.low dots b.rest _ f.is) refl);
}

fourth_fault : (low : Symbol) (l : ℤ) (rest : List Symbol) → end_of low ≡ Some l → ((next : Symbol) (more : List Symbol) (h : ℤ) → rest ≡ next ∷ more → end_of next ≡ Some h → l ≤ℤ h → ⊥) → IsFault (left ∷ low ∷ dots ∷ rest) 3
fourth_fault low l rest p never = record {
  front = left ∷ low ∷ dots ∷ [];
  rest = rest;
  parts = refl;
  counted = refl;
  begins = record { rest = low ∷ right ∷ []; interval = cut l l; spelling = end_begins low l p };
  ends = λ next more e b.
      let f = in_brackets (low ∷ dots ∷ next ∷ b.rest) b.interval b.spelling in
      let same = same_Some l f.least (sym p ∙ (ap end_of (at_1 low f.low _ _ _ f.is) ∙ f.low_is)) in
      never next more f.greatest e (ap end_of (at_3 low dots next _ f.low dots f.high b.rest _ f.is) ∙ f.high_is) (rw same f.ordered);
}

fifth_fault : (low high : Symbol) (l h : ℤ) (rest : List Symbol) → end_of low ≡ Some l → end_of high ≡ Some h → l ≤ℤ h → begins_with RightBracket rest ≡ false → IsFault (left ∷ low ∷ dots ∷ high ∷ rest) 4
fifth_fault low high l h rest p q order k = record {
  front = left ∷ low ∷ dots ∷ high ∷ [];
  rest = rest;
  parts = refl;
  counted = refl;
  begins = record { rest = right ∷ []; interval = cut l h; spelling = Between low high l h p q order };
  ends = λ next more e b.
      let f = in_brackets (low ∷ dots ∷ high ∷ next ∷ b.rest) b.interval b.spelling in
      both_ways (begins_with RightBracket rest) k (rw (e, at_4 low dots high next _ f.low dots f.high right b.rest _ f.is) refl);
}

-- ---- where the reading stops
at_fifth : (low high : Symbol) (l h : ℤ) (rest : List Symbol) (n : ℕ) → end_of low ≡ Some l → end_of high ≡ Some h → l ≤ℤ h → at_close (left ∷ low ∷ dots ∷ high ∷ rest) l h ≡ Err n → IsFault (left ∷ low ∷ dots ∷ high ∷ rest) n
at_fifth low high l h rest n p q order e = elim (stopped (mark_at RightBracket 4 (left ∷ low ∷ dots ∷ high ∷ rest)) (λ _. Ok (cut l h, 5)) n e) [
  | inl r ↦ let t = mark_missing (begins_with RightBracket rest) 4 n r in rw t.1 (fifth_fault low high l h rest p q order t.0)
  | inr r ↦ absurd (no_err l h n r.second)
]
  where
    no_err : (l h : ℤ) (n : ℕ) → ◌≡◌ {A = Result (Interval × ℕ) ℕ} (Ok (cut l h, 5)) (Err n) → ⊥
    no_err l h n e = cc

at_fourth_order : (low : Symbol) (l : ℤ) (rest : List Symbol) (n : ℕ) (h : ℤ) → end_of low ≡ Some l → ◌≡◌ {A = Result ℤ ℕ} (ok_or (first_end rest) 3) (Ok h) → at_order (left ∷ low ∷ dots ∷ rest) l h ≡ Err n → IsFault (left ∷ low ∷ dots ∷ rest) n
at_fourth_order low l [] n h p f e = absurd (cc)
at_fourth_order low l (high ∷ rest) n h p f e =
    let q = found (end_of high) 3 h f in
    elim (stopped (passes_at (int_le l h) 3) (λ _. at_close (left ∷ low ∷ dots ∷ high ∷ rest) l h) n e) [
      | inl r ↦
          let t = mark_missing (int_le l h) 3 n r in
          let less = le_not l h t.0 in
          rw t.1 (fourth_fault low l (high ∷ rest) p (λ next more k g s o.
          let same = same_Some h k (sym q ∙ (ap end_of (same_head high next rest more g) ∙ s)) in
          omega (arith, ints)))
      | inr r ↦ at_fifth low high l h rest n p q (le_from l h (passed (int_le l h) 3 r.value r.first)) r.second
    ]
  where
    same_head : (s t : Symbol) (ss ts : List Symbol) → s ∷ ss ≡ t ∷ ts → s ≡ t
    same_head s t ss ts h = cc

at_fourth : (low : Symbol) (l : ℤ) (rest : List Symbol) (n : ℕ) → end_of low ≡ Some l → at_high (left ∷ low ∷ dots ∷ rest) l ≡ Err n → IsFault (left ∷ low ∷ dots ∷ rest) n
at_fourth low l rest n p e = elim (stopped (end_at 3 (left ∷ low ∷ dots ∷ rest)) (λ high. at_order (left ∷ low ∷ dots ∷ rest) l high) n e) [
  | inl r ↦ let t = end_missing (first_end rest) 3 n r in rw t.1 (fourth_fault low l rest p (λ next more k g s o. no_end next k s (rw g at t.0)))
  | inr r ↦ at_fourth_order low l rest n r.value p r.first r.second
]

at_third : (low : Symbol) (l : ℤ) (rest : List Symbol) (n : ℕ) (u : Unit {0}) → end_of low ≡ Some l → passes_at (begins_with Dots rest) 2 ≡ Ok u → at_high (left ∷ low ∷ rest) l ≡ Err n → IsFault (left ∷ low ∷ rest) n
at_third low l [] n u p f e = absurd (cc)
at_third low l (s ∷ rest) n u p f e =
    let same = dots_are s (passed (is_mark Dots s) 2 u f) in
    rw same (at_fourth low l rest n p e)

at_second : (rest : List Symbol) (n : ℕ) (l : ℤ) → ◌≡◌ {A = Result ℤ ℕ} (ok_or (first_end rest) 1) (Ok l) → at_dots (left ∷ rest) l ≡ Err n → IsFault (left ∷ rest) n
at_second [] n l f e = absurd (cc)
at_second (low ∷ rest) n l f e =
    let p = found (end_of low) 1 l f in
    elim (stopped (mark_at Dots 2 (left ∷ low ∷ rest)) (λ _. at_high (left ∷ low ∷ rest) l) n e) [
      | inl r ↦ let t = mark_missing (begins_with Dots rest) 2 n r in rw t.1 (third_fault low l rest p t.0)
      | inr r ↦ at_third low l rest n r.value p r.first r.second
    ]

at_first : (rest : List Symbol) (n : ℕ) → at_low (left ∷ rest) ≡ Err n → IsFault (left ∷ rest) n
at_first rest n e = elim (stopped (end_at 1 (left ∷ rest)) (λ low. at_dots (left ∷ rest) low) n e) [
  | inl r ↦ let t = end_missing (first_end rest) 1 n r in rw t.1 (second_fault rest t.0)
  | inr r ↦ at_second rest n r.value r.first r.second
]

after_first : (symbols : List Symbol) (n : ℕ) (u : Unit {0}) → passes_at (begins_with LeftBracket symbols) 0 ≡ Ok u → at_low symbols ≡ Err n → IsFault symbols n
after_first [] n u f e = absurd (cc)
after_first (s ∷ rest) n u f e =
    let same = left_is s (passed (is_mark LeftBracket s) 0 u f) in
    rw same (at_first rest n e)

bounds_fault : (symbols : List Symbol) (n : ℕ) → begins_with_none symbols ≡ false → bounds_taken symbols ≡ Err n → IsFault symbols n
bounds_fault symbols n h e = elim (stopped (mark_at LeftBracket 0 symbols) (λ _. at_low symbols) n e) [
  | inl r ↦ let t = mark_missing (begins_with LeftBracket symbols) 0 n r in rw t.1 (first_fault symbols h t.0)
  | inr r ↦ after_first symbols n r.value r.first r.second
]

pub faults_are_first : FaultsAreFirst
faults_are_first symbols count e = by (begins_with_none symbols) refl e
  where
    by : (t : Bool) → begins_with_none symbols ≡ t → cond t (Ok (Empty, 1)) (bounds_taken symbols) ≡ Err count → IsFault symbols count
    by true h e = absurd (no_err e)
      where
        no_err : ◌≡◌ {A = Result (Interval × ℕ) ℕ} (Ok (Empty, 1)) (Err count) → ⊥
        no_err e = cc
    by false h e = bounds_fault symbols count h e
