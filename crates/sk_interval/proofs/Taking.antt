-- What is read at the front of the symbols from a place on, and what stands at places of all symbols.
use Rattle.std.proofs.Common.{◌≡◌, ℕ, ◌+◌, ℤ, Bool, true, false, List, drop, Option, Some, None, Result, Ok, Err, refl, sym, ◌∙◌, arith}
use Rattle.std.specs.Prelude.{ok_or, int_le}
use Rattle.std.proofs.lemmas.List.{drop-drop}
use Rattle.sk_lex.specs.Symbols.{Symbol}
use Rattle.sk_lattice.specs.DomainTexts.{taken_at}
use Rattle.sk_interval.specs.declared.bounds.Interval.{Interval}
use Rattle.sk_interval.specs.declared.text.Mark.{Mark}
use Rattle.sk_interval.specs.declared.text.Mark.TheVariants.{LeftBracket, Dots, RightBracket}
use Rattle.sk_interval.specs.Cuts.{cut}
use Rattle.sk_interval.specs.Texts.{first_end, end_at, begins_with, passes_at, mark_at, bounds_taken}

-- the same reading at a place, counted from another place
abbrev moved : {A : Type 0} → ℕ → Result A ℕ → Result A ℕ
moved from (Ok x) = Ok x
moved from (Err at) = Err (from + at)

passes_moved : (t : Bool) (from k : ℕ) → passes_at t (from + k) ≡ moved from (passes_at t k)
passes_moved true from k = refl
passes_moved false from k = refl

or_moved : (o : Option ℤ) (from k : ℕ) → ok_or o (from + k) ≡ moved from (ok_or o k)
or_moved (Some x) from k = refl
or_moved None from k = refl

mark_moved : (mark : Mark) (from k : ℕ) (ss : List Symbol) → mark_at mark (from + k) ss ≡ moved from (mark_at mark k (drop from ss))
mark_moved mark from k ss = rw (drop-drop k from ss) (passes_moved (begins_with mark (drop (from + k) ss)) from k)

end_moved : (from k : ℕ) (ss : List Symbol) → end_at (from + k) ss ≡ moved from (end_at k (drop from ss))
end_moved from k ss = rw (drop-drop k from ss) (or_moved (first_end (drop (from + k) ss)) from k)

there : {A : Type 0} (m : Result A ℕ) (from : ℕ) (x : A) → moved from m ≡ Ok x → m ≡ Ok x
there (Ok y) from x h = h
there (Err at) from x h = absurd (cc)

same_err : (a b : ℕ) → a ≡ b → ◌≡◌ {A = Result (Interval × ℕ) ℕ} (Err a) (Err b)
same_err a b h = cc

-- of the five tokens the first were read, and the next one stops
module _ (from : ℕ) (ss : List Symbol) where
  mark_there : (mark : Mark) (at k : ℕ) (u : Unit {0}) → at ≡ from + k → mark_at mark at ss ≡ Ok u → mark_at mark k (drop from ss) ≡ Ok tt
  mark_there mark at k u e h = there (mark_at mark k (drop from ss)) from tt (sym (mark_moved mark from k ss) ∙ (rw e at h))

  end_there : (at k : ℕ) (n : ℤ) → at ≡ from + k → end_at at ss ≡ Ok n → end_at k (drop from ss) ≡ Ok n
  end_there at k n e h = there (end_at k (drop from ss)) from n (sym (end_moved from k ss) ∙ (rw e at h))

  record Stops {A : Type 0} (m : Result A ℕ) (at : ℕ) : Type 0 where
    pub count : ℕ
    pub is : m ≡ Err count
    pub place : from + count ≡ at

  stops : {A : Type 0} (m : Result A ℕ) (at : ℕ) → moved from m ≡ Err at → Stops m at
  stops (Ok y) at h = absurd (cc)
  stops (Err k) at h = record { count = k; is = refl; place = (cc) }

  mark_stops : (mark : Mark) (at k e : ℕ) → at ≡ from + k → mark_at mark at ss ≡ Err e → Stops (mark_at mark k (drop from ss)) e
  mark_stops mark at k e f h = stops (mark_at mark k (drop from ss)) e (sym (mark_moved mark from k ss) ∙ (rw f at h))

  end_stops : (at k e : ℕ) → at ≡ from + k → end_at at ss ≡ Err e → Stops (end_at k (drop from ss)) e
  end_stops at k e f h = stops (end_at k (drop from ss)) e (sym (end_moved from k ss) ∙ (rw f at h))

  pub low_stops : (u : Unit {0}) (e : ℕ) → mark_at LeftBracket from ss ≡ Ok u → end_at (from + 1) ss ≡ Err e → taken_at from (bounds_taken (drop from ss)) ≡ Err e
  low_stops u e p h = let s = end_stops (from + 1) 1 e refl h in rw (mark_there LeftBracket from 0 u (omega arith) p, s.is) (same_err _ _ s.place)

  pub dots_stop : (u : Unit {0}) (low : ℤ) (e : ℕ) → mark_at LeftBracket from ss ≡ Ok u → end_at (from + 1) ss ≡ Ok low → mark_at Dots (from + 2) ss ≡ Err e → taken_at from (bounds_taken (drop from ss)) ≡ Err e
  dots_stop u low e p q h =
      let s = mark_stops Dots (from + 2) 2 e refl h in
      rw (mark_there LeftBracket from 0 u (omega arith) p, end_there (from + 1) 1 low refl q, s.is) (same_err _ _ s.place)

  -- `[`, an end and `..` were read
  pub record Begun (low : ℤ) : Type 0 where
    pub first : mark_at LeftBracket 0 (drop from ss) ≡ Ok tt
    pub second : end_at 1 (drop from ss) ≡ Ok low
    pub third : mark_at Dots 2 (drop from ss) ≡ Ok tt

  pub begun : (u v : Unit {0}) (low : ℤ) → mark_at LeftBracket from ss ≡ Ok u → end_at (from + 1) ss ≡ Ok low → mark_at Dots (from + 2) ss ≡ Ok v → Begun low
  begun u v low p q r = record {
    first = mark_there LeftBracket from 0 u (omega arith) p;
    second = end_there (from + 1) 1 low refl q;
    third = mark_there Dots (from + 2) 2 v refl r;
  }

  pub high_stops : (low : ℤ) (e : ℕ) → Begun low → end_at (from + 3) ss ≡ Err e → taken_at from (bounds_taken (drop from ss)) ≡ Err e
  high_stops low e b h = let s = end_stops (from + 3) 3 e refl h in rw (b.first, b.second, b.third, s.is) (same_err _ _ s.place)

  pub order_stops : (low high : ℤ) → Begun low → end_at (from + 3) ss ≡ Ok high → int_le low high ≡ false → taken_at from (bounds_taken (drop from ss)) ≡ Err (from + 3)
  order_stops low high b h less = rw (b.first, b.second, b.third, end_there (from + 3) 3 high refl h, less) refl

  pub last_stops : (low high : ℤ) (e : ℕ) → Begun low → end_at (from + 3) ss ≡ Ok high → int_le low high ≡ true → mark_at RightBracket (from + 4) ss ≡ Err e → taken_at from (bounds_taken (drop from ss)) ≡ Err e
  last_stops low high e b h order k =
      let s = mark_stops RightBracket (from + 4) 4 e refl k in
      rw (b.first, b.second, b.third, end_there (from + 3) 3 high refl h, order, s.is) (same_err _ _ s.place)

  pub all_read : (u : Unit {0}) (low high : ℤ) → Begun low → end_at (from + 3) ss ≡ Ok high → int_le low high ≡ true → mark_at RightBracket (from + 4) ss ≡ Ok u → taken_at from (bounds_taken (drop from ss)) ≡ Ok (cut low high, from + 5)
  all_read u low high b h order k =
      rw (b.first, b.second, b.third, end_there (from + 3) 3 high refl h, order, mark_there RightBracket (from + 4) 4 u refl k) refl
