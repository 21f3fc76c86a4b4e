-- Lines and columns of a byte, from those of an earlier one.
use Rattle.std.proofs.Common.{◌≡◌, ℕ, suc, ◌+◌, ◌-◌, ◌<◌, ◌≤◌, ◌==◌, eqb, cond, Bool, true, false, List, [], ◌∷◌, ◌++◌, length, take, slice_range, reverse, ◌⊎◌, inl, inr, refl, sym, ap, ◌∙◌, arith}
use Rattle.std.specs.Prelude.{count_by, position, unwrap_or}
use Rattle.std.specs.List.{position_or_len}
use Rattle.std.proofs.Math.Seq.{take-add}
use Rattle.std.proofs.lemmas.Bool.Decides.{nat_tests}
use Rattle.std.proofs.lemmas.List.{reverse-append, length-reverse, length-take, take_all}
use Rattle.std.proofs.lemmas.List.Folds.{position_or_len_push, prefix_len-append}
use Rattle.std.proofs.lemmas.List.Sums.{sum_by-append, sum_by-cons, count_by-le-length}
use Rattle.sk_base.specs.Place.{place_at}
use Rattle.sk_base.specs.declared.place.Place.{Place}
use Rattle.sk_deftext.specs.Places.{column_after}

abbrev is_line_feed : ℕ → Bool
is_line_feed byte = byte == 10

abbrev lines : List ℕ → ℕ
lines bytes = count_by is_line_feed bytes

-- how many bytes stand behind the last line feed, all where there is none
abbrev since : List ℕ → ℕ
since bytes = position_or_len is_line_feed (reverse bytes)

numbers : (b : Bool) (n len count n' count' : ℕ) → n' ≡ cond (eqb n len) (len + cond b 0 1) n → count' ≡ cond b 1 0 + count →
    ((count ≡ 0) × (n ≡ len)) ⊎ ((0 < count) × (n < len)) → ((count' ≡ 0) × (n' ≡ suc len)) ⊎ ((0 < count') × (n' < suc len))
numbers true n len count n' count' p q (inl h) = inr (omega (arith, q, h.0), grind (arith, nat_tests))
numbers true n len count n' count' p q (inr h) = inr (omega (arith, q, h.0), grind (arith, nat_tests))
numbers false n len count n' count' p q (inl h) = inl (omega (arith, q, h.0), grind (arith, nat_tests))
numbers false n len count n' count' p q (inr h) = inr (omega (arith, q, h.0), grind (arith, nat_tests))

-- without a line feed all bytes stand behind the last one, else fewer
counted : (bytes : List ℕ) → ((lines bytes ≡ 0) × (since bytes ≡ length bytes)) ⊎ ((0 < lines bytes) × (since bytes < length bytes))
counted [] = inl (refl, refl)
counted (x ∷ xs) =
    numbers (is_line_feed x) (since xs) (length xs) (lines xs) (since (x ∷ xs)) (lines (x ∷ xs))
    (ap (position_or_len is_line_feed) (reverse-append (x ∷ []) xs) ∙ position_or_len_push is_line_feed (reverse xs) x
    ∙ ap (λ n. cond (eqb (since xs) n) (n + cond (is_line_feed x) 0 1) (since xs)) (length-reverse xs))
    (sum_by-cons (λ y. cond (is_line_feed y) 1 0) x xs)
    (counted xs)

since_both : (front back : List ℕ) → since (front ++ back) ≡ cond (eqb (since back) (length back)) (length back + since front) (since back)
since_both front back =
    ap (position_or_len is_line_feed) (reverse-append front back) ∙ prefix_len-append _ (reverse back) (reverse front)
    ∙ ap (λ n. cond (eqb (since back) n) (n + since front) (since back)) (length-reverse back)

-- the column of the end of these bytes
column_of : (bytes : List ℕ) (at : ℕ) → at ≡ length bytes → unwrap_or (position is_line_feed (reverse bytes)) at ≡ since bytes
column_of bytes at e = by (counted bytes) where
  by : ((lines bytes ≡ 0) × (since bytes ≡ length bytes)) ⊎ ((0 < lines bytes) × (since bytes < length bytes)) → unwrap_or (position is_line_feed (reverse bytes)) at ≡ since bytes
  by (inl h) = grind (arith, nat_tests, e, h.1, length-reverse bytes)
  by (inr h) = grind (arith, nat_tests, e, h.1, length-reverse bytes)

since_few : (bytes : List ℕ) → since bytes ≤ length bytes
since_few bytes = by (counted bytes) where
  by : ((lines bytes ≡ 0) × (since bytes ≡ length bytes)) ⊎ ((0 < lines bytes) × (since bytes < length bytes)) → since bytes ≤ length bytes
  by (inl h) = omega (arith, h.1)
  by (inr h) = omega (arith, h.1)

cut : (text : List ℕ) (from to : ℕ) → from ≤ to → take to text ≡ take from text ++ slice_range text from to
cut text from to h = ap (λ n. take n text) (omega arith) ∙ take-add from (to - from) text

place_is : (text : List ℕ) (at : ℕ) → at ≤ length text → place_at text at ≡ record { line = lines (take at text) + 1; column = since (take at text) + 1 }
place_is text at h = ap (λ n. record { line = lines (take at text) + 1; column = n + 1 }) (column_of (take at text) at (omega (arith, length-take at text)))

-- a place is not past its byte
pub place_few : (text : List ℕ) (at : ℕ) → at ≤ length text → ((place_at text at).line ≤ at + 1) × ((place_at text at).column ≤ at + 1)
place_few text at h =
    let is = place_is text at h in
    let line : lines (take at text) ≤ length (take at text) = count_by-le-length is_line_feed (take at text) in
    (omega (arith, ap (λ (p : Place). p.line) is, line, length-take at text), omega (arith, ap (λ (p : Place). p.column) is, since_few (take at text), length-take at text))

columns : (first second : List ℕ) → since (first ++ second) + 1 ≡ column_after (since first + 1) (lines second + 1) (since second + 1)
columns first second = by (counted second) where
  by : ((lines second ≡ 0) × (since second ≡ length second)) ⊎ ((0 < lines second) × (since second < length second)) → since (first ++ second) + 1 ≡ column_after (since first + 1) (lines second + 1) (since second + 1)
  by (inl h) = let both = since_both first second in grind (arith, nat_tests, both, h.0, h.1)
  by (inr h) = let both = since_both first second in grind (arith, nat_tests, both, h.0, h.1)

-- the place of a byte, from that of an earlier one and from where it stands among the bytes between
pub place_on : (text : List ℕ) (from to : ℕ) (place end : Place) → from ≤ to → to ≤ length text → place ≡ place_at text from →
    end ≡ place_at (slice_range text from to) (length (slice_range text from to)) →
    record { line = place.line + (end.line - 1); column = column_after place.column end.line end.column } ≡ place_at text to
place_on text from to place end h k p e =
    let between = slice_range text from to in
    let whole : take (length between) between ≡ between = take_all (length between) between (omega arith) in
    let first = p ∙ place_is text from (omega arith) in
    let second = e ∙ place_is between (length between) (omega arith) ∙ ap (λ bytes. record { line = lines bytes + 1; column = since bytes + 1 }) whole in
    let last = place_is text to k ∙ ap (λ bytes. record { line = lines bytes + 1; column = since bytes + 1 }) (cut text from to h) in
    let line : place.line + (end.line - 1) ≡ lines (take from text ++ between) + 1 =
    omega (arith, ap (λ (q : Place). q.line) first, ap (λ (q : Place). q.line) second, sum_by-append (λ (y : ℕ). cond (is_line_feed y) 1 0) (take from text) between) in
    let column : column_after place.column end.line end.column ≡ since (take from text ++ between) + 1 =
    ap (λ (q : Place). column_after q.column end.line end.column) first ∙ ap (λ (q : Place). column_after (since (take from text) + 1) q.line q.column) second
    ∙ sym (columns (take from text) between) in
    ap (λ n. record { line = n; column = column_after place.column end.line end.column }) line ∙ ap (λ n. record { line = lines (take from text ++ between) + 1; column = n }) column ∙ sym last

pub both_parts : (a b : Place) → a.line ≡ b.line → a.column ≡ b.column → a ≡ b
both_parts a b line column = ap (λ n. record { line = n; column = a.column }) line ∙ ap (λ n. record { line = b.line; column = n }) column
