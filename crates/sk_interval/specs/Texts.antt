-- The texts of intervals: `none`, or both ends in brackets.
use Rattle.std.specs.Prelude.{ℕ, ℤ, Bool, false, if◌then◌else◌, List, [], ◌∷◌, ◌++◌, drop, codes, Option, Some, None, Result, Ok, Err, ok_or, int_le}
use Rattle.std.specs.Fmt.{signed_decimal}
use Rattle.std.specs.Ordering.{int_eq}
use Rattle.std.specs.Str.{bytes_eq}
use Rattle.sk_base.specs.Answer.{◌>>=◌}
use Rattle.sk_lex.specs.Symbols.{Symbol, Named, Plain, number_of, is_left_bracket, is_right_bracket, is_dots}
use Rattle.sk_lex.specs.declared.token.TokenKind.TheVariants as kind
use Rattle.sk_lattice.specs.DomainTexts.{DomainTexts}
use Rattle.sk_lattice.specs.Thresholds.{LEAST, GREATEST}
use Rattle.sk_interval.specs.declared.bounds.Bounds.{Bounds}
use Rattle.sk_interval.specs.declared.bounds.Interval.{Interval}
use Rattle.sk_interval.specs.declared.bounds.Interval.TheVariants.{Empty, Range}
use Rattle.sk_interval.specs.declared.text.Mark.{Mark}
use Rattle.sk_interval.specs.declared.text.Mark.TheVariants.{LeftBracket, Dots, RightBracket}
use Rattle.sk_interval.specs.Cuts.{cut}

-- the least number, the greatest one, or another
abbrev pub by_end : {X : Type 0} → ℤ → X → X → X → X
by_end n least greatest other = if int_eq n LEAST then least else (if int_eq n GREATEST then greatest else other)

-- an end is printed as a number, those of the range as words
abbrev pub end_text : ℤ → List ℕ
end_text n = by_end n (codes "min") (codes "max") (signed_decimal n)

abbrev pub end_symbol : ℤ → Symbol
end_symbol n = by_end n (Named (codes "min")) (Named (codes "max")) (Plain (kind.Number n))

abbrev pub bounds_text : Bounds → List ℕ
bounds_text a = codes "[" ++ end_text a.low ++ codes ".." ++ end_text a.high ++ codes "]"

abbrev pub interval_text : Interval → List ℕ
interval_text Empty = codes "none"
interval_text (Range a) = bounds_text a

abbrev pub interval_symbols : Interval → List Symbol
interval_symbols Empty = Named (codes "none") ∷ []
interval_symbols (Range a) = Plain kind.LeftBracket ∷ end_symbol a.low ∷ Plain kind.Dots ∷ end_symbol a.high ∷ Plain kind.RightBracket ∷ []

-- the end that a word or a number stands for
abbrev pub end_named : List ℕ → Option ℤ
end_named word = if bytes_eq word (codes "min") then Some LEAST else (if bytes_eq word (codes "max") then Some GREATEST else None)

abbrev pub end_of : Symbol → Option ℤ
end_of (Named word) = end_named word
end_of (Plain other) = number_of (Plain other)

abbrev pub first_end : List Symbol → Option ℤ
first_end [] = None
first_end (symbol ∷ symbols) = end_of symbol

-- the end at a place, or the place where there is none
abbrev pub end_at : ℕ → List Symbol → Result ℤ ℕ
end_at at symbols = ok_or (first_end (drop at symbols)) at

abbrev pub is_mark : Mark → Symbol → Bool
is_mark LeftBracket symbol = is_left_bracket symbol
is_mark Dots symbol = is_dots symbol
is_mark RightBracket symbol = is_right_bracket symbol

abbrev pub begins_with : Mark → List Symbol → Bool
begins_with mark [] = false
begins_with mark (symbol ∷ symbols) = is_mark mark symbol

-- nothing where a test is passed, else the place
abbrev pub passes_at : Bool → ℕ → Result (Unit {0}) ℕ
passes_at passes at = if passes then Ok tt else Err at

-- a mark at a place
abbrev pub mark_at : Mark → ℕ → List Symbol → Result (Unit {0}) ℕ
mark_at mark at symbols = passes_at (begins_with mark (drop at symbols)) at

-- `[`, an end, `..`, an end that isn't below the first, and `]`
abbrev pub bounds_taken : List Symbol → Result (Interval × ℕ) ℕ
bounds_taken symbols =
    mark_at LeftBracket 0 symbols >>= λ _.
    end_at 1 symbols >>= λ low.
    mark_at Dots 2 symbols >>= λ _.
    end_at 3 symbols >>= λ high.
    passes_at (int_le low high) 3 >>= λ _.
    mark_at RightBracket 4 symbols >>= λ _.
    Ok (cut low high, 5)

abbrev pub begins_with_none : List Symbol → Bool
begins_with_none (Named word ∷ symbols) = bytes_eq word (codes "none")
begins_with_none (Plain other ∷ symbols) = false
begins_with_none [] = false

-- the word `none`, or an interval in brackets
abbrev pub interval_taken : List Symbol → Result (Interval × ℕ) ℕ
interval_taken symbols = if begins_with_none symbols then Ok (Empty, 1) else bounds_taken symbols

abbrev pub interval_texts : DomainTexts Interval
interval_texts = record {
  word = codes "interval";
  text = interval_text;
  symbols = interval_symbols;
  taken = interval_taken;
}
