-- Symbols of tuples with what follows them, and how far a reading has come.
use Rattle.std.proofs.Common.{◌≡◌, ℕ, zero, suc, ◌+◌, List, [], ◌∷◌, ◌++◌, length, map, refl, sym, ap, ◌∙◌, arith, append_assoc, length-append, Option, Some, None, Result, Ok, Err, true}
use Rattle.std.specs.Prelude.{slice_get}
use Rattle.std.specs.List.{flat_map, join_by}
use Rattle.sk_base.specs.Answer.{◌>>=◌}
use Rattle.sk_base.specs.declared.flow.FlowSort.{FlowSort}
use Rattle.sk_base.specs.declared.flow.FlowSort.TheVariants as sort
use Rattle.sk_lex.specs.Run.{Rules, run}
use Rattle.sk_lex.specs.Symbols.{Symbol, Named, Plain}
use Rattle.sk_lex.specs.declared.token.TokenKind.TheVariants as token
use Rattle.sk_value.specs.Padding.{padded_flow}
use Rattle.sk_value.specs.declared.flow.Flow.{Flow}
use Rattle.sk_value.specs.declared.value.Value.{Value}
use Rattle.sk_deriv.specs.declared.fault.TupleError.{TupleError}
use Rattle.sk_deriv.specs.Reading.{Reading, Met, ReadTuple, given, begun, after, named, after_name, nothing, tuple_rules}
use Rattle.sk_spell.specs.TupleSpelling.{Entry, Written, number, truth, either, store, value_symbol, entry_symbols, value_symbols, spelling}

-- the symbols of entries after others, and then others
abbrev pub entries_more : List Entry → List Symbol → List Symbol
entries_more [] left = Plain token.RightBrace ∷ left
entries_more (entry ∷ entries) left = Plain token.Comma ∷ Named entry.0 ∷ Plain token.Equals ∷ value_symbol entry.1 ∷ entries_more entries left

-- those of entries after the `{`
abbrev pub entries_inside : List Entry → List Symbol → List Symbol
entries_inside [] left = Plain token.RightBrace ∷ left
entries_inside (entry ∷ entries) left = Named entry.0 ∷ Plain token.Equals ∷ value_symbol entry.1 ∷ entries_more entries left

-- those of a value
abbrev pub value_then : Written → List Symbol → List Symbol
value_then (number z) left = value_symbol (Value.Int z) ∷ left
value_then (truth b) left = value_symbol (Value.Bool b) ∷ left
value_then (either value) left = value_symbol value ∷ left
value_then (store entries) left = Plain token.LeftBrace ∷ entries_inside entries left

-- those of values after others
abbrev pub more : List Written → List Symbol → List Symbol
more [] left = Plain token.RightParen ∷ left
more (value ∷ values) left = Plain token.Comma ∷ value_then value (more values left)

-- those of values after the `(`
abbrev pub inside : List Written → List Symbol → List Symbol
inside [] left = Plain token.RightParen ∷ left
inside (value ∷ values) left = value_then value (more values left)

entries_more_then : (entries : List Entry) (left : List Symbol) → (flat_map (λ entry. Plain token.Comma ∷ entry_symbols entry) entries ++ Plain token.RightBrace ∷ []) ++ left ≡ entries_more entries left
entries_more_then [] left = refl
entries_more_then (entry ∷ entries) left = ap (λ ss. Plain token.Comma ∷ Named entry.0 ∷ Plain token.Equals ∷ value_symbol entry.1 ∷ ss) (entries_more_then entries left)

entries_inside_then : (entries : List Entry) (left : List Symbol) → (join_by entry_symbols (Plain token.Comma ∷ []) entries ++ Plain token.RightBrace ∷ []) ++ left ≡ entries_inside entries left
entries_inside_then [] left = refl
entries_inside_then (entry ∷ entries) left = ap (λ ss. Named entry.0 ∷ Plain token.Equals ∷ value_symbol entry.1 ∷ ss) (entries_more_then entries left)

value_is : (value : Written) (left : List Symbol) → value_symbols value ++ left ≡ value_then value left
value_is (number z) left = refl
value_is (truth b) left = refl
value_is (either value) left = refl
value_is (store entries) left = ap (λ ss. Plain token.LeftBrace ∷ ss) (entries_inside_then entries left)

-- a value before others
joins : (value : Written) (others left last : List Symbol) → (others ++ Plain token.RightParen ∷ []) ++ left ≡ last → ((value_symbols value ++ others) ++ Plain token.RightParen ∷ []) ++ left ≡ value_then value last
joins value others left last e =
    let one = value_symbols value in
    ap (λ ss. ss ++ left) (append_assoc one others (Plain token.RightParen ∷ [])) ∙ append_assoc one (others ++ Plain token.RightParen ∷ []) left ∙ ap (λ ss. one ++ ss) e ∙ value_is value last

more_then : (values : List Written) (left : List Symbol) → (flat_map (λ value. Plain token.Comma ∷ value_symbols value) values ++ Plain token.RightParen ∷ []) ++ left ≡ more values left
more_then [] left = refl
more_then (value ∷ values) left =
    ap (λ ss. Plain token.Comma ∷ ss) (joins value (flat_map (λ value. Plain token.Comma ∷ value_symbols value) values) left (more values left) (more_then values left))

inside_then : (values : List Written) (left : List Symbol) → (join_by value_symbols (Plain token.Comma ∷ []) values ++ Plain token.RightParen ∷ []) ++ left ≡ inside values left
inside_then [] left = refl
inside_then (value ∷ values) left = joins value (flat_map (λ value. Plain token.Comma ∷ value_symbols value) values) left (more values left) (more_then values left)

pub spelling_then : (values : List Written) (left : List Symbol) → spelling values ++ left ≡ Plain token.LeftParen ∷ inside values left
spelling_then values left = ap (λ ss. Plain token.LeftParen ∷ ss) (inside_then values left)

-- What may stand next, which only the grammar's own crate can name: it is taken from what comes of a symbol.

abbrev ExpectedBy : {E S C : Type 0} → Rules E S C → Type 0
ExpectedBy {E = E} rules = E

abbrev pub Expected : Type 0
Expected = ExpectedBy tuple_rules

abbrev expected_in : Met → List Expected
expected_in (Ok turn) = turn.expected
expected_in (Err error) = []

abbrev HasPlace : ℕ → List Expected → Type 0
HasPlace n [] = ⊥
HasPlace zero (one ∷ others) = Unit {0}
HasPlace (suc n) (one ∷ others) = HasPlace n others

abbrev at_place : (n : ℕ) (expected : List Expected) → HasPlace n expected → Expected
at_place n [] h = absurd h
at_place zero (one ∷ others) h = one
at_place (suc n) (one ∷ others) h = at_place n others h

abbrev blank : Reading
blank = nothing [] []

unfoldable pub Item : Expected
unfolding after
Item = at_place 0 (expected_in (after blank (Some sort.Bool) (Plain token.Comma))) tt

abbrev pub After : Expected
After = at_place 0 (expected_in (given blank (Some (Flow.Bool true)))) tt

abbrev pub FirstName : Expected
FirstName = at_place 0 (expected_in (begun blank (Plain token.LeftBrace))) tt

unfoldable pub NextName : Expected
unfolding after_name
NextName = at_place 0 (expected_in (after_name blank (Plain token.Comma))) tt

abbrev pub Equals : Expected
Equals = at_place 0 (expected_in (named blank (Some (0, [])))) tt

abbrev pub SetTo : Expected
SetTo = at_place 1 (expected_in (named blank (Some (0, [])))) tt

abbrev pub AfterName : Expected
AfterName = at_place 2 (expected_in (named blank (Some (0, [])))) tt

-- A reading.

abbrev pub Answer : Type 0
Answer = Result (Reading × ℕ) (TupleError × ℕ)

-- what callers are told of what was read
abbrev pub told : Answer → Result (ReadTuple × ℕ) (TupleError × ℕ)
told r = r >>= λ read. Ok (record { tuple = map (padded_flow (length read.0.names)) read.0.flows; names = read.0.names }, read.1)

-- a reading of so many symbols comes to this state, where this is expected and these symbols are left
pub record Comes (from : Answer) (total : ℕ) (expected : List Expected) (state : Reading) (left : List Symbol) : Type 0 where
  pub at : ℕ
  pub is : from ≡ run tuple_rules 0 at expected state left
  pub place : at + length left ≡ total

-- these values were read, and no store is open
abbrev pub outside : List FlowSort → List Flow → ℕ → List (List ℕ) → Reading
outside sorts flows name names = record { sorts = sorts; flows = flows; store = []; name = name; names = names }

-- a store is open, with these places
abbrev pub within : List FlowSort → List Flow → List (Option Value) → ℕ → List (List ℕ) → Reading
within sorts flows s name names = record { sorts = sorts; flows = flows; store = s; name = name; names = names }

-- The sort of the next value.

-- the values that are still to come have these sorts
pub record Awaits (all : List FlowSort) (flows : List Flow) (sorts : List FlowSort) : Type 0 where
  pub front : List FlowSort
  pub all_are : all ≡ front ++ sorts
  pub counted : length flows ≡ length front

abbrev pub head_of : List FlowSort → Option FlowSort
head_of [] = None
head_of (s ∷ rest) = Some s

after_front : (front rest : List FlowSort) → slice_get (front ++ rest) (length front) ≡ head_of rest
after_front [] [] = refl
after_front [] (s ∷ rest) = refl
after_front (s ∷ front) rest = after_front front rest

pub awaited : {all : List FlowSort} {flows : List Flow} {sorts : List FlowSort} → Awaits all flows sorts → slice_get all (length flows) ≡ head_of sorts
awaited {flows = flows} {sorts = sorts} a = ap (λ all. slice_get all (length flows)) a.all_are ∙ ap (slice_get (a.front ++ sorts)) a.counted ∙ after_front a.front sorts

pub got : {all : List FlowSort} {flows : List Flow} {s : FlowSort} {sorts : List FlowSort} (flow : Flow) → Awaits all flows (s ∷ sorts) → Awaits all (flows ++ flow ∷ []) sorts
got {flows = flows} {s = s} {sorts = sorts} flow a = record {
  front = a.front ++ s ∷ [];
  all_are = a.all_are ∙ sym (append_assoc a.front (s ∷ []) sorts);
  counted = omega (arith, a.counted, length-append flows (flow ∷ []), length-append a.front (s ∷ []));
}
