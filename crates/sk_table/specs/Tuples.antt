-- Reading an abstract tuple. What is expected and the next symbol decide; an element's text takes several symbols.
use Rattle.std.specs.Prelude.{ℕ, ◌+◌, ◌-◌, Bool, true, false, if◌then◌else◌, List, [], ◌∷◌, ◌++◌, length, map, replicate, codes, slice_get, slice_set, Option, Some, None, unwrap_or, is_some, Result, Ok, Err}
use Rattle.std.specs.List.{list_any}
use Rattle.std.specs.Option.{option_map_or, option_and_then}
use Rattle.std.specs.Str.{bytes_eq}
use Rattle.sk_base.specs.Answer.{◌>>=◌}
use Rattle.sk_base.specs.Names.{place_of_name, with_name}
use Rattle.sk_base.specs.declared.flow.FlowSort.{FlowSort}
use Rattle.sk_base.specs.declared.flow.FlowSort.TheVariants as sort
use Rattle.sk_lex.specs.Run.{Turn, Rules, run, shown_at_stop}
use Rattle.sk_lex.specs.Symbols.{Symbol, word_of, is_open, is_close, is_comma, is_equals, is_slash, is_question, is_left_brace, is_right_brace}
use Rattle.sk_lattice.specs.Domain.{Domain}
use Rattle.sk_lattice.specs.DomainTexts.{DomainTexts}
use Rattle.sk_lattice.specs.Empty.{store_of, flow_is_empty}
use Rattle.sk_lattice.specs.Padding.{padded_flow, unset_cell}
use Rattle.sk_lattice.specs.Texts.{truths_text}
use Rattle.sk_lattice.specs.declared.truth.AbsBool.{AbsBool}
use Rattle.sk_lattice.specs.declared.cell.AbsCell.{AbsCell}
use Rattle.sk_lattice.specs.declared.store.AbsStore.TheVariants as store
use Rattle.sk_lattice.specs.declared.flow.AbsFlow.{AbsFlow}
use Rattle.sk_lattice.specs.declared.flow.AbsFlow.TheVariants as flow
use Rattle.sk_table.specs.declared.expected.Expected.{Expected}
use Rattle.sk_table.specs.declared.expected.Expected.TheVariants.{Open, Item, After, Slash, Truth, FirstName, NextName, Equals, Number, CellTruth, Mark, AfterName}
use Rattle.sk_table.specs.declared.fault.TableError.{TableError}
use Rattle.sk_table.specs.declared.fault.TableError.TheVariants.{Unexpected, WrongCount, UnknownName, TooManyNames, Duplicate, Empty}

-- What was read so far: the sorts of the whole tuple, its flows, the cells of a store whose `}` is still to come, none
-- where the name wasn't listed yet, the name in it whose cell is to come, the number part and the truth part that were
-- read last, whether just the known names may come, and all names.
pub record Reading (D : Type 0) : Type 0 where
  pub sorts : List FlowSort
  pub flows : List (AbsFlow D)
  pub cells : List (Option (AbsCell D))
  pub name : ℕ
  pub num : D
  pub truth : AbsBool
  pub known : Bool
  pub names : List (List ℕ)

-- what comes of a symbol: what is expected in its place, and what was read then, or the code and its place
abbrev pub Met : Type 0 → Type 0
Met D = Result (Turn Expected (Reading D)) (TableError × ℕ)

abbrev pub met : {D : Type 0} → Reading D → List Expected → Met D
met state expected = Ok (record { expected = expected; state = state; more = 0 })

abbrev pub refused : {D : Type 0} → TableError → ℕ → Met D
refused error at = Err (error, at)

-- the sort of the next flow, none where the tuple has all
abbrev pub next_sort : {D : Type 0} → Reading D → Option FlowSort
next_sort state = slice_get state.sorts (length state.flows)

-- the set of truth values that a word is, and that a symbol is
abbrev pub truths_named : List ℕ → Option AbsBool
truths_named word =
    if bytes_eq word (truths_text false false) then Some (record { has_true = false; has_false = false })
    else (if bytes_eq word (truths_text true false) then Some (record { has_true = true; has_false = false })
    else (if bytes_eq word (truths_text false true) then Some (record { has_true = false; has_false = true })
    else (if bytes_eq word (truths_text true true) then Some (record { has_true = true; has_false = true }) else None)))

abbrev pub truths_of : Symbol → Option AbsBool
truths_of symbol = option_and_then truths_named (word_of symbol)

abbrev pub is_none_word : Symbol → Bool
is_none_word symbol = option_map_or (λ word. bytes_eq word (codes "none")) (word_of symbol) false

-- the element whose text stands at a place, with the number of its symbols but the first
abbrev pub more_taken : {D : Type 0} → ℕ → Result (D × ℕ) ℕ → Result (D × ℕ) (TableError × ℕ)
more_taken at (Ok (element, count)) = Ok (element, count - 1)
more_taken at (Err count) = Err (Unexpected, at + count)

abbrev pub element_at : {D : Type 0} → DomainTexts D → ℕ → List Symbol → Result (D × ℕ) (TableError × ℕ)
element_at t at symbols = more_taken at (t.taken symbols)

-- after an element
abbrev pub with_element : {D : Type 0} → (D → Reading D) → List Expected → Result (D × ℕ) (TableError × ℕ) → Met D
with_element state expected found = found >>= λ taken. Ok (record { expected = expected; state = state taken.0; more = taken.1 })

-- a flow goes last
abbrev pub with_flow : {D : Type 0} → Reading D → AbsFlow D → Reading D
with_flow state x = record state { flows = state.flows ++ x ∷ [] }

abbrev pub with_num : {D : Type 0} → Reading D → D → Reading D
with_num state element = record state { num = element }

abbrev pub truths : {D : Type 0} → Reading D → ℕ → Option AbsBool → Met D
truths state at None = refused Unexpected at
truths state at (Some set) = met (with_flow state (flow.Bool set)) (After ∷ [])

-- a store begins, or is empty
unfoldable pub begun : {D : Type 0} → Reading D → ℕ → Symbol → Met D
begun state at symbol = if is_left_brace symbol then met state (FirstName ∷ After ∷ [])
    else (if is_none_word symbol then met (with_flow state (flow.Store store.Empty)) (After ∷ []) else refused Unexpected at)

-- a flow of a sort
unfoldable pub value : {D : Type 0} → DomainTexts D → Reading D → FlowSort → ℕ → Symbol → List Symbol → Met D
value t state sort.Int at symbol left = with_element (λ element. with_flow state (flow.Int element)) (After ∷ []) (element_at t at (symbol ∷ left))
value t state sort.Bool at symbol left = truths state at (truths_of symbol)
value t state sort.Val at symbol left = with_element (with_num state) (Slash ∷ Truth ∷ After ∷ []) (element_at t at (symbol ∷ left))
value t state sort.Store at symbol left = begun state at symbol

-- the `)` after the last flow
abbrev pub closing : {D : Type 0} → Reading D → ℕ → Symbol → Met D
closing state at symbol = if is_close symbol then met state [] else (if is_comma symbol then refused WrongCount at else refused Unexpected at)

-- the next flow, or `)` where there is none
unfoldable pub item : {D : Type 0} → DomainTexts D → Reading D → Option FlowSort → ℕ → Symbol → List Symbol → Met D
item t state None at symbol left = closing state at symbol
item t state (Some wanted) at symbol left = if is_close symbol then refused WrongCount at else value t state wanted at symbol left

-- the `,` before the next flow, or `)` where there is none
unfoldable pub after : {D : Type 0} → Reading D → Option FlowSort → ℕ → Symbol → Met D
after state None at symbol = closing state at symbol
after state (Some wanted) at symbol =
    if is_comma symbol then met state (Item ∷ []) else (if is_close symbol then refused WrongCount at else refused Unexpected at)

-- the truth part of a val, and of a cell
unfoldable pub val_truth : {D : Type 0} → Reading D → ℕ → Option AbsBool → Met D
val_truth state at None = refused Unexpected at
val_truth state at (Some set) = met (with_flow state (flow.Val (record { num = state.num; truth = set }))) []

unfoldable pub cell_truth : {D : Type 0} → Reading D → ℕ → Option AbsBool → Met D
cell_truth state at None = refused Unexpected at
cell_truth state at (Some set) = met (record state { truth = set }) []

-- the cells of the names, where those that aren't listed are surely unset
abbrev pub all_cells : {D : Type 0} → Domain D → List (Option (AbsCell D)) → List (AbsCell D)
all_cells d cells = map (λ cell. unwrap_or cell (unset_cell d)) cells

-- the store ends
abbrev pub ended : {D : Type 0} → Domain D → Reading D → Reading D
ended d state = record state { flows = state.flows ++ flow.Store (store_of d (all_cells d state.cells)) ∷ []; cells = [] }

-- whether a name is listed
abbrev pub is_listed : {D : Type 0} → List (Option (AbsCell D)) → ℕ → Bool
is_listed cells place = is_some (unwrap_or (slice_get cells place) None)

-- so many places at least
abbrev pub widened : {D : Type 0} → ℕ → List (Option (AbsCell D)) → List (Option (AbsCell D))
widened names cells = cells ++ replicate (names - length cells) None

-- the name's cell is what was read last
abbrev pub with_cell : {D : Type 0} → Reading D → Bool → Reading D
with_cell state unset = record state {
  cells = slice_set (widened (state.name + 1) state.cells) state.name (Some (record { val = record { num = state.num; truth = state.truth }; unset = unset }));
}

-- where a word stands among the names, and the names then: a new one is added, or is unknown
abbrev pub found_name : List (List ℕ) → Option ℕ → Result (ℕ × List (List ℕ)) TableError
found_name names None = Err UnknownName
found_name names (Some place) = Ok (place, names)

abbrev pub added_name : Option (ℕ × List (List ℕ)) → Result (ℕ × List (List ℕ)) TableError
added_name None = Err TooManyNames
added_name (Some added) = Ok added

abbrev pub place_for : Bool → List (List ℕ) → List ℕ → Result (ℕ × List (List ℕ)) TableError
place_for true names word = found_name names (place_of_name names word)
place_for false names word = added_name (with_name names word)

abbrev pub named : {D : Type 0} → Reading D → ℕ → Result (ℕ × List (List ℕ)) TableError → Met D
named state at (Err error) = refused error at
named state at (Ok (place, names)) =
    if is_listed state.cells place then refused Duplicate at
    else met (record state { name = place; names = names }) (Equals ∷ Number ∷ Slash ∷ CellTruth ∷ Mark ∷ [])

-- any word that isn't listed yet
unfoldable pub name : {D : Type 0} → Reading D → ℕ → Option (List ℕ) → Met D
name state at None = refused Unexpected at
name state at (Some word) = named state at (place_for state.known state.names word)

-- the first name, or `}` where there is none
unfoldable pub first_name : {D : Type 0} → Domain D → Reading D → ℕ → Symbol → Met D
first_name d state at symbol = if is_right_brace symbol then met (ended d state) [] else name state at (word_of symbol)

-- the `,` before the next name, or `}`
unfoldable pub after_name : {D : Type 0} → Domain D → Reading D → ℕ → Symbol → Met D
after_name d state at symbol =
    if is_comma symbol then met state (NextName ∷ []) else (if is_right_brace symbol then met (ended d state) [] else refused Unexpected at)

-- the `?` of a name that may be unset, or what follows its cell
unfoldable pub mark : {D : Type 0} → Domain D → Reading D → ℕ → Symbol → Met D
mark d state at symbol = if is_question symbol then met (with_cell state true) (AfterName ∷ []) else after_name d (with_cell state false) at symbol

-- a sign that stands alone
abbrev pub alone : {D : Type 0} → Reading D → ℕ → Bool → Met D
alone state at stands = if stands then met state [] else refused Unexpected at

-- what a symbol is where this is expected
unfoldable pub step : {D : Type 0} → Domain D → DomainTexts D → Reading D → Expected → ℕ → Symbol → List Symbol → Met D
step d t state Open at symbol left = alone state at (is_open symbol)
step d t state Item at symbol left = item t state (next_sort state) at symbol left
step d t state After at symbol left = after state (next_sort state) at symbol
step d t state Slash at symbol left = alone state at (is_slash symbol)
step d t state Truth at symbol left = val_truth state at (truths_of symbol)
step d t state FirstName at symbol left = first_name d state at symbol
step d t state NextName at symbol left = name state at (word_of symbol)
step d t state Equals at symbol left = alone state at (is_equals symbol)
step d t state Number at symbol left = with_element (with_num state) [] (element_at t at (symbol ∷ left))
step d t state CellTruth at symbol left = cell_truth state at (truths_of symbol)
step d t state Mark at symbol left = mark d state at symbol
step d t state AfterName at symbol left = after_name d state at symbol

-- the grammar of abstract tuples
abbrev pub tuple_rules : {D : Type 0} → Domain D → DomainTexts D → Rules Expected (Reading D) TableError
tuple_rules d t = record {
  meets = λ expected state at symbol left. step d t state expected at symbol left;
  may_end = λ expected. false;
  unexpected = Unexpected;
}

-- the names that stand
abbrev pub names_of : {D : Type 0} → Reading D → List (List ℕ)
names_of state = state.names

-- the names after a word, if there is one and it has a place
abbrev pub names_placed : List (List ℕ) → Result (ℕ × List (List ℕ)) TableError → List (List ℕ)
names_placed names (Ok (place, others)) = others
names_placed names (Err error) = names

abbrev pub names_with : Bool → List (List ℕ) → Option (List ℕ) → List (List ℕ)
names_with known names None = names
names_with known names (Some word) = names_placed names (place_for known names word)

-- the names that stand once a symbol was refused: those from before, since a word that is refused in a name's place is among
-- them already or has no place
abbrev pub names_refused : {D : Type 0} → Expected → Reading D → Symbol → List (List ℕ)
names_refused Open state symbol = state.names
names_refused Item state symbol = state.names
names_refused After state symbol = state.names
names_refused Slash state symbol = state.names
names_refused Truth state symbol = state.names
names_refused FirstName state symbol = names_with state.known state.names (word_of symbol)
names_refused NextName state symbol = names_with state.known state.names (word_of symbol)
names_refused Equals state symbol = state.names
names_refused Number state symbol = state.names
names_refused CellTruth state symbol = state.names
names_refused Mark state symbol = state.names
names_refused AfterName state symbol = state.names

-- nothing was read, and these names stand
abbrev pub nothing : {D : Type 0} → Domain D → Bool → List FlowSort → List (List ℕ) → Reading D
nothing d known sorts names = record {
  sorts = sorts;
  flows = [];
  cells = [];
  name = 0;
  num = d.empty;
  truth = record { has_true = false; has_false = false };
  known = known;
  names = names;
}

-- One tuple from a place on: what was read and the place of the next symbol, or the code and its place.
unfoldable pub read_symbols : {D : Type 0} → Domain D → DomainTexts D → Bool → List FlowSort → List (List ℕ) → ℕ → List Symbol → Result (Reading D × ℕ) (TableError × ℕ)
read_symbols d t known sorts names at symbols = run (tuple_rules d t) 0 at (Open ∷ Item ∷ []) (nothing d known sorts names) symbols

-- the names where the reading of one tuple stops: those that stood, and the names in its stores up to there
unfoldable pub names_at_stop : {D : Type 0} → Domain D → DomainTexts D → Bool → List FlowSort → List (List ℕ) → ℕ → List Symbol → List (List ℕ)
names_at_stop d t known sorts names at symbols = shown_at_stop (tuple_rules d t) names_refused names_of 0 at (Open ∷ Item ∷ []) (nothing d known sorts names) symbols

-- the tuple, and the names with its own
pub record ReadTuple (D : Type 0) : Type 0 where
  pub tuple : List (AbsFlow D)
  pub names : List (List ℕ)

-- a tuple with an empty component is refused at its `(`; the others have stores with one cell per name
abbrev pub whole : {D : Type 0} → Domain D → ℕ → ℕ → List (AbsFlow D) → Result (List (AbsFlow D)) (TableError × ℕ)
whole d names at flows = if list_any (flow_is_empty d) flows then Err (Empty, at) else Ok (map (padded_flow d names) flows)

unfoldable pub read_tuple : {D : Type 0} → Domain D → DomainTexts D → Bool → List FlowSort → List (List ℕ) → ℕ → List Symbol → Result (ReadTuple D × ℕ) (TableError × ℕ)
read_tuple d t known sorts names at symbols =
    read_symbols d t known sorts names at symbols >>= λ read. whole d (length read.0.names) at read.0.flows >>= λ tuple.
    Ok (record { tuple = tuple; names = read.0.names }, read.1)
