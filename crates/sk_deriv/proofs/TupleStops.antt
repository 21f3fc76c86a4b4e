-- The names only grow along a reading.
use Rattle.std.proofs.Common.{◌≡◌, ℕ, Bool, true, false, cond, List, [], ◌∷◌, subst, Option, Some, None, Result, Ok, Err}
use Rattle.std.specs.Prelude.{IfOk}
use Rattle.std.specs.Option.{option_map, option_map_or}
use Rattle.sk_base.specs.Answer.{◌>>=◌}
use Rattle.sk_base.specs.Names.{with_name}
use Rattle.sk_base.specs.declared.flow.FlowSort.{FlowSort}
use Rattle.sk_base.specs.declared.flow.FlowSort.TheVariants as sort
use Rattle.sk_lex.specs.Run.{IsFrontOf, ShownGrows, Turn, shown_at_stop, shown_next, unless_refused}
use Rattle.sk_lex.specs.Symbols.{Symbol, word_of, number_of, is_open, is_close, is_comma, is_equals, is_left_brace, is_right_brace}
use Rattle.sk_lex.proofs.Runs.{front_self, front_still}
use Rattle.sk_term.proofs.Stops.{Added, names_with, word_front}
use Rattle.sk_value.specs.declared.flow.Flow.{Flow}
use Rattle.sk_value.specs.declared.value.Value.{Value}
use Rattle.sk_deriv.specs.declared.expected.Expected.{Expected}
use Rattle.sk_deriv.specs.declared.expected.Expected.TheVariants.{Open, Item, After, FirstName, NextName, Equals, SetTo, AfterName}
use Rattle.sk_deriv.specs.Reading as spec
use Rattle.sk_deriv.specs.Reading.{Reading, Met, at_symbol, next_sort, truth_of, value_of, is_set, given, value, begun, closing, item, after, named, first_name, after_name, set_to, mark, step, tuple_rules, names_of, names_refused, nothing, names_at_stop}

-- the names are a front of those that were read once a symbol came to this
abbrev Front : Reading → Met → Type 0
Front state r = IfOk r (λ (turn : Turn Expected Reading). IsFrontOf state.names turn.state.names)

either_front : (state : Reading) (b : Bool) (r s : Met) → Front state r → Front state s → Front state (cond b r s)
either_front state true r s f g = f
either_front state false r s f g = g

given_front : (state : Reading) (found : Option Flow) → Front state (given state found)
given_front state None = tt
given_front state (Some found) = front_self state.names

value_front : (state : Reading) (wanted : FlowSort) (symbol : Symbol) → Front state (value state wanted symbol)
unfolding value
value_front state sort.Int symbol = given_front state (option_map Flow.Int (number_of symbol))
value_front state sort.Bool symbol = given_front state (option_map Flow.Bool (truth_of symbol))
value_front state sort.Val symbol = given_front state (option_map Flow.Val (value_of symbol))
value_front state sort.Store symbol = either_front state (is_left_brace symbol) _ _ (front_self state.names) tt

closing_front : (state : Reading) (symbol : Symbol) → Front state (closing state symbol)
closing_front state symbol = either_front state (is_close symbol) _ _ (front_self state.names) (either_front state (is_comma symbol) _ _ tt tt)

item_front : (state : Reading) (wanted : Option FlowSort) (symbol : Symbol) → Front state (item state wanted symbol)
unfolding item
item_front state None symbol = closing_front state symbol
item_front state (Some wanted) symbol = either_front state (is_close symbol) _ _ tt (value_front state wanted symbol)

after_front : (state : Reading) (wanted : Option FlowSort) (symbol : Symbol) → Front state (after state wanted symbol)
unfolding after
after_front state None symbol = closing_front state symbol
after_front state (Some wanted) symbol = either_front state (is_comma symbol) _ _ (front_self state.names) (either_front state (is_close symbol) _ _ tt tt)

named_front : (state : Reading) (found : Added) → IsFrontOf state.names (names_with state.names found) → Front state (named state found)
named_front state None f = tt
named_front state (Some (place, names)) f = either_front state (is_set state.store place) _ _ tt f

name_front : (state : Reading) (word : Option (List ℕ)) → Front state (spec.name state word)
unfolding spec.name
name_front state None = tt
name_front state (Some word) = named_front state (with_name state.names word) (word_front state.names word)

first_name_front : (state : Reading) (symbol : Symbol) → Front state (first_name state symbol)
unfolding first_name
first_name_front state symbol = either_front state (is_right_brace symbol) _ _ (front_self state.names) (name_front state (word_of symbol))

after_name_front : (state : Reading) (symbol : Symbol) → Front state (after_name state symbol)
unfolding after_name
after_name_front state symbol = either_front state (is_comma symbol) _ _ (front_self state.names) (either_front state (is_right_brace symbol) _ _ (front_self state.names) tt)

set_to_front : (state : Reading) (found : Option Value) → Front state (set_to state found)
unfolding set_to
set_to_front state None = tt
set_to_front state (Some found) = front_self state.names

mark_front : (state : Reading) (stands : Bool) → Front state (mark state stands)
mark_front state stands = either_front state stands _ _ (front_self state.names) tt

step_front : (state : Reading) (expected : Expected) (symbol : Symbol) → Front state (step state expected symbol)
unfolding step
step_front state Open symbol = mark_front state (is_open symbol)
step_front state Item symbol = item_front state (next_sort state) symbol
step_front state After symbol = after_front state (next_sort state) symbol
step_front state FirstName symbol = first_name_front state symbol
step_front state NextName symbol = name_front state (word_of symbol)
step_front state Equals symbol = mark_front state (is_equals symbol)
step_front state SetTo symbol = set_to_front state (value_of symbol)
step_front state AfterName symbol = after_name_front state symbol

-- and of those that stand once it was refused
found_front : (names : List (List ℕ)) (found : Added) → IsFrontOf names (names_with names found) → IsFrontOf names (option_map_or (λ (added : ℕ × List (List ℕ)). added.1) found names)
found_front names None f = f
found_front names (Some found) f = f

word_with_front : (names : List (List ℕ)) (word : Option (List ℕ)) → IsFrontOf names (spec.names_with names word)
word_with_front names None = front_self names
word_with_front names (Some word) = found_front names (with_name names word) (word_front names word)

refused_front : (state : Reading) (expected : Expected) (symbol : Symbol) → IsFrontOf state.names (names_refused expected state symbol)
refused_front state Open symbol = front_self state.names
refused_front state Item symbol = front_self state.names
refused_front state After symbol = front_self state.names
refused_front state FirstName symbol = word_with_front state.names (word_of symbol)
refused_front state NextName symbol = word_with_front state.names (word_of symbol)
refused_front state Equals symbol = front_self state.names
refused_front state SetTo symbol = front_self state.names
refused_front state AfterName symbol = front_self state.names

shown_front : (state : Reading) (at : ℕ) (refused : List (List ℕ)) (r : Met) → Front state r → IsFrontOf state.names refused → IsFrontOf state.names (unless_refused refused (at_symbol at r >>= λ turn. Ok turn.state.names))
shown_front state at refused (Ok turn) f g = f
shown_front state at refused (Err error) f g = g

pub names_grow : ShownGrows tuple_rules names_refused names_of
names_grow expected state at symbol left = shown_front state at (names_refused expected state symbol) (step state expected symbol) (step_front state expected symbol) (refused_front state expected symbol)

-- where memory was refused at a symbol
pub still_front : (now : List (List ℕ)) (expected : Expected) (state : Reading) (at : ℕ) (symbol : Symbol) → now ≡ state.names →
    IsFrontOf now (shown_next tuple_rules names_refused names_of expected state at symbol [])
still_front now expected state at symbol e = front_still e (names_grow expected state at symbol [])

-- from where nothing was read
pub front_from : {sorts : List FlowSort} {names now : List (List ℕ)} {origin : Reading} (at : ℕ) (symbols : List Symbol) → origin ≡ nothing sorts names →
    IsFrontOf now (shown_at_stop tuple_rules names_refused names_of 0 at (Open ∷ Item ∷ []) origin symbols) → IsFrontOf now (names_at_stop sorts names at symbols)
unfolding names_at_stop
front_from {now = now} at symbols e f = let P : Reading → Type 0 = λ origin. IsFrontOf now (shown_at_stop tuple_rules names_refused names_of 0 at (Open ∷ Item ∷ []) origin symbols) in subst P e f
