-- The names only grow along a reading.
use Rattle.std.proofs.Common.{◌≡◌, ℕ, Bool, true, false, cond, List, [], ◌∷◌, subst, Option, Some, None, Result, Ok, Err}
use Rattle.std.specs.Prelude.{IfOk}
use Rattle.sk_base.specs.Answer.{◌>>=◌}
use Rattle.sk_base.specs.Names.{with_name, place_of_name}
use Rattle.sk_base.specs.declared.flow.FlowSort.{FlowSort}
use Rattle.sk_base.specs.declared.flow.FlowSort.TheVariants as sort
use Rattle.sk_lex.specs.declared.reader.Taken.{Taken}
use Rattle.sk_lex.specs.declared.reader.Refused.{Refused}
use Rattle.sk_lex.specs.declared.reader.Refused.TheVariants.{Bad, NoMemory}
use Rattle.sk_lex.specs.Turns.{OnStarved}
use Rattle.sk_lex.specs.Run.{IsFrontOf, ShownGrows, Turn, shown_at_stop, shown_next, unless_refused}
use Rattle.sk_lex.specs.Symbols.{Symbol, word_of, is_open, is_close, is_comma, is_equals, is_slash, is_question, is_left_brace, is_right_brace}
use Rattle.sk_lex.proofs.Runs.{front_self, front_still}
use Rattle.sk_term.proofs.Stops.{Added, names_with, word_front}
use Rattle.sk_lattice.specs.Domain.{Domain}
use Rattle.sk_lattice.specs.DomainTexts.{DomainTexts}
use Rattle.sk_lattice.specs.declared.truth.AbsBool.{AbsBool}
use Rattle.sk_lattice.specs.declared.flow.AbsFlow.TheVariants as flow
use Rattle.sk_table.specs.declared.expected.Expected.{Expected}
use Rattle.sk_table.specs.declared.expected.Expected.TheVariants.{Open, Item, After, Slash, Truth, FirstName, NextName, Equals, Number, CellTruth, Mark, AfterName}
use Rattle.sk_table.specs.declared.fault.TableError.{TableError}
use Rattle.sk_table.specs.Tuples as spec
use Rattle.sk_table.specs.Tuples.{Reading, Met, next_sort, truths_of, is_none_word, element_at, with_element, with_flow, with_num, with_cell, truths, begun, value, closing, item, after, val_truth, cell_truth, is_listed, found_name, added_name, place_for, names_placed, named, first_name, after_name, mark, alone, step, tuple_rules, names_of, names_refused, nothing, names_at_stop}

-- a word that is placed among names
abbrev Placed : Type 0
Placed = Result (ℕ × List (List ℕ)) TableError

known_front : (names : List (List ℕ)) (found : Option ℕ) → IsFrontOf names (names_placed names (found_name names found))
known_front names None = front_self names
known_front names (Some place) = front_self names

added_front : (names : List (List ℕ)) (added : Added) → IsFrontOf names (names_with names added) → IsFrontOf names (names_placed names (added_name added))
added_front names None f = f
added_front names (Some added) f = f

placed_front : (known : Bool) (names : List (List ℕ)) (word : List ℕ) → IsFrontOf names (names_placed names (place_for known names word))
placed_front true names word = known_front names (place_of_name names word)
placed_front false names word = added_front names (with_name names word) (word_front names word)

word_with_front : (known : Bool) (names : List (List ℕ)) (word : Option (List ℕ)) → IsFrontOf names (spec.names_with known names word)
word_with_front known names None = front_self names
word_with_front known names (Some word) = placed_front known names word

module _ {D : Type 0} (d : Domain D) (t : DomainTexts D) where
  -- these names are a front of those that were read once a symbol came to this
  abbrev Front : List (List ℕ) → Met D → Type 0
  Front names r = IfOk r (λ (turn : Turn Expected (Reading D)). IsFrontOf names turn.state.names)

  either_front : (names : List (List ℕ)) (b : Bool) (r s : Met D) → Front names r → Front names s → Front names (cond b r s)
  either_front names true r s f g = f
  either_front names false r s f g = g

  element_front : (names : List (List ℕ)) (state : D → Reading D) (expected : List Expected) (found : Result (D × ℕ) (TableError × ℕ)) → ((element : D) → IsFrontOf names (state element).names) →
      Front names (with_element state expected found)
  element_front names state expected (Ok (element, more)) f = f element
  element_front names state expected (Err bad) f = tt

  truths_front : (state : Reading D) (at : ℕ) (set : Option AbsBool) → Front state.names (truths state at set)
  truths_front state at None = tt
  truths_front state at (Some set) = front_self state.names

  begun_front : (state : Reading D) (at : ℕ) (symbol : Symbol) → Front state.names (begun state at symbol)
  unfolding begun
  begun_front state at symbol =
      either_front state.names (is_left_brace symbol) _ _ (front_self state.names) (either_front state.names (is_none_word symbol) _ _ (front_self state.names) tt)

  value_front : (state : Reading D) (wanted : FlowSort) (at : ℕ) (symbol : Symbol) (left : List Symbol) → Front state.names (value t state wanted at symbol left)
  unfolding value
  value_front state sort.Int at symbol left = element_front state.names (λ element. with_flow state (flow.Int element)) _ (element_at t at (symbol ∷ left)) (λ element. front_self state.names)
  value_front state sort.Bool at symbol left = truths_front state at (truths_of symbol)
  value_front state sort.Val at symbol left = element_front state.names (with_num state) _ (element_at t at (symbol ∷ left)) (λ element. front_self state.names)
  value_front state sort.Store at symbol left = begun_front state at symbol

  closing_front : (state : Reading D) (at : ℕ) (symbol : Symbol) → Front state.names (closing state at symbol)
  closing_front state at symbol = either_front state.names (is_close symbol) _ _ (front_self state.names) (either_front state.names (is_comma symbol) _ _ tt tt)

  item_front : (state : Reading D) (wanted : Option FlowSort) (at : ℕ) (symbol : Symbol) (left : List Symbol) → Front state.names (item t state wanted at symbol left)
  unfolding item
  item_front state None at symbol left = closing_front state at symbol
  item_front state (Some wanted) at symbol left = either_front state.names (is_close symbol) _ _ tt (value_front state wanted at symbol left)

  after_front : (state : Reading D) (wanted : Option FlowSort) (at : ℕ) (symbol : Symbol) → Front state.names (after state wanted at symbol)
  unfolding after
  after_front state None at symbol = closing_front state at symbol
  after_front state (Some wanted) at symbol = either_front state.names (is_comma symbol) _ _ (front_self state.names) (either_front state.names (is_close symbol) _ _ tt tt)

  val_truth_front : (state : Reading D) (at : ℕ) (set : Option AbsBool) → Front state.names (val_truth state at set)
  unfolding val_truth
  val_truth_front state at None = tt
  val_truth_front state at (Some set) = front_self state.names

  cell_truth_front : (state : Reading D) (at : ℕ) (set : Option AbsBool) → Front state.names (cell_truth state at set)
  unfolding cell_truth
  cell_truth_front state at None = tt
  cell_truth_front state at (Some set) = front_self state.names

  named_front : (state : Reading D) (at : ℕ) (found : Placed) → IsFrontOf state.names (names_placed state.names found) → Front state.names (named state at found)
  named_front state at (Err error) f = tt
  named_front state at (Ok (place, names)) f = either_front state.names (is_listed state.cells place) _ _ tt f

  name_front : (state : Reading D) (at : ℕ) (word : Option (List ℕ)) → Front state.names (spec.name state at word)
  unfolding spec.name
  name_front state at None = tt
  name_front state at (Some word) = named_front state at (place_for state.known state.names word) (placed_front state.known state.names word)

  first_name_front : (state : Reading D) (at : ℕ) (symbol : Symbol) → Front state.names (first_name d state at symbol)
  unfolding first_name
  first_name_front state at symbol = either_front state.names (is_right_brace symbol) _ _ (front_self state.names) (name_front state at (word_of symbol))

  after_name_front : (state : Reading D) (at : ℕ) (symbol : Symbol) → Front state.names (after_name d state at symbol)
  unfolding after_name
  after_name_front state at symbol =
      either_front state.names (is_comma symbol) _ _ (front_self state.names) (either_front state.names (is_right_brace symbol) _ _ (front_self state.names) tt)

  mark_front : (state : Reading D) (at : ℕ) (symbol : Symbol) → Front state.names (mark d state at symbol)
  unfolding mark
  mark_front state at symbol = either_front state.names (is_question symbol) _ _ (front_self state.names) (after_name_front (with_cell state false) at symbol)

  alone_front : (state : Reading D) (at : ℕ) (stands : Bool) → Front state.names (alone state at stands)
  alone_front state at stands = either_front state.names stands _ _ (front_self state.names) tt

  step_front : (state : Reading D) (expected : Expected) (at : ℕ) (symbol : Symbol) (left : List Symbol) → Front state.names (step d t state expected at symbol left)
  unfolding step
  step_front state Open at symbol left = alone_front state at (is_open symbol)
  step_front state Item at symbol left = item_front state (next_sort state) at symbol left
  step_front state After at symbol left = after_front state (next_sort state) at symbol
  step_front state Slash at symbol left = alone_front state at (is_slash symbol)
  step_front state Truth at symbol left = val_truth_front state at (truths_of symbol)
  step_front state FirstName at symbol left = first_name_front state at symbol
  step_front state NextName at symbol left = name_front state at (word_of symbol)
  step_front state Equals at symbol left = alone_front state at (is_equals symbol)
  step_front state Number at symbol left = element_front state.names (with_num state) _ (element_at t at (symbol ∷ left)) (λ element. front_self state.names)
  step_front state CellTruth at symbol left = cell_truth_front state at (truths_of symbol)
  step_front state Mark at symbol left = mark_front state at symbol
  step_front state AfterName at symbol left = after_name_front state at symbol

  -- and of those that stand once it was refused
  refused_front : (state : Reading D) (expected : Expected) (symbol : Symbol) → IsFrontOf state.names (names_refused expected state symbol)
  refused_front state Open symbol = front_self state.names
  refused_front state Item symbol = front_self state.names
  refused_front state After symbol = front_self state.names
  refused_front state Slash symbol = front_self state.names
  refused_front state Truth symbol = front_self state.names
  refused_front state FirstName symbol = word_with_front state.known state.names (word_of symbol)
  refused_front state NextName symbol = word_with_front state.known state.names (word_of symbol)
  refused_front state Equals symbol = front_self state.names
  refused_front state Number symbol = front_self state.names
  refused_front state CellTruth symbol = front_self state.names
  refused_front state Mark symbol = front_self state.names
  refused_front state AfterName symbol = front_self state.names

  shown_front : (names refused : List (List ℕ)) (r : Met D) → Front names r → IsFrontOf names refused → IsFrontOf names (unless_refused refused (r >>= λ turn. Ok turn.state.names))
  shown_front names refused (Ok turn) f g = f
  shown_front names refused (Err bad) f g = g

  pub names_grow : ShownGrows (tuple_rules d t) names_refused names_of
  names_grow expected state at symbol left =
      shown_front state.names (names_refused expected state symbol) (step d t state expected at symbol left) (step_front state expected at symbol left) (refused_front state expected symbol)

  -- what meeting a symbol leaves where memory was refused
  pub still_front : (answer : Result (Taken Expected) (Refused TableError)) (now : List (List ℕ)) (expected : Expected) (state : Reading D) (at : ℕ) (symbol : Symbol) (left : List Symbol) →
      OnStarved answer (now ≡ state.names) → OnStarved answer (IsFrontOf now (shown_next (tuple_rules d t) names_refused names_of expected state at symbol left))
  still_front (Ok taken) now expected state at symbol left e = tt
  still_front (Err (Bad error place)) now expected state at symbol left e = tt
  still_front (Err NoMemory) now expected state at symbol left e = front_still e (names_grow expected state at symbol left)

  -- from where nothing was read
  pub front_from : {known : Bool} {sorts : List FlowSort} {names now : List (List ℕ)} {origin : Reading D} (at : ℕ) (symbols : List Symbol) → origin ≡ nothing d known sorts names →
      IsFrontOf now (shown_at_stop (tuple_rules d t) names_refused names_of 0 at (Open ∷ Item ∷ []) origin symbols) → IsFrontOf now (names_at_stop d t known sorts names at symbols)
  unfolding names_at_stop
  front_from {now = now} at symbols e f =
      let P : Reading D → Type 0 = λ origin. IsFrontOf now (shown_at_stop (tuple_rules d t) names_refused names_of 0 at (Open ∷ Item ∷ []) origin symbols) in subst P e f
