-- The names only grow along a reading.
use Rattle.std.proofs.Common.{◌≡◌, ℕ, ℤ, Bool, true, false, cond, List, [], ◌∷◌, ◌++◌, length, refl, sym, ap, subst, ◌∙◌, inl, inr, Option, Some, None, Result, Ok, Err}
use Rattle.std.specs.Prelude.{nat_lt}
use Rattle.sk_base.specs.Answer.{◌>>=◌}
use Rattle.sk_base.specs.Names.{with_name, place_of_name}
use Rattle.sk_lex.specs.Run.{IsFrontOf, ShownGrows, shown_at_stop, shown_next, unless_refused}
use Rattle.sk_lex.specs.Symbols.{Symbol, word_of, number_of, is_open, is_close, is_comma}
use Rattle.sk_lex.proofs.Runs.{front_of_same, front_self, front_still}
use Rattle.sk_def.specs.declared.def.Def.{Def}
use Rattle.sk_def.specs.declared.ids.ConId.{ConId}
use Rattle.sk_def.specs.declared.ids.SortId.{SortId}
use Rattle.sk_def.specs.declared.sorts.ArgSort.{ArgSort}
use Rattle.sk_def.specs.declared.sorts.ArgSort.TheVariants as sort
use Rattle.sk_term.specs.declared.expected.Expected.{Expected}
use Rattle.sk_term.specs.declared.expected.Expected.TheVariants.{Root, Open, First, After, Next}
use Rattle.sk_term.specs.declared.expected.OpenTerm.{OpenTerm}
use Rattle.sk_term.specs.declared.fault.TermError.{TermError}
use Rattle.sk_term.specs.declared.fault.Refusal.{Refusal}
use Rattle.sk_term.specs.declared.fault.Refusal.TheVariants.{Bad, NoMemory}
use Rattle.sk_term.specs.Meets.{OnStarved, StandAt, names_met}
use Rattle.sk_term.specs.Reading as spec
use Rattle.sk_term.specs.Reading.{Reading, Met, at_symbol, constructor, added_name, met, next_sort, closing, opening, root, subterm, argument, first, after, next, step, term_rules, names_of, names_refused, nothing, names_at_stop}

-- a word that is added to names
abbrev pub Added : Type 0
Added = Option (ℕ × List (List ℕ))

abbrev by_place : List (List ℕ) → List ℕ → Option ℕ → Added
by_place names word (Some place) = Some (place, names)
by_place names word None = cond {A = Added} (nat_lt (length names) 64) (Some (length names, names ++ word ∷ [])) None

-- the names with it, where it has room
abbrev pub names_with : List (List ℕ) → Added → List (List ℕ)
names_with names None = names
names_with names (Some pair) = pair.1

room_front : (names : List (List ℕ)) (word : List ℕ) (room : Bool) → IsFrontOf names (names_with names (cond {A = Added} room (Some (length names, names ++ word ∷ [])) None))
room_front names word true = record { more = word ∷ []; is = refl }
room_front names word false = front_self names

place_front : (names : List (List ℕ)) (word : List ℕ) (found : Option ℕ) → IsFrontOf names (names_with names (by_place names word found))
place_front names word (Some place) = front_self names
place_front names word None = room_front names word (nat_lt (length names) 64)

pub word_front : (names : List (List ℕ)) (word : List ℕ) → IsFrontOf names (names_with names (with_name names word))
word_front names word = place_front names word (place_of_name names word)

-- the names are a front of those once a symbol came to this
abbrev Front : Reading → Met → Type 0
Front state r = IsFrontOf state.names (names_met state.names r)

either_front : (state : Reading) (b : Bool) (r s : Met) → Front state r → Front state s → Front state (cond b r s)
either_front state true r s f g = f
either_front state false r s f g = g

bound_front : (state : Reading) (r : Result ConId TermError) (f : ConId → Met) → ((c : ConId) → Front state (f c)) → Front state (r >>= f)
bound_front state (Ok c) f h = h c
bound_front state (Err e) f h = front_self state.names

root_front : (state : Reading) (word : Option (List ℕ)) → Front state (root state word)
unfolding root
root_front state None = front_self state.names
root_front state (Some word) = bound_front state (constructor state.def None (length state.nodes) word) _ (λ c. front_self state.names)

subterm_front : (state : Reading) (wanted : SortId) (word : Option (List ℕ)) → Front state (subterm state wanted word)
unfolding subterm
subterm_front state wanted None = front_self state.names
subterm_front state wanted (Some word) = bound_front state (constructor state.def (Some wanted) (length state.nodes) word) _ (λ c. front_self state.names)

number_front : (state : Reading) (value : Option ℤ) → Front state (spec.number state value)
unfolding spec.number
number_front state None = front_self state.names
number_front state (Some value) = front_self state.names

added_front : (state : Reading) (added : Added) → IsFrontOf state.names (names_with state.names added) → Front state (added_name state added)
added_front state None f = f
added_front state (Some (place, names)) f = f

name_front : (state : Reading) (word : Option (List ℕ)) → Front state (spec.name state word)
unfolding spec.name
name_front state None = front_self state.names
name_front state (Some word) = added_front state (with_name state.names word) (word_front state.names word)

argument_front : (state : Reading) (wanted : ArgSort) (symbol : Symbol) → Front state (argument state wanted symbol)
unfolding argument
argument_front state sort.Number symbol = number_front state (number_of symbol)
argument_front state sort.Name symbol = name_front state (word_of symbol)
argument_front state (sort.Term wanted) symbol = subterm_front state wanted (word_of symbol)

ended_front : (state : Reading) (unclosed : List OpenTerm) → Front state (met (spec.ended unclosed state) [])
ended_front state [] = front_self state.names
ended_front state (innermost ∷ outer) = front_self state.names

closing_front : (state : Reading) (symbol : Symbol) → Front state (closing state symbol)
closing_front state symbol = either_front state (is_close symbol) _ _ (ended_front state state.unclosed) (front_self state.names)

first_front : (state : Reading) (wanted : Option ArgSort) (symbol : Symbol) → Front state (first state wanted symbol)
unfolding first
first_front state None symbol = closing_front state symbol
first_front state (Some wanted) symbol = either_front state (is_close symbol) _ _ (front_self state.names) (argument_front state wanted symbol)

after_front : (state : Reading) (wanted : Option ArgSort) (symbol : Symbol) → Front state (after state wanted symbol)
unfolding after
after_front state None symbol = either_front state (is_comma symbol) _ _ (front_self state.names) (closing_front state symbol)
after_front state (Some wanted) symbol =
    either_front state (is_comma symbol) _ _ (front_self state.names) (either_front state (is_close symbol) _ _ (front_self state.names) (front_self state.names))

next_front : (state : Reading) (wanted : Option ArgSort) (symbol : Symbol) → Front state (next state wanted symbol)
unfolding next
next_front state None symbol = front_self state.names
next_front state (Some wanted) symbol = argument_front state wanted symbol

step_front : (state : Reading) (expected : Expected) (symbol : Symbol) → Front state (step state expected symbol)
unfolding step
step_front state Root symbol = root_front state (word_of symbol)
step_front state Open symbol = either_front state (is_open symbol) _ _ (front_self state.names) (front_self state.names)
step_front state First symbol = first_front state (next_sort state.def state.unclosed) symbol
step_front state After symbol = after_front state (next_sort state.def state.unclosed) symbol
step_front state Next symbol = next_front state (next_sort state.def state.unclosed) symbol

-- the same of what a reader shows
abbrev shown_by : Reading → ℕ → Met → List (List ℕ)
shown_by state at r = unless_refused state.names (at_symbol at r >>= λ turn. Ok turn.state.names)

shown_is : (state : Reading) (at : ℕ) (r : Met) → shown_by state at r ≡ names_met state.names r
shown_is state at (Ok turn) = refl
shown_is state at (Err error) = refl

shown_front : (state : Reading) (at : ℕ) (now : List (List ℕ)) (r : Met) → IsFrontOf now (names_met state.names r) → IsFrontOf now (shown_by state at r)
shown_front state at now r f = let P : List (List ℕ) → Type 0 = λ names. IsFrontOf now names in subst P (sym (shown_is state at r)) f

pub names_grow : ShownGrows term_rules names_refused names_of
names_grow expected state at symbol left = shown_front state at state.names (step state expected symbol) (step_front state expected symbol)

either_stands : (now : List (List ℕ)) (state : Reading) (r : Met) → Front state r → StandAt now state.names r → IsFrontOf now (names_met state.names r)
either_stands now state r f (inl e) = front_still e f
either_stands now state r f (inr e) = front_of_same (sym e)

-- where memory was refused at a symbol
pub still_front : (now : List (List ℕ)) (expected : Expected) (state : Reading) (at : ℕ) (symbol : Symbol) → StandAt now state.names (step state expected symbol) →
    IsFrontOf now (shown_next term_rules names_refused names_of expected state at symbol [])
still_front now expected state at symbol s = shown_front state at now (step state expected symbol) (either_stands now state (step state expected symbol) (step_front state expected symbol) s)

-- names that stand as before
pub unmoved : {before now : List (List ℕ)} (r : Met) → now ≡ before → StandAt now before r
unmoved r e = inl e

pub stood : {A : Type 0} {before now : List (List ℕ)} (answer : Result A Refusal) (r : Met) → now ≡ before → OnStarved answer (StandAt now before r)
stood (Ok value) r e = tt
stood (Err (Bad error)) r e = tt
stood (Err NoMemory) r e = inl e

-- the names with a word that has a place
pub name_comes : (state : Reading) (seen : Option (List ℕ)) (word : List ℕ) (place : ℕ) (names : List (List ℕ)) → seen ≡ Some word → with_name state.names word ≡ Some (place, names) → StandAt names state.names (spec.name state seen)
unfolding spec.name
name_comes state seen word place names s e = inr (sym (ap (λ w. names_met state.names (spec.name state w)) s ∙ ap (λ added. names_met state.names (added_name state added)) e))

pub word_comes : {A : Type 0} (answer : Result A Refusal) (state : Reading) (seen : Option (List ℕ)) (word : List ℕ) (place : ℕ) (names : List (List ℕ)) → seen ≡ Some word →
    with_name state.names word ≡ Some (place, names) → OnStarved answer (StandAt names state.names (spec.name state seen))
word_comes (Ok value) state seen word place names s e = tt
word_comes (Err (Bad error)) state seen word place names s e = tt
word_comes (Err NoMemory) state seen word place names s e = name_comes state seen word place names s e

-- from where nothing was read
pub front_from : {d : Def} {names now : List (List ℕ)} {origin : Reading} (at : ℕ) (symbols : List Symbol) → origin ≡ nothing d names →
    IsFrontOf now (shown_at_stop term_rules names_refused names_of 0 at (Root ∷ []) origin symbols) → IsFrontOf now (names_at_stop d names at symbols)
unfolding names_at_stop
front_from {now = now} at symbols e f = let P : Reading → Type 0 = λ origin. IsFrontOf now (shown_at_stop term_rules names_refused names_of 0 at (Root ∷ []) origin symbols) in subst P e f
