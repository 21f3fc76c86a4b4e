-- Spelled tuples are read.
use Rattle.std.proofs.Common.{◌≡◌, ℕ, ◌+◌, ℤ, Bool, true, false, is_some, if◌then◌else◌, List, [], ◌∷◌, ◌++◌, length, map, get_or, refl, sym, ap, subst, ◌∙◌, arith, append_assoc, length-append, Option, Some, None, Result, Ok, Err}
use Rattle.std.specs.List.{IsDistinct, All, flat_map}
use Rattle.std.specs.Str.{bytes_eq}
use Rattle.std.proofs.lemmas.List.{append-nil}
use Rattle.std.proofs.lemmas.List.Elements.{All-head, All-tail}
use Rattle.std.proofs.lemmas.Option.{unwrap_or-slice_get, same_Some}
use Rattle.sk_base.specs.Answer.{◌>>=◌}
use Rattle.sk_base.specs.Names.{with_name}
use Rattle.sk_base.specs.declared.flow.FlowSort.{FlowSort}
use Rattle.sk_base.specs.declared.flow.FlowSort.TheVariants as sort
use Rattle.sk_lex.specs.Run.{run}
use Rattle.sk_lex.specs.Symbols.{Symbol, Named, Plain, is_close}
use Rattle.sk_lex.specs.declared.token.TokenKind.TheVariants as token
use Rattle.sk_term.specs.Meets.{HasGrown}
use Rattle.sk_term.specs.Spelling.{with_words}
use Rattle.sk_term.proofs.Grown.{grown_more}
use Rattle.sk_term.proofs.Words.{words_grow, words_differ, first_added, front_added}
use Rattle.sk_value.specs.Padding.{padded_flow}
use Rattle.sk_value.specs.declared.flow.Flow.{Flow}
use Rattle.sk_value.specs.declared.value.Value.{Value}
use Rattle.sk_deriv.specs.declared.fault.TupleError.{TupleError}
use Rattle.sk_deriv.specs.declared.fault.TupleError.TheVariants.{WrongCount, Duplicate}
use Rattle.sk_deriv.specs.Reading as spec
use Rattle.sk_deriv.specs.Reading.{Reading, ReadTuple, met, at_symbol, next_sort, value_of, with_value, value, item, after, named, first_name, after_name, set_to, step, tuple_rules, nothing, read_symbols, read_tuple}
use Rattle.sk_spell.specs.TupleSpelling.{Entry, Written, number, truth, either, store, sort_of, value_symbol, spelling, words_set, value_for, flow_of, BeginWithTuple}
use Rattle.sk_spell.proofs.TupleStores.{word_of_entry, placed, unset_before, Holds, holds_none, holds_more, padded_is}
use Rattle.sk_spell.proofs.TupleForms.{Expected, Item, After, FirstName, NextName, Equals, SetTo, AfterName, entries_inside, entries_more, value_then, more, inside, spelling_then, Answer, told, Comes, outside, within, Awaits, awaited, got}

-- What each symbol is where it stands as it should.

open_is : (sorts : List FlowSort) (names : List (List ℕ)) (at : ℕ) (left : List Symbol) → read_symbols sorts names at (Plain token.LeftParen ∷ left) ≡ run tuple_rules 0 (at + 1) (Item ∷ []) (nothing sorts names) left
unfolding read_symbols step after Item
open_is sorts names at left = refl

item_is : (s : Reading) (wanted : FlowSort) (symbol : Symbol) → next_sort s ≡ Some wanted → is_close symbol ≡ false → step s Item symbol ≡ value s wanted symbol
unfolding step item after Item
item_is s wanted symbol n c = ap (λ o. item s o symbol) n ∙ ap (λ b. if b then Err WrongCount else value s wanted symbol) c

item_ends : (s : Reading) → next_sort s ≡ None → step s Item (Plain token.RightParen) ≡ met s []
unfolding step item after Item
item_ends s n = ap (λ o. item s o (Plain token.RightParen)) n

after_ends : (s : Reading) → next_sort s ≡ None → step s After (Plain token.RightParen) ≡ met s []
unfolding step after
after_ends s n = ap (λ o. after s o (Plain token.RightParen)) n

comma_is : (s : Reading) (wanted : FlowSort) → next_sort s ≡ Some wanted → step s After (Plain token.Comma) ≡ met s (Item ∷ [])
unfolding step after Item
comma_is s wanted n = ap (λ o. after s o (Plain token.Comma)) n

number_is : (s : Reading) (z : ℤ) → value s sort.Int (value_symbol (Value.Int z)) ≡ met (record s { flows = s.flows ++ Flow.Int z ∷ [] }) (After ∷ [])
unfolding value
number_is s z = refl

truth_is : (s : Reading) (b : Bool) → value s sort.Bool (value_symbol (Value.Bool b)) ≡ met (record s { flows = s.flows ++ Flow.Bool b ∷ [] }) (After ∷ [])
unfolding value
truth_is s true = refl
truth_is s false = refl

value_of_is : (v : Value) → value_of (value_symbol v) ≡ Some v
value_of_is (Value.Int z) = refl
value_of_is (Value.Bool true) = refl
value_of_is (Value.Bool false) = refl

either_is : (s : Reading) (v : Value) → value s sort.Val (value_symbol v) ≡ met (record s { flows = s.flows ++ Flow.Val v ∷ [] }) (After ∷ [])
unfolding value
either_is s (Value.Int z) = refl
either_is s (Value.Bool true) = refl
either_is s (Value.Bool false) = refl

no_close : (v : Value) → is_close (value_symbol v) ≡ false
no_close (Value.Int z) = refl
no_close (Value.Bool b) = refl

store_is : (s : Reading) → value s sort.Store (Plain token.LeftBrace) ≡ met s (FirstName ∷ After ∷ [])
unfolding value
store_is s = refl

first_is : (s : Reading) (word : List ℕ) → step s FirstName (Named word) ≡ spec.name s (Some word)
unfolding step first_name
first_is s word = refl

next_is : (s : Reading) (word : List ℕ) → step s NextName (Named word) ≡ spec.name s (Some word)
unfolding step after_name NextName
next_is s word = refl

named_is : (s : Reading) (word : List ℕ) (place : ℕ) (names : List (List ℕ)) → with_name s.names word ≡ Some (place, names) → get_or s.store place None ≡ None →
    spec.name s (Some word) ≡ met (record s { name = place; names = names }) (Equals ∷ SetTo ∷ AfterName ∷ [])
unfolding spec.name
named_is s word place names e u =
    ap (named s) e
    ∙ ap (λ b. if b then Err Duplicate else met (record s { name = place; names = names }) (Equals ∷ SetTo ∷ AfterName ∷ [])) (ap is_some (unwrap_or-slice_get s.store place None ∙ u))

equals_is : (s : Reading) → step s Equals (Plain token.Equals) ≡ met s []
unfolding step
equals_is s = refl

set_is : (s : Reading) (v : Value) → step s SetTo (value_symbol v) ≡ met (record s { store = with_value s.store s.name v }) []
unfolding step set_to
set_is s v = ap (set_to s) (value_of_is v)

first_ends : (s : Reading) → step s FirstName (Plain token.RightBrace) ≡ met (spec.ended s) []
unfolding step first_name
first_ends s = refl

entries_end : (s : Reading) → step s AfterName (Plain token.RightBrace) ≡ met (spec.ended s) []
unfolding step after_name
entries_end s = refl

next_comes : (s : Reading) → step s AfterName (Plain token.Comma) ≡ met s (NextName ∷ [])
unfolding step after_name NextName
next_comes s = refl

turn : {from : Answer} {total : ℕ} {one : Expected} {below : List Expected} {s : Reading} {symbol : Symbol} {left : List Symbol} (g : Comes from total (one ∷ below) s (symbol ∷ left)) (reached : Reading) (expected : List Expected) →
    step s one symbol ≡ met reached expected → Comes from total (expected ++ below) reached left
turn {below = below} {left = left} g reached expected e = record {
  at = g.at + 1;
  is = g.is ∙ ap (λ m. at_symbol g.at m >>= λ turn. run tuple_rules turn.more (g.at + 1) (turn.expected ++ below) turn.state left) e;
  place = omega (arith, g.place);
}

module _ (sorts : List FlowSort) (all : List (List ℕ)) (different : IsDistinct bytes_eq all) (from : Answer) (total : ℕ) where
  -- A store.

  -- it has ended, with these entries
  record Stored (es : List Expected) (flows : List Flow) (entries : List Entry) (names : List (List ℕ)) (left : List Symbol) : Type 0 where
    places : List (Option Value)
    name : ℕ
    holds : Holds all entries places
    gets : Comes from total es (outside sorts (flows ++ Flow.Store places ∷ []) name names) left

  stored_so : {es : List Expected} {flows : List Flow} {entries others : List Entry} {names : List (List ℕ)} {left : List Symbol} → entries ≡ others → Stored es flows entries names left → Stored es flows others names left
  stored_so {es} {flows} {names = names} {left = left} e s = let P : List Entry → Type 0 = λ entries. Stored es flows entries names left in subst P e s

  -- entries that are left, and the names that they add
  record EntriesFit (now after : List (List ℕ)) (front rest : List Entry) : Type 0 where
    once : IsDistinct bytes_eq (map word_of_entry (front ++ rest))
    added : with_words now (map word_of_entry rest) ≡ Some after
    grown : HasGrown after all

  entries_end_so : {es : List Expected} {flows : List Flow} {s : List (Option Value)} {name : ℕ} {now after : List (List ℕ)} {front : List Entry} {left : List Symbol} (place : Expected) →
      ((s : Reading) → step s place (Plain token.RightBrace) ≡ met (spec.ended s) []) → EntriesFit now after front [] → Holds all front s →
      Comes from total (place ∷ es) (within sorts flows s name now) (Plain token.RightBrace ∷ left) → Stored es flows (front ++ []) after left
  entries_end_so {es} {flows} {s} {name} {now} {after} {front} {left} place is f h g =
      let P : List (List ℕ) → Type 0 = λ names. Stored es flows (front ++ []) names left in
      let r : Stored es flows front now left = record { places = s; name = name; holds = h; gets = turn g (outside sorts (flows ++ Flow.Store s ∷ []) name now) [] (is (within sorts flows s name now)) } in
      subst P (same_Some now after f.added) (stored_so (sym (append-nil front)) r)

  -- an entry was read
  record Entered (es : List Expected) (flows : List Flow) (after : List (List ℕ)) (front rest : List Entry) (left : List Symbol) : Type 0 where
    places : List (Option Value)
    name : ℕ
    now : List (List ℕ)
    fit : EntriesFit now after front rest
    holds : Holds all front places
    gets : Comes from total (AfterName ∷ es) (within sorts flows places name now) left

  entry_read : (entry : Entry) (rest : List Entry) {es : List Expected} {flows : List Flow} {s : List (Option Value)} {name : ℕ} {now after : List (List ℕ)} {front : List Entry} {left : List Symbol} (place : Expected) →
      ((s : Reading) (word : List ℕ) → step s place (Named word) ≡ spec.name s (Some word)) → EntriesFit now after front (entry ∷ rest) → Holds all front s →
      Comes from total (place ∷ es) (within sorts flows s name now) (Named entry.0 ∷ Plain token.Equals ∷ value_symbol entry.1 ∷ left) → Entered es flows after (front ++ entry ∷ []) rest left
  entry_read entry rest {flows = flows} {s = s} {name = name} {now = now} {after = after} {front = front} place is f h g =
      let w = first_added now entry.0 (map word_of_entry rest) after f.added in
      let there = placed now entry.0 w.place w.next all w.first (grown_more (words_grow w.next (map word_of_entry rest) after w.others) f.grown) in
      let unset : value_for front entry.0 ≡ None = unset_before front entry rest f.once in
      let free : get_or s w.place None ≡ None = h.there w.place there.0 ∙ ap (value_for front) there.1 ∙ unset in
      let state = within sorts flows s name now in
      let begun = within sorts flows s w.place w.next in
      let named = turn g begun (Equals ∷ SetTo ∷ AfterName ∷ []) (is state entry.0 ∙ named_is state entry.0 w.place w.next w.first free) in
      record {
        places = with_value s w.place entry.1;
        name = w.place;
        now = w.next;
        fit = record { once = subst (λ (es : List Entry). IsDistinct bytes_eq (map word_of_entry es)) (sym (append_assoc front (entry ∷ []) rest)) f.once; added = w.others; grown = f.grown };
        holds = holds_more all front s entry.0 entry.1 w.place different h there.0 there.1 unset;
        gets = turn (turn named begun [] (equals_is begun)) (within sorts flows (with_value s w.place entry.1) w.place w.next) [] (set_is begun entry.1);
      }

  entries_read : (rest front : List Entry) {es : List Expected} {flows : List Flow} {s : List (Option Value)} {name : ℕ} {now after : List (List ℕ)} {left : List Symbol} → EntriesFit now after front rest → Holds all front s →
      Comes from total (AfterName ∷ es) (within sorts flows s name now) (entries_more rest left) → Stored es flows (front ++ rest) after left
  entries_read [] front f h g = entries_end_so AfterName entries_end f h g
  entries_read (entry ∷ rest) front {flows = flows} {s = s} {name = name} {now = now} f h g =
      let state = within sorts flows s name now in
      let e = entry_read entry rest NextName next_is f h (turn g state (NextName ∷ []) (next_comes state)) in
      stored_so (append_assoc front (entry ∷ []) rest) (entries_read rest (front ++ entry ∷ []) e.fit e.holds e.gets)

  store_read : (entries : List Entry) {es : List Expected} {flows : List Flow} {name : ℕ} {now after : List (List ℕ)} {left : List Symbol} → EntriesFit now after [] entries →
      Comes from total (FirstName ∷ es) (outside sorts flows name now) (entries_inside entries left) → Stored es flows entries after left
  store_read [] f g = entries_end_so FirstName first_ends f (holds_none all) g
  store_read (entry ∷ rest) f g =
      let e = entry_read entry rest FirstName first_is f (holds_none all) g in
      entries_read rest (entry ∷ []) e.fit e.holds e.gets

  -- The values.

  -- a value was read
  record One (flows : List Flow) (written : Written) (names : List (List ℕ)) (left : List Symbol) : Type 0 where
    flow : Flow
    name : ℕ
    is : padded_flow (length all) flow ≡ flow_of all written
    gets : Comes from total (After ∷ []) (outside sorts (flows ++ flow ∷ []) name names) left

  -- the values up to the end were read
  record Many (flows : List Flow) (values : List Written) (names : List (List ℕ)) (left : List Symbol) : Type 0 where
    others : List Flow
    name : ℕ
    are : map (padded_flow (length all)) others ≡ map (flow_of all) values
    gets : Comes from total [] (outside sorts (flows ++ others) name names) left

  one_of : {flows : List Flow} {written : Written} {now after : List (List ℕ)} {left : List Symbol} → with_words now [] ≡ Some after → One flows written now left → One flows written after left
  one_of {flows} {written} {now} {after} {left} e o = let P : List (List ℕ) → Type 0 = λ names. One flows written names left in subst P (same_Some now after e) o

  one_read : (written : Written) (others : List FlowSort) {flows : List Flow} {name : ℕ} {now after : List (List ℕ)} {left : List Symbol} → Awaits sorts flows (sort_of written ∷ others) → IsDistinct bytes_eq (words_set written) →
      with_words now (words_set written) ≡ Some after → HasGrown after all → Comes from total (Item ∷ []) (outside sorts flows name now) (value_then written left) → One flows written after left
  one_read (number z) others {flows} {name} {now} a once added grown g =
      let s = outside sorts flows name now in
      one_of added (record { flow = Flow.Int z; name = name; is = refl; gets = turn g (outside sorts (flows ++ Flow.Int z ∷ []) name now) (After ∷ []) (item_is s sort.Int (value_symbol (Value.Int z)) (awaited a) refl ∙ number_is s z) })
  one_read (truth b) others {flows} {name} {now} a once added grown g =
      let s = outside sorts flows name now in
      one_of added (record { flow = Flow.Bool b; name = name; is = refl; gets = turn g (outside sorts (flows ++ Flow.Bool b ∷ []) name now) (After ∷ []) (item_is s sort.Bool (value_symbol (Value.Bool b)) (awaited a) refl ∙ truth_is s b) })
  one_read (either v) others {flows} {name} {now} a once added grown g =
      let s = outside sorts flows name now in
      one_of added (record { flow = Flow.Val v; name = name; is = refl; gets = turn g (outside sorts (flows ++ Flow.Val v ∷ []) name now) (After ∷ []) (item_is s sort.Val (value_symbol v) (awaited a) (no_close v) ∙ either_is s v) })
  one_read (store entries) others {flows} {name} {now} a once added grown g =
      let s = outside sorts flows name now in
      let begun = turn g s (FirstName ∷ After ∷ []) (item_is s sort.Store (Plain token.LeftBrace) (awaited a) refl ∙ store_is s) in
      let r = store_read entries (record { once = once; added = added; grown = grown }) begun in
      record { flow = Flow.Store r.places; name = r.name; is = ap Flow.Store (padded_is all entries r.places r.holds); gets = r.gets }

  -- values that are left, and the names that they add
  record ValuesFit (flows : List Flow) (now after : List (List ℕ)) (values : List Written) : Type 0 where
    awaits : Awaits sorts flows (map sort_of values)
    once : All (λ value. IsDistinct bytes_eq (words_set value)) values
    added : with_words now (flat_map words_set values) ≡ Some after
    grown : HasGrown after all

  many_end : {flows : List Flow} {name : ℕ} {now after : List (List ℕ)} {left : List Symbol} (place : Expected) → ((s : Reading) → next_sort s ≡ None → step s place (Plain token.RightParen) ≡ met s []) → ValuesFit flows now after [] →
      Comes from total (place ∷ []) (outside sorts flows name now) (Plain token.RightParen ∷ left) → Many flows [] after left
  many_end {flows} {name} {now} {after} {left} place is f g =
      let P : List (List ℕ) → Type 0 = λ names. Many flows [] names left in
      let Q : List Flow → Type 0 = λ flows. Comes from total [] (outside sorts flows name now) left in
      let s = outside sorts flows name now in
      subst P (same_Some now after f.added) (record { others = []; name = name; are = refl; gets = subst Q (sym (append-nil flows)) (turn g s [] (is s (awaited f.awaits))) })

  -- a value was read, and then the others
  both : {flows : List Flow} {written : Written} {values : List Written} {middle after : List (List ℕ)} {left right : List Symbol} (o : One flows written middle left) → Many (flows ++ o.flow ∷ []) values after right → Many flows (written ∷ values) after right
  both {flows} {written} {values} {after = after} {right = right} o m =
      let P : List Flow → Type 0 = λ flows. Comes from total [] (outside sorts flows m.name after) right in
      record {
        others = o.flow ∷ m.others;
        name = m.name;
        are = ap (λ flow. flow ∷ map (padded_flow (length all)) m.others) o.is ∙ ap (λ flows. flow_of all written ∷ flows) m.are;
        gets = subst P (append_assoc flows (o.flow ∷ []) m.others) m.gets;
      }

  -- a value was read, and others are left
  record Front (flows : List Flow) (written : Written) (values : List Written) (after : List (List ℕ)) (left : List Symbol) : Type 0 where
    names : List (List ℕ)
    one : One flows written names left
    fit : ValuesFit (flows ++ one.flow ∷ []) names after values

  front_read : (written : Written) (values : List Written) {flows : List Flow} {name : ℕ} {now after : List (List ℕ)} {left : List Symbol} → ValuesFit flows now after (written ∷ values) →
      Comes from total (Item ∷ []) (outside sorts flows name now) (value_then written left) → Front flows written values after left
  front_read written values {now = now} {after = after} f g =
      let w = front_added now (words_set written) (flat_map words_set values) after f.added in
      let once = All-head (λ value. IsDistinct bytes_eq (words_set value)) written values f.once in
      let o = one_read written (map sort_of values) f.awaits once w.first (grown_more (words_grow w.middle (flat_map words_set values) after w.others) f.grown) g in
      record {
        names = w.middle;
        one = o;
        fit = record { awaits = got o.flow f.awaits; once = All-tail (λ value. IsDistinct bytes_eq (words_set value)) written values f.once; added = w.others; grown = f.grown };
      }

  more_read : (values : List Written) {flows : List Flow} {name : ℕ} {now after : List (List ℕ)} {left : List Symbol} → ValuesFit flows now after values →
      Comes from total (After ∷ []) (outside sorts flows name now) (more values left) → Many flows values after left
  more_read [] f g = many_end After after_ends f g
  more_read (written ∷ values) {flows = flows} {name = name} {now = now} f g =
      let s = outside sorts flows name now in
      let w = front_read written values f (turn g s (Item ∷ []) (comma_is s (sort_of written) (awaited f.awaits))) in
      both w.one (more_read values w.fit w.one.gets)

  values_read : (values : List Written) {flows : List Flow} {name : ℕ} {now after : List (List ℕ)} {left : List Symbol} → ValuesFit flows now after values →
      Comes from total (Item ∷ []) (outside sorts flows name now) (inside values left) → Many flows values after left
  values_read [] f g = many_end Item item_ends f g
  values_read (written ∷ values) f g =
      let w = front_read written values f g in
      both w.one (more_read values w.fit w.one.gets)

abbrev read_to : List Flow → List (List ℕ) → ℕ → Result (ReadTuple × ℕ) (TupleError × ℕ)
read_to tuple names end = Ok (record { tuple = tuple; names = names }, end)

told_is : (from : Answer) (state : Reading) (at end : ℕ) (tuple : List Flow) → from ≡ Ok (state, at) → map (padded_flow (length state.names)) state.flows ≡ tuple → at ≡ end → told from ≡ read_to tuple state.names end
told_is from state at end tuple e t p = ap told e ∙ ap (λ flows. read_to flows state.names at) t ∙ ap (λ n. read_to tuple state.names n) p

pub tuples_are_read : (sorts : List FlowSort) (names : List (List ℕ)) (at : ℕ) (symbols : List Symbol) (read : ReadTuple) (end : ℕ) → IsDistinct bytes_eq names → BeginWithTuple sorts names at symbols read end →
    read_tuple sorts names at symbols ≡ Ok (read, end)
unfolding read_tuple
tuples_are_read sorts names at symbols read end different b =
    let begin = nothing sorts names in
    let from : Answer = read_symbols sorts names at symbols in
    let symbols_are : symbols ≡ Plain token.LeftParen ∷ inside b.values b.left = b.symbols_are ∙ spelling_then b.values b.left in
    let start : Comes from (at + length symbols) (Item ∷ []) begin (inside b.values b.left) =
    record { at = at + 1; is = ap (λ ss. read_symbols sorts names at ss) symbols_are ∙ open_is sorts names at (inside b.values b.left); place = omega (arith, ap length symbols_are) } in
    let all_differ = words_differ names (flat_map words_set b.values) read.names b.names_are different in
    let r = values_read sorts read.names all_differ from (at + length symbols) b.values
    (record { awaits = record { front = []; all_are = sym b.sorts_are; counted = refl }; once = b.set_once; added = b.names_are; grown = record { added = []; is = sym (append-nil read.names) } }) start in
    let place : r.gets.at ≡ end = omega (arith, r.gets.place, ap length b.symbols_are, length-append (spelling b.values) b.left, b.end_is) in
    told_is from (outside sorts r.others r.name read.names) r.gets.at end read.tuple r.gets.is (r.are ∙ sym b.tuple_is) place
