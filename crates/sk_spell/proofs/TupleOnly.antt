-- Only spelled tuples are read.
use Rattle.std.proofs.Common.{◌≡◌, ℕ, zero, suc, ◌+◌, ◌<◌, ℤ, Bool, true, false, cond, is_some, List, [], ◌∷◌, ◌++◌, length, map, get_or, refl, sym, ap, subst, ◌∙◌, arith, append_assoc, length-append, Option, Some, None, Result, Ok, Err}
use Rattle.std.specs.Prelude.{option_map}
use Rattle.std.specs.List.{IsDistinct, All, flat_map}
use Rattle.std.specs.Option.{option_map_or}
use Rattle.std.specs.Str.{bytes_eq}
use Rattle.std.proofs.lemmas.List.{append-nil}
use Rattle.std.proofs.lemmas.List.Elements.{All-nil, All-cons}
use Rattle.std.proofs.lemmas.Option.{unwrap_or-slice_get, same_Some}
use Rattle.std.proofs.lemmas.Slice.Eq.{bytes_eq-Decides}
use Rattle.sk_base.specs.Answer.{◌>>=◌}
use Rattle.sk_base.specs.Names.{with_name}
use Rattle.sk_base.specs.declared.flow.FlowSort.{FlowSort}
use Rattle.sk_base.specs.declared.flow.FlowSort.TheVariants as sort
use Rattle.sk_lex.specs.Run.{run}
use Rattle.sk_lex.specs.Symbols.{Symbol, Named, Plain, word_of, number_of, is_open, is_close, is_comma, is_equals, is_left_brace, is_right_brace}
use Rattle.sk_lex.specs.declared.token.TokenKind.TheVariants as token
use Rattle.sk_term.specs.Meets.{HasGrown}
use Rattle.sk_term.specs.Spelling.{with_words}
use Rattle.sk_term.proofs.Grown.{grown_more}
use Rattle.sk_term.proofs.Words.{adds, add_first, add_front, words_grow, words_differ}
use Rattle.sk_value.specs.Padding.{padded_flow}
use Rattle.sk_value.specs.Texts.{truth_text}
use Rattle.sk_value.specs.declared.flow.Flow.{Flow}
use Rattle.sk_value.specs.declared.value.Value.{Value}
use Rattle.sk_deriv.specs.declared.fault.TupleError.{TupleError}
use Rattle.sk_deriv.specs.declared.fault.TupleError.TheVariants.{Unexpected, WrongCount, Duplicate}
use Rattle.sk_deriv.specs.Reading as spec
use Rattle.sk_deriv.specs.Reading.{Reading, Met, ReadTuple, met, at_symbol, truth_named, truth_of, value_of, is_set, with_value, given, value, closing, item, after, named, first_name, after_name, set_to, step, tuple_rules, nothing, read_symbols, read_tuple}
use Rattle.sk_spell.specs.TupleSpelling.{Entry, Written, number, truth, either, store, sort_of, value_symbol, spelling, words_set, value_for, flow_of, BeginWithTuple}
use Rattle.sk_spell.proofs.SymbolForms.{open_is, close_is, comma_is, equals_is, left_brace_is, right_brace_is, word_is}
use Rattle.sk_spell.proofs.TupleStores.{word_of_entry, placed, set_once_more, Holds, holds_none, holds_more, padded_is}
use Rattle.sk_spell.proofs.TupleForms.{Expected, Item, After, FirstName, NextName, Equals, SetTo, AfterName, entries_inside, entries_more, value_then, more, inside, spelling_then, Answer, told, Comes, outside, within, Awaits, head_of, awaited, got}

-- What tests tell of a symbol.

number_is : (symbol : Symbol) (z : ℤ) → number_of symbol ≡ Some z → symbol ≡ value_symbol (Value.Int z)
number_is (Plain (token.Number value)) z h = ap (λ v. Plain (token.Number v)) (same_Some value z h)
number_is symbol z h = absurd (cc)

truth_word : (word : List ℕ) (b : Bool) → truth_named word ≡ Some b → word ≡ truth_text b
truth_word word b h = by (bytes_eq word (truth_text true)) (bytes_eq word (truth_text false)) refl refl h where
  by : (t f : Bool) → bytes_eq word (truth_text true) ≡ t → bytes_eq word (truth_text false) ≡ f → cond t (Some true) (cond f (Some false) None) ≡ Some b → word ≡ truth_text b
  by true f e k h = (bytes_eq-Decides word (truth_text true)).0 e ∙ ap truth_text (same_Some true b h)
  by false true e k h = (bytes_eq-Decides word (truth_text false)).0 k ∙ ap truth_text (same_Some false b h)
  by false false e k h = absurd (cc)

truth_is : (symbol : Symbol) (b : Bool) → truth_of symbol ≡ Some b → symbol ≡ value_symbol (Value.Bool b)
truth_is (Named word) b h = ap Named (truth_word word b h)
truth_is (Plain kind) b h = absurd (cc)

value_is : (symbol : Symbol) (v : Value) → value_of symbol ≡ Some v → symbol ≡ value_symbol v
value_is symbol v h = by (number_of symbol) (truth_of symbol) refl refl h where
  by : (z : Option ℤ) (b : Option Bool) → number_of symbol ≡ z → truth_of symbol ≡ b → option_map_or (λ number. Some (Value.Int number)) z (option_map Value.Bool b) ≡ Some v → symbol ≡ value_symbol v
  by (Some z) b e k h = number_is symbol z e ∙ ap value_symbol (same_Some (Value.Int z) v h)
  by None (Some b) e k h = truth_is symbol b k ∙ ap value_symbol (same_Some (Value.Bool b) v h)
  by None None e k h = absurd (cc)

-- a place that isn't set
unset_so : (o : Option Value) → is_some o ≡ false → o ≡ None
unset_so None h = refl
unset_so (Some v) h = absurd (cc)

same_names : (names : List (List ℕ)) → HasGrown names names
same_names names = record { added = []; is = sym (append-nil names) }

-- a reading that is not refused goes on so
abbrev Goes : Answer → ℕ → List Expected → List Symbol → Met → Type 0
Goes from at below left (Ok turn) = from ≡ run tuple_rules turn.more (at + 1) (turn.expected ++ below) turn.state left
Goes from at below left (Err error) = ⊥

module _ (sorts : List FlowSort) (from : Answer) (total : ℕ) (answer : Reading × ℕ) (ok : from ≡ Ok answer) where
  goes : (at : ℕ) (below : List Expected) (left : List Symbol) (m : Met) → from ≡ (at_symbol at m >>= λ turn. run tuple_rules turn.more (at + 1) (turn.expected ++ below) turn.state left) → Goes from at below left m
  goes at below left (Ok turn) e = e
  goes at below left (Err error) e = absurd (cc (sym ok ∙ e))

  turned : {one : Expected} {below : List Expected} {s : Reading} {symbol : Symbol} {left : List Symbol} (g : Comes from total (one ∷ below) s (symbol ∷ left)) → Goes from g.at below left (step s one symbol)
  turned {one} {below} {s} {symbol} {left} g = goes g.at below left (step s one symbol) g.is

  came : {es : List Expected} {s : Reading} {left : List Symbol} (at : ℕ) → from ≡ run tuple_rules 0 (at + 1) es s left → at + suc (length left) ≡ total → Comes from total es s left
  came at e p = record { at = at + 1; is = e; place = omega (arith, p) }

  not_ended : {one : Expected} {below : List Expected} {s : Reading} → Comes from total (one ∷ below) s [] → ⊥
  not_ended g = absurd (cc (sym ok ∙ g.is))

  -- a mark that stands alone
  record Marked (kind : Symbol) (below : List Expected) (s : Reading) (symbols : List Symbol) : Type 0 where
    left : List Symbol
    is : symbols ≡ kind ∷ left
    gets : Comes from total below s left

  mark_by : {kind : Symbol} {below : List Expected} {s : Reading} {left : List Symbol} (symbol : Symbol) (at : ℕ) (b : Bool) → (b ≡ true → symbol ≡ kind) → at + suc (length left) ≡ total → Goes from at below left (cond b (met s []) (Err Unexpected)) →
      Marked kind below s (symbol ∷ left)
  mark_by {left = left} symbol at true e p h = record { left = left; is = ap (λ one. one ∷ left) (e refl); gets = came at h p }
  mark_by symbol at false e p h = absurd h

  equals_read : {below : List Expected} {s : Reading} (symbols : List Symbol) → Comes from total (Equals ∷ below) s symbols → Marked (Plain token.Equals) below s symbols
  unfolding step
  equals_read [] g = absurd (not_ended g)
  equals_read (symbol ∷ left) g = mark_by symbol g.at (is_equals symbol) (equals_is symbol) g.place (turned g)

  -- An entry of a store.

  record SetTurn (es : List Expected) (flows : List Flow) (s : List (Option Value)) (name : ℕ) (now : List (List ℕ)) (symbols : List Symbol) : Type 0 where
    v : Value
    left : List Symbol
    is : symbols ≡ value_symbol v ∷ left
    gets : Comes from total es (within sorts flows (with_value s name v) name now) left

  set_by : {es : List Expected} {flows : List Flow} {s : List (Option Value)} {name : ℕ} {now : List (List ℕ)} {left : List Symbol} (symbol : Symbol) (at : ℕ) (found : Option Value) → value_of symbol ≡ found → at + suc (length left) ≡ total →
      Goes from at es left (set_to (within sorts flows s name now) found) → SetTurn es flows s name now (symbol ∷ left)
  unfolding set_to
  set_by symbol at None e p h = absurd h
  set_by {left = left} symbol at (Some v) e p h = record { v = v; left = left; is = ap (λ one. one ∷ left) (value_is symbol v e); gets = came at h p }

  set_read : {es : List Expected} {flows : List Flow} {s : List (Option Value)} {name : ℕ} {now : List (List ℕ)} (symbols : List Symbol) → Comes from total (SetTo ∷ es) (within sorts flows s name now) symbols → SetTurn es flows s name now symbols
  unfolding step
  set_read [] g = absurd (not_ended g)
  set_read (symbol ∷ left) g = set_by symbol g.at (value_of symbol) refl g.place (turned g)

  record NameTurn (es : List Expected) (flows : List Flow) (s : List (Option Value)) (now : List (List ℕ)) (symbol : Symbol) (left : List Symbol) : Type 0 where
    word : List ℕ
    place : ℕ
    names : List (List ℕ)
    is : symbol ≡ Named word
    added : with_name now word ≡ Some (place, names)
    free : get_or s place None ≡ None
    gets : Comes from total (Equals ∷ SetTo ∷ AfterName ∷ es) (within sorts flows s place names) left

  free_by : {es : List Expected} {flows : List Flow} {s : List (Option Value)} {now : List (List ℕ)} {symbol : Symbol} {left : List Symbol} (name at : ℕ) (word : List ℕ) (place : ℕ) (names : List (List ℕ)) (b : Bool) →
      symbol ≡ Named word → with_name now word ≡ Some (place, names) → is_set s place ≡ b → at + suc (length left) ≡ total →
      Goes from at es left (cond b (Err Duplicate) (met (record (within sorts flows s name now) { name = place; names = names }) (Equals ∷ SetTo ∷ AfterName ∷ []))) → NameTurn es flows s now symbol left
  free_by name at word place names true i e f p h = absurd h
  free_by {s = s} name at word place names false i e f p h = record { word = word; place = place; names = names; is = i; added = e; free = sym (unwrap_or-slice_get s place None) ∙ unset_so _ f; gets = came at h p }

  named_by : {es : List Expected} {flows : List Flow} {s : List (Option Value)} {now : List (List ℕ)} {symbol : Symbol} {left : List Symbol} (name at : ℕ) (word : List ℕ) (found : Option (ℕ × List (List ℕ))) →
      symbol ≡ Named word → with_name now word ≡ found → at + suc (length left) ≡ total → Goes from at es left (named (within sorts flows s name now) found) → NameTurn es flows s now symbol left
  named_by name at word None i e p h = absurd h
  named_by {s = s} name at word (Some (place, names)) i e p h = free_by name at word place names (is_set s place) i e refl p h

  name_by : {es : List Expected} {flows : List Flow} {s : List (Option Value)} {now : List (List ℕ)} {symbol : Symbol} {left : List Symbol} (name at : ℕ) (word : Option (List ℕ)) → word_of symbol ≡ word →
      at + suc (length left) ≡ total → Goes from at es left (spec.name (within sorts flows s name now) word) → NameTurn es flows s now symbol left
  unfolding spec.name
  name_by name at None e p h = absurd h
  name_by {now = now} {symbol = symbol} name at (Some word) e p h = named_by name at word (with_name now word) (word_is symbol word e) refl p h

  record EntryTurn (es : List Expected) (flows : List Flow) (s : List (Option Value)) (now : List (List ℕ)) (symbols : List Symbol) : Type 0 where
    entry : Entry
    place : ℕ
    names : List (List ℕ)
    left : List Symbol
    is : symbols ≡ Named entry.0 ∷ Plain token.Equals ∷ value_symbol entry.1 ∷ left
    added : with_name now entry.0 ≡ Some (place, names)
    free : get_or s place None ≡ None
    gets : Comes from total (AfterName ∷ es) (within sorts flows (with_value s place entry.1) place names) left

  entry_turn : {es : List Expected} {flows : List Flow} {s : List (Option Value)} {now : List (List ℕ)} {symbol : Symbol} {left : List Symbol} → NameTurn es flows s now symbol left → EntryTurn es flows s now (symbol ∷ left)
  entry_turn {left = left} t =
      let m = equals_read left t.gets in
      let v = set_read m.left m.gets in
      record {
        entry = (t.word, v.v);
        place = t.place;
        names = t.names;
        left = v.left;
        is = ap (λ one. one ∷ left) t.is ∙ ap (λ ss. Named t.word ∷ ss) m.is ∙ ap (λ ss. Named t.word ∷ Plain token.Equals ∷ ss) v.is;
        added = t.added;
        free = t.free;
        gets = v.gets;
      }

  -- what the entries before have set
  record SoFar (now : List (List ℕ)) (front : List Entry) (s : List (Option Value)) : Type 0 where
    different : IsDistinct bytes_eq now
    once : IsDistinct bytes_eq (map word_of_entry front)
    holds : (all : List (List ℕ)) → HasGrown now all → IsDistinct bytes_eq all → Holds all front s

  so_far : {es : List Expected} {flows : List Flow} {s : List (Option Value)} {now : List (List ℕ)} {front : List Entry} {symbols : List Symbol} → SoFar now front s → (t : EntryTurn es flows s now symbols) →
      SoFar t.names (front ++ t.entry ∷ []) (with_value s t.place t.entry.1)
  so_far {s = s} {now = now} {front = front} h t =
      let a = adds now t.entry.0 t.place t.names t.added in
      let different = a.different h.different in
      let there = placed now t.entry.0 t.place t.names t.names t.added (same_names t.names) in
      let unset : value_for front t.entry.0 ≡ None = ap (value_for front) (sym there.1) ∙ sym ((h.holds t.names a.grown different).there t.place there.0) ∙ t.free in
      record {
        different = different;
        once = set_once_more front t.entry h.once unset;
        holds = λ all g d.
            let so = placed now t.entry.0 t.place t.names all t.added g in
            holds_more all front s t.entry.0 t.entry.1 t.place d (h.holds all (grown_more a.grown g) d) so.0 so.1 unset;
      }

  -- A store.

  record HasStored (form : List Entry → List Symbol → List Symbol) (es : List Expected) (flows : List Flow) (front : List Entry) (now : List (List ℕ)) (symbols : List Symbol) : Type 0 where
    entries : List Entry
    left : List Symbol
    names : List (List ℕ)
    places : List (Option Value)
    name : ℕ
    once : IsDistinct bytes_eq (map word_of_entry (front ++ entries))
    added : with_words now (map word_of_entry entries) ≡ Some names
    holds : (all : List (List ℕ)) → HasGrown names all → IsDistinct bytes_eq all → Holds all (front ++ entries) places
    spells : symbols ≡ form entries left
    fewer : length left < length symbols
    gets : Comes from total es (outside sorts (flows ++ Flow.Store places ∷ []) name names) left

  stored_end : (form : List Entry → List Symbol → List Symbol) → ((left : List Symbol) → form [] left ≡ Plain token.RightBrace ∷ left) →
      {es : List Expected} {flows : List Flow} {s : List (Option Value)} {name : ℕ} {now : List (List ℕ)} {front : List Entry} {symbol : Symbol} {left : List Symbol} → SoFar now front s → symbol ≡ Plain token.RightBrace →
      Comes from total es (outside sorts (flows ++ Flow.Store s ∷ []) name now) left → HasStored form es flows front now (symbol ∷ left)
  stored_end form is {s = s} {name = name} {now = now} {front = front} {left = left} h e g =
      let same : front ≡ front ++ [] = sym (append-nil front) in
      record {
        entries = [];
        left = left;
        names = now;
        places = s;
        name = name;
        once = subst (λ (entries : List Entry). IsDistinct bytes_eq (map word_of_entry entries)) same h.once;
        added = refl;
        holds = λ all g d. subst (λ (entries : List Entry). Holds all entries s) same (h.holds all g d);
        spells = ap (λ one. one ∷ left) e ∙ sym (is left);
        fewer = omega arith;
        gets = g;
      }

  stored_more : (form : List Entry → List Symbol → List Symbol) {es : List Expected} {flows : List Flow} {s : List (Option Value)} {now : List (List ℕ)} {front : List Entry} {symbols : List Symbol} (whole : List Symbol) (t : EntryTurn es flows s now symbols) →
      ((others : List Entry) (left : List Symbol) → t.left ≡ entries_more others left → whole ≡ form (t.entry ∷ others) left) → length t.left < length whole →
      HasStored entries_more es flows (front ++ t.entry ∷ []) t.names t.left → HasStored form es flows front now whole
  stored_more form {now = now} {front = front} whole t spells long r =
      let same = append_assoc front (t.entry ∷ []) r.entries in
      record {
        entries = t.entry ∷ r.entries;
        left = r.left;
        names = r.names;
        places = r.places;
        name = r.name;
        once = subst (λ (entries : List Entry). IsDistinct bytes_eq (map word_of_entry entries)) same r.once;
        added = add_first now t.entry.0 (map word_of_entry r.entries) t.place t.names r.names t.added r.added;
        holds = λ all g d. subst (λ (entries : List Entry). Holds all entries r.places) same (r.holds all g d);
        spells = spells r.entries r.left r.spells;
        fewer = omega (arith, r.fewer, long);
        gets = r.gets;
      }

  -- what comes after an entry
  data AfterEntry (es : List Expected) (flows : List Flow) (s : List (Option Value)) (name : ℕ) (now : List (List ℕ)) (symbol : Symbol) (left : List Symbol) : Type 0 where
    comma : symbol ≡ Plain token.Comma → Comes from total (NextName ∷ es) (within sorts flows s name now) left → AfterEntry es flows s name now symbol left
    brace : symbol ≡ Plain token.RightBrace → Comes from total es (outside sorts (flows ++ Flow.Store s ∷ []) name now) left → AfterEntry es flows s name now symbol left

  after_entry_by : {es : List Expected} {flows : List Flow} {s : List (Option Value)} {name : ℕ} {now : List (List ℕ)} {left : List Symbol} (symbol : Symbol) (at : ℕ) (b c : Bool) → is_comma symbol ≡ b → is_right_brace symbol ≡ c → at + suc (length left) ≡ total →
      Goes from at es left (cond b (met (within sorts flows s name now) (NextName ∷ [])) (cond c (met (spec.ended (within sorts flows s name now)) []) (Err Unexpected))) → AfterEntry es flows s name now symbol left
  after_entry_by symbol at true c e f p h = comma (comma_is symbol e) (came at h p)
  after_entry_by symbol at false true e f p h = brace (right_brace_is symbol f) (came at h p)
  after_entry_by symbol at false false e f p h = absurd h

  after_entry : {es : List Expected} {flows : List Flow} {s : List (Option Value)} {name : ℕ} {now : List (List ℕ)} {symbol : Symbol} {left : List Symbol} → Comes from total (AfterName ∷ es) (within sorts flows s name now) (symbol ∷ left) →
      AfterEntry es flows s name now symbol left
  unfolding step after_name NextName
  after_entry {symbol = symbol} g = after_entry_by symbol g.at (is_comma symbol) (is_right_brace symbol) refl refl g.place (turned g)

  next_read : {es : List Expected} {flows : List Flow} {s : List (Option Value)} {name : ℕ} {now : List (List ℕ)} (symbols : List Symbol) → Comes from total (NextName ∷ es) (within sorts flows s name now) symbols → EntryTurn es flows s now symbols
  unfolding step after_name NextName
  next_read [] g = absurd (not_ended g)
  next_read {name = name} (symbol ∷ left) g = entry_turn (name_by name g.at (word_of symbol) refl g.place (turned g))

  mutual
    entries_read : (n : ℕ) (symbols : List Symbol) {es : List Expected} {flows : List Flow} {s : List (Option Value)} {name : ℕ} {now : List (List ℕ)} {front : List Entry} → length symbols < n → SoFar now front s →
        Comes from total (AfterName ∷ es) (within sorts flows s name now) symbols → HasStored entries_more es flows front now symbols
    entries_read zero symbols l h g = absurd (omega (arith, l))
    entries_read (suc n) [] l h g = absurd (not_ended g)
    entries_read (suc n) (symbol ∷ left) l h g = entries_by n left (omega (arith, l)) h (after_entry g)

    entries_by : (n : ℕ) (left : List Symbol) {es : List Expected} {flows : List Flow} {s : List (Option Value)} {name : ℕ} {now : List (List ℕ)} {front : List Entry} {symbol : Symbol} → length left < n → SoFar now front s →
        AfterEntry es flows s name now symbol left → HasStored entries_more es flows front now (symbol ∷ left)
    entries_by zero left l h g = absurd (omega (arith, l))
    entries_by (suc n) left {now = now} {front = front} l h (brace e g) = stored_end entries_more (λ left. refl) h e g
    entries_by (suc n) left {es} {flows} {s} {name} {now} {front} {symbol} l h (comma e g) =
        let t : EntryTurn es flows s now left = next_read left g in
        stored_more entries_more (symbol ∷ left) t
        (λ others rest same. ap (λ one. one ∷ left) e ∙ ap (λ ss. Plain token.Comma ∷ ss) (t.is ∙ ap (λ ss. Named t.entry.0 ∷ Plain token.Equals ∷ value_symbol t.entry.1 ∷ ss) same)) (omega (arith, ap length t.is))
        (entries_read n t.left (omega (arith, l, ap length t.is)) (so_far h t) t.gets)

  first_by : {es : List Expected} {flows : List Flow} {s : List (Option Value)} {now : List (List ℕ)} {left : List Symbol} (symbol : Symbol) (name at : ℕ) (b : Bool) → is_right_brace symbol ≡ b → at + suc (length left) ≡ total → SoFar now [] s →
      Goes from at es left (cond b (met (spec.ended (within sorts flows s name now)) []) (spec.name (within sorts flows s name now) (word_of symbol))) → HasStored entries_inside es flows [] now (symbol ∷ left)
  first_by symbol name at true e p so h = stored_end entries_inside (λ left. refl) so (right_brace_is symbol e) (came at h p)
  first_by {es} {flows} {s} {now} {left} symbol name at false e p so h =
      let t : EntryTurn es flows s now (symbol ∷ left) = entry_turn (name_by name at (word_of symbol) refl p h) in
      stored_more entries_inside (symbol ∷ left) t (λ others rest same. t.is ∙ ap (λ ss. Named t.entry.0 ∷ Plain token.Equals ∷ value_symbol t.entry.1 ∷ ss) same) (omega (arith, ap length t.is))
      (entries_read (suc (length t.left)) t.left (omega arith) (so_far so t) t.gets)

  store_read : (symbols : List Symbol) {es : List Expected} {flows : List Flow} {name : ℕ} {now : List (List ℕ)} → IsDistinct bytes_eq now → Comes from total (FirstName ∷ es) (outside sorts flows name now) symbols →
      HasStored entries_inside es flows [] now symbols
  unfolding step first_name IsDistinct
  store_read [] d g = absurd (not_ended g)
  store_read (symbol ∷ left) {name = name} d g =
      first_by symbol name g.at (is_right_brace symbol) refl g.place (record { different = d; once = tt; holds = λ all g d. holds_none all }) (turned g)

  -- A value.

  record HasOne (flows : List Flow) (now : List (List ℕ)) (wanted : FlowSort) (symbols : List Symbol) : Type 0 where
    written : Written
    flow : Flow
    name : ℕ
    names : List (List ℕ)
    left : List Symbol
    sorted : sort_of written ≡ wanted
    once : IsDistinct bytes_eq (words_set written)
    added : with_words now (words_set written) ≡ Some names
    is : (all : List (List ℕ)) → HasGrown names all → IsDistinct bytes_eq all → padded_flow (length all) flow ≡ flow_of all written
    spells : symbols ≡ value_then written left
    gets : Comes from total (After ∷ []) (outside sorts (flows ++ flow ∷ []) name names) left

  number_by : {flows : List Flow} {now : List (List ℕ)} {left : List Symbol} (symbol : Symbol) (name at : ℕ) (found : Option ℤ) → number_of symbol ≡ found → at + suc (length left) ≡ total →
      Goes from at [] left (given (outside sorts flows name now) (option_map Flow.Int found)) → HasOne flows now sort.Int (symbol ∷ left)
  unfolding IsDistinct
  number_by symbol name at None e p h = absurd h
  number_by {now = now} {left = left} symbol name at (Some z) e p h = record {
    written = number z;
    flow = Flow.Int z;
    name = name;
    names = now;
    left = left;
    sorted = refl;
    once = tt;
    added = refl;
    is = λ all g d. refl;
    spells = ap (λ one. one ∷ left) (number_is symbol z e);
    gets = came at h p;
  }

  truth_by : {flows : List Flow} {now : List (List ℕ)} {left : List Symbol} (symbol : Symbol) (name at : ℕ) (found : Option Bool) → truth_of symbol ≡ found → at + suc (length left) ≡ total →
      Goes from at [] left (given (outside sorts flows name now) (option_map Flow.Bool found)) → HasOne flows now sort.Bool (symbol ∷ left)
  unfolding IsDistinct
  truth_by symbol name at None e p h = absurd h
  truth_by {now = now} {left = left} symbol name at (Some b) e p h = record {
    written = truth b;
    flow = Flow.Bool b;
    name = name;
    names = now;
    left = left;
    sorted = refl;
    once = tt;
    added = refl;
    is = λ all g d. refl;
    spells = ap (λ one. one ∷ left) (truth_is symbol b e);
    gets = came at h p;
  }

  either_by : {flows : List Flow} {now : List (List ℕ)} {left : List Symbol} (symbol : Symbol) (name at : ℕ) (found : Option Value) → value_of symbol ≡ found → at + suc (length left) ≡ total →
      Goes from at [] left (given (outside sorts flows name now) (option_map Flow.Val found)) → HasOne flows now sort.Val (symbol ∷ left)
  unfolding IsDistinct
  either_by symbol name at None e p h = absurd h
  either_by {now = now} {left = left} symbol name at (Some v) e p h = record {
    written = either v;
    flow = Flow.Val v;
    name = name;
    names = now;
    left = left;
    sorted = refl;
    once = tt;
    added = refl;
    is = λ all g d. refl;
    spells = ap (λ one. one ∷ left) (value_is symbol v e);
    gets = came at h p;
  }

  store_by : {flows : List Flow} {now : List (List ℕ)} {left : List Symbol} (symbol : Symbol) (name at : ℕ) (b : Bool) → is_left_brace symbol ≡ b → at + suc (length left) ≡ total → IsDistinct bytes_eq now →
      Goes from at [] left (cond b (met (outside sorts flows name now) (FirstName ∷ After ∷ [])) (Err Unexpected)) → HasOne flows now sort.Store (symbol ∷ left)
  store_by symbol name at false e p d h = absurd h
  store_by {flows} {now} {left} symbol name at true e p d h =
      let on : Comes from total (FirstName ∷ After ∷ []) (outside sorts flows name now) left = came at h p in
      let r = store_read left d on in
      record {
        written = store r.entries;
        flow = Flow.Store r.places;
        name = r.name;
        names = r.names;
        left = r.left;
        sorted = refl;
        once = r.once;
        added = r.added;
        is = λ all g d. ap Flow.Store (padded_is all r.entries r.places (r.holds all g d));
        spells = ap (λ one. one ∷ left) (left_brace_is symbol e) ∙ ap (λ ss. Plain token.LeftBrace ∷ ss) r.spells;
        gets = r.gets;
      }

  value_by : (wanted : FlowSort) {flows : List Flow} {now : List (List ℕ)} {left : List Symbol} (symbol : Symbol) (name at : ℕ) → at + suc (length left) ≡ total → IsDistinct bytes_eq now →
      Goes from at [] left (value (outside sorts flows name now) wanted symbol) → HasOne flows now wanted (symbol ∷ left)
  unfolding value
  value_by sort.Int symbol name at p d h = number_by symbol name at (number_of symbol) refl p h
  value_by sort.Bool symbol name at p d h = truth_by symbol name at (truth_of symbol) refl p h
  value_by sort.Val symbol name at p d h = either_by symbol name at (value_of symbol) refl p h
  value_by sort.Store symbol name at p d h = store_by symbol name at (is_left_brace symbol) refl p d h

  not_true : (at : ℕ) (es : List Expected) (left : List Symbol) (m : Met) (b : Bool) → Goes from at es left (cond b (Err WrongCount) m) → Goes from at es left m
  not_true at es left m true h = absurd h
  not_true at es left m false h = h

  item_some : (at : ℕ) (left : List Symbol) (s : Reading) (wanted : FlowSort) (symbol : Symbol) → Goes from at [] left (item s (Some wanted) symbol) → Goes from at [] left (value s wanted symbol)
  unfolding item
  item_some at left s wanted symbol h = not_true at [] left (value s wanted symbol) (is_close symbol) h

  item_none : (at : ℕ) (left : List Symbol) (s : Reading) (symbol : Symbol) → Goes from at [] left (item s None symbol) → Goes from at [] left (closing s symbol)
  unfolding item
  item_none at left s symbol h = h

  after_none : (at : ℕ) (left : List Symbol) (s : Reading) (symbol : Symbol) → Goes from at [] left (after s None symbol) → Goes from at [] left (closing s symbol)
  unfolding after
  after_none at left s symbol h = h

  item_turn : {flows : List Flow} {name : ℕ} {now : List (List ℕ)} {wanted : List FlowSort} {symbol : Symbol} {left : List Symbol} (g : Comes from total (Item ∷ []) (outside sorts flows name now) (symbol ∷ left)) → Awaits sorts flows wanted →
      Goes from g.at [] left (item (outside sorts flows name now) (head_of wanted) symbol)
  unfolding step after Item
  item_turn {flows} {name} {now} {symbol = symbol} {left = left} g a = subst (λ (o : Option FlowSort). Goes from g.at [] left (item (outside sorts flows name now) o symbol)) (awaited a) (turned g)

  after_turn : {flows : List Flow} {name : ℕ} {now : List (List ℕ)} {wanted : List FlowSort} {symbol : Symbol} {left : List Symbol} (g : Comes from total (After ∷ []) (outside sorts flows name now) (symbol ∷ left)) → Awaits sorts flows wanted →
      Goes from g.at [] left (after (outside sorts flows name now) (head_of wanted) symbol)
  unfolding step
  after_turn {flows} {name} {now} {symbol = symbol} {left = left} g a = subst (λ (o : Option FlowSort). Goes from g.at [] left (after (outside sorts flows name now) o symbol)) (awaited a) (turned g)

  item_read : (wanted : FlowSort) (others : List FlowSort) (symbols : List Symbol) {flows : List Flow} {name : ℕ} {now : List (List ℕ)} → Awaits sorts flows (wanted ∷ others) → IsDistinct bytes_eq now →
      Comes from total (Item ∷ []) (outside sorts flows name now) symbols → HasOne flows now wanted symbols
  item_read wanted others [] a d g = absurd (not_ended g)
  item_read wanted others (symbol ∷ left) {flows = flows} {name = name} {now = now} a d g =
      value_by wanted symbol name g.at g.place d (item_some g.at left (outside sorts flows name now) wanted symbol (item_turn g a))

  refused : (at : ℕ) (left : List Symbol) (b : Bool) → Goes from at [] left (cond b (Err WrongCount) (Err Unexpected)) → ⊥
  refused at left true h = h
  refused at left false h = h

  comma_by : {s : Reading} {left : List Symbol} (symbol : Symbol) (at : ℕ) (b : Bool) → is_comma symbol ≡ b → at + suc (length left) ≡ total → Goes from at [] left (cond b (met s (Item ∷ [])) (cond (is_close symbol) (Err WrongCount) (Err Unexpected))) →
      (symbol ≡ Plain token.Comma) × Comes from total (Item ∷ []) s left
  comma_by symbol at true e p h = (comma_is symbol e, came at h p)
  comma_by {left = left} symbol at false e p h = absurd (refused at left (is_close symbol) h)

  after_some : {s : Reading} {left : List Symbol} (wanted : FlowSort) (symbol : Symbol) (at : ℕ) → at + suc (length left) ≡ total → Goes from at [] left (after s (Some wanted) symbol) →
      (symbol ≡ Plain token.Comma) × Comes from total (Item ∷ []) s left
  unfolding after Item
  after_some wanted symbol at p h = comma_by symbol at (is_comma symbol) refl p h

  -- The values up to the end.

  record HasMany (form : List Written → List Symbol → List Symbol) (flows : List Flow) (now : List (List ℕ)) (wanted : List FlowSort) (symbols : List Symbol) : Type 0 where
    values : List Written
    others : List Flow
    name : ℕ
    names : List (List ℕ)
    left : List Symbol
    sorted : map sort_of values ≡ wanted
    once : All (λ value. IsDistinct bytes_eq (words_set value)) values
    added : with_words now (flat_map words_set values) ≡ Some names
    are : (all : List (List ℕ)) → HasGrown names all → IsDistinct bytes_eq all → map (padded_flow (length all)) others ≡ map (flow_of all) values
    spells : symbols ≡ form values left
    gets : Comes from total [] (outside sorts (flows ++ others) name names) left

  close_by : (form : List Written → List Symbol → List Symbol) → ((left : List Symbol) → form [] left ≡ Plain token.RightParen ∷ left) → {flows : List Flow} {now : List (List ℕ)} {left : List Symbol} (symbol : Symbol) (name at : ℕ) (b : Bool) → is_close symbol ≡ b →
      at + suc (length left) ≡ total → Goes from at [] left (cond b (met (outside sorts flows name now) []) (cond (is_comma symbol) (Err WrongCount) (Err Unexpected))) → HasMany form flows now [] (symbol ∷ left)
  close_by form is {flows} {now} {left} symbol name at true e p h =
      let P : List Flow → Type 0 = λ flows. Comes from total [] (outside sorts flows name now) left in
      record {
        values = [];
        others = [];
        name = name;
        names = now;
        left = left;
        sorted = refl;
        once = All-nil (λ value. IsDistinct bytes_eq (words_set value));
        added = refl;
        are = λ all g d. refl;
        spells = ap (λ one. one ∷ left) (close_is symbol e) ∙ sym (is left);
        gets = subst P (sym (append-nil flows)) (came at h p);
      }
  close_by form is {left = left} symbol name at false e p h = absurd (refused at left (is_comma symbol) h)

  many_more : (form : List Written → List Symbol → List Symbol) {flows : List Flow} {now : List (List ℕ)} {wanted : FlowSort} {rest : List FlowSort} {symbols : List Symbol} (whole : List Symbol) (o : HasOne flows now wanted symbols) →
      ((others : List Written) (left : List Symbol) → o.left ≡ more others left → whole ≡ form (o.written ∷ others) left) → HasMany more (flows ++ o.flow ∷ []) o.names rest o.left → HasMany form flows now (wanted ∷ rest) whole
  many_more form {flows} {now} {wanted} {rest} whole o spells m =
      let P : List Flow → Type 0 = λ flows. Comes from total [] (outside sorts flows m.name m.names) m.left in
      record {
        values = o.written ∷ m.values;
        others = o.flow ∷ m.others;
        name = m.name;
        names = m.names;
        left = m.left;
        sorted = ap (λ s. s ∷ map sort_of m.values) o.sorted ∙ ap (λ rest. wanted ∷ rest) m.sorted;
        once = All-cons (λ value. IsDistinct bytes_eq (words_set value)) o.written m.values o.once m.once;
        added = add_front now (words_set o.written) (flat_map words_set m.values) o.names m.names o.added m.added;
        are = λ all g d.
            ap (λ flow. flow ∷ map (padded_flow (length all)) m.others) (o.is all (grown_more (words_grow o.names (flat_map words_set m.values) m.names m.added) g) d) ∙ ap (λ flows. flow_of all o.written ∷ flows) (m.are all g d);
        spells = spells m.values m.left m.spells;
        gets = subst P (append_assoc flows (o.flow ∷ []) m.others) m.gets;
      }

  more_read : (wanted : List FlowSort) (symbols : List Symbol) {flows : List Flow} {name : ℕ} {now : List (List ℕ)} → Awaits sorts flows wanted → IsDistinct bytes_eq now → Comes from total (After ∷ []) (outside sorts flows name now) symbols →
      HasMany more flows now wanted symbols
  more_read wanted [] a d g = absurd (not_ended g)
  more_read [] (symbol ∷ left) {flows} {name} {now} a d g =
      close_by more (λ left. refl) symbol name g.at (is_close symbol) refl g.place (after_none g.at left (outside sorts flows name now) symbol (after_turn g a))
  more_read (wanted ∷ rest) (symbol ∷ left) {flows} {name} {now} a d g =
      let c = after_some wanted symbol g.at g.place (after_turn g a) in
      let o : HasOne flows now wanted left = item_read wanted rest left a d c.1 in
      many_more more (symbol ∷ left) o (λ others rest same. ap (λ one. one ∷ left) c.0 ∙ ap (λ ss. Plain token.Comma ∷ ss) (o.spells ∙ ap (λ ss. value_then o.written ss) same))
      (more_read rest o.left (let b : Awaits sorts flows (sort_of o.written ∷ rest) = subst (λ (s : FlowSort). Awaits sorts flows (s ∷ rest)) (sym o.sorted) a in got o.flow b) (words_differ now (words_set o.written) o.names o.added d) o.gets)

  inside_read : (wanted : List FlowSort) (symbols : List Symbol) {flows : List Flow} {name : ℕ} {now : List (List ℕ)} → Awaits sorts flows wanted → IsDistinct bytes_eq now → Comes from total (Item ∷ []) (outside sorts flows name now) symbols →
      HasMany inside flows now wanted symbols
  inside_read wanted [] a d g = absurd (not_ended g)
  inside_read [] (symbol ∷ left) {flows} {name} {now} a d g =
      close_by inside (λ left. refl) symbol name g.at (is_close symbol) refl g.place (item_none g.at left (outside sorts flows name now) symbol (item_turn g a))
  inside_read (wanted ∷ rest) (symbol ∷ left) {flows} {name} {now} a d g =
      let o : HasOne flows now wanted (symbol ∷ left) = item_read wanted rest (symbol ∷ left) a d g in
      many_more inside (symbol ∷ left) o (λ others rest same. o.spells ∙ ap (λ ss. value_then o.written ss) same) (more_read rest o.left (got o.flow a) (words_differ now (words_set o.written) o.names o.added d) o.gets)

  -- the whole tuple
  record WholeRead (names : List (List ℕ)) (begin : ℕ) (symbols : List Symbol) : Type 0 where
    read : ReadTuple
    end : ℕ
    is : told from ≡ Ok (read, end)
    begins_so : BeginWithTuple sorts names begin symbols read end

  -- after the `(`
  whole_read : (names : List (List ℕ)) (begin : ℕ) (symbols left : List Symbol) → IsDistinct bytes_eq names → begin + length symbols ≡ total → symbols ≡ Plain token.LeftParen ∷ left → Comes from total (Item ∷ []) (nothing sorts names) left →
      WholeRead names begin symbols
  whole_read names begin symbols left d long o g =
      let a : Awaits sorts [] sorts = record { front = []; all_are = refl; counted = refl } in
      let m = inside_read sorts left a d g in
      let spelled_as : symbols ≡ spelling m.values ++ m.left = o ∙ ap (λ ss. Plain token.LeftParen ∷ ss) m.spells ∙ sym (spelling_then m.values m.left) in
      record {
        read = record { tuple = map (padded_flow (length m.names)) m.others; names = m.names };
        end = m.gets.at;
        is = ap told m.gets.is;
        begins_so = record {
          values = m.values;
          sorts_are = m.sorted;
          set_once = m.once;
          names_are = m.added;
          tuple_is = m.are m.names (same_names m.names) (words_differ names (flat_map words_set m.values) m.names m.added d);
          left = m.left;
          symbols_are = spelled_as;
          end_is = omega (arith, m.gets.place, long, ap length spelled_as, length-append (spelling m.values) m.left);
        };
      }

-- a reading that was not refused began with a `(`
record HasBegun (sorts : List FlowSort) (names : List (List ℕ)) (at : ℕ) (symbols : List Symbol) : Type 0 where
  left : List Symbol
  is : symbols ≡ Plain token.LeftParen ∷ left
  gets : read_symbols sorts names at symbols ≡ run tuple_rules 0 (at + 1) (Item ∷ []) (nothing sorts names) left

abbrev begun_as : List FlowSort → List (List ℕ) → ℕ → List Symbol → Met → Answer
begun_as sorts names at left m = at_symbol at m >>= λ turn. run tuple_rules turn.more (at + 1) (turn.expected ++ Item ∷ []) turn.state left

begun_by : (sorts : List FlowSort) (names : List (List ℕ)) (at : ℕ) (symbol : Symbol) (left : List Symbol) (answer : Reading × ℕ) (b : Bool) → is_open symbol ≡ b →
    read_symbols sorts names at (symbol ∷ left) ≡ begun_as sorts names at left (cond b (met (nothing sorts names) []) (Err Unexpected)) → read_symbols sorts names at (symbol ∷ left) ≡ Ok answer → HasBegun sorts names at (symbol ∷ left)
begun_by sorts names at symbol left answer true e h ok = record { left = left; is = ap (λ one. one ∷ left) (open_is symbol e); gets = h }
begun_by sorts names at symbol left answer false e h ok = absurd (cc (sym ok ∙ h))

begun_so : (sorts : List FlowSort) (names : List (List ℕ)) (at : ℕ) (symbols : List Symbol) (answer : Reading × ℕ) → read_symbols sorts names at symbols ≡ Ok answer → HasBegun sorts names at symbols
unfolding read_symbols step after Item
begun_so sorts names at [] answer ok = absurd (cc ok)
begun_so sorts names at (symbol ∷ left) answer ok = begun_by sorts names at symbol left answer (is_open symbol) refl refl ok

told_so : (from : Answer) (read : ReadTuple) (end : ℕ) → told from ≡ Ok (read, end) → (answer : Reading × ℕ) × (from ≡ Ok answer)
told_so (Ok answer) read end h = (answer, refl)
told_so (Err error) read end h = absurd (cc h)

abbrev Begins : List FlowSort → List (List ℕ) → ℕ → List Symbol → Result (ReadTuple × ℕ) (TupleError × ℕ) → Type 0
Begins sorts names at symbols (Ok (read, end)) = BeginWithTuple sorts names at symbols read end
Begins sorts names at symbols (Err error) = Unit {0}

pub only_tuples_are_read : (sorts : List FlowSort) (names : List (List ℕ)) (at : ℕ) (symbols : List Symbol) (read : ReadTuple) (end : ℕ) → IsDistinct bytes_eq names → read_tuple sorts names at symbols ≡ Ok (read, end) →
    BeginWithTuple sorts names at symbols read end
unfolding read_tuple
only_tuples_are_read sorts names at symbols read end d h =
    let from : Answer = read_symbols sorts names at symbols in
    let r = told_so from read end h in
    let o = begun_so sorts names at symbols r.0 r.1 in
    let w = whole_read sorts from (at + length symbols) r.0 r.1 names at symbols o.left d refl o.is (record { at = at + 1; is = o.gets; place = omega (arith, ap length o.is) }) in
    subst (λ (answer : Result (ReadTuple × ℕ) (TupleError × ℕ)). Begins sorts names at symbols answer) (sym {b = Ok (w.read, w.end)} w.is ∙ h) w.begins_so
