-- Only spelled abstract tuples are read.
use Rattle.std.proofs.Common.{◌≡◌, ℕ, zero, suc, ◌+◌, ◌-◌, ◌<◌, ◌≤◌, Bool, true, false, cond, List, [], ◌∷◌, ◌++◌, length, map, refl, sym, ap, subst, ◌∙◌, arith, append_assoc, length-append, append-nil, Option, Some, None, Result, Ok, Err, inl, inr}
use Rattle.std.specs.Prelude.{All, slice_get, ◌⊎◌}
use Rattle.std.specs.List.{flat_map, list_any, IsDistinct}
use Rattle.std.specs.Str.{bytes_eq}
use Rattle.std.proofs.lemmas.List.Elements.{All-nil, All-cons}
use Rattle.sk_base.specs.Answer.{◌>>=◌}
use Rattle.sk_base.specs.declared.flow.FlowSort.{FlowSort}
use Rattle.sk_base.specs.declared.flow.FlowSort.TheVariants as sort
use Rattle.sk_lex.specs.Run.{run}
use Rattle.sk_lex.specs.Symbols.{Symbol, Named, Plain, word_of, is_open, is_close, is_comma, is_equals, is_slash, is_question, is_left_brace, is_right_brace}
use Rattle.sk_lex.specs.declared.token.TokenKind.TheVariants as token
use Rattle.sk_term.specs.Meets.{HasGrown}
use Rattle.sk_term.proofs.Words.{adds, words_differ}
use Rattle.sk_term.proofs.Grown.{grown_more}
use Rattle.sk_lattice.specs.Domain.{Domain}
use Rattle.sk_lattice.specs.DomainTexts.{DomainTexts}
use Rattle.sk_lattice.specs.Empty.{store_of, flow_is_empty, is_proper}
use Rattle.sk_lattice.specs.Padding.{padded_flow}
use Rattle.sk_lattice.specs.Texts.{bool_text}
use Rattle.sk_lattice.specs.declared.truth.AbsBool.{AbsBool}
use Rattle.sk_lattice.specs.declared.value.AbsVal.{AbsVal}
use Rattle.sk_lattice.specs.declared.cell.AbsCell.{AbsCell}
use Rattle.sk_lattice.specs.declared.store.AbsStore.TheVariants as store
use Rattle.sk_lattice.specs.declared.flow.AbsFlow.{AbsFlow}
use Rattle.sk_lattice.specs.declared.flow.AbsFlow.TheVariants as flow
use Rattle.sk_table.specs.declared.fault.TableError.{TableError}
use Rattle.sk_table.specs.declared.fault.TableError.TheVariants as error
use Rattle.sk_table.specs.Tuples as spec
use Rattle.sk_table.specs.Tuples.{Reading, ReadTuple, met, refused, more_taken, element_at, with_element, with_flow, with_num, truths_of, is_none_word, value, closing, after, all_cells, ended, is_listed, with_cell, place_for, named, mark, step, tuple_rules, nothing, read_symbols, read_tuple}
use Rattle.sk_table.proofs.Turns.{Gets, turn, long_turn, left_is}
use Rattle.sk_spell.specs.AbsTupleSpelling.{WrittenFlow, Number, Truths, Parts, Cells, NoStore, sort_of, names_listed, flow_of, BeginWithNumber, mark_symbols, BeginWithCell, BeginWithMore, BeginWithPieces, BeginWithFlow, BeginWithAbsTuple}
use Rattle.sk_spell.proofs.AbsTupleCells.{added_spot, written, Lists, lists_none, lists_grown, lists_one, listed_so, with_one, store_meant, is_none}
use Rattle.sk_spell.proofs.AbsTupleNames.{same_names, Placed, placed_so, Adding, adding_first, adding_front, adding_none, names_of, distinct_one}
use Rattle.sk_spell.proofs.AbsTupleForms.{IsTaken, Answer, told, told_is, read_to, reached, run_ends, Wants, next_is, wants_more, IsOnce, paddings_are_empty, all_proper}
use Rattle.sk_spell.proofs.AbsTupleGrammar.{Expected, Grammar, grammar, truth_met, with_bool, with_val, with_truth, with_name, then_is, else_is, first_is, second_is, third_is}
use Rattle.sk_spell.proofs.SymbolForms.{open_is, close_is, comma_is, equals_is, slash_is, question_is, left_brace_is, right_brace_is, word_is}
use Rattle.sk_spell.proofs.TruthForms.{none_is, truths_is}
use Rattle.sk_spell.proofs.AbsTupleSteps.{IsSome, item_step}

-- a list in two parts
record Split {A : Type 0} (xs : List A) (n : ℕ) : Type 0 where
  front : List A
  back : List A
  are : xs ≡ front ++ back
  counted : length front ≡ n

split : {A : Type 0} (xs : List A) (n : ℕ) → n ≤ length xs → Split xs n
split xs zero h = record { front = []; back = xs; are = refl; counted = refl }
split [] (suc n) h = absurd (omega (arith, h))
split (x ∷ xs) (suc n) h = let s = split xs n (omega (arith, h)) in record { front = x ∷ s.front; back = s.back; are = ap (λ ys. x ∷ ys) s.are; counted = ap suc s.counted }

module _ {D : Type 0} (d : Domain D) (t : DomainTexts D) (taken : IsTaken t) (w : Grammar d t) (known : Bool) (sorts : List FlowSort) (from : Answer D) (total : ℕ) (answer : Reading D × ℕ) (ok : from ≡ Ok answer) where
  abbrev Names : Type 0
  Names = List (List ℕ)

  abbrev Flows : Type 0
  Flows = List (AbsFlow D)

  abbrev Entries : Type 0
  Entries = List (List ℕ × AbsCell D)

  abbrev CellList : Type 0
  CellList = List (Option (AbsCell D))

  abbrev Stack : Type 0
  Stack = List (Expected d t)

  abbrev there : Flows → CellList → ℕ → D → AbsBool → Names → Reading D
  there = reached known sorts

  abbrev Comes : Stack → Reading D → List Symbol → Type 0
  Comes = Gets (tuple_rules d t) from total

  not_ended : {one : Expected d t} {below : Stack} {s : Reading D} → Comes (one ∷ below) s [] → ⊥
  not_ended g = absurd (cc (sym ok ∙ g.is))

  not_refused : {one : Expected d t} {below : Stack} {s : Reading D} {symbol : Symbol} {left : List Symbol} (g : Comes (one ∷ below) s (symbol ∷ left)) (e : TableError × ℕ) →
      step d t s one g.at symbol left ≡ Err e → ⊥
  not_refused {below = below} {left = left} g e h =
      let no : from ≡ Err e = g.is ∙ ap (λ m. m >>= λ turn. run (tuple_rules d t) turn.more (g.at + 1) (turn.expected ++ below) turn.state left) h in
      absurd (cc (sym ok ∙ no))

  -- a sign that stands alone
  alone_so : {one : Expected d t} {below : Stack} {s : Reading D} {symbol : Symbol} {left : List Symbol} (test : Bool) (g : Comes (one ∷ below) s (symbol ∷ left)) →
      step d t s one g.at symbol left ≡ spec.alone s g.at test →
      (test ≡ true) × Comes below s left
  alone_so {s = s} true g e = (refl, turn g s [] e)
  alone_so false g e = absurd (not_refused g (error.Unexpected, g.at) e)

  -- these symbols begin with this one, and the reading comes to what follows it
  abbrev Passes : Symbol → Stack → Reading D → List Symbol → Type 0
  Passes symbol below s symbols = (left : List Symbol) × (symbols ≡ symbol ∷ left) × Comes below s left

  open_read : {below : Stack} {s : Reading D} (symbols : List Symbol) → Comes (w.at_open ∷ below) s symbols → Passes (Plain token.LeftParen) below s symbols
  open_read [] g = absurd (not_ended g)
  open_read {s = s} (symbol ∷ left) g =
      let a = alone_so (is_open symbol) g (w.opens s g.at symbol left) in
      (left, ap (λ one. one ∷ left) (open_is symbol a.0), a.1)

  equals_read : {below : Stack} {s : Reading D} (symbols : List Symbol) → Comes (w.at_equals ∷ below) s symbols → Passes (Plain token.Equals) below s symbols
  equals_read [] g = absurd (not_ended g)
  equals_read {s = s} (symbol ∷ left) g =
      let a = alone_so (is_equals symbol) g (w.equals s g.at symbol left) in
      (left, ap (λ one. one ∷ left) (equals_is symbol a.0), a.1)

  slash_read : {below : Stack} {s : Reading D} (symbols : List Symbol) → Comes (w.at_slash ∷ below) s symbols → Passes (Plain token.Slash) below s symbols
  slash_read [] g = absurd (not_ended g)
  slash_read {s = s} (symbol ∷ left) g =
      let a = alone_so (is_slash symbol) g (w.slashes s g.at symbol left) in
      (left, ap (λ one. one ∷ left) (slash_is symbol a.0), a.1)

  -- a number
  record NumberRead (below : Stack) (state : D → Reading D) (symbols : List Symbol) : Type 0 where
    element : D
    left : List Symbol
    begins : BeginWithNumber t element symbols left
    fewer : length left < length symbols
    gets : Comes below (state element) left

  number_so : {one : Expected d t} {below : Stack} {s : Reading D} {symbol : Symbol} {others : List Symbol} (state : D → Reading D) (next : Stack) →
      ((at : ℕ) (left : List Symbol) → step d t s one at symbol left ≡ with_element state next (element_at t at (symbol ∷ left))) → Comes (one ∷ below) s (symbol ∷ others) →
      NumberRead (next ++ below) state (symbol ∷ others)
  number_so {one} {below} {s} {symbol} {others} state next e g = by (t.taken (symbol ∷ others)) refl where
    by : (r : Result (D × ℕ) ℕ) → t.taken (symbol ∷ others) ≡ r → NumberRead (next ++ below) state (symbol ∷ others)
    by (Err count) f = absurd (not_refused g (error.Unexpected, g.at + count) (e g.at others ∙ ap (λ r. with_element state next (more_taken g.at r)) f))
    by (Ok (element, count)) f =
        let P : Result (D × ℕ) ℕ → Type 0 = IsSome (symbol ∷ others) in
        let within : (0 < count) × (count ≤ length (symbol ∷ others)) = subst P f (taken (symbol ∷ others)) in
        let p = split others (count - 1) (omega (arith, within)) in
        let are : symbol ∷ others ≡ symbol ∷ (p.front ++ p.back) = ap (λ ss. symbol ∷ ss) p.are in
        let g2 = left_is g are in
        let met_so = e g2.at (p.front ++ p.back) ∙ ap (λ r. with_element state next (more_taken g2.at r)) (ap t.taken (sym are) ∙ f) in
        record {
          element = element;
          left = p.back;
          begins = record { own = symbol ∷ p.front; symbols_are = are; is_read = f ∙ ap (λ (n : ℕ). Ok (element, n)) (omega (arith, p.counted, within)) };
          fewer = omega (arith, ap length p.are, length-append p.front p.back);
          gets = long_turn p.front g2 (state element) next (met_so ∙ ap (λ (n : ℕ). Ok (record { expected = next; state = state element; more = n })) (sym p.counted));
        }

  -- a set of truth values
  record TruthRead (below : Stack) (state : AbsBool → Reading D) (symbol : Symbol) (left : List Symbol) : Type 0 where
    set : AbsBool
    is : symbol ≡ Named (bool_text set)
    gets : Comes below (state set) left

  truth_so : {one : Expected d t} {below : Stack} {s : Reading D} {symbol : Symbol} {left : List Symbol} (state : AbsBool → Reading D) (next : Stack) (g : Comes (one ∷ below) s (symbol ∷ left)) →
      step d t s one g.at symbol left ≡ truth_met d t state next g.at (truths_of symbol) → TruthRead (next ++ below) state symbol left
  truth_so {one} {below} {s} {symbol} {left} state next g e = by (truths_of symbol) refl where
    by : (found : Option AbsBool) → truths_of symbol ≡ found → TruthRead (next ++ below) state symbol left
    by None f = absurd (not_refused g (error.Unexpected, g.at) (e ∙ ap (truth_met d t state next g.at) f))
    by (Some set) f = record { set = set; is = truths_is symbol set f; gets = turn g (state set) next (e ∙ ap (truth_met d t state next g.at) f) }

  val_truth_read : {below : Stack} {s : Reading D} (symbols : List Symbol) → Comes (w.at_truth ∷ below) s symbols →
      (set : AbsBool) × (left : List Symbol) × (symbols ≡ Named (bool_text set) ∷ left) × Comes below (with_val s set) left
  val_truth_read [] g = absurd (not_ended g)
  val_truth_read {s = s} (symbol ∷ left) g = let r = truth_so (with_val s) [] g (w.truth_parts s g.at symbol left) in (r.set, left, ap (λ one. one ∷ left) r.is, r.gets)

  cell_truth_read : {below : Stack} {s : Reading D} (symbols : List Symbol) → Comes (w.at_cell_truth ∷ below) s symbols →
      (set : AbsBool) × (left : List Symbol) × (symbols ≡ Named (bool_text set) ∷ left) × Comes below (with_truth s set) left
  cell_truth_read [] g = absurd (not_ended g)
  cell_truth_read {s = s} (symbol ∷ left) g = let r = truth_so (with_truth s) [] g (w.cell_truths s g.at symbol left) in (r.set, left, ap (λ one. one ∷ left) r.is, r.gets)

  -- a mark, or none
  record MarkRead (below : Stack) (s : Reading D) (symbols : List Symbol) : Type 0 where
    unset : Bool
    left : List Symbol
    are : symbols ≡ mark_symbols unset ++ left
    gets : Comes (w.at_after_name ∷ below) (with_cell s unset) left

  mark_read : {below : Stack} {s : Reading D} (symbols : List Symbol) → Comes (w.at_mark ∷ below) s symbols → MarkRead below s symbols
  mark_read [] g = absurd (not_ended g)
  mark_read {below} {s} (symbol ∷ left) g = by (is_question symbol) refl where
    by : (b : Bool) → is_question symbol ≡ b → MarkRead below s (symbol ∷ left)
    by true e = record {
      unset = true;
      left = left;
      are = ap (λ one. one ∷ left) (question_is symbol e);
      gets = turn g (with_cell s true) (w.at_after_name ∷ []) (w.marks s g.at symbol left ∙ then_is _ _ e);
    }
    by false e = record {
      unset = false;
      left = symbol ∷ left;
      are = refl;
      gets = record {
        at = g.at;
        is = g.is ∙ ap (λ m. m >>= λ turn. run (tuple_rules d t) turn.more (g.at + 1) (turn.expected ++ below) turn.state left) (w.marks s g.at symbol left ∙ else_is _ _ e);
        place = g.place;
      };
    }

  -- a comma or the `}`
  abbrev CommaOrEnd : Stack → Reading D → Symbol → List Symbol → Type 0
  CommaOrEnd below s symbol left = ((symbol ≡ Plain token.Comma) × Comes (w.at_next_name ∷ below) s left) ⊎ ((symbol ≡ Plain token.RightBrace) × Comes below (ended d s) left)

  after_name_read : {below : Stack} {s : Reading D} {symbol : Symbol} {left : List Symbol} → Comes (w.at_after_name ∷ below) s (symbol ∷ left) → CommaOrEnd below s symbol left
  after_name_read {below} {s} {symbol} {left} g = by (is_comma symbol) (is_right_brace symbol) refl refl where
    by : (a b : Bool) → is_comma symbol ≡ a → is_right_brace symbol ≡ b → CommaOrEnd below s symbol left
    by true b e f = inl (comma_is symbol e, turn g s (w.at_next_name ∷ []) (w.after_names s g.at symbol left ∙ first_is _ _ _ (is_right_brace symbol) e))
    by false true e f = inr (right_brace_is symbol f, turn g (ended d s) [] (w.after_names s g.at symbol left ∙ second_is _ _ _ e f))
    by false false e f = absurd (not_refused g (error.Unexpected, g.at) (w.after_names s g.at symbol left ∙ third_is _ _ _ e f))

  -- a name
  record NameRead (below : Stack) (s : Reading D) (symbol : Symbol) (left : List Symbol) : Type 0 where
    word : List ℕ
    place : ℕ
    next : Names
    is : symbol ≡ Named word
    placed : place_for s.known s.names word ≡ Ok (place, next)
    new : is_listed s.cells place ≡ false
    gets : Comes (w.at_equals ∷ w.at_number ∷ w.at_slash ∷ w.at_cell_truth ∷ w.at_mark ∷ below) (with_name s place next) left

  name_so : {one : Expected d t} {below : Stack} {s : Reading D} {symbol : Symbol} {left : List Symbol} (g : Comes (one ∷ below) s (symbol ∷ left)) →
      step d t s one g.at symbol left ≡ spec.name s g.at (word_of symbol) → NameRead below s symbol left
  name_so {one} {below} {s} {symbol} {left} g e = by_word (word_of symbol) refl e where
    by_listed : (word : List ℕ) (place : ℕ) (next : Names) (b : Bool) → symbol ≡ Named word → place_for s.known s.names word ≡ Ok (place, next) → is_listed s.cells place ≡ b →
        step d t s one g.at symbol left ≡ cond b (refused error.Duplicate g.at) (met (with_name s place next) (w.at_equals ∷ w.at_number ∷ w.at_slash ∷ w.at_cell_truth ∷ w.at_mark ∷ [])) → NameRead below s symbol left
    by_listed word place next true i p n h = absurd (not_refused g (error.Duplicate, g.at) h)
    by_listed word place next false i p n h = record {
      word = word;
      place = place;
      next = next;
      is = i;
      placed = p;
      new = n;
      gets = turn g (with_name s place next) (w.at_equals ∷ w.at_number ∷ w.at_slash ∷ w.at_cell_truth ∷ w.at_mark ∷ []) h;
    }

    by_place : (word : List ℕ) (found : Result (ℕ × Names) TableError) → symbol ≡ Named word → place_for s.known s.names word ≡ found →
        step d t s one g.at symbol left ≡ named s g.at found → NameRead below s symbol left
    by_place word (Err error) i p h = absurd (not_refused g (error, g.at) h)
    by_place word (Ok (place, next)) i p h =
        by_listed word place next (is_listed s.cells place) i p refl (h ∙ w.named_value s place next g.at)

    by_word : (found : Option (List ℕ)) → word_of symbol ≡ found → step d t s one g.at symbol left ≡ spec.name s g.at found → NameRead below s symbol left
    by_word None f h = absurd (not_refused g (error.Unexpected, g.at) (h ∙ w.no_name s g.at))
    by_word (Some word) f h = by_place word (place_for s.known s.names word) (word_is symbol word f) refl (h ∙ w.some_name s g.at word)

  -- a cell, with what stands for its name
  record CellRead (below : Stack) (flows : Flows) (done : Entries) (names : Names) (symbols : List Symbol) : Type 0 where
    entry : List ℕ × AbsCell D
    here : ℕ
    middle : Names
    left : List Symbol
    placed : Placed known names entry.0 here middle
    begins : BeginWithCell t entry symbols left
    fewer : length left < length symbols
    cells : CellList
    place : ℕ
    num : D
    truth : AbsBool
    lists : Lists middle (done ++ entry ∷ []) cells
    once : IsDistinct bytes_eq (names_of (done ++ entry ∷ []))
    gets : Comes (w.at_after_name ∷ below) (there flows cells place num truth middle) left

  cell_so : {below : Stack} (flows : Flows) (cells : CellList) (place : ℕ) (num : D) (truth : AbsBool) (names : Names) (done : Entries) {symbol : Symbol} {left : List Symbol} →
      IsDistinct bytes_eq (names_of done) → Lists names done cells → NameRead below (there flows cells place num truth names) symbol left → CellRead below flows done names (symbol ∷ left)
  cell_so {below} flows cells place num truth names done {symbol} {left} once l n =
      let s = there flows cells n.place num truth n.next in
      let p = placed_so known names n.word n.place n.next n.placed in
      let a = adds names n.word n.place n.next p.added in
      let l2 = lists_grown a.grown l in
      let spot_so = added_spot names n.word n.place n.next p.added in
      let fresh = is_none (written done n.word) (sym (listed_so n.word n.place spot_so l2) ∙ n.new) in
      let (left1, are1, g1) = equals_read left n.gets in
      let r = number_read left1 g1 in
      let (left3, are3, g3) = slash_read r.left r.gets in
      let (set, left4, are4, g4) = cell_truth_read left3 g3 in
      let m = mark_read left4 g4 in
      let cell : AbsCell D = record { val = record { num = r.element; truth = set }; unset = m.unset } in
      let rest_is : r.left ≡ Plain token.Slash ∷ Named (bool_text set) ∷ (mark_symbols m.unset ++ m.left) = are3 ∙ ap (λ ss. Plain token.Slash ∷ ss) (are4 ∙ ap (λ ss. Named (bool_text set) ∷ ss) m.are) in
      let P : List Symbol → Type 0 = λ ss. BeginWithNumber t r.element left1 ss in
      record {
        entry = (n.word, cell);
        here = n.place;
        middle = n.next;
        left = m.left;
        placed = p;
        begins = (left1, ap (λ one. one ∷ left) n.is ∙ ap (λ ss. Named n.word ∷ ss) are1, subst P rest_is r.begins);
        fewer = omega (arith, ap length are1, r.fewer, ap length rest_is, length-append (mark_symbols m.unset) m.left);
        cells = with_one cells n.place cell;
        place = n.place;
        num = r.element;
        truth = set;
        lists = lists_one n.word n.place cell spot_so a.within n.new l2;
        once = distinct_one done n.word cell once fresh;
        gets = m.gets;
      }
    where
      number_read : {below : Stack} {s : Reading D} (symbols : List Symbol) → Comes (w.at_number ∷ below) s symbols → NumberRead below (with_num s) symbols
      number_read [] g = absurd (not_ended g)
      number_read {s = s} (symbol ∷ others) g = number_so (with_num s) [] (λ at left. w.numbers s at symbol left) g

  -- cells were read, up to the `}`
  record CellsRead (form : Entries → List Symbol → List Symbol → Type 0) (below : Stack) (flows : Flows) (done : Entries) (names : Names) (symbols : List Symbol) : Type 0 where
    entries : Entries
    after : Names
    left : List Symbol
    adding : Adding known names (names_of entries) after
    have_grown : HasGrown names after
    begins : form entries symbols (Plain token.RightBrace ∷ left)
    cells : CellList
    place : ℕ
    num : D
    truth : AbsBool
    lists : Lists after (done ++ entries) cells
    once : IsDistinct bytes_eq (names_of (done ++ entries))
    gets : Comes below (ended d (there flows cells place num truth after)) left

  abbrev More : Entries → List Symbol → List Symbol → Type 0
  More = BeginWithMore (BeginWithCell t)

  abbrev Pieces : Entries → List Symbol → List Symbol → Type 0
  Pieces = BeginWithPieces (BeginWithCell t)

  -- no cell more
  no_cell : (form : Entries → List Symbol → List Symbol → Type 0) {below : Stack} (flows : Flows) (done : Entries) (names : Names) (symbols left : List Symbol) (cells : CellList)
      (place : ℕ) (num : D) (truth : AbsBool) → form [] symbols (Plain token.RightBrace ∷ left) → IsDistinct bytes_eq (names_of done) → Lists names done cells →
      Comes below (ended d (there flows cells place num truth names)) left →
      CellsRead form below flows done names symbols
  no_cell form flows done names symbols left cells place num truth b once l g =
      let P : Entries → Type 0 = λ es. Lists names es cells in
      let Q : Entries → Type 0 = λ es. IsDistinct bytes_eq (names_of es) in
      record {
        entries = [];
        after = names;
        left = left;
        adding = adding_none known names;
        have_grown = same_names names;
        begins = b;
        cells = cells;
        place = place;
        num = num;
        truth = truth;
        lists = subst P (sym (append-nil done)) l;
        once = subst Q (sym (append-nil done)) once;
        gets = g;
      }

  -- a cell and others
  with_cells : (form : Entries → List Symbol → List Symbol → Type 0) {below : Stack} (flows : Flows) (done : Entries) (names : Names) (symbols piece : List Symbol) (c : CellRead below flows done names piece)
      (m : CellsRead More below flows (done ++ c.entry ∷ []) c.middle c.left) → form (c.entry ∷ m.entries) symbols (Plain token.RightBrace ∷ m.left) → CellsRead form below flows done names symbols
  with_cells form flows done names symbols piece c m b =
      let P : Entries → Type 0 = λ es. Lists m.after es m.cells in
      let Q : Entries → Type 0 = λ es. IsDistinct bytes_eq (names_of es) in
      let together = append_assoc done (c.entry ∷ []) m.entries in
      record {
        entries = c.entry ∷ m.entries;
        after = m.after;
        left = m.left;
        adding = adding_first c.placed m.adding;
        have_grown = grown_more (adds names c.entry.0 c.here c.middle c.placed.added).grown m.have_grown;
        begins = b;
        cells = m.cells;
        place = m.place;
        num = m.num;
        truth = m.truth;
        lists = subst P together m.lists;
        once = subst Q together m.once;
        gets = m.gets;
      }

  next_name_read : {below : Stack} (flows : Flows) (cells : CellList) (place : ℕ) (num : D) (truth : AbsBool) (names : Names) (done : Entries) (symbols : List Symbol) →
      IsDistinct bytes_eq (names_of done) → Lists names done cells → Comes (w.at_next_name ∷ below) (there flows cells place num truth names) symbols → CellRead below flows done names symbols
  next_name_read flows cells place num truth names done [] once l g = absurd (not_ended g)
  next_name_read flows cells place num truth names done (symbol ∷ left) once l g = cell_so flows cells place num truth names done once l (name_so g (w.next_names (there flows cells place num truth names) g.at symbol left))

  more_read : (n : ℕ) {below : Stack} (flows : Flows) (cells : CellList) (place : ℕ) (num : D) (truth : AbsBool) (names : Names) (done : Entries) (symbols : List Symbol) → length symbols < n →
      IsDistinct bytes_eq (names_of done) → Lists names done cells → Comes (w.at_after_name ∷ below) (there flows cells place num truth names) symbols → CellsRead More below flows done names symbols
  more_read zero flows cells place num truth names done symbols h once l g = absurd (omega (arith, h))
  more_read (suc n) flows cells place num truth names done [] h once l g = absurd (not_ended g)
  more_read (suc n) {below} flows cells place num truth names done (symbol ∷ left) h once l g =
      by (after_name_read g) (λ cells place num truth names done symbols h once l g. more_read n flows cells place num truth names done symbols h once l g) where
        by : ((symbol ≡ Plain token.Comma) × Comes (w.at_next_name ∷ below) (there flows cells place num truth names) left) ⊎ ((symbol ≡ Plain token.RightBrace) × Comes below (ended d (there flows cells place num truth names)) left) →
            ((cells : CellList) (place : ℕ) (num : D) (truth : AbsBool) (names : Names) (done : Entries) (symbols : List Symbol) → length symbols < n →
            IsDistinct bytes_eq (names_of done) → Lists names done cells → Comes (w.at_after_name ∷ below) (there flows cells place num truth names) symbols →
            CellsRead More below flows done names symbols) →
            CellsRead More below flows done names (symbol ∷ left)
        by (inr (e, g2)) later = no_cell More flows done names (symbol ∷ left) left cells place num truth (ap (λ one. one ∷ left) e) once l g2
        by (inl (e, g2)) later =
            let c = next_name_read flows cells place num truth names done left once l g2 in
            let m = later c.cells c.place c.num c.truth c.middle (done ++ c.entry ∷ []) c.left (omega (arith, h, c.fewer)) c.once c.lists c.gets in
            with_cells More flows done names (symbol ∷ left) left c m (left, c.left, ap (λ one. one ∷ left) e, c.begins, m.begins)

  cells_read : {below : Stack} (flows : Flows) (place : ℕ) (num : D) (truth : AbsBool) (names : Names) (symbols : List Symbol) →
      Comes (w.at_first_name ∷ below) (there flows [] place num truth names) symbols →
      CellsRead Pieces below flows [] names symbols
  unfolding IsDistinct
  cells_read flows place num truth names [] g = absurd (not_ended g)
  cells_read {below} flows place num truth names (symbol ∷ left) g = by (is_right_brace symbol) refl where
    s : Reading D
    s = there flows [] place num truth names

    by : (b : Bool) → is_right_brace symbol ≡ b → CellsRead Pieces below flows [] names (symbol ∷ left)
    by true e =
        no_cell Pieces flows [] names (symbol ∷ left) left [] place num truth (ap (λ one. one ∷ left) (right_brace_is symbol e)) tt (lists_none names)
        (turn g (ended d s) [] (w.first_names s g.at symbol left ∙ then_is _ _ e))
    by false e =
        let c = cell_so flows [] place num truth names [] tt (lists_none names) (name_so g (w.first_names s g.at symbol left ∙ else_is _ _ e)) in
        let m = more_read (suc (length c.left)) flows c.cells c.place c.num c.truth c.middle (c.entry ∷ []) c.left (omega arith) c.once c.lists c.gets in
        with_cells Pieces flows [] names (symbol ∷ left) (symbol ∷ left) c m (c.left, c.begins, m.begins)

  -- a value
  record FlowRead (flows : Flows) (wanted : FlowSort) (names : Names) (symbols : List Symbol) : Type 0 where
    written_so : WrittenFlow D
    fits : sort_of written_so ≡ wanted
    once : IsOnce written_so
    middle : Names
    left : List Symbol
    adding : Adding known names (names_listed written_so) middle
    have_grown : HasGrown names middle
    begins : BeginWithFlow t written_so symbols left
    found : AbsFlow D
    meant : (all : Names) → HasGrown middle all → IsDistinct bytes_eq all → padded_flow d (length all) found ≡ flow_of d all written_so
    place : ℕ
    num : D
    truth : AbsBool
    gets : Comes (w.at_after ∷ []) (there (flows ++ found ∷ []) [] place num truth middle) left

  not_close : {below : Stack} {s : Reading D} {wanted : FlowSort} {symbol : Symbol} {left : List Symbol} → spec.next_sort s ≡ Some wanted →
      Comes (w.at_item ∷ below) s (symbol ∷ left) → is_close symbol ≡ false
  not_close {below} {s} {wanted} {symbol} {left} n g = by (is_close symbol) refl where
    by : (b : Bool) → is_close symbol ≡ b → is_close symbol ≡ false
    by true e = absurd (not_refused g (error.WrongCount, g.at) (w.some_item s wanted g.at symbol left n ∙ then_is _ _ e))
    by false e = e

  bool_read : (flows : Flows) (place : ℕ) (num : D) (truth : AbsBool) (names : Names) (symbol : Symbol) (left : List Symbol) → slice_get sorts (length flows) ≡ Some sort.Bool →
      Comes (w.at_item ∷ []) (there flows [] place num truth names) (symbol ∷ left) → FlowRead flows sort.Bool names (symbol ∷ left)
  unfolding IsDistinct
  bool_read flows place num truth names symbol left n g =
      let s = there flows [] place num truth names in
      let r = truth_so (with_bool s) (w.at_after ∷ []) g (item_step d t w s sort.Bool g.at symbol left n (not_close n g) ∙ w.bool_value s g.at symbol left) in
      record {
        written_so = Truths r.set;
        fits = refl;
        once = tt;
        middle = names;
        left = left;
        adding = adding_none known names;
        have_grown = same_names names;
        begins = ap (λ one. one ∷ left) r.is;
        found = flow.Bool r.set;
        meant = λ all h k. refl;
        place = place;
        num = num;
        truth = truth;
        gets = r.gets;
      }

  store_read : (flows : Flows) (place : ℕ) (num : D) (truth : AbsBool) (names : Names) (symbol : Symbol) (left : List Symbol) → slice_get sorts (length flows) ≡ Some sort.Store →
      Comes (w.at_item ∷ []) (there flows [] place num truth names) (symbol ∷ left) → FlowRead flows sort.Store names (symbol ∷ left)
  unfolding IsDistinct
  store_read flows place num truth names symbol left n g = by (is_left_brace symbol) (is_none_word symbol) refl refl where
    s : Reading D
    s = there flows [] place num truth names

    item_is : step d t s w.at_item g.at symbol left ≡ value t s sort.Store g.at symbol left
    item_is = item_step d t w s sort.Store g.at symbol left n (not_close n g)

    by : (a b : Bool) → is_left_brace symbol ≡ a → is_none_word symbol ≡ b → FlowRead flows sort.Store names (symbol ∷ left)
    by true b e f =
        let c = cells_read flows place num truth names left (turn g s (w.at_first_name ∷ w.at_after ∷ []) (item_is ∙ w.store_value s g.at symbol left ∙ first_is _ _ _ (is_none_word symbol) e)) in
        record {
          written_so = Cells c.entries;
          fits = refl;
          once = c.once;
          middle = c.after;
          left = c.left;
          adding = c.adding;
          have_grown = c.have_grown;
          begins = (left, ap (λ one. one ∷ left) (left_brace_is symbol e), c.begins);
          found = flow.Store (store_of d (all_cells d c.cells));
          meant = λ all h k. store_meant d all c.entries c.cells k (lists_grown h c.lists);
          place = c.place;
          num = c.num;
          truth = c.truth;
          gets = c.gets;
        }
    by false true e f = record {
      written_so = NoStore;
      fits = refl;
      once = tt;
      middle = names;
      left = left;
      adding = adding_none known names;
      have_grown = same_names names;
      begins = ap (λ one. one ∷ left) (none_is symbol f);
      found = flow.Store store.Empty;
      meant = λ all h k. refl;
      place = place;
      num = num;
      truth = truth;
      gets = turn g (with_flow s (flow.Store store.Empty)) (w.at_after ∷ []) (item_is ∙ w.store_value s g.at symbol left ∙ second_is _ _ _ e f);
    }
    by false false e f = absurd (not_refused g (error.Unexpected, g.at) (item_is ∙ w.store_value s g.at symbol left ∙ third_is _ _ _ e f))

  flow_read : (wanted : FlowSort) (flows : Flows) (place : ℕ) (num : D) (truth : AbsBool) (names : Names) (symbols : List Symbol) → slice_get sorts (length flows) ≡ Some wanted →
      Comes (w.at_item ∷ []) (there flows [] place num truth names) symbols → FlowRead flows wanted names symbols
  unfolding IsDistinct
  flow_read wanted flows place num truth names [] n g = absurd (not_ended g)
  flow_read sort.Int flows place num truth names (symbol ∷ left) n g =
      let s = there flows [] place num truth names in
      let c = not_close n g in
      let r = number_so (λ element. with_flow s (flow.Int element)) (w.at_after ∷ []) (λ at others. item_step d t w s sort.Int at symbol others n c ∙ w.int_value s at symbol others) g in
      record {
        written_so = Number r.element;
        fits = refl;
        once = tt;
        middle = names;
        left = r.left;
        adding = adding_none known names;
        have_grown = same_names names;
        begins = (c, r.begins);
        found = flow.Int r.element;
        meant = λ all h k. refl;
        place = place;
        num = num;
        truth = truth;
        gets = r.gets;
      }
  flow_read sort.Bool flows place num truth names (symbol ∷ left) n g = bool_read flows place num truth names symbol left n g
  flow_read sort.Val flows place num truth names (symbol ∷ left) n g =
      let s = there flows [] place num truth names in
      let c = not_close n g in
      let r = number_so (with_num s) (w.at_slash ∷ w.at_truth ∷ w.at_after ∷ []) (λ at others. item_step d t w s sort.Val at symbol others n c ∙ w.val_value s at symbol others) g in
      let (left2, are2, g2) = slash_read r.left r.gets in
      let (set, left3, are3, g3) = val_truth_read left2 g2 in
      let val : AbsVal D = record { num = r.element; truth = set } in
      let P : List Symbol → Type 0 = λ ss. BeginWithNumber t r.element (symbol ∷ left) ss in
      record {
        written_so = Parts val;
        fits = refl;
        once = tt;
        middle = names;
        left = left3;
        adding = adding_none known names;
        have_grown = same_names names;
        begins = (c, subst P (are2 ∙ ap (λ ss. Plain token.Slash ∷ ss) are3) r.begins);
        found = flow.Val val;
        meant = λ all h k. refl;
        place = place;
        num = r.element;
        truth = truth;
        gets = g3;
      }
  flow_read sort.Store flows place num truth names (symbol ∷ left) n g = store_read flows place num truth names symbol left n g

  -- values were read, up to the `)`
  record ValuesRead (form : List (WrittenFlow D) → List Symbol → List Symbol → Type 0) (flows : Flows) (rest : List FlowSort) (names : Names) (symbols : List Symbol) : Type 0 where
    values : List (WrittenFlow D)
    fit : map sort_of values ≡ rest
    once : All IsOnce values
    after : Names
    left : List Symbol
    adding : Adding known names (flat_map names_listed values) after
    have_grown : HasGrown names after
    begins : form values symbols (Plain token.RightParen ∷ left)
    found : Flows
    meant : (all : Names) → HasGrown after all → IsDistinct bytes_eq all → map (padded_flow d (length all)) found ≡ map (flow_of d all) values
    place : ℕ
    num : D
    truth : AbsBool
    gets : Comes [] (there (flows ++ found) [] place num truth after) left

  abbrev MoreFlows : List (WrittenFlow D) → List Symbol → List Symbol → Type 0
  MoreFlows = BeginWithMore (BeginWithFlow t)

  abbrev AllFlows : List (WrittenFlow D) → List Symbol → List Symbol → Type 0
  AllFlows = BeginWithPieces (BeginWithFlow t)

  -- the `)`
  closing_so : {one : Expected d t} {s : Reading D} {symbol : Symbol} {left : List Symbol} (g : Comes (one ∷ []) s (symbol ∷ left)) → step d t s one g.at symbol left ≡ closing s g.at symbol →
      (symbol ≡ Plain token.RightParen) × Comes [] s left
  closing_so {one} {s} {symbol} {left} g e = by (is_close symbol) (is_comma symbol) refl refl where
    by : (a b : Bool) → is_close symbol ≡ a → is_comma symbol ≡ b → (symbol ≡ Plain token.RightParen) × Comes [] s left
    by true b f h = (close_is symbol f, turn g s [] (e ∙ first_is _ _ _ (is_comma symbol) f))
    by false true f h = absurd (not_refused g (error.WrongCount, g.at) (e ∙ second_is _ _ _ f h))
    by false false f h = absurd (not_refused g (error.Unexpected, g.at) (e ∙ third_is _ _ _ f h))

  comma_so : {s : Reading D} {wanted : FlowSort} {symbol : Symbol} {left : List Symbol} → spec.next_sort s ≡ Some wanted → Comes (w.at_after ∷ []) s (symbol ∷ left) →
      (symbol ≡ Plain token.Comma) × Comes (w.at_item ∷ []) s left
  comma_so {s} {wanted} {symbol} {left} n g = by (is_comma symbol) (is_close symbol) refl refl where
    by : (a b : Bool) → is_comma symbol ≡ a → is_close symbol ≡ b → (symbol ≡ Plain token.Comma) × Comes (w.at_item ∷ []) s left
    by true b f h = (comma_is symbol f, turn g s (w.at_item ∷ []) (w.some_after s wanted g.at symbol left n ∙ first_is _ _ _ (is_close symbol) f))
    by false true f h = absurd (not_refused g (error.WrongCount, g.at) (w.some_after s wanted g.at symbol left n ∙ second_is _ _ _ f h))
    by false false f h = absurd (not_refused g (error.Unexpected, g.at) (w.some_after s wanted g.at symbol left n ∙ third_is _ _ _ f h))

  after_all_read : {s : Reading D} (symbols : List Symbol) → spec.next_sort s ≡ None → Comes (w.at_after ∷ []) s symbols →
      (left : List Symbol) × (symbols ≡ Plain token.RightParen ∷ left) × Comes [] s left
  after_all_read [] n g = absurd (not_ended g)
  after_all_read {s} (symbol ∷ left) n g = let c = closing_so g (w.none_after s g.at symbol left n) in (left, ap (λ one. one ∷ left) c.0, c.1)

  no_item_read : {s : Reading D} (symbols : List Symbol) → spec.next_sort s ≡ None → Comes (w.at_item ∷ []) s symbols →
      (left : List Symbol) × (symbols ≡ Plain token.RightParen ∷ left) × Comes [] s left
  no_item_read [] n g = absurd (not_ended g)
  no_item_read {s} (symbol ∷ left) n g = let c = closing_so g (w.no_item s g.at symbol left n) in (left, ap (λ one. one ∷ left) c.0, c.1)

  comma_read : {s : Reading D} {wanted : FlowSort} (symbols : List Symbol) → spec.next_sort s ≡ Some wanted → Comes (w.at_after ∷ []) s symbols →
      (left : List Symbol) × (symbols ≡ Plain token.Comma ∷ left) × Comes (w.at_item ∷ []) s left
  comma_read [] n g = absurd (not_ended g)
  comma_read {s} {wanted} (symbol ∷ left) n g = let c = comma_so n g in (left, ap (λ one. one ∷ left) c.0, c.1)

  no_value : (form : List (WrittenFlow D) → List Symbol → List Symbol → Type 0) {flows : Flows} {place : ℕ} {num : D} {truth : AbsBool} {names : Names} {symbols left : List Symbol} →
      form [] symbols (Plain token.RightParen ∷ left) →
      Comes [] (there flows [] place num truth names) left → ValuesRead form flows [] names symbols
  no_value form {flows} {place} {num} {truth} {names} {symbols} {left} b g =
      let P : Flows → Type 0 = λ xs. Comes [] (there xs [] place num truth names) left in
      record {
        values = [];
        fit = refl;
        once = All-nil IsOnce;
        after = names;
        left = left;
        adding = adding_none known names;
        have_grown = same_names names;
        begins = b;
        found = [];
        meant = λ all h k. refl;
        place = place;
        num = num;
        truth = truth;
        gets = subst P (sym (append-nil flows)) g;
      }

  with_values : (form : List (WrittenFlow D) → List Symbol → List Symbol → Type 0) {flows : Flows} {wanted : FlowSort} {rest : List FlowSort} {names : Names} {symbols piece : List Symbol} (f : FlowRead flows wanted names piece)
      (v : ValuesRead MoreFlows (flows ++ f.found ∷ []) rest f.middle f.left) → form (f.written_so ∷ v.values) symbols (Plain token.RightParen ∷ v.left) →
      ValuesRead form flows (wanted ∷ rest) names symbols
  with_values form {flows} {wanted} {rest} f v b =
      let P : Flows → Type 0 = λ xs. Comes [] (there xs [] v.place v.num v.truth v.after) v.left in
      record {
        values = f.written_so ∷ v.values;
        fit = ap (λ s. s ∷ map sort_of v.values) f.fits ∙ ap (λ ss. wanted ∷ ss) v.fit;
        once = All-cons IsOnce f.written_so v.values f.once v.once;
        after = v.after;
        left = v.left;
        adding = adding_front f.adding v.adding;
        have_grown = grown_more f.have_grown v.have_grown;
        begins = b;
        found = f.found ∷ v.found;
        meant = λ all h k. ap (λ x. x ∷ map (padded_flow d (length all)) v.found) (f.meant all (grown_more v.have_grown h) k) ∙ ap (λ xs. flow_of d all f.written_so ∷ xs) (v.meant all h k);
        place = v.place;
        num = v.num;
        truth = v.truth;
        gets = subst P (append_assoc flows (f.found ∷ []) v.found) v.gets;
      }

  more_values : (rest : List FlowSort) (flows : Flows) (place : ℕ) (num : D) (truth : AbsBool) (names : Names) (symbols : List Symbol) → Wants sorts flows rest →
      Comes (w.at_after ∷ []) (there flows [] place num truth names) symbols → ValuesRead MoreFlows flows rest names symbols
  more_values [] flows place num truth names symbols u g =
      let (left, are, g2) = after_all_read symbols (next_is sorts flows [] u) g in
      no_value MoreFlows are g2
  more_values (wanted ∷ rest) flows place num truth names symbols u g =
      let n = next_is sorts flows (wanted ∷ rest) u in
      let (piece, are, g2) = comma_read symbols n g in
      let f = flow_read wanted flows place num truth names piece n g2 in
      let v = more_values rest (flows ++ f.found ∷ []) f.place f.num f.truth f.middle f.left (wants_more sorts flows wanted rest f.found u) f.gets in
      with_values MoreFlows f v (piece, f.left, are, f.begins, v.begins)

  all_values : (rest : List FlowSort) (place : ℕ) (num : D) (truth : AbsBool) (names : Names) (symbols : List Symbol) → Wants {D = D} sorts [] rest →
      Comes (w.at_item ∷ []) (there [] [] place num truth names) symbols →
      ValuesRead AllFlows [] rest names symbols
  all_values [] place num truth names symbols u g =
      let (left, are, g2) = no_item_read symbols (next_is {D = D} sorts [] [] u) g in
      no_value AllFlows are g2
  all_values (wanted ∷ rest) place num truth names symbols u g =
      let n = next_is {D = D} sorts [] (wanted ∷ rest) u in
      let f = flow_read wanted [] place num truth names symbols n g in
      let v = more_values rest (f.found ∷ []) f.place f.num f.truth f.middle f.left (wants_more sorts [] wanted rest f.found u) f.gets in
      with_values AllFlows f v (f.left, f.begins, v.begins)

told_so : {D : Type 0} (d : Domain D) (at : ℕ) (from : Answer D) (read : ReadTuple D) (end : ℕ) → told d at from ≡ Ok (read, end) → (answer : Reading D × ℕ) × (from ≡ Ok answer)
told_so d at (Ok answer) read end h = (answer, refl)
told_so d at (Err error) read end h = absurd (cc h)

full_so : {D : Type 0} (d : Domain D) (at : ℕ) (last : Reading D) (place : ℕ) (read : ReadTuple D) (end : ℕ) → told d at (Ok (last, place)) ≡ Ok (read, end) →
    list_any (flow_is_empty d) last.flows ≡ false
full_so d at last place read end h = by (list_any (flow_is_empty d) last.flows) refl h where
  by : (b : Bool) → list_any (flow_is_empty d) last.flows ≡ b →
      (cond b (Err (error.Empty, at)) (Ok (map (padded_flow d (length last.names)) last.flows)) >>= λ tuple. read_to tuple last.names place) ≡ Ok (read, end) →
      list_any (flow_is_empty d) last.flows ≡ false
  by true e k = absurd (cc k)
  by false e k = e

abbrev Begins : {D : Type 0} → Domain D → DomainTexts D → Bool → List FlowSort → List (List ℕ) → ℕ → List Symbol → Result (ReadTuple D × ℕ) (TableError × ℕ) → Type 0
Begins d t known sorts names at symbols (Ok (read, end)) = BeginWithAbsTuple d t known sorts names at symbols read end
Begins d t known sorts names at symbols (Err error) = Unit {0}

pub only_abs_tuples_are_read : {D : Type 0} (d : Domain D) (t : DomainTexts D) → IsTaken t →
    (known : Bool) (sorts : List FlowSort) (names : List (List ℕ)) (at : ℕ) (symbols : List Symbol) (read : ReadTuple D) (end : ℕ) → IsDistinct bytes_eq names →
    read_tuple d t known sorts names at symbols ≡ Ok (read, end) → BeginWithAbsTuple d t known sorts names at symbols read end
unfolding read_tuple
only_abs_tuples_are_read {D} d t taken known sorts names at symbols read end different h =
    let w = grammar d t in
    let start = nothing d known sorts names in
    let from : Answer D = read_symbols d t known sorts names at symbols in
    let (answer, ok) = told_so d at from read end h in
    let g : Gets (tuple_rules d t) from (at + length symbols) (w.at_open ∷ w.at_item ∷ []) start symbols = record { at = at; is = w.begins known sorts names at symbols; place = refl } in
    let (inside, opens, g2) = open_read d t taken w known sorts from (at + length symbols) answer ok symbols g in
    let v = all_values d t taken w known sorts from (at + length symbols) answer ok sorts 0 d.empty (record { has_true = false; has_false = false }) names inside
    (record { front = []; are = refl; counted = refl }) g2 in
    let last = reached known sorts v.found [] v.place v.num v.truth v.after in
    let tuple = map (padded_flow d (length v.after)) v.found in
    let ends : told d at (Ok (last, v.gets.at)) ≡ Ok (read, end) = sym (ap (told d at) (v.gets.is ∙ run_ends (tuple_rules d t) v.gets.at last v.left)) ∙ h in
    let full = full_so d at last v.gets.at read end ends in
    let whole_is : read_to tuple v.after v.gets.at ≡ Ok (read, end) = sym (told_is d at last v.gets.at (record { tuple = tuple; names = v.after }) full refl) ∙ ends in
    let all_differ = words_differ names (flat_map names_listed v.values) v.after v.adding.added different in
    let meant : tuple ≡ map (flow_of d v.after) v.values = v.meant v.after (same_names v.after) all_differ in
    let none_empty : list_any (flow_is_empty d) (map (flow_of d v.after) v.values) ≡ false = sym (ap (list_any (flow_is_empty d)) meant) ∙ paddings_are_empty d (length v.after) v.found ∙ full in
    subst (λ (r : Result (ReadTuple D × ℕ) (TableError × ℕ)). Begins d t known sorts names at symbols r) whole_is (record {
      left = v.left;
      spells = record {
        written = v.values;
        sorted = v.fit;
        once = v.once;
        tuple_is = meant;
        proper = ap (is_proper d) meant ∙ all_proper d v.after v.values none_empty;
        names_are = v.adding.added;
        none_is_new = v.adding.kept;
        inside = inside;
        opens = opens;
        values = v.begins;
      };
      end_is = v.gets.place;
    })
