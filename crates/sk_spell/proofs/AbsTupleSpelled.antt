-- Spelled abstract tuples are read.
use Rattle.std.proofs.Common.{◌≡◌, ℕ, ◌+◌, Bool, true, false, List, [], ◌∷◌, ◌++◌, length, map, refl, sym, ap, subst, ◌∙◌, arith, append_assoc, append-nil, Option, Some, Ok}
use Rattle.std.specs.Prelude.{All, slice_get, is_some, codes}
use Rattle.std.specs.List.{flat_map, list_any, IsDistinct}
use Rattle.std.specs.Str.{bytes_eq}
use Rattle.std.proofs.lemmas.List.Elements.{All-head, All-tail}
use Rattle.std.proofs.lemmas.Option.{same_Some}
use Rattle.sk_base.specs.declared.flow.FlowSort.{FlowSort}
use Rattle.sk_base.specs.declared.flow.FlowSort.TheVariants as sort
use Rattle.sk_lex.specs.Symbols.{Symbol, Named, Plain, is_close}
use Rattle.sk_lex.specs.declared.token.TokenKind.TheVariants as token
use Rattle.sk_term.specs.Meets.{HasGrown}
use Rattle.sk_term.proofs.Words.{adds, words_grow, words_differ}
use Rattle.sk_term.proofs.Grown.{grown_more}
use Rattle.sk_lattice.specs.Domain.{Domain}
use Rattle.sk_lattice.specs.DomainTexts.{DomainTexts, closes}
use Rattle.sk_lattice.specs.Empty.{store_of, flow_is_empty}
use Rattle.sk_lattice.specs.Padding.{padded_flow}
use Rattle.sk_lattice.specs.Texts.{bool_text}
use Rattle.sk_lattice.specs.declared.truth.AbsBool.{AbsBool}
use Rattle.sk_lattice.specs.declared.cell.AbsCell.{AbsCell}
use Rattle.sk_lattice.specs.declared.store.AbsStore.TheVariants as store
use Rattle.sk_lattice.specs.declared.flow.AbsFlow.{AbsFlow}
use Rattle.sk_lattice.specs.declared.flow.AbsFlow.TheVariants as flow
use Rattle.sk_table.specs.Tuples as spec
use Rattle.sk_table.specs.Tuples.{Reading, ReadTuple, element_at, with_element, with_flow, with_num, ended, is_listed, with_cell, step, tuple_rules, nothing, read_symbols, read_tuple}
use Rattle.sk_table.proofs.Turns.{Gets, turn, long_turn, left_is}
use Rattle.sk_spell.specs.AbsTupleSpelling.{WrittenFlow, Number, Truths, Parts, Cells, NoStore, sort_of, names_listed, flow_of, BeginWithNumber, mark_symbols, BeginWithCell, BeginWithMore, BeginWithPieces, BeginWithFlow, BeginWithAbsTuple}
use Rattle.sk_spell.proofs.AbsTupleCells.{spot, added_spot, Lists, lists_none, lists_grown, lists_one, listed_so, with_one, store_meant}
use Rattle.sk_spell.proofs.AbsTupleNames.{same_names, Placed, placed, Adding, first_of, front_of, names_of, fresh}
use Rattle.sk_spell.proofs.AbsTupleForms.{IsTaken, Answer, told, told_is, read_to, reached, run_ends, Wants, next_is, wants_more, IsOnce, paddings_are_empty, none_empty}
use Rattle.sk_spell.proofs.AbsTupleGrammar.{Expected, Grammar, grammar}
use Rattle.sk_spell.proofs.AbsTupleSteps.{number_stands, IsNamePlace, first_place, next_place, truth_step, cell_truth_step, item_step, bool_step, name_step, mark_comma_step, mark_brace_step}

module _ {D : Type 0} (d : Domain D) (t : DomainTexts D) (taken : IsTaken t) (w : Grammar d t) (known : Bool) (sorts : List FlowSort) (all : List (List ℕ)) (different : IsDistinct bytes_eq all) (from : Answer D) (total : ℕ) where
  abbrev Names : Type 0
  Names = List (List ℕ)

  abbrev Flows : Type 0
  Flows = List (AbsFlow D)

  abbrev Entries : Type 0
  Entries = List (List ℕ × AbsCell D)

  abbrev CellList : Type 0
  CellList = List (Option (AbsCell D))

  abbrev Stack : Type 0
  Stack = List (Expected d t)

  abbrev there : Flows → CellList → ℕ → D → AbsBool → Names → Reading D
  there = reached known sorts

  abbrev Comes : Stack → Reading D → List Symbol → Type 0
  Comes = Gets (tuple_rules d t) from total

  -- a number, where the reader takes one
  number_gets : {one : Expected d t} {below : Stack} {s : Reading D} {a : D} {symbols left : List Symbol} (state : D → Reading D) (next : Stack) →
      BeginWithNumber t a symbols left →
      ((at : ℕ) (symbol : Symbol) (others : List Symbol) → symbols ≡ symbol ∷ others → step d t s one at symbol others ≡ with_element state next (element_at t at (symbol ∷ others))) →
      Comes (one ∷ below) s symbols → Comes (next ++ below) (state a) left
  number_gets {a = a} {symbols = symbols} {left = left} state next n is g =
      let b = number_stands t taken a symbols left n in
      let g2 = left_is g b.are in
      long_turn b.others g2 (state a) next (is g2.at b.first (b.others ++ left) b.are ∙ ap (with_element state next) (b.taken g2.at))

  -- a cell, whose mark comes next
  cell_gets : {expected : Expected d t} {below : Stack} {symbols : List Symbol} (left : List Symbol) (flows : Flows) (cells : CellList) (place : ℕ) (num : D) (truth : AbsBool) (names : Names)
      (entry : List ℕ × AbsCell D) (here : ℕ) (next : Names) → IsNamePlace d t w expected → Placed known names entry.0 here next → is_listed cells here ≡ false →
      BeginWithCell t entry symbols left →
      Comes (expected ∷ below) (there flows cells place num truth names) symbols →
      Comes (w.at_mark ∷ below) (there flows cells here entry.1.val.num entry.1.val.truth next) (mark_symbols entry.1.unset ++ left)
  cell_gets {expected} {below = below} left flows cells place num truth names entry here next position p new (parts, e, n) g =
      let val = entry.1.val in
      let s = there flows cells place num truth names in
      let named_so = there flows cells here num truth next in
      let is_named = turn (left_is g e) named_so (w.at_equals ∷ w.at_number ∷ w.at_slash ∷ w.at_cell_truth ∷ w.at_mark ∷ [])
      (name_step d t w expected position s entry.0 here next (left_is g e).at (Plain token.Equals ∷ parts) (placed known names entry.0 here next p) new) in
      let assigned = turn is_named named_so [] (w.equals named_so is_named.at (Plain token.Equals) parts) in
      let numbered = number_gets (with_num named_so) [] n (λ at symbol others f. w.numbers named_so at symbol others) assigned in
      let parted = turn numbered (with_num named_so val.num) [] (w.slashes (with_num named_so val.num) numbered.at (Plain token.Slash) _) in
      turn parted (there flows cells here val.num val.truth next) [] (cell_truth_step d t w (with_num named_so val.num) val.truth parted.at _)

  -- the mark of a cell, and the `,` or the `}` after it
  mark_comma : (s : Reading D) (unset : Bool) {below : Stack} {left : List Symbol} → Comes (w.at_mark ∷ below) s (mark_symbols unset ++ (Plain token.Comma ∷ left)) →
      Comes (w.at_next_name ∷ below) (with_cell s unset) left
  mark_comma s true {left = left} g =
      let marked = turn g (with_cell s true) (w.at_after_name ∷ []) (w.marks s g.at (Plain token.Question) _) in
      turn marked (with_cell s true) (w.at_next_name ∷ []) (w.after_names (with_cell s true) marked.at (Plain token.Comma) left)
  mark_comma s false {left = left} g = turn g (with_cell s false) (w.at_next_name ∷ []) (mark_comma_step d t w s g.at left)

  mark_brace : (s : Reading D) (unset : Bool) {below : Stack} {left : List Symbol} → Comes (w.at_mark ∷ below) s (mark_symbols unset ++ (Plain token.RightBrace ∷ left)) →
      Comes below (ended d (with_cell s unset)) left
  mark_brace s true {left = left} g =
      let marked = turn g (with_cell s true) (w.at_after_name ∷ []) (w.marks s g.at (Plain token.Question) _) in
      turn marked (ended d (with_cell s true)) [] (w.after_names (with_cell s true) marked.at (Plain token.RightBrace) left)
  mark_brace s false {left = left} g = turn g (ended d (with_cell s false)) [] (mark_brace_step d t w s g.at left)

  -- the cells of a store were read
  record StoreRead (below : Stack) (flows : Flows) (entries : Entries) (after : Names) (left : List Symbol) : Type 0 where
    cells : CellList
    place : ℕ
    num : D
    truth : AbsBool
    lists : Lists after entries cells
    gets : Comes below (ended d (there flows cells place num truth after)) left

  moved : (done : Entries) (entry : List ℕ × AbsCell D) (entries : Entries) → done ++ entry ∷ entries ≡ (done ++ entry ∷ []) ++ entries
  moved done entry entries = sym (append_assoc done (entry ∷ []) entries)

  -- a name that was listed by then is none of those that come
  not_listed : (done : Entries) (entry : List ℕ × AbsCell D) (entries : Entries) (cells : CellList) (here : ℕ) (next : Names) →
      IsDistinct bytes_eq (names_of (done ++ entry ∷ entries)) → spot next entry.0 ≡ Some here → Lists next done cells → is_listed cells here ≡ false
  not_listed done entry entries cells here next once there l = listed_so entry.0 here there l ∙ ap is_some (fresh done entry.0 entry.1 entries once)

  record CellRead (below : Stack) (flows : Flows) (done : Entries) (entry : List ℕ × AbsCell D) (entries : Entries) (after : Names) (left : List Symbol) : Type 0 where
    cells : CellList
    place : ℕ
    names : Names
    others : Adding known names (names_of entries) after
    lists : Lists names (done ++ entry ∷ []) (with_one cells place entry.1)
    gets : Comes (w.at_mark ∷ below) (there flows cells place entry.1.val.num entry.1.val.truth names) (mark_symbols entry.1.unset ++ left)

  cell_read : {expected : Expected d t} {below : Stack} {symbols left : List Symbol} (flows : Flows) (cells : CellList) (place : ℕ) (num : D) (truth : AbsBool) (names after : Names)
      (done : Entries) (entry : List ℕ × AbsCell D) (entries : Entries) → IsNamePlace d t w expected → IsDistinct bytes_eq (names_of (done ++ entry ∷ entries)) →
      Adding known names (names_of (entry ∷ entries)) after → Lists names done cells → BeginWithCell t entry symbols left → Comes (expected ∷ below) (there flows cells place num truth names) symbols →
      CellRead below flows done entry entries after left
  cell_read {left = left} flows cells place num truth names after done entry entries position once a l b g =
      let f = first_of known names entry.0 (names_of entries) after a in
      let added = adds names entry.0 f.place f.next f.first.added in
      let l2 = lists_grown added.grown l in
      let here = added_spot names entry.0 f.place f.next f.first.added in
      let new = not_listed done entry entries cells f.place f.next once here l2 in
      record {
        cells = cells;
        place = f.place;
        names = f.next;
        others = f.others;
        lists = lists_one entry.0 f.place entry.1 here added.within new l2;
        gets = cell_gets left flows cells place num truth names entry f.place f.next position f.first new b g;
      }

  -- cells after others, and the `}`
  more_cells : (entries : Entries) {below : Stack} {symbols left : List Symbol} (flows : Flows) (done : Entries) (entry : List ℕ × AbsCell D) (after : Names) →
      IsDistinct bytes_eq (names_of (done ++ entry ∷ entries)) → BeginWithMore (BeginWithCell t) entries symbols (Plain token.RightBrace ∷ left) →
      CellRead below flows done entry entries after symbols →
      StoreRead below flows (done ++ entry ∷ entries) after left
  more_cells [] {below} {symbols} {left} flows done entry after once e r =
      let s = there flows r.cells r.place entry.1.val.num entry.1.val.truth r.names in
      let same : r.names ≡ after = same_Some r.names after r.others.added in
      let P : Names → Type 0 = λ names. StoreRead below flows (done ++ entry ∷ []) names left in
      subst P same (record {
        cells = with_one r.cells r.place entry.1;
        place = r.place;
        num = entry.1.val.num;
        truth = entry.1.val.truth;
        lists = r.lists;
        gets = mark_brace s entry.1.unset (left_is r.gets (ap (λ ss. mark_symbols entry.1.unset ++ ss) e));
      })
  more_cells (other ∷ entries) {below} {symbols} {left} flows done entry after once (piece, next, e, b, more) r =
      let s = there flows r.cells r.place entry.1.val.num entry.1.val.truth r.names in
      let Q : Entries → Type 0 = λ es. IsDistinct bytes_eq (names_of es) in
      let P : Entries → Type 0 = λ es. StoreRead below flows es after left in
      let once2 = subst Q (moved done entry (other ∷ entries)) once in
      let g = mark_comma s entry.1.unset (left_is r.gets (ap (λ ss. mark_symbols entry.1.unset ++ ss) e)) in
      let r2 = cell_read flows (with_one r.cells r.place entry.1) r.place entry.1.val.num entry.1.val.truth r.names after (done ++ entry ∷ []) other entries (next_place d t w) once2 r.others r.lists b g in
      subst P (sym (moved done entry (other ∷ entries))) (more_cells entries flows (done ++ entry ∷ []) other after once2 more r2)

  -- all cells of a store
  cells_get : (entries : Entries) {below : Stack} {symbols left : List Symbol} (flows : Flows) (place : ℕ) (num : D) (truth : AbsBool) (names after : Names) →
      IsDistinct bytes_eq (names_of entries) → Adding known names (names_of entries) after → BeginWithPieces (BeginWithCell t) entries symbols (Plain token.RightBrace ∷ left) →
      Comes (w.at_first_name ∷ below) (there flows [] place num truth names) symbols → StoreRead below flows entries after left
  cells_get [] {below} {symbols} {left} flows place num truth names after once a e g =
      let s = there flows [] place num truth names in
      let P : Names → Type 0 = λ ns. StoreRead below flows [] ns left in
      let g2 = left_is g e in
      subst P (same_Some names after a.added) (record { cells = []; place = place; num = num; truth = truth; lists = lists_none names; gets = turn g2 (ended d s) [] (w.first_names s g2.at (Plain token.RightBrace) left) })
  cells_get (entry ∷ entries) flows place num truth names after once a (next, b, more) g =
      more_cells entries flows [] entry after once more (cell_read flows [] place num truth names after [] entry entries (first_place d t w) once a (lists_none names) b g)

  -- a flow was read that is the written one once its store has a cell for each name
  record FlowRead (flows : Flows) (value : WrittenFlow D) (after : Names) (left : List Symbol) : Type 0 where
    found : AbsFlow D
    meant : padded_flow d (length all) found ≡ flow_of d all value
    place : ℕ
    num : D
    truth : AbsBool
    gets : Comes (w.at_after ∷ []) (there (flows ++ found ∷ []) [] place num truth after) left

  not_close : (symbols : List Symbol) (symbol : Symbol) (others : List Symbol) → closes symbols ≡ false → symbols ≡ symbol ∷ others → is_close symbol ≡ false
  not_close symbols symbol others c e = sym (ap closes e) ∙ c

  flow_gets : (value : WrittenFlow D) {symbols left : List Symbol} (flows : Flows) (place : ℕ) (num : D) (truth : AbsBool) (names after : Names) →
      slice_get sorts (length flows) ≡ Some (sort_of value) →
      IsDistinct bytes_eq (names_listed value) → Adding known names (names_listed value) after → HasGrown after all → BeginWithFlow t value symbols left →
      Comes (w.at_item ∷ []) (there flows [] place num truth names) symbols → FlowRead flows value after left
  flow_gets (Number a) {symbols} {left} flows place num truth names after n once adding grown (c, b) g =
      let s = there flows [] place num truth names in
      let P : Names → Type 0 = λ ns. FlowRead flows (Number a) ns left in
      let g2 = number_gets (λ element. with_flow s (flow.Int element)) (w.at_after ∷ []) b
      (λ at symbol others e. item_step d t w s sort.Int at symbol others n (not_close symbols symbol others c e) ∙ w.int_value s at symbol others) g in
      subst P (same_Some names after adding.added) (record { found = flow.Int a; meant = refl; place = place; num = num; truth = truth; gets = g2 })
  flow_gets (Truths a) {symbols} {left} flows place num truth names after n once adding grown e g =
      let s = there flows [] place num truth names in
      let P : Names → Type 0 = λ ns. FlowRead flows (Truths a) ns left in
      let g1 = left_is g e in
      let g2 = turn g1 (with_flow s (flow.Bool a)) (w.at_after ∷ []) (item_step d t w s sort.Bool g1.at (Named (bool_text a)) left n refl ∙ bool_step d t w s a g1.at left) in
      subst P (same_Some names after adding.added) (record { found = flow.Bool a; meant = refl; place = place; num = num; truth = truth; gets = g2 })
  flow_gets (Parts a) {symbols} {left} flows place num truth names after n once adding grown (c, b) g =
      let s = there flows [] place num truth names in
      let P : Names → Type 0 = λ ns. FlowRead flows (Parts a) ns left in
      let g2 = number_gets (with_num s) (w.at_slash ∷ w.at_truth ∷ w.at_after ∷ []) b
      (λ at symbol others e. item_step d t w s sort.Val at symbol others n (not_close symbols symbol others c e) ∙ w.val_value s at symbol others) g in
      let parted = turn g2 (with_num s a.num) [] (w.slashes (with_num s a.num) g2.at (Plain token.Slash) _) in
      let g3 = turn parted (with_flow (with_num s a.num) (flow.Val a)) [] (truth_step d t w (with_num s a.num) a.truth parted.at left) in
      subst P (same_Some names after adding.added) (record { found = flow.Val a; meant = refl; place = place; num = a.num; truth = truth; gets = g3 })
  flow_gets (Cells entries) {symbols} {left} flows place num truth names after n once adding grown (inside, e, b) g =
      let s = there flows [] place num truth names in
      let g1 = left_is g e in
      let g2 = turn g1 s (w.at_first_name ∷ w.at_after ∷ []) (item_step d t w s sort.Store g1.at (Plain token.LeftBrace) inside n refl ∙ w.store_value s g1.at (Plain token.LeftBrace) inside) in
      let r = cells_get entries flows place num truth names after once adding b g2 in
      record {
        found = flow.Store (store_of d (spec.all_cells d r.cells));
        meant = store_meant d all entries r.cells different (lists_grown grown r.lists);
        place = r.place;
        num = r.num;
        truth = r.truth;
        gets = r.gets;
      }
  flow_gets NoStore {symbols} {left} flows place num truth names after n once adding grown e g =
      let s = there flows [] place num truth names in
      let P : Names → Type 0 = λ ns. FlowRead flows NoStore ns left in
      let g1 = left_is g e in
      let g2 = turn g1 (with_flow s (flow.Store store.Empty)) (w.at_after ∷ []) (item_step d t w s sort.Store g1.at _ left n refl ∙ w.store_value s g1.at (Named (codes "none")) left) in
      subst P (same_Some names after adding.added) (record { found = flow.Store store.Empty; meant = refl; place = place; num = num; truth = truth; gets = g2 })

  -- values were read, up to the `)`
  record ValuesRead (flows : Flows) (values : List (WrittenFlow D)) (after : Names) (left : List Symbol) : Type 0 where
    found : Flows
    meant : map (padded_flow d (length all)) found ≡ map (flow_of d all) values
    place : ℕ
    num : D
    truth : AbsBool
    gets : Comes [] (there (flows ++ found) [] place num truth after) left

  ended_so : {flows : Flows} {place : ℕ} {num : D} {truth : AbsBool} {after : Names} (names : Names) {left : List Symbol} → names ≡ after →
      Comes [] (there flows [] place num truth names) left → ValuesRead flows [] after left
  ended_so {flows} {place} {num} {truth} names {left = left} e g =
      let P : Names → Type 0 = λ ns. ValuesRead flows [] ns left in
      let Q : Flows → Type 0 = λ xs. Comes [] (there xs [] place num truth names) left in
      subst P e (record { found = []; meant = refl; place = place; num = num; truth = truth; gets = subst Q (sym (append-nil flows)) g })

  joined : {flows : Flows} {value : WrittenFlow D} {values : List (WrittenFlow D)} {middle after : Names} {next left : List Symbol} (r : FlowRead flows value middle next) →
      ValuesRead (flows ++ r.found ∷ []) values after left →
      ValuesRead flows (value ∷ values) after left
  joined {flows} {value} {values} {middle} {after} {next} {left} r v =
      let Q : Flows → Type 0 = λ xs. Comes [] (there xs [] v.place v.num v.truth after) left in
      record {
        found = r.found ∷ v.found;
        meant = ap (λ x. x ∷ map (padded_flow d (length all)) v.found) r.meant ∙ ap (λ xs. flow_of d all value ∷ xs) v.meant;
        place = v.place;
        num = v.num;
        truth = v.truth;
        gets = subst Q (append_assoc flows (r.found ∷ []) v.found) v.gets;
      }

  -- one value was read, and others are to come
  record OneRead (flows : Flows) (value : WrittenFlow D) (values : List (WrittenFlow D)) (after : Names) (next : List Symbol) : Type 0 where
    middle : Names
    others : Adding known middle (flat_map names_listed values) after
    read : FlowRead flows value middle next

  one_get : (value : WrittenFlow D) (values : List (WrittenFlow D)) {symbols next : List Symbol} (flows : Flows) (place : ℕ) (num : D) (truth : AbsBool) (names after : Names) →
      Wants sorts flows (map sort_of (value ∷ values)) →
      All IsOnce (value ∷ values) → Adding known names (flat_map names_listed (value ∷ values)) after → HasGrown after all → BeginWithFlow t value symbols next →
      Comes (w.at_item ∷ []) (there flows [] place num truth names) symbols →
      OneRead flows value values after next
  one_get value values flows place num truth names after u once a grown b g =
      let f = front_of known names (names_listed value) (flat_map names_listed values) after a in
      let grows = words_grow f.middle (flat_map names_listed values) after f.others.added in
      record {
        middle = f.middle;
        others = f.others;
        read = flow_gets value flows place num truth names f.middle (next_is sorts flows (map sort_of (value ∷ values)) u) (All-head IsOnce value values once) f.first (grown_more grows grown) b g;
      }

  more_get : (values : List (WrittenFlow D)) {symbols left : List Symbol} (flows : Flows) (place : ℕ) (num : D) (truth : AbsBool) (names after : Names) →
      Wants sorts flows (map sort_of values) → All IsOnce values →
      Adding known names (flat_map names_listed values) after → HasGrown after all → BeginWithMore (BeginWithFlow t) values symbols (Plain token.RightParen ∷ left) →
      Comes (w.at_after ∷ []) (there flows [] place num truth names) symbols →
      ValuesRead flows values after left
  more_get [] {left = left} flows place num truth names after u once a grown e g =
      let s = there flows [] place num truth names in
      let g2 = left_is g e in
      ended_so names (same_Some names after a.added) (turn g2 s [] (w.none_after s g2.at (Plain token.RightParen) left (next_is sorts flows [] u)))
  more_get (value ∷ values) flows place num truth names after u once a grown (piece, next, e, b, more) g =
      let s = there flows [] place num truth names in
      let g2 = left_is g e in
      let g3 = turn g2 s (w.at_item ∷ []) (w.some_after s (sort_of value) g2.at (Plain token.Comma) piece (next_is sorts flows (map sort_of (value ∷ values)) u)) in
      let o = one_get value values flows place num truth names after u once a grown b g3 in
      let r = o.read in
      let others_once = All-tail IsOnce value values once in
      joined r (more_get values (flows ++ r.found ∷ []) r.place r.num r.truth o.middle after (wants_more sorts flows (sort_of value) (map sort_of values) r.found u) others_once o.others grown more r.gets)

  values_get : (values : List (WrittenFlow D)) {symbols left : List Symbol} (place : ℕ) (num : D) (truth : AbsBool) (names after : Names) →
      Wants {D = D} sorts [] (map sort_of values) → All IsOnce values →
      Adding known names (flat_map names_listed values) after → HasGrown after all → BeginWithPieces (BeginWithFlow t) values symbols (Plain token.RightParen ∷ left) →
      Comes (w.at_item ∷ []) (there [] [] place num truth names) symbols →
      ValuesRead [] values after left
  values_get [] {left = left} place num truth names after u once a grown e g =
      let s = there [] [] place num truth names in
      let g2 = left_is g e in
      ended_so names (same_Some names after a.added) (turn g2 s [] (w.no_item s g2.at (Plain token.RightParen) left (next_is sorts [] [] u)))
  values_get (value ∷ values) place num truth names after u once a grown (next, b, more) g =
      let o = one_get value values [] place num truth names after u once a grown b g in
      let r = o.read in
      let others_once = All-tail IsOnce value values once in
      joined r (more_get values (r.found ∷ []) r.place r.num r.truth o.middle after (wants_more sorts [] (sort_of value) (map sort_of values) r.found u) others_once o.others grown more r.gets)

pub abs_tuples_are_read : {D : Type 0} (d : Domain D) (t : DomainTexts D) → IsTaken t →
    (known : Bool) (sorts : List FlowSort) (names : List (List ℕ)) (at : ℕ) (symbols : List Symbol) (read : ReadTuple D) (end : ℕ) → IsDistinct bytes_eq names →
    BeginWithAbsTuple d t known sorts names at symbols read end → read_tuple d t known sorts names at symbols ≡ Ok (read, end)
unfolding read_tuple
abs_tuples_are_read {D} d t taken known sorts names at symbols read end different b =
    let o = b.spells in
    let w = grammar d t in
    let start = nothing d known sorts names in
    let from : Answer D = read_symbols d t known sorts names at symbols in
    let all_differ = words_differ names (flat_map names_listed o.written) read.names o.names_are different in
    let g : Gets (tuple_rules d t) from (at + length symbols) (w.at_open ∷ w.at_item ∷ []) start symbols = record { at = at; is = w.begins known sorts names at symbols; place = refl } in
    let g1 = left_is g o.opens in
    let g2 = turn g1 start [] (w.opens start g1.at (Plain token.LeftParen) o.inside) in
    let r = values_get d t taken w known sorts read.names all_differ from (at + length symbols) o.written 0 d.empty (record { has_true = false; has_false = false }) names read.names
    (record { front = []; are = sym o.sorted; counted = refl }) o.once (record { added = o.names_are; kept = o.none_is_new }) (same_names read.names) o.values g2 in
    let tuple_is : map (padded_flow d (length read.names)) r.found ≡ read.tuple = r.meant ∙ sym o.tuple_is in
    let full : list_any (flow_is_empty d) r.found ≡ false = sym (paddings_are_empty d (length read.names) r.found) ∙ ap (list_any (flow_is_empty d)) tuple_is ∙ none_empty d read.tuple o.proper in
    let place : r.gets.at ≡ end = omega (arith, r.gets.place, b.end_is) in
    let last = reached known sorts r.found [] r.place r.num r.truth read.names in
    ap (told d at) (r.gets.is ∙ run_ends (tuple_rules d t) r.gets.at last b.left) ∙ told_is d at last r.gets.at read full tuple_is ∙ ap (λ n. read_to read.tuple read.names n) place
