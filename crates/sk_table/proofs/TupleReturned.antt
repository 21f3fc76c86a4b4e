-- The symbols of a tuple are read as this tuple.
use Rattle.std.proofs.Common.{◌≡◌, ℕ, ◌+◌, ◌-◌, ◌<◌, ◌≤◌, Bool, true, false, cond, not, ◌||◌, List, [], ◌∷◌, ◌++◌, length, map, refl, sym, ap, subst, ◌∙◌, arith, append_assoc, append-nil, length-append, Option, Some, None, Result, Ok, Err}
use Rattle.std.specs.Prelude.{MatchResult, nat_eq, slice_get, slice_set}
use Rattle.std.specs.List.{list_all, list_any, IsDistinct}
use Rattle.std.specs.Str.{bytes_eq}
use Rattle.std.proofs.lemmas.Bool.{and_parts}
use Rattle.std.proofs.lemmas.Bool.Decides.{nat_tests}
use Rattle.sk_base.specs.Answer.{◌>>=◌}
use Rattle.sk_base.specs.Names.{place_of_name}
use Rattle.sk_base.specs.declared.flow.FlowSort.{FlowSort}
use Rattle.sk_base.specs.declared.flow.FlowSort.TheVariants as sort
use Rattle.sk_lex.specs.Run.{Rules, run}
use Rattle.sk_lex.specs.Symbols.{Symbol, Named, Plain, is_close}
use Rattle.sk_lex.specs.declared.token.TokenKind.TheVariants.{LeftParen, RightParen, LeftBrace, RightBrace, Comma, Equals as Assigns, Slash as Parts, Question}
use Rattle.sk_lattice.specs.Domain.{Domain}
use Rattle.sk_lattice.specs.DomainTexts.{DomainTexts, TextLaws, EndsSymbols, closes}
use Rattle.sk_lattice.specs.Empty.{val_is_empty, cell_is_empty, flow_is_empty, flow_is_proper, is_proper}
use Rattle.sk_lattice.specs.Padding.{padded_flow, padded_cells}
use Rattle.sk_lattice.specs.Shapes.{flow_has_sort, has_sorts}
use Rattle.sk_lattice.specs.Texts.{truths_text, bool_text, entries}
use Rattle.sk_lattice.specs.declared.truth.AbsBool.{AbsBool}
use Rattle.sk_lattice.specs.declared.value.AbsVal.{AbsVal}
use Rattle.sk_lattice.specs.declared.cell.AbsCell.{AbsCell}
use Rattle.sk_lattice.specs.Truth.{bool_is_empty}
use Rattle.sk_lattice.specs.declared.store.AbsStore.{AbsStore}
use Rattle.sk_lattice.specs.declared.store.AbsStore.TheVariants.{Cells}
use Rattle.sk_lattice.specs.declared.flow.AbsFlow.{AbsFlow}
use Rattle.sk_lattice.specs.declared.flow.AbsFlow.TheVariants as flow
use Rattle.sk_table.specs.declared.expected.Expected.{Expected}
use Rattle.sk_table.specs.declared.expected.Expected.TheVariants.{Open, Item, After, Slash, Truth, FirstName, NextName, Equals, Number, CellTruth, Mark, AfterName}
use Rattle.sk_table.specs.declared.fault.TableError.{TableError}
use Rattle.sk_table.specs.declared.fault.TableError.TheVariants as error
use Rattle.sk_table.specs.Tables.{tuple_at}
use Rattle.sk_table.specs.Tuples as spec
use Rattle.sk_table.specs.Tuples.{Reading, Met, met, refused, more_taken, element_at, with_element, with_flow, with_num, truths_named, truths_of, begun, value, closing, item, after, val_truth, cell_truth, all_cells, ended, is_listed, widened, with_cell, found_name, named, first_name, after_name, mark, step, tuple_rules, nothing, ReadTuple, whole, read_tuple}
use Rattle.sk_table.proofs.Spelled.{mark_symbols}
use Rattle.sk_table.proofs.Said.{more, inside, val_symbols, entry_symbols, flow_symbols, tuple_symbols}
use Rattle.sk_table.proofs.Listing.{place_after, Listed, none_left, left_out, listed, are_listed, is_off, IsFront, front_begins, front_unset, front_set, not_listed, store_is}
use Rattle.sk_table.proofs.TupleShapes.{head_of}
use Rattle.sk_table.proofs.Turns.{Gets, turn, long_turn, left_is}

-- the first symbol, and the others
pub record Begins (ss : List Symbol) : Type 0 where
  pub first : Symbol
  pub others : List Symbol
  pub are : ss ≡ first ∷ others

words_are : (some other : Bool) → truths_named (truths_text some other) ≡ Some (record { has_true = some; has_false = other })
words_are false false = refl
words_are true false = refl
words_are false true = refl
words_are true true = refl

truths_are : (set : AbsBool) → truths_of (Named (bool_text set)) ≡ Some set
truths_are set = words_are set.has_true set.has_false

next_after : (done rest : List FlowSort) → slice_get (done ++ rest) (length done) ≡ head_of rest
next_after [] [] = refl
next_after [] (s ∷ rest) = refl
next_after (s ∷ done) rest = next_after done rest

run_ends : {E S C : Type 0} (rules : Rules E S C) (at : ℕ) (state : S) (left : List Symbol) → run rules 0 at [] state left ≡ Ok (state, at)
run_ends rules at state [] = refl
run_ends rules at state (symbol ∷ left) = refl

module _ {D : Type 0} (d : Domain D) (t : DomainTexts D) (laws : TextLaws d t) where
  element_begins : (a : D) → Begins (t.symbols a)
  element_begins a = by (t.symbols a) refl where
    by : (ss : List Symbol) → t.symbols a ≡ ss → Begins ss
    by [] e =
        let P : Result (D × ℕ) ℕ → Type 0 = λ r. MatchResult r (λ p. (0 < p.1) × (p.1 ≤ 0)) (λ count. count ≤ 0) in
        let none : t.taken [] ≡ Ok (a, 0) = ap (λ ss. t.taken (ss ++ [])) (sym e) ∙ laws.reads a [] tt ∙ ap (λ ss. Ok (a, length ss)) e in
        absurd (omega (arith, (subst P none (laws.within [])).0))
    by (s ∷ ss) e = record { first = s; others = ss; are = refl }

  element_taken : (a : D) (at : ℕ) (left : List Symbol) (b : Begins (t.symbols a)) → EndsSymbols left → element_at t at (b.first ∷ (b.others ++ left)) ≡ Ok (a, length b.others)
  element_taken a at left b ok =
      let R = Result (D × ℕ) (TableError × ℕ) in
      let ok_of : ℕ → R = λ n. Ok (a, n) in
      ap (λ ss. more_taken at (t.taken (ss ++ left))) (sym b.are) ∙ ap (more_taken at) (laws.reads a left ok) ∙ ap ok_of (omega (arith, ap length b.are))

  number_step : (s : Reading D) (a : D) (at : ℕ) (left : List Symbol) (b : Begins (t.symbols a)) → EndsSymbols left →
      step d t s Number at b.first (b.others ++ left) ≡ Ok (record { expected = []; state = with_num s a; more = length b.others })
  unfolding step
  number_step s a at left b ok = ap (with_element (with_num s) []) (element_taken a at left b ok)

  slash_step : (s : Reading D) (at : ℕ) (left : List Symbol) → step d t s Slash at (Plain Parts) left ≡ met s []
  unfolding step
  slash_step s at left = refl

  open_step : (s : Reading D) (at : ℕ) (left : List Symbol) → step d t s Open at (Plain LeftParen) left ≡ met s []
  unfolding step
  open_step s at left = refl

  equals_step : (s : Reading D) (at : ℕ) (left : List Symbol) → step d t s Equals at (Plain Assigns) left ≡ met s []
  unfolding step
  equals_step s at left = refl

  truth_step : (s : Reading D) (set : AbsBool) (at : ℕ) (left : List Symbol) → step d t s Truth at (Named (bool_text set)) left ≡ met (with_flow s (flow.Val (record { num = s.num; truth = set }))) []
  unfolding step val_truth
  truth_step s set at left = ap (val_truth s at) (truths_are set)

  cell_truth_step : (s : Reading D) (set : AbsBool) (at : ℕ) (left : List Symbol) → step d t s CellTruth at (Named (bool_text set)) left ≡ met (record s { truth = set }) []
  unfolding step cell_truth
  cell_truth_step s set at left = ap (cell_truth s at) (truths_are set)

  item_step : (s : Reading D) (wanted : FlowSort) (at : ℕ) (symbol : Symbol) (left : List Symbol) → spec.next_sort s ≡ Some wanted → is_close symbol ≡ false → step d t s Item at symbol left ≡ value t s wanted at symbol left
  unfolding step item
  item_step s wanted at symbol left n c =
      ap (λ w. item t s w at symbol left) n ∙ ap (λ b. cond b (refused error.WrongCount at) (value t s wanted at symbol left)) c

  int_value : (s : Reading D) (a : D) (at : ℕ) (left : List Symbol) (b : Begins (t.symbols a)) → EndsSymbols left →
      value t s sort.Int at b.first (b.others ++ left) ≡ Ok (record { expected = After ∷ []; state = with_flow s (flow.Int a); more = length b.others })
  unfolding value
  int_value s a at left b ok = ap (with_element (λ element. with_flow s (flow.Int element)) (After ∷ [])) (element_taken a at left b ok)

  val_value : (s : Reading D) (a : D) (at : ℕ) (left : List Symbol) (b : Begins (t.symbols a)) → EndsSymbols left →
      value t s sort.Val at b.first (b.others ++ left) ≡ Ok (record { expected = Slash ∷ Truth ∷ After ∷ []; state = with_num s a; more = length b.others })
  unfolding value
  val_value s a at left b ok = ap (with_element (with_num s) (Slash ∷ Truth ∷ After ∷ [])) (element_taken a at left b ok)

  bool_value : (s : Reading D) (set : AbsBool) (at : ℕ) (left : List Symbol) → value t s sort.Bool at (Named (bool_text set)) left ≡ met (with_flow s (flow.Bool set)) (After ∷ [])
  unfolding value
  bool_value s set at left = ap (spec.truths s at) (truths_are set)

  store_value : (s : Reading D) (at : ℕ) (left : List Symbol) → value t s sort.Store at (Plain LeftBrace) left ≡ met s (FirstName ∷ After ∷ [])
  unfolding value begun
  store_value s at left = refl

  name_is : (s : Reading D) (word : List ℕ) (place at : ℕ) → s.known ≡ true → place_of_name s.names word ≡ Some place → is_listed s.cells place ≡ false →
      spec.name s at (Some word) ≡ met (record s { name = place }) (Equals ∷ Number ∷ Slash ∷ CellTruth ∷ Mark ∷ [])
  unfolding spec.name
  name_is s word place at k p n =
      ap (λ known. named s at (spec.place_for known s.names word)) k ∙ ap (λ found. named s at (found_name s.names found)) p
      ∙ ap (λ b. cond b (refused error.Duplicate at) (met (record s { name = place }) (Equals ∷ Number ∷ Slash ∷ CellTruth ∷ Mark ∷ []))) n

  next_name_step : (s : Reading D) (word : List ℕ) (at : ℕ) (left : List Symbol) → step d t s NextName at (Named word) left ≡ spec.name s at (Some word)
  unfolding step
  next_name_step s word at left = refl

  first_name_step : (s : Reading D) (word : List ℕ) (at : ℕ) (left : List Symbol) → step d t s FirstName at (Named word) left ≡ spec.name s at (Some word)
  unfolding step first_name
  first_name_step s word at left = refl

  no_name_step : (s : Reading D) (at : ℕ) (left : List Symbol) → step d t s FirstName at (Plain RightBrace) left ≡ met (ended d s) []
  unfolding step first_name
  no_name_step s at left = refl

  marked_step : (s : Reading D) (at : ℕ) (left : List Symbol) → step d t s Mark at (Plain Question) left ≡ met (with_cell s true) (AfterName ∷ [])
  unfolding step mark
  marked_step s at left = refl

  mark_comma_step : (s : Reading D) (at : ℕ) (left : List Symbol) → step d t s Mark at (Plain Comma) left ≡ met (with_cell s false) (NextName ∷ [])
  unfolding step mark after_name
  mark_comma_step s at left = refl

  mark_brace_step : (s : Reading D) (at : ℕ) (left : List Symbol) → step d t s Mark at (Plain RightBrace) left ≡ met (ended d (with_cell s false)) []
  unfolding step mark after_name
  mark_brace_step s at left = refl

  comma_step : (s : Reading D) (at : ℕ) (left : List Symbol) → step d t s AfterName at (Plain Comma) left ≡ met s (NextName ∷ [])
  unfolding step after_name
  comma_step s at left = refl

  brace_step : (s : Reading D) (at : ℕ) (left : List Symbol) → step d t s AfterName at (Plain RightBrace) left ≡ met (ended d s) []
  unfolding step after_name
  brace_step s at left = refl

  after_step : (s : Reading D) (wanted : FlowSort) (at : ℕ) (left : List Symbol) → spec.next_sort s ≡ Some wanted → step d t s After at (Plain Comma) left ≡ met s (Item ∷ [])
  unfolding step after
  after_step s wanted at left n = ap (λ w. after s w at (Plain Comma)) n

  after_all_step : (s : Reading D) (at : ℕ) (left : List Symbol) → spec.next_sort s ≡ None → step d t s After at (Plain RightParen) left ≡ met s []
  unfolding step after
  after_all_step s at left n = ap (λ w. after s w at (Plain RightParen)) n

  no_item_step : (s : Reading D) (at : ℕ) (left : List Symbol) → spec.next_sort s ≡ None → step d t s Item at (Plain RightParen) left ≡ met s []
  unfolding step item
  no_item_step s at left n = ap (λ w. item t s w at (Plain RightParen) left) n

module _ {D : Type 0} (d : Domain D) (t : DomainTexts D) (laws : TextLaws d t) (only : (a : D) → d.is_empty a ≡ true → a ≡ d.empty) (begins : (a : D) → closes (t.symbols a) ≡ false) (names : List (List ℕ)) (different : IsDistinct bytes_eq names) (sorts : List FlowSort) where
  -- what was read so far
  abbrev there : List (AbsFlow D) → List (Option (AbsCell D)) → ℕ → D → AbsBool → Reading D
  there flows cells place num truth = record { sorts = sorts; flows = flows; cells = cells; name = place; num = num; truth = truth; known = true; names = names }

  abbrev Answer : Type 0
  Answer = Result (Reading D × ℕ) (TableError × ℕ)

  module _ (from : Answer) (total : ℕ) where
    abbrev Comes : List Expected → Reading D → List Symbol → Type 0
    Comes = Gets (tuple_rules d t) from total

    number_gets : (s : Reading D) (a : D) {below : List Expected} {left : List Symbol} → EndsSymbols left → Comes (Number ∷ below) s (t.symbols a ++ left) → Comes below (with_num s a) left
    number_gets s a {left = left} ok g =
        let b = element_begins d t laws a in
        let g2 = left_is g (ap (λ ss. ss ++ left) b.are) in
        long_turn b.others g2 (with_num s a) [] (number_step d t laws s a g2.at left b ok)

    -- a cell, whose mark comes next
    entry_gets : (flows : List (AbsFlow D)) (cells : List (Option (AbsCell D))) (place : ℕ) (num : D) (truth : AbsBool) (val : AbsVal D) {below : List Expected} {left : List Symbol} →
        Comes (Equals ∷ Number ∷ Slash ∷ CellTruth ∷ Mark ∷ below) (there flows cells place num truth) (Plain Assigns ∷ (val_symbols t val ++ left)) → Comes (Mark ∷ below) (there flows cells place val.num val.truth) left
    entry_gets flows cells place num truth val {left = left} g =
        let s = there flows cells place num truth in
        let assigned = turn g s [] (equals_step d t laws s g.at _) in
        let grouped = left_is assigned (append_assoc (t.symbols val.num) (Plain Parts ∷ Named (bool_text val.truth) ∷ []) left) in
        let numbered = number_gets s val.num refl grouped in
        let parted = turn numbered (with_num s val.num) [] (slash_step d t laws (with_num s val.num) numbered.at _) in
        turn parted (there flows cells place val.num val.truth) [] (cell_truth_step d t laws (with_num s val.num) val.truth parted.at left)

    -- the mark of a cell, and the comma or the `}` after it
    mark_comma : (s : Reading D) (unset : Bool) {below : List Expected} {left : List Symbol} → Comes (Mark ∷ below) s (mark_symbols unset ++ (Plain Comma ∷ left)) → Comes (NextName ∷ below) (with_cell s unset) left
    mark_comma s true {left = left} g =
        let marked = turn g (with_cell s true) (AfterName ∷ []) (marked_step d t laws s g.at _) in
        turn marked (with_cell s true) (NextName ∷ []) (comma_step d t laws (with_cell s true) marked.at left)
    mark_comma s false {left = left} g = turn g (with_cell s false) (NextName ∷ []) (mark_comma_step d t laws s g.at left)

    mark_brace : (s : Reading D) (unset : Bool) {below : List Expected} {left : List Symbol} → Comes (Mark ∷ below) s (mark_symbols unset ++ (Plain RightBrace ∷ left)) → Comes below (ended d (with_cell s unset)) left
    mark_brace s true {left = left} g =
        let marked = turn g (with_cell s true) (AfterName ∷ []) (marked_step d t laws s g.at _) in
        turn marked (ended d (with_cell s true)) [] (brace_step d t laws (with_cell s true) marked.at left)
    mark_brace s false {left = left} g = turn g (ended d (with_cell s false)) [] (mark_brace_step d t laws s g.at left)

    -- a store of these cells was read
    record StoreRead (below : List Expected) (flows : List (AbsFlow D)) (all : List (AbsCell D)) (left : List Symbol) : Type 0 where
      pub cells : List (Option (AbsCell D))
      pub place : ℕ
      pub num : D
      pub truth : AbsBool
      pub are : IsFront d cells all
      pub gets : Comes below (ended d (there flows cells place num truth)) left

    abbrev with_one : List (Option (AbsCell D)) → ℕ → AbsCell D → List (Option (AbsCell D))
    with_one cells place cell = slice_set (widened (place + 1) cells) place (Some cell)

    place_is : (front : List (List ℕ)) (name : List ℕ) (back : List (List ℕ)) → names ≡ front ++ name ∷ back → place_of_name names name ≡ Some (length front)
    place_is front name back e =
        let P : List (List ℕ) → Type 0 = λ ns. place_of_name ns name ≡ Some (length front) in
        let Q : List (List ℕ) → Type 0 = IsDistinct bytes_eq in
        subst P (sym e) (place_after front name back (subst Q e different))

    moved : {A : Type 0} (xs front back : List A) (x : A) → xs ≡ front ++ x ∷ back → xs ≡ (front ++ x ∷ []) ++ back
    moved xs front back x e = e ∙ sym (append_assoc front (x ∷ []) back)

    entry_grouped : (name : List ℕ) (cell : AbsCell D) (others left : List Symbol) → (entry_symbols t (name, cell) ++ others) ++ left ≡ Named name ∷ Plain Assigns ∷ (val_symbols t cell.val ++ (mark_symbols cell.unset ++ (others ++ left)))
    entry_grouped name cell others left =
        ap (λ ss. Named name ∷ Plain Assigns ∷ ss)
        (append_assoc (val_symbols t cell.val ++ mark_symbols cell.unset) others left ∙ append_assoc (val_symbols t cell.val) (mark_symbols cell.unset) (others ++ left))

    named_gets : (flows : List (AbsFlow D)) (cells : List (Option (AbsCell D))) (place : ℕ) (num : D) (truth : AbsBool) (front : List (List ℕ)) (name : List ℕ) (back : List (List ℕ)) (cell : AbsCell D) {below : List Expected} {left : List Symbol} (expected : Expected) →
        names ≡ front ++ name ∷ back → length cells ≤ length front →
        ((at : ℕ) (left : List Symbol) → step d t (there flows cells place num truth) expected at (Named name) left ≡ spec.name (there flows cells place num truth) at (Some name)) →
        Comes (expected ∷ below) (there flows cells place num truth) (Named name ∷ Plain Assigns ∷ (val_symbols t cell.val ++ left)) →
        Comes (Mark ∷ below) (there flows cells (length front) cell.val.num cell.val.truth) left
    named_gets flows cells place num truth front name back cell expected e short is g =
        let s = there flows cells place num truth in
        let found = turn g (there flows cells (length front) num truth) (Equals ∷ Number ∷ Slash ∷ CellTruth ∷ Mark ∷ [])
        (is g.at _ ∙ name_is d t laws s name (length front) g.at refl (place_is front name back e) (not_listed d cells (length front) short)) in
        entry_gets flows cells (length front) num truth cell.val found

    more_get : (flows : List (AbsFlow D)) (front ns : List (List ℕ)) (before cs : List (AbsCell D)) (es : List (List ℕ × AbsCell D)) (cells : List (Option (AbsCell D))) (place : ℕ) (cell : AbsCell D) {below : List Expected} {left : List Symbol} →
        names ≡ front ++ ns → length before ≡ length front → Listed d ns cs es → IsFront d (with_one cells place cell) before →
        Comes (Mark ∷ below) (there flows cells place cell.val.num cell.val.truth) (mark_symbols cell.unset ++ (more RightBrace (entry_symbols t) es ++ left)) → StoreRead below flows (before ++ cs) left
    more_get flows front ns before cs es cells place cell {below = below} {left = left} e long none_left f g =
        let P : List (AbsCell D) → Type 0 = λ all. StoreRead below flows all left in
        subst P (sym (append-nil before)) (record {
          cells = with_one cells place cell;
          place = place;
          num = cell.val.num;
          truth = cell.val.truth;
          are = f;
          gets = mark_brace (there flows cells place cell.val.num cell.val.truth) cell.unset g;
        })
    more_get flows front ns before cs es cells place cell {below = below} {left = left} e long (left_out {name = name} {names = back} {cell = other} {cells = rest} u l) f g =
        let P : List (AbsCell D) → Type 0 = λ all. StoreRead below flows all left in
        subst P (append_assoc before (other ∷ []) rest)
        (more_get flows (front ++ name ∷ []) back (before ++ other ∷ []) rest es cells place cell (moved names front back name e)
        (omega (arith, long, length-append before (other ∷ []), length-append front (name ∷ []))) l (front_unset d (with_one cells place cell) before other u f) g)
    more_get flows front ns before cs es cells place cell {below = below} {left = left} e long (listed {name = name} {names = back} {cell = other} {cells = rest} {es = others} l) f g =
        let P : List (AbsCell D) → Type 0 = λ all. StoreRead below flows all left in
        let Q : ℕ → Type 0 = λ n. IsFront d (slice_set (widened (n + 1) (with_one cells place cell)) n (Some other)) (before ++ other ∷ []) in
        let now = mark_comma (there flows cells place cell.val.num cell.val.truth) cell.unset g in
        let grouped = left_is now (entry_grouped name other (more RightBrace (entry_symbols t) others) left) in
        let entered = named_gets flows (with_one cells place cell) place cell.val.num cell.val.truth front name back other NextName e (omega (arith, f.short, long))
        (λ at left. next_name_step d t laws (there flows (with_one cells place cell) place cell.val.num cell.val.truth) name at left) grouped in
        subst P (append_assoc before (other ∷ []) rest)
        (more_get flows (front ++ name ∷ []) back (before ++ other ∷ []) rest others (with_one cells place cell) (length front) other (moved names front back name e)
        (omega (arith, long, length-append before (other ∷ []), length-append front (name ∷ []))) l (subst Q long (front_set d (with_one cells place cell) before other f)) entered)

    first_get : (flows : List (AbsFlow D)) (front ns : List (List ℕ)) (before cs : List (AbsCell D)) (es : List (List ℕ × AbsCell D)) (place : ℕ) (num : D) (truth : AbsBool) {below : List Expected} {left : List Symbol} →
        names ≡ front ++ ns → length before ≡ length front → Listed d ns cs es → IsFront d [] before →
        Comes (FirstName ∷ below) (there flows [] place num truth) (inside RightBrace (entry_symbols t) es ++ left) → StoreRead below flows (before ++ cs) left
    first_get flows front ns before cs es place num truth {below = below} {left = left} e long none_left f g =
        let P : List (AbsCell D) → Type 0 = λ all. StoreRead below flows all left in
        let s = there flows [] place num truth in
        subst P (sym (append-nil before)) (record { cells = []; place = place; num = num; truth = truth; are = f; gets = turn g (ended d s) [] (no_name_step d t laws s g.at left) })
    first_get flows front ns before cs es place num truth {below = below} {left = left} e long (left_out {name = name} {names = back} {cell = other} {cells = rest} u l) f g =
        let P : List (AbsCell D) → Type 0 = λ all. StoreRead below flows all left in
        subst P (append_assoc before (other ∷ []) rest)
        (first_get flows (front ++ name ∷ []) back (before ++ other ∷ []) rest es place num truth (moved names front back name e)
        (omega (arith, long, length-append before (other ∷ []), length-append front (name ∷ []))) l (front_unset d [] before other u f) g)
    first_get flows front ns before cs es place num truth {below = below} {left = left} e long (listed {name = name} {names = back} {cell = other} {cells = rest} {es = others} l) f g =
        let P : List (AbsCell D) → Type 0 = λ all. StoreRead below flows all left in
        let Q : ℕ → Type 0 = λ n. IsFront d (slice_set (widened (n + 1) []) n (Some other)) (before ++ other ∷ []) in
        let grouped = left_is g (entry_grouped name other (more RightBrace (entry_symbols t) others) left) in
        let entered = named_gets flows [] place num truth front name back other FirstName e (omega arith)
        (λ at left. first_name_step d t laws (there flows [] place num truth) name at left) grouped in
        subst P (append_assoc before (other ∷ []) rest)
        (more_get flows (front ++ name ∷ []) back (before ++ other ∷ []) rest others [] (length front) other (moved names front back name e)
        (omega (arith, long, length-append before (other ∷ []), length-append front (name ∷ []))) l (subst Q long (front_set d [] before other f)) entered)

    -- a flow was read that is this one once its store has a cell for each name
    record FlowRead (flows : List (AbsFlow D)) (x : AbsFlow D) (left : List Symbol) : Type 0 where
      pub found : AbsFlow D
      pub padded : padded_flow d (length names) found ≡ x
      pub full : flow_is_empty d found ≡ false
      pub place : ℕ
      pub num : D
      pub truth : AbsBool
      pub gets : Comes (After ∷ []) (there (flows ++ found ∷ []) [] place num truth) left

    first_symbol : (a : D) (b : Begins (t.symbols a)) → is_close b.first ≡ false
    first_symbol a b = sym (ap closes b.are) ∙ begins a

    same_count : (n m : ℕ) → nat_eq n m ≡ true → n ≡ m
    same_count n m h = grind (arith, nat_tests)

    store_gets : (flows : List (AbsFlow D)) (cells : List (AbsCell D)) (place : ℕ) (num : D) (truth : AbsBool) {left : List Symbol} → length cells ≡ length names → list_all (λ c. not (cell_is_empty d c)) cells ≡ true →
        Comes (FirstName ∷ After ∷ []) (there flows [] place num truth) (inside RightBrace (entry_symbols t) (entries d names cells) ++ left) → FlowRead flows (flow.Store (Cells cells)) left
    store_gets flows cells place num truth {left = left} long proper g =
        let r = first_get flows [] names [] cells (entries d names cells) place num truth refl refl (are_listed d only names cells long proper) (front_begins d) g in
        let P : AbsStore D → Type 0 = λ store. Comes (After ∷ []) (there (flows ++ flow.Store store ∷ []) [] r.place r.num r.truth) left in
        record {
          found = flow.Store (Cells (all_cells d r.cells));
          padded = ap (λ cells. flow.Store (Cells cells)) (ap (λ n. padded_cells d n (all_cells d r.cells)) (sym long) ∙ r.are.are);
          full = refl;
          place = r.place;
          num = r.num;
          truth = r.truth;
          gets = subst P (store_is d r.cells cells r.are proper) r.gets;
        }

    item_gets : (flows : List (AbsFlow D)) (wanted : FlowSort) (x : AbsFlow D) (place : ℕ) (num : D) (truth : AbsBool) {left : List Symbol} →
        flow_has_sort (length names) wanted x ≡ true → flow_is_proper d x ≡ true → slice_get sorts (length flows) ≡ Some wanted → EndsSymbols left →
        Comes (Item ∷ []) (there flows [] place num truth) (flow_symbols t d names x ++ left) → FlowRead flows x left
    item_gets flows sort.Int (flow.Int a) place num truth {left = left} h p n ok g =
        let s = there flows [] place num truth in
        let b = element_begins d t laws a in
        let g2 = left_is g (ap (λ ss. ss ++ left) b.are) in
        record {
          found = flow.Int a;
          padded = refl;
          full = is_off (d.is_empty a) p;
          place = place;
          num = num;
          truth = truth;
          gets = long_turn b.others g2 (with_flow s (flow.Int a)) (After ∷ []) (item_step d t laws s sort.Int g2.at b.first (b.others ++ left) n (first_symbol a b) ∙ int_value d t laws s a g2.at left b ok);
        }
    item_gets flows sort.Bool (flow.Bool set) place num truth {left = left} h p n ok g =
        let s = there flows [] place num truth in
        record {
          found = flow.Bool set;
          padded = refl;
          full = is_off (bool_is_empty set) p;
          place = place;
          num = num;
          truth = truth;
          gets = turn g (with_flow s (flow.Bool set)) (After ∷ []) (item_step d t laws s sort.Bool g.at (Named (bool_text set)) left n refl ∙ bool_value d t laws s set g.at left);
        }
    item_gets flows sort.Val (flow.Val a) place num truth {left = left} h p n ok g =
        let s = there flows [] place num truth in
        let b = element_begins d t laws a.num in
        let parts = Plain Parts ∷ Named (bool_text a.truth) ∷ left in
        let g2 = left_is g (append_assoc (t.symbols a.num) (Plain Parts ∷ Named (bool_text a.truth) ∷ []) left ∙ ap (λ ss. ss ++ parts) b.are) in
        let numbered = long_turn b.others g2 (with_num s a.num) (Slash ∷ Truth ∷ After ∷ [])
        (item_step d t laws s sort.Val g2.at b.first (b.others ++ parts) n (first_symbol a.num b) ∙ val_value d t laws s a.num g2.at parts b refl) in
        let parted = turn numbered (with_num s a.num) [] (slash_step d t laws (with_num s a.num) numbered.at _) in
        record {
          found = flow.Val a;
          padded = refl;
          full = is_off (val_is_empty d a) p;
          place = place;
          num = a.num;
          truth = truth;
          gets = turn parted (there (flows ++ flow.Val a ∷ []) [] place a.num truth) [] (truth_step d t laws (with_num s a.num) a.truth parted.at left);
        }
    item_gets flows sort.Store (flow.Store (Cells cells)) place num truth {left = left} h p n ok g =
        let s = there flows [] place num truth in
        let opened = turn g s (FirstName ∷ After ∷ []) (item_step d t laws s sort.Store g.at (Plain LeftBrace) _ n refl ∙ store_value d t laws s g.at _) in
        store_gets flows cells place num truth (same_count (length cells) (length names) h) p opened
    item_gets flows wanted x place num truth h p n ok g = absurd (cc)

    -- flows were read that are these once their stores have a cell for each name
    record AllRead (flows xs : List (AbsFlow D)) (left : List Symbol) : Type 0 where
      pub found : List (AbsFlow D)
      pub padded : map (padded_flow d (length names)) found ≡ xs
      pub full : list_any (flow_is_empty d) found ≡ false
      pub place : ℕ
      pub num : D
      pub truth : AbsBool
      pub gets : Comes [] (there (flows ++ found) [] place num truth) left

    more_end : (xs : List (AbsFlow D)) (left : List Symbol) → EndsSymbols (more RightParen (flow_symbols t d names) xs ++ left)
    more_end [] left = refl
    more_end (x ∷ xs) left = refl

    wanted_is : (flows : List (AbsFlow D)) (done rest : List FlowSort) → sorts ≡ done ++ rest → length flows ≡ length done → slice_get sorts (length flows) ≡ head_of rest
    wanted_is flows done rest e long = ap (λ all. slice_get all (length flows)) e ∙ ap (λ n. slice_get (done ++ rest) n) long ∙ next_after done rest

    with_front : {flows : List (AbsFlow D)} {x : AbsFlow D} {xs : List (AbsFlow D)} {left others : List Symbol} (r : FlowRead flows x others) → AllRead (flows ++ r.found ∷ []) xs left → AllRead flows (x ∷ xs) left
    with_front {flows = flows} {x = x} {left = left} r all =
        let P : List (AbsFlow D) → Type 0 = λ found. Comes [] (there found [] all.place all.num all.truth) left in
        record {
          found = r.found ∷ all.found;
          padded = ap (λ first. first ∷ map (padded_flow d (length names)) all.found) r.padded ∙ ap (λ others. x ∷ others) all.padded;
          full = ap (λ b. b || list_any (flow_is_empty d) all.found) r.full ∙ all.full;
          place = all.place;
          num = all.num;
          truth = all.truth;
          gets = subst P (append_assoc flows (r.found ∷ []) all.found) all.gets;
        }

    more_flows : (flows : List (AbsFlow D)) (done rest : List FlowSort) (xs : List (AbsFlow D)) (place : ℕ) (num : D) (truth : AbsBool) {left : List Symbol} →
        sorts ≡ done ++ rest → length flows ≡ length done → has_sorts (length names) rest xs ≡ true → is_proper d xs ≡ true →
        Comes (After ∷ []) (there flows [] place num truth) (more RightParen (flow_symbols t d names) xs ++ left) → AllRead flows xs left
    more_flows flows done [] [] place num truth {left = left} e long h p g =
        let s = there flows [] place num truth in
        let P : List (AbsFlow D) → Type 0 = λ found. Comes [] (there found [] place num truth) left in
        record {
          found = [];
          padded = refl;
          full = refl;
          place = place;
          num = num;
          truth = truth;
          gets = subst P (sym (append-nil flows)) (turn g s [] (after_all_step d t laws s g.at left (wanted_is flows done [] e long)));
        }
    more_flows flows done (wanted ∷ rest) (x ∷ xs) place num truth {left = left} e long h p g =
        let s = there flows [] place num truth in
        let sorted = and_parts (flow_has_sort (length names) wanted x) (has_sorts (length names) rest xs) h in
        let proper = and_parts (flow_is_proper d x) (is_proper d xs) p in
        let n = wanted_is flows done (wanted ∷ rest) e long in
        let on = left_is (turn g s (Item ∷ []) (after_step d t laws s wanted g.at _ n)) (append_assoc (flow_symbols t d names x) (more RightParen (flow_symbols t d names) xs) left) in
        let one = item_gets flows wanted x place num truth sorted.0 proper.0 n (more_end xs left) on in
        with_front one (more_flows (flows ++ one.found ∷ []) (done ++ wanted ∷ []) rest xs one.place one.num one.truth (moved sorts done rest wanted e)
        (omega (arith, long, length-append flows (one.found ∷ []), length-append done (wanted ∷ []))) sorted.1 proper.1 one.gets)
    more_flows flows done rest xs place num truth e long h p g = absurd (cc)

    all_flows : (rest : List FlowSort) (xs : List (AbsFlow D)) (place : ℕ) (num : D) (truth : AbsBool) {left : List Symbol} → sorts ≡ rest → has_sorts (length names) rest xs ≡ true → is_proper d xs ≡ true →
        Comes (Item ∷ []) (there [] [] place num truth) (inside RightParen (flow_symbols t d names) xs ++ left) → AllRead [] xs left
    all_flows [] [] place num truth {left = left} e h p g =
        let s = there [] [] place num truth in
        record {
          found = [];
          padded = refl;
          full = refl;
          place = place;
          num = num;
          truth = truth;
          gets = turn g s [] (no_item_step d t laws s g.at left (wanted_is [] [] [] e refl));
        }
    all_flows (wanted ∷ rest) (x ∷ xs) place num truth {left = left} e h p g =
        let sorted = and_parts (flow_has_sort (length names) wanted x) (has_sorts (length names) rest xs) h in
        let proper = and_parts (flow_is_proper d x) (is_proper d xs) p in
        let on = left_is g (append_assoc (flow_symbols t d names x) (more RightParen (flow_symbols t d names) xs) left) in
        let one = item_gets [] wanted x place num truth sorted.0 proper.0 (wanted_is [] [] (wanted ∷ rest) e refl) (more_end xs left) on in
        with_front one (more_flows (one.found ∷ []) (wanted ∷ []) rest xs one.place one.num one.truth e refl sorted.1 proper.1 one.gets)
    all_flows rest xs place num truth e h p g = absurd (cc)

  abbrev tuple_found : List (AbsFlow D) → ℕ → Result (List (AbsFlow D) × ℕ) (TableError × ℕ)
  tuple_found tuple more = Ok (tuple, more)

  abbrev with_names : ℕ → List (List ℕ) → Result (List (AbsFlow D)) (TableError × ℕ) → Result (ReadTuple D × ℕ) (TableError × ℕ)
  with_names end all r = r >>= (λ tuple. Ok (record { tuple = tuple; names = all }, end))

  abbrev counted : ℕ → Result (ReadTuple D × ℕ) (TableError × ℕ) → Result (List (AbsFlow D) × ℕ) (TableError × ℕ)
  counted at r = r >>= (λ read. Ok (read.0.tuple, read.1 - (at + 1)))

  abbrev taken_by : ℕ → Answer → Result (List (AbsFlow D) × ℕ) (TableError × ℕ)
  taken_by at r = counted at (r >>= (λ read. with_names read.1 read.0.names (whole d (length read.0.names) at read.0.flows)))

  abbrev emptied : ℕ → List (AbsFlow D) → Bool → Result (List (AbsFlow D)) (TableError × ℕ)
  emptied at found b = cond b (Err (error.Empty, at)) (Ok (map (padded_flow d (length names)) found))

  taken_is : (from : Answer) (total at : ℕ) (tuple : List (AbsFlow D)) (left : List Symbol) (all : AllRead from total [] tuple left) → taken_by at from ≡ Ok (tuple, all.gets.at - (at + 1))
  taken_is from total at tuple left all =
      let state = there all.found [] all.place all.num all.truth in
      ap (taken_by at) (all.gets.is ∙ run_ends (tuple_rules d t) all.gets.at state left)
      ∙ ap (λ b. counted at (with_names all.gets.at names (emptied at all.found b))) all.full ∙ ap (λ found. tuple_found found (all.gets.at - (at + 1))) all.padded

  -- the symbols of a tuple are taken as this tuple
  pub tuple_returns : (tuple : List (AbsFlow D)) (at : ℕ) (left : List Symbol) → has_sorts (length names) sorts tuple ≡ true → is_proper d tuple ≡ true →
      tuple_at d t sorts names at (tuple_symbols t d names tuple ++ left) ≡ Ok (tuple, length (inside RightParen (flow_symbols t d names) tuple))
  unfolding tuple_at read_tuple spec.read_symbols
  tuple_returns tuple at left h p =
      let ss = tuple_symbols t d names tuple ++ left in
      let begun : Reading D = nothing d true sorts names in
      let from : Answer = run (tuple_rules d t) 0 at (Open ∷ Item ∷ []) begun ss in
      let start : Gets (tuple_rules d t) from (at + length ss) (Open ∷ Item ∷ []) begun ss = record { at = at; is = refl; place = refl } in
      let opened = turn start begun [] (open_step d t laws begun at _) in
      let all = all_flows from (at + length ss) sorts tuple 0 d.empty (record { has_true = false; has_false = false }) refl h p opened in
      taken_is from (at + length ss) at tuple left all ∙ ap (tuple_found tuple) (omega (arith, all.gets.place, length-append (inside RightParen (flow_symbols t d names) tuple) left))
