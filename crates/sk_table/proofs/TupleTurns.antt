-- What is read are flows of the sorts.
use Rattle.std.proofs.Common.{◌≡◌, ℕ, ◌+◌, ◌-◌, ◌<◌, ◌≤◌, Bool, true, false, cond, List, [], ◌∷◌, ◌++◌, length, replicate, refl, sym, ap, subst, ◌∙◌, arith, length-append, length-set, append_assoc, append-nil, Option, Some, None, Result, Ok, Err, inl, inr}
use Rattle.std.specs.Prelude.{IfOk, MatchResult, nat_lt, slice_get, ◌⊎◌}
use Rattle.std.specs.List.{list_all}
use Rattle.std.specs.Str.{bytes_eq}
use Rattle.std.proofs.lemmas.List.{length-replicate}
use Rattle.std.proofs.lemmas.List.Quantifiers.{position-Some}
use Rattle.sk_base.specs.Answer.{Gives}
use Rattle.sk_base.specs.Names.{place_of_name}
use Rattle.sk_base.specs.declared.flow.FlowSort.{FlowSort}
use Rattle.sk_base.specs.declared.flow.FlowSort.TheVariants as sort
use Rattle.sk_lex.specs.Run.{run}
use Rattle.sk_lex.specs.Symbols.{Symbol, word_of, is_open, is_close, is_comma, is_equals, is_slash, is_question, is_left_brace, is_right_brace}
use Rattle.sk_lex.specs.Turns.{bad_of}
use Rattle.sk_lex.specs.declared.reader.Refused.{Refused}
use Rattle.sk_lattice.specs.Domain.{Domain}
use Rattle.sk_lattice.specs.DomainTexts.{DomainTexts}
use Rattle.sk_lattice.specs.declared.truth.AbsBool.{AbsBool}
use Rattle.sk_lattice.specs.declared.cell.AbsCell.{AbsCell}
use Rattle.sk_lattice.specs.declared.store.AbsStore.TheVariants as store
use Rattle.sk_lattice.specs.declared.flow.AbsFlow.{AbsFlow}
use Rattle.sk_lattice.specs.declared.flow.AbsFlow.TheVariants as flow
use Rattle.sk_table.specs.declared.expected.Expected.{Expected}
use Rattle.sk_table.specs.declared.expected.Expected.TheVariants.{Open, Item, After, Slash, Truth, FirstName, NextName, Equals, Number, CellTruth, Mark, AfterName}
use Rattle.sk_table.specs.declared.fault.TableError.{TableError}
use Rattle.sk_table.specs.Meets.{IsRead}
use Rattle.sk_table.specs.Tuples as spec
use Rattle.sk_table.specs.Tuples.{Reading, Met, met, next_sort, truths_of, is_none_word, more_taken, element_at, with_element, with_flow, with_num, truths, begun, value, closing, item, after, val_truth, cell_truth, all_cells, ended, is_listed, widened, with_cell, found_name, added_name, place_for, named, first_name, after_name, mark, alone, step, tuple_rules, nothing, read_symbols}
use Rattle.sk_table.proofs.Runs.{Leads, Ends, run_keeps, Past, takes_one}
use Rattle.sk_table.proofs.TupleShapes.{HasShape, an_int, a_bool, a_val, no_store, HaveShapes, no_flow, shapes_by_more, shapes_and, head_of, next_is, as_many_flows, shapes_are_clean, padded_have_sorts, store_has_shape, all_cells_long}

-- what is taken of a domain's texts is one symbol at least, and no more than there are
abbrev pub IsTaken : {D : Type 0} → DomainTexts D → Type 0
IsTaken t = (symbols : List Symbol) → MatchResult (t.taken symbols) (λ p. (0 < p.1) × (p.1 ≤ length symbols)) (λ count. count ≤ length symbols)

where_true : {A E : Type 0} (b : Bool) (r : Result A E) (e : E) (P : A → Type 0) → IfOk r P → IfOk (cond b r (Err e)) P
where_true true r e P h = h
where_true false r e P h = tt

where_false : {A E : Type 0} (b : Bool) (r : Result A E) (e : E) (P : A → Type 0) → IfOk r P → IfOk (cond b (Err e) r) P
where_false true r e P h = tt
where_false false r e P h = h

where_either : {A E : Type 0} (b : Bool) (r s : Result A E) (P : A → Type 0) → IfOk r P → IfOk s P → IfOk (cond b r s) P
where_either true r s P h k = h
where_either false r s P h k = k

-- a name that is found lies below the names then, which are no fewer
abbrev Added : Type 0
Added = Option (ℕ × List (List ℕ))

abbrev by_place : List (List ℕ) → List ℕ → Option ℕ → Added
by_place names word (Some place) = Some (place, names)
by_place names word None = cond {A = Added} (nat_lt (length names) 64) (Some (length names, names ++ word ∷ [])) None

-- the place and the names of an answer; known names stay
abbrev IsBelow : Bool → List (List ℕ) → ℕ × List (List ℕ) → Type 0
IsBelow known names added = (added.0 < length added.1) × (length names ≤ length added.1) × (known ≡ true → added.1 ≡ names)

place_within : (names : List (List ℕ)) (word : List ℕ) (at : ℕ) → place_of_name names word ≡ Some at → at < length names
place_within names word at e = (position-Some (λ entry. bytes_eq word entry) names at [] e).0

added_below : (known : Bool) → known ≡ false → (names : List (List ℕ)) (word : List ℕ) (found : Option ℕ) → place_of_name names word ≡ found → IfOk (added_name (by_place names word found)) (IsBelow known names)
added_below known f names word (Some at) e = (place_within names word at e, omega arith, (λ k. refl))
added_below known f names word None e = by_room (nat_lt (length names) 64) where
  by_room : (room : Bool) → IfOk (added_name (cond {A = Added} room (Some (length names, names ++ word ∷ [])) None)) (IsBelow known names)
  by_room true = (omega (arith, length-append names (word ∷ [])), omega (arith, length-append names (word ∷ [])), (λ k. absurd (cc)))
  by_room false = tt

found_below : (known : Bool) (names : List (List ℕ)) (word : List ℕ) (found : Option ℕ) → place_of_name names word ≡ found → IfOk (found_name names found) (IsBelow known names)
found_below known names word (Some at) e = (place_within names word at e, omega arith, (λ k. refl))
found_below known names word None e = tt

place_below : (known : Bool) (names : List (List ℕ)) (word : List ℕ) → IfOk (place_for known names word) (IsBelow known names)
place_below true names word = found_below true names word (place_of_name names word) refl
place_below false names word = added_below false refl names word (place_of_name names word) refl

module _ {D : Type 0} (d : Domain D) (t : DomainTexts D) (taken : IsTaken t) (known : Bool) (start : List (List ℕ)) (all_sorts : List FlowSort) where
  -- the sorts and known names are those of the start
  pub record IsFixed (state : Reading D) : Type 0 where
    pub mode : state.known ≡ known
    pub sorts : state.sorts ≡ all_sorts
    pub names : known ≡ true → state.names ≡ start

  -- all flows were read
  pub record HasAll (state : Reading D) : Type 0 where
    pub shapes : HaveShapes d (length state.names) state.sorts state.flows
    pub fixed : IsFixed state

  still : {s r : Reading D} → r.known ≡ s.known → r.sorts ≡ s.sorts → r.names ≡ s.names → IsFixed s → IsFixed r
  still e q n f = record { mode = e ∙ f.mode; sorts = q ∙ f.sorts; names = λ k. n ∙ f.names k }

  -- the flows that were read have the first sorts, and these are left
  pub record HasRead (state : Reading D) (rest : List FlowSort) : Type 0 where
    pub front : List FlowSort
    pub sorts : state.sorts ≡ front ++ rest
    pub shapes : HaveShapes d (length state.names) front state.flows
    pub short : length state.cells ≤ length state.names
    pub fixed : IsFixed state

  pub record IsBetween (state : Reading D) : Type 0 where
    pub rest : List FlowSort
    pub read : HasRead state rest

  -- a flow of the sort has begun
  pub record IsWithin (wanted : FlowSort) (state : Reading D) : Type 0 where
    pub rest : List FlowSort
    pub read : HasRead state (wanted ∷ rest)

  -- a name of a store waits for its cell
  pub record IsNamed (state : Reading D) : Type 0 where
    pub in_store : IsWithin sort.Store state
    pub below : state.name < length state.names

  -- what was read, by what is expected
  abbrev pub Reached : List Expected → Reading D → Type 0
  Reached [] state = HasAll state
  Reached (Open ∷ es) state = (es ≡ Item ∷ []) × IsBetween state
  Reached (Item ∷ es) state = (es ≡ []) × IsBetween state
  Reached (After ∷ es) state = (es ≡ []) × IsBetween state
  Reached (Truth ∷ es) state = (es ≡ After ∷ []) × IsWithin sort.Val state
  Reached (Slash ∷ es) state = ((es ≡ Truth ∷ After ∷ []) × IsWithin sort.Val state) ⊎ ((es ≡ CellTruth ∷ Mark ∷ After ∷ []) × IsNamed state)
  Reached (FirstName ∷ es) state = (es ≡ After ∷ []) × IsWithin sort.Store state
  Reached (NextName ∷ es) state = (es ≡ After ∷ []) × IsWithin sort.Store state
  Reached (AfterName ∷ es) state = (es ≡ After ∷ []) × IsWithin sort.Store state
  Reached (Equals ∷ es) state = (es ≡ Number ∷ Slash ∷ CellTruth ∷ Mark ∷ After ∷ []) × IsNamed state
  Reached (Number ∷ es) state = (es ≡ Slash ∷ CellTruth ∷ Mark ∷ After ∷ []) × IsNamed state
  Reached (CellTruth ∷ es) state = (es ≡ Mark ∷ After ∷ []) × IsNamed state
  Reached (Mark ∷ es) state = (es ≡ After ∷ []) × IsNamed state

  abbrev Lead : List Expected → List Symbol → Met D → Type 0
  Lead es left r = IfOk r (Leads Reached es left)

  element_leads : (es expected : List Expected) (at : ℕ) (symbol : Symbol) (left : List Symbol) (state : D → Reading D) → ((x : D) → Reached (expected ++ es) (state x)) →
      Lead es left (with_element state expected (element_at t at (symbol ∷ left)))
  element_leads es expected at symbol left state h = by_taken (t.taken (symbol ∷ left)) (taken (symbol ∷ left)) where
    by_taken : (r : Result (D × ℕ) ℕ) → MatchResult r (λ p. (0 < p.1) × (p.1 ≤ length (symbol ∷ left))) (λ count. count ≤ length (symbol ∷ left)) → Lead es left (with_element state expected (more_taken at r))
    by_taken (Ok (x, count)) k = (omega (arith, k.0, k.1), h x)
    by_taken (Err count) k = tt

  one_more : (s : Reading D) (wanted : FlowSort) (rest : List FlowSort) (x : AbsFlow D) → HasRead s (wanted ∷ rest) → HasShape d (length s.names) wanted x → HasRead (with_flow s x) rest
  one_more s wanted rest x h k = record {
    front = h.front ++ wanted ∷ [];
    sorts = h.sorts ∙ sym (append_assoc h.front (wanted ∷ []) rest);
    shapes = shapes_and h.shapes k;
    short = h.short;
    fixed = still refl refl refl h.fixed;
  }

  after_flow : (s : Reading D) (wanted : FlowSort) (rest : List FlowSort) (x : AbsFlow D) → HasRead s (wanted ∷ rest) → HasShape d (length s.names) wanted x → IsBetween (with_flow s x)
  after_flow s wanted rest x h k = record { rest = rest; read = one_more s wanted rest x h k }

  -- the number part that was read last is of no matter
  other_num : (s : Reading D) (rest : List FlowSort) (x : D) → HasRead s rest → HasRead (with_num s x) rest
  other_num s rest x h = record { front = h.front; sorts = h.sorts; shapes = h.shapes; short = h.short; fixed = still refl refl refl h.fixed }

  num_within : (s : Reading D) (wanted : FlowSort) (x : D) → IsWithin wanted s → IsWithin wanted (with_num s x)
  num_within s wanted x i = record { rest = i.rest; read = other_num s (wanted ∷ i.rest) x i.read }

  truths_lead : (s : Reading D) (rest : List FlowSort) (at : ℕ) (left : List Symbol) (found : Option AbsBool) → HasRead s (sort.Bool ∷ rest) → Lead [] left (truths s at found)
  truths_lead s rest at left None h = tt
  truths_lead s rest at left (Some set) h = (omega arith, (refl, after_flow s sort.Bool rest (flow.Bool set) h a_bool))

  begun_leads : (s : Reading D) (rest : List FlowSort) (at : ℕ) (symbol : Symbol) (left : List Symbol) → HasRead s (sort.Store ∷ rest) → Lead [] left (begun s at symbol)
  unfolding begun
  begun_leads s rest at symbol left h =
      where_either (is_left_brace symbol) _ _ (Leads Reached [] left) (omega arith, (refl, record { rest = rest; read = h }))
      (where_true (is_none_word symbol) _ _ (Leads Reached [] left) (omega arith, (refl, after_flow s sort.Store rest (flow.Store store.Empty) h no_store)))

  value_leads : (s : Reading D) (wanted : FlowSort) (rest : List FlowSort) (at : ℕ) (symbol : Symbol) (left : List Symbol) → HasRead s (wanted ∷ rest) → Lead [] left (value t s wanted at symbol left)
  unfolding value
  value_leads s sort.Int rest at symbol left h =
      element_leads [] (After ∷ []) at symbol left (λ x. with_flow s (flow.Int x)) (λ x. (refl, after_flow s sort.Int rest (flow.Int x) h an_int))
  value_leads s sort.Bool rest at symbol left h = truths_lead s rest at left (truths_of symbol) h
  value_leads s sort.Val rest at symbol left h =
      element_leads [] (Slash ∷ Truth ∷ After ∷ []) at symbol left (with_num s) (λ x. inl (refl, record { rest = rest; read = other_num s (sort.Val ∷ rest) x h }))
  value_leads s sort.Store rest at symbol left h = begun_leads s rest at symbol left h

  all_read : (s : Reading D) → HasRead s [] → HasAll s
  all_read s h =
      let P : List FlowSort → Type 0 = λ sorts. HaveShapes d (length s.names) sorts s.flows in
      record { shapes = subst P (sym (h.sorts ∙ append-nil h.front)) h.shapes; fixed = h.fixed }

  closing_leads : (s : Reading D) (at : ℕ) (symbol : Symbol) (left : List Symbol) → HasRead s [] → Lead [] left (closing s at symbol)
  closing_leads s at symbol left h =
      where_either (is_close symbol) _ _ (Leads Reached [] left) (omega arith, all_read s h) (where_either (is_comma symbol) _ _ (Leads Reached [] left) tt tt)

  item_leads : (s : Reading D) (rest : List FlowSort) (at : ℕ) (symbol : Symbol) (left : List Symbol) → HasRead s rest → Lead [] left (item t s (head_of rest) at symbol left)
  unfolding item
  item_leads s [] at symbol left h = closing_leads s at symbol left h
  item_leads s (wanted ∷ rest) at symbol left h = where_false (is_close symbol) _ _ _ (value_leads s wanted rest at symbol left h)

  after_leads : (s : Reading D) (rest : List FlowSort) (at : ℕ) (symbol : Symbol) (left : List Symbol) → HasRead s rest → Lead [] left (after s (head_of rest) at symbol)
  unfolding after
  after_leads s [] at symbol left h = closing_leads s at symbol left h
  after_leads s (wanted ∷ rest) at symbol left h =
      where_either (is_comma symbol) _ _ (Leads Reached [] left) (omega arith, (refl, record { rest = wanted ∷ rest; read = h })) (where_either (is_close symbol) _ _ (Leads Reached [] left) tt tt)

  -- the sort that is wanted, in place of what it is computed from
  with_next : (s : Reading D) (rest : List FlowSort) (left : List Symbol) (f : Option FlowSort → Met D) → HasRead s rest → Lead [] left (f (head_of rest)) → Lead [] left (f (next_sort s))
  with_next s rest left f h k =
      let P : Option FlowSort → Type 0 = λ wanted. Lead [] left (f wanted) in
      subst P (sym (ap (λ (sorts : List FlowSort). slice_get sorts (length s.flows)) h.sorts ∙ next_is rest h.shapes)) k

  val_truth_leads : (s : Reading D) (at : ℕ) (left : List Symbol) (found : Option AbsBool) → IsWithin sort.Val s → Lead (After ∷ []) left (val_truth s at found)
  unfolding val_truth
  val_truth_leads s at left None i = tt
  val_truth_leads s at left (Some set) i = (omega arith, (refl, after_flow s sort.Val i.rest _ i.read a_val))

  cell_truth_leads : (s : Reading D) (at : ℕ) (left : List Symbol) (found : Option AbsBool) → IsNamed s → Lead (Mark ∷ After ∷ []) left (cell_truth s at found)
  unfolding cell_truth
  cell_truth_leads s at left None i = tt
  cell_truth_leads s at left (Some set) i = (
    omega arith,
    (
      refl,
      record {
        in_store = record {
          rest = i.in_store.rest;
          read = record { front = i.in_store.read.front; sorts = i.in_store.read.sorts; shapes = i.in_store.read.shapes; short = i.in_store.read.short; fixed = still refl refl refl i.in_store.read.fixed };
        };
        below = i.below;
      },
    ),
  )

  ended_read : (s : Reading D) (rest : List FlowSort) → HasRead s (sort.Store ∷ rest) → HasRead (ended d s) rest
  ended_read s rest h = record {
    front = h.front ++ sort.Store ∷ [];
    sorts = h.sorts ∙ sym (append_assoc h.front (sort.Store ∷ []) rest);
    shapes = shapes_and h.shapes (store_has_shape d (length s.names) (all_cells d s.cells) (omega (arith, h.short, all_cells_long d s.cells)));
    short = omega arith;
    fixed = still refl refl refl h.fixed;
  }

  ended_leads : (s : Reading D) (left : List Symbol) → IsWithin sort.Store s → Lead (After ∷ []) left (met (ended d s) [])
  ended_leads s left i = (omega arith, (refl, record { rest = i.rest; read = ended_read s i.rest i.read }))

  named_read : (s : Reading D) (place : ℕ) (all : List (List ℕ)) → IsWithin sort.Store s → length s.names ≤ length all → (s.known ≡ true → all ≡ s.names) → IsWithin sort.Store (record s { name = place; names = all })
  named_read s place all i h same = record {
    rest = i.rest;
    read = record {
      front = i.read.front;
      sorts = i.read.sorts;
      shapes = shapes_by_more h i.read.shapes;
      short = omega (arith, i.read.short, h);
      fixed = record { mode = i.read.fixed.mode; sorts = i.read.fixed.sorts; names = λ k. same (i.read.fixed.mode ∙ k) ∙ i.read.fixed.names k };
    };
  }

  named_leads : (s : Reading D) (at : ℕ) (left : List Symbol) (found : Result (ℕ × List (List ℕ)) TableError) → IsWithin sort.Store s → IfOk found (IsBelow s.known s.names) → Lead (After ∷ []) left (named s at found)
  named_leads s at left (Err error) i h = tt
  named_leads s at left (Ok (place, all)) i h =
      where_false (is_listed s.cells place) _ _ (Leads Reached (After ∷ []) left) (omega arith, (refl, record { in_store = named_read s place all i h.1 h.2; below = h.0 }))

  name_leads : (s : Reading D) (at : ℕ) (left : List Symbol) (word : Option (List ℕ)) → IsWithin sort.Store s → Lead (After ∷ []) left (spec.name s at word)
  unfolding spec.name
  name_leads s at left None i = tt
  name_leads s at left (Some word) i = named_leads s at left (place_for s.known s.names word) i (place_below s.known s.names word)

  first_name_leads : (s : Reading D) (at : ℕ) (symbol : Symbol) (left : List Symbol) → IsWithin sort.Store s → Lead (After ∷ []) left (first_name d s at symbol)
  unfolding first_name
  first_name_leads s at symbol left i = where_either (is_right_brace symbol) _ _ (Leads Reached (After ∷ []) left) (ended_leads s left i) (name_leads s at left (word_of symbol) i)

  after_name_leads : (s : Reading D) (at : ℕ) (symbol : Symbol) (left : List Symbol) → IsWithin sort.Store s → Lead (After ∷ []) left (after_name d s at symbol)
  unfolding after_name
  after_name_leads s at symbol left i =
      where_either (is_comma symbol) _ _ (Leads Reached (After ∷ []) left) (omega arith, (refl, i)) (where_true (is_right_brace symbol) _ _ (Leads Reached (After ∷ []) left) (ended_leads s left i))

  cell_read : (s : Reading D) (unset : Bool) → IsNamed s → IsWithin sort.Store (with_cell s unset)
  cell_read s unset i = record {
    rest = i.in_store.rest;
    read = record {
      front = i.in_store.read.front;
      sorts = i.in_store.read.sorts;
      shapes = i.in_store.read.shapes;
      short = omega (
        arith,
        i.below,
        i.in_store.read.short,
        length-set (widened (s.name + 1) s.cells) s.name (Some (record { val = record { num = s.num; truth = s.truth }; unset = unset })),
        length-append s.cells (replicate ((s.name + 1) - length s.cells) None),
        length-replicate {A = Option (AbsCell D)} ((s.name + 1) - length s.cells) None,
      );
      fixed = still refl refl refl i.in_store.read.fixed;
    };
  }

  mark_leads : (s : Reading D) (at : ℕ) (symbol : Symbol) (left : List Symbol) → IsNamed s → Lead (After ∷ []) left (mark d s at symbol)
  unfolding mark
  mark_leads s at symbol left i =
      where_either (is_question symbol) _ _ (Leads Reached (After ∷ []) left) (omega arith, (refl, cell_read s true i)) (after_name_leads (with_cell s false) at symbol left (cell_read s false i))

  -- where the rest of what is expected is known
  after_es : (es known : List Expected) (left : List Symbol) (r : Met D) → es ≡ known → Lead known left r → Lead es left r
  after_es es known left r e h = subst (λ es. Lead es left r) (sym e) h

  alone_leads : (s : Reading D) (es known : List Expected) (at : ℕ) (left : List Symbol) (stands : Bool) → es ≡ known → Reached known s → Lead es left (alone s at stands)
  alone_leads s es known at left stands e h = after_es es known left _ e (where_true stands _ _ (Leads Reached known left) (omega arith, h))

  leads : (e : Expected) (es : List Expected) (s : Reading D) (at : ℕ) (symbol : Symbol) (left : List Symbol) → Reached (e ∷ es) s → IfOk (step d t s e at symbol left) (Leads Reached es left)
  unfolding step
  leads Open es s at symbol left r = alone_leads s es (Item ∷ []) at left (is_open symbol) r.0 (refl, r.1)
  leads Item es s at symbol left r =
      after_es es [] left _ r.0 (with_next s r.1.rest left (λ wanted. item t s wanted at symbol left) r.1.read (item_leads s r.1.rest at symbol left r.1.read))
  leads After es s at symbol left r =
      after_es es [] left _ r.0 (with_next s r.1.rest left (λ wanted. after s wanted at symbol) r.1.read (after_leads s r.1.rest at symbol left r.1.read))
  leads Slash es s at symbol left (inl r) = alone_leads s es (Truth ∷ After ∷ []) at left (is_slash symbol) r.0 (refl, r.1)
  leads Slash es s at symbol left (inr r) = alone_leads s es (CellTruth ∷ Mark ∷ After ∷ []) at left (is_slash symbol) r.0 (refl, r.1)
  leads Truth es s at symbol left r = after_es es (After ∷ []) left _ r.0 (val_truth_leads s at left (truths_of symbol) r.1)
  leads FirstName es s at symbol left r = after_es es (After ∷ []) left _ r.0 (first_name_leads s at symbol left r.1)
  leads NextName es s at symbol left r = after_es es (After ∷ []) left _ r.0 (name_leads s at left (word_of symbol) r.1)
  leads AfterName es s at symbol left r = after_es es (After ∷ []) left _ r.0 (after_name_leads s at symbol left r.1)
  leads Equals es s at symbol left r = alone_leads s es (Number ∷ Slash ∷ CellTruth ∷ Mark ∷ After ∷ []) at left (is_equals symbol) r.0 (refl, r.1)
  leads Number es s at symbol left r = after_es es (Slash ∷ CellTruth ∷ Mark ∷ After ∷ []) left _ r.0
      (element_leads (Slash ∷ CellTruth ∷ Mark ∷ After ∷ []) [] at symbol left (with_num s) (λ x. inr (refl, record { in_store = num_within s sort.Store x r.1.in_store; below = r.1.below })))
  leads CellTruth es s at symbol left r = after_es es (Mark ∷ After ∷ []) left _ r.0 (cell_truth_leads s at left (truths_of symbol) r.1)
  leads Mark es s at symbol left r = after_es es (After ∷ []) left _ r.0 (mark_leads s at symbol left r.1)

  never : (es : List Expected) (s : Reading D) → Reached es s → list_all (tuple_rules d t).may_end es ≡ true → Reached [] s
  never [] s r e = r
  never (one ∷ es) s r e = absurd (cc)

  begins : Reached (Open ∷ Item ∷ []) (nothing d known all_sorts start)
  begins = (
    refl,
    record {
      rest = all_sorts;
      read = record { front = []; sorts = refl; shapes = no_flow; short = omega arith; fixed = record { mode = refl; sorts = refl; names = λ k. refl } };
    },
  )

  abbrev pub whole_run : ℕ → List Symbol → Result (Reading D × ℕ) (TableError × ℕ)
  whole_run at symbols = run (tuple_rules d t) 0 at (Open ∷ Item ∷ []) (nothing d known all_sorts start) symbols

  -- what is read are flows of the sorts
  pub reads_flows : (at : ℕ) (symbols : List Symbol) → IfOk (whole_run at symbols) (Ends Reached (at + length symbols))
  reads_flows at symbols = run_keeps (tuple_rules d t) Reached (record { ends = never; turns = leads }) 0 at (Open ∷ Item ∷ []) (nothing d known all_sorts start) symbols (omega arith) begins

  pub reads_past : (at : ℕ) (symbols : List Symbol) → Past (at + 1) (whole_run at symbols)
  reads_past at symbols = takes_one (tuple_rules d t) at Open (Item ∷ []) (nothing d known all_sorts start) symbols refl

  read_is : (at : ℕ) (symbols : List Symbol) (state : Reading D) (end : ℕ) → whole_run at symbols ≡ Ok (state, end) → IsRead d all_sorts at end state
  read_is at symbols state end e =
      let P : Result (Reading D × ℕ) (TableError × ℕ) → Type 0 = λ r. IfOk r (Ends Reached (at + length symbols)) in
      let Q : List FlowSort → Type 0 = λ sorts. HaveShapes d (length state.names) sorts state.flows in
      let past : at + 1 ≤ end = subst (Past (at + 1)) e (reads_past at symbols) in
      let all : HasAll state = (subst P e (reads_flows at symbols)).0 in
      let shapes : Q all_sorts = subst Q all.fixed.sorts all.shapes in
      record {
        sorted = padded_have_sorts shapes;
        clean = shapes_are_clean shapes;
        many = as_many_flows shapes;
        past = omega (arith, past);
      }

  pub read_by : (at : ℕ) (symbols : List Symbol) (begun state : Reading D) (r : Result ℕ (Refused TableError)) → begun ≡ nothing d known all_sorts start →
      Gives (λ end. (state, end)) bad_of r (run (tuple_rules d t) 0 at (Open ∷ Item ∷ []) begun symbols) → IfOk r (λ end. IsRead d all_sorts at end state)
  read_by at symbols begun state (Ok end) b g = read_is at symbols state end (sym (ap (λ from. run (tuple_rules d t) 0 at (Open ∷ Item ∷ []) from symbols) b) ∙ g)
  read_by at symbols begun state (Err f) b g = tt
