-- What is read is a table: few triples that fit, no part of which is empty.
use Rattle.std.proofs.Common.{◌≡◌, ℕ, ◌+◌, ◌-◌, ◌<◌, ◌≤◌, Bool, true, false, cond, List, [], ◌∷◌, length, map, refl, sym, ap, subst, ◌∙◌, arith, length-append, Option, Some, None, Result, Ok, Err, inl, inr, ℤ, pos, negsuc}
use Rattle.std.specs.Prelude.{IfOk, IfSome, nat_lt, slice_get, option_map, get_or, ◌==◌, ◌⊎◌}
use Rattle.std.specs.List.{list_all, list_any}
use Rattle.std.specs.Str.{bytes_eq}
use Rattle.std.proofs.lemmas.Bool.{ltb-true}
use Rattle.std.proofs.lemmas.List.Elements.{All-push, All-nil}
use Rattle.std.proofs.lemmas.List.Quantifiers.{position-Some}
use Rattle.std.proofs.lemmas.Option.{slice_get_cases}
use Rattle.sk_base.specs.Answer.{◌>>=◌}
use Rattle.sk_base.specs.declared.flow.FlowSort.{FlowSort}
use Rattle.sk_def.specs.Named.{hook_named, place_of_hook}
use Rattle.sk_def.specs.declared.ids.HookId.{HookId}
use Rattle.sk_def.specs.declared.def.Def.{Def}
use Rattle.sk_def.specs.declared.def.Hook.{Hook}
use Rattle.sk_lex.specs.Run.{run_whole, ended}
use Rattle.sk_lex.specs.Symbols.{Symbol, word_of, number_of, is_arrow}
use Rattle.sk_term.specs.Program.{Program}
use Rattle.sk_lattice.specs.Domain.{Domain}
use Rattle.sk_lattice.specs.DomainTexts.{DomainTexts, is_domain_word}
use Rattle.sk_lattice.specs.Empty.{flow_is_empty, is_proper}
use Rattle.sk_lattice.specs.Padding.{padded_flow}
use Rattle.sk_lattice.specs.Shapes.{has_sorts}
use Rattle.sk_lattice.specs.declared.flow.AbsFlow.{AbsFlow}
use Rattle.sk_table.specs.declared.expected.TableExpected.{TableExpected}
use Rattle.sk_table.specs.declared.expected.TableExpected.TheVariants.{TableWord, One, DomainWord, HookWord, Point, Ins, Arrow, Outs}
use Rattle.sk_table.specs.declared.fault.TableError.{TableError}
use Rattle.sk_table.specs.declared.fault.TableError.TheVariants as error
use Rattle.sk_table.specs.Fits.{TripleFits}
use Rattle.sk_table.specs.Written.{IsProper, IsTable}
use Rattle.sk_table.specs.declared.triple.Triple.{Triple}
use Rattle.sk_table.specs.TableMeets.{Stays}
use Rattle.sk_table.specs.Tables.{TableReading, Met, alone, is_table_word, is_one, domain_word, hook_found, hook_word, hook_of, has_sort_at, point_found, pointed, point, tuple_at, with_tuple, with_ins, ins, with_triple, outs, step, may_end, table_rules, no_triple, read_symbols}
use Rattle.sk_table.specs.Tuples as tuples
use Rattle.sk_table.specs.Tuples.{Reading, is_none_word, whole, read_tuple}
use Rattle.sk_table.proofs.Runs.{Leads, run_keeps, Past}
use Rattle.sk_table.proofs.TupleShapes.{HaveShapes, padded_have_sorts, full_are_proper}
use Rattle.sk_table.proofs.TupleTurns.{IsTaken, HasAll, whole_run, reads_flows, reads_past}

where_true : {A E : Type 0} (b : Bool) (r : Result A E) (e : E) (P : A → Type 0) → (b ≡ true → IfOk r P) → IfOk (cond b r (Err e)) P
where_true true r e P h = h refl
where_true false r e P h = tt

where_either : {A E : Type 0} (b : Bool) (r s : Result A E) (P : A → Type 0) → IfOk r P → IfOk s P → IfOk (cond b r s) P
where_either true r s P h k = h
where_either false r s P h k = k

abbrev number_of_hook : Option HookId → ℕ
number_of_hook None = 0
number_of_hook (Some hook) = hook.0

-- the hook of a declared number
pub record IsHook (d : Def) (hook : HookId) : Type 0 where
  pub found : Hook
  pub is : slice_get d.hooks hook.0 ≡ Some found

is_hook : (d : Def) (hook : HookId) → hook.0 < length d.hooks → IsHook d hook
is_hook d hook h = by_case (slice_get_cases d.hooks hook.0).1 where
  by_case : ((x : Hook) × (hook.0 < length d.hooks) × (slice_get d.hooks hook.0 ≡ Some x) × (get_or d.hooks hook.0 x ≡ x)) ⊎ ((length d.hooks ≤ hook.0) × (slice_get d.hooks hook.0 ≡ None)) → IsHook d hook
  by_case (inl c) = record { found = c.0; is = c.2 }
  by_case (inr c) = absurd (omega (arith, c.0, h))

named_is_hook : (d : Def) (word : List ℕ) (hook : HookId) → hook_named d word ≡ Some hook → IsHook d hook
named_is_hook d word hook h = by_place (place_of_hook d.hooks word) refl h where
  by_place : (found : Option ℕ) → place_of_hook d.hooks word ≡ found → option_map (λ place. record { 0 = place }) found ≡ Some hook → IsHook d hook
  by_place None e k = absurd (cc)
  by_place (Some place) e k =
      let here : place < length d.hooks = (position-Some (λ entry. bytes_eq entry.name word) d.hooks place (record { name = []; inputs = []; sort = record { 0 = 0 }; outputs = [] }) e).0 in
      let same : place ≡ hook.0 = ap number_of_hook k in
      is_hook d hook (omega (arith, here, same))

module _ {D : Type 0} (d : Domain D) (t : DomainTexts D) (taken : IsTaken t) where
  -- a tuple that is found has the sorts and no empty part, and takes no more symbols than there are
  abbrev IsFound : List FlowSort → ℕ → ℕ → List (AbsFlow D) × ℕ → Type 0
  IsFound sorts names left found = (found.1 ≤ left) × (has_sorts names sorts found.0 ≡ true) × (is_proper d found.0 ≡ true)

  abbrev kept : ℕ → ℕ → Reading D → Result (List (AbsFlow D)) (TableError × ℕ) → Result (tuples.ReadTuple D × ℕ) (TableError × ℕ)
  kept at end state r = r >>= (λ tuple. Ok (record { tuple = tuple; names = state.names }, end))

  abbrev counted : ℕ → Result (tuples.ReadTuple D × ℕ) (TableError × ℕ) → Result (List (AbsFlow D) × ℕ) (TableError × ℕ)
  counted at r = r >>= (λ read. Ok (read.0.tuple, read.1 - (at + 1)))

  abbrev emptied : ℕ → Reading D → Bool → Result (List (AbsFlow D)) (TableError × ℕ)
  emptied at state b = cond b (Err (error.Empty, at)) (Ok (map (padded_flow d (length state.names)) state.flows))

  found_by : (sorts : List FlowSort) (names : List (List ℕ)) (at : ℕ) (symbol : Symbol) (left : List Symbol) (r : Result (Reading D × ℕ) (TableError × ℕ)) →
      IfOk r (λ read. HasAll d t taken true names sorts read.0 × (read.1 ≤ at + length (symbol ∷ left))) → Past (at + 1) r →
      IfOk (counted at (r >>= (λ read. kept at read.1 read.0 (whole d (length read.0.names) at read.0.flows)))) (IsFound sorts (length names) (length left))
  found_by sorts names at symbol left (Err e) h p = tt
  found_by sorts names at symbol left (Ok (state, end)) h p = by_empty (list_any (flow_is_empty d) state.flows) refl where
    by_empty : (b : Bool) → list_any (flow_is_empty d) state.flows ≡ b → IfOk (counted at (kept at end state (emptied at state b))) (IsFound sorts (length names) (length left))
    by_empty true e = tt
    by_empty false e =
        let Q : List FlowSort → Type 0 = λ all. HaveShapes d (length state.names) all state.flows in
        let S : List (List ℕ) → Type 0 = λ all. has_sorts (length all) sorts (map (padded_flow d (length state.names)) state.flows) ≡ true in
        (omega (arith, h.1, p), subst S (h.0.fixed.names refl) (padded_have_sorts (subst Q h.0.fixed.sorts h.0.shapes)), full_are_proper h.0.shapes e)

  known_tuple : (sorts : List FlowSort) (names : List (List ℕ)) (at : ℕ) (symbol : Symbol) (left : List Symbol) → IfOk (tuple_at d t sorts names at (symbol ∷ left)) (IsFound sorts (length names) (length left))
  unfolding tuple_at read_tuple tuples.read_symbols
  known_tuple sorts names at symbol left = found_by sorts names at symbol left (whole_run d t taken true names sorts at (symbol ∷ left)) (reads_flows d t taken true names sorts at (symbol ∷ left)) (reads_past d t taken true names sorts at (symbol ∷ left))

  -- what was read is a table
  abbrev Fit : TableReading D → Type 0
  Fit s = IsTable d s.def s.program (length s.names) s.triples

  -- the hook of the triple that is being read, with its point, and with its inputs
  pub record AtHook (s : TableReading D) : Type 0 where
    pub fit : Fit s
    pub hook : IsHook s.def s.hook
    pub few : length s.triples < 32768

  pub record AtPoint (s : TableReading D) : Type 0 where
    pub at_hook : AtHook s
    pub point : has_sort_at s.program at_hook.hook.found.sort s.point ≡ true

  pub record AtIns (s : TableReading D) : Type 0 where
    pub at_point : AtPoint s
    pub ins : has_sorts (length s.names) at_point.at_hook.hook.found.inputs s.ins ≡ true
    pub proper : is_proper d s.ins ≡ true

  -- what was read, by what is expected
  abbrev pub Reached : List TableExpected → TableReading D → Type 0
  Reached [] s = Fit s
  Reached (TableWord ∷ es) s = (es ≡ One ∷ DomainWord ∷ HookWord ∷ []) × Fit s
  Reached (One ∷ es) s = (es ≡ DomainWord ∷ HookWord ∷ []) × Fit s
  Reached (DomainWord ∷ es) s = (es ≡ HookWord ∷ []) × Fit s
  Reached (HookWord ∷ es) s = (es ≡ []) × Fit s
  Reached (Point ∷ es) s = (es ≡ Ins ∷ Arrow ∷ Outs ∷ HookWord ∷ []) × AtHook s
  Reached (Ins ∷ es) s = (es ≡ Arrow ∷ Outs ∷ HookWord ∷ []) × AtPoint s
  Reached (Arrow ∷ es) s = (es ≡ Outs ∷ HookWord ∷ []) × AtIns s
  Reached (Outs ∷ es) s = (es ≡ HookWord ∷ []) × AtIns s

  abbrev Lead : List TableExpected → List Symbol → Met D → Type 0
  Lead es left r = IfOk r (Leads Reached es left)

  after_es : (es known : List TableExpected) (left : List Symbol) (r : Met D) → es ≡ known → Lead known left r → Lead es left r
  after_es es known left r e h = subst (λ es. Lead es left r) (sym e) h

  alone_leads : (s : TableReading D) (es known : List TableExpected) (at : ℕ) (left : List Symbol) (stands : Bool) → es ≡ known → Reached known s → Lead es left (alone s at stands)
  alone_leads s es known at left stands e h = after_es es known left _ e (where_true stands _ _ (Leads Reached known left) (λ k. (omega arith, h)))

  domain_leads : (s : TableReading D) (at : ℕ) (left : List Symbol) (word : Option (List ℕ)) → Fit s → Lead (HookWord ∷ []) left (domain_word t s at word)
  unfolding domain_word
  domain_leads s at left None h = tt
  domain_leads s at left (Some word) h =
      where_either (bytes_eq word t.word) _ _ (Leads Reached (HookWord ∷ []) left) (omega arith, (refl, h)) (where_either (is_domain_word word) _ _ (Leads Reached (HookWord ∷ []) left) tt tt)

  hook_leads : (s : TableReading D) (at : ℕ) (left : List Symbol) (word : List ℕ) (found : Option HookId) → hook_named s.def word ≡ found → length s.triples < 32768 → Fit s → Lead [] left (hook_found s at found)
  hook_leads s at left word None e few h = tt
  hook_leads s at left word (Some hook) e few h = (omega arith, (refl, record { fit = h; hook = named_is_hook s.def word hook e; few = few }))

  hook_word_leads : (s : TableReading D) (at : ℕ) (left : List Symbol) (word : Option (List ℕ)) → Fit s → Lead [] left (hook_word s at word)
  unfolding hook_word
  hook_word_leads s at left None h = tt
  hook_word_leads s at left (Some word) h = where_true (nat_lt (length s.triples) 32768) _ _ (Leads Reached [] left) (λ k. hook_leads s at left word (hook_named s.def word) refl (ltb-true (length s.triples) 32768 k) h)

  -- the hook in place of where it is found
  with_hook : (s : TableReading D) (es : List TableExpected) (left : List Symbol) (f : Option Hook → Met D) → (h : IsHook s.def s.hook) → Lead es left (f (Some h.found)) → Lead es left (f (hook_of s))
  with_hook s es left f h k =
      let P : Option Hook → Type 0 = λ found. Lead es left (f found) in
      subst P (sym h.is) k

  point_leads : (s : TableReading D) (at : ℕ) (left : List Symbol) (h : AtHook s) (number : Option ℤ) → Lead (Ins ∷ Arrow ∷ Outs ∷ HookWord ∷ []) left (pointed s at h.hook.found.sort number)
  point_leads s at left h None = tt
  point_leads s at left h (Some (negsuc n)) = tt
  point_leads s at left h (Some (pos n)) = by_sort (has_sort_at s.program h.hook.found.sort n) refl where
    by_sort : (b : Bool) → has_sort_at s.program h.hook.found.sort n ≡ b → Lead (Ins ∷ Arrow ∷ Outs ∷ HookWord ∷ []) left (point_found s at (cond b (Some n) None))
    by_sort true e = (omega arith, (refl, record { at_hook = record { fit = h.fit; hook = h.hook; few = h.few }; point = e }))
    by_sort false e = tt

  tuple_leads : (es : List TableExpected) (left : List Symbol) (sorts : List FlowSort) (names : ℕ) (state : List (AbsFlow D) → TableReading D) (r : Result (List (AbsFlow D) × ℕ) (TableError × ℕ)) →
      IfOk r (IsFound sorts names (length left)) → ((tuple : List (AbsFlow D)) → has_sorts names sorts tuple ≡ true → is_proper d tuple ≡ true → Reached es (state tuple)) → Lead es left (with_tuple state r)
  tuple_leads es left sorts names state (Ok (tuple, more)) f h = (f.0, h tuple f.1 f.2)
  tuple_leads es left sorts names state (Err e) f h = tt

  ins_leads : (s : TableReading D) (at : ℕ) (symbol : Symbol) (left : List Symbol) (h : AtPoint s) → Lead (Arrow ∷ Outs ∷ HookWord ∷ []) left (ins d t s (Some h.at_hook.hook.found) at (symbol ∷ left))
  unfolding ins
  ins_leads s at symbol left h =
      tuple_leads (Arrow ∷ Outs ∷ HookWord ∷ []) left h.at_hook.hook.found.inputs (length s.names) (with_ins s) _ (known_tuple h.at_hook.hook.found.inputs s.names at symbol left)
      (λ tuple sorted full. (refl, record { at_point = record { at_hook = record { fit = h.at_hook.fit; hook = h.at_hook.hook; few = h.at_hook.few }; point = h.point }; ins = sorted; proper = full }))

  triple_fits : (s : TableReading D) (h : AtIns s) (tuple : Option (List (AbsFlow D))) → IfSome tuple (λ found. has_sorts (length s.names) h.at_point.at_hook.hook.found.outputs found ≡ true) →
      IfSome tuple (λ found. is_proper d found ≡ true) → Fit (with_triple s tuple)
  triple_fits s h tuple k full =
      let triple : Triple D = record { hook = s.hook; point = s.point; ins = s.ins; outs = tuple } in
      record {
        few = omega (arith, h.at_point.at_hook.few, length-append s.triples (triple ∷ []));
        fit = All-push (TripleFits s.def s.program (length s.names)) s.triples triple h.at_point.at_hook.fit.fit (record {
          hook = h.at_point.at_hook.hook.found;
          hook_is = h.at_point.at_hook.hook.is;
          point_fits = h.at_point.point;
          ins_fit = h.ins;
          outs_fit = k;
        });
        proper = All-push (IsProper d) s.triples triple h.at_point.at_hook.fit.proper (record { ins = h.proper; outs = full });
      }

  outs_leads : (s : TableReading D) (at : ℕ) (symbol : Symbol) (left : List Symbol) (h : AtIns s) → Lead (HookWord ∷ []) left (outs d t s (Some h.at_point.at_hook.hook.found) at symbol left)
  unfolding outs
  outs_leads s at symbol left h =
      where_either (is_none_word symbol) _ _ (Leads Reached (HookWord ∷ []) left) (omega arith, (refl, triple_fits s h None tt tt))
      (tuple_leads (HookWord ∷ []) left h.at_point.at_hook.hook.found.outputs (length s.names) (λ tuple. with_triple s (Some tuple)) _ (known_tuple h.at_point.at_hook.hook.found.outputs s.names at symbol left)
      (λ tuple sorted full. (refl, triple_fits s h (Some tuple) sorted full)))

  point_step : (s : TableReading D) (at : ℕ) (symbol : Symbol) (left : List Symbol) (h : AtHook s) → Lead (Ins ∷ Arrow ∷ Outs ∷ HookWord ∷ []) left (point s (Some h.hook.found) at symbol)
  unfolding point
  point_step s at symbol left h = point_leads s at left h (number_of symbol)

  leads : (e : TableExpected) (es : List TableExpected) (s : TableReading D) (at : ℕ) (symbol : Symbol) (left : List Symbol) → Reached (e ∷ es) s → IfOk (step d t s e at symbol left) (Leads Reached es left)
  unfolding step
  leads TableWord es s at symbol left r = alone_leads s es (One ∷ DomainWord ∷ HookWord ∷ []) at left (is_table_word symbol) r.0 (refl, r.1)
  leads One es s at symbol left r = alone_leads s es (DomainWord ∷ HookWord ∷ []) at left (is_one symbol) r.0 (refl, r.1)
  leads DomainWord es s at symbol left r = after_es es (HookWord ∷ []) left _ r.0 (domain_leads s at left (word_of symbol) r.1)
  leads HookWord es s at symbol left r = after_es es [] left _ r.0 (hook_word_leads s at left (word_of symbol) r.1)
  leads Point es s at symbol left r = after_es es (Ins ∷ Arrow ∷ Outs ∷ HookWord ∷ []) left _ r.0
      (with_hook s (Ins ∷ Arrow ∷ Outs ∷ HookWord ∷ []) left (λ found. point s found at symbol) r.1.hook (point_step s at symbol left r.1))
  leads Ins es s at symbol left r = after_es es (Arrow ∷ Outs ∷ HookWord ∷ []) left _ r.0
      (with_hook s (Arrow ∷ Outs ∷ HookWord ∷ []) left (λ found. ins d t s found at (symbol ∷ left)) r.1.at_hook.hook (ins_leads s at symbol left r.1))
  leads Arrow es s at symbol left r = alone_leads s es (Outs ∷ HookWord ∷ []) at left (is_arrow symbol) r.0 (refl, r.1)
  leads Outs es s at symbol left r = after_es es (HookWord ∷ []) left _ r.0
      (with_hook s (HookWord ∷ []) left (λ found. outs d t s found at symbol left) r.1.at_point.at_hook.hook (outs_leads s at symbol left r.1))

  at_end : (es : List TableExpected) (s : TableReading D) → Reached es s → list_all may_end es ≡ true → Reached [] s
  at_end [] s r e = r
  at_end (HookWord ∷ es) s r e = r.1
  at_end (TableWord ∷ es) s r e = absurd (cc)
  at_end (One ∷ es) s r e = absurd (cc)
  at_end (DomainWord ∷ es) s r e = absurd (cc)
  at_end (Point ∷ es) s r e = absurd (cc)
  at_end (Ins ∷ es) s r e = absurd (cc)
  at_end (Arrow ∷ es) s r e = absurd (cc)
  at_end (Outs ∷ es) s r e = absurd (cc)

  ended_fits : (count last : ℕ) (r : Result (TableReading D × ℕ) (TableError × ℕ)) → IfOk r (λ read. Fit read.0 × (read.1 ≤ last)) → IfOk (ended (table_rules d t) count r) Fit
  ended_fits count last (Ok (state, at)) h = where_true (at == count) _ _ Fit (λ k. h.0)
  ended_fits count last (Err e) h = tt

  -- what is read is a table
  pub reads_triples : (def : Def) (program : Program) (names : List (List ℕ)) (symbols : List Symbol) → IfOk (read_symbols d t def program names symbols) Fit
  unfolding read_symbols
  reads_triples def program names symbols =
      ended_fits (length symbols) (0 + length symbols) _ (run_keeps (table_rules d t) Reached (record { ends = at_end; turns = leads }) 0 0 (TableWord ∷ One ∷ DomainWord ∷ HookWord ∷ []) (no_triple def program names) symbols (omega arith)
      (refl, record { few = omega arith; fit = All-nil (TripleFits def program (length names)); proper = All-nil (IsProper d) }))

  -- and so are the triples that a reader holds at the end
  pub fits_by : (def : Def) (program : Program) (names : List (List ℕ)) (symbols : List Symbol) (begun state : TableReading D) → begun ≡ no_triple def program names →
      run_whole (table_rules d t) (TableWord ∷ One ∷ DomainWord ∷ HookWord ∷ []) begun symbols ≡ Ok state → Stays begun state → IsTable d def program (length names) state.triples
  unfolding read_symbols
  fits_by def program names symbols begun state b e k =
      let P : Result (TableReading D) (TableError × ℕ) → Type 0 = λ r. IfOk r Fit in
      let same : run_whole (table_rules d t) (TableWord ∷ One ∷ DomainWord ∷ HookWord ∷ []) (no_triple def program names) symbols ≡ Ok state = sym (ap (λ from. run_whole (table_rules d t) (TableWord ∷ One ∷ DomainWord ∷ HookWord ∷ []) from symbols) b) ∙ e in
      let fit : Fit state = subst P same (reads_triples def program names symbols) in
      let A : Def → Type 0 = λ def. IsTable d def state.program (length state.names) state.triples in
      let B : Program → Type 0 = λ program. IsTable d def program (length state.names) state.triples in
      let C : List (List ℕ) → Type 0 = λ names. IsTable d def program (length names) state.triples in
      subst C (k.names ∙ ap (λ (from : TableReading D). from.names) b) (subst B (k.program ∙ ap (λ (from : TableReading D). from.program) b) (subst A (k.def ∙ ap (λ (from : TableReading D). from.def) b) fit))

pub stays : {D : Type 0} (state : TableReading D) → Stays state state
stays state = record { def = refl; program = refl; names = refl }
