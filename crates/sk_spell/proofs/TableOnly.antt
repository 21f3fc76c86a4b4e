-- Only spelled tables are read.
use Rattle.std.proofs.Common.{◌≡◌, ℕ, zero, suc, ◌+◌, ◌<◌, ◌≤◌, nat_lt, ℤ, pos, negsuc, Bool, true, false, cond, List, [], ◌∷◌, ◌++◌, append_assoc, length, refl, sym, ap, subst, ◌∙◌, arith, length-append, Option, Some, None, Result, Ok, Err}
use Rattle.std.specs.Prelude.{codes, ◌==◌, ◌&&◌}
use Rattle.std.specs.List.{list_all}
use Rattle.std.specs.Ordering.{int_eq}
use Rattle.std.specs.Option.{option_map_or}
use Rattle.std.specs.Str.{bytes_eq}
use Rattle.std.proofs.lemmas.Bool.{ltb-true}
use Rattle.std.proofs.lemmas.Bool.Decides.{Decides-int_eq}
use Rattle.std.proofs.lemmas.List.{append-nil}
use Rattle.std.proofs.lemmas.Option.{same_Some}
use Rattle.std.proofs.lemmas.Slice.Eq.{bytes_eq-Decides}
use Rattle.sk_base.specs.Answer.{◌>>=◌}
use Rattle.sk_base.specs.declared.flow.FlowSort.{FlowSort}
use Rattle.sk_lex.specs.Run.{run, ended}
use Rattle.sk_lex.specs.Symbols.{Symbol, Named, Plain, word_of, number_of, is_arrow}
use Rattle.sk_lex.specs.declared.token.TokenKind.TheVariants as token
use Rattle.sk_def.specs.Named.{hook_named}
use Rattle.sk_def.specs.declared.ids.HookId.{HookId}
use Rattle.sk_def.specs.declared.def.Def.{Def}
use Rattle.sk_def.specs.declared.def.Hook.{Hook}
use Rattle.sk_term.specs.Program.{Program}
use Rattle.sk_lattice.specs.Domain.{Domain}
use Rattle.sk_lattice.specs.DomainTexts.{DomainTexts, is_domain_word}
use Rattle.sk_lattice.specs.declared.flow.AbsFlow.{AbsFlow}
use Rattle.sk_table.specs.declared.fault.TableError.{TableError}
use Rattle.sk_table.specs.declared.fault.TableError.TheVariants as error
use Rattle.sk_table.specs.declared.triple.Triple.{Triple}
use Rattle.sk_table.specs.Tables.{TableReading, Met, met, refused, alone, is_table_word, is_one, domain_word, hook_found, hook_word, has_sort_at, point_found, pointed, point, tuple_at, with_tuple, ins, with_triple, outs, step, table_rules, no_triple, read_symbols, triples_read}
use Rattle.sk_table.specs.Tuples.{is_none_word}
use Rattle.sk_spell.specs.Calls.{IsDeclared, IsPointOf}
use Rattle.sk_spell.specs.TableSpelling.{TupleForm, OutputsAt, TripleAt, TriplesAt, SpellTable}
use Rattle.sk_spell.proofs.CallsFound.{found_is_called, point_so}
use Rattle.sk_spell.proofs.TableTuples.{Reads, was_read}
use Rattle.sk_spell.proofs.TableForms.{Answer, Expect, entry, after_hook, Start, start, Comes, came}

-- What tests tell of a symbol.

word_is : (symbol : Symbol) (word : List ℕ) → option_map_or (λ found. bytes_eq found word) (word_of symbol) false ≡ true → symbol ≡ Named word
word_is (Named found) word h = ap Named ((bytes_eq-Decides found word).0 h)
word_is (Plain kind) word h = absurd (cc h)

number_is : (symbol : Symbol) (z : ℤ) → number_of symbol ≡ Some z → symbol ≡ Plain (token.Number z)
number_is (Plain (token.Number value)) z h = ap (λ v. Plain (token.Number v)) (same_Some value z h)
number_is symbol z h = absurd (cc)

one_is : (symbol : Symbol) → is_one symbol ≡ true → symbol ≡ Plain (token.Number (pos 1))
one_is symbol h = by_number (number_of symbol) refl h where
  by_number : (found : Option ℤ) → number_of symbol ≡ found → option_map_or (λ number. int_eq number (pos 1)) found false ≡ true →
      symbol ≡ Plain (token.Number (pos 1))
  by_number None e k = absurd (cc k)
  by_number (Some z) e k = number_is symbol z e ∙ ap (λ v. Plain (token.Number v)) ((Decides-int_eq z (pos 1)).0 k)

arrow_is : (symbol : Symbol) → is_arrow symbol ≡ true → symbol ≡ Plain token.Arrow
arrow_is (Plain token.Arrow) h = refl
arrow_is symbol h = absurd (cc)

module _ {D : Type 0} (d : Domain D) (t : DomainTexts D) (def : Def) (program : Program) (names : List (List ℕ)) where
  -- What may stand next.
  abbrev Point : Expect d t
  Point = entry (after_hook d t def program) 0 tt

  abbrev Ins : Expect d t
  Ins = entry (after_hook d t def program) 1 tt

  abbrev Arrow : Expect d t
  Arrow = entry (after_hook d t def program) 2 tt

  abbrev Outs : Expect d t
  Outs = entry (after_hook d t def program) 3 tt

  abbrev HookWord : Expect d t
  HookWord = entry (after_hook d t def program) 4 tt

  -- What was read so far.
  abbrev now : List (Triple D) → HookId → ℕ → List (AbsFlow D) → TableReading D
  now triples hook point ins = record { def = def; program = program; names = names; triples = triples; hook = hook; point = point; ins = ins }

  module _ (from : Answer D) (total : ℕ) (Tuple : TupleForm D) (reads : Reads d t names total Tuple) (b : Start d t def program names) (last : TableReading D × ℕ) (ok : from ≡ Ok last) where
    abbrev At : List (Expect d t) → TableReading D → List Symbol → Type 0
    At es s left = Comes d t def program names from total es s left

    -- a reading that is not refused goes on so
    abbrev Goes : ℕ → List (Expect d t) → List Symbol → Met D → Type 0
    Goes at below rest (Ok turn) = from ≡ run (table_rules d t) turn.more (at + 1) (turn.expected ++ below) turn.state rest
    Goes at below rest (Err bad) = ⊥

    goes : (at : ℕ) (below : List (Expect d t)) (rest : List Symbol) (m : Met D) →
        from ≡ (m >>= λ turn. run (table_rules d t) turn.more (at + 1) (turn.expected ++ below) turn.state rest) → Goes at below rest m
    goes at below rest (Ok turn) e = e
    goes at below rest (Err bad) e = absurd (cc (sym ok ∙ e))

    turned : {one : Expect d t} {below : List (Expect d t)} {s : TableReading D} {symbol : Symbol} {rest : List Symbol}
        (g : At (one ∷ below) s (symbol ∷ rest)) → Goes g.at below rest (step d t s one g.at symbol rest)
    turned {one} {below} {s} {symbol} {rest} g = goes g.at below rest (step d t s one g.at symbol rest) g.is

    met_so : {one : Expect d t} {below : List (Expect d t)} {s : TableReading D} {symbol : Symbol} {rest : List Symbol} {m : Met D}
        (g : At (one ∷ below) s (symbol ∷ rest)) → step d t s one g.at symbol rest ≡ m → Goes g.at below rest m
    met_so {below = below} {rest = rest} g e = let P : Met D → Type 0 = λ m. Goes g.at below rest m in subst P e (turned g)

    -- after a turn of one symbol
    next : {es : List (Expect d t)} {s : TableReading D} {left : List Symbol} (at : ℕ) → from ≡ run (table_rules d t) 0 (at + 1) es s left →
        at + suc (length left) ≡ total → At es s left
    next {es} {s} {left} at e p = came d t def program names from total es s at 0 left [] left e p refl refl

    -- where the text may not end yet
    not_ended : {one : Expect d t} {below : List (Expect d t)} {s : TableReading D} → (table_rules d t).may_end one ≡ false → At (one ∷ below) s [] → ⊥
    not_ended {one} {below} {s} n g =
        absurd (cc (sym ok ∙ g.is ∙ ap (λ b. cond {A = Answer D} (b && list_all (table_rules d t).may_end below) (Ok (s, g.at)) (Err (error.Unexpected, g.at))) n))

    alone_so : (s : TableReading D) (at : ℕ) (below : List (Expect d t)) (rest : List Symbol) (b : Bool) → Goes at below rest (alone s at b) →
        (b ≡ true) × (from ≡ run (table_rules d t) 0 (at + 1) below s rest)
    alone_so s at below rest true h = (refl, h)
    alone_so s at below rest false h = absurd h

    -- the first symbols
    record Stands (one : Symbol) (below : List (Expect d t)) (s : TableReading D) (symbols : List Symbol) : Type 0 where
      left : List Symbol
      is : symbols ≡ one ∷ left
      gets : At below s left

    table_read : {below : List (Expect d t)} {s : TableReading D} (symbols : List Symbol) → At (b.word ∷ below) s symbols →
        Stands (Named (codes "table")) below s symbols
    table_read [] g = absurd (not_ended b.word_goes_on g)
    table_read {below} {s} (symbol ∷ left) g =
        let h = alone_so s g.at below left (is_table_word symbol) (met_so g (b.word_is s g.at symbol left)) in
        record { left = left; is = ap (λ one. one ∷ left) (word_is symbol (codes "table") h.0); gets = next g.at h.1 g.place }

    one_read : {below : List (Expect d t)} {s : TableReading D} (symbols : List Symbol) → At (b.one ∷ below) s symbols →
        Stands (Plain (token.Number (pos 1))) below s symbols
    one_read [] g = absurd (not_ended b.one_goes_on g)
    one_read {below} {s} (symbol ∷ left) g =
        let h = alone_so s g.at below left (is_one symbol) (met_so g (b.one_is s g.at symbol left)) in
        record { left = left; is = ap (λ one. one ∷ left) (one_is symbol h.0); gets = next g.at h.1 g.place }

    arrow_read : {below : List (Expect d t)} {s : TableReading D} (symbols : List Symbol) → At (Arrow ∷ below) s symbols →
        Stands (Plain token.Arrow) below s symbols
    unfolding step
    arrow_read [] g = absurd (not_ended refl g)
    arrow_read {below} {s} (symbol ∷ left) g =
        let h = alone_so s g.at below left (is_arrow symbol) (turned g) in
        record { left = left; is = ap (λ one. one ∷ left) (arrow_is symbol h.0); gets = next g.at h.1 g.place }

    domain_by : (s : TableReading D) (at : ℕ) (below : List (Expect d t)) (rest : List Symbol) (word : List ℕ) (b other : Bool) → bytes_eq word t.word ≡ b →
        Goes at below rest (cond b (met s []) (cond other (refused error.WrongDomain at) (refused error.Unexpected at))) → (word ≡ t.word) × (from ≡ run (table_rules d t) 0 (at + 1) below s rest)
    domain_by s at below rest word true other e h = ((bytes_eq-Decides word t.word).0 e, h)
    domain_by s at below rest word false true e h = absurd h
    domain_by s at below rest word false false e h = absurd h

    domain_read : {below : List (Expect d t)} {s : TableReading D} (symbols : List Symbol) → At (b.domain ∷ below) s symbols →
        Stands (Named t.word) below s symbols
    unfolding domain_word
    domain_read [] g = absurd (not_ended b.domain_goes_on g)
    domain_read {s = s} (Plain kind ∷ left) g = absurd (met_so g (b.domain_is s g.at (Plain kind) left))
    domain_read {below} {s} (Named word ∷ left) g =
        let h = domain_by s g.at below left word (bytes_eq word t.word) (is_domain_word word) refl (met_so g (b.domain_is s g.at (Named word) left)) in
        record { left = left; is = ap (λ w. Named w ∷ left) h.0; gets = next g.at h.1 g.place }

    -- A call.
    record HookRead (triples : List (Triple D)) (p : ℕ) (symbols : List Symbol) : Type 0 where
      hook : HookId
      declared : Hook
      called : IsDeclared def hook declared
      few : length triples < 32768
      left : List Symbol
      is : symbols ≡ Named declared.name ∷ left
      gets : At (Point ∷ Ins ∷ Arrow ∷ Outs ∷ HookWord ∷ []) (now triples hook p []) left

    hook_by : (triples : List (Triple D)) (before : HookId) (p at : ℕ) (left : List Symbol) (word : List ℕ) (b : Bool) (found : Option HookId) →
        nat_lt (length triples) 32768 ≡ b → hook_named def word ≡ found →
        at + suc (length left) ≡ total → Goes at [] left (cond b (hook_found (now triples before p []) at found) (refused error.TooMany at)) → HookRead triples p (Named word ∷ left)
    hook_by triples before p at left word false found e f q h = absurd h
    hook_by triples before p at left word true None e f q h = absurd h
    hook_by triples before p at left word true (Some hook) e f q h =
        let c = found_is_called def word hook f in
        record { hook = hook; declared = c.declared; called = c.called; few = ltb-true (length triples) 32768 e; left = left; is = ap (λ w. Named w ∷ left) (sym c.named); gets = next at h q }

    hook_read : (triples : List (Triple D)) (before : HookId) (p : ℕ) (symbol : Symbol) (left : List Symbol) →
        At (HookWord ∷ []) (now triples before p []) (symbol ∷ left) → HookRead triples p (symbol ∷ left)
    unfolding step hook_word
    hook_read triples before p (Plain kind) left g = absurd (turned g)
    hook_read triples before p (Named word) left g = hook_by triples before p g.at left word (nat_lt (length triples) 32768) (hook_named def word) refl refl g.place (turned g)

    record PointRead (triples : List (Triple D)) (hook : HookId) (declared : Hook) (below : List (Expect d t)) (symbols : List Symbol) : Type 0 where
      number : ℕ
      pointed : IsPointOf program declared.sort number
      left : List Symbol
      is : symbols ≡ Plain (token.Number (pos number)) ∷ left
      gets : At below (now triples hook number []) left

    point_by : (triples : List (Triple D)) (hook : HookId) (p at : ℕ) (declared : Hook) (below : List (Expect d t)) (symbol : Symbol) (left : List Symbol)
        (found : Option ℤ) → number_of symbol ≡ found →
        at + suc (length left) ≡ total → Goes at below left (pointed (now triples hook p []) at declared.sort found) → PointRead triples hook declared below (symbol ∷ left)
    point_by triples hook p at declared below symbol left None e q h = absurd h
    point_by triples hook p at declared below symbol left (Some (negsuc n)) e q h = absurd h
    point_by triples hook p at declared below symbol left (Some (pos n)) e q h = by_sort (has_sort_at program declared.sort n) refl h where
      by_sort : (b : Bool) → has_sort_at program declared.sort n ≡ b → Goes at below left (point_found (now triples hook p []) at (cond b (Some n) None)) →
          PointRead triples hook declared below (symbol ∷ left)
      by_sort true f k = record { number = n; pointed = point_so program declared.sort n f; left = left; is = ap (λ one. one ∷ left) (number_is symbol (pos n) e); gets = next at k q }
      by_sort false f k = absurd k

    point_read : (triples : List (Triple D)) (hook : HookId) (p : ℕ) (declared : Hook) (below : List (Expect d t)) (symbols : List Symbol) →
        IsDeclared def hook declared → At (Point ∷ below) (now triples hook p []) symbols →
        PointRead triples hook declared below symbols
    unfolding step point
    point_read triples hook p declared below [] c g = absurd (not_ended refl g)
    point_read triples hook p declared below (symbol ∷ left) c g =
        let s = now triples hook p [] in
        let P : Option Hook → Type 0 = λ found. Goes g.at below left (point s found g.at symbol) in
        point_by triples hook p g.at declared below symbol left (number_of symbol) refl g.place (subst P c.is (turned g))

    -- A tuple.
    record TupleRead (sorts : List FlowSort) (below : List (Expect d t)) (state : List (AbsFlow D) → TableReading D) (symbols : List Symbol) : Type 0 where
      tuple : List (AbsFlow D)
      left : List Symbol
      is : Tuple sorts tuple symbols left
      shorter : length left < length symbols
      gets : At below (state tuple) left

    tuple_by : (sorts : List FlowSort) (below : List (Expect d t)) (state : List (AbsFlow D) → TableReading D) (at : ℕ) (symbol : Symbol) (rest : List Symbol)
        (r : Result (List (AbsFlow D) × ℕ) (TableError × ℕ)) →
        tuple_at d t sorts names at (symbol ∷ rest) ≡ r → at + suc (length rest) ≡ total → Goes at below rest (with_tuple state r) → TupleRead sorts below state (symbol ∷ rest)
    tuple_by sorts below state at symbol rest (Err bad) e q h = absurd h
    tuple_by sorts below state at symbol rest (Ok (tuple, more)) e q h =
        let w = was_read d t names sorts at more tuple symbol rest e in
        record {
          tuple = tuple;
          left = w.split.left;
          is = reads.gives sorts tuple (symbol ∷ rest) (symbol ∷ w.split.text) w.split.left at q (ap (λ ss. symbol ∷ ss) w.split.is) (w.is ∙ ap (λ (n : ℕ). Ok (tuple, at + suc n)) (sym w.split.long));
          shorter = omega (arith, ap length w.split.is, length-append w.split.text w.split.left);
          gets = came d t def program names from total below (state tuple) at more rest w.split.text w.split.left h q w.split.is w.split.long;
        }

    ins_read : (triples : List (Triple D)) (hook : HookId) (p : ℕ) (declared : Hook) (below : List (Expect d t)) (symbols : List Symbol) →
        IsDeclared def hook declared → At (Ins ∷ below) (now triples hook p []) symbols →
        TupleRead declared.inputs below (λ tuple. now triples hook p tuple) symbols
    unfolding step ins
    ins_read triples hook p declared below [] c g = absurd (not_ended refl g)
    ins_read triples hook p declared below (symbol ∷ rest) c g =
        let s = now triples hook p [] in
        let P : Option Hook → Type 0 = λ found. Goes g.at below rest (ins d t s found g.at (symbol ∷ rest)) in
        tuple_by declared.inputs below (λ tuple. now triples hook p tuple) g.at symbol rest (tuple_at d t declared.inputs names g.at (symbol ∷ rest)) refl g.place (subst P c.is (turned g))

    abbrev triple_of : HookId → ℕ → List (AbsFlow D) → Option (List (AbsFlow D)) → Triple D
    triple_of hook p i tuple = record { hook = hook; point = p; ins = i; outs = tuple }

    record OutsRead (triples : List (Triple D)) (hook : HookId) (p : ℕ) (i : List (AbsFlow D)) (declared : Hook) (below : List (Expect d t)) (symbols : List Symbol) : Type 0 where
      found : Option (List (AbsFlow D))
      left : List Symbol
      is : OutputsAt Tuple declared.outputs found symbols left
      shorter : length left < length symbols
      gets : At below (now (triples ++ triple_of hook p i found ∷ []) hook p []) left

    outs_by : (triples : List (Triple D)) (hook : HookId) (p : ℕ) (i : List (AbsFlow D)) (declared : Hook) (below : List (Expect d t)) (at : ℕ)
        (symbol : Symbol) (rest : List Symbol) (b : Bool) → is_none_word symbol ≡ b →
        at + suc (length rest) ≡ total →
        Goes at below rest (cond b (met (with_triple (now triples hook p i) None) []) (with_tuple (λ tuple. with_triple (now triples hook p i) (Some tuple)) (tuple_at d t declared.outputs names at (symbol ∷ rest)))) →
        OutsRead triples hook p i declared below (symbol ∷ rest)
    outs_by triples hook p i declared below at symbol rest true e q h =
        record { found = None; left = rest; is = ap (λ one. one ∷ rest) (word_is symbol (codes "none") e); shorter = omega arith; gets = next at h q }
    outs_by triples hook p i declared below at symbol rest false e q h =
        let r = tuple_by declared.outputs below (λ tuple. now (triples ++ triple_of hook p i (Some tuple) ∷ []) hook p []) at symbol rest (tuple_at d t declared.outputs names at (symbol ∷ rest)) refl q h in
        record { found = Some r.tuple; left = r.left; is = r.is; shorter = r.shorter; gets = r.gets }

    outs_read : (triples : List (Triple D)) (hook : HookId) (p : ℕ) (i : List (AbsFlow D)) (declared : Hook) (below : List (Expect d t))
        (symbols : List Symbol) → IsDeclared def hook declared →
        At (Outs ∷ below) (now triples hook p i) symbols → OutsRead triples hook p i declared below symbols
    unfolding step outs
    outs_read triples hook p i declared below [] c g = absurd (not_ended refl g)
    outs_read triples hook p i declared below (symbol ∷ rest) c g =
        let s = now triples hook p i in
        let P : Option Hook → Type 0 = λ found. Goes g.at below rest (outs d t s found g.at symbol rest) in
        outs_by triples hook p i declared below g.at symbol rest (is_none_word symbol) refl g.place (subst P c.is (turned g))

    -- A triple.
    record TripleRead (triples : List (Triple D)) (symbols : List Symbol) : Type 0 where
      triple : Triple D
      left : List Symbol
      is : TripleAt Tuple def program triple symbols left
      few : length triples < 32768
      shorter : length left < length symbols
      gets : At (HookWord ∷ []) (now (triples ++ triple ∷ []) triple.hook triple.point []) left

    -- its parts make it
    made : (triples : List (Triple D)) (p : ℕ) (symbols : List Symbol) (h : HookRead triples p symbols)
        (n : PointRead triples h.hook h.declared (Ins ∷ Arrow ∷ Outs ∷ HookWord ∷ []) h.left)
        (i : TupleRead h.declared.inputs (Arrow ∷ Outs ∷ HookWord ∷ []) (λ tuple. now triples h.hook n.number tuple) n.left)
        (a : Stands (Plain token.Arrow) (Outs ∷ HookWord ∷ []) (now triples h.hook n.number i.tuple) i.left) (o : OutsRead triples h.hook n.number i.tuple h.declared (HookWord ∷ []) a.left) → TripleRead triples symbols
    made triples p symbols h n i a o =
        let T : List Symbol → Type 0 = λ left. Tuple h.declared.inputs i.tuple n.left left in
        record {
          triple = triple_of h.hook n.number i.tuple o.found;
          left = o.left;
          is = record {
            declared = h.declared;
            after_call = n.left;
            after_arrow = a.left;
            call = record { called = h.called; pointed = n.pointed; symbols_are = h.is ∙ ap (λ ss. Named h.declared.name ∷ ss) n.is };
            ins = subst T a.is i.is;
            outs = o.is;
          };
          few = h.few;
          shorter = omega (arith, o.shorter, ap length a.is, i.shorter, ap length n.is, ap length h.is);
          gets = o.gets;
        }

    triple_read : (triples : List (Triple D)) (before : HookId) (p : ℕ) (symbol : Symbol) (rest : List Symbol) →
        At (HookWord ∷ []) (now triples before p []) (symbol ∷ rest) → TripleRead triples (symbol ∷ rest)
    triple_read triples before p symbol rest g =
        let h = hook_read triples before p symbol rest g in
        let n = point_read triples h.hook p h.declared (Ins ∷ Arrow ∷ Outs ∷ HookWord ∷ []) h.left h.called h.gets in
        let i = ins_read triples h.hook n.number h.declared (Arrow ∷ Outs ∷ HookWord ∷ []) n.left h.called n.gets in
        let a = arrow_read {s = now triples h.hook n.number i.tuple} i.left i.gets in
        made triples p (symbol ∷ rest) h n i a (outs_read triples h.hook n.number i.tuple h.declared (HookWord ∷ []) a.left h.called a.gets)

    -- All triples.
    record TriplesRead (triples : List (Triple D)) (symbols : List Symbol) : Type 0 where
      more : List (Triple D)
      is : TriplesAt Tuple def program more symbols
      few : length triples + length more ≤ 32768
      state : TableReading D
      ended : from ≡ Ok (state, total)
      triples_are : state.triples ≡ triples ++ more

    triples_read_on : (fuel : ℕ) (triples : List (Triple D)) (hook : HookId) (p : ℕ) (symbols : List Symbol) → length symbols ≤ fuel → length triples ≤ 32768 →
        At (HookWord ∷ []) (now triples hook p []) symbols →
        TriplesRead triples symbols
    triples_read_on fuel triples hook p [] l few g =
        let s = now triples hook p [] in
        record { more = []; is = refl; few = omega (arith, few); state = s; ended = g.is ∙ ap (λ (n : ℕ). Ok (s, n)) (omega (arith, g.place)); triples_are = sym (append-nil triples) }
    triples_read_on zero triples hook p (symbol ∷ rest) l few g = absurd (omega (arith, l))
    triples_read_on (suc fuel) triples hook p (symbol ∷ rest) l few g =
        let r = triple_read triples hook p symbol rest g in
        let m = triples_read_on fuel (triples ++ r.triple ∷ []) r.triple.hook r.triple.point r.left (omega (arith, l, r.shorter)) (omega (arith, r.few, length-append triples (r.triple ∷ []))) r.gets in
        record {
          more = r.triple ∷ m.more;
          is = (r.left, r.is, m.is);
          few = omega (arith, m.few, length-append triples (r.triple ∷ []));
          state = m.state;
          ended = m.ended;
          triples_are = m.triples_are ∙ append_assoc triples (r.triple ∷ []) m.more;
        }

    record TableRead (symbols : List Symbol) : Type 0 where
      triples : List (Triple D)
      is : SpellTable Tuple t.word def program triples symbols
      state : TableReading D
      ended : from ≡ Ok (state, total)
      triples_are : state.triples ≡ triples

    spelled_so : (symbols : List Symbol) (a : Stands (Named (codes "table")) (b.one ∷ b.domain ∷ HookWord ∷ []) (now [] (record { 0 = 0 }) 0 []) symbols)
        (o : Stands (Plain (token.Number (pos 1))) (b.domain ∷ HookWord ∷ []) (now [] (record { 0 = 0 }) 0 []) a.left) (c : Stands (Named t.word) (HookWord ∷ []) (now [] (record { 0 = 0 }) 0 []) o.left) →
        TriplesRead [] c.left → TableRead symbols
    spelled_so symbols a o c m = record {
      triples = m.more;
      is = record {
        few = omega (arith, m.few);
        body = c.left;
        symbols_are = a.is ∙ ap (λ ss. Named (codes "table") ∷ ss) o.is ∙ ap (λ ss. Named (codes "table") ∷ Plain (token.Number (pos 1)) ∷ ss) c.is;
        triples_are = m.is;
      };
      state = m.state;
      ended = m.ended;
      triples_are = m.triples_are;
    }

    whole_read : (symbols : List Symbol) → At (b.word ∷ b.one ∷ b.domain ∷ HookWord ∷ []) (now [] (record { 0 = 0 }) 0 []) symbols → TableRead symbols
    whole_read symbols g =
        let a = table_read {s = now [] (record { 0 = 0 }) 0 []} symbols g in
        let o = one_read {s = now [] (record { 0 = 0 }) 0 []} a.left a.gets in
        let c = domain_read {s = now [] (record { 0 = 0 }) 0 []} o.left o.gets in
        spelled_so symbols a o c (triples_read_on (length c.left) [] (record { 0 = 0 }) 0 c.left (omega arith) (omega arith) c.gets)

  -- the state that a reading of so many symbols ends in
  abbrev whole_of : ℕ → Answer D → Result (List (Triple D)) (TableError × ℕ)
  whole_of total r = triples_read (ended (table_rules d t) total r)

  abbrev triples_in : Result (List (Triple D)) (TableError × ℕ) → List (Triple D)
  triples_in (Ok triples) = triples
  triples_in (Err bad) = []

  last_of : (total : ℕ) (triples : List (Triple D)) (r : Answer D) → whole_of total r ≡ Ok triples → (last : TableReading D × ℕ) × (r ≡ Ok last)
  last_of total triples (Ok last) h = (last, refl)
  last_of total triples (Err bad) h = absurd (cc h)

  triples_of : (total : ℕ) (triples : List (Triple D)) (state : TableReading D) (b : Bool) →
      triples_read (cond {A = Result (TableReading D) (TableError × ℕ)} b (Ok state) (Err (error.Unexpected, total))) ≡ Ok triples → state.triples ≡ triples
  triples_of total triples state true h = ap triples_in h
  triples_of total triples state false h = absurd (cc h)

  finished : (from : Answer D) (total : ℕ) (Tuple : TupleForm D) (reads : Reads d t names total Tuple) (b : Start d t def program names) (last : TableReading D × ℕ) (ok : from ≡ Ok last)
      (triples : List (Triple D)) (symbols : List Symbol) (w : TableRead from total Tuple reads b last ok symbols) → whole_of total from ≡ Ok triples → SpellTable Tuple t.word def program triples symbols
  finished from total Tuple reads b last ok triples symbols w h =
      let e : whole_of total (Ok (w.state, total)) ≡ Ok triples = ap (whole_of total) (sym w.ended) ∙ h in
      let P : List (Triple D) → Type 0 = λ all. SpellTable Tuple t.word def program all symbols in
      subst P (sym w.triples_are ∙ triples_of total triples w.state (total == total) e) w.is

  from_start : (b : Start d t def program names) (triples : List (Triple D)) (symbols : List Symbol) (Tuple : TupleForm D) → Reads d t names (length symbols) Tuple →
      triples_read (read_symbols d t def program names symbols) ≡ Ok triples → SpellTable Tuple t.word def program triples symbols
  from_start b triples symbols Tuple reads h =
      let from : Answer D = run (table_rules d t) 0 0 (b.word ∷ b.one ∷ b.domain ∷ HookWord ∷ []) (no_triple def program names) symbols in
      let total = length symbols in
      let k : whole_of total from ≡ Ok triples = ap triples_read (sym (b.read_is symbols)) ∙ h in
      let l = last_of total triples from k in
      finished from total Tuple reads b l.0 l.1 triples symbols (whole_read from total Tuple reads b l.0 l.1 symbols (record { at = 0; is = refl; place = omega arith })) k

  pub only_tables_are_read : (triples : List (Triple D)) (symbols : List Symbol) (Tuple : TupleForm D) → Reads d t names (length symbols) Tuple →
      triples_read (read_symbols d t def program names symbols) ≡ Ok triples → SpellTable Tuple t.word def program triples symbols
  only_tables_are_read triples symbols Tuple reads h = from_start (start d t def program names) triples symbols Tuple reads h
