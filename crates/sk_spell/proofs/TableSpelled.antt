-- Spelled tables are read.
use Rattle.std.proofs.Common.{◌≡◌, ℕ, ◌+◌, ◌<◌, ◌≤◌, pos, true, false, cond, List, [], ◌∷◌, ◌++◌, append_assoc, length, refl, sym, ap, subst, ◌∙◌, arith, length-append, Option, Some, None, Result, Ok, Err}
use Rattle.std.specs.Prelude.{codes}
use Rattle.std.proofs.lemmas.Bool.{lt-ltb, eq-eqb}
use Rattle.std.proofs.lemmas.List.{append-nil}
use Rattle.std.proofs.lemmas.Slice.Eq.{bytes_eq-Decides}
use Rattle.sk_base.specs.declared.flow.FlowSort.{FlowSort}
use Rattle.sk_lex.specs.Run.{Turn, run, ended}
use Rattle.sk_lex.specs.Symbols.{Symbol, Named, Plain, is_open}
use Rattle.sk_lex.specs.declared.token.TokenKind.TheVariants as token
use Rattle.sk_def.specs.Named.{hook_named}
use Rattle.sk_def.specs.declared.ids.HookId.{HookId}
use Rattle.sk_def.specs.declared.def.Def.{Def}
use Rattle.sk_def.specs.declared.def.Hook.{Hook}
use Rattle.sk_term.specs.Program.{Program}
use Rattle.sk_lattice.specs.Domain.{Domain}
use Rattle.sk_lattice.specs.DomainTexts.{DomainTexts, is_domain_word}
use Rattle.sk_lattice.specs.declared.flow.AbsFlow.{AbsFlow}
use Rattle.sk_table.specs.declared.fault.TableError.{TableError}
use Rattle.sk_table.specs.declared.fault.TableError.TheVariants as error
use Rattle.sk_table.specs.declared.triple.Triple.{Triple}
use Rattle.sk_table.specs.Tables.{TableReading, met, refused, domain_word, hook_found, hook_word, point_found, point, tuple_at, with_tuple, with_ins, ins, with_triple, outs, step, table_rules, no_triple, read_symbols, triples_read}
use Rattle.sk_table.specs.Tuples.{is_none_word}
use Rattle.sk_spell.specs.Calls.{IsDeclared, IsPointOf}
use Rattle.sk_spell.specs.TableSpelling.{TupleForm, OutputsAt, TripleAt, TriplesAt, SpellTable}
use Rattle.sk_spell.proofs.CallsFound.{hook_is_found, point_fits}
use Rattle.sk_spell.proofs.TableTuples.{Reads}
use Rattle.sk_spell.proofs.TableForms.{Answer, Expect, entry, after_hook, Start, start, Comes, with_symbols, turned}

-- a tuple begins with `(`, which is no word
open_is_no_word : (symbol : Symbol) → is_open symbol ≡ true → is_none_word symbol ≡ false
open_is_no_word (Plain kind) h = refl
open_is_no_word (Named word) h = absurd (cc h)

module _ {D : Type 0} (d : Domain D) (t : DomainTexts D) (def : Def) (program : Program) (names : List (List ℕ)) where
  -- What may stand next.
  abbrev Point : Expect d t
  Point = entry (after_hook d t def program) 0 tt

  abbrev Ins : Expect d t
  Ins = entry (after_hook d t def program) 1 tt

  abbrev Arrow : Expect d t
  Arrow = entry (after_hook d t def program) 2 tt

  abbrev Outs : Expect d t
  Outs = entry (after_hook d t def program) 3 tt

  abbrev HookWord : Expect d t
  HookWord = entry (after_hook d t def program) 4 tt

  -- What each symbol is where it stands as it should.
  abbrev now : List (Triple D) → HookId → ℕ → List (AbsFlow D) → TableReading D
  now triples hook point ins = record { def = def; program = program; names = names; triples = triples; hook = hook; point = point; ins = ins }

  abbrev to : TableReading D → List (Expect d t) → ℕ → Turn (Expect d t) (TableReading D)
  to s es more = record { expected = es; state = s; more = more }

  domain_is : (s : TableReading D) (at : ℕ) → domain_word t s at (Some t.word) ≡ Ok (to s [] 0)
  unfolding domain_word
  domain_is s at = ap (λ b. cond b (met s []) (cond (is_domain_word t.word) (refused error.WrongDomain at) (refused error.Unexpected at))) ((bytes_eq-Decides t.word t.word).1 refl)

  hook_is : (triples : List (Triple D)) (before hook : HookId) (p : ℕ) (i : List (AbsFlow D)) (declared : Hook) → IsDeclared def hook declared →
      length triples < 32768 → (at : ℕ) (left : List Symbol) →
      step d t (now triples before p i) HookWord at (Named declared.name) left ≡ Ok (to (now triples hook p i) (Point ∷ Ins ∷ Arrow ∷ Outs ∷ HookWord ∷ []) 0)
  unfolding step hook_word
  hook_is triples before hook p i declared h few at left =
      let s = now triples before p i in
      ap (λ b. cond b (hook_found s at (hook_named def declared.name)) (refused error.TooMany at)) (lt-ltb (length triples) 32768 few) ∙ ap (hook_found s at) (hook_is_found def hook declared h)

  point_is : (triples : List (Triple D)) (hook : HookId) (p : ℕ) (i : List (AbsFlow D)) (declared : Hook) (number : ℕ) → IsDeclared def hook declared →
      IsPointOf program declared.sort number →
      (at : ℕ) (left : List Symbol) → step d t (now triples hook p i) Point at (Plain (token.Number (pos number))) left ≡ Ok (to (now triples hook number i) [] 0)
  unfolding step point
  point_is triples hook p i declared number h f at left =
      let s = now triples hook p i in
      ap (λ o. point s o at (Plain (token.Number (pos number)))) h.is ∙ ap (λ b. point_found s at (cond b (Some number) None)) (point_fits program declared.sort number f)

  ins_is : (triples : List (Triple D)) (hook : HookId) (p : ℕ) (i : List (AbsFlow D)) (declared : Hook) (tuple : List (AbsFlow D)) (n : ℕ) (symbol : Symbol)
      (left : List Symbol) (at : ℕ) → IsDeclared def hook declared →
      tuple_at d t declared.inputs names at (symbol ∷ left) ≡ Ok (tuple, n) → step d t (now triples hook p i) Ins at symbol left ≡ Ok (to (now triples hook p tuple) [] n)
  unfolding step ins
  ins_is triples hook p i declared tuple n symbol left at h e =
      let s = now triples hook p i in
      ap (λ o. ins d t s o at (symbol ∷ left)) h.is ∙ ap (with_tuple (with_ins s)) e

  abbrev triple_of : HookId → ℕ → List (AbsFlow D) → Option (List (AbsFlow D)) → Triple D
  triple_of hook p i tuple = record { hook = hook; point = p; ins = i; outs = tuple }

  none_is : (triples : List (Triple D)) (hook : HookId) (p : ℕ) (i : List (AbsFlow D)) (declared : Hook) (left : List Symbol) → IsDeclared def hook declared →
      (at : ℕ) →
      step d t (now triples hook p i) Outs at (Named (codes "none")) left ≡ Ok (to (now (triples ++ triple_of hook p i None ∷ []) hook p []) [] 0)
  unfolding step outs
  none_is triples hook p i declared left h at = ap (λ o. outs d t (now triples hook p i) o at (Named (codes "none")) left) h.is

  outs_is : (triples : List (Triple D)) (hook : HookId) (p : ℕ) (i : List (AbsFlow D)) (declared : Hook) (tuple : List (AbsFlow D)) (n : ℕ) (symbol : Symbol)
      (left : List Symbol) (at : ℕ) → IsDeclared def hook declared →
      is_open symbol ≡ true → tuple_at d t declared.outputs names at (symbol ∷ left) ≡ Ok (tuple, n) →
      step d t (now triples hook p i) Outs at symbol left ≡ Ok (to (now (triples ++ triple_of hook p i (Some tuple) ∷ []) hook p []) [] n)
  unfolding step outs
  outs_is triples hook p i declared tuple n symbol left at h o e =
      let s = now triples hook p i in
      ap (λ o. outs d t s o at symbol left) h.is
      ∙ ap (λ b. cond b (met (with_triple s None) []) (with_tuple (λ tuple. with_triple s (Some tuple)) (tuple_at d t declared.outputs names at (symbol ∷ left)))) (open_is_no_word symbol o)
      ∙ ap (with_tuple (λ tuple. with_triple s (Some tuple))) e

  -- The reading goes on so.
  module _ (from : Answer D) (total : ℕ) (Tuple : TupleForm D) (reads : Reads d t names total Tuple) where
    abbrev At : List (Expect d t) → TableReading D → List Symbol → Type 0
    At es s left = Comes d t def program names from total es s left

    turn : {one : Expect d t} {below : List (Expect d t)} {s : TableReading D} {symbol : Symbol} {left : List Symbol} (g : At (one ∷ below) s (symbol ∷ left))
        (reached : TableReading D) (es : List (Expect d t)) →
        step d t s one g.at symbol left ≡ Ok (to reached es 0) → At (es ++ below) reached left
    turn {left = left} g reached es e = turned d t def program names from total g (to reached es 0) [] left e refl refl

    -- a tuple that stands there is taken
    tuple_read : {one : Expect d t} {below : List (Expect d t)} {s : TableReading D} (reached : TableReading D) (sorts : List FlowSort)
        (tuple : List (AbsFlow D)) (symbols left : List Symbol) →
        Tuple sorts tuple symbols left → At (one ∷ below) s symbols →
        ((symbol : Symbol) (rest : List Symbol) (n at : ℕ) → is_open symbol ≡ true → tuple_at d t sorts names at (symbol ∷ rest) ≡ Ok (tuple, n) → step d t s one at symbol rest ≡ Ok (to reached [] n)) → At below reached left
    tuple_read {one} {below} {s} reached sorts tuple symbols left p g e =
        let k = reads.takes sorts tuple symbols left g.at g.place p in
        let h : At (one ∷ below) s (k.first ∷ (k.text ++ left)) = record { at = g.at; is = g.is ∙ ap (λ ss. run (table_rules d t) 0 g.at (one ∷ below) s ss) k.is; place = omega (arith, g.place, ap length k.is) } in
        turned d t def program names from total h (to reached [] (length k.text)) k.text left (e k.first (k.text ++ left) (length k.text) g.at k.opening k.taken) refl refl

    outs_read : (triples : List (Triple D)) (hook : HookId) (p : ℕ) (i : List (AbsFlow D)) (declared : Hook) (found : Option (List (AbsFlow D)))
        (symbols left : List Symbol) → IsDeclared def hook declared →
        OutputsAt Tuple declared.outputs found symbols left → At (Outs ∷ HookWord ∷ []) (now triples hook p i) symbols → At (HookWord ∷ []) (now (triples ++ triple_of hook p i found ∷ []) hook p []) left
    outs_read triples hook p i declared None symbols left h o g =
        let g = with_symbols d t def program names from total symbols (Named (codes "none") ∷ left) o g in
        turn g (now (triples ++ triple_of hook p i None ∷ []) hook p []) [] (none_is triples hook p i declared left h g.at)
    outs_read triples hook p i declared (Some tuple) symbols left h o g =
        tuple_read (now (triples ++ triple_of hook p i (Some tuple) ∷ []) hook p []) declared.outputs tuple symbols left o g
        (λ symbol rest n at o e. outs_is triples hook p i declared tuple n symbol rest at h o e)

    triple_read : (triples : List (Triple D)) (before : HookId) (p : ℕ) (triple : Triple D) (symbols left : List Symbol) → length triples < 32768 →
        TripleAt Tuple def program triple symbols left →
        At (HookWord ∷ []) (now triples before p []) symbols → At (HookWord ∷ []) (now (triples ++ triple ∷ []) triple.hook triple.point []) left
    unfolding step
    triple_read triples before p triple symbols left few r g =
        let c = r.call in
        let number : Symbol = Plain (token.Number (pos triple.point)) in
        let at_hook = with_symbols d t def program names from total symbols (Named r.declared.name ∷ number ∷ r.after_call) c.symbols_are g in
        let at_point = turn at_hook (now triples triple.hook p []) (Point ∷ Ins ∷ Arrow ∷ Outs ∷ HookWord ∷ []) (hook_is triples before triple.hook p [] r.declared c.called few at_hook.at (number ∷ r.after_call)) in
        let at_ins = turn at_point (now triples triple.hook triple.point []) [] (point_is triples triple.hook p [] r.declared triple.point c.called c.pointed at_point.at r.after_call) in
        let at_arrow = tuple_read (now triples triple.hook triple.point triple.ins) r.declared.inputs triple.ins r.after_call (Plain token.Arrow ∷ r.after_arrow) r.ins at_ins
        (λ symbol rest n at o e. ins_is triples triple.hook triple.point [] r.declared triple.ins n symbol rest at c.called e) in
        let at_outs = turn at_arrow (now triples triple.hook triple.point triple.ins) [] refl in
        outs_read triples triple.hook triple.point triple.ins r.declared triple.outs r.after_arrow left c.called r.outs at_outs

    -- all triples were read
    record Ended (triples : List (Triple D)) : Type 0 where
      last : TableReading D
      is : from ≡ Ok (last, total)
      triples_are : last.triples ≡ triples

    triples_read_on : (more triples : List (Triple D)) (hook : HookId) (p : ℕ) (symbols : List Symbol) → length triples + length more ≤ 32768 →
        TriplesAt Tuple def program more symbols →
        At (HookWord ∷ []) (now triples hook p []) symbols → Ended (triples ++ more)
    triples_read_on [] triples hook p symbols few r g =
        let g = with_symbols d t def program names from total symbols [] r g in
        let s = now triples hook p [] in
        record { last = s; is = g.is ∙ ap (λ (n : ℕ). Ok (s, n)) (omega (arith, g.place)); triples_are = sym (append-nil triples) }
    triples_read_on (triple ∷ more) triples hook p symbols few r g =
        let P : List (Triple D) → Type 0 = λ all. Ended all in
        subst P (append_assoc triples (triple ∷ []) more)
        (triples_read_on more (triples ++ triple ∷ []) triple.hook triple.point r.0 (omega (arith, few, length-append triples (triple ∷ []))) r.2
        (triple_read triples hook p triple symbols r.0 (omega (arith, few)) r.1 g))

    from_start : (b : Start d t def program names) (triples : List (Triple D)) (symbols : List Symbol) → SpellTable Tuple t.word def program triples symbols →
        At (b.word ∷ b.one ∷ b.domain ∷ HookWord ∷ []) (now [] (record { 0 = 0 }) 0 []) symbols → Ended triples
    from_start b triples symbols r g =
        let s = now [] (record { 0 = 0 }) 0 [] in
        let one : Symbol = Plain (token.Number (pos 1)) in
        let at_word = with_symbols d t def program names from total symbols (Named (codes "table") ∷ one ∷ Named t.word ∷ r.body) r.symbols_are g in
        let at_one = turn at_word s [] (b.word_is s at_word.at (Named (codes "table")) (one ∷ Named t.word ∷ r.body)) in
        let at_domain = turn at_one s [] (b.one_is s at_one.at one (Named t.word ∷ r.body)) in
        let at_body = turn at_domain s [] (b.domain_is s at_domain.at (Named t.word) r.body ∙ domain_is s at_domain.at) in
        triples_read_on triples [] (record { 0 = 0 }) 0 r.body (omega (arith, r.few)) r.triples_are at_body

  pub tables_are_read : (triples : List (Triple D)) (symbols : List Symbol) (Tuple : TupleForm D) → Reads d t names (length symbols) Tuple →
      SpellTable Tuple t.word def program triples symbols →
      triples_read (read_symbols d t def program names symbols) ≡ Ok triples
  tables_are_read triples symbols Tuple reads r =
      let b = start d t def program names in
      let from : Answer D = run (table_rules d t) 0 0 (b.word ∷ b.one ∷ b.domain ∷ HookWord ∷ []) (no_triple def program names) symbols in
      let total = length symbols in
      let e = from_start from total Tuple reads b triples symbols r (record { at = 0; is = refl; place = omega arith }) in
      ap triples_read (b.read_is symbols) ∙ ap (λ found. triples_read (ended (table_rules d t) total found)) e.is
      ∙ ap (λ b. triples_read (cond {A = Result (TableReading D) (TableError × ℕ)} b (Ok e.last) (Err (error.Unexpected, total)))) (eq-eqb total total refl)
      ∙ ap (λ ts. Ok ts) e.triples_are
