-- The text of a table is read as this table.
use Rattle.std.proofs.Common.{◌≡◌, ℕ, ◌+◌, ◌<◌, ◌≤◌, nat_lt, true, false, cond, ◌==◌, List, [], ◌∷◌, ◌++◌, length, map, take, refl, sym, ap, subst, ◌∙◌, arith, append_assoc, append-nil, length-append, Option, Some, None, Result, Ok, Err, pos}
use Rattle.std.specs.Prelude.{All, IfSome, codes, get_or, slice_get, unwrap_or, option_map, flat_map}
use Rattle.std.specs.Option.{option_map_or}
use Rattle.std.proofs.lemmas.Bool.{and_parts, lt-ltb, ltb-true}
use Rattle.std.proofs.lemmas.Bool.Decides.{nat_tests}
use Rattle.std.proofs.lemmas.Cmp.{nat_list_eq_equiv}
use Rattle.std.proofs.lemmas.List.{length-map, take_all}
use Rattle.std.proofs.lemmas.List.Elements.{All-head, All-tail}
use Rattle.std.proofs.lemmas.Option.{slice_get_within}
use Rattle.sk_base.specs.Answer.{◌>>=◌}
use Rattle.sk_base.specs.Names.{place_of_name}
use Rattle.sk_def.specs.Named.{hook_name, hook_named}
use Rattle.sk_def.specs.declared.ids.HookId.{HookId}
use Rattle.sk_def.specs.declared.ids.SortId.{SortId}
use Rattle.sk_def.specs.declared.def.Def.{Def}
use Rattle.sk_def.specs.declared.def.Hook.{Hook}
use Rattle.sk_deftext.specs.Canonical.{name_at}
use Rattle.sk_deftext.specs.Written.{IsWord, AreNames}
use Rattle.sk_deftext.proofs.Found.{hook_place}
use Rattle.sk_deftext.proofs.Said.{hook_word_is, name_at_word}
use Rattle.sk_deftext.proofs.Spelled.{text_tokens, text_symbols, written_spells}
use Rattle.sk_lex.specs.Run.{run, ended}
use Rattle.sk_lex.specs.Symbols.{Symbol, Named, Plain, symbols}
use Rattle.sk_lex.specs.declared.token.TokenKind.TheVariants.{Number, LeftParen, RightParen, Arrow as Points}
use Rattle.sk_term.specs.Program.{Program}
use Rattle.sk_lattice.specs.Domain.{Domain}
use Rattle.sk_lattice.specs.DomainTexts.{DomainTexts, TextLaws, is_domain_word}
use Rattle.sk_lattice.specs.Empty.{is_proper}
use Rattle.sk_lattice.specs.Shapes.{has_sorts}
use Rattle.sk_lattice.specs.declared.flow.AbsFlow.{AbsFlow}
use Rattle.sk_table.specs.declared.expected.TableExpected.{TableExpected}
use Rattle.sk_table.specs.declared.expected.TableExpected.TheVariants.{TableWord, One, DomainWord, HookWord, Point, Ins, Arrow, Outs}
use Rattle.sk_table.specs.declared.fault.TableError.{TableError}
use Rattle.sk_table.specs.declared.fault.TableError.TheVariants as error
use Rattle.sk_table.specs.declared.triple.Triple.{Triple}
use Rattle.sk_table.specs.Fits.{TripleFits}
use Rattle.sk_table.specs.Meets.{with_place}
use Rattle.sk_table.specs.Tables.{TableReading, met, refused, domain_word, hook_found, hook_word as found_hook, hook_of, has_sort_at, point_found, point, tuple_at, with_tuple, with_ins, ins, with_triple, outs, step, table_rules, no_triple, read_symbols, lexed, triples_read, read_table}
use Rattle.sk_table.specs.Texts.{first_line, triples_text, table_text}
use Rattle.sk_table.specs.Written.{IsProper, HasText}
use Rattle.sk_table.proofs.Said.{inside, flow_symbols, tuple_symbols, outs_symbols, triple_symbols, table_symbols, table_writes}
use Rattle.sk_table.proofs.TupleReturned.{tuple_returns}
use Rattle.sk_table.proofs.Turns.{Gets, turn, long_turn, left_is}

-- Steps.

module _ {D : Type 0} (d : Domain D) (t : DomainTexts D) where
  table_step : (s : TableReading D) (at : ℕ) (left : List Symbol) → step d t s TableWord at (Named (codes "table")) left ≡ met s []
  unfolding step
  table_step s at left = refl

  one_step : (s : TableReading D) (at : ℕ) (left : List Symbol) → step d t s One at (Plain (Number (pos 1))) left ≡ met s []
  unfolding step
  one_step s at left = refl

  domain_step : (s : TableReading D) (at : ℕ) (left : List Symbol) → step d t s DomainWord at (Named t.word) left ≡ met s []
  unfolding step domain_word
  domain_step s at left =
      ap (λ b. cond b (met s []) (cond (is_domain_word t.word) (refused error.WrongDomain at) (refused error.Unexpected at))) (nat_list_eq_equiv.refl t.word)

  hook_step : (s : TableReading D) (word : List ℕ) (hook : HookId) (at : ℕ) (left : List Symbol) → length s.triples < 32768 → hook_named s.def word ≡ Some hook →
      step d t s HookWord at (Named word) left ≡ met (record s { hook = hook }) (Point ∷ Ins ∷ Arrow ∷ Outs ∷ HookWord ∷ [])
  unfolding step found_hook
  hook_step s word hook at left few e =
      ap (λ b. cond b (hook_found s at (hook_named s.def word)) (refused error.TooMany at)) (lt-ltb (length s.triples) 32768 few) ∙ ap (hook_found s at) e

  point_step : (s : TableReading D) (hook : Hook) (number at : ℕ) (left : List Symbol) → hook_of s ≡ Some hook → has_sort_at s.program hook.sort number ≡ true →
      step d t s Point at (Plain (Number (pos number))) left ≡ met (record s { point = number }) []
  unfolding step point
  point_step s hook number at left e h =
      ap (λ found. point s found at (Plain (Number (pos number)))) e ∙ ap (λ b. point_found s at (cond b (Some number) None)) h

  ins_step : (s : TableReading D) (hook : Hook) (tuple : List (AbsFlow D)) (at more : ℕ) (symbol : Symbol) (left : List Symbol) → hook_of s ≡ Some hook → tuple_at d t hook.inputs s.names at (symbol ∷ left) ≡ Ok (tuple, more) →
      step d t s Ins at symbol left ≡ Ok (record { expected = []; state = with_ins s tuple; more = more })
  unfolding step ins
  ins_step s hook tuple at more symbol left e r = ap (λ found. ins d t s found at (symbol ∷ left)) e ∙ ap (with_tuple (with_ins s)) r

  arrow_step : (s : TableReading D) (at : ℕ) (left : List Symbol) → step d t s Arrow at (Plain Points) left ≡ met s []
  unfolding step
  arrow_step s at left = refl

  none_step : (s : TableReading D) (hook : Hook) (at : ℕ) (left : List Symbol) → hook_of s ≡ Some hook → step d t s Outs at (Named (codes "none")) left ≡ met (with_triple s None) []
  unfolding step outs
  none_step s hook at left e = ap (λ found. outs d t s found at (Named (codes "none")) left) e

  outs_step : (s : TableReading D) (hook : Hook) (tuple : List (AbsFlow D)) (at more : ℕ) (left : List Symbol) → hook_of s ≡ Some hook → tuple_at d t hook.outputs s.names at (Plain LeftParen ∷ left) ≡ Ok (tuple, more) →
      step d t s Outs at (Plain LeftParen) left ≡ Ok (record { expected = []; state = with_triple s (Some tuple); more = more })
  unfolding step outs
  outs_step s hook tuple at more left e r =
      ap (λ found. outs d t s found at (Plain LeftParen) left) e ∙ ap (with_tuple (λ tuple. with_triple s (Some tuple))) r

-- Hooks.

hook_within : (def : Def) (id : HookId) (hook : Hook) → slice_get def.hooks id.0 ≡ Some hook → id.0 < length (map (λ (hook : Hook). hook.name) def.hooks)
hook_within def id hook e = omega (arith, slice_get_within def.hooks id.0 hook e, length-map def.hooks (λ (hook : Hook). hook.name))

name_is : (def : Def) (id : HookId) (hook : Hook) → slice_get def.hooks id.0 ≡ Some hook → hook_name def id ≡ name_at (map (λ (hook : Hook). hook.name) def.hooks) id.0
name_is def id hook e =
    ap (λ found. option_map_or (λ (h : Hook). h.name) found []) e ∙ sym (ap (λ found. unwrap_or (option_map (λ (h : Hook). h.name) found) []) e) ∙ hook_word_is def.hooks id

hook_is_word : (def : Def) (id : HookId) (hook : Hook) → AreNames (map (λ (hook : Hook). hook.name) def.hooks) → slice_get def.hooks id.0 ≡ Some hook → IsWord (hook_name def id)
hook_is_word def id hook h e =
    let P : List ℕ → Type 0 = IsWord in
    subst P (sym (name_is def id hook e)) (name_at_word (map (λ (hook : Hook). hook.name) def.hooks) id.0 h.each (hook_within def id hook e)).word

hook_is_found : (def : Def) (id : HookId) (hook : Hook) → AreNames (map (λ (hook : Hook). hook.name) def.hooks) → slice_get def.hooks id.0 ≡ Some hook → hook_named def (hook_name def id) ≡ Some id
hook_is_found def id hook h e =
    let names = map (λ (hook : Hook). hook.name) def.hooks in
    ap (λ found. option_map (λ place. record { 0 = place }) found)
    (hook_place def.hooks (hook_name def id) ∙ ap (place_of_name names) (name_is def id hook e) ∙ h.found id.0 (hook_within def id hook e))

module _ {D : Type 0} (d : Domain D) (t : DomainTexts D) (laws : TextLaws d t) (only : (a : D) → d.is_empty a ≡ true → a ≡ d.empty) (def : Def) (program : Program) (names : List (List ℕ)) (table : List (Triple D)) (h : HasText d def program names table) where
  -- what was read so far
  abbrev there : List (Triple D) → HookId → ℕ → List (AbsFlow D) → TableReading D
  there triples hook number tuple = record { def = def; program = program; names = names; triples = triples; hook = hook; point = number; ins = tuple }

  abbrev Answer : Type 0
  Answer = Result (TableReading D × ℕ) (TableError × ℕ)

  module _ (from : Answer) (total : ℕ) where
    abbrev Comes : List TableExpected → TableReading D → List Symbol → Type 0
    Comes = Gets (table_rules d t) from total

    outs_get : (triples : List (Triple D)) (id : HookId) (number : ℕ) (tuple : List (AbsFlow D)) (result : Option (List (AbsFlow D))) (hook : Hook) {left : List Symbol} → slice_get def.hooks id.0 ≡ Some hook →
        IfSome result (λ found. has_sorts (length names) hook.outputs found ≡ true) → IfSome result (λ found. is_proper d found ≡ true) →
        Comes (Outs ∷ HookWord ∷ []) (there triples id number tuple) (outs_symbols t d names result ++ left) →
        Comes (HookWord ∷ []) (there (triples ++ record { hook = id; point = number; ins = tuple; outs = result } ∷ []) id number []) left
    outs_get triples id number tuple None hook {left = left} e sorted proper g =
        let s = there triples id number tuple in
        turn g (with_triple s None) [] (none_step d t s hook g.at left e)
    outs_get triples id number tuple (Some found) hook {left = left} e sorted proper g =
        let s = there triples id number tuple in
        long_turn (inside RightParen (flow_symbols t d names) found) g (with_triple s (Some found)) []
        (outs_step d t s hook found g.at (length (inside RightParen (flow_symbols t d names) found)) _ e (tuple_returns d t laws only laws.begins names h.words.different hook.outputs found g.at left sorted proper))

    triple_get : (triples : List (Triple D)) (id : HookId) (number : ℕ) (triple : Triple D) {left : List Symbol} → length triples < 32768 → TripleFits def program (length names) triple → IsProper d triple →
        Comes (HookWord ∷ []) (there triples id number []) (triple_symbols t d names def triple ++ left) → Comes (HookWord ∷ []) (there (triples ++ triple ∷ []) triple.hook triple.point []) left
    triple_get triples id number triple {left = left} few fits proper g =
        let s = there triples id number [] in
        let hooked_state = there triples triple.hook number [] in
        let pointed_state = there triples triple.hook triple.point [] in
        let filled = there triples triple.hook triple.point triple.ins in
        let after = Plain Points ∷ (outs_symbols t d names triple.outs ++ left) in
        let hooked = turn g hooked_state (Point ∷ Ins ∷ Arrow ∷ Outs ∷ HookWord ∷ []) (hook_step d t s (hook_name def triple.hook) triple.hook g.at _ few (hook_is_found def triple.hook fits.hook h.hooks fits.hook_is)) in
        let placed = turn hooked pointed_state [] (point_step d t hooked_state fits.hook triple.point hooked.at _ fits.hook_is fits.point_fits) in
        let grouped = left_is placed (append_assoc (tuple_symbols t d names triple.ins) (Plain Points ∷ outs_symbols t d names triple.outs) left) in
        let taken = long_turn (inside RightParen (flow_symbols t d names) triple.ins) grouped filled []
        (ins_step d t pointed_state fits.hook triple.ins grouped.at (length (inside RightParen (flow_symbols t d names) triple.ins)) (Plain LeftParen) _ fits.hook_is
        (tuple_returns d t laws only laws.begins names h.words.different fits.hook.inputs triple.ins grouped.at after fits.ins_fit proper.ins)) in
        let arrowed = turn taken filled [] (arrow_step d t filled taken.at _) in
        outs_get triples triple.hook triple.point triple.ins triple.outs fits.hook fits.hook_is fits.outs_fit proper.outs arrowed

    -- all triples were read
    record AllRead (triples : List (Triple D)) (left : List Symbol) : Type 0 where
      pub id : HookId
      pub number : ℕ
      pub gets : Comes (HookWord ∷ []) (there triples id number []) left

    triples_get : (done todo : List (Triple D)) (id : HookId) (number : ℕ) {left : List Symbol} → length done + length todo ≤ 32768 → All (TripleFits def program (length names)) todo → All (IsProper d) todo →
        Comes (HookWord ∷ []) (there done id number []) (flat_map (triple_symbols t d names def) todo ++ left) → AllRead (done ++ todo) left
    triples_get done [] id number {left = left} few fits proper g =
        let P : List (Triple D) → Type 0 = λ triples. AllRead triples left in
        subst P (sym (append-nil done)) (record { id = id; number = number; gets = g })
    triples_get done (triple ∷ todo) id number {left = left} few fits proper g =
        let P : List (Triple D) → Type 0 = λ triples. AllRead triples left in
        let grouped = left_is g (append_assoc (triple_symbols t d names def triple) (flat_map (triple_symbols t d names def) todo) left) in
        let one = triple_get done id number triple (omega (arith, few)) (All-head (TripleFits def program (length names)) triple todo fits) (All-head (IsProper d) triple todo proper) grouped in
        subst P (append_assoc done (triple ∷ []) todo)
        (triples_get (done ++ triple ∷ []) todo triple.hook triple.point (omega (arith, few, length-append done (triple ∷ [])))
        (All-tail (TripleFits def program (length names)) triple todo fits) (All-tail (IsProper d) triple todo proper) one)

  -- what was read of these symbols
  record ReadsAs (ss : List Symbol) : Type 0 where
    pub id : HookId
    pub number : ℕ
    pub is : read_symbols d t def program names ss ≡ Ok (there table id number [])

  all_taken : (at : ℕ) (state : TableReading D) (total : ℕ) → at + 0 ≡ total → ended (table_rules d t) total (Ok (state, at)) ≡ Ok state
  all_taken at state total e =
      let same : (at == total) ≡ true = grind (arith, nat_tests) in
      ap (λ b. cond b (Ok state) (Err (error.Unexpected, at))) same

  ends_with : (from : Answer) (total : ℕ) (all : AllRead from total table []) → ended (table_rules d t) total from ≡ Ok (there table all.id all.number [])
  ends_with from total all =
      ap (ended (table_rules d t) total) all.gets.is ∙ all_taken all.gets.at (there table all.id all.number []) total all.gets.place

  symbols_return : ReadsAs (table_symbols t d names def table)
  unfolding read_symbols
  symbols_return =
      let ss = table_symbols t d names def table in
      let begun = no_triple def program names in
      let from : Answer = run (table_rules d t) 0 0 (TableWord ∷ One ∷ DomainWord ∷ HookWord ∷ []) begun ss in
      let start : Gets (table_rules d t) from (length ss) (TableWord ∷ One ∷ DomainWord ∷ HookWord ∷ []) begun ss = record { at = 0; is = refl; place = omega arith } in
      let named = turn start begun [] (table_step d t begun 0 _) in
      let versioned = turn named begun [] (one_step d t begun named.at _) in
      let known = turn versioned begun [] (domain_step d t begun versioned.at _) in
      let whole = left_is known (sym (append-nil (flat_map (triple_symbols t d names def) table))) in
      let all = triples_get from (length ss) [] table (record { 0 = 0 }) 0 (omega (arith, h.table.few)) h.table.fit h.table.proper whole in
      record { id = all.id; number = all.number; is = ends_with from (length ss) all }

  small_point : (k : ℕ) (x : Triple D) → k < length table → (get_or table k x).point < 65536
  small_point k x within =
      let fits = h.table.fit k x within in
      let number = (get_or table k x).point in
      let below = and_parts (nat_lt number (length program.nodes)) (option_map_or (λ (sort : SortId). sort.0 == fits.hook.sort.0) (slice_get program.sorts number) false) fits.point_fits in
      omega (arith, ltb-true number (length program.nodes) below.0, h.few_points)

  table_returns : read_table d t def program names (table_text d t def names table) ≡ Ok table
  unfolding read_table
  table_returns =
      let text = table_text d t def names table in
      let ss = table_symbols t d names def table in
      let spelled = written_spells text ss (table_writes d t laws names h.words.each def table
      (λ k x within. (hook_is_word def (get_or table k x).hook (h.table.fit k x within).hook h.hooks (h.table.fit k x within).hook_is, small_point k x within))) in
      let found = text_tokens text ss spelled in
      let same : symbols text found.tokens ≡ ss = text_symbols text ss found.tokens spelled found.are in
      let read = ap (read_symbols d t def program names) same ∙ symbols_return.is in
      ap (λ r. lexed text r >>= λ tokens. with_place text tokens (triples_read (read_symbols d t def program names (symbols text tokens)))) found.are
      ∙ ap (λ r. with_place text found.tokens (triples_read r)) read

  -- the same where the text was put together of these lines
  pub printed_returns : (text : List ℕ) (items : List (Triple D)) (n : ℕ) → text ≡ first_line t ++ triples_text d t def names (take n items) → length items ≤ n → items ≡ table → read_table d t def program names text ≡ Ok table
  printed_returns text items n e all same =
      let P : List ℕ → Type 0 = λ text. read_table d t def program names text ≡ Ok table in
      subst P (sym (e ∙ ap (λ triples. first_line t ++ triples_text d t def names triples) (take_all n items all ∙ same))) table_returns
