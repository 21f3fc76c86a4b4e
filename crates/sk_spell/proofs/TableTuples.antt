-- The tuples that a table's reader takes.
use Rattle.std.proofs.Common.{◌≡◌, ℕ, zero, suc, ◌+◌, ◌-◌, ◌≤◌, Bool, true, false, cond, List, [], ◌∷◌, ◌++◌, length, refl, sym, ap, ◌∙◌, arith, Result, Ok, Err}
use Rattle.std.specs.Prelude.{IfOk, map, ◌&&◌}
use Rattle.std.specs.List.{list_all, list_any}
use Rattle.sk_base.specs.Answer.{◌>>=◌}
use Rattle.sk_base.specs.declared.flow.FlowSort.{FlowSort}
use Rattle.sk_lex.specs.Run.{Rules, run}
use Rattle.sk_lex.specs.Symbols.{Symbol, is_open}
use Rattle.sk_lattice.specs.Domain.{Domain}
use Rattle.sk_lattice.specs.DomainTexts.{DomainTexts}
use Rattle.sk_lattice.specs.Empty.{flow_is_empty}
use Rattle.sk_lattice.specs.Padding.{padded_flow}
use Rattle.sk_lattice.specs.declared.flow.AbsFlow.{AbsFlow}
use Rattle.sk_table.specs.declared.fault.TableError.{TableError}
use Rattle.sk_table.specs.declared.fault.TableError.TheVariants as error
use Rattle.sk_table.specs.Tuples as spec
use Rattle.sk_table.specs.Tuples.{Reading, ReadTuple, alone, nothing, read_tuple, step, tuple_rules, whole}
use Rattle.sk_table.specs.Tables.{tuple_at}
use Rattle.sk_spell.specs.TableSpelling.{TupleForm, TupleAt, known_tuple}
use Rattle.sk_spell.proofs.AbsTupleGrammar.{ExpectedOf}
use Rattle.sk_spell.proofs.TableForms.{Splits, splits}

-- A reading ends at no place past its symbols, and none before its first.
abbrev Between : {S C : Type 0} → ℕ → ℕ → Result (S × ℕ) C → Type 0
Between first last r = IfOk r (λ read. (first ≤ read.1) × (read.1 ≤ last))

between_turn : {T S C : Type 0} (first last : ℕ) (r : Result T C) (f : T → Result (S × ℕ) C) → ((turn : T) → Between first last (f turn)) →
    Between first last (r >>= f)
between_turn first last (Ok turn) f h = h turn
between_turn first last (Err e) f h = tt

between_end : {S C : Type 0} (first last at : ℕ) (b : Bool) (state : S) (bad : C) → first ≤ at → at ≤ last →
    Between first last (cond b (Ok (state, at)) (Err bad))
between_end first last at true state bad h k = (h, k)
between_end first last at false state bad h k = tt

run_between : {E S C : Type 0} (rules : Rules E S C) (first last skip at : ℕ) (es : List E) (s : S) (symbols : List Symbol) →
    first ≤ at → at + length symbols ≤ last → Between first last (run rules skip at es s symbols)
run_between rules first last (suc skip) at es s [] h k = (h, omega (arith, k))
run_between rules first last (suc skip) at es s (symbol ∷ left) h k = run_between rules first last skip (at + 1) es s left (omega (arith, h)) (omega (arith, k))
run_between rules first last zero at [] s [] h k = (h, omega (arith, k))
run_between rules first last zero at [] s (symbol ∷ left) h k = (h, omega (arith, k))
run_between rules first last zero at (one ∷ es) s [] h k = between_end first last at (list_all rules.may_end (one ∷ es)) s (rules.unexpected, at) h (omega (arith, k))
run_between rules first last zero at (one ∷ es) s (symbol ∷ left) h k =
    between_turn first last (rules.meets one s at symbol left) _
    (λ turn. run_between rules first last turn.more (at + 1) (turn.expected ++ es) turn.state left (omega (arith, h)) (omega (arith, k)))

refused_end : {S C : Type 0} (first last at : ℕ) (b : Bool) (state : S) (bad : C) → b ≡ false → Between first last (cond b (Ok (state, at)) (Err bad))
refused_end first last at true state bad h = absurd (cc h)
refused_end first last at false state bad h = tt

-- one symbol is taken at least, where what is expected may not meet the end
takes_some : {E S C : Type 0} (rules : Rules E S C) (at : ℕ) (one : E) (es : List E) (s : S) (symbols : List Symbol) → rules.may_end one ≡ false →
    Between (at + 1) (at + length symbols) (run rules 0 at (one ∷ es) s symbols)
takes_some rules at one es s [] n = refused_end (at + 1) (at + 0) at (list_all rules.may_end (one ∷ es)) s (rules.unexpected, at) (ap (λ b. b && list_all rules.may_end es) n)
takes_some rules at one es s (symbol ∷ left) n =
    between_turn (at + 1) (at + suc (length left)) (rules.meets one s at symbol left) _
    (λ turn. run_between rules (at + 1) (at + suc (length left)) turn.more (at + 1) (turn.expected ++ es) turn.state left (omega arith) (omega arith))

abbrev Found : Type 0 → Type 0
Found D = Result (ReadTuple D × ℕ) (TableError × ℕ)

abbrev Flows : Type 0 → Type 0
Flows D = Result (List (AbsFlow D) × ℕ) (TableError × ℕ)

-- what is told of a tuple that was read
abbrev told : {D : Type 0} → Found D → Flows D
told r = r >>= (λ read. Ok (read.0.tuple, read.1))

abbrev counted : {D : Type 0} → ℕ → Found D → Flows D
counted at r = r >>= (λ read. Ok (read.0.tuple, read.1 - (at + 1)))

abbrev flows_in : {D : Type 0} → Flows D → List (AbsFlow D)
flows_in (Ok taken) = taken.0
flows_in (Err bad) = []

abbrev count_in : {D : Type 0} → Flows D → ℕ
count_in (Ok taken) = taken.1
count_in (Err bad) = 0

between_told : {D : Type 0} (first last : ℕ) (r : Found D) (tuple : List (AbsFlow D)) (end : ℕ) → Between first last r → told r ≡ Ok (tuple, end) →
    (first ≤ end) × (end ≤ last)
between_told first last (Ok read) tuple end h e =
    let same : read.1 ≡ end = ap count_in e in
    (omega (arith, h.0, same), omega (arith, h.1, same))
between_told first last (Err a) tuple end h e = absurd (cc e)

counted_so : {D : Type 0} (at : ℕ) (r : Found D) (tuple : List (AbsFlow D)) (end : ℕ) → told r ≡ Ok (tuple, end) → counted at r ≡ Ok (tuple, end - (at + 1))
counted_so {D = D} at (Ok read) tuple end e = ap (λ (f : Flows D). f >>= (λ taken. Ok (taken.0, taken.1 - (at + 1)))) e
counted_so at (Err a) tuple end e = absurd (cc e)

told_so : {D : Type 0} (at last : ℕ) (r : Found D) (tuple : List (AbsFlow D)) (more : ℕ) → Between (at + 1) last r → counted at r ≡ Ok (tuple, more) →
    told r ≡ Ok (tuple, at + suc more)
told_so at last (Ok read) tuple more b e =
    let flows : read.0.tuple ≡ tuple = ap flows_in e in
    let many : read.1 - (at + 1) ≡ more = ap count_in e in
    let end : read.1 ≡ at + suc more = omega (arith, b.0, many) in
    ap (λ (flows : List (AbsFlow _)). Ok (flows, read.1)) flows ∙ ap (λ (m : ℕ). Ok (tuple, m)) end
told_so at last (Err a) tuple more b e = absurd (cc e)

module _ {D : Type 0} (d : Domain D) (t : DomainTexts D) (names : List (List ℕ)) (sorts : List FlowSort) where
  abbrev kept : ℕ → Reading D → Result (List (AbsFlow D)) (TableError × ℕ) → Found D
  kept end state r = r >>= (λ tuple. Ok (record { tuple = tuple; names = state.names }, end))

  abbrev all_of : ℕ → Result (Reading D × ℕ) (TableError × ℕ) → Found D
  all_of at r = r >>= (λ read. kept read.1 read.0 (whole d (length read.0.names) at read.0.flows))

  all_between : (first last at : ℕ) (r : Result (Reading D × ℕ) (TableError × ℕ)) → Between first last r → Between first last (all_of at r)
  all_between first last at (Ok (state, end)) h = by_empty (list_any (flow_is_empty d) state.flows) where
    by_empty : (b : Bool) → Between first last (kept end state (cond b (Err (error.Empty, at)) (Ok (map (padded_flow d (length state.names)) state.flows))))
    by_empty true = tt
    by_empty false = h
  all_between first last at (Err e) h = tt

  tuple_between : (at : ℕ) (symbols : List Symbol) → Between (at + 1) (at + length symbols) (read_tuple d t true sorts names at symbols)
  unfolding read_tuple spec.read_symbols
  tuple_between at symbols = all_between (at + 1) (at + length symbols) at _ (takes_some (tuple_rules d t) at _ _ (nothing d true sorts names) symbols refl)

  -- a tuple begins with `(`
  opens : (at : ℕ) (symbol : Symbol) (left : List Symbol) (es : List (ExpectedOf (tuple_rules d t))) (b : Bool) → is_open symbol ≡ b →
      IfOk (all_of at (alone (nothing d true sorts names) at b >>= λ turn. run (tuple_rules d t) turn.more (at + 1) (turn.expected ++ es) turn.state left)) (λ read. is_open symbol ≡ true)
  opens at symbol left es true e = by_ok (all_of at (run (tuple_rules d t) 0 (at + 1) es (nothing d true sorts names) left)) where
    by_ok : (r : Found D) → IfOk r (λ read. is_open symbol ≡ true)
    by_ok (Ok read) = e
    by_ok (Err bad) = tt
  opens at symbol left es false e = tt

  tuple_opens : (at : ℕ) (symbol : Symbol) (left : List Symbol) → IfOk (read_tuple d t true sorts names at (symbol ∷ left)) (λ read. is_open symbol ≡ true)
  unfolding read_tuple spec.read_symbols step
  tuple_opens at symbol left = opens at symbol left _ (is_open symbol) refl

  opened : (symbol : Symbol) (r : Found D) (tuple : List (AbsFlow D)) (end : ℕ) → IfOk r (λ read. is_open symbol ≡ true) → told r ≡ Ok (tuple, end) →
      is_open symbol ≡ true
  opened symbol (Ok read) tuple end h e = h
  opened symbol (Err bad) tuple end h e = absurd (cc e)

  -- the reader takes a tuple that stands at a place
  pub record Takes (at : ℕ) (tuple : List (AbsFlow D)) (symbols left : List Symbol) : Type 0 where
    pub first : Symbol
    pub text : List Symbol
    pub is : symbols ≡ first ∷ (text ++ left)
    pub opening : is_open first ≡ true
    pub taken : tuple_at d t sorts names at (first ∷ (text ++ left)) ≡ Ok (tuple, length text)

  pub takes_by : (at : ℕ) (tuple : List (AbsFlow D)) (symbols text left : List Symbol) → symbols ≡ text ++ left →
      known_tuple d t names sorts at symbols ≡ Ok (tuple, at + length text) → Takes at tuple symbols left
  unfolding tuple_at
  takes_by at tuple symbols [] left e k =
      absurd (omega (arith, (between_told (at + 1) (at + length symbols) (read_tuple d t true sorts names at symbols) tuple (at + 0) (tuple_between at symbols) k).0))
  takes_by at tuple symbols (first ∷ text) left e k =
      let here : told (read_tuple d t true sorts names at (first ∷ (text ++ left))) ≡ Ok (tuple, at + suc (length text)) = ap (known_tuple d t names sorts at) (sym e) ∙ k in
      record {
        first = first;
        text = text;
        is = e;
        opening = opened first (read_tuple d t true sorts names at (first ∷ (text ++ left))) tuple (at + suc (length text)) (tuple_opens at first (text ++ left)) here;
        taken = counted_so at (read_tuple d t true sorts names at (first ∷ (text ++ left))) tuple (at + suc (length text)) here ∙ ap (λ (n : ℕ). Ok (tuple, n)) (omega arith);
      }

  -- what it takes was read
  pub record WasRead (at more : ℕ) (tuple : List (AbsFlow D)) (rest : List Symbol) (symbols : List Symbol) : Type 0 where
    pub split : Splits more rest
    pub is : known_tuple d t names sorts at symbols ≡ Ok (tuple, at + suc more)

  pub was_read : (at more : ℕ) (tuple : List (AbsFlow D)) (first : Symbol) (rest : List Symbol) →
      tuple_at d t sorts names at (first ∷ rest) ≡ Ok (tuple, more) → WasRead at more tuple rest (first ∷ rest)
  unfolding tuple_at
  was_read at more tuple first rest e =
      let b = tuple_between at (first ∷ rest) in
      let is = told_so at (at + suc (length rest)) (read_tuple d t true sorts names at (first ∷ rest)) tuple more b e in
      let within = (between_told (at + 1) (at + suc (length rest)) (read_tuple d t true sorts names at (first ∷ rest)) tuple (at + suc more) b is).1 in
      record { split = splits more rest (omega (arith, within)); is = is }

-- A form of tuples says what the reader takes from so many symbols.
pub record Reads {D : Type 0} (d : Domain D) (t : DomainTexts D) (names : List (List ℕ)) (total : ℕ) (Tuple : TupleForm D) : Type 0 where
  pub takes : (sorts : List FlowSort) (tuple : List (AbsFlow D)) (symbols left : List Symbol) (at : ℕ) → at + length symbols ≡ total →
      Tuple sorts tuple symbols left → Takes d t names sorts at tuple symbols left
  pub gives : (sorts : List FlowSort) (tuple : List (AbsFlow D)) (symbols text left : List Symbol) (at : ℕ) → at + length symbols ≡ total →
      symbols ≡ text ++ left →
      known_tuple d t names sorts at symbols ≡ Ok (tuple, at + length text) → Tuple sorts tuple symbols left

-- such a form is what reading gives itself
pub by_reading : {D : Type 0} (d : Domain D) (t : DomainTexts D) (names : List (List ℕ)) (total : ℕ) → Reads d t names total (TupleAt d t names total)
by_reading d t names total = record {
  takes = λ sorts tuple symbols left at p a.
      let same : a.at ≡ at = omega (arith, p, a.at_is) in
      takes_by d t names sorts at tuple symbols a.text left a.symbols_are (ap (λ n. known_tuple d t names sorts n symbols) (sym same) ∙ a.tuple_is ∙ ap (λ (n : ℕ). Ok (tuple, n + length a.text)) same);
  gives = λ sorts tuple symbols text left at p e k. record { at = at; at_is = p; text = text; symbols_are = e; tuple_is = k };
}
