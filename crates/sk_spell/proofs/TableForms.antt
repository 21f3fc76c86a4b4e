-- How far the reading of a table has come.
use Rattle.std.proofs.Common.{◌≡◌, ℕ, zero, suc, ◌+◌, ◌≤◌, false, List, [], ◌∷◌, ◌++◌, length, refl, sym, ap, subst, ◌∙◌, arith, length-append, Some, Result, Ok, Err}
use Rattle.sk_base.specs.Answer.{◌>>=◌}
use Rattle.sk_lex.specs.Run.{Rules, Turn, run, run_whole}
use Rattle.sk_lex.specs.Symbols.{Symbol, word_of}
use Rattle.sk_def.specs.declared.ids.HookId.{HookId}
use Rattle.sk_def.specs.declared.def.Def.{Def}
use Rattle.sk_term.specs.Program.{Program}
use Rattle.sk_lattice.specs.Domain.{Domain}
use Rattle.sk_lattice.specs.DomainTexts.{DomainTexts}
use Rattle.sk_lattice.specs.declared.flow.AbsFlow.{AbsFlow}
use Rattle.sk_table.specs.declared.fault.TableError.{TableError}
use Rattle.sk_table.specs.declared.triple.Triple.{Triple}
use Rattle.sk_table.specs.Tables.{TableReading, Met, alone, is_table_word, is_one, domain_word, hook_found, step, table_rules, no_triple, read_symbols}
use Rattle.sk_spell.proofs.AbsTupleGrammar.{ExpectedOf}

-- What may stand next in a table.
abbrev pub Expect : {D : Type 0} → Domain D → DomainTexts D → Type 0
Expect d t = ExpectedOf (table_rules d t)

-- the entry of a list that is long enough
abbrev pub IsLonger : {E : Type 0} → List E → ℕ → Type 0
IsLonger [] n = ⊥
IsLonger (e ∷ es) zero = Unit {0}
IsLonger (e ∷ es) (suc n) = IsLonger es n

abbrev pub entry : {E : Type 0} (es : List E) (n : ℕ) → IsLonger es n → E
entry [] n h = absurd h
entry (e ∷ es) zero h = e
entry (e ∷ es) (suc n) h = entry es n h

abbrev expected_in : {D : Type 0} (d : Domain D) (t : DomainTexts D) → Met D → List (Expect d t)
expected_in d t (Ok turn) = turn.expected
expected_in d t (Err bad) = []

-- What stands after the word of a hook: the point, the inputs, the mark `->`, the outputs, and the next hook.
abbrev pub after_hook : {D : Type 0} (d : Domain D) (t : DomainTexts D) → Def → Program → List (Expect d t)
after_hook d t def program = expected_in d t (hook_found (no_triple def program []) 0 (Some (record { 0 = 0 })))

abbrev pub Answer : Type 0 → Type 0
Answer D = Result (TableReading D × ℕ) (TableError × ℕ)

-- symbols that are taken already
pub skipped : {E S C : Type 0} (rules : Rules E S C) (text left : List Symbol) (at : ℕ) (es : List E) (s : S) →
    run rules (length text) at es s (text ++ left) ≡ run rules 0 (at + length text) es s left
skipped rules [] left at es s = ap (λ n. run rules 0 n es s left) (omega arith)
skipped rules (symbol ∷ text) left at es s = skipped rules text left (at + 1) es s ∙ ap (λ n. run rules 0 n es s left) (omega arith)

-- so many symbols, and what follows them
pub record Splits (n : ℕ) (symbols : List Symbol) : Type 0 where
  pub text : List Symbol
  pub left : List Symbol
  pub is : symbols ≡ text ++ left
  pub long : length text ≡ n

pub splits : (n : ℕ) (symbols : List Symbol) → n ≤ length symbols → Splits n symbols
splits zero symbols h = record { text = []; left = symbols; is = refl; long = refl }
splits (suc n) [] h = absurd (omega arith)
splits (suc n) (symbol ∷ symbols) h =
    let p = splits n symbols (omega (arith, h)) in
    record { text = symbol ∷ p.text; left = p.left; is = ap (λ ss. symbol ∷ ss) p.is; long = omega (arith, p.long) }

-- What stands at the start of a table.
pub record Start {D : Type 0} (d : Domain D) (t : DomainTexts D) (def : Def) (program : Program) (names : List (List ℕ)) : Type 0 where
  pub word : Expect d t
  pub one : Expect d t
  pub domain : Expect d t
  pub read_is : (symbols : List Symbol) → read_symbols d t def program names symbols
      ≡ run_whole (table_rules d t) (word ∷ one ∷ domain ∷ entry (after_hook d t def program) 4 tt ∷ []) (no_triple def program names) symbols
  pub word_is : (s : TableReading D) (at : ℕ) (symbol : Symbol) (left : List Symbol) → step d t s word at symbol left ≡ alone s at (is_table_word symbol)
  pub one_is : (s : TableReading D) (at : ℕ) (symbol : Symbol) (left : List Symbol) → step d t s one at symbol left ≡ alone s at (is_one symbol)
  pub domain_is : (s : TableReading D) (at : ℕ) (symbol : Symbol) (left : List Symbol) → step d t s domain at symbol left ≡ domain_word t s at (word_of symbol)
  pub word_goes_on : (table_rules d t).may_end word ≡ false
  pub one_goes_on : (table_rules d t).may_end one ≡ false
  pub domain_goes_on : (table_rules d t).may_end domain ≡ false

pub start : {D : Type 0} (d : Domain D) (t : DomainTexts D) (def : Def) (program : Program) (names : List (List ℕ)) → Start d t def program names
unfolding read_symbols step
start d t def program names = record {
  word = _;
  one = _;
  domain = _;
  read_is = λ symbols. refl;
  word_is = λ s at symbol left. refl;
  one_is = λ s at symbol left. refl;
  domain_is = λ s at symbol left. refl;
  word_goes_on = refl;
  one_goes_on = refl;
  domain_goes_on = refl;
}

module _ {D : Type 0} (d : Domain D) (t : DomainTexts D) (def : Def) (program : Program) (names : List (List ℕ)) (from : Answer D) (total : ℕ) where
  -- what was read so far
  abbrev pub so_far : List (Triple D) → HookId → ℕ → List (AbsFlow D) → TableReading D
  so_far triples hook point ins = record { def = def; program = program; names = names; triples = triples; hook = hook; point = point; ins = ins }

  -- the reading of so many symbols comes to this state, where this is expected and these symbols are left
  pub record Comes (es : List (Expect d t)) (s : TableReading D) (left : List Symbol) : Type 0 where
    pub at : ℕ
    pub is : from ≡ run (table_rules d t) 0 at es s left
    pub place : at + length left ≡ total

  pub with_symbols : {es : List (Expect d t)} {s : TableReading D} (left other : List Symbol) → left ≡ other → Comes es s left → Comes es s other
  with_symbols {es} {s} left other e g = let P : List Symbol → Type 0 = λ now. Comes es s now in subst P e g

  -- after a turn that takes these symbols with the first
  pub came : (es : List (Expect d t)) (s : TableReading D) (at more : ℕ) (rest text left : List Symbol) →
      from ≡ run (table_rules d t) more (at + 1) es s rest → at + suc (length rest) ≡ total →
      rest ≡ text ++ left → length text ≡ more → Comes es s left
  came es s at more rest text left e p r m = record {
    at = at + 1 + length text;
    is = e ∙ ap (λ ss. run (table_rules d t) more (at + 1) es s ss) r ∙ ap (λ n. run (table_rules d t) n (at + 1) es s (text ++ left)) (sym m) ∙ skipped (table_rules d t) text left (at + 1) es s;
    place = omega (arith, p, ap length r, length-append text left);
  }

  pub turned : {one : Expect d t} {below : List (Expect d t)} {s : TableReading D} {symbol : Symbol} {rest : List Symbol}
      (g : Comes (one ∷ below) s (symbol ∷ rest))
      (turn : Turn (Expect d t) (TableReading D)) (text left : List Symbol) → step d t s one g.at symbol rest ≡ Ok turn → rest ≡ text ++ left → length text ≡ turn.more →
      Comes (turn.expected ++ below) turn.state left
  turned {one} {below} {s} {symbol} {rest} g turn text left e r m =
      came (turn.expected ++ below) turn.state g.at turn.more rest text left
      (g.is ∙ ap (λ r. r >>= λ turn. run (table_rules d t) turn.more (g.at + 1) (turn.expected ++ below) turn.state rest) e) g.place r m
