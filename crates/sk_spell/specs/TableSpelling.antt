-- How tables are written: triple after triple.
use Rattle.std.specs.Prelude.{◌≡◌, ◌↔◌, ◌≤◌, ℕ, ◌+◌, pos, true, List, [], ◌∷◌, ◌++◌, length, codes, Option, Some, None, Result, Ok}
use Rattle.sk_base.specs.Answer.{◌>>=◌}
use Rattle.sk_base.specs.declared.flow.FlowSort.{FlowSort}
use Rattle.sk_lex.specs.Symbols.{Symbol, Named, Plain, symbols}
use Rattle.sk_lex.specs.declared.token.TokenKind.TheVariants as token
use Rattle.sk_def.specs.declared.def.Def.{Def}
use Rattle.sk_def.specs.declared.def.Hook.{Hook}
use Rattle.sk_term.specs.Program.{Program}
use Rattle.sk_lattice.specs.Domain.{Domain}
use Rattle.sk_lattice.specs.DomainTexts.{DomainTexts}
use Rattle.sk_lattice.specs.declared.flow.AbsFlow.{AbsFlow}
use Rattle.sk_table.specs.declared.fault.TableError.{TableError}
use Rattle.sk_table.specs.declared.triple.Triple.{Triple}
use Rattle.sk_table.specs.Tuples.{read_tuple}
use Rattle.sk_table.specs.Tables.{read_symbols, triples_read}
use Rattle.sk_spell.specs.Calls.{IsPointOf, CallAt}

-- a form of tuples: which symbols begin with which tuple of some sorts, and what is left after it
abbrev pub TupleForm : Type 0 → Type 1
TupleForm D = List FlowSort → List (AbsFlow D) → List Symbol → List Symbol → Type 0

-- symbols begin with outputs of these sorts: the word `none`, or a tuple
abbrev pub OutputsAt : {D : Type 0} → TupleForm D → List FlowSort → Option (List (AbsFlow D)) → List Symbol → List Symbol → Type 0
OutputsAt Tuple sorts None symbols left = symbols ≡ Named (codes "none") ∷ left
OutputsAt Tuple sorts (Some tuple) symbols left = Tuple sorts tuple symbols left

-- They begin with a triple: its call, the tuple of its inputs, the mark `->`, and its outputs. The tuples have the sorts
-- that the hook is declared with.
pub record TripleAt {D : Type 0} (Tuple : TupleForm D) (def : Def) (program : Program) (triple : Triple D) (symbols left : List Symbol) : Type 0 where
  pub declared : Hook
  pub after_call : List Symbol
  pub after_arrow : List Symbol
  pub call : CallAt def (IsPointOf program) triple.hook declared triple.point symbols after_call
  pub ins : Tuple declared.inputs triple.ins after_call (Plain token.Arrow ∷ after_arrow)
  pub outs : OutputsAt Tuple declared.outputs triple.outs after_arrow left

-- these triples stand there one after the other, and nothing is left
abbrev pub TriplesAt : {D : Type 0} → TupleForm D → Def → Program → List (Triple D) → List Symbol → Type 0
TriplesAt Tuple def program [] symbols = symbols ≡ []
TriplesAt Tuple def program (triple ∷ triples) symbols = (left : List Symbol) × TripleAt Tuple def program triple symbols left × TriplesAt Tuple def program triples left

-- The symbols of a table: `table 1`, the word of its domain, and at most 32,768 triples.
pub record SpellTable {D : Type 0} (Tuple : TupleForm D) (word : List ℕ) (def : Def) (program : Program) (triples : List (Triple D)) (symbols : List Symbol) : Type 0 where
  pub few : length triples ≤ 32768
  pub body : List Symbol
  pub symbols_are : symbols ≡ Named (codes "table") ∷ Plain (token.Number (pos 1)) ∷ Named word ∷ body
  pub triples_are : TriplesAt Tuple def program triples body

-- The tuple of these sorts over known names that reading finds at a place, where these symbols stand, and the place after
-- it.
abbrev pub known_tuple : {D : Type 0} → Domain D → DomainTexts D → List (List ℕ) → List FlowSort → ℕ → List Symbol →
    Result (List (AbsFlow D) × ℕ) (TableError × ℕ)
known_tuple d t names sorts at symbols = read_tuple d t true sorts names at symbols >>= λ read. Ok (read.0.tuple, read.1)

-- These are the last of so many symbols, and reading finds such a tuple at the place where they begin, with these symbols
-- left after it.
pub record TupleAt {D : Type 0} (d : Domain D) (t : DomainTexts D) (names : List (List ℕ)) (all : ℕ) (sorts : List FlowSort) (tuple : List (AbsFlow D)) (symbols left : List Symbol) : Type 0 where
  pub at : ℕ
  pub at_is : at + length symbols ≡ all
  pub text : List Symbol
  pub symbols_are : symbols ≡ text ++ left
  pub tuple_is : known_tuple d t names sorts at symbols ≡ Ok (tuple, at + length text)

-- A table is read from symbols exactly where they spell it, whatever the domain, the definition, the program and the names:
-- its tuples are what reading a tuple gives where they stand.
abbrev pub TablesAreReadExactly : {D : Type 0} → Domain D → DomainTexts D → Type 0
TablesAreReadExactly {D} d t =
    (def : Def) (program : Program) (names : List (List ℕ)) (triples : List (Triple D)) (symbols : List Symbol) →
    triples_read (read_symbols d t def program names symbols) ≡ Ok triples ↔ SpellTable (TupleAt d t names (length symbols)) t.word def program triples symbols
