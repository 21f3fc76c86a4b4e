-- The tuples of a table, value by value.
use Rattle.std.proofs.Common.{◌≡◌, ℕ, ◌+◌, Bool, true, List, [], ◌∷◌, ◌++◌, append_assoc, length, refl, sym, ap, subst, ◌∙◌, arith, length-append, Result, Ok, Err}
use Rattle.std.specs.List.{IsDistinct}
use Rattle.std.specs.Str.{bytes_eq}
use Rattle.sk_base.specs.Answer.{◌>>=◌}
use Rattle.sk_base.specs.declared.flow.FlowSort.{FlowSort}
use Rattle.sk_lex.specs.Symbols.{Symbol, Plain}
use Rattle.sk_lex.specs.declared.token.TokenKind.TheVariants as token
use Rattle.sk_lattice.specs.Domain.{Domain}
use Rattle.sk_lattice.specs.DomainTexts.{DomainTexts}
use Rattle.sk_lattice.specs.declared.value.AbsVal.{AbsVal}
use Rattle.sk_lattice.specs.declared.cell.AbsCell.{AbsCell}
use Rattle.sk_lattice.specs.declared.flow.AbsFlow.{AbsFlow}
use Rattle.sk_table.specs.declared.fault.TableError.{TableError}
use Rattle.sk_table.specs.Tuples.{ReadTuple, read_tuple}
use Rattle.sk_spell.specs.AbsTupleSpelling.{WrittenFlow, Number, Truths, Parts, Cells, NoStore, BeginWithNumber, BeginWithParts, BeginWithCell, BeginWithMore, BeginWithPieces, BeginWithFlow, mark_symbols, SpellsAbsTuple, AbsTuplesAreReadExactly}
use Rattle.sk_spell.specs.TableInFull.{SpelledTuple, TablesAreSpelledInFull}
use Rattle.sk_spell.proofs.TableOnly.{only_tables_are_read}
use Rattle.sk_spell.proofs.TableSpelled.{tables_are_read}
use Rattle.sk_spell.proofs.TableTuples.{Reads, takes_by}

-- symbols end with these
record EndWith (left symbols : List Symbol) : Type 0 where
  own : List Symbol
  is : symbols ≡ own ++ left

itself : (left : List Symbol) → EndWith left left
itself left = record { own = []; is = refl }

one_more : {left symbols : List Symbol} (symbol : Symbol) → EndWith left symbols → EndWith left (symbol ∷ symbols)
one_more symbol e = record { own = symbol ∷ e.own; is = ap (λ ss. symbol ∷ ss) e.is }

so_too : {left symbols other : List Symbol} → other ≡ symbols → EndWith left symbols → EndWith left other
so_too same e = record { own = e.own; is = same ∙ e.is }

further : {left middle symbols : List Symbol} → EndWith middle symbols → EndWith left middle → EndWith left symbols
further {left = left} e f =
    record { own = e.own ++ f.own; is = e.is ∙ ap (λ ss. e.own ++ ss) f.is ∙ sym (append_assoc e.own f.own left) }

more_end : {X : Type 0} (Piece : X → List Symbol → List Symbol → Type 0) →
    ((x : X) (symbols left : List Symbol) → Piece x symbols left → EndWith left symbols) → (xs : List X) (symbols left : List Symbol) →
    BeginWithMore Piece xs symbols left → EndWith left symbols
more_end Piece each [] symbols left b = so_too b (itself left)
more_end Piece each (x ∷ xs) symbols left b = so_too b.2 (one_more (Plain token.Comma) (further (each x b.0 b.1 b.3) (more_end Piece each xs b.1 left b.4)))

pieces_end : {X : Type 0} (Piece : X → List Symbol → List Symbol → Type 0) →
    ((x : X) (symbols left : List Symbol) → Piece x symbols left → EndWith left symbols) → (xs : List X) (symbols left : List Symbol) →
    BeginWithPieces Piece xs symbols left → EndWith left symbols
pieces_end Piece each [] symbols left b = so_too b (itself left)
pieces_end Piece each (x ∷ xs) symbols left b = further (each x symbols b.0 b.1) (more_end Piece each xs b.0 left b.2)

number_ends : {D : Type 0} (t : DomainTexts D) (a : D) (symbols left : List Symbol) → BeginWithNumber t a symbols left → EndWith left symbols
number_ends t a symbols left b = record { own = b.own; is = b.symbols_are }

parts_end : {D : Type 0} (t : DomainTexts D) (a : AbsVal D) (symbols left : List Symbol) → BeginWithParts t a symbols left → EndWith left symbols
parts_end t a symbols left b = further (number_ends t a.num symbols _ b) (one_more _ (one_more _ (itself left)))

mark_ends : (unset : Bool) (left : List Symbol) → EndWith left (mark_symbols unset ++ left)
mark_ends unset left = record { own = mark_symbols unset; is = refl }

cell_ends : {D : Type 0} (t : DomainTexts D) (entry : List ℕ × AbsCell D) (symbols left : List Symbol) → BeginWithCell t entry symbols left → EndWith left symbols
cell_ends t entry symbols left b =
    so_too b.1 (one_more _ (one_more _ (further (parts_end t entry.1.val b.0 _ b.2) (mark_ends entry.1.unset left))))

flow_ends : {D : Type 0} (t : DomainTexts D) (written : WrittenFlow D) (symbols left : List Symbol) → BeginWithFlow t written symbols left → EndWith left symbols
flow_ends t (Number a) symbols left b = number_ends t a symbols left b.1
flow_ends t (Truths a) symbols left b = so_too b (one_more _ (itself left))
flow_ends t (Parts a) symbols left b = parts_end t a symbols left b.1
flow_ends t (Cells entries) symbols left b =
    so_too b.1 (one_more _ (further (pieces_end (BeginWithCell t) (cell_ends t) entries b.0 _ b.2) (one_more _ (itself left))))
flow_ends t NoStore symbols left b = so_too b (one_more _ (itself left))

abbrev rest_of : List Symbol → List Symbol
rest_of [] = []
rest_of (symbol ∷ left) = left

same_rest : (a b c d : List Symbol) → a ++ b ≡ c ++ d → length a ≡ length c → b ≡ d
same_rest [] b [] d e n = e
same_rest [] b (y ∷ c) d e n = absurd (omega (arith, n))
same_rest (x ∷ a) b [] d e n = absurd (omega (arith, n))
same_rest (x ∷ a) b (y ∷ c) d e n = same_rest a b c d (ap rest_of e) (omega (arith, n))

abbrev Found : Type 0 → Type 0
Found D = Result (ReadTuple D × ℕ) (TableError × ℕ)

abbrev told : {D : Type 0} → Found D → Result (List (AbsFlow D) × ℕ) (TableError × ℕ)
told r = r >>= (λ read. Ok (read.0.tuple, read.1))

abbrev flows_in : {D : Type 0} → Result (List (AbsFlow D) × ℕ) (TableError × ℕ) → List (AbsFlow D)
flows_in (Ok taken) = taken.0
flows_in (Err bad) = []

abbrev count_in : {D : Type 0} → Result (List (AbsFlow D) × ℕ) (TableError × ℕ) → ℕ
count_in (Ok taken) = taken.1
count_in (Err bad) = 0

module _ {D : Type 0} (d : Domain D) (t : DomainTexts D) (law : AbsTuplesAreReadExactly d t) (names : List (List ℕ)) (different : IsDistinct bytes_eq names) where
  tuple_ends : (sorts : List FlowSort) (read : ReadTuple D) (symbols left : List Symbol) →
      SpellsAbsTuple d t true sorts names read symbols left → EndWith left symbols
  tuple_ends sorts read symbols left s =
      so_too s.opens (one_more (Plain token.LeftParen)
      (further (pieces_end (BeginWithFlow t) (flow_ends t) s.written s.inside _ s.values) (one_more (Plain token.RightParen) (itself left))))

  record IsFound (sorts : List FlowSort) (tuple : List (AbsFlow D)) (at : ℕ) (symbols : List Symbol) (end : ℕ) : Type 0 where
    read : ReadTuple D
    is : read_tuple d t true sorts names at symbols ≡ Ok (read, end)
    tuple_is : read.tuple ≡ tuple

  found : (sorts : List FlowSort) (tuple : List (AbsFlow D)) (at : ℕ) (symbols : List Symbol) (end : ℕ) (r : Found D) → read_tuple d t true sorts names at symbols ≡ r → told r ≡ Ok (tuple, end) →
      IsFound sorts tuple at symbols end
  found sorts tuple at symbols end (Ok (read, last)) e h = record { read = read; is = e ∙ ap (λ (m : ℕ). Ok (read, m)) (ap count_in h); tuple_is = ap flows_in h }
  found sorts tuple at symbols end (Err bad) e h = absurd (cc h)

  spelled_by : (sorts : List FlowSort) (tuple : List (AbsFlow D)) (symbols text left : List Symbol) (at : ℕ) → symbols ≡ text ++ left → IsFound sorts tuple at symbols (at + length text) →
      SpelledTuple d t names sorts tuple symbols left
  spelled_by sorts tuple symbols text left at e f =
      let b = (law true sorts names at symbols f.read (at + length text) different).0 f.is in
      let own = tuple_ends sorts f.read symbols b.left b.spells in
      let rest : b.left ≡ left = same_rest own.own b.left text left (sym own.is ∙ e) (omega (arith, b.end_is, ap length own.is, length-append own.own b.left)) in
      let P : List Symbol → Type 0 = λ ss. SpellsAbsTuple d t true sorts names f.read symbols ss in
      let Q : List (AbsFlow D) → Type 0 = λ flows. SpellsAbsTuple d t true sorts names (record { tuple = flows; names = f.read.names }) symbols left in
      let R : List (List ℕ) → Type 0 = λ all. SpellsAbsTuple d t true sorts names (record { tuple = tuple; names = all }) symbols left in
      subst R (b.spells.none_is_new refl) (subst Q f.tuple_is (subst P rest b.spells))

  -- reading gives what is spelled so
  by_spelling : (total : ℕ) → Reads d t names total (SpelledTuple d t names)
  by_spelling total = record {
    takes = λ sorts tuple symbols left at p s.
        let own = tuple_ends sorts (record { tuple = tuple; names = names }) symbols left s in
        let is = (law true sorts names at symbols (record { tuple = tuple; names = names }) (at + length own.own) different).1
        (record { left = left; spells = s; end_is = omega (arith, ap length own.is, length-append own.own left) }) in
        takes_by d t names sorts at tuple symbols own.own left own.is (ap told is);
    gives = λ sorts tuple symbols text left at p e k.
        spelled_by sorts tuple symbols text left at e (found sorts tuple at symbols (at + length text) (read_tuple d t true sorts names at symbols) refl k);
  }

pub in_full : {D : Type 0} (d : Domain D) (t : DomainTexts D) → AbsTuplesAreReadExactly d t → TablesAreSpelledInFull d t
in_full d t law def program names triples symbols different = (
  only_tables_are_read d t def program names triples symbols _ (by_spelling d t law names different (length symbols)),
  tables_are_read d t def program names triples symbols _ (by_spelling d t law names different (length symbols)),
)
