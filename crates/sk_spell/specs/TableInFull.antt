-- Tables are read exactly, with their tuples spelled out.
use Rattle.std.specs.Prelude.{◌≡◌, ◌↔◌, ℕ, true, List, Ok}
use Rattle.std.specs.List.{IsDistinct}
use Rattle.std.specs.Str.{bytes_eq}
use Rattle.sk_lex.specs.Symbols.{Symbol}
use Rattle.sk_def.specs.declared.def.Def.{Def}
use Rattle.sk_term.specs.Program.{Program}
use Rattle.sk_lattice.specs.Domain.{Domain}
use Rattle.sk_lattice.specs.DomainTexts.{DomainTexts}
use Rattle.sk_table.specs.declared.triple.Triple.{Triple}
use Rattle.sk_table.specs.Tables.{read_symbols, triples_read}
use Rattle.sk_spell.specs.AbsTupleSpelling.{SpellsAbsTuple}
use Rattle.sk_spell.specs.TableSpelling.{SpellTable, TupleForm}

-- symbols begin with the spelling of a tuple of these sorts over known names, and these are left after it
abbrev pub SpelledTuple : {D : Type 0} → Domain D → DomainTexts D → List (List ℕ) → TupleForm D
SpelledTuple d t names sorts tuple symbols left = SpellsAbsTuple d t true sorts names (record { tuple = tuple; names = names }) symbols left

-- A table is read from symbols exactly where they spell it, its tuples value by value, given that the names are different
-- words.
abbrev pub TablesAreSpelledInFull : {D : Type 0} → Domain D → DomainTexts D → Type 0
TablesAreSpelledInFull {D} d t =
    (def : Def) (program : Program) (names : List (List ℕ)) (triples : List (Triple D)) (symbols : List Symbol) → IsDistinct bytes_eq names →
    triples_read (read_symbols d t def program names symbols) ≡ Ok triples ↔ SpellTable (SpelledTuple d t names) t.word def program triples symbols
