-- How abstract tuples are spelled: `(`, the abstract values with `,` between, and `)`.
use Rattle.std.specs.Prelude.{◌≡◌, ◌↔◌, ℕ, ◌+◌, Bool, true, false, List, [], ◌∷◌, ◌++◌, length, map, codes, All, find, Some, Ok}
use Rattle.std.specs.List.{flat_map, IsDistinct}
use Rattle.std.specs.Option.{option_map_or}
use Rattle.std.specs.Str.{bytes_eq}
use Rattle.sk_base.specs.declared.flow.FlowSort.{FlowSort}
use Rattle.sk_base.specs.declared.flow.FlowSort.TheVariants as sort
use Rattle.sk_lex.specs.Symbols.{Symbol, Named, Plain}
use Rattle.sk_lex.specs.declared.token.TokenKind.TheVariants as token
use Rattle.sk_term.specs.Spelling.{with_words}
use Rattle.sk_lattice.specs.Domain.{Domain}
use Rattle.sk_lattice.specs.DomainTexts.{DomainTexts, closes}
use Rattle.sk_lattice.specs.Empty.{store_of, is_proper}
use Rattle.sk_lattice.specs.Padding.{unset_cell}
use Rattle.sk_lattice.specs.Texts.{bool_text}
use Rattle.sk_lattice.specs.declared.truth.AbsBool.{AbsBool}
use Rattle.sk_lattice.specs.declared.value.AbsVal.{AbsVal}
use Rattle.sk_lattice.specs.declared.cell.AbsCell.{AbsCell}
use Rattle.sk_lattice.specs.declared.store.AbsStore.TheVariants as store
use Rattle.sk_lattice.specs.declared.flow.AbsFlow.{AbsFlow}
use Rattle.sk_lattice.specs.declared.flow.AbsFlow.TheVariants as flow
use Rattle.sk_table.specs.Tuples.{ReadTuple, read_tuple}

-- an abstract value as it is written: a number, a set of truth values, both parts of a val, the names that a store lists
-- with their cells, or the word for the empty store
pub data WrittenFlow (D : Type 0) : Type 0 where
  Number : D → WrittenFlow D
  Truths : AbsBool → WrittenFlow D
  Parts : AbsVal D → WrittenFlow D
  Cells : List (List ℕ × AbsCell D) → WrittenFlow D
  NoStore : WrittenFlow D

abbrev pub sort_of : {D : Type 0} → WrittenFlow D → FlowSort
sort_of (Number a) = sort.Int
sort_of (Truths a) = sort.Bool
sort_of (Parts a) = sort.Val
sort_of (Cells entries) = sort.Store
sort_of NoStore = sort.Store

-- the names that a value lists, from left to right
abbrev pub names_listed : {D : Type 0} → WrittenFlow D → List (List ℕ)
names_listed (Cells entries) = map (λ entry. entry.0) entries
names_listed other = []

-- the cell that is written for a name; one that isn't listed is surely unset
abbrev pub cell_of : {D : Type 0} → Domain D → List (List ℕ × AbsCell D) → List ℕ → AbsCell D
cell_of d entries name = option_map_or (λ entry. entry.1) (find (λ entry. bytes_eq entry.0 name) entries) (unset_cell d)

-- the value that is meant, over these names
abbrev pub flow_of : {D : Type 0} → Domain D → List (List ℕ) → WrittenFlow D → AbsFlow D
flow_of d names (Number a) = flow.Int a
flow_of d names (Truths a) = flow.Bool a
flow_of d names (Parts a) = flow.Val a
flow_of d names (Cells entries) = flow.Store (store_of d (map (cell_of d entries) names))
flow_of d names NoStore = flow.Store store.Empty

-- Symbols begin with a number, as the domain reads it there, and the others are left.
pub record BeginWithNumber {D : Type 0} (t : DomainTexts D) (a : D) (symbols left : List Symbol) : Type 0 where
  pub own : List Symbol
  pub symbols_are : symbols ≡ own ++ left
  pub is_read : t.taken symbols ≡ Ok (a, length own)

-- they begin with a number, a `/` and the word of a set of truth values
abbrev pub BeginWithParts : {D : Type 0} → DomainTexts D → AbsVal D → List Symbol → List Symbol → Type 0
BeginWithParts t a symbols left = BeginWithNumber t a.num symbols (Plain token.Slash ∷ Named (bool_text a.truth) ∷ left)

-- the mark of a name that may be unset
abbrev pub mark_symbols : Bool → List Symbol
mark_symbols true = Plain token.Question ∷ []
mark_symbols false = []

-- they begin with a name, a `=`, both parts of its value, and the mark if it may be unset
abbrev pub BeginWithCell : {D : Type 0} → DomainTexts D → List ℕ × AbsCell D → List Symbol → List Symbol → Type 0
BeginWithCell t entry symbols left =
    (parts : List Symbol) × (symbols ≡ Named entry.0 ∷ Plain token.Equals ∷ parts) × BeginWithParts t entry.1.val parts (mark_symbols entry.1.unset ++ left)

-- they begin with pieces, each after a `,`
abbrev pub BeginWithMore : {X : Type 0} → (X → List Symbol → List Symbol → Type 0) → List X → List Symbol → List Symbol → Type 0
BeginWithMore Piece [] symbols left = symbols ≡ left
BeginWithMore Piece (x ∷ xs) symbols left =
    (piece : List Symbol) × (next : List Symbol) × (symbols ≡ Plain token.Comma ∷ piece) × Piece x piece next × BeginWithMore Piece xs next left

-- they begin with pieces, and a `,` stands between two of them
abbrev pub BeginWithPieces : {X : Type 0} → (X → List Symbol → List Symbol → Type 0) → List X → List Symbol → List Symbol → Type 0
BeginWithPieces Piece [] symbols left = symbols ≡ left
BeginWithPieces Piece (x ∷ xs) symbols left = (next : List Symbol) × Piece x symbols next × BeginWithMore Piece xs next left

-- They begin with a value. No value begins with a `)`, which ends a tuple.
abbrev pub BeginWithFlow : {D : Type 0} → DomainTexts D → WrittenFlow D → List Symbol → List Symbol → Type 0
BeginWithFlow t (Number a) symbols left = (closes symbols ≡ false) × BeginWithNumber t a symbols left
BeginWithFlow t (Truths a) symbols left = symbols ≡ Named (bool_text a) ∷ left
BeginWithFlow t (Parts a) symbols left = (closes symbols ≡ false) × BeginWithParts t a symbols left
BeginWithFlow t (Cells entries) symbols left =
    (inside : List Symbol) × (symbols ≡ Plain token.LeftBrace ∷ inside) × BeginWithPieces (BeginWithCell t) entries inside (Plain token.RightBrace ∷ left)
BeginWithFlow t NoStore symbols left = symbols ≡ Named (codes "none") ∷ left

-- Symbols begin with the spelling of a tuple of these sorts, and the others are left. No name stands twice in a store,
-- and no part of the tuple is empty. Its stores are over the names that stood, and then the new ones that it lists, from
-- left to right; over known names none is new.
pub record SpellsAbsTuple {D : Type 0} (d : Domain D) (t : DomainTexts D) (known : Bool) (sorts : List FlowSort) (names : List (List ℕ)) (read : ReadTuple D) (symbols left : List Symbol) : Type 0 where
  pub written : List (WrittenFlow D)
  pub sorted : map sort_of written ≡ sorts
  pub once : All (λ value. IsDistinct bytes_eq (names_listed value)) written
  pub tuple_is : read.tuple ≡ map (flow_of d read.names) written
  pub proper : is_proper d read.tuple ≡ true
  pub names_are : with_words names (flat_map names_listed written) ≡ Some read.names
  pub none_is_new : known ≡ true → read.names ≡ names
  pub inside : List Symbol
  pub opens : symbols ≡ Plain token.LeftParen ∷ inside
  pub values : BeginWithPieces (BeginWithFlow t) written inside (Plain token.RightParen ∷ left)

-- the same, where the symbols begin at one place and those that are left at another
pub record BeginWithAbsTuple {D : Type 0} (d : Domain D) (t : DomainTexts D) (known : Bool) (sorts : List FlowSort) (names : List (List ℕ)) (at : ℕ) (symbols : List Symbol) (read : ReadTuple D) (end : ℕ) : Type 0 where
  pub left : List Symbol
  pub spells : SpellsAbsTuple d t known sorts names read symbols left
  pub end_is : end + length left ≡ at + length symbols

-- An abstract tuple is read from a place exactly where the symbols there begin with its spelling, given that the names
-- are different words.
abbrev pub AbsTuplesAreReadExactly : {D : Type 0} → Domain D → DomainTexts D → Type 0
AbsTuplesAreReadExactly {D} d t =
    (known : Bool) (sorts : List FlowSort) (names : List (List ℕ)) (at : ℕ) (symbols : List Symbol) (read : ReadTuple D) (end : ℕ) → IsDistinct bytes_eq names →
    read_tuple d t known sorts names at symbols ≡ Ok (read, end) ↔ BeginWithAbsTuple d t known sorts names at symbols read end
