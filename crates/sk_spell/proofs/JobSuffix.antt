-- What is left after the spelling of an abstract tuple is the end of the symbols.
use Rattle.std.proofs.Common.{◌≡◌, ℕ, Bool, List, [], ◌∷◌, ◌++◌, drop, length, refl, sym, ap, ◌∙◌, arith, append_assoc, length-append}
use Rattle.std.specs.Prelude.{codes}
use Rattle.std.proofs.Math.Seq.{drop-append_seam}
use Rattle.sk_base.specs.declared.flow.FlowSort.{FlowSort}
use Rattle.sk_lex.specs.Symbols.{Symbol, Named, Plain}
use Rattle.sk_lex.specs.declared.token.TokenKind.TheVariants as token
use Rattle.sk_lattice.specs.Domain.{Domain}
use Rattle.sk_lattice.specs.DomainTexts.{DomainTexts}
use Rattle.sk_lattice.specs.Texts.{bool_text}
use Rattle.sk_lattice.specs.declared.value.AbsVal.{AbsVal}
use Rattle.sk_lattice.specs.declared.cell.AbsCell.{AbsCell}
use Rattle.sk_table.specs.Tuples.{ReadTuple}
use Rattle.sk_spell.specs.AbsTupleSpelling.{BeginWithCell, BeginWithFlow, BeginWithMore, BeginWithNumber, BeginWithParts, BeginWithPieces, Cells, NoStore, Number, Parts, SpellsAbsTuple, Truths, WrittenFlow, mark_symbols}

-- symbols end with those that are left
abbrev pub EndsWith : List Symbol → List Symbol → Type 0
EndsWith symbols left = (own : List Symbol) × (symbols ≡ own ++ left)

-- two such ends of one length are the same
pub same_left : (own other a b : List Symbol) → own ++ a ≡ other ++ b → length a ≡ length b → a ≡ b
same_left own other a b e l =
    let long : length own ≡ length other = omega (arith, ap length e, length-append own a, length-append other b, l) in
    sym (drop-append_seam own a) ∙ ap (drop (length own)) e ∙ ap (λ n. drop n (other ++ b)) long ∙ drop-append_seam other b

further_on : {a b c : List Symbol} → EndsWith a b → EndsWith b c → EndsWith a c
further_on {c = c} x y = (x.0 ++ y.0, x.1 ∙ ap (λ s. x.0 ++ s) y.1 ∙ sym (append_assoc x.0 y.0 c))

after : {a b c : List Symbol} (one : Symbol) → a ≡ one ∷ b → EndsWith b c → EndsWith a c
after one e x = (one ∷ x.0, e ∙ ap (λ s. one ∷ s) x.1)

module _ {X : Type 0} (Piece : X → List Symbol → List Symbol → Type 0) (ends : (x : X) (symbols left : List Symbol) → Piece x symbols left → EndsWith symbols left) where
  more_end : (xs : List X) (symbols left : List Symbol) → BeginWithMore Piece xs symbols left → EndsWith symbols left
  more_end [] symbols left b = ([], b)
  more_end (x ∷ xs) symbols left b = after (Plain token.Comma) b.2 (further_on (ends x b.0 b.1 b.3) (more_end xs b.1 left b.4))

  pieces_end : (xs : List X) (symbols left : List Symbol) → BeginWithPieces Piece xs symbols left → EndsWith symbols left
  pieces_end [] symbols left b = ([], b)
  pieces_end (x ∷ xs) symbols left b = further_on (ends x symbols b.0 b.1) (more_end xs b.0 left b.2)

module _ {D : Type 0} (t : DomainTexts D) where
  number_ends : (a : D) (symbols left : List Symbol) → BeginWithNumber t a symbols left → EndsWith symbols left
  number_ends a symbols left b = (b.own, b.symbols_are)

  parts_end : (a : AbsVal D) (symbols left : List Symbol) → BeginWithParts t a symbols left → EndsWith symbols left
  parts_end a symbols left b = further_on (number_ends a.num symbols _ b) (Plain token.Slash ∷ Named (bool_text a.truth) ∷ [], refl)

  cell_ends : (entry : List ℕ × AbsCell D) (symbols left : List Symbol) → BeginWithCell t entry symbols left → EndsWith symbols left
  cell_ends entry symbols left b =
      let inside : EndsWith b.0 left = further_on (parts_end entry.1.val b.0 (mark_symbols entry.1.unset ++ left) b.2) (mark_symbols entry.1.unset, refl) in
      after (Named entry.0) b.1 (after (Plain token.Equals) refl inside)

  flow_ends : (x : WrittenFlow D) (symbols left : List Symbol) → BeginWithFlow t x symbols left → EndsWith symbols left
  flow_ends (Number a) symbols left b = number_ends a symbols left b.1
  flow_ends (Truths a) symbols left b = (Named (bool_text a) ∷ [], b)
  flow_ends (Parts a) symbols left b = parts_end a symbols left b.1
  flow_ends (Cells entries) symbols left b =
      after (Plain token.LeftBrace) b.1 (further_on (pieces_end (BeginWithCell t) cell_ends entries b.0 (Plain token.RightBrace ∷ left) b.2) (Plain token.RightBrace ∷ [], refl))
  flow_ends NoStore symbols left b = (Named (codes "none") ∷ [], b)

  pub tuple_ends : (d : Domain D) (known : Bool) (sorts : List FlowSort) (names : List (List ℕ)) (read : ReadTuple D) (symbols left : List Symbol) → SpellsAbsTuple d t known sorts names read symbols left → EndsWith symbols left
  tuple_ends d known sorts names read symbols left s =
      after (Plain token.LeftParen) s.opens (further_on (pieces_end (BeginWithFlow t) flow_ends s.written s.inside (Plain token.RightParen ∷ left) s.values) (Plain token.RightParen ∷ [], refl))
