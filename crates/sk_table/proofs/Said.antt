-- The symbols of a table, and its text that spells them.
use Rattle.std.proofs.Common.{◌≡◌, ℕ, ◌<◌, Bool, true, false, not, ◌||◌, ◌==◌, List, [], ◌∷◌, ◌++◌, refl, sym, ap, subst, arith, append_assoc, append-nil, Option, Some, None, inl, inr, pos}
use Rattle.std.specs.Prelude.{◌⊎◌, codes, All, flat_map, get_or}
use Rattle.std.specs.List.{zip, join_by}
use Rattle.std.specs.Str.{bytes_eq}
use Rattle.std.proofs.lemmas.Bool.Decides.{nat_tests}
use Rattle.std.proofs.lemmas.Fmt.{decimal_digit}
use Rattle.std.proofs.lemmas.Slice.Eq.{bytes_eq-Decides}
use Rattle.std.proofs.lemmas.List.Elements.{All-head, All-tail, All-cons, All-nil, All-filter}
use Rattle.sk_lex.specs.Spelling.{Anything}
use Rattle.sk_lex.specs.Symbols.{Symbol, Named, Plain}
use Rattle.sk_lex.specs.declared.token.TokenKind.{TokenKind}
use Rattle.sk_lex.specs.declared.token.TokenKind.TheVariants.{Number, LeftParen, RightParen, LeftBrace, RightBrace, Comma, Equals, Slash, Arrow}
use Rattle.sk_def.specs.Named.{hook_name}
use Rattle.sk_def.specs.declared.def.Def.{Def}
use Rattle.sk_lattice.specs.Domain.{Domain}
use Rattle.sk_lattice.specs.DomainTexts.{DomainTexts, TextLaws, EndsElement, is_domain_word}
use Rattle.sk_lattice.specs.Empty.{val_is_empty}
use Rattle.sk_lattice.specs.Texts.{bool_text, val_text, entry_text, entries, cells_text, flow_text, tuple_text}
use Rattle.sk_lattice.specs.declared.value.AbsVal.{AbsVal}
use Rattle.sk_lattice.specs.declared.cell.AbsCell.{AbsCell}
use Rattle.sk_lattice.specs.declared.store.AbsStore.TheVariants.{Empty, Cells}
use Rattle.sk_lattice.specs.declared.flow.AbsFlow.{AbsFlow}
use Rattle.sk_lattice.specs.declared.flow.AbsFlow.TheVariants as flow
use Rattle.sk_deftext.specs.Written.{IsWord}
use Rattle.sk_deftext.proofs.Spelled.{Writes, EndsWord, both, and_then, open_writes, close_writes, comma_writes, blank_writes, newline_writes, left_brace_writes, right_brace_writes, arrow_writes, word_writes, plain_is_word, key_writes}
use Rattle.sk_deftext.proofs.Said.{lines_write}
use Rattle.sk_table.specs.Texts.{outs_text, triple_text, first_line, table_text}
use Rattle.sk_table.specs.declared.triple.Triple.{Triple}
use Rattle.sk_table.proofs.Spelled.{same, under, narrowed, equals_writes, slash_writes, element_writes, number_writes, truths_write, none_writes, mark_symbols, unset_writes, before_mark}

-- The symbols of entries with commas between, before a closing mark.

abbrev pub more : {A : Type 0} → TokenKind → (A → List Symbol) → List A → List Symbol
more end spelled [] = Plain end ∷ []
more end spelled (x ∷ xs) = Plain Comma ∷ (spelled x ++ more end spelled xs)

abbrev pub inside : {A : Type 0} → TokenKind → (A → List Symbol) → List A → List Symbol
inside end spelled [] = Plain end ∷ []
inside end spelled (x ∷ xs) = spelled x ++ more end spelled xs

-- a comma or this mark comes next
abbrev pub IsNext : ℕ → List ℕ → Type 0
IsNext end [] = ⊥
IsNext end (b ∷ bs) = (b == 44 || b == end) ≡ true

module _ {A : Type 0} (text : A → List ℕ) (spelled : A → List Symbol) (end : ℕ) (kind : TokenKind) (ends : (44 == 44 || 44 == end) ≡ true) (closes : (end == 44 || end == end) ≡ true) (closing : Writes Anything (end ∷ []) (Plain kind ∷ [])) where
  abbrev after_comma : A → List ℕ
  after_comma y = codes ", " ++ text y

  more_ends : (xs : List A) (rest : List ℕ) → IsNext end ((flat_map after_comma xs ++ end ∷ []) ++ rest)
  more_ends [] rest = closes
  more_ends (x ∷ xs) rest = ends

  abbrev EachWrites : List A → Type 0
  EachWrites xs = All (λ x. Writes (IsNext end) (text x) (spelled x)) xs

  more_write : (xs : List A) → EachWrites xs → Writes Anything (flat_map after_comma xs ++ end ∷ []) (more kind spelled xs)
  more_write [] h = closing
  more_write (x ∷ xs) h =
      let one = All-head (λ x. Writes (IsNext end) (text x) (spelled x)) x xs h in
      let others = more_write xs (All-tail (λ x. Writes (IsNext end) (text x) (spelled x)) x xs h) in
      let whole : codes ", " ++ (text x ++ (flat_map after_comma xs ++ end ∷ [])) ≡ flat_map after_comma (x ∷ xs) ++ end ∷ [] =
      ap (λ t. codes ", " ++ t) (sym (append_assoc (text x) (flat_map after_comma xs) (end ∷ []))) in
      same (and_then (and_then comma_writes blank_writes) (both one others (λ rest ok. more_ends xs rest))) whole refl

  pub inside_writes : (xs : List A) → EachWrites xs → Writes Anything (join_by text (codes ", ") xs ++ end ∷ []) (inside kind spelled xs)
  inside_writes [] h = closing
  inside_writes (x ∷ xs) h =
      let one = All-head (λ x. Writes (IsNext end) (text x) (spelled x)) x xs h in
      let others = more_write xs (All-tail (λ x. Writes (IsNext end) (text x) (spelled x)) x xs h) in
      same (both one others (λ rest ok. more_ends xs rest)) (sym (append_assoc (text x) (flat_map after_comma xs) (end ∷ []))) refl

-- Symbols.

module _ {D : Type 0} (t : DomainTexts D) where
  abbrev pub val_symbols : AbsVal D → List Symbol
  val_symbols a = t.symbols a.num ++ (Plain Slash ∷ Named (bool_text a.truth) ∷ [])

  abbrev pub entry_symbols : List ℕ × AbsCell D → List Symbol
  entry_symbols entry = Named entry.0 ∷ Plain Equals ∷ (val_symbols entry.1.val ++ mark_symbols entry.1.unset)

  module _ (d : Domain D) (names : List (List ℕ)) where
    abbrev pub flow_symbols : AbsFlow D → List Symbol
    flow_symbols (flow.Int a) = t.symbols a
    flow_symbols (flow.Bool a) = Named (bool_text a) ∷ []
    flow_symbols (flow.Val a) = val_symbols a
    flow_symbols (flow.Store Empty) = Named (codes "none") ∷ []
    flow_symbols (flow.Store (Cells cells)) = Plain LeftBrace ∷ inside RightBrace entry_symbols (entries d names cells)

    abbrev pub tuple_symbols : List (AbsFlow D) → List Symbol
    tuple_symbols tuple = Plain LeftParen ∷ inside RightParen flow_symbols tuple

    abbrev pub outs_symbols : Option (List (AbsFlow D)) → List Symbol
    outs_symbols None = Named (codes "none") ∷ []
    outs_symbols (Some tuple) = tuple_symbols tuple

    abbrev pub triple_symbols : Def → Triple D → List Symbol
    triple_symbols def triple = Named (hook_name def triple.hook) ∷ Plain (Number (pos triple.point)) ∷ (tuple_symbols triple.ins ++ (Plain Arrow ∷ outs_symbols triple.outs))

    abbrev pub table_symbols : Def → List (Triple D) → List Symbol
    table_symbols def table = Named (codes "table") ∷ Plain (Number (pos 1)) ∷ Named t.word ∷ flat_map (triple_symbols def) table

-- Texts.

module _ {D : Type 0} (d : Domain D) (t : DomainTexts D) (laws : TextLaws d t) where
  val_writes : (a : AbsVal D) → Writes EndsWord (val_text t a) (val_symbols t a)
  val_writes a =
      same (both (element_writes laws a.num) (and_then slash_writes (truths_write a.truth.has_true a.truth.has_false)) (λ rest ok. refl))
      (sym (append_assoc (t.text a.num) (codes "/") (bool_text a.truth))) refl

  entry_writes : (entry : List ℕ × AbsCell D) → IsWord entry.0 → Writes EndsWord (entry_text t entry) (entry_symbols t entry)
  entry_writes entry w =
      let marked = both (val_writes entry.1.val) (unset_writes entry.1.unset) (λ rest ok. before_mark entry.1.unset rest ok) in
      same (both (word_writes entry.0 w) (and_then equals_writes marked) (λ rest ok. refl)) (simp append_assoc) refl

  -- a comma or a closing mark ends a word and an element
  brace_ends : (rest : List ℕ) → IsNext 125 rest → EndsWord rest
  brace_ends [] ok = absurd ok
  brace_ends (b ∷ rest) ok = grind (arith, nat_tests)

  paren_ends : (rest : List ℕ) → IsNext 41 rest → EndsWord rest
  paren_ends [] ok = absurd ok
  paren_ends (b ∷ rest) ok = grind (arith, nat_tests)

  paren_element : (rest : List ℕ) → IsNext 41 rest → EndsElement rest
  paren_element [] ok = absurd ok
  paren_element (b ∷ rest) ok = grind (arith, nat_tests)

  module _ (names : List (List ℕ)) (words : All IsWord names) where
    zip_words : (ns : List (List ℕ)) (cells : List (AbsCell D)) → All IsWord ns → All (λ (entry : List ℕ × AbsCell D). IsWord entry.0) (zip ns cells)
    zip_words [] cells h = All-nil (λ (entry : List ℕ × AbsCell D). IsWord entry.0)
    zip_words (n ∷ ns) [] h = All-nil (λ (entry : List ℕ × AbsCell D). IsWord entry.0)
    zip_words (n ∷ ns) (cell ∷ cells) h =
        All-cons (λ (entry : List ℕ × AbsCell D). IsWord entry.0) (n, cell) (zip ns cells) (All-head IsWord n ns h) (zip_words ns cells (All-tail IsWord n ns h))

    entries_write : (cells : List (AbsCell D)) → Writes Anything (cells_text d t names cells) (Plain LeftBrace ∷ inside RightBrace (entry_symbols t) (entries d names cells))
    entries_write cells =
        let all = All-filter (λ (entry : List ℕ × AbsCell D). not (val_is_empty d entry.1.val)) (λ (entry : List ℕ × AbsCell D). IsWord entry.0) (zip names cells) (zip_words names cells words) in
        and_then left_brace_writes (inside_writes (entry_text t) (entry_symbols t) 125 RightBrace refl refl right_brace_writes (entries d names cells)
        (λ k x within. narrowed (entry_writes (get_or (entries d names cells) k x) (all k x within)) brace_ends))

    flow_writes : (x : AbsFlow D) → Writes (IsNext 41) (flow_text d t names x) (flow_symbols t d names x)
    flow_writes (flow.Int a) = narrowed (element_writes laws a) paren_element
    flow_writes (flow.Bool a) = narrowed (truths_write a.has_true a.has_false) paren_ends
    flow_writes (flow.Val a) = narrowed (val_writes a) paren_ends
    flow_writes (flow.Store Empty) = narrowed none_writes paren_ends
    flow_writes (flow.Store (Cells cells)) = under (entries_write cells)

    tuple_writes : (tuple : List (AbsFlow D)) → Writes Anything (tuple_text d t names tuple) (tuple_symbols t d names tuple)
    tuple_writes tuple =
        and_then open_writes (inside_writes (flow_text d t names) (flow_symbols t d names) 41 RightParen refl refl close_writes tuple (λ k x within. flow_writes (get_or tuple k x)))

    outs_write : (outs : Option (List (AbsFlow D))) → Writes Anything (outs_text d t names outs ++ codes "\n") (outs_symbols t d names outs)
    outs_write None = both none_writes newline_writes (λ rest ok. refl)
    outs_write (Some tuple) = same (and_then (tuple_writes tuple) newline_writes) refl (append-nil (tuple_symbols t d names tuple))

    arrow_text : Writes Anything (codes " -> ") (Plain Arrow ∷ [])
    arrow_text = and_then blank_writes (and_then arrow_writes blank_writes)

    triple_writes : (def : Def) (triple : Triple D) → IsWord (hook_name def triple.hook) → triple.point < 65536 → Writes Anything (triple_text d t def names triple) (triple_symbols t d names def triple)
    triple_writes def triple word small =
        let point = both (number_writes triple.point small) blank_writes (λ rest ok. refl) in
        let hook = both (word_writes (hook_name def triple.hook) word) blank_writes (λ rest ok. refl) in
        let tuples = and_then (tuple_writes triple.ins) (and_then arrow_text (outs_write triple.outs)) in
        same (and_then hook (and_then point tuples)) (simp append_assoc) refl

    bytes_are : (a b : List ℕ) → bytes_eq a b ≡ true → a ≡ b
    bytes_are a b h = (bytes_eq-Decides a b).0 h

    one_of : (first second : Bool) → (first || (second || false)) ≡ true → (first ≡ true) ⊎ (second ≡ true)
    one_of true second h = inl refl
    one_of false true h = inr refl
    one_of false false h = absurd (cc)

    word_is_plain : (word : List ℕ) → is_domain_word word ≡ true → IsWord word
    word_is_plain word h = by_domain (one_of (bytes_eq word (codes "sign")) (bytes_eq word (codes "interval")) h) where
      by_domain : (bytes_eq word (codes "sign") ≡ true) ⊎ (bytes_eq word (codes "interval") ≡ true) → IsWord word
      by_domain (inl e) = let P : List ℕ → Type 0 = IsWord in subst P (sym (bytes_are word (codes "sign") e)) (plain_is_word (codes "sign") refl)
      by_domain (inr e) = let P : List ℕ → Type 0 = IsWord in subst P (sym (bytes_are word (codes "interval") e)) (plain_is_word (codes "interval") refl)

    first_writes : Writes Anything (first_line t) (Named (codes "table") ∷ Plain (Number (pos 1)) ∷ Named t.word ∷ [])
    first_writes =
        let one = both (same (number_writes 1 (omega arith)) (decimal_digit 1 (omega arith)) refl) blank_writes (λ rest ok. refl) in
        let word = both (word_writes t.word (word_is_plain t.word laws.word_is)) newline_writes (λ rest ok. refl) in
        and_then (key_writes (codes "table") refl) (and_then one word)

    pub table_writes : (def : Def) (table : List (Triple D)) → All (λ (triple : Triple D). IsWord (hook_name def triple.hook) × (triple.point < 65536)) table →
        Writes Anything (table_text d t def names table) (table_symbols t d names def table)
    table_writes def table h =
        and_then first_writes (lines_write (triple_text d t def names) (triple_symbols t d names def) table
        (λ k x within. triple_writes def (get_or table k x) (h k x within).0 (h k x within).1))
