-- Only spelled terms are read.
use Rattle.std.proofs.Common.{◌≡◌, ℕ, zero, suc, ◌+◌, ◌<◌, ◌≤◌, nat_lt, ℤ, Bool, true, false, cond, List, [], ◌∷◌, ◌++◌, length, get_or, refl, sym, ap, subst, ◌∙◌, arith, length-append, Option, Some, None, Result, Ok, Err}
use Rattle.std.specs.Prelude.{option_map, ◌==◌}
use Rattle.std.specs.Option.{option_map_or}
use Rattle.std.specs.Str.{bytes_eq}
use Rattle.std.proofs.lemmas.Bool.{ltb-true, eqb-true}
use Rattle.std.proofs.lemmas.List.{append-nil}
use Rattle.std.proofs.lemmas.List.Quantifiers.{position-Some}
use Rattle.std.proofs.lemmas.Option.{same_Some, slice_get-get_or}
use Rattle.std.proofs.lemmas.Slice.Eq.{bytes_eq-Decides}
use Rattle.sk_base.specs.Answer.{◌>>=◌}
use Rattle.sk_base.specs.Names.{with_name}
use Rattle.sk_lex.specs.Run.{run}
use Rattle.sk_lex.specs.Symbols.{Symbol, Named, Plain, word_of, number_of, is_open, is_close, is_comma}
use Rattle.sk_lex.specs.declared.token.TokenKind.TheVariants as token
use Rattle.sk_def.specs.Named.{con_named, place_of_con}
use Rattle.sk_def.specs.declared.ids.ConId.{ConId}
use Rattle.sk_def.specs.declared.ids.SortId.{SortId}
use Rattle.sk_def.specs.declared.sorts.ArgSort.{ArgSort}
use Rattle.sk_def.specs.declared.sorts.ArgSort.TheVariants as sort
use Rattle.sk_def.specs.declared.def.Con.{Con}
use Rattle.sk_def.specs.declared.def.Def.{Def}
use Rattle.sk_term.specs.declared.expected.Expected.{Expected}
use Rattle.sk_term.specs.declared.expected.Expected.TheVariants.{Root, Open, First, After, Next}
use Rattle.sk_term.specs.declared.expected.OpenTerm.{OpenTerm}
use Rattle.sk_term.specs.declared.fault.TermError.{TermError}
use Rattle.sk_term.specs.declared.fault.TermError.TheVariants.{Unexpected, WrongSort, WrongCount, TooManyPoints}
use Rattle.sk_term.specs.declared.node.Child.TheVariants.{Number, Name, Point}
use Rattle.sk_term.specs.declared.node.TermNode.{TermNode}
use Rattle.sk_term.specs.Terms.{Term, con, Args, none, number, name, term, node_count, node_count_of_args, nodes_from, IsWellSorted, HaveSorts, NamesAreBelow, NamesOfArgsAreBelow, sort_of_con, sort_of_term, arguments_of}
use Rattle.sk_term.specs.Reading as spec
use Rattle.sk_term.specs.Reading.{Reading, Met, met, ReadTerm, at_symbol, constructor, checked_con, has_sort, added_name, node_begun, begun, closing, root, subterm, argument, first, after, next, step, term_rules, nothing, read_symbols, read_term}
use Rattle.sk_term.specs.Meets.{HasGrown}
use Rattle.sk_term.specs.Spelling.{con_name, word_at, words, words_of_args, with_words, spelling, BeginWithTerm}
use Rattle.sk_term.proofs.Grown.{grown_more}
use Rattle.sk_term.proofs.Nodes.{length-nodes, more_names}
use Rattle.sk_term.proofs.Words.{word_before, adds, add_first, add_front}
use Rattle.sk_term.proofs.Forms.{spelled, inside, more, spelling_then, Answer, told, Comes, within, outside, closed, grown, closed_none, closed_number, closed_name, closed_term, opened, whole_is, Awaits, head_of, awaited, got}

-- What tests tell of a symbol.

open_is : (symbol : Symbol) → is_open symbol ≡ true → symbol ≡ Plain token.LeftParen
open_is (Plain token.LeftParen) h = refl
open_is symbol h = absurd (cc)

close_is : (symbol : Symbol) → is_close symbol ≡ true → symbol ≡ Plain token.RightParen
close_is (Plain token.RightParen) h = refl
close_is symbol h = absurd (cc)

comma_is : (symbol : Symbol) → is_comma symbol ≡ true → symbol ≡ Plain token.Comma
comma_is (Plain token.Comma) h = refl
comma_is symbol h = absurd (cc)

number_is : (symbol : Symbol) (z : ℤ) → number_of symbol ≡ Some z → symbol ≡ Plain (token.Number z)
number_is (Plain (token.Number value)) z h = ap (λ v. Plain (token.Number v)) (same_Some value z h)
number_is symbol z h = absurd (cc)

word_is : (symbol : Symbol) (word : List ℕ) → word_of symbol ≡ Some word → symbol ≡ Named word
word_is (Named bytes) word h = ap Named (same_Some bytes word h)
word_is (Plain kind) word h = absurd (cc)

-- What a word that names a constructor tells.

abbrev number_of_con : Option ConId → ℕ
number_of_con None = 0
number_of_con (Some c) = c.0

abbrev blank : Con
blank = record { name = []; sort = record { 0 = 0 }; args = [] }

named_so : (d : Def) (word : List ℕ) (c : ConId) → con_named d word ≡ Some c → (c.0 < length d.cons) × (con_name d c ≡ word)
named_so d word c h = by_place (place_of_con d.cons word) refl h where
  by_place : (found : Option ℕ) → place_of_con d.cons word ≡ found → option_map (λ place. record { 0 = place }) found ≡ Some c → (c.0 < length d.cons) × (con_name d c ≡ word)
  by_place None e k = absurd (cc)
  by_place (Some place) e k =
      let same : place ≡ c.0 = ap number_of_con k in
      let p = position-Some (λ con. bytes_eq con.name word) d.cons place blank e in
      let there : con_name d (record { 0 = place }) ≡ word =
      ap (λ o. option_map_or (λ (entry : Con). entry.name) o []) (slice_get-get_or d.cons place blank p.0) ∙ (bytes_eq-Decides (get_or d.cons place blank).name word).0 p.1 in
      (omega (arith, p.0, same), ap (λ n. con_name d (record { 0 = n })) (sym same) ∙ there)

record IsFound (d : Def) (wanted : Option SortId) (points : ℕ) (word : List ℕ) (c : ConId) : Type 0 where
  named : con_named d word ≡ Some c
  sorted : has_sort d wanted c ≡ true
  few : points < 4096

room_so : (b : Bool) (x c : ConId) → cond {A = Result ConId TermError} b (Ok x) (Err TooManyPoints) ≡ Ok c → (b ≡ true) × (x ≡ c)
room_so true x c h = (refl, cc h)
room_so false x c h = absurd (cc h)

sort_so : (b : Bool) (r : Result ConId TermError) (c : ConId) → cond b r (Err WrongSort) ≡ Ok c → (b ≡ true) × (r ≡ Ok c)
sort_so true r c h = (refl, h)
sort_so false r c h = absurd (cc h)

checked_so : (d : Def) (wanted : Option SortId) (points : ℕ) (word : List ℕ) (found : Option ConId) (c : ConId) → con_named d word ≡ found → checked_con d wanted points found ≡ Ok c → IsFound d wanted points word c
checked_so d wanted points word None c e h = absurd (cc h)
checked_so d wanted points word (Some x) c e h =
    let s = sort_so (has_sort d wanted x) (cond {A = Result ConId TermError} (nat_lt points 4096) (Ok x) (Err TooManyPoints)) c h in
    let p = room_so (nat_lt points 4096) x c s.1 in
    record { named = e ∙ ap (λ n. Some n) p.1; sorted = ap (has_sort d wanted) (sym p.1) ∙ s.0; few = ltb-true points 4096 p.0 }

con_so : (d : Def) (wanted : Option SortId) (points : ℕ) (word : List ℕ) (c : ConId) → constructor d wanted points word ≡ Ok c → IsFound d wanted points word c
unfolding constructor
con_so d wanted points word c h = checked_so d wanted points word (con_named d word) c refl h

fits_so : (wanted : SortId) (found : Option SortId) → option_map_or (λ (f : SortId). f.0 == wanted.0) found false ≡ true → found ≡ Some wanted
fits_so wanted None h = absurd (cc)
fits_so wanted (Some f) h = ap (λ (n : ℕ). Some (record { 0 = n })) (eqb-true f.0 wanted.0 h)

same_names : (names : List (List ℕ)) → HasGrown names names
same_names names = record { added = []; is = sym (append-nil names) }

longer : {a b : List (List ℕ)} → HasGrown a b → length a ≤ length b
longer {a = a} g = omega (arith, ap length g.is, length-append a g.added)

more_is : (d : Def) (s : ArgSort) (sorts : List ArgSort) (args : Args) → HaveSorts d args (s ∷ sorts) → (all : List (List ℕ)) (left : List Symbol) → more d all args left ≡ Plain token.Comma ∷ inside d all args left
more_is d s sorts none h all left = absurd h
more_is d s sorts (number z rest) h all left = refl
more_is d s sorts (name n rest) h all left = refl
more_is d s sorts (term t rest) h all left = refl

-- a reading that is not refused goes on so
abbrev Goes : Answer → ℕ → List Expected → List Symbol → Met → Type 0
Goes from at below left (Ok turn) = from ≡ run term_rules turn.more (at + 1) (turn.expected ++ below) turn.state left
Goes from at below left (Err error) = ⊥

module _ (d : Def) (from : Answer) (total : ℕ) (answer : Reading × ℕ) (ok : from ≡ Ok answer) where
  goes : (at : ℕ) (below : List Expected) (left : List Symbol) (m : Met) → from ≡ (at_symbol at m >>= λ turn. run term_rules turn.more (at + 1) (turn.expected ++ below) turn.state left) → Goes from at below left m
  goes at below left (Ok turn) e = e
  goes at below left (Err error) e = absurd (cc (sym ok ∙ e))

  turned : {one : Expected} {below : List Expected} {s : Reading} {symbol : Symbol} {left : List Symbol} (g : Comes from total (one ∷ below) s (symbol ∷ left)) → Goes from g.at below left (step s one symbol)
  turned {one} {below} {s} {symbol} {left} g = goes g.at below left (step s one symbol) g.is

  came : {es : List Expected} {s : Reading} {left : List Symbol} (at : ℕ) → from ≡ run term_rules 0 (at + 1) es s left → at + suc (length left) ≡ total → Comes from total es s left
  came at e p = record { at = at + 1; is = e; place = omega (arith, p) }

  not_ended : {one : Expected} {below : List Expected} {s : Reading} → Comes from total (one ∷ below) s [] → ⊥
  not_ended g = absurd (cc (sym ok ∙ g.is))

  -- What each turn tells.

  record Opened (below : List Expected) (s : Reading) (symbols : List Symbol) : Type 0 where
    left : List Symbol
    is : symbols ≡ Plain token.LeftParen ∷ left
    gets : Comes from total below s left

  open_by : {below : List Expected} {s : Reading} {left : List Symbol} (symbol : Symbol) (at : ℕ) (b : Bool) → is_open symbol ≡ b → at + suc (length left) ≡ total → Goes from at below left (cond b (met s []) (Err Unexpected)) → Opened below s (symbol ∷ left)
  open_by {left = left} symbol at true e p h = record { left = left; is = ap (λ one. one ∷ left) (open_is symbol e); gets = came at h p }
  open_by symbol at false e p h = absurd h

  open_read : {below : List Expected} {s : Reading} (symbols : List Symbol) → Comes from total (Open ∷ below) s symbols → Opened below s symbols
  unfolding step
  open_read [] g = absurd (not_ended g)
  open_read (symbol ∷ left) g = open_by symbol g.at (is_open symbol) refl g.place (turned g)

  first_turn : {es : List Expected} {here : List TermNode} {leaves : List ℤ} {o : OpenTerm} {outer : List OpenTerm} {now : List (List ℕ)} {sorts : List ArgSort} {symbol : Symbol} {left : List Symbol}
      (g : Comes from total (First ∷ es) (within d here leaves o outer now) (symbol ∷ left)) → Awaits d o sorts → Goes from g.at es left (first (within d here leaves o outer now) (head_of sorts) symbol)
  unfolding step
  first_turn {es} {here} {leaves} {o} {outer} {now} {symbol = symbol} {left = left} g a =
      subst (λ (wanted : Option ArgSort). Goes from g.at es left (first (within d here leaves o outer now) wanted symbol)) (awaited outer a) (turned g)

  after_turn : {es : List Expected} {here : List TermNode} {leaves : List ℤ} {o : OpenTerm} {outer : List OpenTerm} {now : List (List ℕ)} {sorts : List ArgSort} {symbol : Symbol} {left : List Symbol}
      (g : Comes from total (After ∷ es) (within d here leaves o outer now) (symbol ∷ left)) → Awaits d o sorts → Goes from g.at es left (after (within d here leaves o outer now) (head_of sorts) symbol)
  unfolding step
  after_turn {es} {here} {leaves} {o} {outer} {now} {symbol = symbol} {left = left} g a =
      subst (λ (wanted : Option ArgSort). Goes from g.at es left (after (within d here leaves o outer now) wanted symbol)) (awaited outer a) (turned g)

  next_turn : {es : List Expected} {here : List TermNode} {leaves : List ℤ} {o : OpenTerm} {outer : List OpenTerm} {now : List (List ℕ)} {wanted : ArgSort} {sorts : List ArgSort} {symbol : Symbol} {left : List Symbol}
      (g : Comes from total (Next ∷ es) (within d here leaves o outer now) (symbol ∷ left)) → Awaits d o (wanted ∷ sorts) → Goes from g.at es left (argument (within d here leaves o outer now) wanted symbol)
  unfolding step next
  next_turn {es} {here} {leaves} {o} {outer} {now} {symbol = symbol} {left = left} g a =
      subst (λ (wanted : Option ArgSort). Goes from g.at es left (next (within d here leaves o outer now) wanted symbol)) (awaited outer a) (turned g)

  not_true : (at : ℕ) (es : List Expected) (left : List Symbol) (m : Met) (b : Bool) → Goes from at es left (cond b (Err WrongCount) m) → Goes from at es left m
  not_true at es left m true h = absurd h
  not_true at es left m false h = h

  first_none : (at : ℕ) (es : List Expected) (left : List Symbol) (s : Reading) (symbol : Symbol) → Goes from at es left (first s None symbol) → Goes from at es left (closing s symbol)
  unfolding first
  first_none at es left s symbol h = h

  first_some : (at : ℕ) (es : List Expected) (left : List Symbol) (s : Reading) (wanted : ArgSort) (symbol : Symbol) → Goes from at es left (first s (Some wanted) symbol) → Goes from at es left (argument s wanted symbol)
  unfolding first
  first_some at es left s wanted symbol h = not_true at es left (argument s wanted symbol) (is_close symbol) h

  after_none : (at : ℕ) (es : List Expected) (left : List Symbol) (s : Reading) (symbol : Symbol) → Goes from at es left (after s None symbol) → Goes from at es left (closing s symbol)
  unfolding after
  after_none at es left s symbol h = not_true at es left (closing s symbol) (is_comma symbol) h

  refused : (at : ℕ) (es : List Expected) (left : List Symbol) (b : Bool) → Goes from at es left (cond b (Err WrongCount) (Err Unexpected)) → ⊥
  refused at es left true h = h
  refused at es left false h = h

  comma_by : (at : ℕ) (es : List Expected) (left : List Symbol) (s : Reading) (symbol : Symbol) (b : Bool) → is_comma symbol ≡ b → Goes from at es left (cond b (met s (Next ∷ [])) (cond (is_close symbol) (Err WrongCount) (Err Unexpected))) →
      (symbol ≡ Plain token.Comma) × (from ≡ run term_rules 0 (at + 1) (Next ∷ es) s left)
  comma_by at es left s symbol true e h = (comma_is symbol e, h)
  comma_by at es left s symbol false e h = absurd (refused at es left (is_close symbol) h)

  after_some : (at : ℕ) (es : List Expected) (left : List Symbol) (s : Reading) (wanted : ArgSort) (symbol : Symbol) → Goes from at es left (after s (Some wanted) symbol) →
      (symbol ≡ Plain token.Comma) × (from ≡ run term_rules 0 (at + 1) (Next ∷ es) s left)
  unfolding after
  after_some at es left s wanted symbol h = comma_by at es left s symbol (is_comma symbol) refl h

  record NumberTurn (es : List Expected) (here : List TermNode) (leaves : List ℤ) (o : OpenTerm) (outer : List OpenTerm) (now : List (List ℕ)) (symbol : Symbol) (left : List Symbol) : Type 0 where
    value : ℤ
    is : symbol ≡ Plain (token.Number value)
    gets : Comes from total (After ∷ es) (within d here (leaves ++ value ∷ []) (grown o (Number value)) outer now) left

  number_by : {es : List Expected} {here : List TermNode} {leaves : List ℤ} {o : OpenTerm} {outer : List OpenTerm} {now : List (List ℕ)} {symbol : Symbol} {left : List Symbol} (at : ℕ) (value : Option ℤ) → number_of symbol ≡ value →
      at + suc (length left) ≡ total → Goes from at es left (spec.number (within d here leaves o outer now) value) → NumberTurn es here leaves o outer now symbol left
  unfolding spec.number
  number_by at None e p h = absurd h
  number_by {symbol = symbol} at (Some value) e p h = record { value = value; is = number_is symbol value e; gets = came at h p }

  number_turn : {es : List Expected} {here : List TermNode} {leaves : List ℤ} {o : OpenTerm} {outer : List OpenTerm} {now : List (List ℕ)} {symbol : Symbol} {left : List Symbol} (at : ℕ) →
      at + suc (length left) ≡ total → Goes from at es left (argument (within d here leaves o outer now) sort.Number symbol) → NumberTurn es here leaves o outer now symbol left
  unfolding argument
  number_turn {symbol = symbol} at p h = number_by at (number_of symbol) refl p h

  record NameTurn (es : List Expected) (here : List TermNode) (leaves : List ℤ) (o : OpenTerm) (outer : List OpenTerm) (now : List (List ℕ)) (symbol : Symbol) (left : List Symbol) : Type 0 where
    word : List ℕ
    place : ℕ
    names : List (List ℕ)
    is : symbol ≡ Named word
    added : with_name now word ≡ Some (place, names)
    gets : Comes from total (After ∷ es) (within d here leaves (grown o (Name place)) outer names) left

  added_by : {es : List Expected} {here : List TermNode} {leaves : List ℤ} {o : OpenTerm} {outer : List OpenTerm} {now : List (List ℕ)} {symbol : Symbol} {left : List Symbol} (at : ℕ) (word : List ℕ) (found : Option (ℕ × List (List ℕ))) →
      symbol ≡ Named word → with_name now word ≡ found → at + suc (length left) ≡ total → Goes from at es left (added_name (within d here leaves o outer now) found) → NameTurn es here leaves o outer now symbol left
  added_by at word None i e p h = absurd h
  added_by at word (Some (place, names)) i e p h = record { word = word; place = place; names = names; is = i; added = e; gets = came at h p }

  name_by : {es : List Expected} {here : List TermNode} {leaves : List ℤ} {o : OpenTerm} {outer : List OpenTerm} {now : List (List ℕ)} {symbol : Symbol} {left : List Symbol} (at : ℕ) (word : Option (List ℕ)) → word_of symbol ≡ word →
      at + suc (length left) ≡ total → Goes from at es left (spec.name (within d here leaves o outer now) word) → NameTurn es here leaves o outer now symbol left
  unfolding spec.name
  name_by at None e p h = absurd h
  name_by {now = now} {symbol = symbol} at (Some word) e p h = added_by at word (with_name now word) (word_is symbol word e) refl p h

  name_turn : {es : List Expected} {here : List TermNode} {leaves : List ℤ} {o : OpenTerm} {outer : List OpenTerm} {now : List (List ℕ)} {symbol : Symbol} {left : List Symbol} (at : ℕ) →
      at + suc (length left) ≡ total → Goes from at es left (argument (within d here leaves o outer now) sort.Name symbol) → NameTurn es here leaves o outer now symbol left
  unfolding argument
  name_turn {symbol = symbol} at p h = name_by at (word_of symbol) refl p h

  record TermTurn (es : List Expected) (here : List TermNode) (leaves : List ℤ) (outer : List OpenTerm) (now : List (List ℕ)) (wanted : Option SortId) (symbol : Symbol) (left : List Symbol) : Type 0 where
    word : List ℕ
    c : ConId
    is : symbol ≡ Named word
    found : IsFound d wanted (length here) word c
    gets : Comes from total (Open ∷ First ∷ es) (within d (here ++ node_begun c ∷ []) leaves (opened (length here) c) outer now) left

  begun_by : {es : List Expected} {here : List TermNode} {leaves : List ℤ} {outer : List OpenTerm} {now : List (List ℕ)} {symbol : Symbol} {left : List Symbol} (o : OpenTerm) (at : ℕ) (wanted : SortId) (word : List ℕ) (found : Result ConId TermError) →
      symbol ≡ Named word → constructor d (Some wanted) (length here) word ≡ found → at + suc (length left) ≡ total →
      Goes from at es left (found >>= λ c. met (begun c (record (within d here leaves o outer now) { unclosed = grown o (Point (length here)) ∷ outer })) (Open ∷ First ∷ After ∷ [])) →
      TermTurn (After ∷ es) here leaves (grown o (Point (length here)) ∷ outer) now (Some wanted) symbol left
  begun_by o at wanted word (Err error) i e p h = absurd h
  begun_by {here = here} o at wanted word (Ok c) i e p h = record { word = word; c = c; is = i; found = con_so d (Some wanted) (length here) word c e; gets = came at h p }

  subterm_by : {es : List Expected} {here : List TermNode} {leaves : List ℤ} {outer : List OpenTerm} {now : List (List ℕ)} {symbol : Symbol} {left : List Symbol} (o : OpenTerm) (at : ℕ) (wanted : SortId) (word : Option (List ℕ)) → word_of symbol ≡ word →
      at + suc (length left) ≡ total → Goes from at es left (subterm (within d here leaves o outer now) wanted word) → TermTurn (After ∷ es) here leaves (grown o (Point (length here)) ∷ outer) now (Some wanted) symbol left
  unfolding subterm
  subterm_by o at wanted None e p h = absurd h
  subterm_by {here = here} {symbol = symbol} o at wanted (Some word) e p h = begun_by o at wanted word (constructor d (Some wanted) (length here) word) (word_is symbol word e) refl p h

  subterm_turn : {es : List Expected} {here : List TermNode} {leaves : List ℤ} {outer : List OpenTerm} {now : List (List ℕ)} {symbol : Symbol} {left : List Symbol} (o : OpenTerm) (at : ℕ) (wanted : SortId) →
      at + suc (length left) ≡ total → Goes from at es left (argument (within d here leaves o outer now) (sort.Term wanted) symbol) → TermTurn (After ∷ es) here leaves (grown o (Point (length here)) ∷ outer) now (Some wanted) symbol left
  unfolding argument
  subterm_turn {symbol = symbol} o at wanted p h = subterm_by o at wanted (word_of symbol) refl p h

  root_by : {names : List (List ℕ)} {symbol : Symbol} {left : List Symbol} (at : ℕ) (word : List ℕ) (found : Result ConId TermError) → symbol ≡ Named word → constructor d None 0 word ≡ found → at + suc (length left) ≡ total →
      Goes from at [] left (found >>= λ c. met (begun c (nothing d names)) (Open ∷ First ∷ [])) → TermTurn [] [] [] [] names None symbol left
  root_by at word (Err error) i e p h = absurd h
  root_by at word (Ok c) i e p h = record { word = word; c = c; is = i; found = con_so d None 0 word c e; gets = came at h p }

  root_word : {names : List (List ℕ)} {symbol : Symbol} {left : List Symbol} (at : ℕ) (word : Option (List ℕ)) → word_of symbol ≡ word → at + suc (length left) ≡ total → Goes from at [] left (root (nothing d names) word) → TermTurn [] [] [] [] names None symbol left
  unfolding root
  root_word at None e p h = absurd h
  root_word {symbol = symbol} at (Some word) e p h = root_by at word (constructor d None 0 word) (word_is symbol word e) refl p h

  root_turn : {names : List (List ℕ)} {symbol : Symbol} {left : List Symbol} → Comes from total (Root ∷ []) (nothing d names) (symbol ∷ left) → TermTurn [] [] [] [] names None symbol left
  unfolding step
  root_turn {symbol = symbol} g = root_word g.at (word_of symbol) refl g.place (turned g)

  -- What was read.

  -- arguments of these sorts that an open term has got, up to its end
  record HasRead (form : List (List ℕ) → Args → List Symbol → List Symbol) (es : List Expected) (here : List TermNode) (o : OpenTerm) (outer : List OpenTerm) (now : List (List ℕ)) (sorts : List ArgSort) (symbols : List Symbol) : Type 0 where
    args : Args
    left : List Symbol
    names : List (List ℕ)
    leaves : List ℤ
    sorted : HaveSorts d args sorts
    few : length here + node_count_of_args args ≤ 4096
    have_grown : HasGrown now names
    below : NamesOfArgsAreBelow (length names) args
    added : (all : List (List ℕ)) → HasGrown names all → with_words now (words_of_args all args) ≡ Some names
    spells : (all : List (List ℕ)) → HasGrown names all → symbols ≡ form all args left
    fewer : length left < length symbols
    gets : Comes from total es (outside d (closed here o args) leaves outer names) left

  -- a term that it has got
  record HasTerm (es : List Expected) (here : List TermNode) (o : OpenTerm) (outer : List OpenTerm) (now : List (List ℕ)) (wanted : SortId) (symbols : List Symbol) : Type 0 where
    whole : Term
    left : List Symbol
    names : List (List ℕ)
    leaves : List ℤ
    fits : sort_of_term d whole ≡ Some wanted
    sorted : IsWellSorted d whole
    few : length here + node_count whole ≤ 4096
    have_grown : HasGrown now names
    below : NamesAreBelow (length names) whole
    added : (all : List (List ℕ)) → HasGrown names all → with_words now (words all whole) ≡ Some names
    spells : (all : List (List ℕ)) → HasGrown names all → symbols ≡ spelled d all whole left
    fewer : length left < length symbols
    gets : Comes from total (After ∷ es) (within d (here ++ nodes_from (length here) whole) leaves (grown o (Point (length here))) outer names) left

  closed_as : {es : List Expected} {here there : List TermNode} {leaves : List ℤ} {outer : List OpenTerm} {names : List (List ℕ)} {left : List Symbol} → here ≡ there →
      Comes from total es (outside d here leaves outer names) left → Comes from total es (outside d there leaves outer names) left
  closed_as {es} {leaves = leaves} {outer = outer} {names = names} {left = left} e g = let P : List TermNode → Type 0 = λ ns. Comes from total es (outside d ns leaves outer names) left in subst P e g

  close_by : (form : List (List ℕ) → Args → List Symbol → List Symbol) → ((all : List (List ℕ)) (left : List Symbol) → form all none left ≡ Plain token.RightParen ∷ left) →
      {es : List Expected} {here : List TermNode} {o : OpenTerm} {outer : List OpenTerm} {now : List (List ℕ)} {symbol : Symbol} {left : List Symbol} (leaves : List ℤ) (at : ℕ) (b : Bool) → is_close symbol ≡ b →
      at + suc (length left) ≡ total → length here ≤ 4096 → Goes from at es left (cond b (met (spec.ended (o ∷ outer) (within d here leaves o outer now)) []) (Err Unexpected)) → HasRead form es here o outer now [] (symbol ∷ left)
  close_by form is {here = here} {o = o} {now = now} {symbol = symbol} {left = left} leaves at true e p f h = record {
    args = none;
    left = left;
    names = now;
    leaves = leaves;
    sorted = tt;
    few = omega (arith, f);
    have_grown = same_names now;
    below = tt;
    added = λ all g. refl;
    spells = λ all g. ap (λ one. one ∷ left) (close_is symbol e) ∙ sym (is all left);
    fewer = omega arith;
    gets = closed_as (closed_none here o) (came at h p);
  }
  close_by form is leaves at false e p f h = absurd h

  with_number : {es : List Expected} {here : List TermNode} {o : OpenTerm} {outer : List OpenTerm} {now : List (List ℕ)} {sorts : List ArgSort} {symbol : Symbol} {left : List Symbol} (z : ℤ) → symbol ≡ Plain (token.Number z) →
      HasRead (more d) es here (grown o (Number z)) outer now sorts left → HasRead (inside d) es here o outer now (sort.Number ∷ sorts) (symbol ∷ left)
  with_number {here = here} {o = o} {left = left} z e h = record {
    args = number z h.args;
    left = h.left;
    names = h.names;
    leaves = h.leaves;
    sorted = h.sorted;
    few = h.few;
    have_grown = h.have_grown;
    below = h.below;
    added = h.added;
    spells = λ all g. ap (λ one. one ∷ left) e ∙ ap (λ ss. Plain (token.Number z) ∷ ss) (h.spells all g);
    fewer = omega (arith, h.fewer);
    gets = closed_as (closed_number here o z h.args) h.gets;
  }

  with_word : {es : List Expected} {here : List TermNode} {o : OpenTerm} {outer : List OpenTerm} {now next : List (List ℕ)} {sorts : List ArgSort} {symbol : Symbol} {left : List Symbol} (word : List ℕ) (n : ℕ) → symbol ≡ Named word →
      with_name now word ≡ Some (n, next) → HasRead (more d) es here (grown o (Name n)) outer next sorts left → HasRead (inside d) es here o outer now (sort.Name ∷ sorts) (symbol ∷ left)
  with_word {here = here} {o = o} {now = now} {next = next} {left = left} word n i e h =
      let a = adds now word n next e in
      let there : (all : List (List ℕ)) → HasGrown h.names all → word_at all n ≡ word = λ all g.
      ap (λ names. word_at names n) (grown_more h.have_grown g).is ∙ word_before next (grown_more h.have_grown g).added n a.within ∙ a.there in
      record {
        args = name n h.args;
        left = h.left;
        names = h.names;
        leaves = h.leaves;
        sorted = h.sorted;
        few = h.few;
        have_grown = grown_more a.grown h.have_grown;
        below = (omega (arith, a.within, longer h.have_grown), h.below);
        added = λ all g. ap (λ w. with_words now (w ∷ words_of_args all h.args)) (there all g) ∙ add_first now word (words_of_args all h.args) n next h.names e (h.added all g);
        spells = λ all g. ap (λ one. one ∷ left) i ∙ ap (λ w. Named w ∷ left) (sym (there all g)) ∙ ap (λ ss. Named (word_at all n) ∷ ss) (h.spells all g);
        fewer = omega (arith, h.fewer);
        gets = closed_as (closed_name here o n h.args) h.gets;
      }

  with_term : {es : List Expected} {here : List TermNode} {o : OpenTerm} {outer : List OpenTerm} {now : List (List ℕ)} {wanted : SortId} {sorts : List ArgSort} {symbols : List Symbol} (t : HasTerm es here o outer now wanted symbols) →
      HasRead (more d) es (here ++ nodes_from (length here) t.whole) (grown o (Point (length here))) outer t.names sorts t.left → HasRead (inside d) es here o outer now (sort.Term wanted ∷ sorts) symbols
  with_term {here = here} {o = o} {now = now} t h = record {
    args = term t.whole h.args;
    left = h.left;
    names = h.names;
    leaves = h.leaves;
    sorted = (t.fits, t.sorted, h.sorted);
    few = omega (arith, h.few, length-append here (nodes_from (length here) t.whole), length-nodes (length here) t.whole);
    have_grown = grown_more t.have_grown h.have_grown;
    below = (more_names (length t.names) (length h.names) t.whole (longer h.have_grown) t.below, h.below);
    added = λ all g. add_front now (words all t.whole) (words_of_args all h.args) t.names h.names (t.added all (grown_more h.have_grown g)) (h.added all g);
    spells = λ all g. t.spells all (grown_more h.have_grown g) ∙ ap (λ ss. spelled d all t.whole ss) (h.spells all g);
    fewer = omega (arith, t.fewer, h.fewer);
    gets = closed_as (closed_term here o t.whole h.args) h.gets;
  }

  with_comma : {es : List Expected} {here : List TermNode} {o : OpenTerm} {outer : List OpenTerm} {now : List (List ℕ)} {s : ArgSort} {sorts : List ArgSort} {symbol : Symbol} {left : List Symbol} → symbol ≡ Plain token.Comma →
      HasRead (inside d) es here o outer now (s ∷ sorts) left → HasRead (more d) es here o outer now (s ∷ sorts) (symbol ∷ left)
  with_comma {s = s} {sorts = sorts} {left = left} e h = record {
    args = h.args;
    left = h.left;
    names = h.names;
    leaves = h.leaves;
    sorted = h.sorted;
    few = h.few;
    have_grown = h.have_grown;
    below = h.below;
    added = h.added;
    spells = λ all g. ap (λ one. one ∷ left) e ∙ ap (λ ss. Plain token.Comma ∷ ss) (h.spells all g) ∙ sym (more_is d s sorts h.args h.sorted all h.left);
    fewer = omega (arith, h.fewer);
    gets = h.gets;
  }

  -- what a term's symbols are, where its arguments were read
  spelled_so : {es : List Expected} {here now_here : List TermNode} {leaves : List ℤ} {o : OpenTerm} {outer below : List OpenTerm} {now : List (List ℕ)} {wanted : Option SortId} {symbol : Symbol} {left : List Symbol}
      (t : TermTurn es here leaves below now wanted symbol left) {s : Reading} {expected : List Expected} (p : Opened expected s left) (i : HasRead (inside d) es now_here o outer now (arguments_of d t.c) p.left) →
      (all : List (List ℕ)) → HasGrown i.names all → symbol ∷ left ≡ spelled d all (con t.c i.args) i.left
  spelled_so {left = left} t p i all g =
      ap (λ one. one ∷ left) t.is ∙ ap (λ w. Named w ∷ left) (sym (named_so d t.word t.c t.found.named).1)
      ∙ ap (λ ss. Named (con_name d t.c) ∷ ss) p.is ∙ ap (λ ss. Named (con_name d t.c) ∷ Plain token.LeftParen ∷ ss) (i.spells all g)

  made_term : {es : List Expected} {here : List TermNode} {leaves : List ℤ} {o : OpenTerm} {outer : List OpenTerm} {now : List (List ℕ)} (wanted : SortId) {symbol : Symbol} {left : List Symbol}
      (t : TermTurn (After ∷ es) here leaves (grown o (Point (length here)) ∷ outer) now (Some wanted) symbol left)
      (p : Opened (First ∷ After ∷ es) (within d (here ++ node_begun t.c ∷ []) leaves (opened (length here) t.c) (grown o (Point (length here)) ∷ outer) now) left) →
      HasRead (inside d) (After ∷ es) (here ++ node_begun t.c ∷ []) (opened (length here) t.c) (grown o (Point (length here)) ∷ outer) now (arguments_of d t.c) p.left → HasTerm es here o outer now wanted (symbol ∷ left)
  made_term {here = here} wanted t p i =
      let long : length (here ++ node_begun t.c ∷ []) ≡ length here + 1 = omega (arith, length-append here (node_begun t.c ∷ [])) in
      record {
        whole = con t.c i.args;
        left = i.left;
        names = i.names;
        leaves = i.leaves;
        fits = fits_so wanted (sort_of_con d t.c) t.found.sorted;
        sorted = ((named_so d t.word t.c t.found.named).0, i.sorted);
        few = omega (arith, i.few, long);
        have_grown = i.have_grown;
        below = i.below;
        added = i.added;
        spells = λ all g. spelled_so t p i all g;
        fewer = omega (arith, i.fewer, ap length p.is);
        gets = closed_as (whole_is here t.c i.args long) i.gets;
      }

  begins : (c : ConId) (point : ℕ) → Awaits d (opened point c) (arguments_of d c)
  begins c point = record { front = []; arguments = refl; counted = refl }

  mutual
    inside_read : (n : ℕ) (sorts : List ArgSort) (symbols : List Symbol) {es : List Expected} {here : List TermNode} {leaves : List ℤ} {o : OpenTerm} {outer : List OpenTerm} {now : List (List ℕ)} → suc (length symbols) < n → length here ≤ 4096 →
        Awaits d o sorts → Comes from total (First ∷ es) (within d here leaves o outer now) symbols → HasRead (inside d) es here o outer now sorts symbols
    inside_read zero sorts symbols l f a g = absurd (omega (arith, l))
    inside_read (suc n) sorts [] l f a g = absurd (not_ended g)
    inside_read (suc n) [] (symbol ∷ left) {es = es} {here = here} {leaves = leaves} {o = o} {outer = outer} {now = now} l f a g =
        close_by (inside d) (λ all left. refl) leaves g.at (is_close symbol) refl g.place f (first_none g.at es left (within d here leaves o outer now) symbol (first_turn g a))
    inside_read (suc n) (wanted ∷ sorts) (symbol ∷ left) {es = es} {here = here} {leaves = leaves} {o = o} {outer = outer} {now = now} l f a g =
        argument_read n wanted sorts symbol left g.at leaves (omega (arith, l)) g.place f a (first_some g.at es left (within d here leaves o outer now) wanted symbol (first_turn g a))

    more_read : (n : ℕ) (sorts : List ArgSort) (symbols : List Symbol) {es : List Expected} {here : List TermNode} {leaves : List ℤ} {o : OpenTerm} {outer : List OpenTerm} {now : List (List ℕ)} → length symbols < n → length here ≤ 4096 →
        Awaits d o sorts → Comes from total (After ∷ es) (within d here leaves o outer now) symbols → HasRead (more d) es here o outer now sorts symbols
    more_read zero sorts symbols l f a g = absurd (omega (arith, l))
    more_read (suc n) sorts [] l f a g = absurd (not_ended g)
    more_read (suc n) [] (symbol ∷ left) {es = es} {here = here} {leaves = leaves} {o = o} {outer = outer} {now = now} l f a g =
        close_by (more d) (λ all left. refl) leaves g.at (is_close symbol) refl g.place f (after_none g.at es left (within d here leaves o outer now) symbol (after_turn g a))
    more_read (suc n) (wanted ∷ sorts) (symbol ∷ []) {es = es} {here = here} {leaves = leaves} {o = o} {outer = outer} {now = now} l f a g =
        let c = after_some g.at es [] (within d here leaves o outer now) wanted symbol (after_turn g a) in
        let on : Comes from total (Next ∷ es) (within d here leaves o outer now) [] = came g.at c.1 g.place in
        absurd (not_ended on)
    more_read (suc n) (wanted ∷ sorts) (symbol ∷ (one ∷ left)) {es = es} {here = here} {leaves = leaves} {o = o} {outer = outer} {now = now} l f a g =
        let c = after_some g.at es (one ∷ left) (within d here leaves o outer now) wanted symbol (after_turn g a) in
        let on : Comes from total (Next ∷ es) (within d here leaves o outer now) (one ∷ left) = came g.at c.1 g.place in
        with_comma c.0 (argument_read n wanted sorts one left on.at leaves (omega (arith, l)) on.place f a (next_turn on a))

    argument_read : (n : ℕ) (wanted : ArgSort) (sorts : List ArgSort) (symbol : Symbol) (left : List Symbol) (at : ℕ) (leaves : List ℤ) {es : List Expected} {here : List TermNode} {o : OpenTerm} {outer : List OpenTerm} {now : List (List ℕ)} →
        suc (length left) < n → at + suc (length left) ≡ total → length here ≤ 4096 → Awaits d o (wanted ∷ sorts) → Goes from at es left (argument (within d here leaves o outer now) wanted symbol) →
        HasRead (inside d) es here o outer now (wanted ∷ sorts) (symbol ∷ left)
    argument_read zero wanted sorts symbol left at leaves l p f a g = absurd (omega (arith, l))
    argument_read (suc n) sort.Number sorts symbol left at leaves {es} {here} {o} {outer} {now} l p f a g =
        let t : NumberTurn es here leaves o outer now symbol left = number_turn at p g in
        with_number t.value t.is (more_read n sorts left (omega (arith, l)) f (got (Number t.value) a) t.gets)
    argument_read (suc n) sort.Name sorts symbol left at leaves {es} {here} {o} {outer} {now} l p f a g =
        let t : NameTurn es here leaves o outer now symbol left = name_turn at p g in
        with_word t.word t.place t.is t.added (more_read n sorts left (omega (arith, l)) f (got (Name t.place) a) t.gets)
    argument_read (suc n) (sort.Term wanted) sorts symbol left at leaves {es} {here} {o} {outer} {now} l p f a g =
        let t : TermTurn (After ∷ es) here leaves (grown o (Point (length here)) ∷ outer) now (Some wanted) symbol left = subterm_turn o at wanted p g in
        let q = open_read left t.gets in
        let i = inside_read n (arguments_of d t.c) q.left (omega (arith, l, ap length q.is)) (omega (arith, t.found.few, length-append here (node_begun t.c ∷ []))) (begins t.c (length here)) q.gets in
        let m : HasTerm es here o outer now wanted (symbol ∷ left) = made_term wanted t q i in
        let few : length (here ++ nodes_from (length here) m.whole) ≤ 4096 = omega (arith, m.few, length-append here (nodes_from (length here) m.whole), length-nodes (length here) m.whole) in
        with_term m (more_read n sorts m.left (omega (arith, l, m.fewer)) few (got (Point (length here)) a) m.gets)

  -- the whole term
  record WholeRead (names : List (List ℕ)) (begin : ℕ) (symbols : List Symbol) : Type 0 where
    read : ReadTerm
    end : ℕ
    leaves : List ℤ
    is : from ≡ Ok (outside d read.nodes leaves [] read.names, end)
    begins_so : BeginWithTerm d names begin symbols read end

  root_read : (names : List (List ℕ)) (begin : ℕ) (symbols : List Symbol) → begin + length symbols ≡ total → Comes from total (Root ∷ []) (nothing d names) symbols → WholeRead names begin symbols
  root_read names begin [] all g = absurd (not_ended g)
  root_read names begin (symbol ∷ left) all g =
      let t = root_turn g in
      let q = open_read left t.gets in
      let i = inside_read (suc (suc (suc (length q.left)))) (arguments_of d t.c) q.left (omega arith) (omega arith) (begins t.c 0) q.gets in
      let whole = con t.c i.args in
      let spelled_as : symbol ∷ left ≡ spelling d i.names whole ++ i.left = spelled_so t q i i.names (same_names i.names) ∙ sym (spelling_then d i.names whole i.left) in
      record {
        read = record { nodes = closed (node_begun t.c ∷ []) (opened 0 t.c) i.args; names = i.names };
        end = i.gets.at;
        leaves = i.leaves;
        is = i.gets.is;
        begins_so = record {
          whole = whole;
          well_sorted = ((named_so d t.word t.c t.found.named).0, i.sorted);
          few = omega (arith, i.few);
          nodes_are = refl;
          names_are = i.added i.names (same_names i.names);
          names_below = i.below;
          left = i.left;
          symbols_are = spelled_as;
          end_is = omega (arith, i.gets.place, all, ap length spelled_as, length-append (spelling d i.names whole) i.left);
        };
      }

told_so : (from : Answer) (read : ReadTerm) (end : ℕ) → told from ≡ Ok (read, end) → (answer : Reading × ℕ) × (from ≡ Ok answer)
told_so (Ok answer) read end h = (answer, refl)
told_so (Err error) read end h = absurd (cc h)

abbrev Begins : Def → List (List ℕ) → ℕ → List Symbol → Result (ReadTerm × ℕ) (TermError × ℕ) → Type 0
Begins d names at symbols (Ok (read, end)) = BeginWithTerm d names at symbols read end
Begins d names at symbols (Err error) = Unit {0}

pub only_terms_are_read : (d : Def) (names : List (List ℕ)) (at : ℕ) (symbols : List Symbol) (read : ReadTerm) (end : ℕ) → read_term d names at symbols ≡ Ok (read, end) → BeginWithTerm d names at symbols read end
unfolding read_term read_symbols
only_terms_are_read d names at symbols read end h =
    let from : Answer = run term_rules 0 at (Root ∷ []) (nothing d names) symbols in
    let r = told_so from read end h in
    let w = root_read d from (at + length symbols) r.0 r.1 names at symbols refl (record { at = at; is = refl; place = refl }) in
    subst (λ (answer : Result (ReadTerm × ℕ) (TermError × ℕ)). Begins d names at symbols answer) (sym (ap told w.is) ∙ h) w.begins_so
