-- Spelled terms are read.
use Rattle.std.proofs.Common.{◌≡◌, ℕ, ◌+◌, ◌<◌, ◌≤◌, nat_lt, ℤ, true, false, if◌then◌else◌, List, [], ◌∷◌, ◌++◌, length, refl, sym, ap, subst, ◌∙◌, arith, length-append, Option, Some, None, Result, Ok, Err}
use Rattle.std.specs.Prelude.{slice_set, ◌==◌}
use Rattle.std.specs.List.{IsDistinct}
use Rattle.std.specs.Option.{option_map_or}
use Rattle.std.specs.Str.{bytes_eq}
use Rattle.std.proofs.lemmas.Bool.{lt-ltb, eq-eqb}
use Rattle.std.proofs.lemmas.List.{append-nil}
use Rattle.std.proofs.lemmas.Option.{same_Some}
use Rattle.sk_base.specs.Answer.{◌>>=◌}
use Rattle.sk_base.specs.Names.{with_name}
use Rattle.sk_lex.specs.Run.{run}
use Rattle.sk_lex.specs.Symbols.{Symbol, Named, Plain, is_close}
use Rattle.sk_lex.specs.declared.token.TokenKind.TheVariants as token
use Rattle.sk_def.specs.Named.{con_named}
use Rattle.sk_def.specs.declared.ids.ConId.{ConId}
use Rattle.sk_def.specs.declared.ids.SortId.{SortId}
use Rattle.sk_def.specs.declared.sorts.ArgSort.{ArgSort}
use Rattle.sk_def.specs.declared.sorts.ArgSort.TheVariants as sort
use Rattle.sk_def.specs.declared.def.Def.{Def}
use Rattle.sk_term.specs.declared.expected.Expected.{Expected}
use Rattle.sk_term.specs.declared.expected.Expected.TheVariants.{Root, Open, First, After, Next}
use Rattle.sk_term.specs.declared.expected.OpenTerm.{OpenTerm}
use Rattle.sk_term.specs.declared.fault.TermError.{TermError}
use Rattle.sk_term.specs.declared.fault.TermError.TheVariants.{WrongSort, WrongCount, TooManyPoints}
use Rattle.sk_term.specs.declared.node.Child.TheVariants.{Number, Name, Point}
use Rattle.sk_term.specs.declared.node.TermNode.{TermNode}
use Rattle.sk_term.specs.Terms.{Term, con, Args, none, number, name, term, node_count, node_count_of_args, nodes, nodes_from, IsWellSorted, HaveSorts, NamesAreBelow, NamesOfArgsAreBelow, sort_of_con, sort_of_term, arguments_of}
use Rattle.sk_term.specs.Reading as spec
use Rattle.sk_term.specs.Reading.{Reading, met, ReadTerm, at_symbol, constructor, checked_con, has_sort, added_name, with_child, node_begun, begun, next_sort, root, subterm, argument, first, after, next, step, term_rules, nothing, read_symbols, read_term}
use Rattle.sk_term.specs.Meets.{HasGrown}
use Rattle.sk_term.specs.Spelling.{con_name, word_at, spelling, words, words_of_args, with_words, ConstructorsAreFound, BeginWithTerm}
use Rattle.sk_term.proofs.Grown.{grown_more}
use Rattle.sk_term.proofs.Nodes.{length-nodes}
use Rattle.sk_term.proofs.Words.{place_is, first_added, words_grow, words_differ, front_added}
use Rattle.sk_term.proofs.Forms.{spelled, inside, more, spelling_then, Answer, told, Comes, within, outside, closed, grown, closed_none, closed_number, closed_name, closed_term, opened, whole_is, Awaits, awaited, got}

-- What each symbol is where it stands as it should.

open_is : (s : Reading) → step s Open (Plain token.LeftParen) ≡ met s []
unfolding step
open_is s = refl

first_is : (s : Reading) (wanted : ArgSort) (symbol : Symbol) → next_sort s.def s.unclosed ≡ Some wanted → is_close symbol ≡ false → step s First symbol ≡ argument s wanted symbol
unfolding step first
first_is s wanted symbol n c = ap (λ o. first s o symbol) n ∙ ap (λ b. if b then Err WrongCount else argument s wanted symbol) c

next_is : (s : Reading) (wanted : ArgSort) (symbol : Symbol) → next_sort s.def s.unclosed ≡ Some wanted → step s Next symbol ≡ argument s wanted symbol
unfolding step next
next_is s wanted symbol n = ap (λ o. next s o symbol) n

comma_is : (s : Reading) (wanted : ArgSort) → next_sort s.def s.unclosed ≡ Some wanted → step s After (Plain token.Comma) ≡ met s (Next ∷ [])
unfolding step after
comma_is s wanted n = ap (λ o. after s o (Plain token.Comma)) n

first_ends : (s : Reading) → next_sort s.def s.unclosed ≡ None → step s First (Plain token.RightParen) ≡ met (spec.ended s.unclosed s) []
unfolding step first
first_ends s n = ap (λ o. first s o (Plain token.RightParen)) n

after_ends : (s : Reading) → next_sort s.def s.unclosed ≡ None → step s After (Plain token.RightParen) ≡ met (spec.ended s.unclosed s) []
unfolding step after
after_ends s n = ap (λ o. after s o (Plain token.RightParen)) n

number_is : (s : Reading) (z : ℤ) → argument s sort.Number (Plain (token.Number z)) ≡ met (record s { literals = s.literals ++ z ∷ []; unclosed = with_child (Number z) s.unclosed }) (After ∷ [])
unfolding argument spec.number
number_is s z = refl

name_is : (s : Reading) (word : List ℕ) (place : ℕ) (names : List (List ℕ)) → with_name s.names word ≡ Some (place, names) →
    argument s sort.Name (Named word) ≡ met (record s { names = names; unclosed = with_child (Name place) s.unclosed }) (After ∷ [])
unfolding argument spec.name
name_is s word place names e = ap (added_name s) e

con_is : (d : Def) (wanted : Option SortId) (points : ℕ) (word : List ℕ) (c : ConId) → con_named d word ≡ Some c → has_sort d wanted c ≡ true → points < 4096 → constructor d wanted points word ≡ Ok c
unfolding constructor
con_is d wanted points word c e s few =
    ap (checked_con d wanted points) e ∙ ap (λ b. if b then (if nat_lt points 4096 then Ok c else Err TooManyPoints) else Err WrongSort) s
    ∙ ap (λ b. if b then Ok c else Err TooManyPoints) (lt-ltb points 4096 few)

subterm_is : (s : Reading) (wanted : SortId) (word : List ℕ) (c : ConId) → constructor s.def (Some wanted) (length s.nodes) word ≡ Ok c →
    argument s (sort.Term wanted) (Named word) ≡ met (begun c (record s { unclosed = with_child (Point (length s.nodes)) s.unclosed })) (Open ∷ First ∷ After ∷ [])
unfolding argument subterm
subterm_is s wanted word c e = ap (λ r. r >>= λ c. met (begun c (record s { unclosed = with_child (Point (length s.nodes)) s.unclosed })) (Open ∷ First ∷ After ∷ [])) e

root_is : (s : Reading) (word : List ℕ) (c : ConId) → constructor s.def None (length s.nodes) word ≡ Ok c → step s Root (Named word) ≡ met (begun c s) (Open ∷ First ∷ [])
unfolding step root
root_is s word c e = ap (λ r. r >>= λ c. met (begun c s) (Open ∷ First ∷ [])) e

sort_fits : (d : Def) (wanted : SortId) (c : ConId) → sort_of_con d c ≡ Some wanted → has_sort d (Some wanted) c ≡ true
sort_fits d wanted c e = ap (λ o. option_map_or (λ (found : SortId). found.0 == wanted.0) o false) e ∙ eq-eqb wanted.0 wanted.0 refl

turn : {from : Answer} {total : ℕ} {one : Expected} {below : List Expected} {s : Reading} {symbol : Symbol} {left : List Symbol} (g : Comes from total (one ∷ below) s (symbol ∷ left)) (reached : Reading) (expected : List Expected) →
    step s one symbol ≡ met reached expected → Comes from total (expected ++ below) reached left
turn {below = below} {left = left} g reached expected e = record {
  at = g.at + 1;
  is = g.is ∙ ap (λ m. at_symbol g.at m >>= λ turn. run term_rules turn.more (g.at + 1) (turn.expected ++ below) turn.state left) e;
  place = omega (arith, g.place);
}

-- where an argument of this sort stands
abbrev Takes : Reading → Expected → ArgSort → Type 0
Takes s place wanted = (symbol : Symbol) → is_close symbol ≡ false → step s place symbol ≡ argument s wanted symbol

module _ (d : Def) (found : ConstructorsAreFound d) (all : List (List ℕ)) (different : IsDistinct bytes_eq all) (from : Answer) (total : ℕ) where
  -- an open term has ended
  record Closed (es : List Expected) (here : List TermNode) (outer : List OpenTerm) (names : List (List ℕ)) (left : List Symbol) : Type 0 where
    leaves : List ℤ
    gets : Comes from total es (outside d here leaves outer names) left

  -- it has got an argument
  record Got (es : List Expected) (here : List TermNode) (o : OpenTerm) (outer : List OpenTerm) (names : List (List ℕ)) (left : List Symbol) : Type 0 where
    leaves : List ℤ
    gets : Comes from total (After ∷ es) (within d here leaves o outer names) left

  -- so many points and names, and the names that are added, of arguments and of terms
  record ArgsFit (here : List TermNode) (now after : List (List ℕ)) (args : Args) : Type 0 where
    few : length here + node_count_of_args args ≤ 4096
    below : NamesOfArgsAreBelow (length all) args
    added : with_words now (words_of_args all args) ≡ Some after
    grown : HasGrown after all

  record TermFits (here : List TermNode) (now after : List (List ℕ)) (t : Term) : Type 0 where
    few : length here + node_count t ≤ 4096
    below : NamesAreBelow (length all) t
    added : with_words now (words all t) ≡ Some after
    grown : HasGrown after all

  closed_so : {es : List Expected} {here there : List TermNode} {outer : List OpenTerm} {names : List (List ℕ)} {left : List Symbol} → here ≡ there → Closed es here outer names left → Closed es there outer names left
  closed_so {es} {outer = outer} {names = names} {left = left} e c = let P : List TermNode → Type 0 = λ ns. Closed es ns outer names left in subst P e c

  -- no argument more
  ends : {es : List Expected} {here : List TermNode} {leaves : List ℤ} {o : OpenTerm} {outer : List OpenTerm} {now after : List (List ℕ)} {left : List Symbol} (place : Expected) →
      ((s : Reading) → next_sort s.def s.unclosed ≡ None → step s place (Plain token.RightParen) ≡ met (spec.ended s.unclosed s) []) →
      Awaits d o [] → ArgsFit here now after none → Comes from total (place ∷ es) (within d here leaves o outer now) (Plain token.RightParen ∷ left) → Closed es (closed here o none) outer after left
  ends {es} {here} {leaves} {o} {outer} {now} {after} {left} place is a f g =
      let P : List (List ℕ) → Type 0 = λ names. Closed es (closed here o none) outer names left in
      let s = within d here leaves o outer now in
      subst P (same_Some now after f.added)
      (closed_so (closed_none here o) (record { leaves = leaves; gets = turn g (outside d (slice_set here o.point o.node) leaves outer now) [] (is s (awaited outer a)) }))

  number_read : {es : List Expected} {here : List TermNode} {leaves : List ℤ} {o : OpenTerm} {outer : List OpenTerm} {now : List (List ℕ)} {left : List Symbol} (place : Expected) (z : ℤ) →
      Takes (within d here leaves o outer now) place sort.Number → Comes from total (place ∷ es) (within d here leaves o outer now) (Plain (token.Number z) ∷ left) →
      Comes from total (After ∷ es) (within d here (leaves ++ z ∷ []) (grown o (Number z)) outer now) left
  number_read {here = here} {leaves = leaves} {o = o} {outer = outer} {now = now} place z t g =
      let s = within d here leaves o outer now in
      turn g (within d here (leaves ++ z ∷ []) (grown o (Number z)) outer now) (After ∷ []) (t (Plain (token.Number z)) refl ∙ number_is s z)

  name_read : {es : List Expected} {here : List TermNode} {leaves : List ℤ} {o : OpenTerm} {outer : List OpenTerm} {now : List (List ℕ)} {left : List Symbol} (place : Expected) (word : List ℕ) (n : ℕ) (names : List (List ℕ)) →
      with_name now word ≡ Some (n, names) → Takes (within d here leaves o outer now) place sort.Name → Comes from total (place ∷ es) (within d here leaves o outer now) (Named word ∷ left) →
      Comes from total (After ∷ es) (within d here leaves (grown o (Name n)) outer names) left
  name_read {here = here} {leaves = leaves} {o = o} {outer = outer} {now = now} place word n names e t g =
      let s = within d here leaves o outer now in
      turn g (within d here leaves (grown o (Name n)) outer names) (After ∷ []) (t (Named word) refl ∙ name_is s word n names e)

  -- what is left to add after a name, and after a term
  record NameFits (here : List TermNode) (now after : List (List ℕ)) (n : ℕ) (rest : Args) : Type 0 where
    next : List (List ℕ)
    first : with_name now (word_at all n) ≡ Some (n, next)
    others : ArgsFit here next after rest

  name_fits : (here : List TermNode) (now after : List (List ℕ)) (n : ℕ) (rest : Args) → ArgsFit here now after (name n rest) → NameFits here now after n rest
  name_fits here now after n rest f =
      let w = first_added now (word_at all n) (words_of_args all rest) after f.added in
      let grows = grown_more (words_grow w.next (words_of_args all rest) after w.others) f.grown in
      let same = place_is all now w.next n w.place different f.below.0 w.first grows in
      record { next = w.next; first = w.first ∙ ap (λ (k : ℕ). Some (k, w.next)) same; others = record { few = f.few; below = f.below.1; added = w.others; grown = f.grown } }

  record FrontFits (here : List TermNode) (now after : List (List ℕ)) (t : Term) (rest : Args) : Type 0 where
    middle : List (List ℕ)
    first : TermFits here now middle t
    others : ArgsFit (here ++ nodes_from (length here) t) middle after rest

  front_fits : (here : List TermNode) (now after : List (List ℕ)) (t : Term) (rest : Args) → ArgsFit here now after (term t rest) → FrontFits here now after t rest
  front_fits here now after t rest f =
      let w = front_added now (words all t) (words_of_args all rest) after f.added in
      record {
        middle = w.middle;
        first = record { few = omega (arith, f.few); below = f.below.0; added = w.first; grown = grown_more (words_grow w.middle (words_of_args all rest) after w.others) f.grown };
        others = record { few = omega (arith, f.few, length-append here (nodes_from (length here) t), length-nodes (length here) t); below = f.below.1; added = w.others; grown = f.grown };
      }

  comma : {es : List Expected} {here : List TermNode} {leaves : List ℤ} {o : OpenTerm} {outer : List OpenTerm} {now : List (List ℕ)} {s : ArgSort} {sorts : List ArgSort} {left : List Symbol} → Awaits d o (s ∷ sorts) →
      Comes from total (After ∷ es) (within d here leaves o outer now) (Plain token.Comma ∷ left) → Comes from total (Next ∷ es) (within d here leaves o outer now) left
  comma {here = here} {leaves = leaves} {o = o} {outer = outer} {now = now} {s = s} a g = turn g (within d here leaves o outer now) (Next ∷ []) (comma_is (within d here leaves o outer now) s (awaited outer a))

  mutual
    inside_read : (args : Args) (sorts : List ArgSort) {es : List Expected} {here : List TermNode} {leaves : List ℤ} {o : OpenTerm} {outer : List OpenTerm} {now after : List (List ℕ)} {left : List Symbol} →
        HaveSorts d args sorts → Awaits d o sorts → ArgsFit here now after args → Comes from total (First ∷ es) (within d here leaves o outer now) (inside d all args left) → Closed es (closed here o args) outer after left
    inside_read none [] h a f g = ends First first_ends a f g
    inside_read (number z rest) (sort.Number ∷ sorts) {here = here} {leaves = leaves} {o = o} {outer = outer} {now = now} h a f g =
        let t = first_is (within d here leaves o outer now) sort.Number in
        closed_so (closed_number here o z rest)
        (more_read rest sorts h (got (Number z) a) (record { few = f.few; below = f.below; added = f.added; grown = f.grown }) (number_read First z (λ symbol c. t symbol (awaited outer a) c) g))
    inside_read (name n rest) (sort.Name ∷ sorts) {here = here} {leaves = leaves} {o = o} {outer = outer} {now = now} {after = after} h a f g =
        let t = first_is (within d here leaves o outer now) sort.Name in
        let w = name_fits here now after n rest f in
        closed_so (closed_name here o n rest)
        (more_read rest sorts h (got (Name n) a) w.others (name_read First (word_at all n) n w.next w.first (λ symbol c. t symbol (awaited outer a) c) g))
    inside_read (term one rest) (sort.Term s ∷ sorts) {here = here} {leaves = leaves} {o = o} {outer = outer} {now = now} {after = after} h a f g =
        let t = first_is (within d here leaves o outer now) (sort.Term s) in
        let w = front_fits here now after one rest f in
        let r = term_read one s First (λ symbol c. t symbol (awaited outer a) c) h.0 h.1 w.first g in
        closed_so (closed_term here o one rest) (more_read rest sorts h.2 (got (Point (length here)) a) w.others r.gets)
    inside_read none (s ∷ sorts) h a f g = absurd h
    inside_read (number z rest) [] h a f g = absurd h
    inside_read (number z rest) (sort.Name ∷ sorts) h a f g = absurd h
    inside_read (number z rest) (sort.Term s ∷ sorts) h a f g = absurd h
    inside_read (name n rest) [] h a f g = absurd h
    inside_read (name n rest) (sort.Number ∷ sorts) h a f g = absurd h
    inside_read (name n rest) (sort.Term s ∷ sorts) h a f g = absurd h
    inside_read (term one rest) [] h a f g = absurd h
    inside_read (term one rest) (sort.Number ∷ sorts) h a f g = absurd h
    inside_read (term one rest) (sort.Name ∷ sorts) h a f g = absurd h

    more_read : (args : Args) (sorts : List ArgSort) {es : List Expected} {here : List TermNode} {leaves : List ℤ} {o : OpenTerm} {outer : List OpenTerm} {now after : List (List ℕ)} {left : List Symbol} →
        HaveSorts d args sorts → Awaits d o sorts → ArgsFit here now after args → Comes from total (After ∷ es) (within d here leaves o outer now) (more d all args left) → Closed es (closed here o args) outer after left
    more_read none [] h a f g = ends After after_ends a f g
    more_read (number z rest) (sort.Number ∷ sorts) {here = here} {leaves = leaves} {o = o} {outer = outer} {now = now} h a f g =
        let t = next_is (within d here leaves o outer now) sort.Number in
        closed_so (closed_number here o z rest)
        (more_read rest sorts h (got (Number z) a) (record { few = f.few; below = f.below; added = f.added; grown = f.grown }) (number_read Next z (λ symbol c. t symbol (awaited outer a)) (comma a g)))
    more_read (name n rest) (sort.Name ∷ sorts) {here = here} {leaves = leaves} {o = o} {outer = outer} {now = now} {after = after} h a f g =
        let t = next_is (within d here leaves o outer now) sort.Name in
        let w = name_fits here now after n rest f in
        closed_so (closed_name here o n rest)
        (more_read rest sorts h (got (Name n) a) w.others (name_read Next (word_at all n) n w.next w.first (λ symbol c. t symbol (awaited outer a)) (comma a g)))
    more_read (term one rest) (sort.Term s ∷ sorts) {here = here} {leaves = leaves} {o = o} {outer = outer} {now = now} {after = after} h a f g =
        let t = next_is (within d here leaves o outer now) (sort.Term s) in
        let w = front_fits here now after one rest f in
        let r = term_read one s Next (λ symbol c. t symbol (awaited outer a)) h.0 h.1 w.first (comma a g) in
        closed_so (closed_term here o one rest) (more_read rest sorts h.2 (got (Point (length here)) a) w.others r.gets)
    more_read none (s ∷ sorts) h a f g = absurd h
    more_read (number z rest) [] h a f g = absurd h
    more_read (number z rest) (sort.Name ∷ sorts) h a f g = absurd h
    more_read (number z rest) (sort.Term s ∷ sorts) h a f g = absurd h
    more_read (name n rest) [] h a f g = absurd h
    more_read (name n rest) (sort.Number ∷ sorts) h a f g = absurd h
    more_read (name n rest) (sort.Term s ∷ sorts) h a f g = absurd h
    more_read (term one rest) [] h a f g = absurd h
    more_read (term one rest) (sort.Number ∷ sorts) h a f g = absurd h
    more_read (term one rest) (sort.Name ∷ sorts) h a f g = absurd h

    -- a term as an argument
    term_read : (t : Term) (wanted : SortId) (place : Expected) {es : List Expected} {here : List TermNode} {leaves : List ℤ} {o : OpenTerm} {outer : List OpenTerm} {now after : List (List ℕ)} {left : List Symbol} →
        Takes (within d here leaves o outer now) place (sort.Term wanted) → sort_of_term d t ≡ Some wanted → IsWellSorted d t → TermFits here now after t →
        Comes from total (place ∷ es) (within d here leaves o outer now) (spelled d all t left) → Got es (here ++ nodes_from (length here) t) (grown o (Point (length here))) outer after left
    term_read (con c args) wanted place {es} {here} {leaves} {o} {outer} {now} {after} {left} takes fits w f g =
        let s = within d here leaves o outer now in
        let below = grown o (Point (length here)) ∷ outer in
        let front = here ++ node_begun c ∷ [] in
        let long : length front ≡ length here + 1 = omega (arith, length-append here (node_begun c ∷ [])) in
        let begins = within d front leaves (opened (length here) c) below now in
        let few : length here < 4096 = omega (arith, f.few) in
        let named = con_is d (Some wanted) (length here) (con_name d c) c (found c w.0) (sort_fits d wanted c fits) few in
        let entered = turn (turn g begins (Open ∷ First ∷ After ∷ []) (takes (Named (con_name d c)) refl ∙ subterm_is s wanted (con_name d c) c named)) begins [] (open_is begins) in
        let a : Awaits d (opened (length here) c) (arguments_of d c) = record { front = []; arguments = refl; counted = refl } in
        let r = inside_read args (arguments_of d c) w.1 a (record { few = omega (arith, f.few, long); below = f.below; added = f.added; grown = f.grown }) entered in
        let P : List TermNode → Type 0 = λ ns. Comes from total (After ∷ es) (outside d ns r.leaves below after) left in
        record { leaves = r.leaves; gets = subst P (whole_is here c args long) r.gets }

  -- the whole term
  root_read : (names after : List (List ℕ)) (t : Term) {left : List Symbol} → IsWellSorted d t → TermFits [] names after t → Comes from total (Root ∷ []) (nothing d names) (spelled d all t left) → Closed [] (nodes t) [] after left
  root_read names after (con c args) w f g =
      let begins = within d (node_begun c ∷ []) [] (opened 0 c) [] names in
      let few : 0 < 4096 = omega arith in
      let named = con_is d None 0 (con_name d c) c (found c w.0) refl few in
      let entered = turn (turn g begins (Open ∷ First ∷ []) (root_is (nothing d names) (con_name d c) c named)) begins [] (open_is begins) in
      let a : Awaits d (opened 0 c) (arguments_of d c) = record { front = []; arguments = refl; counted = refl } in
      inside_read args (arguments_of d c) w.1 a (record { few = omega (arith, f.few); below = f.below; added = f.added; grown = f.grown }) entered

abbrev read_to : List TermNode → List (List ℕ) → ℕ → Result (ReadTerm × ℕ) (TermError × ℕ)
read_to nodes names end = Ok (record { nodes = nodes; names = names }, end)

pub terms_are_read : (d : Def) (names : List (List ℕ)) (at : ℕ) (symbols : List Symbol) (read : ReadTerm) (end : ℕ) → ConstructorsAreFound d → IsDistinct bytes_eq names → BeginWithTerm d names at symbols read end →
    read_term d names at symbols ≡ Ok (read, end)
unfolding read_term read_symbols
terms_are_read d names at symbols read end found different b =
    let own = spelling d read.names b.whole in
    let from : Answer = run term_rules 0 at (Root ∷ []) (nothing d names) symbols in
    let symbols_are : symbols ≡ spelled d read.names b.whole b.left = b.symbols_are ∙ spelling_then d read.names b.whole b.left in
    let start : Comes from (at + length symbols) (Root ∷ []) (nothing d names) (spelled d read.names b.whole b.left) =
    record { at = at; is = ap (λ ss. run term_rules 0 at (Root ∷ []) (nothing d names) ss) symbols_are; place = omega (arith, ap length symbols_are) } in
    let all_differ = words_differ names (words read.names b.whole) read.names b.names_are different in
    let r = root_read d found read.names all_differ from (at + length symbols) names read.names b.whole b.well_sorted
    (record { few = omega (arith, b.few); below = b.names_below; added = b.names_are; grown = record { added = []; is = sym (append-nil read.names) } }) start in
    let place : r.gets.at ≡ end = omega (arith, r.gets.place, ap length b.symbols_are, length-append own b.left, b.end_is) in
    ap told r.gets.is ∙ ap (λ ns. read_to ns read.names r.gets.at) (sym b.nodes_are) ∙ ap (λ n. read_to read.nodes read.names n) place
