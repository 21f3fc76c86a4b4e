-- What is read is a well-sorted term.
use Rattle.std.proofs.Common.{◌≡◌, ℕ, ◌<◌, ◌≤◌, ℤ, Bool, true, false, cond, List, [], ◌∷◌, ◌++◌, length, refl, sym, ap, subst, ◌∙◌, arith, length-append, Option, Some, None, Result, Ok, Err}
use Rattle.std.specs.Option.{option_map_or}
use Rattle.std.specs.Prelude.{IfOk, OnOk, nat_lt, ◌==◌, option_map}
use Rattle.std.specs.Str.{bytes_eq}
use Rattle.std.proofs.lemmas.Bool.{ltb-true, eqb-true}
use Rattle.std.proofs.lemmas.List.Quantifiers.{position-Some}
use Rattle.std.proofs.lemmas.List.{append-nil}
use Rattle.sk_base.specs.Answer.{◌>>=◌, Gives}
use Rattle.sk_base.specs.Names.{with_name, place_of_name}
use Rattle.sk_lex.specs.Run.{Turn, run}
use Rattle.sk_lex.specs.Turns.{bad_of}
use Rattle.sk_lex.specs.declared.reader.Refused.{Refused}
use Rattle.sk_lex.specs.Symbols.{Symbol, word_of, number_of, is_open, is_close, is_comma}
use Rattle.sk_def.specs.Named.{con_named, place_of_con}
use Rattle.sk_def.specs.declared.ids.ConId.{ConId}
use Rattle.sk_def.specs.declared.ids.SortId.{SortId}
use Rattle.sk_def.specs.declared.sorts.ArgSort.{ArgSort}
use Rattle.sk_def.specs.declared.sorts.ArgSort.TheVariants as sort
use Rattle.sk_def.specs.declared.def.Def.{Def}
use Rattle.sk_term.specs.declared.expected.Expected.{Expected}
use Rattle.sk_term.specs.declared.expected.Expected.TheVariants.{Root, Open, First, After, Next}
use Rattle.sk_term.specs.declared.expected.OpenTerm.{OpenTerm}
use Rattle.sk_term.specs.declared.fault.TermError.{TermError}
use Rattle.sk_term.specs.declared.node.Child.TheVariants.{Number, Name, Point}
use Rattle.sk_term.specs.Terms.{none, number, name, sort_of_con, arguments_of}
use Rattle.sk_term.specs.Program.{AreOfSortedTerm}
use Rattle.sk_term.specs.Reading as spec
use Rattle.sk_term.specs.Reading.{Reading, Met, at_symbol, constructor, checked_con, has_sort, added_name, with_child, next_sort, closing, opening, root, subterm, argument, first, after, next, step, term_rules, nothing, read_symbols}
use Rattle.sk_term.proofs.Reached.{IsInside, HasBegun, Nothing, Reached, afters}
use Rattle.sk_term.proofs.Runs.{run_keeps}
use Rattle.sk_term.proofs.Turns.{given, begins, opened, waits, ends, ends_inside, head_of, next_is, grown}

-- what a turn leads to
abbrev pub Leads : List Expected → Turn Expected Reading → Type 0
Leads es turn = (turn.more ≡ 0) × Reached (turn.expected ++ es) turn.state

abbrev pub Lead : List Expected → Met → Type 0
Lead es r = IfOk r (Leads es)

where_true : {A E : Type 0} (b : Bool) (r : Result A E) (e : E) (P : A → Type 0) → (b ≡ true → IfOk r P) → IfOk (cond b r (Err e)) P
where_true true r e P h = h refl
where_true false r e P h = tt

where_false : {A E : Type 0} (b : Bool) (r : Result A E) (e : E) (P : A → Type 0) → IfOk r P → IfOk (cond b (Err e) r) P
where_false true r e P h = tt
where_false false r e P h = h

where_either : {A E : Type 0} (b : Bool) (r s : Result A E) (P : A → Type 0) → IfOk r P → IfOk s P → IfOk (cond b r s) P
where_either true r s P h k = h
where_either false r s P h k = k

bound : {A B C : Type 0} (r : Result A C) (f : A → Result B C) (P : A → Type 0) (Q : B → Type 0) → IfOk r P → ((x : A) → P x → IfOk (f x) Q) → IfOk (r >>= f) Q
bound (Ok x) f P Q h k = k x h
bound (Err e) f P Q h k = tt

-- the constructor that a word is
record IsNamed (d : Def) (wanted : Option SortId) (points : ℕ) (c : ConId) : Type 0 where
  declared : c.0 < length d.cons
  sorted : has_sort d wanted c ≡ true
  few : points < 4096

checked : (d : Def) (wanted : Option SortId) (points : ℕ) (found : Option ConId) → ((c : ConId) → found ≡ Some c → c.0 < length d.cons) → IfOk (checked_con d wanted points found) (IsNamed d wanted points)
checked d wanted points None h = tt
checked d wanted points (Some c) h =
    where_true (has_sort d wanted c) _ _ _ (λ s. where_true (nat_lt points 4096) _ _ _ (λ f. record { declared = h c refl; sorted = s; few = ltb-true points 4096 f }))

abbrev number_of_con : Option ConId → ℕ
number_of_con None = 0
number_of_con (Some c) = c.0

named_within : (d : Def) (word : List ℕ) (c : ConId) → con_named d word ≡ Some c → c.0 < length d.cons
named_within d word c h = by_place (place_of_con d.cons word) refl h where
  by_place : (found : Option ℕ) → place_of_con d.cons word ≡ found → option_map (λ place. record { 0 = place }) found ≡ Some c → c.0 < length d.cons
  by_place None e k = absurd (cc)
  by_place (Some place) e k =
      let here : place < length d.cons = (position-Some (λ con. bytes_eq con.name word) d.cons place (record { name = []; sort = record { 0 = 0 }; args = [] }) e).0 in
      let same : place ≡ c.0 = ap number_of_con k in
      omega arith

named : (d : Def) (wanted : Option SortId) (points : ℕ) (word : List ℕ) → IfOk (constructor d wanted points word) (IsNamed d wanted points)
unfolding constructor
named d wanted points word = checked d wanted points (con_named d word) (named_within d word)

sort_is : (wanted : SortId) (found : Option SortId) → option_map_or (λ (f : SortId). f.0 == wanted.0) found false ≡ true → found ≡ Some wanted
sort_is wanted None h = absurd (cc)
sort_is wanted (Some f) h = ap (λ (n : ℕ). Some (record { 0 = n })) (eqb-true f.0 wanted.0 h)

-- a name that is added lies below the names then, which are no fewer
abbrev Added : Type 0
Added = Option (ℕ × List (List ℕ))

abbrev by_place : List (List ℕ) → List ℕ → Option ℕ → Added
by_place names word (Some place) = Some (place, names)
by_place names word None = cond {A = Added} (nat_lt (length names) 64) (Some (length names, names ++ word ∷ [])) None

abbrev place_in : Added → ℕ
place_in None = 0
place_in (Some pair) = pair.0

abbrev names_in : Added → List (List ℕ)
names_in None = []
names_in (Some pair) = pair.1

place_below : (names : List (List ℕ)) (word : List ℕ) (found : Option ℕ) (place : ℕ) (all : List (List ℕ)) → place_of_name names word ≡ found → by_place names word found ≡ Some (place, all) →
    (place < length all) × (length names ≤ length all)
place_below names word (Some at) place all e h =
    let here : at < length names = (position-Some (λ entry. bytes_eq word entry) names at [] e).0 in
    let same : at ≡ place = ap place_in h in
    let many : length names ≡ length all = ap (λ added. length (names_in added)) h in
    (omega arith, omega arith)
place_below names word None place all e h = by_room (nat_lt (length names) 64) h where
  by_room : (room : Bool) → cond {A = Added} room (Some (length names, names ++ word ∷ [])) None ≡ Some (place, all) → (place < length all) × (length names ≤ length all)
  by_room true k =
      let same : length names ≡ place = ap place_in k in
      let many : length (names ++ word ∷ []) ≡ length all = ap (λ added. length (names_in added)) k in
      (omega (arith, length-append names (word ∷ [])), omega (arith, length-append names (word ∷ [])))
  by_room false k = absurd (cc)

name_below : (names : List (List ℕ)) (word : List ℕ) (place : ℕ) (all : List (List ℕ)) → with_name names word ≡ Some (place, all) → (place < length all) × (length names ≤ length all)
name_below names word place all h = place_below names word (place_of_name names word) place all refl h

-- where the innermost term is known
record IsAt (es : List Expected) (s : Reading) (rest : List ArgSort) : Type 0 where
  o : OpenTerm
  outer : List OpenTerm
  unclosed : s.unclosed ≡ o ∷ outer
  expected : es ≡ afters outer
  inside : IsInside s.def (length s.names) s.nodes s.literals o outer rest

number_leads : (es : List Expected) (s : Reading) (rest : List ArgSort) → IsAt es s (sort.Number ∷ rest) → (value : Option ℤ) → Lead es (spec.number s value)
unfolding spec.number
number_leads es s rest a None = tt
number_leads es s rest a (Some z) = (
  refl,
  record {
    innermost = grown a.o (Number z);
    outer = a.outer;
    rest = rest;
    unclosed = ap (with_child (Number z)) a.unclosed;
    expected_is = a.expected;
    inside = given a.inside (length s.names) (number z none) (Number z) (s.literals ++ z ∷ []) (omega arith) tt tt (λ p. refl) (λ p. refl) refl;
  },
)

added_leads : (es : List Expected) (s : Reading) (rest : List ArgSort) → IsAt es s (sort.Name ∷ rest) → (added : Option (ℕ × List (List ℕ))) →
    ((place : ℕ) (all : List (List ℕ)) → added ≡ Some (place, all) → (place < length all) × (length s.names ≤ length all)) → Lead es (added_name s added)
added_leads es s rest a None h = tt
added_leads es s rest a (Some (place, all)) h = (
  refl,
  record {
    innermost = grown a.o (Name place);
    outer = a.outer;
    rest = rest;
    unclosed = ap (with_child (Name place)) a.unclosed;
    expected_is = a.expected;
    inside = given a.inside (length all) (name place none) (Name place) s.literals (h place all refl).1 tt ((h place all refl).0, tt) (λ p. refl) (λ p. refl) (sym (append-nil s.literals));
  },
)

name_leads : (es : List Expected) (s : Reading) (rest : List ArgSort) → IsAt es s (sort.Name ∷ rest) → (word : Option (List ℕ)) → Lead es (spec.name s word)
unfolding spec.name
name_leads es s rest a None = tt
name_leads es s rest a (Some word) = added_leads es s rest a (with_name s.names word) (name_below s.names word)

subterm_leads : (es : List Expected) (s : Reading) (wanted : SortId) (rest : List ArgSort) → IsAt es s (sort.Term wanted ∷ rest) → (word : Option (List ℕ)) → Lead es (subterm s wanted word)
unfolding subterm
subterm_leads es s wanted rest a None = tt
subterm_leads es s wanted rest a (Some word) =
    bound (constructor s.def (Some wanted) (length s.nodes) word) _ _ (Leads es) (named s.def (Some wanted) (length s.nodes) word) (λ c k. (
      refl,
      record {
        innermost = opened s.nodes c;
        outer = grown a.o (Point (length s.nodes)) ∷ a.outer;
        rest = arguments_of s.def c;
        unclosed = ap (λ us. opened s.nodes c ∷ with_child (Point (length s.nodes)) us) a.unclosed;
        expected_is = ap (λ more. After ∷ more) a.expected;
        inside = begins s.def (length s.names) s.nodes s.literals c (grown a.o (Point (length s.nodes)) ∷ a.outer)
            (waits a.inside (sort_of_con s.def c) (sort_is wanted (sort_of_con s.def c) k.sorted)) k.declared k.few;
      },
    ))

argument_leads : (es : List Expected) (s : Reading) (wanted : ArgSort) (rest : List ArgSort) → IsAt es s (wanted ∷ rest) → (symbol : Symbol) → Lead es (argument s wanted symbol)
unfolding argument
argument_leads es s sort.Number rest a symbol = number_leads es s rest a (number_of symbol)
argument_leads es s sort.Name rest a symbol = name_leads es s rest a (word_of symbol)
argument_leads es s (sort.Term wanted) rest a symbol = subterm_leads es s wanted rest a (word_of symbol)

ended_leads : (s : Reading) (o : OpenTerm) (outer : List OpenTerm) → IsInside s.def (length s.names) s.nodes s.literals o outer [] → Reached (afters outer) (spec.ended (o ∷ outer) s)
ended_leads s o [] i = ends s.def (length s.names) s.nodes s.literals o i
ended_leads s o (next ∷ outer) i = record {
  innermost = next;
  outer = outer;
  rest = i.outside.rest;
  unclosed = refl;
  expected_is = refl;
  inside = ends_inside s.def (length s.names) s.nodes s.literals o next outer i;
}

closing_leads : (es : List Expected) (s : Reading) → IsAt es s [] → (symbol : Symbol) → Lead es (closing s symbol)
closing_leads es s a symbol =
    let P : List OpenTerm → Type 0 = λ unclosed. Reached es (spec.ended unclosed s) in
    let Q : List Expected → Type 0 = λ expected. Reached expected (spec.ended (a.o ∷ a.outer) s) in
    where_true (is_close symbol) _ _ _ (λ h. (refl, subst P (sym a.unclosed) (subst Q (sym a.expected) (ended_leads s a.o a.outer a.inside))))

first_leads : (es : List Expected) (s : Reading) (rest : List ArgSort) → IsAt es s rest → (symbol : Symbol) → Lead es (first s (head_of rest) symbol)
unfolding first
first_leads es s [] a symbol = closing_leads es s a symbol
first_leads es s (wanted ∷ rest) a symbol = where_false (is_close symbol) _ _ _ (argument_leads es s wanted rest a symbol)

next_leads : (es : List Expected) (s : Reading) (rest : List ArgSort) → IsAt es s rest → (symbol : Symbol) → Lead es (next s (head_of rest) symbol)
unfolding next
next_leads es s [] a symbol = tt
next_leads es s (wanted ∷ rest) a symbol = argument_leads es s wanted rest a symbol

has_begun : (es : List Expected) (s : Reading) (rest : List ArgSort) → IsAt es s rest → HasBegun es s
has_begun es s rest a = record {
  innermost = a.o;
  outer = a.outer;
  rest = rest;
  unclosed = a.unclosed;
  expected_is = a.expected;
  inside = a.inside;
}

after_leads : (es : List Expected) (s : Reading) (rest : List ArgSort) → IsAt es s rest → (symbol : Symbol) → Lead es (after s (head_of rest) symbol)
unfolding after
after_leads es s [] a symbol = where_false (is_comma symbol) _ _ _ (closing_leads es s a symbol)
after_leads es s (wanted ∷ rest) a symbol =
    where_either (is_comma symbol) _ _ (Leads es) (refl, has_begun es s (wanted ∷ rest) a) (where_false (is_close symbol) _ _ (Leads es) tt)

root_leads : (es : List Expected) (s : Reading) → es ≡ [] → Nothing s → (word : Option (List ℕ)) → Lead es (root s word)
unfolding root
root_leads es s e n None = tt
root_leads es s e n (Some word) =
    bound (constructor s.def None (length s.nodes) word) _ _ (Leads es) (named s.def None (length s.nodes) word) (λ c k. (
      refl,
      record {
        innermost = opened s.nodes c;
        outer = [];
        rest = arguments_of s.def c;
        unclosed = ap (λ us. opened s.nodes c ∷ us) n.unclosed;
        expected_is = e;
        inside = begins s.def (length s.names) s.nodes s.literals c [] (n.nodes, n.literals) k.declared k.few;
      },
    ))

placed : (at : ℕ) (es : List Expected) (r : Met) → Lead es r → IfOk (at_symbol at r) (Leads es)
placed at es (Ok turn) h = h
placed at es (Err e) h = tt

-- the sort that is wanted, in place of what it is computed from
is_at : (es : List Expected) (s : Reading) → (b : HasBegun es s) → IsAt es s b.rest
is_at es s b = record { o = b.innermost; outer = b.outer; unclosed = b.unclosed; expected = b.expected_is; inside = b.inside }

with_next : (es : List Expected) (s : Reading) (f : Option ArgSort → Met) → (b : HasBegun es s) → Lead es (f (head_of b.rest)) → Lead es (f (next_sort s.def s.unclosed))
with_next es s f b h =
    let P : Option ArgSort → Type 0 = λ wanted. Lead es (f wanted) in
    subst P (sym (next_is s.unclosed b.unclosed b.inside)) h

leads : (e : Expected) (es : List Expected) (s : Reading) (at : ℕ) (symbol : Symbol) (left : List Symbol) → Reached (e ∷ es) s → IfOk (at_symbol at (step s e symbol)) (Leads es)
unfolding step
leads Root es s at symbol left r = placed at es _ (root_leads es s r.0 r.1 (word_of symbol))
leads Open (First ∷ es) s at symbol left r = placed at (First ∷ es) _ (where_true (is_open symbol) _ _ (Leads (First ∷ es)) (λ h. (refl, r)))
leads Open [] s at symbol left r = absurd r
leads Open (Root ∷ es) s at symbol left r = absurd r
leads Open (Open ∷ es) s at symbol left r = absurd r
leads Open (After ∷ es) s at symbol left r = absurd r
leads Open (Next ∷ es) s at symbol left r = absurd r
leads First es s at symbol left r = placed at es _ (with_next es s (λ wanted. first s wanted symbol) r (first_leads es s r.rest (is_at es s r) symbol))
leads After es s at symbol left r = placed at es _ (with_next es s (λ wanted. after s wanted symbol) r (after_leads es s r.rest (is_at es s r) symbol))
leads Next es s at symbol left r = placed at es _ (with_next es s (λ wanted. next s wanted symbol) r (next_leads es s r.rest (is_at es s r) symbol))

-- what is read are the nodes of a well-sorted term
pub reads_term : (d : Def) (names : List (List ℕ)) (at : ℕ) (symbols : List Symbol) → IfOk (read_symbols d names at symbols) (λ read. AreOfSortedTerm read.0.def read.0.nodes read.0.literals (length read.0.names))
unfolding read_symbols
reads_term d names at symbols =
    run_keeps term_rules Reached (record { never = λ e. refl; turns = leads }) at (Root ∷ []) (nothing d names) symbols (refl, record { nodes = refl; literals = refl; unclosed = refl })

pub read_is : (d : Def) (names : List (List ℕ)) (at : ℕ) (symbols : List Symbol) (state : Reading) (end : ℕ) → read_symbols d names at symbols ≡ Ok (state, end) → state.def ≡ d →
    AreOfSortedTerm d state.nodes state.literals (length state.names)
read_is d names at symbols state end e same =
    let P : Result (Reading × ℕ) (TermError × ℕ) → Type 0 = λ r. IfOk r (λ read. AreOfSortedTerm read.0.def read.0.nodes read.0.literals (length read.0.names)) in
    let Q : Def → Type 0 = λ d. AreOfSortedTerm d state.nodes state.literals (length state.names) in
    subst Q same (subst P e (reads_term d names at symbols))

pub read_by : (d : Def) (names : List (List ℕ)) (at : ℕ) (symbols : List Symbol) (begun state : Reading) (r : Result ℕ (Refused TermError)) → begun ≡ nothing d names →
    Gives (λ end. (state, end)) bad_of r (run term_rules 0 at (Root ∷ []) begun symbols) → state.def ≡ d → OnOk r (AreOfSortedTerm d state.nodes state.literals (length state.names))
unfolding read_symbols
read_by d names at symbols begun state (Ok end) b g same = read_is d names at symbols state end (sym (ap (λ from. run term_rules 0 at (Root ∷ []) from symbols) b) ∙ g) same
read_by d names at symbols begun state (Err f) b g same = tt
