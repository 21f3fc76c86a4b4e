-- What is read are values of the sorts.
use Rattle.std.proofs.Common.{◌≡◌, ℕ, zero, suc, ◌+◌, ◌-◌, ◌<◌, ◌≤◌, Bool, true, false, cond, List, [], ◌∷◌, ◌++◌, length, replicate, refl, sym, ap, subst, ◌∙◌, arith, length-append, length-set, append_assoc, Option, Some, None, Result, Ok, Err}
use Rattle.std.specs.Prelude.{IfOk, OnOk, nat_lt, slice_get}
use Rattle.std.specs.Option.{option_map}
use Rattle.std.specs.Str.{bytes_eq}
use Rattle.std.specs.List.{list_all}
use Rattle.std.proofs.lemmas.List.{append-nil, length-replicate}
use Rattle.std.proofs.lemmas.List.Quantifiers.{position-Some}
use Rattle.sk_base.specs.Answer.{◌>>=◌, Gives}
use Rattle.sk_base.specs.Names.{with_name, place_of_name}
use Rattle.sk_base.specs.declared.flow.FlowSort.{FlowSort}
use Rattle.sk_base.specs.declared.flow.FlowSort.TheVariants as sort
use Rattle.sk_lex.specs.Run.{Turn, Rules, run}
use Rattle.sk_lex.specs.Symbols.{Symbol, word_of, number_of, is_open, is_close, is_comma, is_equals, is_left_brace, is_right_brace}
use Rattle.sk_lex.specs.Turns.{bad_of}
use Rattle.sk_lex.specs.declared.reader.Refused.{Refused}
use Rattle.sk_value.specs.declared.flow.Flow.{Flow}
use Rattle.sk_value.specs.declared.value.Value.{Value}
use Rattle.sk_value.specs.Padding.{padded_store}
use Rattle.sk_term.proofs.Runs.{run_keeps}
use Rattle.sk_deriv.specs.declared.expected.Expected.{Expected}
use Rattle.sk_deriv.specs.declared.expected.Expected.TheVariants.{Open, Item, After, FirstName, NextName, Equals, SetTo, AfterName}
use Rattle.sk_deriv.specs.declared.fault.TupleError.{TupleError}
use Rattle.sk_deriv.specs.Meets.{HoldsNumbers, IsRead}
use Rattle.sk_deriv.specs.Reading as spec
use Rattle.sk_deriv.specs.Reading.{Reading, Met, at_symbol, next_sort, truth_of, value_of, is_set, with_value, given, value, begun, closing, item, after, ended, named, first_name, after_name, set_to, mark, step, tuple_rules, nothing, read_symbols}
use Rattle.sk_deriv.proofs.TupleShapes.{HasShape, HaveShapes, shapes_by_more, shapes_and, head_of, next_is, as_many_values, padded_have_sorts}

-- the values that were read have the first sorts, and these are left
pub record HasRead (state : Reading) (rest : List FlowSort) : Type 0 where
  pub front : List FlowSort
  pub sorts : state.sorts ≡ front ++ rest
  pub shapes : HaveShapes (length state.names) front state.flows
  pub short : length state.store ≤ length state.names

pub record IsBetween (state : Reading) : Type 0 where
  pub rest : List FlowSort
  pub read : HasRead state rest

-- a store is wanted
pub record IsInStore (state : Reading) : Type 0 where
  pub rest : List FlowSort
  pub read : HasRead state (sort.Store ∷ rest)

-- what was read, by what is expected
abbrev pub Reached : List Expected → Reading → Type 0
Reached [] state = HaveShapes (length state.names) state.sorts state.flows
Reached (Open ∷ es) state = (es ≡ Item ∷ []) × IsBetween state
Reached (Item ∷ es) state = (es ≡ []) × IsBetween state
Reached (After ∷ es) state = (es ≡ []) × IsBetween state
Reached (FirstName ∷ es) state = (es ≡ After ∷ []) × IsInStore state
Reached (NextName ∷ es) state = (es ≡ After ∷ []) × IsInStore state
Reached (AfterName ∷ es) state = (es ≡ After ∷ []) × IsInStore state
Reached (Equals ∷ es) state = (es ≡ SetTo ∷ AfterName ∷ After ∷ []) × IsInStore state × (state.name < length state.names)
Reached (SetTo ∷ es) state = (es ≡ AfterName ∷ After ∷ []) × IsInStore state × (state.name < length state.names)

-- what a turn leads to
abbrev pub Leads : List Expected → Turn Expected Reading → Type 0
Leads es turn = (turn.more ≡ 0) × Reached (turn.expected ++ es) turn.state

abbrev pub Lead : List Expected → Met → Type 0
Lead es r = IfOk r (Leads es)

where_true : {A E : Type 0} (b : Bool) (r : Result A E) (e : E) (P : A → Type 0) → (b ≡ true → IfOk r P) → IfOk (cond b r (Err e)) P
where_true true r e P h = h refl
where_true false r e P h = tt

where_false : {A E : Type 0} (b : Bool) (r : Result A E) (e : E) (P : A → Type 0) → IfOk r P → IfOk (cond b (Err e) r) P
where_false true r e P h = tt
where_false false r e P h = h

where_either : {A E : Type 0} (b : Bool) (r s : Result A E) (P : A → Type 0) → IfOk r P → IfOk s P → IfOk (cond b r s) P
where_either true r s P h k = h
where_either false r s P h k = k

-- a name that is added lies below the names then, which are no fewer
abbrev Added : Type 0
Added = Option (ℕ × List (List ℕ))

abbrev by_place : List (List ℕ) → List ℕ → Option ℕ → Added
by_place names word (Some place) = Some (place, names)
by_place names word None = cond {A = Added} (nat_lt (length names) 64) (Some (length names, names ++ word ∷ [])) None

abbrev place_in : Added → ℕ
place_in None = 0
place_in (Some pair) = pair.0

abbrev names_in : Added → List (List ℕ)
names_in None = []
names_in (Some pair) = pair.1

place_below : (names : List (List ℕ)) (word : List ℕ) (found : Option ℕ) (place : ℕ) (all : List (List ℕ)) → place_of_name names word ≡ found → by_place names word found ≡ Some (place, all) →
    (place < length all) × (length names ≤ length all)
place_below names word (Some at) place all e h =
    let here : at < length names = (position-Some (λ entry. bytes_eq word entry) names at [] e).0 in
    let same : at ≡ place = ap place_in h in
    let many : length names ≡ length all = ap (λ added. length (names_in added)) h in
    (omega arith, omega arith)
place_below names word None place all e h = by_room (nat_lt (length names) 64) h where
  by_room : (room : Bool) → cond {A = Added} room (Some (length names, names ++ word ∷ [])) None ≡ Some (place, all) → (place < length all) × (length names ≤ length all)
  by_room true k =
      let same : length names ≡ place = ap place_in k in
      let many : length (names ++ word ∷ []) ≡ length all = ap (λ added. length (names_in added)) k in
      (omega (arith, length-append names (word ∷ [])), omega (arith, length-append names (word ∷ [])))
  by_room false k = absurd (cc)

name_below : (names : List (List ℕ)) (word : List ℕ) (place : ℕ) (all : List (List ℕ)) → with_name names word ≡ Some (place, all) → (place < length all) × (length names ≤ length all)
name_below names word place all h = place_below names word (place_of_name names word) place all refl h

-- a value was read
one_more : (s : Reading) (wanted : FlowSort) (rest : List FlowSort) (flow : Flow) → HasRead s (wanted ∷ rest) → HasShape (length s.names) wanted flow → HasRead (record s { flows = s.flows ++ flow ∷ [] }) rest
one_more s wanted rest flow h k = record {
  front = h.front ++ wanted ∷ [];
  sorts = h.sorts ∙ sym (append_assoc h.front (wanted ∷ []) rest);
  shapes = shapes_and (length s.names) h.front s.flows wanted flow h.shapes k;
  short = h.short;
}

given_leads : {A : Type 0} (s : Reading) (wanted : FlowSort) (rest : List FlowSort) (make : A → Flow) (found : Option A) → HasRead s (wanted ∷ rest) → ((x : A) → HasShape (length s.names) wanted (make x)) →
    Lead [] (given s (option_map make found))
given_leads s wanted rest make None h k = tt
given_leads s wanted rest make (Some x) h k = (refl, (refl, record { rest = rest; read = one_more s wanted rest (make x) h (k x) }))

value_leads : (s : Reading) (wanted : FlowSort) (rest : List FlowSort) → HasRead s (wanted ∷ rest) → (symbol : Symbol) → Lead [] (value s wanted symbol)
unfolding value
value_leads s sort.Int rest h symbol = given_leads s sort.Int rest Flow.Int (number_of symbol) h (λ x. tt)
value_leads s sort.Bool rest h symbol = given_leads s sort.Bool rest Flow.Bool (truth_of symbol) h (λ x. tt)
value_leads s sort.Val rest h symbol = given_leads s sort.Val rest Flow.Val (value_of symbol) h (λ x. tt)
value_leads s sort.Store rest h symbol = where_true (is_left_brace symbol) _ _ _ (λ e. (refl, (refl, record { rest = rest; read = h })))

all_read : (s : Reading) → HasRead s [] → HaveShapes (length s.names) s.sorts s.flows
all_read s h = subst (λ sorts. HaveShapes (length s.names) sorts s.flows) (sym (h.sorts ∙ append-nil h.front)) h.shapes

closing_leads : (s : Reading) → HasRead s [] → (symbol : Symbol) → Lead [] (closing s symbol)
closing_leads s h symbol = where_either (is_close symbol) _ _ (Leads []) (refl, all_read s h) (where_either (is_comma symbol) _ _ (Leads []) tt tt)

item_leads : (s : Reading) (rest : List FlowSort) → HasRead s rest → (symbol : Symbol) → Lead [] (item s (head_of rest) symbol)
unfolding item
item_leads s [] h symbol = closing_leads s h symbol
item_leads s (wanted ∷ rest) h symbol = where_false (is_close symbol) _ _ _ (value_leads s wanted rest h symbol)

after_leads : (s : Reading) (rest : List FlowSort) → HasRead s rest → (symbol : Symbol) → Lead [] (after s (head_of rest) symbol)
unfolding after
after_leads s [] h symbol = closing_leads s h symbol
after_leads s (wanted ∷ rest) h symbol =
    where_either (is_comma symbol) _ _ (Leads []) (refl, (refl, record { rest = wanted ∷ rest; read = h })) (where_false (is_close symbol) _ _ (Leads []) tt)

-- the sort that is wanted, in place of what it is computed from
with_next : (s : Reading) (rest : List FlowSort) (f : Option FlowSort → Met) → HasRead s rest → Lead [] (f (head_of rest)) → Lead [] (f (next_sort s))
with_next s rest f h k =
    let P : Option FlowSort → Type 0 = λ wanted. Lead [] (f wanted) in
    subst P (sym (ap (λ (sorts : List FlowSort). slice_get sorts (length s.flows)) h.sorts ∙ next_is (length s.names) h.front rest s.flows h.shapes)) k

ended_read : (s : Reading) (rest : List FlowSort) → HasRead s (sort.Store ∷ rest) → HasRead (ended s) rest
ended_read s rest h = record {
  front = h.front ++ sort.Store ∷ [];
  sorts = h.sorts ∙ sym (append_assoc h.front (sort.Store ∷ []) rest);
  shapes = shapes_and (length s.names) h.front s.flows sort.Store (Flow.Store s.store) h.shapes h.short;
  short = omega arith;
}

ended_leads : (s : Reading) → IsInStore s → Leads (After ∷ []) (spec.turn_to (ended s) [])
ended_leads s i = (refl, (refl, record { rest = i.rest; read = ended_read s i.rest i.read }))

named_read : (s : Reading) (place : ℕ) (all : List (List ℕ)) → IsInStore s → length s.names ≤ length all → IsInStore (record s { name = place; names = all })
named_read s place all i h = record {
  rest = i.rest;
  read = record {
    front = i.read.front;
    sorts = i.read.sorts;
    shapes = shapes_by_more (length s.names) (length all) i.read.front s.flows h i.read.shapes;
    short = omega (arith, i.read.short, h);
  };
}

named_leads : (s : Reading) (added : Added) → IsInStore s → ((place : ℕ) (all : List (List ℕ)) → added ≡ Some (place, all) → (place < length all) × (length s.names ≤ length all)) → Lead (After ∷ []) (named s added)
named_leads s None i h = tt
named_leads s (Some (place, all)) i h =
    let k = h place all refl in
    where_false (is_set s.store place) _ _ (Leads (After ∷ [])) (refl, (refl, named_read s place all i k.1, k.0))

name_leads : (s : Reading) → IsInStore s → (word : Option (List ℕ)) → Lead (After ∷ []) (spec.name s word)
unfolding spec.name
name_leads s i None = tt
name_leads s i (Some word) = named_leads s (with_name s.names word) i (name_below s.names word)

set_long : (store : List (Option Value)) (place names : ℕ) (v : Value) → length store ≤ names → place < names → length (with_value store place v) ≤ names
set_long store place names v h k =
    omega (arith, length-set (padded_store (place + 1) store) place (Some v), length-append store (replicate ((place + 1) - length store) None), length-replicate {A = Option Value} ((place + 1) - length store) None)

set_leads : (s : Reading) → IsInStore s → s.name < length s.names → (found : Option Value) → Lead (AfterName ∷ After ∷ []) (set_to s found)
unfolding set_to
set_leads s i k None = tt
set_leads s i k (Some v) = (
  refl,
  (
    refl,
    record {
      rest = i.rest;
      read = record {
        front = i.read.front;
        sorts = i.read.sorts;
        shapes = i.read.shapes;
        short = set_long s.store s.name (length s.names) v i.read.short k;
      };
    },
  ),
)

placed : (at : ℕ) (es : List Expected) (r : Met) → Lead es r → IfOk (at_symbol at r) (Leads es)
placed at es (Ok turn) h = h
placed at es (Err e) h = tt

-- where the rest of what is expected is known
after_es : (es known : List Expected) (r : Met) → es ≡ known → Lead known r → Lead es r
after_es es known r e h = subst (λ es. Lead es r) (sym e) h

first_name_leads : (s : Reading) → IsInStore s → (symbol : Symbol) → Lead (After ∷ []) (first_name s symbol)
unfolding first_name
first_name_leads s i symbol = where_either (is_right_brace symbol) _ _ (Leads (After ∷ [])) (ended_leads s i) (name_leads s i (word_of symbol))

after_name_leads : (s : Reading) → IsInStore s → (symbol : Symbol) → Lead (After ∷ []) (after_name s symbol)
unfolding after_name
after_name_leads s i symbol =
    where_either (is_comma symbol) _ _ (Leads (After ∷ [])) (refl, (refl, i)) (where_true (is_right_brace symbol) _ _ (Leads (After ∷ [])) (λ e. ended_leads s i))

leads : (e : Expected) (es : List Expected) (s : Reading) (at : ℕ) (symbol : Symbol) (left : List Symbol) → Reached (e ∷ es) s → IfOk (at_symbol at (step s e symbol)) (Leads es)
unfolding step
leads Open es s at symbol left r = placed at es _ (after_es es (Item ∷ []) _ r.0 (where_true (is_open symbol) _ _ (Leads (Item ∷ [])) (λ e. (refl, (refl, r.1)))))
leads Item es s at symbol left r = placed at es _ (after_es es [] _ r.0 (with_next s r.1.rest (λ wanted. item s wanted symbol) r.1.read (item_leads s r.1.rest r.1.read symbol)))
leads After es s at symbol left r = placed at es _ (after_es es [] _ r.0 (with_next s r.1.rest (λ wanted. after s wanted symbol) r.1.read (after_leads s r.1.rest r.1.read symbol)))
leads FirstName es s at symbol left r = placed at es _ (after_es es (After ∷ []) _ r.0 (first_name_leads s r.1 symbol))
leads NextName es s at symbol left r = placed at es _ (after_es es (After ∷ []) _ r.0 (name_leads s r.1 (word_of symbol)))
leads AfterName es s at symbol left r = placed at es _ (after_es es (After ∷ []) _ r.0 (after_name_leads s r.1 symbol))
leads Equals es s at symbol left r = placed at es _ (after_es es (SetTo ∷ AfterName ∷ After ∷ []) _ r.0 (where_true (is_equals symbol) _ _ (Leads (SetTo ∷ AfterName ∷ After ∷ [])) (λ e. (refl, (refl, r.1, r.2)))))
leads SetTo es s at symbol left r = placed at es _ (after_es es (AfterName ∷ After ∷ []) _ r.0 (set_leads s r.1 r.2 (value_of symbol)))

-- what is read are values of the sorts
pub reads_values : (sorts : List FlowSort) (names : List (List ℕ)) (at : ℕ) (symbols : List Symbol) → IfOk (read_symbols sorts names at symbols) (λ read. HaveShapes (length read.0.names) read.0.sorts read.0.flows)
unfolding read_symbols
reads_values sorts names at symbols =
    run_keeps tuple_rules Reached (record { never = λ e. refl; turns = leads }) at (Open ∷ Item ∷ []) (nothing sorts names) symbols
    (refl, record { rest = sorts; read = record { front = []; sorts = refl; shapes = tt; short = omega arith } })

-- a place past another
abbrev Past : {S C : Type 0} → ℕ → Result (S × ℕ) (C × ℕ) → Type 0
Past at r = IfOk r (λ read. at ≤ read.1)

past_more : {S C : Type 0} (at : ℕ) (r : Result (S × ℕ) (C × ℕ)) → Past (at + 1) r → Past at r
past_more at (Ok read) h = omega (arith, h)
past_more at (Err e) h = tt

past_turn : {T S C : Type 0} (at : ℕ) (r : Result T (C × ℕ)) (f : T → Result (S × ℕ) (C × ℕ)) → ((turn : T) → Past at (f turn)) → Past at (r >>= f)
past_turn at (Ok turn) f h = h turn
past_turn at (Err e) f h = tt

past_end : {S C : Type 0} (b : Bool) (at : ℕ) (state : S) (bad : C × ℕ) → Past at (cond b (Ok (state, at)) (Err bad))
past_end true at state bad = omega arith
past_end false at state bad = tt

-- the place that is answered is none before the first
goes_on : {E S C : Type 0} (rules : Rules E S C) (skip at : ℕ) (expected : List E) (state : S) (symbols : List Symbol) → Past at (run rules skip at expected state symbols)
goes_on rules (suc skip) at expected state [] = omega arith
goes_on rules (suc skip) at expected state (symbol ∷ left) = past_more at _ (goes_on rules skip (at + 1) expected state left)
goes_on rules zero at [] state left = omega arith
goes_on rules zero at (one ∷ expected) state [] = past_end (list_all rules.may_end (one ∷ expected)) at state (rules.unexpected, at)
goes_on rules zero at (one ∷ expected) state (symbol ∷ left) =
    past_turn at (rules.meets one state at symbol left) _ (λ turn. past_more at _ (goes_on rules turn.more (at + 1) (turn.expected ++ expected) turn.state left))

-- and is past it where something is expected that may not meet the end
pub takes_one : (at : ℕ) (e : Expected) (es : List Expected) (state : Reading) (symbols : List Symbol) → Past (at + 1) (run tuple_rules 0 at (e ∷ es) state symbols)
takes_one at e es state [] = tt
takes_one at e es state (symbol ∷ left) =
    past_turn (at + 1) (tuple_rules.meets e state at symbol left) _ (λ turn. goes_on tuple_rules turn.more (at + 1) (turn.expected ++ es) turn.state left)

-- what a reader holds that read to the end
pub record HasEnded (sorts : List FlowSort) (from end : ℕ) (state : Reading) : Type 0 where
  pub shapes : HaveShapes (length state.names) sorts state.flows
  pub past : from < end

read_is : (sorts : List FlowSort) (names : List (List ℕ)) (at : ℕ) (symbols : List Symbol) (state : Reading) (end : ℕ) → run tuple_rules 0 at (Open ∷ Item ∷ []) (nothing sorts names) symbols ≡ Ok (state, end) → state.sorts ≡ sorts →
    HasEnded sorts at end state
unfolding read_symbols
read_is sorts names at symbols state end e same =
    let P : Result (Reading × ℕ) (TupleError × ℕ) → Type 0 = λ r. IfOk r (λ read. HaveShapes (length read.0.names) read.0.sorts read.0.flows) in
    let Q : List FlowSort → Type 0 = λ sorts. HaveShapes (length state.names) sorts state.flows in
    let past : at + 1 ≤ end = subst (Past (at + 1)) e (takes_one at Open (Item ∷ []) (nothing sorts names) symbols) in
    record { shapes = subst Q same (subst P e (reads_values sorts names at symbols)); past = omega (arith, past) }

pub read_by : (sorts : List FlowSort) (names : List (List ℕ)) (at : ℕ) (symbols : List Symbol) (begun state : Reading) (r : Result ℕ (Refused TupleError)) → begun ≡ nothing sorts names →
    Gives (λ end. (state, end)) bad_of r (run tuple_rules 0 at (Open ∷ Item ∷ []) begun symbols) → state.sorts ≡ sorts → IfOk r (λ end. HasEnded sorts at end state)
read_by sorts names at symbols begun state (Ok end) b g same = read_is sorts names at symbols state end (sym (ap (λ from. run tuple_rules 0 at (Open ∷ Item ∷ []) from symbols) b) ∙ g) same
read_by sorts names at symbols begun state (Err f) b g same = tt

-- so the padded values have their sorts, and are as many
pub is_read : (sorts : List FlowSort) (from : ℕ) (state : Reading) (r : Result ℕ (Refused TupleError)) → IfOk r (λ end. HasEnded sorts from end state) → OnOk r (HoldsNumbers state) → IfOk r (λ end. IsRead sorts from end state)
is_read sorts from state (Ok end) h k = record {
  sorted = padded_have_sorts (length state.names) sorts state.flows h.shapes k.flows;
  many = as_many_values (length state.names) sorts state.flows h.shapes;
  past = h.past;
}
is_read sorts from state (Err f) h k = tt
