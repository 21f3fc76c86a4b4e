-- The lists of sorts of constructors and hooks that a reading took.
use Rattle.std.proofs.Common.{◌≡◌, ℕ, zero, suc, ◌≤◌, nat_lt, Bool, true, false, if◌then◌else◌, List, [], ◌∷◌, ◌++◌, length, get_or, refl, sym, ap, subst, ◌∙◌, arith, append_assoc, Option, Some, None, Ok, Err}
use Rattle.std.specs.Prelude.{codes, option_map}
use Rattle.std.specs.Str.{bytes_eq}
use Rattle.std.proofs.lemmas.List.{append-nil}
use Rattle.std.proofs.lemmas.List.Quantifiers.{position-Some}
use Rattle.std.proofs.lemmas.Option.{same_Some, unwrap_or-slice_get}
use Rattle.std.proofs.lemmas.Slice.Eq.{bytes_eq-Decides}
use Rattle.sk_base.specs.Names.{place_of_name}
use Rattle.sk_base.specs.declared.flow.FlowSort.{FlowSort}
use Rattle.sk_base.specs.declared.flow.FlowSort.TheVariants.{Int, Bool as Truth, Val, Store}
use Rattle.sk_lex.specs.Run.{Turn}
use Rattle.sk_lex.specs.Symbols.{Symbol, Named, Plain, is_close, is_comma}
use Rattle.sk_lex.specs.declared.token.TokenKind.TheVariants.{LeftParen}
use Rattle.sk_def.specs.declared.sorts.ArgSort.{ArgSort}
use Rattle.sk_def.specs.declared.sorts.ArgSort.TheVariants as arg
use Rattle.sk_def.specs.declared.ids.SortId.{SortId}
use Rattle.sk_deftext.specs.Canonical.{name_at, flow_word, arg_word}
use Rattle.sk_deftext.specs.Met.{Met, met, turn_of, one_more}
use Rattle.sk_deftext.specs.Words.{flow_sort_of}
use Rattle.sk_deftext.specs.Reading.{step, first, more, entry, closed, argument, input, output, sort_named, arg_sort_named}
use Rattle.sk_deftext.specs.Spelling.{more_symbols, list_symbols}
use Rattle.sk_deftext.specs.declared.draft.Draft.{Draft}
use Rattle.sk_deftext.specs.declared.expected.Expected.{Expected}
use Rattle.sk_deftext.specs.declared.expected.Expected.TheVariants as expected
use Rattle.sk_deftext.specs.declared.expected.Listed.{Listed}
use Rattle.sk_deftext.specs.declared.expected.Listed.TheVariants as listed
use Rattle.sk_deftext.specs.declared.fault.DefError.{DefError}
use Rattle.sk_deftext.specs.declared.fault.DefError.TheVariants.{Unexpected, Unknown, TooMany}
use Rattle.sk_deftext.specs.declared.fault.Which.TheVariants as which
use Rattle.sk_spell.proofs.DefinitionRuns.{Final, Reads, Took, took, goes_on, Ended}
use Rattle.sk_spell.proofs.SymbolForms.{close_is, comma_is}
use Rattle.sk_spell.proofs.DefinitionSymbols.{open_taken}

-- a symbol was taken as an entry of a list, which goes last among those before it
pub record Entered {A : Type 0} (list : Listed) (word : A → List ℕ) (state : List A → Draft) (so_far : List A) (symbol : Symbol) (turn : Turn Expected Draft) : Type 0 where
  pub entry : A
  pub symbol_is : symbol ≡ Named (word entry)
  pub turn_is : turn ≡ turn_of (state (so_far ++ entry ∷ [])) (expected.More list ∷ [])

-- a list was read, and its symbols are those of its entries
pub record ListRead {A : Type 0} (final : Final) (list : Listed) (word : A → List ℕ) (state : List A → Draft) (below : List Expected) (symbols : List Symbol) : Type 0 where
  pub entries : List A
  pub left : List Symbol
  pub symbols_are : symbols ≡ list_symbols word entries ++ left
  pub ended : Ended final list below (state entries) left

-- further entries of a list were read
record MoreRead {A : Type 0} (final : Final) (list : Listed) (word : A → List ℕ) (state : List A → Draft) (below : List Expected) (so_far : List A) (symbols : List Symbol) : Type 0 where
  entries : List A
  left : List Symbol
  symbols_are : symbols ≡ more_symbols word entries ++ left
  ended : Ended final list below (state (so_far ++ entries)) left

-- symbols whose first is known, and symbols whose others are
pub first_so : {symbols left : List Symbol} {symbol other : Symbol} → symbols ≡ symbol ∷ left → symbol ≡ other → symbols ≡ other ∷ left
first_so {left = left} e f = e ∙ ap (λ symbol. symbol ∷ left) f

pub others_so : {symbols left other : List Symbol} {symbol : Symbol} → symbols ≡ symbol ∷ left → left ≡ other → symbols ≡ symbol ∷ other
others_so {symbol = symbol} e f = e ∙ ap (λ symbols. symbol ∷ symbols) f

ended_here : {final : Final} {one : Expected} {list : Listed} {below : List Expected} {draft : Draft} {symbols : List Symbol} (t : Took final one below draft symbols) →
    step draft one t.at t.symbol ≡ closed draft list → Ended final list below draft t.left
ended_here t e = record { at = t.at; turn = t.turn; met_is = sym e ∙ t.met_is; goes = t.goes; stands = t.stands }

first_closes : (draft : Draft) (list : Listed) (at : ℕ) (symbol : Symbol) → is_close symbol ≡ true → step draft (expected.First list) at symbol ≡ closed draft list
unfolding step first
first_closes draft list at symbol e = ap (λ b. if b then closed draft list else entry draft list symbol) e

first_enters : (draft : Draft) (list : Listed) (at : ℕ) (symbol : Symbol) → is_close symbol ≡ false → step draft (expected.First list) at symbol ≡ entry draft list symbol
unfolding step first
first_enters draft list at symbol e = ap (λ b. if b then closed draft list else entry draft list symbol) e

after_entry : Draft → Listed → Bool → Bool → Met
after_entry draft list a b = if a then closed draft list else (if b then met draft (expected.Next list ∷ []) else Err Unexpected)

more_is : (draft : Draft) (list : Listed) (at : ℕ) (symbol : Symbol) (a b : Bool) → is_close symbol ≡ a → is_comma symbol ≡ b →
    step draft (expected.More list) at symbol ≡ after_entry draft list a b
unfolding step more after_entry
more_is draft list at symbol a b e f =
    ap (λ c. if c then closed draft list else (if is_comma symbol then met draft (expected.Next list ∷ []) else Err Unexpected)) e
    ∙ ap (λ c. if a then closed draft list else (if c then met draft (expected.Next list ∷ []) else Err Unexpected)) f

next_enters : (draft : Draft) (list : Listed) (at : ℕ) (symbol : Symbol) → step draft (expected.Next list) at symbol ≡ entry draft list symbol
unfolding step
next_enters draft list at symbol = refl

-- A list whose entries are put after one another.
module _ {A : Type 0} (list : Listed) (word : A → List ℕ) (state : List A → Draft)
    (enters : (so_far : List A) (symbol : Symbol) (turn : Turn Expected Draft) → entry (state so_far) list symbol ≡ Ok turn → Entered list word state so_far symbol turn) where
  after_comma : {final : Final} {below : List Expected} {symbols : List Symbol} (so_far : List A) (t : Took final (expected.More list) below (state so_far) symbols) → is_comma t.symbol ≡ true →
      (u : Took final (expected.Next list) below (state so_far) t.left) (x : Entered list word state so_far u.symbol u.turn) →
      MoreRead final list word state below (so_far ++ x.entry ∷ []) u.left → MoreRead final list word state below so_far symbols
  after_comma {final = final} {below = below} so_far t e u x rest = record {
    entries = x.entry ∷ rest.entries;
    left = rest.left;
    symbols_are = others_so (first_so t.symbols_are (comma_is t.symbol e)) (others_so (first_so u.symbols_are x.symbol_is) rest.symbols_are);
    ended = subst (λ (xs : List A). Ended final list below (state xs) rest.left) (append_assoc so_far (x.entry ∷ []) rest.entries) rest.ended;
  }

  more_by : {final : Final} {below : List Expected} {symbols : List Symbol} (count : ℕ) (so_far : List A) → length symbols ≤ suc count →
      ((next : List A) (later : List Symbol) → length later ≤ count → Reads final (expected.More list ∷ below) (state next) later → MoreRead final list word state below next later) →
      (t : Took final (expected.More list) below (state so_far) symbols) (a b : Bool) → is_close t.symbol ≡ a → is_comma t.symbol ≡ b → MoreRead final list word state below so_far symbols
  unfolding after_entry
  more_by {final = final} {below = below} count so_far few goes t true b e f = record {
    entries = [];
    left = t.left;
    symbols_are = first_so t.symbols_are (close_is t.symbol e);
    ended = subst (λ (xs : List A). Ended final list below (state xs) t.left) (sym (append-nil so_far)) (ended_here t (more_is (state so_far) list t.at t.symbol true b e f));
  }
  more_by {final = final} {below = below} count so_far few goes t false true e f =
      let on = goes_on t (state so_far) (expected.Next list ∷ []) (more_is (state so_far) list t.at t.symbol false true e f) in
      let u = took refl on in
      let x = enters so_far u.symbol u.turn (sym (next_enters (state so_far) list u.at u.symbol) ∙ u.met_is) in
      let after = state (so_far ++ x.entry ∷ []) in
      let fewer : length u.left ≤ count = omega (arith, few, ap length t.symbols_are, ap length u.symbols_are) in
      after_comma so_far t f u x (goes (so_far ++ x.entry ∷ []) u.left fewer (goes_on u after (expected.More list ∷ []) (u.met_is ∙ ap Ok x.turn_is)))
  more_by count so_far few goes t false false e f = absurd (cc (more_is (state so_far) list t.at t.symbol false false e f, t.met_is))

  more_read : {final : Final} {below : List Expected} (count : ℕ) (so_far : List A) (symbols : List Symbol) → length symbols ≤ count →
      Reads final (expected.More list ∷ below) (state so_far) symbols → MoreRead final list word state below so_far symbols
  more_read zero so_far symbols few r = let t = took refl r in absurd (omega (arith, few, ap length t.symbols_are))
  more_read (suc count) so_far symbols few r = let t = took refl r in more_by count so_far few (more_read count) t (is_close t.symbol) (is_comma t.symbol) refl refl

  first_entry : {final : Final} {below : List Expected} {symbols left : List Symbol} → symbols ≡ Plain LeftParen ∷ left → (t : Took final (expected.First list) below (state []) left)
      (x : Entered list word state [] t.symbol t.turn) → MoreRead final list word state below (x.entry ∷ []) t.left → ListRead final list word state below symbols
  first_entry opened t x rest = record {
    entries = x.entry ∷ rest.entries;
    left = rest.left;
    symbols_are = others_so opened (others_so (first_so t.symbols_are x.symbol_is) rest.symbols_are);
    ended = rest.ended;
  }

  first_by : {final : Final} {below : List Expected} {symbols left : List Symbol} → symbols ≡ Plain LeftParen ∷ left → (t : Took final (expected.First list) below (state []) left) →
      (b : Bool) → is_close t.symbol ≡ b → ListRead final list word state below symbols
  first_by opened t true e = record {
    entries = [];
    left = t.left;
    symbols_are = others_so opened (first_so t.symbols_are (close_is t.symbol e));
    ended = ended_here t (first_closes (state []) list t.at t.symbol e);
  }
  first_by opened t false e =
      let x = enters [] t.symbol t.turn (sym (first_enters (state []) list t.at t.symbol e) ∙ t.met_is) in
      first_entry opened t x (more_read (length t.left) (x.entry ∷ []) t.left (omega arith) (goes_on t (state (x.entry ∷ [])) (expected.More list ∷ []) (t.met_is ∙ ap Ok x.turn_is)))

  -- where a list was expected it was read
  pub list_read : {final : Final} {below : List Expected} {symbols : List Symbol} → Reads final (expected.Open ∷ expected.First list ∷ below) (state []) symbols →
      ListRead final list word state below symbols
  list_read r =
      let opened = open_taken r in
      let t = took refl opened.2 in
      first_by opened.1 t (is_close t.symbol) refl

-- Words of sorts.

-- the name at the first place of a word is the word
pub name_found : (names : List (List ℕ)) (word : List ℕ) (place : ℕ) → place_of_name names word ≡ Some place → word ≡ name_at names place
name_found names word place e =
    let at = position-Some (λ entry. bytes_eq word entry) names place [] e in
    (bytes_eq-Decides word (get_or names place [])).0 at.1 ∙ sym (unwrap_or-slice_get names place [])

-- a word that names a sort is the sort's name
pub sort_word : (sorts : List (List ℕ)) (word : List ℕ) (sort : SortId) → sort_named sorts word ≡ Some sort → word ≡ name_at sorts sort.0
sort_word sorts word sort h = by (place_of_name sorts word) refl h where
  by : (place : Option ℕ) → place_of_name sorts word ≡ place → option_map (λ (place : ℕ). let id : SortId = record { 0 = place } in id) place ≡ Some sort → word ≡ name_at sorts sort.0
  by None e h = absurd (cc h)
  by (Some place) e h = name_found sorts word place e ∙ ap (λ (id : SortId). name_at sorts id.0) (same_Some (record { 0 = place }) sort h)

argument_word : (sorts : List (List ℕ)) (word : List ℕ) (sort : ArgSort) → arg_sort_named sorts word ≡ Some sort → word ≡ arg_word sorts sort
argument_word sorts word sort h = by (bytes_eq word (codes "number")) (bytes_eq word (codes "name")) (sort_named sorts word) refl refl refl h where
  by : (a b : Bool) (id : Option SortId) → bytes_eq word (codes "number") ≡ a → bytes_eq word (codes "name") ≡ b → sort_named sorts word ≡ id →
      (if a then Some arg.Number else (if b then Some arg.Name else option_map arg.Term id)) ≡ Some sort → word ≡ arg_word sorts sort
  by true b id e f g h = (bytes_eq-Decides word (codes "number")).0 e ∙ ap (arg_word sorts) (same_Some arg.Number sort h)
  by false true id e f g h = (bytes_eq-Decides word (codes "name")).0 f ∙ ap (arg_word sorts) (same_Some arg.Name sort h)
  by false false (Some id) e f g h = sort_word sorts word id g ∙ ap (arg_word sorts) (same_Some (arg.Term id) sort h)
  by false false None e f g h = absurd (cc h)

flow_or : (word : List ℕ) (one sort : FlowSort) (other : Option FlowSort) → (other ≡ Some sort → word ≡ flow_word sort) →
    (if bytes_eq word (flow_word one) then Some one else other) ≡ Some sort → word ≡ flow_word sort
flow_or word one sort other later h = by (bytes_eq word (flow_word one)) refl h where
  by : (b : Bool) → bytes_eq word (flow_word one) ≡ b → (if b then Some one else other) ≡ Some sort → word ≡ flow_word sort
  by true e h = (bytes_eq-Decides word (flow_word one)).0 e ∙ ap flow_word (same_Some one sort h)
  by false e h = later h

flow_is : (word : List ℕ) (sort : FlowSort) → flow_sort_of word ≡ Some sort → word ≡ flow_word sort
flow_is word sort h = flow_or word Int sort _ (flow_or word Truth sort _ (flow_or word Val sort _ (flow_or word Store sort None (λ bad. absurd (cc bad))))) h

-- Entries of lists.

one_entered : {A : Type 0} (count most : ℕ) (too_many : DefError) (o : Option A) (go : A → Met) (turn : Turn Expected Draft) → one_more count most too_many o go ≡ Ok turn →
    (x : A) × (o ≡ Some x) × (go x ≡ Ok turn)
one_entered count most too_many None go turn h = absurd (by (nat_lt count most) h) where
  refused : Bool → Met
  refused b = if b then Err Unknown else Err too_many

  by : (b : Bool) → refused b ≡ Ok turn → ⊥
  by true h = absurd (cc h)
  by false h = absurd (cc h)
one_entered {A = A} count most too_many (Some x) go turn h = by (nat_lt count most) h where
  by : (b : Bool) → (if b then go x else Err too_many) ≡ Ok turn → (y : A) × (Some x ≡ Some y) × (go y ≡ Ok turn)
  by true h = (x, refl, h)
  by false h = absurd (cc h)

-- an entry of the arguments of a constructor is a sort by its word
pub argument_entered : (base : Draft) (so_far : List ArgSort) (symbol : Symbol) (turn : Turn Expected Draft) → entry (record base { args = so_far }) listed.Arguments symbol ≡ Ok turn →
    Entered listed.Arguments (arg_word base.def.sorts) (λ (args : List ArgSort). record base { args = args }) so_far symbol turn
unfolding entry argument
argument_entered base so_far (Plain kind) turn h = absurd (cc h)
argument_entered base so_far (Named word) turn h =
    let go : ArgSort → Met = λ sort. met (record base { args = so_far ++ sort ∷ [] }) (expected.More listed.Arguments ∷ []) in
    let one = one_entered (length so_far) 8 (TooMany which.Arguments) (arg_sort_named base.def.sorts word) go turn h in
    record { entry = one.0; symbol_is = ap Named (argument_word base.def.sorts word one.0 one.1); turn_is = cc one.2 }

-- an entry of the inputs of a hook is a flow sort by its word
pub input_entered : (base : Draft) (so_far : List FlowSort) (symbol : Symbol) (turn : Turn Expected Draft) → entry (record base { inputs = so_far }) listed.Inputs symbol ≡ Ok turn →
    Entered listed.Inputs flow_word (λ (flows : List FlowSort). record base { inputs = flows }) so_far symbol turn
unfolding entry input
input_entered base so_far (Plain kind) turn h = absurd (cc h)
input_entered base so_far (Named word) turn h =
    let go : FlowSort → Met = λ sort. met (record base { inputs = so_far ++ sort ∷ [] }) (expected.More listed.Inputs ∷ []) in
    let one = one_entered (length so_far) 4 (TooMany which.Flows) (flow_sort_of word) go turn h in
    record { entry = one.0; symbol_is = ap Named (flow_is word one.0 one.1); turn_is = cc one.2 }

-- an entry of the outputs of a hook is a flow sort by its word
pub output_entered : (base : Draft) (so_far : List FlowSort) (symbol : Symbol) (turn : Turn Expected Draft) → entry (record base { outputs = so_far }) listed.Outputs symbol ≡ Ok turn →
    Entered listed.Outputs flow_word (λ (flows : List FlowSort). record base { outputs = flows }) so_far symbol turn
unfolding entry output
output_entered base so_far (Plain kind) turn h = absurd (cc h)
output_entered base so_far (Named word) turn h =
    let go : FlowSort → Met = λ sort. met (record base { outputs = so_far ++ sort ∷ [] }) (expected.More listed.Outputs ∷ []) in
    let one = one_entered (length so_far) 4 (TooMany which.Flows) (flow_sort_of word) go turn h in
    record { entry = one.0; symbol_is = ap Named (flow_is word one.0 one.1); turn_is = cc one.2 }
