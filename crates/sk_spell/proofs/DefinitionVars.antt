-- A list of variables that was read: what it took is what the list spells.
use Rattle.std.proofs.Common.{◌≡◌, ℕ, zero, suc, ◌+◌, ◌<◌, nat_lt, Bool, true, false, cond, not, if◌then◌else◌, List, [], ◌∷◌, ◌++◌, length, refl, sym, ap, subst, ◌∙◌, arith, append_assoc, length-append, Option, Some, None, Ok, Err}
use Rattle.std.specs.Prelude.{IfSome}
use Rattle.std.specs.List.{position_or_len}
use Rattle.std.specs.Str.{bytes_eq}
use Rattle.std.proofs.lemmas.List.{append-nil}
use Rattle.std.proofs.lemmas.Slice.Eq.{bytes_eq-Decides}
use Rattle.sk_base.specs.Names.{place_of_name, with_name}
use Rattle.sk_lex.specs.Run.{Turn, IsFrontOf}
use Rattle.sk_lex.specs.Symbols.{Symbol, Named, Plain, is_close, is_comma}
use Rattle.sk_lex.specs.declared.token.TokenKind.{TokenKind}
use Rattle.sk_lex.specs.declared.token.TokenKind.TheVariants as token
use Rattle.sk_def.specs.declared.ids.Var.{Var}
use Rattle.sk_deftext.specs.Bodies as spec
use Rattle.sk_deftext.specs.Bodies.{variable}
use Rattle.sk_deftext.specs.Canonical.{name_at, var_word}
use Rattle.sk_deftext.specs.Met.{met}
use Rattle.sk_deftext.specs.Reading.{step, closed, first, more, entry, argument, input, output}
use Rattle.sk_deftext.specs.Spelling.{more_symbols}
use Rattle.sk_deftext.specs.Words.{keyword_of, unless_keyword}
use Rattle.sk_deftext.specs.declared.draft.Draft.{Draft}
use Rattle.sk_deftext.specs.declared.expected.Expected.{Expected}
use Rattle.sk_deftext.specs.declared.expected.Expected.TheVariants as expected
use Rattle.sk_deftext.specs.declared.expected.Listed.{Listed}
use Rattle.sk_deftext.specs.declared.expected.Listed.TheVariants as listed
use Rattle.sk_deftext.specs.declared.fault.DefError.TheVariants.{Unexpected, TooMany}
use Rattle.sk_deftext.specs.declared.fault.Which.TheVariants as which
use Rattle.sk_deftext.specs.declared.word.Keyword.{Keyword}
use Rattle.sk_deftext.proofs.Found.{found_parts}
use Rattle.sk_deftext.proofs.Moves.{position_below}
use Rattle.sk_deftext.proofs.Steps.{IsOfVars}
use Rattle.sk_spell.proofs.SymbolForms.{close_is, comma_is}
use Rattle.sk_spell.proofs.DefinitionSymbols.{open_taken}
use Rattle.sk_spell.proofs.DefinitionRuns.{Final, Reads, Took, took, goes_on, Ended, VarsRead}

-- Names.

-- each list is a front of itself, and of what a longer front goes on to
pub front_of_itself : {A : Type 0} (xs : List A) → IsFrontOf xs xs
front_of_itself xs = record { more = []; is = sym (append-nil xs) }

pub front_of_longer : {A : Type 0} {xs ys zs : List A} → IsFrontOf xs ys → IsFrontOf ys zs → IsFrontOf xs zs
front_of_longer {xs = xs} a b = record { more = a.more ++ b.more; is = b.is ∙ ap (λ front. front ++ b.more) a.is ∙ append_assoc xs a.more b.more }

name_in_front : (front more : List (List ℕ)) (place : ℕ) → place < length front → name_at (front ++ more) place ≡ name_at front place
name_in_front [] more place h = absurd (omega (arith, h))
name_in_front (x ∷ front) more zero h = refl
name_in_front (x ∷ front) more (suc place) h = name_in_front front more place (omega (arith, h))

name_after : (front : List (List ℕ)) (name : List ℕ) → name_at (front ++ name ∷ []) (length front) ≡ name
name_after [] name = refl
name_after (x ∷ front) name = name_after front name

-- a name of a front stands at the same place in the whole
pub front_word : {front names : List (List ℕ)} (place : ℕ) → IsFrontOf front names → place < length front → name_at names place ≡ name_at front place
front_word {front = front} place f h = ap (λ all. name_at all place) f.is ∙ name_in_front front f.more place h

name_next : (x : List ℕ) (names : List (List ℕ)) (k : ℕ) → name_at (x ∷ names) (1 + k) ≡ name_at names k
name_next x names k = let next : 1 + k ≡ suc k = omega arith in ap (λ m. name_at (x ∷ names) m) next

first_word : (names : List (List ℕ)) (word : List ℕ) → position_or_len (λ entry. bytes_eq word entry) names < length names → name_at names (position_or_len (λ entry. bytes_eq word entry) names) ≡ word
first_word [] word h = absurd (omega (arith, h))
first_word (x ∷ names) word h = by (bytes_eq word x) refl (first_word names word) h where
  by : (b : Bool) → bytes_eq word x ≡ b →
      (position_or_len (λ entry. bytes_eq word entry) names < length names → name_at names (position_or_len (λ entry. bytes_eq word entry) names) ≡ word) →
      cond (not b) (1 + position_or_len (λ entry. bytes_eq word entry) names) 0 < length (x ∷ names) →
      name_at (x ∷ names) (cond (not b) (1 + position_or_len (λ entry. bytes_eq word entry) names) 0) ≡ word
  by true e later h = sym ((bytes_eq-Decides word x).0 e)
  by false e later h = name_next x names (position_or_len (λ entry. bytes_eq word entry) names) ∙ later (omega (arith, h))

-- at the place of a name stands this name
pub found_word : (names : List (List ℕ)) (word : List ℕ) (place : ℕ) → place_of_name names word ≡ Some place → name_at names place ≡ word
found_word names word place e =
    let at = found_parts (λ entry. bytes_eq word entry) names place e in
    let P : ℕ → Type 0 = λ k. name_at names k ≡ word in
    subst P at.0 (first_word names word (omega (arith, at.0, at.1)))

-- names with a word that is put among them: they go on from those before, and the word stands at its place in all that
-- go on from these
pub record Added (vars : List (List ℕ)) (word : List ℕ) (place : ℕ) (after : List (List ℕ)) : Type 0 where
  pub grown : IsFrontOf vars after
  pub word_is : (names : List (List ℕ)) → IsFrontOf after names → name_at names place ≡ word

abbrev AddedSo : List (List ℕ) → List ℕ → Option (ℕ × List (List ℕ)) → Type 0
AddedSo vars word o = IfSome o (λ r. Added vars word r.0 r.1)

word_known : (vars : List (List ℕ)) (word : List ℕ) (place : ℕ) → place_of_name vars word ≡ Some place → Added vars word place vars
word_known vars word place e = record {
  grown = front_of_itself vars;
  word_is = λ names f. front_word place f (position_below (λ entry. bytes_eq word entry) vars place e) ∙ found_word vars word place e;
}

word_new : (vars : List (List ℕ)) (word : List ℕ) (b : Bool) → AddedSo vars word (if b then Some (length vars, vars ++ word ∷ []) else None)
word_new vars word true = record {
  grown = record { more = word ∷ []; is = refl };
  word_is = λ names f. front_word (length vars) f (omega (arith, length-append vars (word ∷ []))) ∙ name_after vars word;
}
word_new vars word false = tt

word_added : (vars : List (List ℕ)) (word : List ℕ) → AddedSo vars word (with_name vars word)
word_added vars word = by (place_of_name vars word) refl where
  by : (o : Option ℕ) → place_of_name vars word ≡ o → AddedSo vars word (with_name vars word)
  by (Some place) e = rw e (word_known vars word place e)
  by None e = rw e (word_new vars word (nat_lt (length vars) 64))

-- what becomes of names by a word
pub name_added : (vars : List (List ℕ)) (word : List ℕ) (place : ℕ) (after : List (List ℕ)) → with_name vars word ≡ Some (place, after) → Added vars word place after
name_added vars word place after e = subst (AddedSo vars word) e (word_added vars word)

-- Steps of a list.

first_closes : (draft : Draft) (list : Listed) (at : ℕ) (symbol : Symbol) → is_close symbol ≡ true → step draft (expected.First list) at symbol ≡ closed draft list
unfolding step first
first_closes draft list at symbol e = ap (λ b. if b then closed draft list else entry draft list symbol) e

first_enters : (draft : Draft) (list : Listed) (at : ℕ) (symbol : Symbol) → is_close symbol ≡ false → step draft (expected.First list) at symbol ≡ entry draft list symbol
unfolding step first
first_enters draft list at symbol e = ap (λ b. if b then closed draft list else entry draft list symbol) e

more_closes : (draft : Draft) (list : Listed) (at : ℕ) (symbol : Symbol) → is_close symbol ≡ true → step draft (expected.More list) at symbol ≡ closed draft list
unfolding step more
more_closes draft list at symbol e = ap (λ b. if b then closed draft list else (if is_comma symbol then met draft (expected.Next list ∷ []) else Err Unexpected)) e

more_met : (draft : Draft) (list : Listed) (at : ℕ) (symbol : Symbol) (turn : Turn Expected Draft) → is_close symbol ≡ false → step draft (expected.More list) at symbol ≡ Ok turn →
    (is_comma symbol ≡ true) × (step draft (expected.More list) at symbol ≡ met draft (expected.Next list ∷ []))
unfolding step more
more_met draft list at symbol turn c e = by (is_comma symbol) refl where
  so : step draft (expected.More list) at symbol ≡ (if is_comma symbol then met draft (expected.Next list ∷ []) else Err Unexpected)
  so = ap (λ b. if b then closed draft list else (if is_comma symbol then met draft (expected.Next list ∷ []) else Err Unexpected)) c

  by : (b : Bool) → is_comma symbol ≡ b → (is_comma symbol ≡ true) × (step draft (expected.More list) at symbol ≡ met draft (expected.Next list ∷ []))
  by true o = (o, so ∙ ap (λ b. if b then met draft (expected.Next list ∷ []) else Err Unexpected) o)
  by false o = absurd (cc (sym (so ∙ ap (λ b. if b then met draft (expected.Next list ∷ []) else Err Unexpected) o) ∙ e))

next_enters : (draft : Draft) (list : Listed) (at : ℕ) (symbol : Symbol) → step draft (expected.Next list) at symbol ≡ entry draft list symbol
unfolding step
next_enters draft list at symbol = refl

-- a mark is no entry
no_entry : (draft : Draft) (list : Listed) (kind : TokenKind) → entry draft list (Plain kind) ≡ Err Unexpected
unfolding entry argument input output variable
no_entry draft listed.Arguments kind = refl
no_entry draft listed.Inputs kind = refl
no_entry draft listed.Outputs kind = refl
no_entry draft listed.Terms kind = refl
no_entry draft listed.RuleInputs kind = refl
no_entry draft listed.RuleOutputs kind = refl
no_entry draft listed.BoneArgs kind = refl
no_entry draft listed.BoneOuts kind = refl
no_entry draft listed.Exports kind = refl

-- a draft with these names, where these variables were listed
abbrev listing : Draft → List (List ℕ) → List Var → Draft
listing base vars list = record base { vars = vars; listed = list }

-- an entry that was met: a word, and its place among the names
record Entered (draft : Draft) (list : Listed) (symbol : Symbol) : Type 0 where
  word : List ℕ
  place : ℕ
  vars : List (List ℕ)
  symbol_is : symbol ≡ Named word
  added : Added draft.vars word place vars
  met_so : entry draft list symbol ≡ met (listing draft vars (draft.listed ++ record { 0 = place } ∷ [])) (expected.More list ∷ [])

entered_at : (draft : Draft) (list : Listed) (word : List ℕ) (turn : Turn Expected Draft) (o : Option (ℕ × List (List ℕ))) → with_name draft.vars word ≡ o →
    entry draft list (Named word) ≡ spec.with_variable draft list o → entry draft list (Named word) ≡ Ok turn → Entered draft list (Named word)
entered_at draft list word turn (Some (place, vars)) w e h = record {
  word = word;
  place = place;
  vars = vars;
  symbol_is = refl;
  added = name_added draft.vars word place vars w;
  met_so = e;
}
entered_at draft list word turn None w e h = absurd (cc (sym e ∙ h))

entered_within : (draft : Draft) (list : Listed) (word : List ℕ) (turn : Turn Expected Draft) (b : Bool) →
    entry draft list (Named word) ≡ (if b then spec.with_variable draft list (with_name draft.vars word) else Err (TooMany which.Arguments)) → entry draft list (Named word) ≡ Ok turn → Entered draft list (Named word)
entered_within draft list word turn true e h = entered_at draft list word turn (with_name draft.vars word) refl e h
entered_within draft list word turn false e h = absurd (cc (sym e ∙ h))

entered_by : (draft : Draft) (list : Listed) (word : List ℕ) (turn : Turn Expected Draft) (key : Option Keyword) →
    entry draft list (Named word) ≡ variable draft list (unless_keyword word key) → entry draft list (Named word) ≡ Ok turn → Entered draft list (Named word)
unfolding variable
entered_by draft list word turn None e h = entered_within draft list word turn (nat_lt (length draft.listed) 8) e h
entered_by draft list word turn (Some key) e h = absurd (cc (sym e ∙ h))

entered : {list : Listed} → IsOfVars list → (draft : Draft) (symbol : Symbol) (turn : Turn Expected Draft) → entry draft list symbol ≡ Ok turn → Entered draft list symbol
entered {list = list} of_vars draft (Plain kind) turn h = absurd (cc (sym (no_entry draft list kind) ∙ h))
entered {list = list} of_vars draft (Named word) turn h = entered_by draft list word turn (keyword_of word) (of_vars draft word) h

-- a symbol that ends the list
closes_so : {final : Final} {one : Expected} {below : List Expected} {draft : Draft} {symbols : List Symbol} (t : Took final one below draft symbols) (list : Listed) →
    step draft one t.at t.symbol ≡ closed draft list → Ended final list below draft t.left
closes_so t list e = record { at = t.at; turn = t.turn; met_is = sym e ∙ t.met_is; goes = t.goes; stands = t.stands }

-- Lists.

-- a mark or a word was taken, and then what is left
pub mark_taken : {symbols left rest : List Symbol} {symbol : Symbol} (kind : TokenKind) → symbols ≡ symbol ∷ left → symbol ≡ Plain kind → left ≡ rest → symbols ≡ Plain kind ∷ rest
mark_taken kind a b c = cc (a, b, c)

pub word_taken : {symbols left rest : List Symbol} {symbol : Symbol} (word name : List ℕ) → symbols ≡ symbol ∷ left → symbol ≡ Named word → name ≡ word → left ≡ rest → symbols ≡ Named name ∷ rest
word_taken word name a b c e = cc (a, b, c, e)

-- the rest of a list was read, after an entry
record MoreRead (final : Final) (list : Listed) (below : List Expected) (base : Draft) (vars_before : List (List ℕ)) (before : List Var) (symbols : List Symbol) : Type 0 where
  vars : List (List ℕ)
  others : List Var
  left : List Symbol
  grown : IsFrontOf vars_before vars
  symbols_are : (names : List (List ℕ)) → IsFrontOf vars names → symbols ≡ more_symbols (var_word names) others ++ left
  ended : Ended final list below (listing base vars (before ++ others)) left

module _ {final : Final} (list : Listed) (of_vars : IsOfVars list) {below : List Expected} (base : Draft) where
  next_entered : {draft : Draft} {symbols : List Symbol} (u : Took final (expected.Next list) below draft symbols) → Entered draft list u.symbol
  next_entered {draft = draft} u = entered of_vars draft u.symbol u.turn (sym (next_enters draft list u.at u.symbol) ∙ u.met_is)

  next_goes_on : {draft : Draft} {symbols : List Symbol} (u : Took final (expected.Next list) below draft symbols) (e : Entered draft list u.symbol) →
      Reads final (expected.More list ∷ below) (listing draft e.vars (draft.listed ++ record { 0 = e.place } ∷ [])) u.left
  next_goes_on {draft = draft} u e = goes_on u (listing draft e.vars (draft.listed ++ record { 0 = e.place } ∷ [])) (expected.More list ∷ []) (next_enters draft list u.at u.symbol ∙ e.met_so)

  with_more : {symbols : List Symbol} (vars : List (List ℕ)) (before : List Var) (t : Took final (expected.More list) below (listing base vars before) symbols) → is_comma t.symbol ≡ true →
      (u : Took final (expected.Next list) below (listing base vars before) t.left) (e : Entered (listing base vars before) list u.symbol) →
      MoreRead final list below base e.vars (before ++ record { 0 = e.place } ∷ []) u.left → MoreRead final list below base vars before symbols
  with_more vars before t comma u e later =
      let v : Var = record { 0 = e.place } in
      let P : List Var → Type 0 = λ vs. Ended final list below (listing base later.vars vs) later.left in
      record {
        vars = later.vars;
        others = v ∷ later.others;
        left = later.left;
        grown = front_of_longer e.added.grown later.grown;
        symbols_are = λ names f.
            mark_taken token.Comma t.symbols_are (comma_is t.symbol comma)
            (word_taken e.word (var_word names v) u.symbols_are e.symbol_is (e.added.word_is names (front_of_longer later.grown f)) (later.symbols_are names f));
        ended = subst P (append_assoc before (v ∷ []) later.others) later.ended;
      }

  more_read : (n : ℕ) (vars : List (List ℕ)) (before : List Var) (symbols : List Symbol) → length symbols < n →
      Reads final (expected.More list ∷ below) (listing base vars before) symbols → MoreRead final list below base vars before symbols
  more_read zero vars before symbols few r = absurd (omega (arith, few))
  more_read (suc n) vars before symbols few r = by (is_close t.symbol) refl (more_read n) where
    draft : Draft
    draft = listing base vars before

    t : Took final (expected.More list) below draft symbols
    t = took refl r

    by : (b : Bool) → is_close t.symbol ≡ b →
        ((vars : List (List ℕ)) (before : List Var) (symbols : List Symbol) → length symbols < n → Reads final (expected.More list ∷ below) (listing base vars before) symbols → MoreRead final list below base vars before symbols) →
        MoreRead final list below base vars before symbols
    by true c again =
        let ended = closes_so t list (more_closes draft list t.at t.symbol c) in
        let P : List Var → Type 0 = λ vs. Ended final list below (listing base vars vs) t.left in
        record {
          vars = vars;
          others = [];
          left = t.left;
          grown = front_of_itself vars;
          symbols_are = λ names f. t.symbols_are ∙ ap (λ one. one ∷ t.left) (close_is t.symbol c);
          ended = subst P (sym (append-nil before)) ended;
        }
    by false c again =
        let so = more_met draft list t.at t.symbol t.turn c t.met_is in
        let u = took refl (goes_on t draft (expected.Next list ∷ []) so.1) in
        let e = next_entered u in
        let fewer : length u.left < n = omega (arith, few, ap length t.symbols_are, ap length u.symbols_are) in
        with_more vars before t so.0 u e (again e.vars (before ++ record { 0 = e.place } ∷ []) u.left fewer (next_goes_on u e))

with_first : {final : Final} {list : Listed} {below : List Expected} {symbols : List Symbol} {base : Draft} (t : Took final (expected.First list) below (record base { listed = [] }) symbols)
    (e : Entered (record base { listed = [] }) list t.symbol) → MoreRead final list below base e.vars (record { 0 = e.place } ∷ []) t.left → VarsRead final list below base (Plain token.LeftParen ∷ symbols)
with_first t e later =
    let v : Var = record { 0 = e.place } in
    record {
      vars = later.vars;
      listed = v ∷ later.others;
      left = later.left;
      grown = front_of_longer e.added.grown later.grown;
      symbols_are = λ names f.
          ap (λ rest. Plain token.LeftParen ∷ rest)
          (word_taken e.word (var_word names v) t.symbols_are e.symbol_is (e.added.word_is names (front_of_longer later.grown f)) (later.symbols_are names f));
      ended = later.ended;
    }

first_read : {final : Final} {list : Listed} {below : List Expected} {symbols : List Symbol} → IsOfVars list → (base : Draft) →
    Reads final (expected.First list ∷ below) (record base { listed = [] }) symbols → VarsRead final list below base (Plain token.LeftParen ∷ symbols)
first_read {final = final} {list = list} {below = below} {symbols = symbols} of_vars base r = by (is_close t.symbol) refl where
  draft : Draft
  draft = record base { listed = [] }

  t : Took final (expected.First list) below draft symbols
  t = took refl r

  by : (b : Bool) → is_close t.symbol ≡ b → VarsRead final list below base (Plain token.LeftParen ∷ symbols)
  by true c = record {
    vars = base.vars;
    listed = [];
    left = t.left;
    grown = front_of_itself base.vars;
    symbols_are = λ names f. ap (λ rest. Plain token.LeftParen ∷ rest) (t.symbols_are ∙ ap (λ one. one ∷ t.left) (close_is t.symbol c));
    ended = closes_so t list (first_closes draft list t.at t.symbol c);
  }
  by false c =
      let so = first_enters draft list t.at t.symbol c in
      let e = entered of_vars draft t.symbol t.turn (sym so ∙ t.met_is) in
      let v : Var = record { 0 = e.place } in
      let on = goes_on t (listing base e.vars (v ∷ [])) (expected.More list ∷ []) (so ∙ e.met_so) in
      with_first t e (more_read list of_vars base (suc (length t.left)) e.vars (v ∷ []) t.left (omega arith) on)

-- a list of variables was read
pub vars_read : {final : Final} {list : Listed} {below : List Expected} {base : Draft} {symbols : List Symbol} → IsOfVars list → base.listed ≡ [] →
    Reads final (expected.Open ∷ expected.First list ∷ below) base symbols → VarsRead final list below base symbols
vars_read {final = final} {list = list} {below = below} {base = base} {symbols = symbols} of_vars none r =
    let opened = open_taken r in
    let P : List Var → Type 0 = λ vs. Reads final (expected.First list ∷ below) (record base { listed = vs }) opened.0 in
    let Q : List Symbol → Type 0 = λ taken. VarsRead final list below base taken in
    subst Q (sym opened.1) (first_read of_vars base (subst P none opened.2))
