-- Turns of reading a definition whose symbols are its own.
use Rattle.std.proofs.Common.{◌≡◌, inl, inr, ℕ, ◌+◌, ◌<◌, ◌≤◌, if◌then◌else◌, List, [], ◌∷◌, ◌++◌, length, take, refl, sym, ap, subst, ◌∙◌, arith, append_assoc, length-append, Some, None, Result, Err}
use Rattle.std.specs.Prelude.{All}
use Rattle.std.proofs.lemmas.Bool.{lt-ltb}
use Rattle.std.proofs.lemmas.List.{append-nil}
use Rattle.std.proofs.lemmas.List.Elements.{All-head, All-tail}
use Rattle.sk_base.specs.Answer.{◌>>=◌}
use Rattle.sk_base.specs.Names.{with_name}
use Rattle.sk_lex.specs.Run.{run}
use Rattle.sk_lex.specs.Symbols.{Symbol, Named, Plain}
use Rattle.sk_lex.specs.declared.token.TokenKind.TheVariants.{LeftParen, RightParen, LeftBrace, Comma, Colon, Arrow as Points}
use Rattle.sk_def.specs.declared.ids.Var.{Var}
use Rattle.sk_deftext.specs.Canonical.{var_word}
use Rattle.sk_deftext.specs.Words.{keyword_of, unless_keyword}
use Rattle.sk_deftext.specs.Met.{met}
use Rattle.sk_deftext.specs.Bodies as spec
use Rattle.sk_deftext.specs.Bodies.{variable}
use Rattle.sk_deftext.specs.Reading.{definition_rules, at_symbol, step, closed, first, more, entry}
use Rattle.sk_deftext.specs.Written.{AreNames, Appear}
use Rattle.sk_deftext.specs.declared.draft.Draft.{Draft}
use Rattle.sk_deftext.specs.declared.expected.Expected.{Expected}
use Rattle.sk_deftext.specs.declared.expected.Expected.TheVariants as expected
use Rattle.sk_deftext.specs.declared.expected.Listed.{Listed}
use Rattle.sk_deftext.specs.declared.expected.Listed.TheVariants as listed
use Rattle.sk_deftext.specs.declared.fault.DefError.{DefError}
use Rattle.sk_deftext.specs.declared.fault.DefError.TheVariants.{TooMany}
use Rattle.sk_deftext.specs.declared.fault.Which.TheVariants as which
use Rattle.sk_deftext.specs.Spelling.{more_symbols, list_symbols}
use Rattle.sk_deftext.proofs.Said.{name_at_word}
use Rattle.sk_deftext.proofs.Found.{Comes, variable_comes, appears_more, first_comes}

abbrev pub Answer : Type 0
Answer = Result (Draft × ℕ) (DefError × ℕ)

-- a reading of so many symbols comes to this draft, where this is expected and these symbols are left
pub record Gets (from : Answer) (total : ℕ) (expected : List Expected) (draft : Draft) (left : List Symbol) : Type 0 where
  pub at : ℕ
  pub is : from ≡ run definition_rules 0 at expected draft left
  pub place : at + length left ≡ total

-- it comes to the end of a list
pub record Closes (from : Answer) (total : ℕ) (list : Listed) (below : List Expected) (draft : Draft) (left : List Symbol) : Type 0 where
  pub at : ℕ
  pub is : from ≡ (at_symbol at (closed draft list) >>= λ turn. run definition_rules turn.more (at + 1) (turn.expected ++ below) turn.state left)
  pub place : at + 1 + length left ≡ total

module _ {from : Answer} {total : ℕ} where
  pub turn : {one : Expected} {below : List Expected} {draft : Draft} {symbol : Symbol} {left : List Symbol} (g : Gets from total (one ∷ below) draft (symbol ∷ left)) (after : Draft) (next : List Expected) →
      step draft one g.at symbol ≡ met after next → Gets from total (next ++ below) after left
  turn {below = below} {left = left} g after next e = record {
    at = g.at + 1;
    is = g.is ∙ ap (λ m. at_symbol g.at m >>= λ turn. run definition_rules turn.more (g.at + 1) (turn.expected ++ below) turn.state left) e;
    place = omega (arith, g.place);
  }

  -- the symbol ends the list
  pub close : {one : Expected} {below : List Expected} {draft : Draft} {symbol : Symbol} {left : List Symbol} (g : Gets from total (one ∷ below) draft (symbol ∷ left)) (list : Listed) →
      step draft one g.at symbol ≡ closed draft list → Closes from total list below draft left
  close {below = below} {left = left} g list e = record {
    at = g.at;
    is = g.is ∙ ap (λ m. at_symbol g.at m >>= λ turn. run definition_rules turn.more (g.at + 1) (turn.expected ++ below) turn.state left) e;
    place = omega (arith, g.place);
  }

  pub closes : {list : Listed} {below : List Expected} {draft : Draft} {left : List Symbol} (c : Closes from total list below draft left) (after : Draft) (next : List Expected) →
      closed draft list ≡ met after next → Gets from total (next ++ below) after left
  closes {below = below} {left = left} c after next e = record {
    at = c.at + 1;
    is = c.is ∙ ap (λ m. at_symbol c.at m >>= λ turn. run definition_rules turn.more (c.at + 1) (turn.expected ++ below) turn.state left) e;
    place = omega (arith, c.place);
  }

-- Marks, and the words that stand for themselves.

pub open_step : (draft : Draft) (at : ℕ) → step draft expected.Open at (Plain LeftParen) ≡ met draft []
unfolding step
open_step draft at = refl

pub arrow_step : (draft : Draft) (at : ℕ) → step draft expected.Arrow at (Plain Points) ≡ met draft []
unfolding step
arrow_step draft at = refl

pub colon_step : (draft : Draft) (at : ℕ) → step draft expected.Colon at (Plain Colon) ≡ met draft []
unfolding step
colon_step draft at = refl

pub left_brace_step : (draft : Draft) (at : ℕ) → step draft expected.LeftBrace at (Plain LeftBrace) ≡ met draft []
unfolding step
left_brace_step draft at = refl

first_closes : (draft : Draft) (list : Listed) (at : ℕ) → step draft (expected.First list) at (Plain RightParen) ≡ closed draft list
unfolding step first
first_closes draft list at = refl

first_enters : (draft : Draft) (list : Listed) (at : ℕ) (word : List ℕ) → step draft (expected.First list) at (Named word) ≡ entry draft list (Named word)
unfolding step first
first_enters draft list at word = refl

more_closes : (draft : Draft) (list : Listed) (at : ℕ) → step draft (expected.More list) at (Plain RightParen) ≡ closed draft list
unfolding step more
more_closes draft list at = refl

more_goes_on : (draft : Draft) (list : Listed) (at : ℕ) → step draft (expected.More list) at (Plain Comma) ≡ met draft (expected.Next list ∷ [])
unfolding step more
more_goes_on draft list at = refl

next_enters : (draft : Draft) (list : Listed) (at : ℕ) (word : List ℕ) → step draft (expected.Next list) at (Named word) ≡ entry draft list (Named word)
unfolding step
next_enters draft list at word = refl

-- A list whose entries are put after one another.
module _ {A : Type 0} (list : Listed) (word : A → List ℕ) (state : List A → Draft) (most : ℕ) (Good : A → Type 0)
    (enter : (so_far : List A) (x : A) → length so_far < most → Good x → entry (state so_far) list (Named (word x)) ≡ met (state (so_far ++ x ∷ [])) (expected.More list ∷ [])) {from : Answer} {total : ℕ} where
  more_get : (so_far xs : List A) {below : List Expected} {left : List Symbol} → length so_far + length xs ≤ most → All Good xs →
      Gets from total (expected.More list ∷ below) (state so_far) (more_symbols word xs ++ left) → Closes from total list below (state (so_far ++ xs)) left
  more_get so_far [] {below = below} {left = left} few good g =
      let P : List A → Type 0 = λ ys. Closes from total list below (state ys) left in
      subst P (sym (append-nil so_far)) (close g list (more_closes (state so_far) list g.at))
  more_get so_far (x ∷ xs) {below = below} {left = left} few good g =
      let on = turn g (state so_far) (expected.Next list ∷ []) (more_goes_on (state so_far) list g.at) in
      let entered = turn on (state (so_far ++ x ∷ [])) (expected.More list ∷ []) (next_enters (state so_far) list on.at (word x) ∙ enter so_far x (omega (arith, few)) (All-head Good x xs good)) in
      let P : List A → Type 0 = λ ys. Closes from total list below (state ys) left in
      subst P (append_assoc so_far (x ∷ []) xs) (more_get (so_far ++ x ∷ []) xs (omega (arith, few, length-append so_far (x ∷ []))) (All-tail Good x xs good) entered)

  pub list_gets : (xs : List A) {below : List Expected} {left : List Symbol} → length xs ≤ most → All Good xs →
      Gets from total (expected.Open ∷ expected.First list ∷ below) (state []) (list_symbols word xs ++ left) → Closes from total list below (state xs) left
  list_gets [] few good g =
      let opened = turn g (state []) [] (open_step (state []) g.at) in
      close opened list (first_closes (state []) list opened.at)
  list_gets (x ∷ xs) few good g =
      let opened = turn g (state []) [] (open_step (state []) g.at) in
      let entered = turn opened (state (x ∷ [])) (expected.More list ∷ []) (first_enters (state []) list opened.at (word x) ∙ enter [] x (omega (arith, few)) (All-head Good x xs good)) in
      more_get (x ∷ []) xs (omega (arith, few)) (All-tail Good x xs good) entered

-- A list of variables.

-- the draft where so many names and these variables have come
abbrev pub with_vars : List (List ℕ) → Draft → ℕ → List Var → Draft
with_vars names base n list = record base { vars = take n names; listed = list }

-- lists of variables are read alike
abbrev pub IsOfVars : Listed → Type 0
IsOfVars list = (draft : Draft) (word : List ℕ) → entry draft list (Named word) ≡ variable draft list (unless_keyword word (keyword_of word))

pub terms_of_vars : IsOfVars listed.Terms
unfolding entry
terms_of_vars draft word = refl

pub inputs_of_vars : IsOfVars listed.RuleInputs
unfolding entry
inputs_of_vars draft word = refl

pub outputs_of_vars : IsOfVars listed.RuleOutputs
unfolding entry
outputs_of_vars draft word = refl

pub args_of_vars : IsOfVars listed.BoneArgs
unfolding entry
args_of_vars draft word = refl

pub outs_of_vars : IsOfVars listed.BoneOuts
unfolding entry
outs_of_vars draft word = refl

pub exports_of_vars : IsOfVars listed.Exports
unfolding entry
exports_of_vars draft word = refl

variable_enters : (draft : Draft) (list : Listed) (word : List ℕ) (place : ℕ) (vars : List (List ℕ)) → keyword_of word ≡ None → length draft.listed < 8 → with_name draft.vars word ≡ Some (place, vars) →
    variable draft list (unless_keyword word (keyword_of word)) ≡ met (record draft { vars = vars; listed = draft.listed ++ record { 0 = place } ∷ [] }) (expected.More list ∷ [])
unfolding variable
variable_enters draft list word place vars k few w =
    ap (λ key. variable draft list (unless_keyword word key)) k
    ∙ ap (λ b. if b then spec.with_variable draft list (with_name draft.vars word) else Err (TooMany which.Arguments)) (lt-ltb (length draft.listed) 8 few)
    ∙ ap (spec.with_variable draft list) w

module _ (names : List (List ℕ)) (are : AreNames names) (most : length names ≤ 64) (base : Draft) (list : Listed) (of_vars : IsOfVars list) where
  var_enters : (n m : ℕ) (v : Var) (so_far : List Var) → Comes n v m → m ≤ length names → length so_far < 8 →
      entry (with_vars names base n so_far) list (Named (var_word names v)) ≡ met (with_vars names base m (so_far ++ v ∷ [])) (expected.More list ∷ [])
  var_enters n m v so_far comes within few =
      of_vars (with_vars names base n so_far) (var_word names v)
      ∙ variable_enters (with_vars names base n so_far) list (var_word names v) v.0 (take m names) (name_at_word names v.0 are.each (below_all comes)).plain few
      (variable_comes names are most n m v comes within) where
        below_all : Comes n v m → v.0 < length names
        below_all (inl c) = omega (arith, c.0, c.1, within)
        below_all (inr c) = omega (arith, c.0, c.1, within)

  module _ {from : Answer} {total : ℕ} where
    more_vars : (n m : ℕ) (so_far vs : List Var) {below : List Expected} {left : List Symbol} → length so_far + length vs ≤ 8 → Appear n vs m → m ≤ length names →
        Gets from total (expected.More list ∷ below) (with_vars names base n so_far) (more_symbols (var_word names) vs ++ left) → Closes from total list below (with_vars names base m (so_far ++ vs)) left
    more_vars n m so_far [] {below = below} {left = left} few appear within g =
        let P : List Var → Type 0 = λ vs. Closes from total list below (with_vars names base m vs) left in
        let Q : ℕ → Type 0 = λ k. Closes from total list below (with_vars names base k so_far) left in
        subst P (sym (append-nil so_far)) (subst Q appear (close g list (more_closes (with_vars names base n so_far) list g.at)))
    more_vars n m so_far (v ∷ vs) {below = below} {left = left} few appear within g =
        let comes = first_comes n m v vs appear in
        let least : comes.0 ≤ length names = omega (arith, appears_more comes.0 m vs comes.2, within) in
        let on = turn g (with_vars names base n so_far) (expected.Next list ∷ []) (more_goes_on (with_vars names base n so_far) list g.at) in
        let entered = turn on (with_vars names base comes.0 (so_far ++ v ∷ [])) (expected.More list ∷ [])
        (next_enters (with_vars names base n so_far) list on.at (var_word names v) ∙ var_enters n comes.0 v so_far comes.1 least (omega (arith, few))) in
        let P : List Var → Type 0 = λ vs. Closes from total list below (with_vars names base m vs) left in
        subst P (append_assoc so_far (v ∷ []) vs) (more_vars comes.0 m (so_far ++ v ∷ []) vs (omega (arith, few, length-append so_far (v ∷ []))) comes.2 within entered)

    pub vars_get : (n m : ℕ) (vs : List Var) {below : List Expected} {left : List Symbol} → length vs ≤ 8 → Appear n vs m → m ≤ length names →
        Gets from total (expected.Open ∷ expected.First list ∷ below) (with_vars names base n []) (list_symbols (var_word names) vs ++ left) → Closes from total list below (with_vars names base m vs) left
    vars_get n m [] {below = below} {left = left} few appear within g =
        let opened = turn g (with_vars names base n []) [] (open_step (with_vars names base n []) g.at) in
        let Q : ℕ → Type 0 = λ k. Closes from total list below (with_vars names base k []) left in
        subst Q appear (close opened list (first_closes (with_vars names base n []) list opened.at))
    vars_get n m (v ∷ vs) few appear within g =
        let comes = first_comes n m v vs appear in
        let least : comes.0 ≤ length names = omega (arith, appears_more comes.0 m vs comes.2, within) in
        let opened = turn g (with_vars names base n []) [] (open_step (with_vars names base n []) g.at) in
        let entered = turn opened (with_vars names base comes.0 (v ∷ [])) (expected.More list ∷ [])
        (first_enters (with_vars names base n []) list opened.at (var_word names v) ∙ var_enters n comes.0 v [] comes.1 least (omega arith)) in
        more_vars comes.0 m (v ∷ []) vs (omega (arith, few)) comes.2 within entered
