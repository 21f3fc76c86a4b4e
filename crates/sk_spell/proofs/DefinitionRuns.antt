-- A reading of a definition that ends well, and what each symbol that it takes was met by.
use Rattle.std.proofs.Common.{◌≡◌, ℕ, ◌+◌, Bool, true, false, ◌&&◌, if◌then◌else◌, List, [], ◌∷◌, ◌++◌, refl, sym, subst, Result, Ok, Err}
use Rattle.std.specs.List.{list_all}
use Rattle.sk_base.specs.Answer.{◌>>=◌}
use Rattle.sk_lex.specs.Run.{Turn, run, IsFrontOf}
use Rattle.sk_lex.specs.Symbols.{Symbol}
use Rattle.sk_def.specs.declared.ids.Var.{Var}
use Rattle.sk_deftext.specs.Canonical.{var_word}
use Rattle.sk_deftext.specs.Met.{Met, met, turn_of}
use Rattle.sk_deftext.specs.Reading.{definition_rules, step, closed, at_symbol, may_end}
use Rattle.sk_deftext.specs.Spelling.{list_symbols}
use Rattle.sk_deftext.specs.declared.draft.Draft.{Draft}
use Rattle.sk_deftext.specs.declared.expected.Expected.{Expected}
use Rattle.sk_deftext.specs.declared.expected.Listed.{Listed}
use Rattle.sk_deftext.specs.declared.fault.DefError.{DefError}
use Rattle.sk_deftext.proofs.Kept.{Kept, step_keeps}
use Rattle.sk_deftext.proofs.Standing.{Standing}

-- what was read at last, and the place after it
abbrev pub Final : Type 0
Final = Draft × ℕ

-- a reading that ends so stands at this draft, where this is expected and these symbols are left
pub record Reads (final : Final) (awaited : List Expected) (draft : Draft) (left : List Symbol) : Type 0 where
  pub at : ℕ
  pub is : run definition_rules 0 at awaited draft left ≡ Ok final
  pub stands : Standing draft

-- it took a symbol where this was expected
pub record Took (final : Final) (one : Expected) (below : List Expected) (draft : Draft) (symbols : List Symbol) : Type 0 where
  pub symbol : Symbol
  pub left : List Symbol
  pub at : ℕ
  pub turn : Turn Expected Draft
  pub symbols_are : symbols ≡ symbol ∷ left
  pub met_is : step draft one at symbol ≡ Ok turn
  pub goes : run definition_rules turn.more (at + 1) (turn.expected ++ below) turn.state left ≡ Ok final
  pub stands : Standing turn.state

step_stands : (turn : Turn Expected Draft) (m : Met) → m ≡ Ok turn → Kept m → Standing turn.state
step_stands turn (Ok same) e k = let s : same ≡ turn = cc e in subst (λ (t : Turn Expected Draft). Standing t.state) s k.is
step_stands turn (Err error) e k = absurd (cc e)

took_at : {final : Final} {one : Expected} {below : List Expected} {draft : Draft} {symbol : Symbol} {left : List Symbol} (at : ℕ) (s : Standing draft) (m : Met) → step draft one at symbol ≡ m →
    (at_symbol at m >>= λ turn. run definition_rules turn.more (at + 1) (turn.expected ++ below) turn.state left) ≡ Ok final → Took final one below draft (symbol ∷ left)
took_at {one = one} {draft = draft} {symbol = symbol} {left = left} at s (Ok turn) e h = record {
  symbol = symbol;
  left = left;
  at = at;
  turn = turn;
  symbols_are = refl;
  met_is = e;
  goes = h;
  stands = step_stands turn (step draft one at symbol) e (step_keeps draft s one at symbol);
}
took_at at s (Err error) e h = absurd (cc h)

-- where a symbol stands, it was taken
pub took_next : {final : Final} {one : Expected} {below : List Expected} {draft : Draft} {symbol : Symbol} {left : List Symbol} → Reads final (one ∷ below) draft (symbol ∷ left) → Took final one below draft (symbol ∷ left)
took_next {one = one} {draft = draft} {symbol = symbol} r = took_at r.at r.stands (step draft one r.at symbol) refl r.is

-- where the text may not end, a symbol was taken
pub took : {final : Final} {one : Expected} {below : List Expected} {draft : Draft} {symbols : List Symbol} → may_end one ≡ false → Reads final (one ∷ below) draft symbols → Took final one below draft symbols
took {symbols = symbol ∷ left} e r = took_next r
took {final = final} {one = one} {below = below} {draft = draft} {symbols = []} e r = absurd (by (may_end one) e r.is) where
  stopped : Bool → Result Final (DefError × ℕ)
  stopped b = if b then Ok (draft, r.at) else Err (definition_rules.unexpected, r.at)

  by : (b : Bool) → b ≡ false → stopped (b && list_all may_end below) ≡ Ok final → ⊥
  by true e h = absurd (cc e)
  by false e h = absurd (cc h)

-- the reading goes on after the symbol, where it was met so
pub goes_on : {final : Final} {one : Expected} {below : List Expected} {draft : Draft} {symbols : List Symbol} (t : Took final one below draft symbols) (after : Draft) (next : List Expected) →
    step draft one t.at t.symbol ≡ met after next → Reads final (next ++ below) after t.left
goes_on {final = final} {below = below} t after next e =
    let same : turn_of after next ≡ t.turn = cc (e, t.met_is) in
    record {
      at = t.at + 1;
      is = subst (λ (turn : Turn Expected Draft). run definition_rules turn.more (t.at + 1) (turn.expected ++ below) turn.state t.left ≡ Ok final) (sym same) t.goes;
      stands = subst (λ (turn : Turn Expected Draft). Standing turn.state) (sym same) t.stands;
    }

-- it came to the end of a list, which was met so
pub record Ended (final : Final) (list : Listed) (below : List Expected) (draft : Draft) (left : List Symbol) : Type 0 where
  pub at : ℕ
  pub turn : Turn Expected Draft
  pub met_is : closed draft list ≡ Ok turn
  pub goes : run definition_rules turn.more (at + 1) (turn.expected ++ below) turn.state left ≡ Ok final
  pub stands : Standing turn.state

pub ends_so : {final : Final} {list : Listed} {below : List Expected} {draft : Draft} {left : List Symbol} (c : Ended final list below draft left) (after : Draft) (next : List Expected) →
    closed draft list ≡ met after next → Reads final (next ++ below) after left
ends_so {final = final} {below = below} {left = left} c after next e =
    let same : turn_of after next ≡ c.turn = cc (e, c.met_is) in
    record {
      at = c.at + 1;
      is = subst (λ (turn : Turn Expected Draft). run definition_rules turn.more (c.at + 1) (turn.expected ++ below) turn.state left ≡ Ok final) (sym same) c.goes;
      stands = subst (λ (turn : Turn Expected Draft). Standing turn.state) (sym same) c.stands;
    }

-- A list of variables was read: the names grew by those that are new, and its symbols are the list's by the words of all
-- names that go on from these.
pub record VarsRead (final : Final) (list : Listed) (below : List Expected) (base : Draft) (symbols : List Symbol) : Type 0 where
  pub vars : List (List ℕ)
  pub listed : List Var
  pub left : List Symbol
  pub grown : IsFrontOf base.vars vars
  pub symbols_are : (names : List (List ℕ)) → IsFrontOf vars names → symbols ≡ list_symbols (var_word names) listed ++ left
  pub ended : Ended final list below (record base { vars = vars; listed = listed }) left
