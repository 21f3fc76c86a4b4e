-- How far a reading has come.
use Rattle.std.proofs.Common.{◌≡◌, ℕ, ◌+◌, List, [], ◌∷◌, ◌++◌, length, length-append, ap, subst, ◌∙◌, arith, Result, Ok}
use Rattle.sk_base.specs.Answer.{◌>>=◌}
use Rattle.sk_lex.specs.Run.{Rules, run}
use Rattle.sk_lex.specs.Symbols.{Symbol}

-- a reading of so many symbols comes to this state, where this is expected and these symbols are left
pub record Gets {E S C : Type 0} (rules : Rules E S C) (from : Result (S × ℕ) (C × ℕ)) (total : ℕ) (expected : List E) (state : S) (left : List Symbol) : Type 0 where
  pub at : ℕ
  pub is : from ≡ run rules 0 at expected state left
  pub place : at + length left ≡ total

-- symbols that were taken already are passed over
passed : {E S C : Type 0} (rules : Rules E S C) (front left : List Symbol) (at : ℕ) (expected : List E) (state : S) → run rules (length front) at expected state (front ++ left) ≡ run rules 0 (at + length front) expected state left
passed rules [] left at expected state = ap (λ n. run rules 0 n expected state left) {y = at + 0} (omega arith)
passed rules (s ∷ front) left at expected state =
    passed rules front left (at + 1) expected state ∙ ap (λ n. run rules 0 n expected state left) {x = at + 1 + length front} {y = at + length (s ∷ front)} (omega arith)

module _ {E S C : Type 0} {rules : Rules E S C} where
  module _ {from : Result (S × ℕ) (C × ℕ)} {total : ℕ} where
    -- a turn that takes one symbol, and one that takes some more
    pub turn : {one : E} {below : List E} {state : S} {symbol : Symbol} {left : List Symbol} (g : Gets rules from total (one ∷ below) state (symbol ∷ left)) (after : S) (next : List E) →
        rules.meets one state g.at symbol left ≡ Ok (record { expected = next; state = after; more = 0 }) → Gets rules from total (next ++ below) after left
    turn {below = below} {left = left} g after next e = record {
      at = g.at + 1;
      is = g.is ∙ ap (λ m. m >>= λ turn. run rules turn.more (g.at + 1) (turn.expected ++ below) turn.state left) e;
      place = omega (arith, g.place);
    }

    pub long_turn : {one : E} {below : List E} {state : S} {symbol : Symbol} (front : List Symbol) {left : List Symbol} (g : Gets rules from total (one ∷ below) state (symbol ∷ (front ++ left))) (after : S) (next : List E) →
        rules.meets one state g.at symbol (front ++ left) ≡ Ok (record { expected = next; state = after; more = length front }) → Gets rules from total (next ++ below) after left
    long_turn {below = below} front {left = left} g after next e = record {
      at = g.at + 1 + length front;
      is = g.is ∙ ap (λ m. m >>= λ turn. run rules turn.more (g.at + 1) (turn.expected ++ below) turn.state (front ++ left)) e ∙ passed rules front left (g.at + 1) (next ++ below) after;
      place = omega (arith, g.place, length-append front left);
    }

  -- the same symbols, said otherwise
  pub left_is : {from : Result (S × ℕ) (C × ℕ)} {total : ℕ} {expected : List E} {state : S} {left others : List Symbol} → Gets rules from total expected state left → left ≡ others → Gets rules from total expected state others
  left_is {from = from} {total = total} {expected = expected} {state = state} g e = subst (λ (left : List Symbol). Gets rules from total expected state left) e g
