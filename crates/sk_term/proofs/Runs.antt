-- What each turn of a grammar keeps holds of what is read.
use Rattle.std.proofs.Common.{◌≡◌, ℕ, ◌+◌, Bool, true, false, cond, List, [], ◌∷◌, ◌++◌, sym, ap, subst, Result, Ok, Err}
use Rattle.std.specs.Prelude.{IfOk, ◌&&◌}
use Rattle.std.specs.List.{list_all}
use Rattle.sk_base.specs.Answer.{◌>>=◌}
use Rattle.sk_lex.specs.Symbols.{Symbol}
use Rattle.sk_lex.specs.Run.{Rules, run}

-- a grammar whose turns take one symbol each, and in which nothing expected may meet the end, keeps a fact on what is
-- expected and what was read
pub record Keeps {E S C : Type 0} (rules : Rules E S C) (P : List E → S → Type 0) : Type 0 where
  pub never : (e : E) → rules.may_end e ≡ false
  pub turns : (e : E) (es : List E) (s : S) (at : ℕ) (symbol : Symbol) (left : List Symbol) → P (e ∷ es) s →
      IfOk (rules.meets e s at symbol left) (λ turn. (turn.more ≡ 0) × P (turn.expected ++ es) turn.state)

bound : {A B C : Type 0} (r : Result A C) (f : A → Result B C) (P : A → Type 0) (Q : B → Type 0) → IfOk r P → ((x : A) → P x → IfOk (f x) Q) → IfOk (r >>= f) Q
bound (Ok x) f P Q h k = k x h
bound (Err e) f P Q h k = tt

refused : {T E : Type 0} (b : Bool) (x : T) (e : E) (P : T → Type 0) → b ≡ false → IfOk (cond b (Ok x) (Err e)) P
refused true x e P h = absurd (cc)
refused false x e P h = tt

pub run_keeps : {E S C : Type 0} (rules : Rules E S C) (P : List E → S → Type 0) → Keeps rules P → (at : ℕ) (expected : List E) (state : S) (symbols : List Symbol) →
    P expected state → IfOk (run rules 0 at expected state symbols) (λ read. P [] read.0)
run_keeps rules P k at [] state [] p = p
run_keeps rules P k at [] state (symbol ∷ left) p = p
run_keeps rules P k at (e ∷ es) state [] p =
    refused (list_all rules.may_end (e ∷ es)) (state, at) (rules.unexpected, at) (λ read. P [] read.0) (ap (λ b. b && list_all rules.may_end es) (k.never e))
run_keeps rules P k at (e ∷ es) state (symbol ∷ left) p =
    bound (rules.meets e state at symbol left) _ _ _ (k.turns e es state at symbol left p)
    (λ turn q. let F : ℕ → Type 0 = λ n. IfOk (run rules n (at + 1) (turn.expected ++ es) turn.state left) (λ read. P [] read.0) in
    subst F (sym q.0) (run_keeps rules P k (at + 1) (turn.expected ++ es) turn.state left q.1))
