-- What each turn of a grammar keeps holds of what is read, also where a turn takes several symbols.
use Rattle.std.proofs.Common.{◌≡◌, ℕ, zero, suc, ◌+◌, ◌≤◌, Bool, true, false, cond, List, [], ◌∷◌, ◌++◌, length, refl, ap, arith, Result, Ok, Err}
use Rattle.std.specs.Prelude.{IfOk, ◌&&◌}
use Rattle.std.specs.List.{list_all}
use Rattle.sk_base.specs.Answer.{◌>>=◌}
use Rattle.sk_lex.specs.Symbols.{Symbol}
use Rattle.sk_lex.specs.Run.{Rules, Turn, run}

-- a turn takes no more symbols than there are, and keeps a fact on what is expected and what was read
abbrev pub Leads : {E S : Type 0} → (List E → S → Type 0) → List E → List Symbol → Turn E S → Type 0
Leads P es left turn = (turn.more ≤ length left) × P (turn.expected ++ es) turn.state

-- a grammar whose turns do so, and keep the fact where the text may end
pub record Keeps {E S C : Type 0} (rules : Rules E S C) (P : List E → S → Type 0) : Type 0 where
  pub ends : (es : List E) (s : S) → P es s → list_all rules.may_end es ≡ true → P [] s
  pub turns : (e : E) (es : List E) (s : S) (at : ℕ) (symbol : Symbol) (left : List Symbol) → P (e ∷ es) s → IfOk (rules.meets e s at symbol left) (Leads P es left)

-- what holds at the end, which is no place past the symbols
abbrev pub Ends : {E S : Type 0} → (List E → S → Type 0) → ℕ → S × ℕ → Type 0
Ends P last read = P [] read.0 × (read.1 ≤ last)

bound : {A B C : Type 0} (r : Result A C) (f : A → Result B C) (P : A → Type 0) (Q : B → Type 0) → IfOk r P → ((x : A) → P x → IfOk (f x) Q) → IfOk (r >>= f) Q
bound (Ok x) f P Q h k = k x h
bound (Err e) f P Q h k = tt

ended : {S C : Type 0} (b : Bool) (state : S) (at last : ℕ) (e : C) (P : S → Type 0) → (b ≡ true → P state) → at ≤ last → IfOk (cond b (Ok (state, at)) (Err e)) (λ (read : S × ℕ). P read.0 × (read.1 ≤ last))
ended true state at last e P h k = (h refl, k)
ended false state at last e P h k = tt

later : {S C : Type 0} (r : Result (S × ℕ) C) (P : S → Type 0) (last other : ℕ) → last ≡ other → IfOk r (λ read. P read.0 × (read.1 ≤ last)) → IfOk r (λ read. P read.0 × (read.1 ≤ other))
later (Ok read) P last other e h = (h.0, omega (arith, e, h.1))
later (Err e) P last other same h = tt

pub run_keeps : {E S C : Type 0} (rules : Rules E S C) (P : List E → S → Type 0) → Keeps rules P → (skip at : ℕ) (expected : List E) (state : S) (symbols : List Symbol) →
    skip ≤ length symbols → P expected state → IfOk (run rules skip at expected state symbols) (Ends P (at + length symbols))
run_keeps rules P k (suc skip) at expected state [] h p = absurd (omega (arith, h))
run_keeps rules P k (suc skip) at expected state (symbol ∷ left) h p =
    later _ (P []) (at + 1 + length left) (at + suc (length left)) (omega arith) (run_keeps rules P k skip (at + 1) expected state left (omega (arith, h)) p)
run_keeps rules P k zero at [] state [] h p = (p, omega arith)
run_keeps rules P k zero at [] state (symbol ∷ left) h p = (p, omega arith)
run_keeps rules P k zero at (e ∷ es) state [] h p =
    ended (list_all rules.may_end (e ∷ es)) state at (at + 0) (rules.unexpected, at) (P []) (k.ends (e ∷ es) state p) (omega arith)
run_keeps rules P k zero at (e ∷ es) state (symbol ∷ left) h p =
    bound (rules.meets e state at symbol left) _ _ _ (k.turns e es state at symbol left p)
    (λ turn q. later _ (P []) (at + 1 + length left) (at + suc (length left)) (omega arith) (run_keeps rules P k turn.more (at + 1) (turn.expected ++ es) turn.state left q.0 q.1))

-- a place past another
abbrev pub Past : {S C : Type 0} → ℕ → Result (S × ℕ) (C × ℕ) → Type 0
Past at r = IfOk r (λ read. at ≤ read.1)

past_more : {S C : Type 0} (at : ℕ) (r : Result (S × ℕ) (C × ℕ)) → Past (at + 1) r → Past at r
past_more at (Ok read) h = omega (arith, h)
past_more at (Err e) h = tt

past_turn : {T S C : Type 0} (at : ℕ) (r : Result T (C × ℕ)) (f : T → Result (S × ℕ) (C × ℕ)) → ((turn : T) → Past at (f turn)) → Past at (r >>= f)
past_turn at (Ok turn) f h = h turn
past_turn at (Err e) f h = tt

past_end : {S C : Type 0} (b : Bool) (at : ℕ) (state : S) (bad : C × ℕ) → Past at (cond b (Ok (state, at)) (Err bad))
past_end true at state bad = omega arith
past_end false at state bad = tt

never_end : {S C : Type 0} (b : Bool) (at : ℕ) (state : S) (bad : C × ℕ) → b ≡ false → Past (at + 1) (cond b (Ok (state, at)) (Err bad))
never_end true at state bad h = absurd (cc)
never_end false at state bad h = tt

-- the place that is answered is none before the first
goes_on : {E S C : Type 0} (rules : Rules E S C) (skip at : ℕ) (expected : List E) (state : S) (symbols : List Symbol) → Past at (run rules skip at expected state symbols)
goes_on rules (suc skip) at expected state [] = omega arith
goes_on rules (suc skip) at expected state (symbol ∷ left) = past_more at _ (goes_on rules skip (at + 1) expected state left)
goes_on rules zero at [] state left = omega arith
goes_on rules zero at (one ∷ expected) state [] = past_end (list_all rules.may_end (one ∷ expected)) at state (rules.unexpected, at)
goes_on rules zero at (one ∷ expected) state (symbol ∷ left) =
    past_turn at (rules.meets one state at symbol left) _ (λ turn. past_more at _ (goes_on rules turn.more (at + 1) (turn.expected ++ expected) turn.state left))

-- and is past it where something is expected that may not meet the end
pub takes_one : {E S C : Type 0} (rules : Rules E S C) (at : ℕ) (e : E) (es : List E) (state : S) (symbols : List Symbol) → rules.may_end e ≡ false → Past (at + 1) (run rules 0 at (e ∷ es) state symbols)
takes_one rules at e es state [] n = never_end (list_all rules.may_end (e ∷ es)) at state (rules.unexpected, at) (ap (λ b. b && list_all rules.may_end es) n)
takes_one rules at e es state (symbol ∷ left) n =
    past_turn (at + 1) (rules.meets e state at symbol left) _ (λ turn. goes_on rules turn.more (at + 1) (turn.expected ++ es) turn.state left)
