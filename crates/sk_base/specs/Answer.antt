-- What a call answered against what a definition gives.
use Rattle.std.specs.Prelude.{◌≡◌, Option, Result, Ok, Err, IfSome}

infixl 10 ◌>>=◌
-- the second step on the first one's value, or the first one's error
abbrev pub ◌>>=◌ : {A B E : Type 0} → Result A E → (A → Result B E) → Result B E
(Ok x) >>= f = f x
(Err e) >>= f = Err e

-- A call that answered this is one that the definition's result explains: its value, seen by view, or its
-- error, where `error` gives none for want of memory.
abbrev pub Gives : {X F Y E : Type 0} → (X → Y) → (F → Option E) → Result X F → Result Y E → Type 0
Gives view error (Ok x) defined = defined ≡ Ok (view x)
Gives view error (Err f) defined = IfSome (error f) (λ e. defined ≡ Err e)
