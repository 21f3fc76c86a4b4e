-- The first entry that fails a test, looked for from a place on.
use Rattle.std.proofs.Common.{ℕ, Bool, not, List, Option}
use Rattle.std.specs.Prelude.{find}
use Rattle.std.specs.List.{enumerate_from}

-- the first of these entries that fails, where the first of them has this number
abbrev pub failing_from : {A : Type 0} → (A → Bool) → ℕ → List A → Option (ℕ × A)
failing_from test n xs = find (λ e. not (test e.1)) (enumerate_from n xs)
