-- Exchanging a direct subtree of a derivation for a better one.
use Rattle.std.specs.Prelude.{ℕ, ◌<◌, ◌≡◌}
use Rattle.sk_def.specs.declared.ids.HookId.{HookId}
use Rattle.sk_filter.specs.Arguments.{Values}
use Rattle.sk_deriv.specs.Tree.{Derivation, derivation, Steps, pick, sub, hook_of, point_of, ins_of, outs_of, height, word, IsBefore}
use Rattle.sk_deriv.specs.Moves.{Setting, IsValid}
use Rattle.sk_deriv.specs.declared.call.Call.{Call}
use Rattle.sk_deriv.specs.Results.{DerivesWithin}

-- the second steps are the first with one subtree u exchanged for v
pub data Exchanged (u v : Derivation) : Steps → Steps → Type 0 where
  here : {rest : Steps} → Exchanged u v (sub u rest) (sub v rest)
  past_pick : {k : ℕ} {rest rest' : Steps} → Exchanged u v rest rest' → Exchanged u v (pick k rest) (pick k rest')
  past_sub : {t : Derivation} {rest rest' : Steps} → Exchanged u v rest rest' → Exchanged u v (sub t rest) (sub t rest')

-- v can stand for u below height n, with a smaller word
pub record Improves (s : Setting) (n : ℕ) (u v : Derivation) : Type 0 where
  pub valid : IsValid s v
  pub same_hook : hook_of v ≡ hook_of u
  pub same_point : point_of v ≡ point_of u
  pub same_ins : ins_of v ≡ ins_of u
  pub same_outs : outs_of v ≡ outs_of u
  pub low : height v < n
  pub before : IsBefore (word v) (word u)

-- the law of exchange: with a direct subtree exchanged for a better one, a derivation of a call
-- to depth n stays one, with the same outputs, and its word becomes smaller
abbrev pub ExchangeKeeps : Type 0
ExchangeKeeps =
    (s : Setting) (c : Call) (n : ℕ) (hook : HookId) (point : ℕ) (ins outs : Values) (steps steps' : Steps) (u v : Derivation) →
    DerivesWithin s c n (derivation hook point ins steps outs) → Exchanged u v steps steps' → Improves s n u v →
    DerivesWithin s c n (derivation hook point ins steps' outs) × IsBefore (word (derivation hook point ins steps' outs)) (word (derivation hook point ins steps outs))
