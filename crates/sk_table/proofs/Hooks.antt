-- The hooks of a definition within its limits.
use Rattle.std.proofs.Common.{◌≡◌, ℕ, length, subst, sym, ◌∙◌, ap, Some}
use Rattle.std.specs.Prelude.{slice_get, unwrap_or}
use Rattle.std.proofs.lemmas.List.Elements.{All-get_or}
use Rattle.std.proofs.lemmas.Option.{slice_get_within, unwrap_or-slice_get}
use Rattle.sk_def.specs.Fits.{DefinitionFits, HookFits}
use Rattle.sk_def.specs.declared.def.Def.{Def}
use Rattle.sk_def.specs.declared.def.Hook.{Hook}

pub hook_is_small : (d : Def) (k : ℕ) (h : Hook) → DefinitionFits d → slice_get d.hooks k ≡ Some h → HookFits (length d.sorts) h
hook_is_small d k h f e =
    subst (HookFits (length d.sorts)) (sym (unwrap_or-slice_get d.hooks k h) ∙ ap (λ found. unwrap_or found h) e)
    (All-get_or (HookFits (length d.sorts)) d.hooks k h (slice_get_within d.hooks k h e) f.hooks_fit)
