-- What a word names among the declarations of a definition, and how a hook is named.
use Rattle.std.specs.Prelude.{ℕ, List, [], Option, position, option_map, slice_get}
use Rattle.std.specs.Option.{option_map_or}
use Rattle.std.specs.Str.{bytes_eq}
use Rattle.sk_def.specs.declared.ids.ConId.{ConId}
use Rattle.sk_def.specs.declared.ids.HookId.{HookId}
use Rattle.sk_def.specs.declared.def.Con.{Con}
use Rattle.sk_def.specs.declared.def.Hook.{Hook}
use Rattle.sk_def.specs.declared.def.Def.{Def}

abbrev pub place_of_con : List Con → List ℕ → Option ℕ
place_of_con cons word = position (λ con. bytes_eq con.name word) cons

abbrev pub place_of_hook : List Hook → List ℕ → Option ℕ
place_of_hook hooks word = position (λ hook. bytes_eq hook.name word) hooks

-- the first constructor of a name, and the first hook
abbrev pub con_named : Def → List ℕ → Option ConId
con_named d word = option_map (λ place. record { 0 = place }) (place_of_con d.cons word)

abbrev pub hook_named : Def → List ℕ → Option HookId
hook_named d word = option_map (λ place. record { 0 = place }) (place_of_hook d.hooks word)

-- the name of a hook of the definition
abbrev pub hook_name : Def → HookId → List ℕ
hook_name d hook = option_map_or (λ (h : Hook). h.name) (slice_get d.hooks hook.0) []
