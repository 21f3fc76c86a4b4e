-- What a word and a number call.
use Rattle.std.proofs.Common.{◌≡◌, ℕ, ◌<◌, nat_lt, Bool, true, false, cond, List, [], length, get_or, refl, sym, ap, ◌∙◌, arith, Option, Some, None}
use Rattle.std.specs.Prelude.{option_map, slice_get, ◌==◌, ◌&&◌}
use Rattle.std.specs.Option.{option_map_or}
use Rattle.std.specs.Str.{bytes_eq}
use Rattle.std.specs.List.{position_or_len}
use Rattle.std.proofs.lemmas.Bool.{ltb-true, lt-ltb, eqb-true, eq-eqb}
use Rattle.std.proofs.lemmas.List.Quantifiers.{position-Some}
use Rattle.std.proofs.lemmas.List.Sums.{position_or_len_is}
use Rattle.std.proofs.lemmas.Option.{slice_get-get_or, slice_get_within, get_or_from_slice_get}
use Rattle.std.proofs.lemmas.Slice.Eq.{bytes_eq-Decides}
use Rattle.sk_def.specs.Named.{hook_named, place_of_hook}
use Rattle.sk_def.specs.declared.ids.HookId.{HookId}
use Rattle.sk_def.specs.declared.ids.SortId.{SortId}
use Rattle.sk_def.specs.declared.def.Def.{Def}
use Rattle.sk_def.specs.declared.def.Hook.{Hook}
use Rattle.sk_term.specs.Program.{Program}
use Rattle.sk_table.specs.Tables.{has_sort_at}
use Rattle.sk_spell.specs.Calls.{IsDeclared, IsPointOf}

abbrev is_called : List ℕ → Hook → Bool
is_called word hook = bytes_eq hook.name word

other_word : (a b : List ℕ) → ¬ (a ≡ b) → bytes_eq a b ≡ false
other_word a b h = by_case (bytes_eq a b) refl where
  by_case : (r : Bool) → bytes_eq a b ≡ r → bytes_eq a b ≡ false
  by_case true e = absurd (h ((bytes_eq-Decides a b).0 e))
  by_case false e = e

not_same : (a b : List ℕ) → bytes_eq a b ≡ false → ¬ (a ≡ b)
not_same a b e same = absurd (cc (sym e ∙ (bytes_eq-Decides a b).1 same))

-- a hook is found by its name where none before has it
pub hook_is_found : (def : Def) (hook : HookId) (declared : Hook) → IsDeclared def hook declared → hook_named def declared.name ≡ Some hook
hook_is_found def hook declared h =
    let within : hook.0 < length def.hooks = slice_get_within def.hooks hook.0 declared h.is in
    let here : get_or def.hooks hook.0 declared ≡ declared = get_or_from_slice_get def.hooks hook.0 declared declared h.is in
    let before : (k : ℕ) → k < hook.0 → is_called declared.name (get_or def.hooks k declared) ≡ false =
    λ k below. other_word (get_or def.hooks k declared).name declared.name
    (h.first k (get_or def.hooks k declared) below (slice_get-get_or def.hooks k declared (omega (arith, below, within)))) in
    let named : is_called declared.name (get_or def.hooks hook.0 declared) ≡ true = ap (is_called declared.name) here ∙ (bytes_eq-Decides declared.name declared.name).1 refl in
    let at : position_or_len (is_called declared.name) def.hooks ≡ hook.0 = position_or_len_is (is_called declared.name) def.hooks hook.0 declared (omega (arith, within)) before (λ k. named) in
    let found : place_of_hook def.hooks declared.name ≡ Some hook.0 =
    ap (λ n. cond (nat_lt n (length def.hooks)) (Some n) None) at ∙ ap (λ b. cond b (Some hook.0) None) (lt-ltb hook.0 (length def.hooks) within) in
    ap (λ o. option_map (λ place. record { 0 = place }) o) found

-- the hook that a word finds
pub record IsCalled (def : Def) (word : List ℕ) (hook : HookId) : Type 0 where
  pub declared : Hook
  pub called : IsDeclared def hook declared
  pub named : declared.name ≡ word

abbrev number_of_hook : Option HookId → ℕ
number_of_hook None = 0
number_of_hook (Some hook) = hook.0

abbrev blank : Hook
blank = record { name = []; inputs = []; sort = record { 0 = 0 }; outputs = [] }

called_at : (def : Def) (word : List ℕ) (hook : HookId) → (hook.0 < length def.hooks) × (is_called word (get_or def.hooks hook.0 blank) ≡ true) ×
    ((k : ℕ) → k < hook.0 → is_called word (get_or def.hooks k blank) ≡ false) →
    IsCalled def word hook
called_at def word hook p =
    let name_is : (get_or def.hooks hook.0 blank).name ≡ word = (bytes_eq-Decides (get_or def.hooks hook.0 blank).name word).0 p.1 in
    record {
      declared = get_or def.hooks hook.0 blank;
      called = record {
        is = slice_get-get_or def.hooks hook.0 blank p.0;
        first = λ place other below there same.
            not_same (get_or def.hooks place blank).name word (p.2 place below) (ap (λ (h : Hook). h.name) (get_or_from_slice_get def.hooks place other blank there) ∙ same ∙ name_is);
      };
      named = name_is;
    }

pub found_is_called : (def : Def) (word : List ℕ) (hook : HookId) → hook_named def word ≡ Some hook → IsCalled def word hook
found_is_called def word hook h = by_place (place_of_hook def.hooks word) refl h where
  by_place : (found : Option ℕ) → place_of_hook def.hooks word ≡ found → option_map (λ place. record { 0 = place }) found ≡ Some hook → IsCalled def word hook
  by_place None e k = absurd (cc)
  by_place (Some place) e k =
      let same : place ≡ hook.0 = ap number_of_hook k in
      called_at def word hook (position-Some (is_called word) def.hooks hook.0 blank (e ∙ ap (λ n. Some n) same))

-- whether a number is that of a point of a sort
abbrev sort_is_at : List SortId → SortId → ℕ → Bool
sort_is_at sorts wanted point = option_map_or (λ (sort : SortId). sort.0 == wanted.0) (slice_get sorts point) false

sort_so : (found : Option SortId) (wanted : SortId) → option_map_or (λ (sort : SortId). sort.0 == wanted.0) found false ≡ true → found ≡ Some wanted
sort_so None wanted h = absurd (cc)
sort_so (Some found) wanted h = ap (λ (n : ℕ). Some (record { 0 = n })) (eqb-true found.0 wanted.0 h)

both : (a b : Bool) → (a && b) ≡ true → (a ≡ true) × (b ≡ true)
both true b h = (refl, h)
both false b h = absurd (cc h)

pub point_so : (program : Program) (wanted : SortId) (point : ℕ) → has_sort_at program wanted point ≡ true → IsPointOf program wanted point
point_so program wanted point h =
    let p = both (nat_lt point (length program.nodes)) (sort_is_at program.sorts wanted point) h in
    record { below = ltb-true point (length program.nodes) p.0; sort_is = sort_so (slice_get program.sorts point) wanted p.1 }

pub point_fits : (program : Program) (wanted : SortId) (point : ℕ) → IsPointOf program wanted point → has_sort_at program wanted point ≡ true
point_fits program wanted point p =
    ap (λ b. b && sort_is_at program.sorts wanted point) (lt-ltb point (length program.nodes) p.below)
    ∙ ap (λ o. option_map_or (λ (sort : SortId). sort.0 == wanted.0) o false) p.sort_is ∙ eq-eqb wanted.0 wanted.0 refl
