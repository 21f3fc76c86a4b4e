-- The triples of a table by their keys.
use Rattle.std.specs.Prelude.{◌≡◌, ℕ, ◌<◌, ◌≤◌, ◌+◌, ◌*◌, List, [], length, get_or, filter}
use Rattle.sk_table.specs.declared.triple.Triple.{Triple}
use Rattle.sk_abswalk.specs.Keys.{Key, same_key, key_of_triple}

-- the triples of a key, in the table's order
abbrev pub triples_of : {D : Type 0} → Key → List (Triple D) → List (Triple D)
triples_of k table = filter (λ triple. same_key (key_of_triple triple) k) table

-- the slot of a key, where slots lie by point and then by hook, for so many hooks
abbrev pub slot_of : ℕ → Key → ℕ
slot_of hooks k = k.1 * hooks + k.0.0

-- a key has one of so many slots
pub record HasSlot (hooks slots : ℕ) (k : Key) : Type 0 where
  pub hook_within : k.0.0 < hooks
  pub slot_within : slot_of hooks k < slots

-- in the slot of each key stand the table's triples of that key, all of them and in the table's order
abbrev pub IsIndex : {D : Type 0} → ℕ → List (List (Triple D)) → List (Triple D) → Type 0
IsIndex hooks slots table = (k : Key) → HasSlot hooks (length slots) k → get_or slots (slot_of hooks k) [] ≡ triples_of k table

-- an index for a number of hooks that a definition may have
pub record IsIndexed {D : Type 0} (hooks : ℕ) (slots : List (List (Triple D))) (table : List (Triple D)) : Type 0 where
  pub few_hooks : hooks ≤ 8
  pub indexed : IsIndex hooks slots table
