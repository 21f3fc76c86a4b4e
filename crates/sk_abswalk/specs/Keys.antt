-- Keys, which are pairs of a hook and a point, and answers to calls by their keys.
use Rattle.std.specs.Prelude.{ℕ, Bool, false, ◌≡◌, ◌==◌, ◌&&◌, List, [], ◌∷◌, find, Some}
use Rattle.std.specs.List.{list_any}
use Rattle.std.specs.Option.{option_and_then}
use Rattle.sk_def.specs.declared.ids.HookId.{HookId}
use Rattle.sk_absfilter.specs.Abstract.{Outcome}
use Rattle.sk_table.specs.declared.triple.Triple.{Triple}
use Rattle.sk_table.specs.declared.triple.Cover.{Cover}
use Rattle.sk_abswalk.specs.Walk.{Flows, Answers}

-- a hook and a point
abbrev pub Key : Type 0
Key = HookId × ℕ

abbrev pub same_key : Key → Key → Bool
same_key j k = (j.0.0 == k.0.0) && (j.1 == k.1)

-- the call of a key with these inputs, and the keys of a call and of a triple
abbrev pub call_with : {D : Type 0} → Key → Flows D → Cover D
call_with k ins = record { hook = k.0; point = k.1; ins = ins }

abbrev pub key_of : {D : Type 0} → Cover D → Key
key_of c = (c.hook, c.point)

abbrev pub key_of_triple : {D : Type 0} → Triple D → Key
key_of_triple triple = (triple.hook, triple.point)

-- each call is answered by its key, whatever its inputs
abbrev pub by_key : {D : Type 0} → (Key → Outcome D) → Answers D
by_key answers c = Some (answers (key_of c))

-- no two triples are of one key
abbrev pub HasOnePerKey : {D : Type 0} → List (Triple D) → Type 0
HasOnePerKey [] = Unit {0}
HasOnePerKey (triple ∷ triples) = (list_any (λ other. same_key (key_of_triple other) (key_of_triple triple)) triples ≡ false) × HasOnePerKey triples

-- the outputs of a key's own triple; none where the table has no triple of the key
abbrev pub own_outputs : {D : Type 0} → List (Triple D) → Key → Outcome D
own_outputs table k = option_and_then (λ triple. triple.outs) (find (λ triple. same_key (key_of_triple triple) k) table)
