-- Indexes of a table by key.
use Rattle.std.proofs.Common.{◌≡◌, ◌≢◌, ℕ, ◌*◌, ◌<◌, ◌/◌, Bool, true, false, cond, ◌==◌, ◌&&◌, List, [], ◌∷◌, ◌++◌, length, map, replicate, None, refl, sym, ◌∙◌, ap, subst, inl, inr, arith}
use Rattle.std.specs.Prelude.{get_or, set, filter}
use Rattle.std.proofs.lemmas.Bool.{cases_Bool, cond-true, cond-false, both_ways, and_parts, and_from, eqb-true, eq-eqb}
use Rattle.std.proofs.lemmas.List.{get_or-set_same, get_or-set_other, get_or-replicate, get_or-map, length-map, length-replicate, length-set, map-set, append-nil}
use Rattle.std.proofs.lemmas.List.Elements.{filter-append}
use Rattle.std.proofs.lemmas.Nat.{div-mul-add}
use Rattle.sk_lattice.specs.Domain.{Domain}
use Rattle.sk_table.specs.declared.triple.Triple.{Triple}
use Rattle.sk_table.specs.declared.triple.Cover.{Cover}
use Rattle.sk_lattice.specs.Order.{tuple_leq}
use Rattle.sk_abswalk.specs.Tables.{is_above, meet_from, table_answer}
use Rattle.sk_abswalk.specs.Keys.{Key, same_key, key_of, key_of_triple}
use Rattle.sk_abswalk.specs.Index.{triples_of, slot_of, HasSlot, IsIndex}

-- what fails the weaker of two tests may be left out before the stronger one
filter_within : {X : Type 0} (p q : X → Bool) → ((x : X) → p x ≡ true → q x ≡ true) → (xs : List X) → filter p (filter q xs) ≡ filter p xs
filter_within p q h [] = refl
filter_within p q h (x ∷ xs) =
    elim (cases_Bool (q x)) [
      | inl same ↦ ap (filter p) (cond-true (q x) (x ∷ filter q xs) (filter q xs) same) ∙ ap (λ l. cond (p x) (x ∷ l) l) (filter_within p q h xs)
      | inr other ↦ ap (filter p) (cond-false (q x) (x ∷ filter q xs) (filter q xs) other) ∙ filter_within p q h xs ∙ sym (cond-false (p x) (x ∷ filter p xs) (filter p xs) (fails other))
    ]
  where
    fails : q x ≡ false → p x ≡ false
    fails other = elim (cases_Bool (p x)) [
      | inl same ↦ absurd (both_ways (q x) other (h x same))
      | inr fail ↦ fail
    ]

-- a triple above a call is of the call's key
above_is_of_key : {D : Type 0} (d : Domain D) (c : Cover D) (triple : Triple D) → is_above d c triple ≡ true → same_key (key_of_triple triple) (key_of c) ≡ true
above_is_of_key d c triple e =
    let hook = and_parts (triple.hook.0 == c.hook.0) ((triple.point == c.point) && tuple_leq d c.ins triple.ins) e in
    let point = and_parts (triple.point == c.point) (tuple_leq d c.ins triple.ins) hook.1 in
    and_from (triple.hook.0 == c.hook.0) (triple.point == c.point) hook.0 point.0

-- a table's answer to a call is that of the triples of the call's key
pub answer_of_key : {D : Type 0} (d : Domain D) (table : List (Triple D)) (c : Cover D) → table_answer d (triples_of (key_of c) table) c ≡ table_answer d table c
answer_of_key d table c =
    ap (λ l. meet_from d None (map (λ triple. triple.outs) l)) (filter_within (is_above d c) (λ triple. same_key (key_of_triple triple) (key_of c)) (above_is_of_key d c) table)

same_key_refl : (k : Key) → same_key k k ≡ true
same_key_refl k = and_from (k.0.0 == k.0.0) (k.1 == k.1) (eq-eqb k.0.0 k.0.0 refl) (eq-eqb k.1 k.1 refl)

same_key_only : (j k : Key) → same_key j k ≡ true → j ≡ k
same_key_only j k e =
    let p = and_parts (j.0.0 == k.0.0) (j.1 == k.1) e in
    let hook = eqb-true j.0.0 k.0.0 p.0 in
    let point = eqb-true j.1 k.1 p.1 in
    λ i. (record { 0 = hook i }, point i)

-- keys with one slot are one
slot_only : (hooks : ℕ) (j k : Key) → j.0.0 < hooks → k.0.0 < hooks → slot_of hooks j ≡ slot_of hooks k → j ≡ k
slot_only hooks j k p q e =
    let points : j.1 ≡ k.1 = sym (div-mul-add j.1 hooks j.0.0 p) ∙ ap (λ n. n / hooks) e ∙ div-mul-add k.1 hooks k.0.0 q in
    let same : j.0.0 ≡ k.0.0 = omega (arith, e, ap (λ n. n * hooks) points) in
    λ i. (record { 0 = same i }, points i)

-- no triple stands in empty slots, as none is in the empty table
pub empty_index : {D : Type 0} (hooks count : ℕ) (slots : List (List (Triple D))) → slots ≡ replicate count [] → IsIndex hooks slots []
empty_index {D} hooks count slots e k has =
    ap (λ (l : List (List (Triple D))). get_or l (slot_of hooks k) []) e
    ∙ get_or-replicate count (slot_of hooks k) [] [] (subst (λ n. slot_of hooks k < n) (ap (λ (l : List (List (Triple D))). length l) e ∙ length-replicate count []) has.slot_within)

module _ {D : Type 0} (hooks : ℕ) (slots : List (List (Triple D))) (triple : Triple D) (table : List (Triple D)) (old : IsIndex hooks slots table) where
  abbrev own : Key
  own = key_of_triple triple

  -- a triple of another key changes nothing at this one
  other_key : (k : Key) → same_key own k ≡ false → triples_of k (table ++ triple ∷ []) ≡ triples_of k table
  other_key k other =
      filter-append (λ t. same_key (key_of_triple t) k) table (triple ∷ [])
      ∙ ap (λ l. triples_of k table ++ l) (cond-false (same_key own k) (triple ∷ []) [] other) ∙ append-nil (triples_of k table)

  -- a triple whose key has no slot may be left out
  pub left_out : (HasSlot hooks (length slots) own → ⊥) → IsIndex hooks slots (table ++ triple ∷ [])
  left_out none k has =
      elim (cases_Bool (same_key own k)) [
        | inl same ↦ absurd (none (subst (HasSlot hooks (length slots)) (sym (same_key_only own k same)) has))
        | inr other ↦ old k has ∙ sym (other_key k other)
      ]

  -- a triple put behind the others of its key
  pub entered : HasSlot hooks (length slots) own → IsIndex hooks (set slots (slot_of hooks own) (get_or slots (slot_of hooks own) [] ++ triple ∷ [])) (table ++ triple ∷ [])
  entered slot k has =
      elim (cases_Bool (same_key own k)) [
        | inl same ↦ subst (λ (j : Key). get_or (set slots (slot_of hooks own) grown) (slot_of hooks j) [] ≡ triples_of j (table ++ triple ∷ [])) (same_key_only own k same) at_own
        | inr other ↦ get_or-set_other slots (slot_of hooks own) (slot_of hooks k) grown [] (apart other) ∙ old k before ∙ sym (other_key k other)
      ]
    where
      grown : List (Triple D)
      grown = get_or slots (slot_of hooks own) [] ++ triple ∷ []

      before : HasSlot hooks (length slots) k
      before = record { hook_within = has.hook_within; slot_within = subst (λ n. slot_of hooks k < n) (length-set slots (slot_of hooks own) grown) has.slot_within }

      apart : same_key own k ≡ false → slot_of hooks k ≢ slot_of hooks own
      apart other e = both_ways (same_key own k) other (subst (λ (j : Key). same_key own j ≡ true) (slot_only hooks own k slot.hook_within has.hook_within (sym e)) (same_key_refl own))

      at_own : get_or (set slots (slot_of hooks own) grown) (slot_of hooks own) [] ≡ triples_of own (table ++ triple ∷ [])
      at_own =
          get_or-set_same slots (slot_of hooks own) grown [] slot.slot_within ∙ ap (λ l. l ++ triple ∷ []) (old own slot)
          ∙ sym (filter-append (λ t. same_key (key_of_triple t) own) table (triple ∷ [])
          ∙ ap (λ l. triples_of own table ++ l) (cond-true (same_key own own) (triple ∷ []) [] (same_key_refl own)))

-- What stands in the slots by a function f: one with another triple behind those of its key, and the triples of a key.
module _ {D X : Type 0} (f : X → List (Triple D)) (hooks : ℕ) (slots : List X) (table : List (Triple D)) (old : IsIndex hooks (map f slots) table) (at : ℕ) (was : X) (within : at < length slots) (is : was ≡ get_or slots at was) where
  mapped_within : at < length (map f slots)
  mapped_within = subst (λ n. at < n) (sym (length-map slots f)) within

  there : get_or (map f slots) at [] ≡ f was
  there = get_or-map f slots at was [] within ∙ ap f (sym is)

  has_slot : (k : Key) → k.0.0 < hooks → at ≡ slot_of hooks k → HasSlot hooks (length (map f slots)) k
  has_slot k lt e = record { hook_within = lt; slot_within = subst (λ n. n < length (map f slots)) e mapped_within }

  pub pushed : (triple : Triple D) (now : X) → triple.hook.0 < hooks → at ≡ slot_of hooks (key_of_triple triple) → f now ≡ f was ++ triple ∷ [] → IsIndex hooks (map f (set slots at now)) (table ++ triple ∷ [])
  pushed triple now lt e grown =
      subst (λ (l : List (List (Triple D))). IsIndex hooks l (table ++ triple ∷ [])) (sym (map-set f slots at now ∙ ap (set (map f slots) at) (grown ∙ ap (λ l. l ++ triple ∷ []) (sym there))))
      (subst (λ i. IsIndex hooks (set (map f slots) i (get_or (map f slots) i [] ++ triple ∷ [])) (table ++ triple ∷ [])) (sym e)
      (entered hooks (map f slots) triple table old (has_slot (key_of_triple triple) lt e)))

  -- what the triples in the slot of a call's key answer, the table answers
  pub answer_in_slot : (d : Domain D) (c : Cover D) → c.hook.0 < hooks → at ≡ slot_of hooks (key_of c) → table_answer d (f was) c ≡ table_answer d table c
  answer_in_slot d c lt e =
      ap (λ l. table_answer d l c) (sym there ∙ ap (λ i. get_or (map f slots) i []) e ∙ old (key_of c) (has_slot (key_of c) lt e)) ∙ answer_of_key d table c
