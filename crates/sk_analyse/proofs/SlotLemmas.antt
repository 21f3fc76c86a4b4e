-- What stands in slots after one was written.
use Rattle.std.proofs.Common.{◌≡◌, ◌≢◌, ℕ, ◌+◌, ◌*◌, ◌<◌, ◌/◌, true, false, List, length, Some, None, nat_lt, sym, ◌∙◌, ap, subst, inl, inr, arith}
use Rattle.std.specs.Prelude.{if◌then◌else◌, slice_get, slice_set, unwrap_or}
use Rattle.std.proofs.lemmas.Bool.{cases_Bool, cond-true, cond-false, both_ways, ltb-true, lt-ltb}
use Rattle.std.proofs.lemmas.List.{get_or-set_same, get_or-set_other}
use Rattle.std.proofs.lemmas.Nat.{div-mul-add}
use Rattle.std.proofs.lemmas.Option.{unwrap_or-slice_get}
use Rattle.sk_absfilter.specs.Abstract.{Outcome}
use Rattle.sk_table.specs.declared.triple.Cover.{Cover}
use Rattle.sk_rounds.specs.Walks.{Walks}
use Rattle.sk_rounds.specs.Rounds.{side_join}
use Rattle.sk_abswalk.specs.Walk.{Flows}
use Rattle.sk_abswalk.specs.Reading.{Key, same_key, key_of}
use Rattle.sk_abswalk.proofs.Keys.{same_key_refl, same_key_only}
use Rattle.sk_analyse.specs.Sides.{side_of, HasPlace, with_call}

-- the place of a key
abbrev pub place_of : ℕ → Key → ℕ
place_of hooks k = k.1 * hooks + k.0.0

-- keys with one place are one
place_only : (hooks : ℕ) (j k : Key) → j.0.0 < hooks → k.0.0 < hooks → place_of hooks j ≡ place_of hooks k → j ≡ k
place_only hooks j k p q e =
    let points : j.1 ≡ k.1 = sym (div-mul-add j.1 hooks j.0.0 p) ∙ ap (λ n. n / hooks) e ∙ div-mul-add k.1 hooks k.0.0 q in
    let same : j.0.0 ≡ k.0.0 = omega (arith, e, ap (λ n. n * hooks) points) in
    λ i. (record { 0 = same i }, points i)

-- what was written is read back, and other places are as before
read_same : {X : Type 0} (xs : List X) (i : ℕ) (x d : X) → i < length xs → unwrap_or (slice_get (slice_set xs i x) i) d ≡ x
read_same xs i x d lt = unwrap_or-slice_get (slice_set xs i x) i d ∙ get_or-set_same xs i x d lt

read_other : {X : Type 0} (xs : List X) (i j : ℕ) (x d : X) → j ≢ i → unwrap_or (slice_get (slice_set xs i x) j) d ≡ unwrap_or (slice_get xs j) d
read_other xs i j x d n = unwrap_or-slice_get (slice_set xs i x) j d ∙ get_or-set_other xs i j x d n ∙ sym (unwrap_or-slice_get xs j d)

module _ (D : Type 0) (hooks : ℕ) (slots : List (Outcome D)) (j : Key) (x : Outcome D) (h : HasPlace hooks slots j) where
  at_same : (k : Key) → same_key j k ≡ true → side_of hooks (slice_set slots (place_of hooks j) x) k ≡ x
  at_same k e =
      subst (λ i. side_of hooks (slice_set slots (place_of hooks j) x) i ≡ x) (same_key_only j k e)
      (cond-true (nat_lt j.0.0 hooks) _ None (lt-ltb j.0.0 hooks h.hook_within) ∙ read_same slots (place_of hooks j) x None h.place_within)

  at_other : (k : Key) → same_key j k ≡ false → side_of hooks (slice_set slots (place_of hooks j) x) k ≡ side_of hooks slots k
  at_other k n =
      elim (cases_Bool (nat_lt k.0.0 hooks)) [
        | inl lt ↦ cond-true (nat_lt k.0.0 hooks) _ None lt
            ∙ read_other slots (place_of hooks j) (place_of hooks k) x None (λ e. both_ways (same_key j k) n (subst (λ i. same_key j i ≡ true) (place_only hooks j k h.hook_within (ltb-true k.0.0 hooks lt) (sym e)) (same_key_refl j)))
            ∙ sym (cond-true (nat_lt k.0.0 hooks) _ None lt)
        | inr out ↦ cond-false (nat_lt k.0.0 hooks) _ None out ∙ sym (cond-false (nat_lt k.0.0 hooks) _ None out)
      ]

  pub side_after : (k : Key) → side_of hooks (slice_set slots (place_of hooks j) x) k ≡ (if same_key j k then x else side_of hooks slots k)
  side_after k =
      elim (cases_Bool (same_key j k)) [
        | inl e ↦ at_same k e ∙ sym (cond-true (same_key j k) x (side_of hooks slots k) e)
        | inr n ↦ at_other k n ∙ sym (cond-false (same_key j k) x (side_of hooks slots k) n)
      ]

  -- what stands at the key's place
  pub side_there : (o : Outcome D) → slice_get slots (place_of hooks j) ≡ Some o → side_of hooks slots j ≡ o
  side_there o e = cond-true (nat_lt j.0.0 hooks) _ None (lt-ltb j.0.0 hooks h.hook_within) ∙ ap (λ y. unwrap_or y None) e

  -- what was there, joined with a call
  pub heard_at : (w : Walks Key (Flows D)) (c : Cover D) → key_of c ≡ j → x ≡ side_join w (side_of hooks slots j) (Some c.ins) → side_of hooks (slice_set slots (place_of hooks j) x) ≡ with_call w (side_of hooks slots) c
  heard_at w c same e = λ i k. at k i
    where
      at : (k : Key) → side_of hooks (slice_set slots (place_of hooks j) x) k ≡ with_call w (side_of hooks slots) c k
      at k =
          elim (cases_Bool (same_key j k)) [
            | inl y ↦ at_same k y ∙ e ∙ ap (λ i. side_join w (side_of hooks slots i) (Some c.ins)) (same_key_only j k y) ∙ sym (cond-true (same_key (key_of c) k) _ _ (ap (λ i. same_key i k) same ∙ y))
            | inr n ↦ at_other k n ∙ sym (cond-false (same_key (key_of c) k) _ _ (ap (λ i. same_key i k) same ∙ n))
          ]
