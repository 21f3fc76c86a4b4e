-- What the calls so far made of one side of all keys, with the rest of them to come.
use Rattle.std.proofs.Common.{◌≡◌, ℕ, ℤ, Bool, ◌+◌, ◌*◌, ◌<◌, true, false, List, [], ◌∷◌, drop, get_or, length, map, Some, None, refl, sym, ◌∙◌, ap, subst, inl, inr}
use Rattle.std.specs.List.{AllByRecursion}
use Rattle.std.proofs.lemmas.Bool.{cases_Bool, cond-true, cond-false}
use Rattle.std.proofs.lemmas.List.{drop_more}
use Rattle.sk_deriv.specs.Moves.{Setting}
use Rattle.sk_lattice.specs.Domain.{Domain}
use Rattle.sk_lattice.specs.DomainLaws.{DomainLaws}
use Rattle.sk_absfilter.specs.Abstract.{Outcome}
use Rattle.sk_table.specs.declared.triple.Cover.{Cover}
use Rattle.sk_rounds.specs.Walks.{Inputs, Walks, GoodCalls, FitSide}
use Rattle.sk_rounds.specs.Rounds.{side_join, join_calls}
use Rattle.sk_rounds.proofs.Sides.{side_join_fits}
use Rattle.sk_rounds.proofs.Bearing.{join_calls_fits, side_join_assoc}
use Rattle.sk_rounds.proofs.TupleWalks.{fit}
use Rattle.sk_abswalk.specs.Walk.{Flows}
use Rattle.sk_abswalk.specs.Reading.{Key, same_key, key_of, keyed, walks_of}
use Rattle.sk_abswalk.proofs.Keys.{same_key_only}
use Rattle.sk_analyse.specs.Sides.{side_of, sides_fit, with_call, HasPlace, CanHear}

module _ (D : Type 0) (d : Domain D) (hooks : ℕ) (old : List (Outcome D)) (asked : List (Cover D)) (can : CanHear d hooks old asked) where
  abbrev pub w : Walks Key (Flows D)
  w = walks_of d can.finite can.marks can.setting can.covers

  pub record SoFar (now : List (Outcome D)) (rest : List (Cover D)) : Type 0 where
    pub size : length now ≡ length old
    pub fits : (k : Key) → FitSide w k Inputs (side_of hooks now k)
    pub good : GoodCalls w (map keyed rest)
    pub places : AllByRecursion (λ c. HasPlace hooks old (key_of c)) rest
    pub joined : (k : Key) → side_join w (side_of hooks old k) (join_calls w k (map keyed asked)) ≡ side_join w (side_of hooks now k) (join_calls w k (map keyed rest))

  pub begins : SoFar old asked
  begins = record { size = refl; fits = can.fit; good = can.good; places = can.places; joined = λ k. refl }

  -- the next call's key has its slot, and its inputs the sorts of what stands there
  pub next_place : (now : List (Outcome D)) (c : Cover D) (rest : List (Cover D)) → SoFar now (c ∷ rest) → HasPlace hooks now (key_of c)
  next_place now c rest s = let h = s.places.0 in record { hook_within = h.hook_within; place_within = subst (λ n. (key_of c).1 * hooks + (key_of c).0.0 < n) (sym s.size) h.place_within }

  pub next_fits : DomainLaws d → (now : List (Outcome D)) (c : Cover D) (rest : List (Cover D)) → SoFar now (c ∷ rest) → sides_fit (side_of hooks now (key_of c)) (Some c.ins) ≡ true
  next_fits laws now c rest s = at (side_of hooks now (key_of c)) (s.fits (key_of c))
    where
      at : (x : Outcome D) → FitSide w (key_of c) Inputs x → sides_fit x (Some c.ins) ≡ true
      at None f = refl
      at (Some a) f = fit D d laws can.setting.names _ a c.ins f s.good.0.1

  pub goes_on : (now next : List (Outcome D)) (c : Cover D) (rest : List (Cover D)) → SoFar now (c ∷ rest) → side_of hooks next ≡ with_call w (side_of hooks now) c → length next ≡ length now → SoFar next rest
  goes_on now next c rest s e size =
      record { size = size ∙ s.size; fits = fits; good = s.good.1; places = s.places.1; joined = λ k. s.joined k ∙ one k }
    where
      here : (k : Key) → same_key (key_of c) k ≡ true → side_of hooks next k ≡ side_join w (side_of hooks now k) (Some c.ins)
      here k y = (λ i. e i k) ∙ cond-true (same_key (key_of c) k) _ _ y

      there : (k : Key) → same_key (key_of c) k ≡ false → side_of hooks next k ≡ side_of hooks now k
      there k n = (λ i. e i k) ∙ cond-false (same_key (key_of c) k) _ _ n

      ins_fit : (k : Key) → same_key (key_of c) k ≡ true → w.fits k Inputs c.ins ≡ true
      ins_fit k y = subst (λ j. w.fits j Inputs c.ins ≡ true) (same_key_only (key_of c) k y) s.good.0.1

      fits : (k : Key) → FitSide w k Inputs (side_of hooks next k)
      fits k =
          elim (cases_Bool (same_key (key_of c) k)) [
            | inl y ↦ subst (FitSide w k Inputs) (sym (here k y)) (side_join_fits Key (Flows D) w can.laws k Inputs (side_of hooks now k) (Some c.ins) (s.fits k) (ins_fit k y))
            | inr n ↦ subst (FitSide w k Inputs) (sym (there k n)) (s.fits k)
          ]

      one : (k : Key) → side_join w (side_of hooks now k) (join_calls w k (map keyed (c ∷ rest))) ≡ side_join w (side_of hooks next k) (join_calls w k (map keyed rest))
      one k =
          elim (cases_Bool (same_key (key_of c) k)) [
            | inl y ↦ ap (side_join w (side_of hooks now k)) (cond-true (same_key (key_of c) k) (side_join w (Some c.ins) (join_calls w k (map keyed rest))) (join_calls w k (map keyed rest)) y)
                ∙ sym (side_join_assoc Key (Flows D) w can.laws k Inputs (side_of hooks now k) (Some c.ins) (join_calls w k (map keyed rest)) (s.fits k) (ins_fit k y) (join_calls_fits Key (Flows D) w can.laws k (map keyed rest) s.good.1))
                ∙ ap (λ x. side_join w x (join_calls w k (map keyed rest))) (sym (here k y))
            | inr n ↦ ap (side_join w (side_of hooks now k)) (cond-false (same_key (key_of c) k) (side_join w (Some c.ins) (join_calls w k (map keyed rest))) (join_calls w k (map keyed rest)) n)
                ∙ ap (λ x. side_join w x (join_calls w k (map keyed rest))) (sym (there k n))
          ]

  pub ends : (now : List (Outcome D)) → SoFar now [] → (k : Key) → side_of hooks now k ≡ side_join w (side_of hooks old k) (join_calls w k (map keyed asked))
  ends now s k = sym (s.joined k)

-- the same, with what was asked of the start
pub record Hears {D : Type 0} (d : Domain D) (hooks : ℕ) (old now : List (Outcome D)) (asked rest : List (Cover D)) : Type 0 where
  pub can : CanHear d hooks old asked
  pub so_far : SoFar D d hooks old asked can now rest

-- the next call, and the rest after it
pub next_call : {D : Type 0} (d : Domain D) (hooks : ℕ) (old now : List (Outcome D)) (asked items : List (Cover D)) (i : ℕ) (c : Cover D) → i < length items → c ≡ get_or items i c → Hears d hooks old now asked (drop i items) → Hears d hooks old now asked (c ∷ drop (i + 1) items)
next_call d hooks old now asked items i c lt e h =
    subst (Hears d hooks old now asked) (drop_more items i c lt ∙ ap (λ x. x ∷ drop (i + 1) items) (sym e)) h

-- the next call can be taken up
pub call_fits : {D : Type 0} (d : Domain D) → DomainLaws d → (hooks : ℕ) (old now : List (Outcome D)) (asked rest : List (Cover D)) (c : Cover D) (here : ℕ) → here ≡ hooks → Hears d hooks old now asked (c ∷ rest) → sides_fit (side_of here now (key_of c)) (Some c.ins) ≡ true
call_fits {D} d laws hooks old now asked rest c here same h =
    subst (λ n. sides_fit (side_of n now (key_of c)) (Some c.ins) ≡ true) (sym same) (next_fits D d hooks old asked h.can laws now c rest h.so_far)

-- and then the rest is left
pub call_heard : {D : Type 0} (d : Domain D) (hooks : ℕ) (old now next : List (Outcome D)) (asked rest : List (Cover D)) (c : Cover D) (before after : ℕ) → before ≡ hooks → after ≡ hooks →
    ((finite : Bool) (marks : List ℤ) (s : Setting) (covers : List (Cover D)) → side_of after next ≡ with_call (walks_of d finite marks s covers) (side_of before now) c) → length next ≡ length now →
    Hears d hooks old now asked (c ∷ rest) → Hears d hooks old next asked rest
call_heard {D} d hooks old now next asked rest c before after same still heard size h =
    let k = h.can in
    let walks = walks_of d k.finite k.marks k.setting k.covers in
    let e : side_of hooks next ≡ with_call walks (side_of hooks now) c =
    ap (λ n. side_of n next) (sym still) ∙ heard k.finite k.marks k.setting k.covers ∙ ap (λ n. with_call walks (side_of n now) c) same in
    record { can = k; so_far = goes_on D d hooks old asked k now next c rest h.so_far e size }
