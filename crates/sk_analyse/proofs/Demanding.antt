-- What the walks so far made of the demands, with the other keys to come; and what a round makes of the table.
use Rattle.std.proofs.Common.{◌≡◌, ◌≢◌, ℕ, ℤ, Bool, suc, true, false, ◌&&◌, List, [], ◌∷◌, flat_map, replicate, Some, None, refl, sym, ◌∙◌, ap, ap₂, subst}
use Rattle.std.specs.Prelude.{if◌then◌else◌}
use Rattle.std.specs.List.{list_any, list_all}
use Rattle.std.proofs.lemmas.Bool.{MatchBool-at_true, MatchBool-at_false}
use Rattle.sk_deriv.specs.Moves.{Setting}
use Rattle.sk_lattice.specs.Domain.{Domain}
use Rattle.sk_absfilter.specs.Abstract.{Outcome}
use Rattle.sk_absfilter.specs.Laws.{outcome_leq}
use Rattle.sk_table.specs.declared.triple.Cover.{Cover}
use Rattle.sk_rounds.specs.Walks.{Side, Inputs, Outputs, Call, Table, Walks, WalksLaws, side_leq, FitSide, FitTable, GoodCalls}
use Rattle.sk_rounds.specs.Rounds.{Told, told, side_join, join_calls, demands_of, first_table, raised, next_table, table_after, key_still, is_still}
use Rattle.sk_rounds.proofs.Lists.{all_flat}
use Rattle.sk_rounds.proofs.Sides.{side_join_fits}
use Rattle.sk_rounds.proofs.Bearing.{join_calls_fits, join_calls_append, side_join_assoc, told_good, told_nothing, first_fits, f_fits, f_outside}
use Rattle.sk_rounds.proofs.Rising.{IsGood, after_good}
use Rattle.sk_rounds.proofs.Ending.{rounds_laws}
use Rattle.sk_abswalk.specs.Walk.{Flows}
use Rattle.sk_abswalk.specs.Reading.{Key, same_key, walks_of}
use Rattle.sk_analyse.specs.declared.sides.Sides.{Sides}
use Rattle.sk_analyse.specs.Sides.{side_of}
use Rattle.sk_analyse.specs.Tabled.{tabled, HasAllSlots}
use Rattle.sk_analyse.specs.Jobs.{still_at}
use Rattle.sk_analyse.proofs.Filling.{Filled, fills}
use Rattle.sk_analyse.proofs.Starting.{side_none}

module _ (D : Type 0) (d : Domain D) (finite : Bool) (marks : List ℤ) (s : Setting) (covers : List (Cover D)) where
  abbrev w : Walks Key (Flows D)
  w = walks_of d finite marks s covers

  -- the calls of these keys
  abbrev calls_of : Table Key (Flows D) → List Key → List (Call Key (Flows D))
  calls_of T ks = flat_map (λ j. (told w T j).calls) ks

  pub record Heard (T : Table Key (Flows D)) (sides : Sides D) (rest : List Key) : Type 0 where
    pub slots : HasAllSlots s sides
    pub fit : (k : Key) → FitSide w k Inputs (tabled sides k Inputs)
    pub inputs : (k : Key) → side_join w (tabled sides k Inputs) (join_calls w k (calls_of T rest)) ≡ demands_of w T k Inputs
    pub outputs : Filled (λ k. (told w T k).gives) (λ k. tabled sides k Outputs) rest

  -- the table of a round is good
  pub good_table : WalksLaws w → (made : ℕ) (T : Table Key (Flows D)) → T ≡ table_after w made → IsGood w T
  good_table laws made T e = subst (IsGood w) (sym e) (after_good Key (Flows D) w laws made)

  module _ (laws : WalksLaws w) (T : Table Key (Flows D)) (good : IsGood w T) where
    calls_good : (ks : List Key) → GoodCalls w (calls_of T ks)
    calls_good ks = all_flat _ (λ j. (told w T j).calls) (told_good Key (Flows D) w laws T good.fits) ks

    pub begins : (sides : Sides D) → HasAllSlots s sides → tabled sides ≡ first_table w → Heard T sides w.keys
    begins sides slots e =
        record {
          slots = slots;
          fit = λ k. subst (λ U. FitSide w k Inputs (U k Inputs)) (sym e) (first_fits Key (Flows D) w laws k Inputs);
          inputs = λ k.
              ap (λ U. side_join w (U k Inputs) (join_calls w k (calls_of T w.keys))) e
              ∙ sym (join_calls_append Key (Flows D) w laws k w.covers (calls_of T w.keys) laws.walk.covers_good (calls_good w.keys));
          outputs = λ k n. (λ i. e i k Outputs) ∙ sym (ap (λ (t : Told Key (Flows D)). t.gives) (told_nothing Key (Flows D) w laws T k (good.outside k n Inputs)));
        }

    pub goes_on : (sides next : Sides D) (j : Key) (rest : List Key) → Heard T sides (j ∷ rest) → HasAllSlots s next →
        ((k : Key) → tabled next k Inputs ≡ side_join w (tabled sides k Inputs) (join_calls w k (told w T j).calls)) →
        ((k : Key) → tabled next k Outputs ≡ (if same_key j k then (told w T j).gives else tabled sides k Outputs)) → Heard T next rest
    goes_on sides next j rest h slots ins outs =
        let here = told_good Key (Flows D) w laws T good.fits j in
        record {
          slots = slots;
          fit = λ k. subst (FitSide w k Inputs) (sym (ins k)) (side_join_fits Key (Flows D) w laws k Inputs (tabled sides k Inputs) (join_calls w k (told w T j).calls) (h.fit k) (join_calls_fits Key (Flows D) w laws k (told w T j).calls here));
          inputs = λ k.
              ap (λ x. side_join w x (join_calls w k (calls_of T rest))) (ins k)
              ∙ side_join_assoc Key (Flows D) w laws k Inputs (tabled sides k Inputs) (join_calls w k (told w T j).calls) (join_calls w k (calls_of T rest)) (h.fit k)
              (join_calls_fits Key (Flows D) w laws k (told w T j).calls here) (join_calls_fits Key (Flows D) w laws k (calls_of T rest) (calls_good rest))
              ∙ ap (side_join w (tabled sides k Inputs)) (sym (join_calls_append Key (Flows D) w laws k (told w T j).calls (calls_of T rest) here (calls_good rest)))
              ∙ h.inputs k;
          outputs = fills (λ k. (told w T k).gives) (λ k. tabled sides k Outputs) (λ k. tabled next k Outputs) j rest (told w T j).gives outs refl h.outputs;
        }

  pub ends : (T : Table Key (Flows D)) (sides : Sides D) → Heard T sides [] → tabled sides ≡ demands_of w T
  ends T sides h = λ i k side. at k side i
    where
      at : (k : Key) (side : Side) → tabled sides k side ≡ demands_of w T k side
      at k Inputs = h.inputs k
      at k Outputs = h.outputs k refl

  -- Raised sides.

  none_raised : (r : ℕ) (x y : Outcome D) → x ≡ None → y ≡ None → None ≡ raised w r x y
  none_raised r x y e f = sym (λ i. raised w r (e i) (f i))

  pub starts_filled : (r hooks n : ℕ) (old new : Key → Outcome D) (ks : List Key) → ((k : Key) → list_any (same_key k) ks ≡ false → (old k ≡ None) × (new k ≡ None)) → (slots : List (Outcome D)) → slots ≡ replicate n None →
      Filled (λ k. raised w r (old k) (new k)) (side_of hooks slots) ks
  starts_filled r hooks n old new ks outside slots e = λ k o. let h = outside k o in ap (λ l. side_of hooks l k) e ∙ side_none D hooks n k ∙ none_raised r (old k) (new k) h.0 h.1

  -- nothing stands outside of the keys
  pub nothing_outside : WalksLaws w → (T V : Table Key (Flows D)) → IsGood w T → V ≡ demands_of w T → (k : Key) → list_any (same_key k) w.keys ≡ false → (side : Side) → (T k side ≡ None) × (V k side ≡ None)
  nothing_outside laws T V good e k n side = (good.outside k n side, (λ i. e i k side) ∙ f_outside Key (Flows D) w laws T good.fits good.outside k n side)

  pub demands_fit : WalksLaws w → (T V : Table Key (Flows D)) → IsGood w T → V ≡ demands_of w T → FitTable w V
  demands_fit laws T V good e = subst (FitTable w) (sym e) (f_fits Key (Flows D) w laws T good.fits)

  -- the next table
  pub next_is : (T U V : Table Key (Flows D)) (r : ℕ) → V ≡ demands_of w T → ((k : Key) → U k Inputs ≡ raised w r (T k Inputs) (V k Inputs)) → ((k : Key) → U k Outputs ≡ raised w r (T k Outputs) (V k Outputs)) → U ≡ next_table w r T
  next_is T U V r e ins outs = λ i k side. at k side i
    where
      at : (k : Key) (side : Side) → U k side ≡ next_table w r T k side
      at k Inputs = ins k ∙ ap (raised w r (T k Inputs)) (λ i. e i k Inputs)
      at k Outputs = outs k ∙ ap (raised w r (T k Outputs)) (λ i. e i k Outputs)

  -- the test that a round is the last
  same_leq : (x y : Outcome D) → side_leq w x y ≡ outcome_leq d x y
  same_leq None y = refl
  same_leq (Some a) None = refl
  same_leq (Some a) (Some b) = refl

  same_still : (T V : Table Key (Flows D)) (ks : List Key) → list_all (key_still w T V) ks ≡ list_all (still_at d T V) ks
  same_still T V [] = refl
  same_still T V (k ∷ ks) = ap₂ (λ a b. a && b) (ap₂ (λ a b. a && b) (same_leq (V k Inputs) (T k Inputs)) (same_leq (V k Outputs) (T k Outputs))) (same_still T V ks)

  module _ (laws : WalksLaws w) (T V : Table Key (Flows D)) (round made : ℕ) (round_is : round ≡ suc made) (e : T ≡ table_after w made) (f : V ≡ demands_of w T) where
    tested : (b : Bool) → list_all (still_at d T V) w.keys ≡ b → is_still w (table_after w made) (demands_of w (table_after w made)) ≡ b
    tested b t = subst (λ U. is_still w U (demands_of w U) ≡ b) e (subst (λ U. is_still w T U ≡ b) f (same_still T V w.keys ∙ t))

    next_same : next_table w round T ≡ table_after w (suc made)
    next_same = ap₂ (next_table w) round_is e

    pub stays : list_all (still_at d T V) w.keys ≡ true → T ≡ next_table w round T
    stays t = e ∙ sym (MatchBool-at_true _ _ (tested true t) ((rounds_laws Key (Flows D) w laws).decided made)) ∙ sym next_same

    pub changes : list_all (still_at d T V) w.keys ≡ false → (U : Table Key (Flows D)) → U ≡ next_table w round T → U ≢ T
    changes t U is same = MatchBool-at_false _ _ (tested false t) ((rounds_laws Key (Flows D) w laws).decided made) (sym next_same ∙ sym is ∙ same ∙ e)
