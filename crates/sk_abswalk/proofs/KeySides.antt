-- Tuples that fit a key's side, and calls of keys of the program.
use Rattle.std.proofs.Common.{◌≡◌, Bool, true, List, [], ◌∷◌, map, Option, Some, None, refl, sym, ap, subst}
use Rattle.std.specs.Prelude.{unwrap_or}
use Rattle.std.specs.List.{AllByRecursion}
use Rattle.std.specs.Option.{option_map}
use Rattle.std.proofs.lemmas.Bool.{and_parts, and_from, false≢true}
use Rattle.std.proofs.lemmas.Option.{same_Some}
use Rattle.sk_def.specs.declared.def.Hook.{Hook}
use Rattle.sk_def.specs.Sorts.{outputs_of}
use Rattle.sk_deriv.specs.Moves.{Setting}
use Rattle.sk_lattice.specs.Domain.{Domain}
use Rattle.sk_lattice.specs.Empty.{is_proper}
use Rattle.sk_lattice.specs.Shapes.{has_sorts}
use Rattle.sk_absfilter.specs.Abstract.{Outcome}
use Rattle.sk_table.specs.declared.triple.Cover.{Cover}
use Rattle.sk_rounds.specs.Walks.{Side, Inputs, Outputs, FitSide, FitAnswers, GoodCalls, is_key}
use Rattle.sk_rounds.specs.Tuples.{tuple_fits}
use Rattle.sk_abswalk.specs.Walk.{Flows}
use Rattle.sk_abswalk.specs.Order.{IsProperOutcome}
use Rattle.sk_abswalk.specs.Fits.{CallFits, OutcomeFits, AnswersFit}
use Rattle.sk_abswalk.specs.Reading.{Key, call_with, key_of, keyed, hook_of_key, sorts_of_side, by_key, walks_of}
use Rattle.sk_abswalk.proofs.Keys.{key_is, key_there, hook_there, sort_of_point, takes_point}

-- a call of a key of the program, no part of whose inputs is empty
pub record IsGoodCall {D : Type 0} (d : Domain D) (s : Setting) (c : Cover D) : Type 0 where
  pub fits : CallFits s c
  pub proper : is_proper d c.ins ≡ true

module _ (D : Type 0) (d : Domain D) (s : Setting) where
  -- a tuple that fits a side of a key
  pub record FitsSide (k : Key) (side : Side) (t : Flows D) : Type 0 where
    pub hook : Hook
    pub is : hook_of_key s k ≡ Some hook
    pub sorted : has_sorts s.names (sorts_of_side side hook) t ≡ true
    pub proper : is_proper d t ≡ true

  abbrev pub fits_at : Option Hook → Side → Flows D → Bool
  fits_at found side t = tuple_fits d s.names (option_map (sorts_of_side side) found) t

  pub side_fits : (k : Key) (side : Side) (t : Flows D) → fits_at (hook_of_key s k) side t ≡ true → FitsSide k side t
  side_fits k side t f = at (hook_of_key s k) refl f
    where
      at : (o : Option Hook) → hook_of_key s k ≡ o → fits_at o side t ≡ true → FitsSide k side t
      at None e f = absurd (false≢true f)
      at (Some hook) e f = let p = and_parts (has_sorts s.names (sorts_of_side side hook) t) (is_proper d t) f in record { hook = hook; is = e; sorted = p.0; proper = p.1 }

  fits_side : (k : Key) (side : Side) (t : Flows D) (hook : Hook) → hook_of_key s k ≡ Some hook → has_sorts s.names (sorts_of_side side hook) t ≡ true → is_proper d t ≡ true → fits_at (hook_of_key s k) side t ≡ true
  fits_side k side t hook e p q = subst (λ o. fits_at o side t ≡ true) (sym e) (and_from (has_sorts s.names (sorts_of_side side hook) t) (is_proper d t) p q)

  -- the call of a key with inputs that fit
  pub good_call : (k : Key) (t : Flows D) → fits_at (hook_of_key s k) Inputs t ≡ true → IsGoodCall d s (call_with k t)
  good_call k t f =
      let h = side_fits k Inputs t f in
      let key = key_is s k h.hook h.is in
      record {
        fits = record { hook = h.hook; declared = key.declared; point_fits = sort_of_point s k h.hook key; ins_fit = h.sorted };
        proper = h.proper;
      }

  -- the hook of a call's key
  key_hook : (c : Cover D) (f : CallFits s c) → hook_of_key s (key_of c) ≡ Some f.hook
  key_hook c f = let key = takes_point s (key_of c) f.hook f.declared f.point_fits in hook_there s (key_of c) key.node f.hook key.at key.declared key.takes

  outputs_are : (c : Cover D) (f : CallFits s c) → outputs_of s.def c.hook ≡ f.hook.outputs
  outputs_are c f = ap (λ o. unwrap_or (option_map (λ (h : Hook). h.outputs) o) []) f.declared

  -- outputs that fit a call's hook
  pub outputs_fit : (c : Cover D) (o : Outcome D) → CallFits s c → OutcomeFits s c.hook o → IsProperOutcome d o → (finite : Bool) (marks : _) (covers : List (Cover D)) → FitSide (walks_of d finite marks s covers) (key_of c) Outputs o
  outputs_fit c None f g p finite marks covers = tt
  outputs_fit c (Some outs) f g p finite marks covers =
      fits_side (key_of c) Outputs outs f.hook (key_hook c f) (subst (λ sorts. has_sorts s.names sorts outs ≡ true) (outputs_are c f) g) p

  module _ (finite : Bool) (marks : _) (covers : List (Cover D)) where
    pub good_at : (c : Cover D) → IsGoodCall d s c → (is_key (walks_of d finite marks s covers) (key_of c) ≡ true) × (fits_at (hook_of_key s (key_of c)) Inputs c.ins ≡ true)
    good_at c g =
        let f = g.fits in
        let key = takes_point s (key_of c) f.hook f.declared f.point_fits in
        (key_there s.def s.nodes (key_of c) key.node f.hook key.at key.declared key.takes, fits_side (key_of c) Inputs c.ins f.hook (key_hook c f) f.ins_fit g.proper)

    -- calls of keys are good
    pub calls_good : (cs : List (Cover D)) → AllByRecursion (IsGoodCall d s) cs → GoodCalls (walks_of d finite marks s covers) (map keyed cs)
    calls_good [] h = tt
    calls_good (c ∷ cs) h = (good_at c h.0, calls_good cs h.1)

    module _ (answers : Key → Outcome D) (fit : FitAnswers (walks_of d finite marks s covers) answers) where
      pub answer_fits : (c : Cover D) (f : CallFits s c) (o : Outcome D) → FitSide (walks_of d finite marks s covers) (key_of c) Outputs o → OutcomeFits s c.hook o
      answer_fits c f None h = tt
      answer_fits c f (Some outs) h =
          let p : fits_at (Some f.hook) Outputs outs ≡ true = subst (λ o. fits_at o Outputs outs ≡ true) (key_hook c f) h in
          subst (λ sorts. has_sorts s.names sorts outs ≡ true) (sym (outputs_are c f)) (and_parts (has_sorts s.names f.hook.outputs outs) (is_proper d outs) p).0

      pub answers_fit : AnswersFit s (by_key answers)
      answers_fit c f o e = subst (OutcomeFits s c.hook) (same_Some (answers (key_of c)) o e) (answer_fits c f (answers (key_of c)) (fit (key_of c)))

      pub answer_proper : (k : Key) (o : Outcome D) → FitSide (walks_of d finite marks s covers) k Outputs o → IsProperOutcome d o
      answer_proper k None h = tt
      answer_proper k (Some outs) h = (side_fits k Outputs outs h).proper

      pub answers_proper : (c : Cover D) → is_proper d c.ins ≡ true → (o : Outcome D) → by_key answers c ≡ Some o → IsProperOutcome d o
      answers_proper c p o e = subst (IsProperOutcome d) (same_Some (answers (key_of c)) o e) (answer_proper (key_of c) (answers (key_of c)) (fit (key_of c)))
