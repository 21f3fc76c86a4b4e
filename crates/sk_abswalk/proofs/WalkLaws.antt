-- The walks of keys are what the rounds ask for.
use Rattle.std.proofs.Common.{◌≡◌, ℕ, zero, suc, Bool, ℤ, true, List, [], ◌∷◌, map, length, ◌≤◌, Option, Some, None, refl, sym, ◌∙◌, ap, subst, inl, inr}
use Rattle.std.specs.Prelude.{slice_get}
use Rattle.std.specs.List.{AllByRecursion}
use Rattle.std.specs.Option.{option_map}
use Rattle.std.proofs.lemmas.Bool.{false≢true}
use Rattle.std.proofs.lemmas.List.Elements.{recursion_from_All}
use Rattle.std.proofs.lemmas.Option.{none-some, same_Some}
use Rattle.sk_base.specs.declared.flow.FlowSort.{FlowSort}
use Rattle.sk_def.specs.declared.def.Def.{Def}
use Rattle.sk_def.specs.declared.def.Hook.{Hook}
use Rattle.sk_def.specs.Fits.{HookFits}
use Rattle.sk_sort.specs.Definition.{IsWellSorted}
use Rattle.sk_term.specs.Program.{Program, IsProgramOf}
use Rattle.sk_deriv.specs.Moves.{Setting, setting_of}
use Rattle.sk_lattice.specs.Domain.{Domain}
use Rattle.sk_lattice.specs.Empty.{is_proper}
use Rattle.sk_lattice.specs.Laws.{TupleLaws}
use Rattle.sk_lattice.specs.Order.{tuple_leq}
use Rattle.sk_absfilter.specs.Abstract.{Outcome}
use Rattle.sk_absfilter.specs.Laws.{outcome_leq}
use Rattle.sk_table.specs.declared.triple.Cover.{Cover}
use Rattle.sk_rounds.specs.Walks.{Side, Inputs, Outputs, Walks, side_leq, FitSide, FitAnswers, GoodCalls, CallsBelow, WalkLaws}
use Rattle.sk_rounds.specs.Tuples.{ReadingLaws}
use Rattle.sk_rounds.proofs.Lists.{all_both}
use Rattle.sk_abswalk.specs.Walk.{Flows, Ends, uncovered, ill, with, Walk}
use Rattle.sk_abswalk.specs.Order.{IsBelowOne, AnswersLeq, EndsLeq, GotThere, WalkLeq, WalksAreMonotone, IsProperOutcome, IsProperWalk, WalksAreProper}
use Rattle.sk_abswalk.specs.Fits.{CallFits, EndsFit, WalkFits, WalksFit}
use Rattle.sk_abswalk.specs.Reading.{Key, call_with, key_of, keyed, hook_of_key, sorts_of_side, by_key, outcome_of, walk_of_key, reading_of, walks_of, CoversFit}
use Rattle.sk_abswalk.proofs.Settled.{Settles, walk_settled}
use Rattle.sk_abswalk.proofs.Keys.{same_key_refl, same_key_only, key_is}
use Rattle.sk_abswalk.proofs.KeySides.{IsGoodCall, good_call, outputs_fit, calls_good, answers_fit, answers_proper}

-- an outcome that a walk gets to
pub record GetsTo {D : Type 0} (ends : Ends D (Flows D)) : Type 0 where
  pub outs : Outcome D
  pub is : ends ≡ with outs

-- tables' sides are ordered as outcomes are
pub leq_side : (D : Type 0) (d : Domain D) (finite : Bool) (marks : List ℤ) (s : Setting) (covers : List (Cover D)) (x y : Outcome D) → outcome_leq d x y ≡ true → side_leq (walks_of d finite marks s covers) x y ≡ true
leq_side D d finite marks s covers None y e = refl
leq_side D d finite marks s covers (Some a) None e = absurd (false≢true e)
leq_side D d finite marks s covers (Some a) (Some b) e = e

pub leq_outcome : (D : Type 0) (d : Domain D) (finite : Bool) (marks : List ℤ) (s : Setting) (covers : List (Cover D)) (x y : Outcome D) → side_leq (walks_of d finite marks s covers) x y ≡ true → outcome_leq d x y ≡ true
leq_outcome D d finite marks s covers None y e = refl
leq_outcome D d finite marks s covers (Some a) None e = absurd (false≢true e)
leq_outcome D d finite marks s covers (Some a) (Some b) e = e

-- the entry at a place has what all have
all_get : {A : Type 0} (P : A → Type 0) (xs : List A) (i : ℕ) (x : A) → AllByRecursion P xs → slice_get xs i ≡ Some x → P x
all_get P [] i x h e = absurd (none-some x e)
all_get P (y ∷ xs) zero x h e = subst P (same_Some y x e) h.0
all_get P (y ∷ xs) (suc i) x h e = all_get P xs i x h.1 e

module _ (D : Type 0) (d : Domain D) (tuples : TupleLaws d) (fit : WalksFit d) (proper : WalksAreProper d) (def : Def) (program : Program) (sorted : IsWellSorted def) (is_program : IsProgramOf def program) (finite : Bool) (marks : List ℤ) (covers : List (Cover D)) where
  abbrev s : Setting
  s = setting_of def program

  abbrev w : Walks Key (Flows D)
  w = walks_of d finite marks s covers

  -- the hook of a key has few inputs and outputs
  few_of_hook : (side : Side) (hook : Hook) → HookFits (length def.sorts) hook → length (sorts_of_side side hook) ≤ 4
  few_of_hook Inputs hook f = f.few_inputs
  few_of_hook Outputs hook f = f.few_outputs

  few_at : (k : Key) (side : Side) (found : Option Hook) → hook_of_key s k ≡ found → (sorts : List FlowSort) → option_map (sorts_of_side side) found ≡ Some sorts → length sorts ≤ 4
  few_at k side None e sorts h = absurd (none-some sorts h)
  few_at k side (Some hook) e sorts h =
      let key = key_is s k hook e in
      subst (λ l. length l ≤ 4) (same_Some (sorts_of_side side hook) sorts h) (few_of_hook side hook (all_get (HookFits (length def.sorts)) def.hooks k.0.0 hook (recursion_from_All _ def.hooks sorted.fits.hooks_fit) key.declared))

  pub reading_laws : ReadingLaws (reading_of d s covers)
  reading_laws = record { same_refl = same_key_refl; same_only = same_key_only; few_sorts = λ k side sorts e. few_at k side (hook_of_key s k) refl sorts e }

  -- A walk from inputs that fit, with answers that fit.

  module _ (answers : Key → Outcome D) (answers_are : FitAnswers w answers) (k : Key) (a : Flows D) (f : w.fits k Inputs a ≡ true) where
    abbrev this : Walk D (Flows D)
    this = walk_of_key d s answers k a

    this_call : IsGoodCall d s (call_with k a)
    this_call = good_call D d s k a f

    this_fits : WalkFits s (call_with k a) this
    this_fits = fit def program sorted is_program (by_key answers) (answers_fit D d s finite marks covers answers answers_are) (call_with k a) this_call.fits

    this_proper : IsProperWalk d this
    this_proper = proper s (by_key answers) (answers_proper D d s finite marks covers answers answers_are) (call_with k a) this_call.proper

    -- it gets to an end
    gets_at : (ends : Ends D (Flows D)) → EndsFit s k.0 ends → Settles (by_key answers) this.asked ends → GetsTo ends
    gets_at (uncovered c) h e = absurd (none-some (answers (key_of c)) (sym e))
    gets_at ill h e = absurd h
    gets_at (with o) h e = record { outs = o; is = refl }

    pub gets_to : GetsTo this.ends
    gets_to = gets_at this.ends this_fits.ends (walk_settled D (by_key answers) d s (call_with k a))

    -- which fits
    outcome_at : (ends : Ends D (Flows D)) → EndsFit s k.0 ends → ((o : Outcome D) → ends ≡ with o → IsProperOutcome d o) → FitSide w k Outputs (outcome_of ends)
    outcome_at (uncovered c) h p = tt
    outcome_at ill h p = tt
    outcome_at (with o) h p = outputs_fit D d s (call_with k a) o this_call.fits h (p o refl) finite marks covers

    pub gives_fit : FitSide w k Outputs (w.gives answers k a)
    gives_fit = outcome_at this.ends this_fits.ends this_proper.ends

    -- and asks good calls
    pub asks_good : GoodCalls w (w.calls answers k a)
    asks_good =
        calls_good D d s finite marks covers this.asked
        (all_both (CallFits s) (λ c. is_proper d c.ins ≡ true) (IsGoodCall d s) (λ c p q. record { fits = p; proper = q }) this.asked (recursion_from_All (CallFits s) this.asked this_fits.calls) this_proper.calls)

  -- Two walks, of which one is asked and answered with more.

  answers_leq : (less more : Key → Outcome D) → ((j : Key) → side_leq w (less j) (more j) ≡ true) → AnswersLeq d (by_key less) (by_key more)
  answers_leq less more le c e below o is =
      let same : key_of c ≡ key_of e = λ i. (below.same_hook i, below.same_point i) in
      record {
        outs = less (key_of c);
        is = refl;
        leq = subst (λ x. outcome_leq d (less (key_of c)) x ≡ true) (ap more same ∙ same_Some (more (key_of e)) o is) (leq_outcome D d finite marks s covers (less (key_of c)) (more (key_of c)) (le (key_of c)));
      }

  module _ (monotone : WalksAreMonotone d) (less more : Key → Outcome D) (k : Key) (a b : Flows D) (less_fit : FitAnswers w less) (more_fit : FitAnswers w more) (f : w.fits k Inputs a ≡ true) (g : w.fits k Inputs b ≡ true) (le : (j : Key) → side_leq w (less j) (more j) ≡ true) (below : tuple_leq d a b ≡ true) where
    both : WalkLeq d (λ l o. outcome_leq d l o ≡ true) (walk_of_key d s less k a) (walk_of_key d s more k b)
    both = monotone s (by_key less) (by_key more) (answers_leq less more le) (call_with k a) (call_with k b) (record { same_hook = refl; same_point = refl; ins_leq = below })

    ends_leq : (x y : Ends D (Flows D)) → GetsTo y → EndsLeq (λ l o. outcome_leq d l o ≡ true) x y → side_leq w (outcome_of x) (outcome_of y) ≡ true
    ends_leq x (uncovered c) t h = cc
    ends_leq x ill t h = cc
    ends_leq (uncovered c) (with o) t h = refl
    ends_leq ill (with o) t h = refl
    ends_leq (with l) (with o) t h = leq_side D d finite marks s covers l o h

    pub gives_more : side_leq w (w.gives less k a) (w.gives more k b) ≡ true
    gives_more = ends_leq (walk_of_key d s less k a).ends (walk_of_key d s more k b).ends (gets_to more more_fit k b g) both.ends

    got_there : (ends : Ends D (Flows D)) → GetsTo ends → GotThere ends
    got_there ends t = subst GotThere (sym t.is) tt

    module _ (above : Key → Outcome D) where
      one_below : (c : Cover D) (greater : List (Cover D)) → IsBelowOne d greater c → CallsBelow w (map keyed greater) above → side_leq w (Some c.ins) (above (key_of c)) ≡ true
      one_below c [] h up = absurd h
      one_below c (e ∷ greater) (inl h) up = side_at (above (key_of e)) refl up.0
        where
          side_at : (x : Outcome D) → above (key_of e) ≡ x → side_leq w (Some e.ins) x ≡ true → side_leq w (Some c.ins) (above (key_of c)) ≡ true
          side_at None is q = absurd (false≢true q)
          side_at (Some t) is q =
              let same : above (key_of c) ≡ Some t = ap above (λ i. (h.same_hook i, h.same_point i)) ∙ is in
              subst (λ x. side_leq w (Some c.ins) x ≡ true) (sym same) (tuples.leq_trans c.ins e.ins t h.ins_leq q)
      one_below c (e ∷ greater) (inr h) up = one_below c greater h up.1

      calls_below : (cs greater : List (Cover D)) → AllByRecursion (IsBelowOne d greater) cs → CallsBelow w (map keyed greater) above → CallsBelow w (map keyed cs) above
      calls_below [] greater h up = tt
      calls_below (c ∷ cs) greater h up = (one_below c greater h.0 up, calls_below cs greater h.1 up)

      pub calls_more : CallsBelow w (w.calls more k b) above → CallsBelow w (w.calls less k a) above
      calls_more up = calls_below (walk_of_key d s less k a).asked (walk_of_key d s more k b).asked (both.calls (got_there (walk_of_key d s more k b).ends (gets_to more more_fit k b g))) up

  pub walk_laws : WalksAreMonotone d → CoversFit d s covers → WalkLaws w
  walk_laws monotone covers_fit =
      record {
        covers_good = calls_good D d s finite marks covers covers (covers_are covers (recursion_from_All _ covers covers_fit));
        gives_fit = λ answers k a h f. gives_fit answers h k a f;
        calls_good = λ answers k a h f. asks_good answers h k a f;
        gives_more = λ less more k a b h m f g le below. gives_more monotone less more k a b h m f g le below;
        calls_more = λ less more k a b h m f g le below above up. calls_more monotone less more k a b h m f g le below above up;
      }
    where
      covers_are : (cs : List (Cover D)) → AllByRecursion (λ c. CallFits s c × (is_proper d c.ins ≡ true)) cs → AllByRecursion (IsGoodCall d s) cs
      covers_are [] h = tt
      covers_are (c ∷ cs) h = (record { fits = h.0.0; proper = h.0.1 }, covers_are cs h.1)
