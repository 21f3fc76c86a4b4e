-- What the walk of a key tells, and the calls that are heard of it.
use Rattle.std.proofs.Common.{◌≡◌, ℕ, ℤ, Bool, ◌+◌, ◌*◌, ◌<◌, ◌≤◌, true, List, [], ◌∷◌, length, map, Some, None, refl, sym, ◌∙◌, ap, subst}
use Rattle.std.specs.List.{AllByRecursion}
use Rattle.std.proofs.lemmas.Nat.{mul-add-lt}
use Rattle.std.proofs.lemmas.Option.{slice_get_within}
use Rattle.sk_deriv.specs.Moves.{Setting}
use Rattle.sk_lattice.specs.Domain.{Domain}
use Rattle.sk_lattice.specs.DomainLaws.{DomainLaws}
use Rattle.sk_absfilter.specs.Abstract.{Outcome}
use Rattle.sk_table.specs.declared.triple.Cover.{Cover}
use Rattle.sk_rounds.specs.Walks.{Side, Inputs, Table, Walks, WalksLaws, FitSide, FitTable, GoodCalls}
use Rattle.sk_rounds.specs.Rounds.{Told, own_answer, told_at, told}
use Rattle.sk_rounds.proofs.Bearing.{told_good}
use Rattle.sk_rounds.proofs.TupleWalks.{fit}
use Rattle.sk_abswalk.specs.Walk.{Flows, with, Walk, abstract_walk}
use Rattle.sk_abswalk.specs.Fits.{CallFits}
use Rattle.sk_abswalk.specs.Reading.{Key, call_with, key_of, keyed, by_key, outcome_of, walks_of}
use Rattle.sk_abswalk.proofs.KeySides.{good_call, side_fits}
use Rattle.sk_abswalk.proofs.Keys.{key_is}
use Rattle.sk_analyse.specs.declared.sides.Sides.{Sides}
use Rattle.sk_analyse.specs.Sides.{side_of, sides_fit, HasPlace, CanHear}
use Rattle.sk_analyse.specs.Tabled.{tabled, HasAllSlots}

-- a key with a hook and a point of the program has its slot
pub has_place : {D : Type 0} (slots : List (Outcome D)) (hooks points : ℕ) (k : Key) → length slots ≡ hooks * points → k.0.0 < hooks → k.1 < points → HasPlace hooks slots k
has_place slots hooks points k size hook point =
    record { hook_within = hook; place_within = subst (λ n. k.1 * hooks + k.0.0 < n) (sym size) (mul-add-lt k.1 hooks k.0.0 points point hook) }

pub place_in : {D : Type 0} (slots : List (Outcome D)) (here hooks points : ℕ) (k : Key) → here ≡ hooks → length slots ≡ hooks * points → k.0.0 < hooks → k.1 < points → HasPlace here slots k
place_in slots here hooks points k same size hook point = subst (λ n. HasPlace n slots k) (sym same) (has_place slots hooks points k size hook point)

module _ (D : Type 0) (d : Domain D) (finite : Bool) (marks : List ℤ) (s : Setting) (covers : List (Cover D)) where
  abbrev w : Walks Key (Flows D)
  w = walks_of d finite marks s covers

  -- the call of a key of the table
  pub call_fits : (T : Table Key (Flows D)) (k : Key) (ins : Flows D) → FitTable w T → T k Inputs ≡ Some ins → CallFits s (call_with k ins)
  call_fits T k ins f e = (good_call D d s k ins (subst (FitSide w k Inputs) e (f k Inputs))).fits

  -- what it tells, and that a key that the table lacks tells nothing
  pub tells_some : (sides : Sides D) (k : Key) (ins : Flows D) (gives : Outcome D) (calls : List (Cover D)) → tabled sides k Inputs ≡ Some ins →
      abstract_walk d (by_key (side_of sides.outs.hooks sides.outs.slots)) s (call_with k ins) ≡ record { asked = calls; ends = with gives } →
      record { gives = gives; calls = map keyed calls } ≡ told w (tabled sides) k
  tells_some sides k ins gives calls i e =
      ap (λ (v : Walk D (Flows D)). record { gives = outcome_of v.ends; calls = map keyed v.asked }) (sym e)
      ∙ sym (ap (told_at w (own_answer (tabled sides)) k) i)

  pub tells_none : (sides : Sides D) (k : Key) → tabled sides k Inputs ≡ None → record { gives = None; calls = [] } ≡ told w (tabled sides) k
  tells_none sides k i = sym (ap (told_at w (own_answer (tabled sides)) k) i)

  -- good calls have slots
  places : (slots : List (Outcome D)) → length slots ≡ length s.def.hooks * length s.nodes → (calls : List (Cover D)) → GoodCalls w (map keyed calls) → AllByRecursion (λ c. HasPlace (length s.def.hooks) slots (key_of c)) calls
  places slots size [] h = tt
  places slots size (c ∷ calls) h =
      let side = side_fits D d s (key_of c) Inputs c.ins h.0.1 in
      let key = key_is s (key_of c) side.hook side.is in (
        has_place slots (length s.def.hooks) (length s.nodes) (key_of c) size (slice_get_within s.def.hooks c.hook.0 side.hook key.declared) (slice_get_within s.nodes c.point key.node key.at),
        places slots size calls h.1,
      )

  -- what a key's walk asks can be heard
  pub can_hear : WalksLaws w → length s.def.hooks ≤ 8 → (T : Table Key (Flows D)) → FitTable w T → (k : Key) (calls : List (Cover D)) (gives : Outcome D) → record { gives = gives; calls = map keyed calls } ≡ told w T k →
      (heard : Sides D) → HasAllSlots s heard → ((j : Key) → FitSide w j Inputs (tabled heard j Inputs)) → CanHear d heard.ins.hooks heard.ins.slots calls
  can_hear laws few T f k calls gives e heard slots fits =
      let good : GoodCalls w (map keyed calls) = subst (λ (t : Told Key (Flows D)). GoodCalls w t.calls) (sym e) (told_good Key (Flows D) w laws T f k) in
      record {
        finite = finite;
        marks = marks;
        setting = s;
        covers = covers;
        laws = laws;
        good = good;
        fit = fits;
        few = subst (λ n. n ≤ 8) (sym slots.ins_hooks) few;
        places = subst (λ n. AllByRecursion (λ c. HasPlace n heard.ins.slots (key_of c)) calls) (sym slots.ins_hooks) (places heard.ins.slots slots.ins_size calls good);
      }

  -- tuples that fit one side have the same sorts
  pub sides_fit_from : DomainLaws d → (k : Key) (side : Side) (x y : Outcome D) → FitSide w k side x → FitSide w k side y → sides_fit x y ≡ true
  sides_fit_from laws k side None y f g = refl
  sides_fit_from laws k side (Some a) None f g = refl
  sides_fit_from laws k side (Some a) (Some b) f g = fit D d laws s.names _ a b f g
