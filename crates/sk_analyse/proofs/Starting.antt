-- The first table: each cover line's key has its slot, and nothing stands there yet.
use Rattle.std.proofs.Common.{◌≡◌, ℕ, ℤ, Bool, zero, suc, ◌+◌, ◌*◌, ◌<◌, ◌≤◌, true, List, [], ◌∷◌, length, map, replicate, Option, Some, None, nat_lt, refl, sym, ◌∙◌, ap, subst}
use Rattle.std.specs.Prelude.{slice_get, unwrap_or}
use Rattle.std.specs.List.{AllByRecursion}
use Rattle.std.specs.Option.{option_map}
use Rattle.std.proofs.lemmas.Bool.{cond_both}
use Rattle.std.proofs.lemmas.List.{length-replicate}
use Rattle.std.proofs.lemmas.List.Elements.{recursion_from_All}
use Rattle.std.proofs.lemmas.Nat.{mul-add-lt}
use Rattle.std.proofs.lemmas.Option.{none-some, slice_get_within}
use Rattle.sk_term.specs.declared.node.TermNode.{TermNode}
use Rattle.sk_term.specs.Terms.{sort_of_node}
use Rattle.sk_deriv.specs.Moves.{Setting}
use Rattle.sk_lattice.specs.Domain.{Domain}
use Rattle.sk_lattice.specs.Empty.{is_proper}
use Rattle.sk_absfilter.specs.Abstract.{Outcome}
use Rattle.sk_table.specs.declared.triple.Cover.{Cover}
use Rattle.sk_rounds.specs.Walks.{Side, Inputs, Outputs, WalksLaws, FitSide}
use Rattle.sk_rounds.specs.Rounds.{side_join, join_calls, first_table}
use Rattle.sk_abswalk.specs.Walk.{Flows}
use Rattle.sk_abswalk.specs.Fits.{CallFits}
use Rattle.sk_abswalk.specs.Reading.{Key, key_of, keyed, CoversFit, walks_of}
use Rattle.sk_analyse.specs.declared.sides.Sides.{Sides}
use Rattle.sk_analyse.specs.Sides.{side_of, HasPlace, CanHear}
use Rattle.sk_analyse.specs.Tabled.{tabled}

-- nothing stands in empty slots
abbrev nones : (X : Type 0) → ℕ → List (Option X)
nones X n = replicate n None

read_none : (X : Type 0) (n i : ℕ) → unwrap_or (slice_get (nones X n) i) None ≡ None
read_none X zero i = refl
read_none X (suc n) zero = refl
read_none X (suc n) (suc i) = read_none X n i

pub side_none : (D : Type 0) (hooks n : ℕ) (k : Key) → side_of {D = D} hooks (replicate n None) k ≡ None
side_none D hooks n k = cond_both (nat_lt k.0.0 hooks) (unwrap_or (slice_get (replicate n None) (k.1 * hooks + k.0.0)) None) None (λ z. z ≡ None) (λ _. read_none (Flows D) n (k.1 * hooks + k.0.0)) (λ _. refl)

-- a node that has a sort is there
point_within : (s : Setting) (point : ℕ) (found : _) → option_map (sort_of_node s.def) (slice_get s.nodes point) ≡ Some found → point < length s.nodes
point_within s point found e = at (slice_get s.nodes point) refl e
  where
    at : (o : Option TermNode) → slice_get s.nodes point ≡ o → option_map (sort_of_node s.def) o ≡ Some found → point < length s.nodes
    at None is h = absurd (none-some found h)
    at (Some node) is h = slice_get_within s.nodes point node is

module _ (D : Type 0) (d : Domain D) (s : Setting) (finite : Bool) (marks : List ℤ) (covers : List (Cover D)) where
  places : (cs : List (Cover D)) → AllByRecursion (λ c. CallFits s c × (is_proper d c.ins ≡ true)) cs → AllByRecursion (λ c. HasPlace {D = D} (length s.def.hooks) (replicate (length s.def.hooks * length s.nodes) None) (key_of c)) cs
  places [] h = tt
  places (c ∷ cs) h =
      let f = h.0.0 in
      let hook = slice_get_within s.def.hooks c.hook.0 f.hook f.declared in
      let point = point_within s c.point _ f.point_fits in (
        record { hook_within = hook; place_within = subst (λ n. c.point * length s.def.hooks + c.hook.0 < n) (sym (length-replicate (length s.def.hooks * length s.nodes) None)) (mul-add-lt c.point (length s.def.hooks) c.hook.0 (length s.nodes) point hook) },
        places cs h.1,
      )

  -- empty slots can take up the cover lines
  pub can_start : WalksLaws (walks_of d finite marks s covers) → CoversFit d s covers → length s.def.hooks ≤ 8 → (hooks : ℕ) (slots : List (Outcome D)) → hooks ≡ length s.def.hooks → slots ≡ replicate (length s.def.hooks * length s.nodes) None → CanHear d hooks slots covers
  can_start laws fit few hooks slots same empty =
      let start : CanHear d (length s.def.hooks) (replicate (length s.def.hooks * length s.nodes) None) covers =
      record {
        finite = finite;
        marks = marks;
        setting = s;
        covers = covers;
        laws = laws;
        good = laws.walk.covers_good;
        fit = λ k. subst (FitSide (walks_of d finite marks s covers) k Inputs) (sym (side_none D (length s.def.hooks) (length s.def.hooks * length s.nodes) k)) tt;
        few = few;
        places = places covers (recursion_from_All _ covers fit);
      } in
      subst (λ h. CanHear d h slots covers) (sym same) (subst (λ l. CanHear d (length s.def.hooks) l covers) (sym empty) start)

  join_none : (x : Outcome D) → side_join (walks_of d finite marks s covers) None x ≡ x
  join_none None = refl
  join_none (Some a) = refl

  pub first_is : (sides : Sides D) (hooks n : ℕ) → ((k : Key) → side_of sides.ins.hooks sides.ins.slots k ≡ side_join (walks_of d finite marks s covers) (side_of hooks (replicate n None) k) (join_calls (walks_of d finite marks s covers) k (map keyed covers))) →
      (m : ℕ) → sides.outs.slots ≡ replicate m None → tabled sides ≡ first_table (walks_of d finite marks s covers)
  first_is sides hooks n heard m empty = λ i k side. at k side i
    where
      at : (k : Key) (side : Side) → tabled sides k side ≡ first_table (walks_of d finite marks s covers) k side
      at k Inputs =
          heard k ∙ ap (λ x. side_join (walks_of d finite marks s covers) x (join_calls (walks_of d finite marks s covers) k (map keyed covers))) (side_none D hooks n k)
          ∙ join_none (join_calls (walks_of d finite marks s covers) k (map keyed covers))
      at k Outputs = ap (λ l. side_of sides.outs.hooks l k) empty ∙ side_none D sides.outs.hooks m k
