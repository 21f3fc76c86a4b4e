-- Tuples below each other have the same sorts; what becomes of a side that is raised.
use Rattle.std.proofs.Common.{◌≡◌, ℕ, Bool, ℤ, true, false, List, [], ◌∷◌, length, Some, refl, sym, ◌∙◌, ap, arith}
use Rattle.std.proofs.lemmas.Bool.{and_parts, and_from, eq-eqb, cond-false, false≢true}
use lib.Pointwise.{pointwise}
use Rattle.sk_deriv.specs.Moves.{Setting}
use Rattle.sk_lattice.specs.declared.store.AbsStore.TheVariants.{Empty, Cells}
use Rattle.sk_lattice.specs.declared.flow.AbsFlow.{AbsFlow}
use Rattle.sk_lattice.specs.declared.flow.AbsFlow.TheVariants as flow
use Rattle.sk_lattice.specs.Domain.{Domain}
use Rattle.sk_lattice.specs.Laws.{TupleLaws}
use Rattle.sk_lattice.specs.Merge.{Join, tuple_merge}
use Rattle.sk_lattice.specs.Order.{cell_leq, flow_leq, tuple_leq, flows_fit, tuples_fit}
use Rattle.sk_absfilter.specs.Abstract.{Outcome}
use Rattle.sk_table.specs.declared.triple.Cover.{Cover}
use Rattle.sk_rounds.specs.Rounds.{stretch, grown, raised}
use Rattle.sk_abswalk.specs.Walk.{Flows}
use Rattle.sk_abswalk.specs.Reading.{walks_of}

same_length : {A B : Type 0} (f : A → B → Bool) (xs : List A) (ys : List B) → pointwise f xs ys ≡ true → length xs ≡ length ys
same_length f [] [] e = refl
same_length f [] (y ∷ ys) e = absurd (false≢true e)
same_length f (x ∷ xs) [] e = absurd (false≢true e)
same_length f (x ∷ xs) (y ∷ ys) e = omega (arith, same_length f xs ys (and_parts _ _ e).1)

module _ (D : Type 0) (d : Domain D) where
  flow_fits : (x y : AbsFlow D) → flow_leq d x y ≡ true → flows_fit x y ≡ true
  flow_fits (flow.Int a) (flow.Int b) e = refl
  flow_fits (flow.Bool a) (flow.Bool b) e = refl
  flow_fits (flow.Val a) (flow.Val b) e = refl
  flow_fits (flow.Store (Cells xs)) (flow.Store (Cells ys)) e = eq-eqb (length xs) (length ys) (same_length (cell_leq d) xs ys e)
  flow_fits (flow.Store Empty) (flow.Store t) e = refl
  flow_fits (flow.Store (Cells xs)) (flow.Store Empty) e = absurd (false≢true e)
  flow_fits _ _ e = cc

  leq_fits : (a b : List (AbsFlow D)) → tuple_leq d a b ≡ true → tuples_fit a b ≡ true
  leq_fits [] [] e = refl
  leq_fits [] (y ∷ ys) e = absurd (false≢true e)
  leq_fits (x ∷ xs) [] e = absurd (false≢true e)
  leq_fits (x ∷ xs) (y ∷ ys) e = let p = and_parts _ _ e in and_from _ _ (flow_fits x y p.0) (leq_fits xs ys p.1)

  -- a tuple and a join with it
  pub join_fits : TupleLaws d → (a b joined : List (AbsFlow D)) → tuples_fit a b ≡ true → joined ≡ tuple_merge d Join a b → tuples_fit a joined ≡ true
  join_fits tuples a b joined f e = ap (tuples_fit a) e ∙ leq_fits a (tuple_merge d Join a b) (tuples.join_left a b f)

  -- a tuple that doesn't lie below the old one
  pub raised_is : (finite : Bool) (marks : List ℤ) (round : ℕ) (s : Setting) (covers : List (Cover D)) (old new : Outcome D) (a b t : Flows D) →
      old ≡ Some a → new ≡ Some b → tuple_leq d b a ≡ false → t ≡ stretch (walks_of d finite marks s covers) round a b → Some t ≡ raised (walks_of d finite marks s covers) round old new
  raised_is finite marks round s covers old new a b t is_old is_new n e =
      ap Some e
      ∙ sym (cond-false (tuple_leq d b a) (Some a) (grown (walks_of d finite marks s covers) round (Some a) (Some b)) n)
      ∙ sym (λ i. raised (walks_of d finite marks s covers) round (is_old i) (is_new i))
