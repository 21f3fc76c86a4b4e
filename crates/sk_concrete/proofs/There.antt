-- The steps of worlds name subtrees that are there.
use Rattle.std.proofs.Common.{ℕ, zero, suc, Bool, true, false, cond, eqb, List, [], ◌∷◌, ◌++◌, arith}
use Rattle.std.specs.List.{All, flat_map}
use Rattle.std.proofs.lemmas.List.Elements.{All-head, All-tail}
use Rattle.sk_def.specs.declared.ids.Var.{Var}
use Rattle.sk_def.specs.declared.filter.Filter.{Filter}
use Rattle.sk_filter.specs.Arguments.{Values}
use Rattle.sk_filter.specs.Results.{is_choice}
use Rattle.sk_deriv.specs.declared.forest.Step.{Step}
use Rattle.sk_deriv.specs.Forest.{IsBelow}
use Rattle.sk_deriv.specs.Moves.{results_at}
use Rattle.sk_concrete.specs.declared.world.World.{World}
use Rattle.sk_concrete.specs.Worlds.{the_one, picked, filtered, forked, joined, joined_end, joined_ends, merged}
use Rattle.sk_concrete.specs.Trees.{AreThere}

pub All-cons : {A : Type 0} (P : A → Type 0) (x : A) (xs : List A) → P x → All P xs → All P (x ∷ xs)
All-cons P x xs p h zero d l = p
All-cons P x xs p h (suc k) d l = h k d (omega (arith, l))

pub All-join : {A : Type 0} (P : A → Type 0) (xs ys : List A) → All P xs → All P ys → All P (xs ++ ys)
All-join P [] ys h g = g
All-join P (x ∷ xs) ys h g = All-cons P x (xs ++ ys) (All-head P x xs h) (All-join P xs ys (All-tail P x xs h) g)

pub All-none : {A : Type 0} (P : A → Type 0) → All P []
All-none P k d l = absurd (omega (arith, l))

module _ (place : ℕ) where
  pub one_step : (steps : List Step) (step : Step) → All (IsBelow place) steps → IsBelow place step → All (IsBelow place) (steps ++ step ∷ [])
  one_step steps step h b = All-join (IsBelow place) steps (step ∷ []) h (All-cons (IsBelow place) step [] b (All-none (IsBelow place)))

  pub there_join : (ws vs : List World) → AreThere place ws → AreThere place vs → AreThere place (ws ++ vs)
  there_join [] vs h g = g
  there_join (w ∷ ws) vs h g = (h.0, there_join ws vs h.1 g)

  there_picked : (outs : List Var) (w : World) (k : ℕ) (vs : List Values) → All (IsBelow place) w.steps → AreThere place (picked outs w k vs)
  there_picked outs w k [] h = tt
  there_picked outs w k (v ∷ vs) h = (one_step w.steps (Step.Pick k) h tt, there_picked outs w (suc k) vs h)

  there_only : (outs : List Var) (w : World) (vs : List Values) → All (IsBelow place) w.steps → AreThere place (the_one outs w vs)
  there_only outs w [] h = tt
  there_only outs w (v ∷ []) h = (h, tt)
  there_only outs w (v ∷ u ∷ vs) h = tt

  there_results : (b : Bool) (outs : List Var) (w : World) (vs : List Values) → All (IsBelow place) w.steps → AreThere place (cond b (picked outs w 0 vs) (the_one outs w vs))
  there_results true outs w vs h = there_picked outs w 0 vs h
  there_results false outs w vs h = there_only outs w vs h

  pub there_filtered : (names : ℕ) (filter : Filter) (args outs : List Var) (ws : List World) → AreThere place ws → AreThere place (flat_map (filtered names filter args outs) ws)
  there_filtered names filter args outs [] h = tt
  there_filtered names filter args outs (w ∷ ws) h =
      there_join (filtered names filter args outs w) (flat_map (filtered names filter args outs) ws)
      (there_results (is_choice filter) outs w (results_at names w.env filter args) h.0) (there_filtered names filter args outs ws h.1)

  pub there_forked : (k at : ℕ) (ws : List World) → AreThere place (forked k at ws)
  there_forked k at [] = tt
  there_forked k at (w ∷ ws) = (All-cons (IsBelow place) (Step.Pick k) [] tt (All-none (IsBelow place)), there_forked k (suc at) ws)

  abbrev pub AllThere : List (List World) → Type 0
  AllThere [] = Unit {0}
  AllThere (ws ∷ wss) = AreThere place ws × AllThere wss

  there_if : (b : Bool) (exports : List Var) (w end : World) → All (IsBelow place) w.steps → All (IsBelow place) end.steps → AreThere place (cond b (joined exports w end ∷ []) [])
  there_if true exports w end h g = (All-join (IsBelow place) w.steps end.steps h g, tt)
  there_if false exports w end h g = tt

  there_joined_end : (exports : List Var) (at : ℕ) (w : World) (end : List World) → All (IsBelow place) w.steps → AreThere place end → AreThere place (joined_end exports at w end)
  there_joined_end exports at w [] h g = tt
  there_joined_end exports at w (u ∷ end) h g =
      there_join (cond (eqb u.origin at) (joined exports w u ∷ []) []) (joined_end exports at w end) (there_if (eqb u.origin at) exports w u h g.0) (there_joined_end exports at w end h g.1)

  there_joined_ends : (exports : List Var) (at : ℕ) (w : World) (ends : List (List World)) → All (IsBelow place) w.steps → AllThere ends → AreThere place (joined_ends exports at w ends)
  there_joined_ends exports at w [] h g = tt
  there_joined_ends exports at w (end ∷ ends) h g =
      there_join (joined_end exports at w end) (joined_ends exports at w ends) (there_joined_end exports at w end h g.0) (there_joined_ends exports at w ends h g.1)

  pub there_merged : (exports : List Var) (ends : List (List World)) (at : ℕ) (ws : List World) → AreThere place ws → AllThere ends → AreThere place (merged exports ends at ws)
  there_merged exports ends at [] h g = tt
  there_merged exports ends at (w ∷ ws) h g =
      there_join (joined_ends exports at w ends) (merged exports ends (suc at) ws) (there_joined_ends exports at w ends h.0 g) (there_merged exports ends (suc at) ws h.1 g)
