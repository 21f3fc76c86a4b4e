-- The derivations of a call, one for each world that the walk of its rule ends in.
use Rattle.std.proofs.Common.{◌≡◌, ℕ, zero, suc, ◌+◌, ◌<◌, ◌≤◌, List, [], ◌∷◌, ◌++◌, length, drop, get_or, Some, refl, ap, sym, subst, ◌∙◌, arith, add-one, drop-cons, append_assoc, append-nil, length-append}
use Rattle.std.specs.List.{All, filter_map, cons_option}
use Rattle.std.specs.Option.{option_map}
use Rattle.std.proofs.Math.ListN.{drop_of_length-le}
use Rattle.sk_def.specs.declared.def.Rule.{Rule}
use Rattle.sk_filter.specs.Arguments.{Values}
use Rattle.sk_deriv.specs.declared.call.Call.{Call}
use Rattle.sk_deriv.specs.declared.forest.Node.{Node}
use Rattle.sk_deriv.specs.Forest.{IsBelow, steps_with, tree_at}
use Rattle.sk_deriv.specs.Tree.{Derivation, derivation}
use Rattle.sk_deriv.specs.Env.{values_at}
use Rattle.sk_deriv.specs.Listing.{Trail, closed}
use Rattle.sk_concrete.specs.declared.world.World.{World}
use Rattle.sk_concrete.specs.declared.world.Tree.{Tree}
use Rattle.sk_concrete.specs.Trees.{AreThere, Closes, node_of, trails_in}
use Rattle.sk_concrete.proofs.Forests.{below_more, closes_none, closes_one}

there_at : (place : ℕ) (ws : List World) (k : ℕ) (w : World) → AreThere place ws → k < length ws → All (IsBelow place) (get_or ws k w).steps
there_at place [] k w h l = absurd (omega (arith, l))
there_at place (u ∷ ws) zero w h l = h.0
there_at place (u ∷ ws) (suc k) w h l = there_at place ws k w h.1 (omega (arith, l))

module _ (c : Call) (rule : Rule) (before : List Node) (ws : List World) where
  abbrev ends : List World → List Derivation
  ends us = filter_map (closed c rule) (trails_in before us)

  -- the first worlds have these derivations
  pub record ClosedSoFar (now : List Node) (trees : List Tree) (k : ℕ) : Type 0 where
    pub ts : List Derivation
    pub closes : Closes before now trees ts
    pub whole : ts ++ ends (drop k ws) ≡ ends ws

  pub closed_none : ClosedSoFar before [] 0
  closed_none = record { ts = []; closes = closes_none before; whole = refl }

  pub closed_all : (now : List Node) (trees : List Tree) (k : ℕ) → length ws ≤ k → ClosedSoFar now trees k → Closes before now trees (ends ws)
  closed_all now trees k l h =
      subst (Closes before now trees) (sym (append-nil h.ts) ∙ ap (λ us. h.ts ++ ends us) (sym (drop_of_length-le ws l)) ∙ h.whole) h.closes

  module _ (now : List Node) (trees : List Tree) (k : ℕ) (w : World) (l : k < length ws) (is : w ≡ get_or ws k w) (h : ClosedSoFar now trees k) where
    abbrev trail : Trail
    trail = (steps_with (tree_at before) w.steps, w.env)

    at_turn : ends (drop k ws) ≡ cons_option (closed c rule trail) (ends (drop (k + 1) ws))
    at_turn =
        ap ends (drop-cons ws k w l) ∙ ap (λ u. ends (u ∷ drop (suc k) ws)) (sym is)
        ∙ ap (λ j. cons_option (closed c rule trail) (ends (drop j ws))) (sym (add-one k))

    pub world_there : AreThere (length before) ws → All (IsBelow (length before)) w.steps
    world_there there = subst (λ (u : World). All (IsBelow (length before)) u.steps) (sym is) (there_at (length before) ws k w there l)

    pub below_now : AreThere (length before) ws → All (IsBelow (length now)) w.steps
    below_now there = below_more (length before) (length now) w.steps (omega (arith, ap length h.closes.grown, length-append before h.closes.more)) (world_there there)

    pub closed_next : (outs : Values) (now' : List Node) (tree : Tree) (trees' : List Tree) → AreThere (length before) ws → values_at w.env rule.outputs ≡ Some outs →
        now' ≡ now ++ node_of c w outs ∷ [] → tree.root ≡ length now → tree.outs ≡ outs → trees' ≡ trees ++ tree ∷ [] → ClosedSoFar now' trees' (k + 1)
    closed_next outs now' tree trees' there e grown root same made =
        let t = derivation c.hook c.point c.ins trail.0 outs in
        record {
          ts = h.ts ++ t ∷ [];
          closes = subst (λ us. Closes before now' us (h.ts ++ t ∷ [])) (sym made) (closes_one before now trees h.ts c w outs (world_there there) h.closes now' tree grown root same);
          whole = append_assoc h.ts (t ∷ []) (ends (drop (k + 1) ws))
              ∙ ap (λ o. h.ts ++ cons_option (option_map (derivation c.hook c.point c.ins trail.0) o) (ends (drop (k + 1) ws))) (sym e) ∙ ap (λ ds. h.ts ++ ds) (sym at_turn) ∙ h.whole;
        }
