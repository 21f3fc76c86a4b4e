-- The paths of what the bones make of worlds.
use Rattle.std.proofs.Common.{◌≡◌, ℕ, suc, Bool, true, false, cond, List, [], ◌∷◌, ◌++◌, map, Some, None, refl, ap, ap₂, sym, ◌∙◌}
use Rattle.std.specs.List.{flat_map}
use Rattle.std.proofs.lemmas.List.{map-append}
use Rattle.sk_def.specs.declared.ids.Var.{Var}
use Rattle.sk_def.specs.declared.bone.Bone.{Bone}
use Rattle.sk_def.specs.declared.filter.Filter.{Filter}
use Rattle.sk_filter.specs.Arguments.{Values}
use Rattle.sk_filter.specs.Results.{is_choice}
use Rattle.sk_value.specs.declared.flow.Flow.{Flow}
use Rattle.sk_deriv.specs.declared.call.Call.{Call}
use Rattle.sk_deriv.specs.declared.forest.Node.{Node}
use Rattle.sk_deriv.specs.declared.forest.Step.{Step}
use Rattle.sk_deriv.specs.Tree.{Derivation, Steps, done, pick, sub, outs_of}
use Rattle.sk_deriv.specs.Forest.{steps_with, tree_at}
use Rattle.sk_deriv.specs.Env.{Env, gain}
use Rattle.sk_deriv.specs.Moves.{results_at}
use Rattle.sk_deriv.specs.Listing.{Trail, after_sub, followed_by, only, each}
use Rattle.sk_deriv.proofs.TrailLemmas.{followed_by_done}
use Rattle.sk_concrete.specs.declared.world.World.{World}
use Rattle.sk_concrete.specs.declared.world.Tree.{Tree}
use Rattle.sk_concrete.specs.Worlds.{world_after, the_one, picked, filtered, answered, forked}
use Rattle.sk_concrete.specs.Trees.{Stand}
use Rattle.sk_concrete.specs.Calls.{Path, path_of, paths, along, begun, spread, spread_all}

-- steps one after another
pub steps_join : (tree : ℕ → Derivation) (a b : List Step) → steps_with tree (a ++ b) ≡ followed_by (steps_with tree a) (steps_with tree b)
steps_join tree [] b = refl
steps_join tree (Step.Pick k ∷ a) b = ap (pick k) (steps_join tree a b)
steps_join tree (Step.Sub child ∷ a) b = ap (sub (tree child)) (steps_join tree a b)

module _ (nodes : List Node) where
  abbrev with_steps : ℕ → Env Flow → Steps → Path
  with_steps o env s = (o, (s, env))

  path_picked : (outs : List Var) (v : Values) (k : ℕ) (w : World) → path_of nodes (world_after (Some (Step.Pick k)) outs v w) ≡ along (path_of nodes w) (pick k done, gain w.env outs v)
  path_picked outs v k w = ap (with_steps w.origin (gain w.env outs v)) (steps_join (tree_at nodes) w.steps (Step.Pick k ∷ []))

  path_only : (outs : List Var) (v : Values) (w : World) → path_of nodes (world_after None outs v w) ≡ along (path_of nodes w) (done, gain w.env outs v)
  path_only outs v w = ap (with_steps w.origin (gain w.env outs v)) (sym (followed_by_done (steps_with (tree_at nodes) w.steps)))

  path_answered : (outs : List Var) (tree : Tree) (t : Derivation) (w : World) → tree_at nodes tree.root ≡ t → tree.outs ≡ outs_of t →
      path_of nodes (world_after (Some (Step.Sub tree.root)) outs tree.outs w) ≡ along (path_of nodes w) (sub t done, gain w.env outs (outs_of t))
  path_answered outs tree t w e f =
      ap (with_steps w.origin (gain w.env outs tree.outs)) (steps_join (tree_at nodes) w.steps (Step.Sub tree.root ∷ []))
      ∙ ap₂ (λ (u : Derivation). λ (v : Values). along (path_of nodes w) (sub u done, gain w.env outs v)) e f

  abbrev after_result : List Var → World → Values → List Trail
  after_result outs w v = (done, gain w.env outs v) ∷ []

  paths_picked : (outs : List Var) (w : World) (k : ℕ) (vs : List Values) → paths nodes (picked outs w k vs) ≡ map (along (path_of nodes w)) (each (after_result outs w) k vs)
  paths_picked outs w k [] = refl
  paths_picked outs w k (v ∷ vs) = ap₂ (λ (a : Path). λ (b : List Path). a ∷ b) (path_picked outs v k w) (paths_picked outs w (suc k) vs)

  paths_only : (outs : List Var) (w : World) (vs : List Values) → paths nodes (the_one outs w vs) ≡ map (along (path_of nodes w)) (only (after_result outs w) vs)
  paths_only outs w [] = refl
  paths_only outs w (v ∷ []) = ap (λ (a : Path). a ∷ []) (path_only outs v w)
  paths_only outs w (v ∷ u ∷ vs) = refl

  paths_results : (b : Bool) (outs : List Var) (w : World) (vs : List Values) →
      paths nodes (cond b (picked outs w 0 vs) (the_one outs w vs)) ≡ map (along (path_of nodes w)) (cond b (each (after_result outs w) 0 vs) (only (after_result outs w) vs))
  paths_results true outs w vs = paths_picked outs w 0 vs
  paths_results false outs w vs = paths_only outs w vs

  module _ (names point : ℕ) (known : Call → List Derivation) where
    paths_filtered : (filter : Filter) (args outs : List Var) (w : World) →
        paths nodes (filtered names filter args outs w) ≡ spread names point known 1 (Bone.Apply filter args outs ∷ []) (path_of nodes w)
    paths_filtered filter args outs w = paths_results (is_choice filter) outs w (results_at names w.env filter args)

    -- the paths after a filter bone
    pub paths_after_filter : (filter : Filter) (args outs : List Var) (ws : List World) →
        paths nodes (flat_map (filtered names filter args outs) ws) ≡ spread_all names point known 1 (Bone.Apply filter args outs ∷ []) (paths nodes ws)
    paths_after_filter filter args outs [] = refl
    paths_after_filter filter args outs (w ∷ ws) =
        map-append (path_of nodes) (filtered names filter args outs w) (flat_map (filtered names filter args outs) ws)
        ∙ ap₂ (λ (a b : List Path). a ++ b) (paths_filtered filter args outs w) (paths_after_filter filter args outs ws)

  -- the paths in which a branch is begun
  pub paths_forked : (k place : ℕ) (ws : List World) → paths nodes (forked k place ws) ≡ begun k place (paths nodes ws)
  paths_forked k place [] = refl
  paths_forked k place (w ∷ ws) = ap (λ (vs : List Path). (place, (pick k done, w.env)) ∷ vs) (paths_forked k (suc place) ws)

  module _ (outs : List Var) (w : World) where
    abbrev pub after_tree : Derivation → List Trail
    after_tree t = map (after_sub t) ((done, gain w.env outs (outs_of t)) ∷ [])

    -- the paths after the derivations of a call
    pub paths_answered : (trees : List Tree) (ts : List Derivation) → Stand nodes trees ts →
        paths nodes (answered outs w trees) ≡ map (along (path_of nodes w)) (flat_map after_tree ts)
    paths_answered [] [] h = refl
    paths_answered [] (t ∷ ts) h = absurd h
    paths_answered (tree ∷ trees) [] h = absurd h
    paths_answered (tree ∷ trees) (t ∷ ts) h =
        ap₂ (λ (a : Path). λ (b : List Path). a ∷ b) (path_answered outs tree t w h.0.1 h.0.2) (paths_answered trees ts h.1)
