-- What the bones of a rule make of worlds.
use Rattle.std.specs.Prelude.{ℕ, suc, ◌==◌, if◌then◌else◌, List, [], ◌∷◌, ◌++◌, map, Option, Some, None, Result, Ok, Err}
use Rattle.std.specs.List.{flat_map}
use Rattle.sk_def.specs.declared.ids.HookId.{HookId}
use Rattle.sk_def.specs.declared.ids.Var.{Var}
use Rattle.sk_def.specs.declared.bone.Target.{Target}
use Rattle.sk_def.specs.declared.filter.Filter.{Filter}
use Rattle.sk_filter.specs.Arguments.{Values}
use Rattle.sk_filter.specs.Results.{is_choice}
use Rattle.sk_deriv.specs.declared.call.Call.{Call}
use Rattle.sk_deriv.specs.declared.forest.Step.{Step}
use Rattle.sk_deriv.specs.Env.{gain, export, values_at, target_at}
use Rattle.sk_deriv.specs.Moves.{results_at}
use Rattle.sk_deriv.specs.Listing.{call_at}
use Rattle.sk_concrete.specs.declared.world.World.{World}
use Rattle.sk_concrete.specs.declared.world.Tree.{Tree}
use Rattle.sk_concrete.specs.declared.world.Answer.{Answer}

-- these steps, and then this one if it is one
abbrev pub and_then : List Step → Option Step → List Step
and_then steps None = steps
and_then steps (Some step) = steps ++ step ∷ []

-- the world after variables gained values, by this step if it takes one
abbrev pub world_after : Option Step → List Var → Values → World → World
world_after step outs values w = record { env = gain w.env outs values; steps = and_then w.steps step; origin = w.origin }

-- the world after the one result of a filter, and after each of its results by its pick, counted from k
abbrev pub the_one : List Var → World → List Values → List World
the_one outs w [] = []
the_one outs w (v ∷ []) = world_after None outs v w ∷ []
the_one outs w (v ∷ u ∷ vs) = []

abbrev pub picked : List Var → World → ℕ → List Values → List World
picked outs w k [] = []
picked outs w k (v ∷ vs) = world_after (Some (Step.Pick k)) outs v w ∷ picked outs w (suc k) vs

-- the worlds after a filter bone
abbrev pub filtered : ℕ → Filter → List Var → List Var → World → List World
filtered names filter args outs w =
    if is_choice filter then picked outs w 0 (results_at names w.env filter args) else the_one outs w (results_at names w.env filter args)

-- the worlds after each of these derivations, by it as a step
abbrev pub answered : List Var → World → List Tree → List World
answered outs w trees = map (λ (tree : Tree). world_after (Some (Step.Sub tree.root)) outs tree.outs w) trees

-- these worlds, and then those of the answer
abbrev pub after_worlds : List World → Result (List World × List Answer) Call → Result (List World × List Answer) Call
after_worlds ws (Ok p) = Ok (ws ++ p.0, p.1)
after_worlds ws (Err c) = Err c

module _ (point : ℕ) (hook : HookId) (target : Target) (args outs : List Var) where
  -- the call that a hook bone makes from a world
  abbrev pub call_from : World → Option Call
  call_from w = call_at hook (target_at point w.env target) (values_at w.env args)

  -- what a world's call gives by the next answer, and then the further worlds; or the call, where there is no answer to
  -- a call of its hook
  abbrev pub by_next_answer : List Answer → Option Call → World → (List Answer → Result (List World × List Answer) Call) →
      Result (List World × List Answer) Call
  by_next_answer handed None w further = further handed
  by_next_answer [] (Some c) w further = Err c
  by_next_answer (answer ∷ later) (Some c) w further =
      if answer.hook.0 == c.hook.0 then after_worlds (answered outs w answer.trees) (further later) else Err c

  -- the worlds after a hook bone, where the calls of the worlds are answered in order, with the answers that are left;
  -- or the first call beyond them
  abbrev pub answers_in_order : List Answer → List World → Result (List World × List Answer) Call
  answers_in_order handed [] = Ok ([], handed)
  answers_in_order handed (w ∷ ws) = by_next_answer handed (call_from w) w (λ later. answers_in_order later ws)

-- the worlds in which a branch is begun, from those from this place on
abbrev pub forked : ℕ → ℕ → List World → List World
forked branch place [] = []
forked branch place (w ∷ ws) = record { env = w.env; steps = Step.Pick branch ∷ []; origin = place } ∷ forked branch (suc place) ws

-- a world before a branch bone, with the steps of a branch and what its end exports
abbrev pub joined : List Var → World → World → World
joined exports w end = record { env = export w.env end.env exports; steps = w.steps ++ end.steps; origin = w.origin }

-- the worlds after those ends of a branch that were forked from the world at this place; and after those of all branches
abbrev pub joined_end : List Var → ℕ → World → List World → List World
joined_end exports place w [] = []
joined_end exports place w (end ∷ ends) =
    (if end.origin == place then joined exports w end ∷ [] else []) ++ joined_end exports place w ends

abbrev pub joined_ends : List Var → ℕ → World → List (List World) → List World
joined_ends exports place w ends = flat_map (joined_end exports place w) ends

-- the worlds after a branch bone, by those before it from this place on, and then by branch
abbrev pub merged : List Var → List (List World) → ℕ → List World → List World
merged exports ends place [] = []
merged exports ends place (w ∷ ws) = joined_ends exports place w ends ++ merged exports ends (suc place) ws
