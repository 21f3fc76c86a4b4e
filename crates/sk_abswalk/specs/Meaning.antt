-- The abstract interpretation of bones, as the walker runs it.
use Rattle.std.specs.Prelude.{◌≡◌, ℕ, ◌≤◌, List, [], ◌++◌, map, length, Option, Some, None, Result, Ok, Err}
use Rattle.std.specs.Option.{option_map}
use Rattle.sk_def.specs.declared.ids.Var.{Var}
use Rattle.sk_def.specs.declared.bone.Bone.{Bone}
use Rattle.sk_walk.specs.Walks.{Meaning, Walks}
use Rattle.sk_deriv.specs.Env.{args_at, values_at, target_at, gain}
use Rattle.sk_lattice.specs.Domain.{Domain}
use Rattle.sk_table.specs.declared.triple.Cover.{Cover}
use Rattle.sk_abswalk.specs.Walk.{AbsEnv, Flows, argument_in, Ends, uncovered, ill, with, Walk, quiet, after_world, in_world, Answers, call_at, ask, filtered, join_exports, abstract_world}

-- what a walk reads: the answers to its calls, the number of names, and the point of its rule
pub record Reads (D : Type 0) : Type 0 where
  pub answers : Answers D
  pub names : ℕ
  pub point : ℕ

-- how an interpretation's states tell what is read, and take up the calls that are asked
pub record Reader (S D : Type 0) : Type 0 where
  pub reads : S → Reads D
  pub add : S → List (Cover D) → S
  pub add_nothing : (s : S) → add s [] ≡ s
  pub add_more : (s : S) (asked later : List (Cover D)) → add (add s asked) later ≡ add s (asked ++ later)
  pub stays : (s : S) (asked : List (Cover D)) → reads (add s asked) ≡ reads s

-- A walk leads from one state to another and ends so. Want of memory, which is no end, says nothing.
abbrev pub Does : {S D X : Type 0} → Reader S D → S → Walk D X → S → Option (Ends D X) → Type 0
Does r s w t (Some ends) = (t ≡ r.add s w.asked) × (w.ends ≡ ends)
Does r s w t None = Unit {0}

-- a stop at an uncovered call, or at a bone that doesn't fit
abbrev pub stopped : {D X : Type 0} → Option (Cover D) → Ends D X
stopped (Some c) = uncovered c
stopped None = ill

-- the environment that has gained what a walk ends with
abbrev pub gaining : {D : Type 0} → AbsEnv D → List Var → Walk D (Flows D) → Walk D (AbsEnv D)
gaining env vars w = after_world w (λ flows. quiet (with (Some (gain env vars flows))))

-- the walk of bones as these states read them
abbrev pub bones_walk : {D : Type 0} → Domain D → Reads D → ℕ → List Bone → AbsEnv D → Walk D (AbsEnv D)
bones_walk d p = abstract_world d p.answers p.names p.point

module _ {S W X D : Type 0} (r : Reader S D) (world : W → Option (AbsEnv D)) (stop : X → Option (Option (Cover D))) where
  -- an answer, seen as a walk's end
  abbrev pub seen : Result W X → Option (Ends D (AbsEnv D))
  seen (Ok w) = Some (with (world w))
  seen (Err x) = option_map stopped (stop x)

  -- each bone is walked from the world before it
  abbrev pub abstract_meaning : Domain D → Meaning S W X
  abstract_meaning d = record {
    filter = λ s n filter args outs w t answer.
        Does r s (in_world (λ env. gaining env outs (quiet (filtered d filter (r.reads s).names (args_at argument_in env args)))) (world w)) t (seen answer);
    hook = λ s n hook target args outs w t answer.
        Does r s (in_world (λ env. gaining env outs (ask (r.reads s).answers (call_at hook (target_at (r.reads s).point env target) (values_at env args)))) (world w)) t (seen answer);
    fork = λ s n place w t answer. Does r s (quiet (with (world w))) t (seen answer);
    merge = λ s n exports w ends t answer.
        Does r s (in_world (λ env. gaining env exports (quiet (join_exports d exports None (map world ends)))) (world w)) t (seen answer);
  }

  -- the law of the walker: what it walks by the abstract interpretation is the abstract walk
  abbrev pub WalkerWalks : Domain D → Type 0
  WalkerWalks d =
      (first bound : ℕ) (bones : List Bone) (s t : S) (w : W) (answer : Result W X) →
      length bones ≤ bound → Walks (abstract_meaning d) first bones s w t answer →
      Does r s (in_world (bones_walk d (r.reads s) bound bones) (world w)) t (seen answer)
