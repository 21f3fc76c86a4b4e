-- A hook bone whose calls are answered in order.
use Rattle.std.proofs.Common.{◌≡◌, ℕ, ◌+◌, List, [], ◌∷◌, ◌++◌, map, length, Option, Some, None, Result, Ok, Err, refl, ap, ap₂, sym, subst, cond, ◌∙◌, arith, append-nil}
use Rattle.std.specs.List.{flat_map}
use Rattle.std.specs.Option.{option_to_list}
use Rattle.std.proofs.lemmas.List.{map-append}
use Rattle.std.proofs.lemmas.Bool.{eq-eqb}
use Rattle.sk_def.specs.declared.ids.HookId.{HookId}
use Rattle.sk_def.specs.declared.ids.Var.{Var}
use Rattle.sk_def.specs.declared.bone.Target.{Target}
use Rattle.sk_def.specs.declared.bone.Bone.{Bone}
use Rattle.sk_deriv.specs.declared.call.Call.{Call}
use Rattle.sk_deriv.specs.declared.forest.Node.{Node}
use Rattle.sk_deriv.specs.declared.forest.Step.{Step}
use Rattle.sk_deriv.specs.Tree.{Derivation}
use Rattle.sk_deriv.specs.Env.{values_at, target_at}
use Rattle.sk_deriv.specs.Listing.{call_at}
use Rattle.sk_concrete.specs.declared.world.World.{World}
use Rattle.sk_concrete.specs.declared.world.Tree.{Tree}
use Rattle.sk_concrete.specs.declared.world.Answer.{Answer}
use Rattle.sk_concrete.specs.Worlds.{answered, after_worlds, call_from, by_next_answer, answers_in_order}
use Rattle.sk_concrete.specs.Trees.{AreThere, Stand}
use Rattle.sk_concrete.specs.Calls.{Path, path_of, paths, along, spread_all, Agrees, IsNext}
use Rattle.sk_concrete.proofs.Paths.{after_tree, paths_answered}
use Rattle.sk_concrete.proofs.There.{one_step, there_join}

pub no_call_before : (c : Call) (cs : List Call) → IsNext (c ∷ cs) [] c
no_call_before c cs = record { before = []; after = cs; whole = refl; counted = refl }

pub next_after : (c d : Call) (cs : List Call) (answer : Answer) (later : List Answer) → IsNext cs later d → IsNext (c ∷ cs) (answer ∷ later) d
next_after c d cs answer later n = record { before = c ∷ n.before; after = n.after; whole = ap (λ (ds : List Call). c ∷ ds) n.whole; counted = omega (arith, n.counted) }

module _ (nodes : List Node) (known : Call → List Derivation) where
  -- these worlds have these paths, and the answers to these calls were taken
  pub record Took (handed left : List Answer) (ws vs : List World) (expected : List Path) (cs more : List Call) : Type 0 where
    pub paths_are : paths nodes vs ≡ expected
    pub agrees : Agrees nodes known left more
    pub counted : length handed ≡ length cs + length left
    pub there : AreThere (length nodes) ws → AreThere (length nodes) vs

  abbrev pub Takes : List Answer → List World → List Path → List Call → List Call → Result (List World × List Answer) Call → Type 0
  Takes handed ws expected cs more (Ok p) = Took handed p.1 ws p.0 expected cs more
  Takes handed ws expected cs more (Err c) = IsNext cs handed c

  there_answered : (outs : List Var) (w : World) (trees : List Tree) (ts : List Derivation) → Stand nodes trees ts → AreThere (length nodes) (w ∷ []) → AreThere (length nodes) (answered outs w trees)
  there_answered outs w [] ts h g = tt
  there_answered outs w (tree ∷ trees) [] h g = absurd h
  there_answered outs w (tree ∷ trees) (t ∷ ts) h g =
      (one_step (length nodes) w.steps (Step.Sub tree.root) g.0 h.0.0, there_answered outs w trees ts h.1 g)

  module _ (point : ℕ) (hook : HookId) (target : Target) (args outs : List Var) where
    abbrev pub path_calls : Path → List Call
    path_calls v = option_to_list (call_at hook (target_at point v.1.1 target) (values_at v.1.1 args))

    abbrev by_call : World → List Call → List Path
    by_call w cs = map (along (path_of nodes w)) (flat_map (λ c. flat_map (after_tree nodes outs w) (known c)) cs)

    by_one : (w : World) (c : Call) → map (along (path_of nodes w)) (flat_map (after_tree nodes outs w) (known c)) ≡ by_call w (c ∷ [])
    by_one w c = ap (map (along (path_of nodes w))) (sym (append-nil (flat_map (after_tree nodes outs w) (known c))))

    after_answer : (w : World) (ws : List World) (c : Call) (answer : Answer) (later : List Answer) (expected : List Path) (cs more : List Call) →
        Stand nodes answer.trees (known c) → (r : Result (List World × List Answer) Call) → Takes later ws expected cs more r →
        Takes (answer ∷ later) (w ∷ ws) (by_call w (c ∷ []) ++ expected) (c ∷ cs) more (after_worlds (answered outs w answer.trees) r)
    after_answer w ws c answer later expected cs more h (Ok p) k = record {
      paths_are = map-append (path_of nodes) (answered outs w answer.trees) p.0
          ∙ ap₂ (λ (a b : List Path). a ++ b) (paths_answered nodes outs w answer.trees (known c) h ∙ by_one w c) k.paths_are;
      agrees = k.agrees;
      counted = omega (arith, k.counted);
      there = λ g. there_join (length nodes) (answered outs w answer.trees) p.0 (there_answered outs w answer.trees (known c) h (g.0, tt)) (k.there g.1);
    }
    after_answer w ws c answer later expected cs more h (Err d) k = next_after c d cs answer later k

    by_next : (w : World) (ws : List World) (expected : List Path) (cs more : List Call) (further : List Answer → Result (List World × List Answer) Call) →
        ((later : List Answer) → Agrees nodes known later (cs ++ more) → Takes later ws expected cs more (further later)) →
        (o : Option Call) (handed : List Answer) → Agrees nodes known handed ((option_to_list o ++ cs) ++ more) →
        Takes handed (w ∷ ws) (by_call w (option_to_list o) ++ expected) (option_to_list o ++ cs) more (by_next_answer point hook target args outs handed o w further)
    by_next w ws expected cs more further k None handed a = skipped (further handed) (k handed a) where
      skipped : (r : Result (List World × List Answer) Call) → Takes handed ws expected cs more r → Takes handed (w ∷ ws) expected cs more r
      skipped (Ok p) t = record { paths_are = t.paths_are; agrees = t.agrees; counted = t.counted; there = λ g. t.there g.1 }
      skipped (Err d) t = t
    by_next w ws expected cs more further k (Some c) [] a = no_call_before c cs
    by_next w ws expected cs more further k (Some c) (answer ∷ later) a =
        subst (λ b. Takes (answer ∷ later) (w ∷ ws) (by_call w (c ∷ []) ++ expected) (c ∷ cs) more (cond b (after_worlds (answered outs w answer.trees) (further later)) (Err c)))
        (sym (eq-eqb answer.hook.0 c.hook.0 a.0.0)) (after_answer w ws c answer later expected cs more a.0.1 (further later) (k later a.1))

    -- the calls of the worlds are answered in order
    pub taken_in_order : (names : ℕ) (ws : List World) (handed : List Answer) (more : List Call) → Agrees nodes known handed (flat_map path_calls (paths nodes ws) ++ more) →
        Takes handed ws (spread_all names point known 1 (Bone.Call hook args target outs ∷ []) (paths nodes ws)) (flat_map path_calls (paths nodes ws)) more
        (answers_in_order point hook target args outs handed ws)
    taken_in_order names [] handed more a = record { paths_are = refl; agrees = a; counted = omega arith; there = λ g. tt }
    taken_in_order names (w ∷ ws) handed more a =
        by_next w ws (spread_all names point known 1 (Bone.Call hook args target outs ∷ []) (paths nodes ws)) (flat_map path_calls (paths nodes ws)) more
        (λ later. answers_in_order point hook target args outs later ws) (λ later b. taken_in_order names ws later more b)
        (call_from point hook target args outs w) handed a
