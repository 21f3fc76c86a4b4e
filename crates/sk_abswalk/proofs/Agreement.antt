-- Answers that agree on the calls that a walk asks give the same walk.
use Rattle.std.proofs.Common.{◌≡◌, ℕ, zero, suc, List, [], ◌∷◌, ◌++◌, length, Option, Some, None, refl, ◌∙◌, ap}
use Rattle.std.specs.List.{AllByRecursion}
use Rattle.std.specs.Option.{option_map_or}
use Rattle.sk_def.specs.declared.bone.Bone.{Bone}
use Rattle.sk_def.specs.declared.def.Rule.{Rule}
use Rattle.sk_def.specs.Layout.{branch, branch_places, after_branches}
use Rattle.sk_term.specs.declared.node.TermNode.{TermNode}
use Rattle.sk_deriv.specs.Env.{args_at, values_at, target_at, gain, start_of}
use Rattle.sk_lattice.specs.Domain.{Domain}
use Rattle.sk_absfilter.specs.Abstract.{Outcome}
use Rattle.sk_table.specs.declared.triple.Cover.{Cover}
use Rattle.sk_abswalk.specs.Walk.{AbsEnv, Flows, argument_in, Ends, uncovered, ill, with, Walk, quiet, go_on, after, in_world, after_world, there, Answers, call_at, ask, filtered, walk_branches, join_exports, abstract_world, rule_at, walk_of}
use Rattle.sk_abswalk.specs.Order.{WalksAgree}
use Rattle.sk_abswalk.proofs.Relations.{each_split}

module _ (D : Type 0) (d : Domain D) (answers other : Answers D) where
  abbrev Agree : List (Cover D) → Type 0
  Agree = AllByRecursion (λ e. other e ≡ answers e)

  abbrev Same : {X : Type 0} → Walk D X → Walk D X → Type 0
  Same v w = Agree w.asked → v ≡ w

  go_on_same : {X Y : Type 0} (asked : List (Cover D)) (ends : Ends D X) (more next : Option X → Walk D Y) → ((o : Option X) → Same (more o) (next o)) → Agree (go_on asked ends next).asked → Agree asked × (go_on asked ends more ≡ go_on asked ends next)
  go_on_same asked (uncovered c) more next step h = (h, refl)
  go_on_same asked ill more next step h = (h, refl)
  go_on_same {X} {Y} asked (with o) more next step h =
      let p = each_split (λ e. other e ≡ answers e) asked (next o).asked h in
      let glue : Walk D Y → Walk D Y = λ w. record { asked = asked ++ w.asked; ends = w.ends } in
      (p.0, ap glue (step o p.1))

  after_same : {X Y : Type 0} (v w : Walk D X) (more next : Option X → Walk D Y) → Same v w → ((o : Option X) → Same (more o) (next o)) → Same (after v more) (after w next)
  after_same v w more next first step h =
      let g = go_on_same w.asked w.ends more next step h in
      ap (λ x. after x more) (first g.0) ∙ g.1

  world_step : {X Y : Type 0} (more next : X → Walk D Y) → ((x : X) → Same (more x) (next x)) → (o : Option X) → Same (in_world more o) (in_world next o)
  world_step more next step None h = refl
  world_step more next step (Some x) h = step x h

  after_world_same : {X Y : Type 0} (v w : Walk D X) (more next : X → Walk D Y) → Same v w → ((x : X) → Same (more x) (next x)) → Same (after_world v more) (after_world w next)
  after_world_same v w more next first step = after_same v w _ _ first (world_step more next step)

  ask_same : (c : Option (Cover D)) → Same (ask other c) (ask answers c)
  ask_same None h = refl
  ask_same (Some c) h = let asked : Option (Outcome D) → Walk D (Flows D) = λ o. record { asked = c ∷ []; ends = option_map_or with o (uncovered c) } in ap asked h.0

  branches_same : {X : Type 0} (v w : ℕ → Walk D X) → ((k : ℕ) → Same (v k) (w k)) → (ks : List ℕ) → Same (walk_branches v ks) (walk_branches w ks)
  branches_same v w each [] = λ _. refl
  branches_same v w each (k ∷ ks) =
      after_same (v k) (w k) _ _ (each k) (λ o. after_world_same (walk_branches v ks) (walk_branches w ks) (λ os. quiet (with (Some (o ∷ os)))) (λ os. quiet (with (Some (o ∷ os)))) (branches_same v w each ks) (λ os _. refl))

  bones_same : (names point bound : ℕ) (bones : List Bone) (env : AbsEnv D) → Same (abstract_world d other names point bound bones env) (abstract_world d answers names point bound bones env)
  bones_same names point bound [] env = λ _. refl
  bones_same names point zero (bone ∷ bones) env = λ _. refl
  bones_same names point (suc bound) (Bone.Apply filter args outs ∷ bones) env =
      let first : Walk D (Flows D) = quiet (filtered d filter names (args_at argument_in env args)) in
      after_world_same first first _ _ (λ _. refl) (λ flows. bones_same names point bound bones (gain env outs flows))
  bones_same names point (suc bound) (Bone.Call hook args target outs ∷ bones) env =
      after_world_same _ _ _ _ (ask_same (call_at hook (target_at point env target) (values_at env args))) (λ flows. bones_same names point bound bones (gain env outs flows))
  bones_same names point (suc bound) (Bone.Either counts exports ∷ bones) env =
      let here : List (Option (AbsEnv D)) → Walk D (Flows D) = λ worlds. quiet (join_exports d exports None worlds) in
      after_world_same _ _ _ _ (branches_same _ _ (λ k. bones_same names point bound (branch counts k bones) env) (branch_places 0 counts))
      (λ worlds. after_world_same (here worlds) (here worlds) _ _ (λ _. refl) (λ flows. bones_same names point bound (after_branches counts bones) (gain env exports flows)))

  rule_same : (names point : ℕ) (ins : Flows D) (r : TermNode × Rule) → Same (walk_of d other names point ins r) (walk_of d answers names point ins r)
  rule_same names point ins r =
      after_world_same _ _ (λ env. quiet (there (values_at env r.1.outputs))) _ (bones_same names point (length r.1.bones) r.1.bones (start_of r.1 r.0 ins)) (λ env _. refl)

  found_same : (names point : ℕ) (ins : Flows D) (r : Option (TermNode × Rule)) →
      Same (option_map_or (walk_of d other names point ins) r (quiet ill)) (option_map_or (walk_of d answers names point ins) r (quiet ill))
  found_same names point ins None = λ _. refl
  found_same names point ins (Some r) = rule_same names point ins r

pub walks_agree : (D : Type 0) (d : Domain D) → WalksAgree d
walks_agree D d s answers other c = found_same D d answers other s.names c.point c.ins (rule_at s c.hook c.point)
