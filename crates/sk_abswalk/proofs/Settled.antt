-- Where a walk gets to an end, all its calls are answered; where it stops at a call, that one isn't.
use Rattle.std.proofs.Common.{◌≡◌, ℕ, zero, suc, List, [], ◌∷◌, ◌++◌, length, Option, Some, None, IsSome, refl}
use Rattle.std.specs.List.{AllByRecursion}
use Rattle.std.specs.Option.{option_map_or}
use Rattle.sk_def.specs.declared.bone.Bone.{Bone}
use Rattle.sk_def.specs.declared.def.Rule.{Rule}
use Rattle.sk_def.specs.Layout.{branch, branch_places, after_branches}
use Rattle.sk_term.specs.declared.node.TermNode.{TermNode}
use Rattle.sk_deriv.specs.Env.{args_at, values_at, target_at, gain, start_of}
use Rattle.sk_deriv.specs.Moves.{Setting}
use Rattle.sk_lattice.specs.Domain.{Domain}
use Rattle.sk_absfilter.specs.Abstract.{Outcome}
use Rattle.sk_table.specs.declared.triple.Cover.{Cover}
use Rattle.sk_abswalk.specs.Walk.{AbsEnv, Flows, argument_in, Ends, uncovered, ill, with, Walk, quiet, go_on, after, in_world, after_world, there, Answers, call_at, ask, filtered, walk_branches, join_exports, abstract_world, abstract_walk, rule_at, walk_of}

-- what the calls asked are to the end
abbrev pub Settles : {D X : Type 0} → Answers D → List (Cover D) → Ends D X → Type 0
Settles answers asked (uncovered c) = answers c ≡ None
Settles answers asked ill = Unit {0}
Settles answers asked (with o) = AllByRecursion (λ c. IsSome (answers c)) asked

all_append : {A : Type 0} (P : A → Type 0) (xs ys : List A) → AllByRecursion P xs → AllByRecursion P ys → AllByRecursion P (xs ++ ys)
all_append P [] ys h k = k
all_append P (x ∷ xs) ys h k = (h.0, all_append P xs ys h.1 k)

module _ (D : Type 0) (answers : Answers D) where
  abbrev Settled : {X : Type 0} → Walk D X → Type 0
  Settled w = Settles answers w.asked w.ends

  -- earlier calls that are answered
  later_settles : {X : Type 0} (asked more : List (Cover D)) (ends : Ends D X) → AllByRecursion (λ c. IsSome (answers c)) asked → Settles answers more ends → Settles answers (asked ++ more) ends
  later_settles asked more (uncovered c) h k = k
  later_settles asked more ill h k = tt
  later_settles asked more (with o) h k = all_append _ asked more h k

  go_on_settled : {X Y : Type 0} (asked : List (Cover D)) (ends : Ends D X) (next : Option X → Walk D Y) → Settles answers asked ends → ((o : Option X) → Settled (next o)) → Settled (go_on asked ends next)
  go_on_settled asked (uncovered c) next h step = h
  go_on_settled asked ill next h step = tt
  go_on_settled asked (with o) next h step = later_settles asked (next o).asked (next o).ends h (step o)

  after_settled : {X Y : Type 0} (w : Walk D X) (next : Option X → Walk D Y) → Settled w → ((o : Option X) → Settled (next o)) → Settled (after w next)
  after_settled w next h step = go_on_settled w.asked w.ends next h step

  in_world_settled : {X Y : Type 0} (next : X → Walk D Y) → ((x : X) → Settled (next x)) → (o : Option X) → Settled (in_world next o)
  in_world_settled next step None = tt
  in_world_settled next step (Some x) = step x

  world_settled : {X Y : Type 0} (w : Walk D X) (next : X → Walk D Y) → Settled w → ((x : X) → Settled (next x)) → Settled (after_world w next)
  world_settled w next h step = after_settled w (in_world next) h (in_world_settled next step)

  there_settled : {X : Type 0} (o : Option X) → Settled (quiet (there o))
  there_settled None = tt
  there_settled (Some x) = tt

  option_settled : {X Y : Type 0} (f : Y → Ends D X) → ((y : Y) → Settles answers [] (f y)) → (o : Option Y) → Settles answers [] (option_map_or f o ill)
  option_settled f step None = tt
  option_settled f step (Some y) = step y

  answer_settled : (c : Cover D) (o : Option (Outcome D)) → answers c ≡ o → Settles answers (c ∷ []) (option_map_or with o (uncovered c))
  answer_settled c None e = e
  answer_settled c (Some x) e = (cc, tt)

  ask_settled : (c : Option (Cover D)) → Settled (ask answers c)
  ask_settled None = tt
  ask_settled (Some c) = answer_settled c (answers c) refl

  exports_settled : (d : Domain D) (exports : _) (joined : Outcome D) (worlds : List (Option (AbsEnv D))) → Settles answers [] (join_exports d exports joined worlds)
  exports_settled d exports joined [] = tt
  exports_settled d exports joined (None ∷ worlds) = exports_settled d exports joined worlds
  exports_settled d exports joined (Some env ∷ worlds) = option_settled (λ more. join_exports d exports (Some more) worlds) (λ more. exports_settled d exports (Some more) worlds) _

  branches_settled : {X : Type 0} (walk : ℕ → Walk D X) → ((k : ℕ) → Settled (walk k)) → (ks : List ℕ) → Settled (walk_branches walk ks)
  branches_settled walk each [] = tt
  branches_settled walk each (k ∷ ks) = after_settled (walk k) _ (each k) (λ o. world_settled (walk_branches walk ks) (λ os. quiet (with (Some (o ∷ os)))) (branches_settled walk each ks) (λ os. tt))

  bones_settled : (d : Domain D) (names point bound : ℕ) (bones : List Bone) (env : AbsEnv D) → Settled (abstract_world d answers names point bound bones env)
  bones_settled d names point bound [] env = tt
  bones_settled d names point zero (bone ∷ bones) env = tt
  bones_settled d names point (suc bound) (Bone.Apply filter args outs ∷ bones) env =
      world_settled (quiet (filtered d filter names (args_at argument_in env args))) _ (option_settled _ (λ given. tt) (args_at argument_in env args)) (λ flows. bones_settled d names point bound bones (gain env outs flows))
  bones_settled d names point (suc bound) (Bone.Call hook args target outs ∷ bones) env =
      world_settled (ask answers (call_at hook (target_at point env target) (values_at env args))) _ (ask_settled (call_at hook (target_at point env target) (values_at env args))) (λ flows. bones_settled d names point bound bones (gain env outs flows))
  bones_settled d names point (suc bound) (Bone.Either counts exports ∷ bones) env =
      world_settled _ _ (branches_settled _ (λ k. bones_settled d names point bound (branch counts k bones) env) (branch_places 0 counts))
      (λ worlds. world_settled (quiet (join_exports d exports None worlds)) _ (exports_settled d exports None worlds) (λ flows. bones_settled d names point bound (after_branches counts bones) (gain env exports flows)))

  found_settled : (d : Domain D) (names point : ℕ) (ins : Flows D) (r : Option (TermNode × Rule)) → Settled (option_map_or (walk_of d answers names point ins) r (quiet ill))
  found_settled d names point ins None = tt
  found_settled d names point ins (Some r) =
      world_settled _ (λ env. quiet (there (values_at env r.1.outputs))) (bones_settled d names point (length r.1.bones) r.1.bones (start_of r.1 r.0 ins)) (λ env. there_settled (values_at env r.1.outputs))

  pub walk_settled : (d : Domain D) (s : Setting) (c : Cover D) → Settles answers (abstract_walk d answers s c).asked (abstract_walk d answers s c).ends
  walk_settled d s c = found_settled d s.names c.point c.ins (rule_at s c.hook c.point)
