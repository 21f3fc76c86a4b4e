-- A bound of at least the number of bones does not matter.
use Rattle.std.proofs.Common.{◌≡◌, ℕ, zero, suc, ◌≤◌, List, [], ◌∷◌, length, take, drop, sum, None, refl, arith, length-take, length-drop}
use Rattle.std.specs.Prelude.{slice_index}
use Rattle.sk_def.specs.declared.bone.Bone.{Bone}
use Rattle.sk_def.specs.Layout.{branch, branch_places, after_branches}
use Rattle.sk_deriv.specs.Env.{args_at, values_at, target_at, gain}
use Rattle.sk_lattice.specs.Domain.{Domain}
use Rattle.sk_abswalk.specs.Walk.{AbsEnv, argument_in, quiet, after_world, Answers, call_at, ask, filtered, walk_branches, join_exports, abstract_world}
use Rattle.sk_abswalk.specs.Order.{BoundsDoNotMatter}

pub branch_short : (counts : List ℕ) (k : ℕ) (bones : List Bone) → length (branch counts k bones) ≤ length bones
branch_short counts k bones = omega (arith, length-take (slice_index counts k) (drop (sum (take k counts)) bones), length-drop (sum (take k counts)) bones)

pub after_short : (counts : List ℕ) (bones : List Bone) → length (after_branches counts bones) ≤ length bones
after_short counts bones = omega (arith, length-drop (sum counts) bones)

module _ (D : Type 0) (d : Domain D) (answers : Answers D) (names point : ℕ) where
  enough : (n m : ℕ) (bones : List Bone) → length bones ≤ n → length bones ≤ m → (env : AbsEnv D) → abstract_world d answers names point n bones env ≡ abstract_world d answers names point m bones env
  enough n m [] h k env = refl
  enough zero m (bone ∷ bones) h k env = absurd (omega arith)
  enough (suc n) zero (bone ∷ bones) h k env = absurd (omega arith)
  enough (suc n) (suc m) (Bone.Apply filter args outs ∷ bones) h k env =
      λ i. after_world (quiet (filtered d filter names (args_at argument_in env args))) (λ flows. enough n m bones (omega arith) (omega arith) (gain env outs flows) i)
  enough (suc n) (suc m) (Bone.Call hook args target outs ∷ bones) h k env =
      λ i. after_world (ask answers (call_at hook (target_at point env target) (values_at env args))) (λ flows. enough n m bones (omega arith) (omega arith) (gain env outs flows) i)
  enough (suc n) (suc m) (Bone.Either counts exports ∷ bones) h k env =
      λ i. after_world
      (walk_branches (λ b. enough n m (branch counts b bones) (omega (arith, branch_short counts b bones)) (omega (arith, branch_short counts b bones)) env i) (branch_places 0 counts))
      (λ worlds. after_world (quiet (join_exports d exports None worlds)) (λ flows. enough n m (after_branches counts bones) (omega (arith, after_short counts bones)) (omega (arith, after_short counts bones)) (gain env exports flows) i))

pub bounds_do_not_matter : (D : Type 0) (d : Domain D) → BoundsDoNotMatter d
bounds_do_not_matter D d answers names point bound bones env h = enough D d answers names point bound (length bones) bones h (omega arith) env
