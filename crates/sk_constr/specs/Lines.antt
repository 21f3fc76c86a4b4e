-- The lines of a rule, read off the places of its bones.
use Rattle.std.specs.Prelude.{ℕ, zero, suc, ◌+◌, List, [], ◌∷◌, ◌++◌, sum}
use Rattle.std.specs.List.{flat_map}
use Rattle.std.specs.Option.{option_map_or}
use Rattle.sk_def.specs.declared.ids.Var.{Var}
use Rattle.sk_def.specs.declared.bone.Bone.{Bone}
use Rattle.sk_def.specs.declared.bone.Bone.TheVariants.{Apply, Call, Either}
use Rattle.sk_def.specs.Layout.{branch, branch_places, first_of_branch, after_branches, inner_count, after_bone}
use Rattle.sk_deriv.specs.Env.{target_at, gain}
use Rattle.sk_constr.specs.declared.line.Part.{Part}
use Rattle.sk_constr.specs.declared.line.Line.{Line}
use Rattle.sk_constr.specs.Operands.{PlaceEnv, places, operands_at}

-- the variables that a bone defines
abbrev pub defined_by : Bone → List Var
defined_by (Apply filter args outs) = outs
defined_by (Call hook args target outs) = outs
defined_by (Either counts exports) = exports

-- the environment after a bone of this number: what it defines stands at its own position
abbrev pub env_after_bone : ℕ → PlaceEnv → Bone → PlaceEnv
env_after_bone number env bone = gain env (defined_by bone) (places number (defined_by bone))

-- the environment after a list of at most `size` bones, the first of which has this number
abbrev pub env_after : ℕ → ℕ → PlaceEnv → List Bone → PlaceEnv
env_after size first env [] = env
env_after zero first env (bone ∷ bones) = env
env_after (suc size) first env (bone ∷ bones) =
    env_after size (first + 1 + inner_count bone) (env_after_bone first env bone) (after_bone bone bones)

-- the position of the last bone of such a list, or the one before the list where it has none
abbrev pub last_position : ℕ → ℕ → ℕ → List Bone → ℕ
last_position size first before [] = before
last_position zero first before (bone ∷ bones) = before
last_position (suc size) first before (bone ∷ bones) = last_position size (first + 1 + inner_count bone) first (after_bone bone bones)

abbrev pub line_at : ℕ → Part → Line
line_at from part = record { from = from; part = part }

-- The lines of a list of at most `size` bones in a rule at this point: one for each filter and hook bone, from the
-- position before it, and those of each branch with one for its end. A bone of a list stands after the bone before it in
-- the same list; the first of a branch stands where the branch bone does.
abbrev pub lines_of : (point size first from : ℕ) → PlaceEnv → List Bone → List Line
lines_of point size first from env [] = []
lines_of point zero first from env (bone ∷ bones) = []
lines_of point (suc size) first from env (Apply filter args outs ∷ bones) =
    line_at from (Part.Filter first filter (operands_at env args))
    ∷ lines_of point size (first + 1) first (env_after_bone first env (Apply filter args outs)) bones
lines_of point (suc size) first from env (Call hook args target outs ∷ bones) =
    option_map_or (λ at. line_at from (Part.Call first hook at (operands_at env args)) ∷ []) (target_at point env target) []
    ++ lines_of point size (first + 1) first (env_after_bone first env (Call hook args target outs)) bones
lines_of point (suc size) first from env (Either counts exports ∷ bones) =
    flat_map (λ k.
    lines_of point size (first_of_branch first counts k) from env (branch counts k bones)
    ++ line_at (last_position size (first_of_branch first counts k) from (branch counts k bones))
    (Part.Join first (operands_at (env_after size (first_of_branch first counts k) env (branch counts k bones)) exports)) ∷ [])
    (branch_places 0 counts)
    ++ lines_of point size (first + 1 + sum counts) first (env_after_bone first env (Either counts exports)) (after_branches counts bones)
