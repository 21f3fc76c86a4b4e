use Rattle.std.proofs.Common.{rules, ◌≡◌, ◌+◌, ◌≤◌, ℕ, List, length, ◌∙◌, ap, arith, sym}
use Rattle.std.proofs.Math.ListN.{drop_of_length-le}
use Rattle.sk_def.specs.declared.bone.Bone.TheVariants.{Either}
use Rattle.sk_walk.proofs.Checks.{no_sorts}
use Rattle.sk_walk.proofs.Bones.{filter_passes, hook_passes, branches_walkable, branch_bone_fits, merge_passes, empty_walk, filter_walked, hook_walked, merge_walked, filter_stopped, hook_stopped, branches_stopped, merge_stopped}
use Rattle.sk_walk.proofs.Branches.{left_short, stopped_at_fork, branch_walkable, stopped_in_branch, one_branch_more, all_branches, all_sorts}
use Rattle.sk_walk.proofs.walker.+walker.Goals as goal

-- A list of bones.

pub walk_bones-returns-in_default-clause-answers : goal.walk_bones-returns-in_default-clause-answers
walk_bones-returns-in_default-clause-answers g t c = empty_walk _ _ _ _ _ c.in_default.ensures.cases

pub walk_bones-returns-in_default-clause-sorts_after : goal.walk_bones-returns-in_default-clause-sorts_after
walk_bones-returns-in_default-clause-sorts_after g t c = no_sorts _ _ _ _ c.in_default.ensures.cases

-- A filter bone.

pub walk_bone-filter-requires-clause-passes : goal.walk_bone-filter-requires-clause-passes
walk_bone-filter-requires-clause-passes g t c = filter_passes c.in-Apply.is c.requires.walkable

pub walk_bone-returns-in-Ok-clause-goes : goal.walk_bone-returns-in-Ok-clause-goes
walk_bone-returns-in-Ok-clause-goes g t c =
    filter_walked _ _ _ c.in-Apply.is c.in-Ok.ensures.gives c.in-Ok.ensures.sorts_after c.requires.walkable

pub walk_bone-returns-in-Err-clause-stops : goal.walk_bone-returns-in-Err-clause-stops
walk_bone-returns-in-Err-clause-stops g t c = filter_stopped _ _ _ _ c.in-Apply.is c.in-Err.ensures.gives

-- A hook bone.

pub walk_bone-hook-requires-clause-passes : goal.walk_bone-hook-requires-clause-passes
walk_bone-hook-requires-clause-passes g t c = hook_passes c.in-Call.is c.requires.walkable

pub walk_bone-returns-in-Ok-hook-clause-goes : goal.walk_bone-returns-in-Ok-hook-clause-goes
walk_bone-returns-in-Ok-hook-clause-goes g t c =
    hook_walked _ _ _ c.in-Call.is c.in-Ok-hook.ensures.gives c.in-Ok-hook.ensures.sorts_after c.requires.walkable

pub walk_bone-returns-in-Err-hook-clause-stops : goal.walk_bone-returns-in-Err-hook-clause-stops
walk_bone-returns-in-Err-hook-clause-stops g t c = hook_stopped _ _ _ _ c.in-Call.is c.in-Err-hook.ensures.gives

-- A branch bone.

pub walk_bone-walk_branches-requires : goal.walk_bone-walk_branches-requires
walk_bone-walk_branches-requires g t c κs within =
    let e = c.in-Either.is ∙ ap (λ (counts : List ℕ). Either counts c.in-Either.exports) (sym c.as_slice-counts.ensures) in
    let walkable = branches_walkable e c.requires.walkable in
    search (rules, walkable)

pub walk_bone-returns-in-Err-walk_branches-clause-stops : goal.walk_bone-returns-in-Err-walk_branches-clause-stops
walk_bone-returns-in-Err-walk_branches-clause-stops g t c =
    let e = c.in-Either.is ∙ ap (λ (counts : List ℕ). Either counts c.in-Either.exports) (sym c.as_slice-counts.ensures) in
    branches_stopped _ _ _ _ _ _ _ c.in-Err-walk_branches.stop e c.in-Err-walk_branches.ensures.stop

pub walk_bone-merge-requires-clause-some_end : goal.walk_bone-merge-requires-clause-some_end
walk_bone-merge-requires-clause-some_end g t c =
    let e = c.in-Either.is ∙ ap (λ (counts : List ℕ). Either counts c.in-Either.exports) (sym c.as_slice-counts.ensures) in
    omega (arith, (branch_bone_fits e c.requires.walkable).two, c.in-Ok-walk_branches.ensures.one_each)

pub walk_bone-merge-requires-clause-exports_below : goal.walk_bone-merge-requires-clause-exports_below
walk_bone-merge-requires-clause-exports_below g t c =
    let e = c.in-Either.is ∙ ap (λ (counts : List ℕ). Either counts c.in-Either.exports) (sym c.as_slice-counts.ensures) in
    (branch_bone_fits e c.requires.walkable).exports_below

pub walk_bone-merge-requires-clause-passes : goal.walk_bone-merge-requires-clause-passes
walk_bone-merge-requires-clause-passes g t c =
    let e = c.in-Either.is ∙ ap (λ (counts : List ℕ). Either counts c.in-Either.exports) (sym c.as_slice-counts.ensures) in
    merge_passes _ _ e c.in-Ok-walk_branches.ensures.same_reading c.in-Ok-walk_branches.ensures.sorts_after c.requires.walkable

pub walk_bone-returns-in-Ok-merge-clause-goes : goal.walk_bone-returns-in-Ok-merge-clause-goes
walk_bone-returns-in-Ok-merge-clause-goes g t c =
    let e = c.in-Either.is ∙ ap (λ (counts : List ℕ). Either counts c.in-Either.exports) (sym c.as_slice-counts.ensures) in
    merge_walked _ _ _ e c.in-Ok-walk_branches.ensures.ends c.in-Ok-merge.ensures.gives c.in-Ok-walk_branches.ensures.sorts_after
    c.in-Ok-merge.ensures.sorts_after c.requires.walkable

pub walk_bone-returns-in-Err-merge-clause-stops : goal.walk_bone-returns-in-Err-merge-clause-stops
walk_bone-returns-in-Err-merge-clause-stops g t c =
    let e = c.in-Either.is ∙ ap (λ (counts : List ℕ). Either counts c.in-Either.exports) (sym c.as_slice-counts.ensures) in
    merge_stopped _ _ _ _ e c.in-Ok-walk_branches.ensures.ends c.in-Err-merge.ensures.gives

-- The branches of a branch bone.

pub walk_branches-returns-in-Err-clause-stop : goal.walk_branches-returns-in-Err-clause-stop
walk_branches-returns-in-Err-clause-stop g t c =
    stopped_at_fork _ _ _ c.loop-place-test.true c.loop-place.invariant _ _ c.in-Err.ensures.gives

pub walk_branches-walk_bones-requires : goal.walk_branches-walk_bones-requires
walk_branches-walk_bones-requires g t c κs within =
    let walkable = branch_walkable _ _ _ c.loop-place-test.true c.loop-place.invariant _ c.from.ensures _ c.split_at.ensures.front _ _
    c.in-Ok.ensures.same_reading c.in-Ok.ensures.sorts_after in
    let short : length c.split_at.result.0.now ≤ length c.args.bones.now =
    omega (arith, c.split_at.ensures.front_len, left_short _ _ _ c.loop-place-test.true c.loop-place.invariant) in
    search (rules, walkable)

pub walk_branches-returns-in-Err-walk_bones-clause-stop : goal.walk_branches-returns-in-Err-walk_bones-clause-stop
walk_branches-returns-in-Err-walk_bones-clause-stop g t c =
    stopped_in_branch _ _ _ c.loop-place-test.true c.loop-place.invariant _ c.from.ensures _ c.split_at.ensures.front _ _ _
    c.in-Ok.ensures.gives c.in-Err-walk_bones.stop c.in-Err-walk_bones.ensures.answers

pub walk_branches-loop-place-preserved : goal.walk_branches-loop-place-preserved
walk_branches-loop-place-preserved g t c =
    let next : c.loop-place.first + c.from-first.result ≡ c.loop-place.first + c.from.result =
    ap (λ (n : ℕ). c.loop-place.first + n) (c.from-first.ensures ∙ sym c.from.ensures) in
    one_branch_more _ _ _ c.loop-place-test.true c.loop-place.invariant _ c.from.ensures _ c.split_at.ensures.front _ _ _ _ _ _ _
    next c.split_at.ensures.back c.in-Ok-push.ensures.items
    c.in-Ok.ensures.gives c.in-Ok.ensures.same_reading c.in-Ok.ensures.sorts_after
    c.in-Ok-walk_bones.ensures.answers c.walk_bones.ensures.same_reading c.in-Ok-walk_bones.ensures.sorts_after

pub walk_branches-returns-clause-ends : goal.walk_branches-returns-clause-ends
walk_branches-returns-clause-ends g t c =
    let none = drop_of_length-le c.args.counts.now c.loop-place-test.false in
    all_branches _ _ _ none c.loop-place.invariant

pub walk_branches-returns-clause-sorts_after : goal.walk_branches-returns-clause-sorts_after
walk_branches-returns-clause-sorts_after g t c =
    let none = drop_of_length-le c.args.counts.now c.loop-place-test.false in
    all_sorts _ _ _ none c.loop-place.invariant
