use Rattle.std.proofs.Common.{rules, ℕ, ◌∷◌, ◌∙◌, ap, sym, arith, take, drop, List, refl}
use Rattle.std.proofs.Math.ListN.{drop_of_length-le}
use Rattle.std.proofs.lemmas.Bool.{false≢true}
use Rattle.sk_def.specs.declared.bone.Bone.{Bone}
use Rattle.sk_def.specs.declared.bone.Bone.TheVariants.{Either}
use Rattle.sk_def.specs.Layout.{no_branch}
use Rattle.sk_def.proofs.Layouts.{nothing_fits, filter_fits, hook_fits, either_fits, branch_fails, branch_fits, sums_on}
use Rattle.sk_def.proofs.layout.+layout.Goals as goal

pub bones_fit-returns-in_default : goal.bones_fit-returns-in_default
bones_fit-returns-in_default t c = ((λ h. nothing_fits c.args.nesting c.args.bones.now c.in_default.ensures.cases), (λ f. search rules))

pub bones_fit-returns-then-branches_fit : goal.bones_fit-returns-then-branches_fit
bones_fit-returns-then-branches_fit t c =
    let counted = c.in-Some-total_within.ensures in
    let e = c.in-Some.ensures.cases.0 ∙ ap (λ (b : Bone). b ∷ c.in-Some.rest.now)
    (c.in-Either.is ∙ ap (λ (counts : List ℕ). Either counts c.in-Either.exports) (sym c.as_slice-counts.ensures)) in
    either_fits c.bones_fit-then-branches_fit.result c.args.nesting c.args.bones.now c.in-Some.rest.now c.split_at.result.0.now c.split_at.result.1.now
    c.as_slice-counts.result.now c.in-Either.exports e (omega (arith, c.if-nesting-eq0.false)) (omega (arith, c.if-counts-lt2.false))
    (omega (arith, counted.0, counted.1)) (rw c.as_slice-else-counts-lt2.ensures at (c.if-not-are_below-5.ensures.0 refl))
    (c.split_at.ensures.front ∙ ap (λ (n : ℕ). take n c.in-Some.rest.now) counted.0)
    (c.split_at.ensures.back ∙ ap (λ (n : ℕ). drop n c.in-Some.rest.now) counted.0)
    (c.if-branches_fit.ensures.0 refl) c.bones_fit-then-branches_fit.ensures

pub branches_fit-returns-then-not-bones_fit : goal.branches_fit-returns-then-not-bones_fit
branches_fit-returns-then-not-bones_fit t c = (
  (λ h. absurd (false≢true h)),
  (λ f. absurd (branch_fails c.args.nesting c.from.result c.loop-count.count-index c.args.counts.now c.args.bones.now c.loop-count.left.now
      c.loop-count-test.true c.from.ensures c.loop-count.invariant.0
      (λ g. false≢true (c.if-not-bones_fit.ensures.1 (rw c.split_at.ensures.front g))) f)),
)

pub branches_fit-loop-count-preserved : goal.branches_fit-loop-count-preserved
branches_fit-loop-count-preserved t c =
    let here = rw c.split_at.ensures.front at (c.if-not-bones_fit.ensures.0 refl) in
    let sums = sums_on {hooks = c.args.hooks} {vars = c.args.vars} c.args.nesting c.from.result c.loop-count.count-index c.args.counts.now c.args.bones.now c.loop-count.left.now
    c.loop-count-test.true c.from.ensures c.loop-count.invariant.0 c.loop-count.invariant.1 in (
      rw c.split_at.ensures.back (branch_fits c.args.nesting c.from.result c.loop-count.count-index c.args.counts.now c.args.bones.now c.loop-count.left.now
          c.loop-count-test.true c.from.ensures c.loop-count.invariant.0 here),
      rw c.split_at.ensures.back sums.1,
      omega (arith, c.split_at.ensures.back_len, c.loop-count.invariant.2),
    )

pub branches_fit-returns : goal.branches_fit-returns
branches_fit-returns t c =
    let none = drop_of_length-le c.args.counts.now c.loop-count-test.false in
    ((λ h. c.loop-count.invariant.0.0 (rw none no_branch)), (λ f. refl))

pub bones_fit-returns-else-not-are_below-2 : goal.bones_fit-returns-else-not-are_below-2
bones_fit-returns-else-not-are_below-2 t c =
    let e = c.in-Some.ensures.cases.0 ∙ ap (λ (b : Bone). b ∷ c.in-Some.rest.now) c.in-Apply.is in
    filter_fits c.bones_fit.result c.args.nesting c.args.bones.now c.in-Some.rest.now c.in-Apply.filter c.in-Apply.args c.in-Apply.outs e
    (rw c.as_slice.ensures at (c.if-not-are_below.ensures.0 refl)) (rw c.as_slice-else-not-are_below.ensures at (c.if-not-are_below-2.ensures.0 refl)) c.bones_fit.ensures

pub bones_fit-returns-else-not-are_below-4 : goal.bones_fit-returns-else-not-are_below-4
bones_fit-returns-else-not-are_below-4 t c =
    let e = c.in-Some.ensures.cases.0 ∙ ap (λ (b : Bone). b ∷ c.in-Some.rest.now) c.in-Call.is in
    hook_fits c.bones_fit-in-Call.result c.args.nesting c.args.bones.now c.in-Some.rest.now c.in-Call.hook c.in-Call.args c.in-Call.target c.in-Call.outs e
    (omega (arith, c.from.ensures, c.if-from-hooks.false)) (rw c.as_slice-in-Call.ensures at (c.if-not-are_below-3.ensures.0 refl))
    (c.if-not-target_is_below.ensures.0 refl) (rw c.as_slice-else-not-are_below-3.ensures at (c.if-not-are_below-4.ensures.0 refl)) c.bones_fit-in-Call.ensures
