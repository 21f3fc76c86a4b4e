use Rattle.std.proofs.Common.{ap, ◌++◌}
use Rattle.std.proofs.lemmas.Option.{slice_get-get_or}
use Rattle.sk_lattice.specs.Thresholds.{near_all}
use Rattle.sk_lattice.proofs.Pushes.{near_turn, near_end}
use Rattle.sk_lattice.proofs.thresholds.unsorted_marks.Goals as goal

pub loop-literal-init : goal.loop-literal-init
loop-literal-init c = ap (λ xs. xs ++ near_all c.args.literals.now) c.in_ok-marks.ensures

pub loop-literal-preserved : goal.loop-literal-preserved
loop-literal-preserved c = near_turn c.args.literals.now _ _ c.loop-literal.literal-index _ c.loop-literal.invariant c.in_ok-push_near.ensures (slice_get-get_or _ _ _ c.loop-literal-test.true)

pub returns : goal.returns
returns c = near_end c.args.literals.now _ c.loop-literal.literal-index c.loop-literal.invariant c.loop-literal-test.false
