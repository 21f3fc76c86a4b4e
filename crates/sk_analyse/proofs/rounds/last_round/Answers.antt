use Rattle.std.proofs.Common.{rules, ◌≤◌, ◌+◌, arith}
use Rattle.std.proofs.lemmas.Bool.{MatchBool-at_true, MatchBool-at_false}
use Rattle.sk_rounds.specs.Rounds.{round_bound}
use Rattle.sk_analyse.specs.Tabled.{tabled}
use Rattle.sk_analyse.specs.Jobs.{walks_of_job}
use Rattle.sk_analyse.proofs.Made.{SoFar, begins, goes_on, finishes, in_time}
use Rattle.sk_analyse.proofs.rounds.last_round.Given as given
use Rattle.sk_analyse.proofs.rounds.last_round.Goals as goal

later : (g : given.Over) (c : goal.Then-branch g) → SoFar (walks_of_job g.D.NumDom.domain g.D.NumDom.FINITE c.args.job.now) (tabled c.next_round.new.sides) (c.loop-sides.round + 1)
later g c =
    goes_on (walks_of_job g.D.NumDom.domain g.D.NumDom.FINITE c.args.job.now) (tabled c.loop-sides.sides) (tabled c.next_round.new.sides) c.loop-sides.round c.loop-sides.invariant.so_far c.in_ok-next_round.ensures.gives
    (MatchBool-at_true _ _ c.if-branch.true c.in_ok-next_round.ensures.changed)

late_enough : (g : given.Over) (c : goal.Then-branch g) → c.loop-sides.round + 1 ≤ round_bound (walks_of_job g.D.NumDom.domain g.D.NumDom.FINITE c.args.job.now)
late_enough g c = in_time (walks_of_job g.D.NumDom.domain g.D.NumDom.FINITE c.args.job.now) (tabled c.next_round.new.sides) (c.loop-sides.round + 1) c.requires.job.laws (later g c)

pub loop-sides-init : goal.loop-sides-init
loop-sides-init g c = record {
  so_far = begins (walks_of_job g.D.NumDom.domain g.D.NumDom.FINITE c.args.job.now) (tabled c.in_ok-sides.sides) c.in_ok-sides.ensures.table;
  slots = c.in_ok-sides.ensures.slots;
}

pub overflow_add-round : goal.overflow_add-round
overflow_add-round g c = let h = late_enough g c in let b = c.requires.bound in search (rules, arith)

pub loop-sides-smaller : goal.loop-sides-smaller
loop-sides-smaller g c = omega (arith, late_enough g c)

pub loop-sides-preserved : goal.loop-sides-preserved
loop-sides-preserved g c = record { so_far = later g c; slots = c.in_ok-next_round.ensures.slots }

pub returns : goal.returns
returns g c =
    finishes (walks_of_job g.D.NumDom.domain g.D.NumDom.FINITE c.args.job.now) (tabled c.loop-sides.sides) (tabled c.next_round.new.sides) c.loop-sides.round c.loop-sides.invariant.so_far c.in_ok-next_round.ensures.gives
    (MatchBool-at_false _ _ c.if-branch.false c.in_ok-next_round.ensures.changed)
