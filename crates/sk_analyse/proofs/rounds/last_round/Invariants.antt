use Rattle.std.proofs.Common.{◌-◌}
use Rattle.sk_rounds.specs.Rounds.{round_bound}
use Rattle.sk_analyse.specs.Tabled.{tabled, HasAllSlots}
use Rattle.sk_analyse.specs.Jobs.{setting_of_job, walks_of_job}
use Rattle.sk_analyse.proofs.Made.{SoFar}
use Rattle.sk_analyse.proofs.rounds.last_round.Given as goal

abbrev pub invariant-loop-sides : goal.invariant-loop-sides
invariant-loop-sides g l = record {
  so_far : SoFar (walks_of_job g.D.NumDom.domain g.D.NumDom.FINITE l.job) (tabled l.sides) l.round;
  slots : HasAllSlots (setting_of_job l.job) l.sides;
}

abbrev pub decreases-loop-sides : goal.decreases-loop-sides
decreases-loop-sides g l = round_bound (walks_of_job g.D.NumDom.domain g.D.NumDom.FINITE l.job) - l.round
