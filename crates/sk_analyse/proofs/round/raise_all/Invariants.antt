use Rattle.std.proofs.Common.{◌≡◌, ◌*◌, length, drop}
use Rattle.sk_rounds.specs.Rounds.{raised}
use Rattle.sk_analyse.specs.Jobs.{walks_of_job}
use Rattle.sk_analyse.specs.Sides.{side_of}
use Rattle.sk_analyse.proofs.Filling.{Filled}
use Rattle.sk_analyse.proofs.round.raise_all.Given as goal

abbrev pub invariant-loop-key : goal.invariant-loop-key
invariant-loop-key g l = record {
  hooks : l.made.hooks ≡ length l.job.checked.now.hooks;
  size : length l.made.slots ≡ length l.job.checked.now.hooks * length l.job.arena.now.nodes;
  filled : Filled (λ k. raised (walks_of_job g.D.NumDom.domain g.D.NumDom.FINITE l.job) l.round (side_of l.old.hooks l.old.slots k) (side_of l.demanded.hooks l.demanded.slots k)) (side_of l.made.hooks l.made.slots) (drop l.key-index l.list);
}
