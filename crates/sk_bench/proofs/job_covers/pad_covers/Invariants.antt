use Rattle.std.proofs.Common.{◌≡◌, ◌++◌, map, take, drop}
use Rattle.sk_bench.specs.Jobs.{padded_cover}
use Rattle.sk_bench.proofs.job_covers.pad_covers.Given as goal

abbrev pub invariant-loop-cover : goal.invariant-loop-cover
invariant-loop-cover g l = l.cover-items ≡ map (padded_cover g.D.NumDom.domain l.names) (take l.cover-index l.fn.covers) ++ drop l.cover-index l.fn.covers
