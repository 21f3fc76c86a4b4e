use Rattle.sk_bench.specs.Jobs.{padded_cover}
use Rattle.sk_lattice.proofs.PaddingLemmas.{map_turn}
use Rattle.sk_bench.proofs.job_covers.pad_covers.Goals as goal

pub loop-cover-preserved : goal.loop-cover-preserved
loop-cover-preserved g c =
    map_turn (padded_cover g.D.NumDom.domain c.args.names) c.args.covers.now c.loop-cover.cover-items c.loop-cover.cover-index _ c.pad_cover.new.cover c.loop-cover.invariant c.loop-cover-test.true c.in_ok-pad_cover.ensures
