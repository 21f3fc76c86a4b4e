use Rattle.std.proofs.Common.{◌+◌, drop, get_or, length, ◌∙◌, ap₂, subst}
use Rattle.sk_rounds.specs.Rounds.{raised}
use Rattle.sk_analyse.specs.Jobs.{setting_of_job, walks_of_job}
use Rattle.sk_analyse.specs.Sides.{side_of}
use Rattle.sk_analyse.proofs.Filling.{Filled, fills, key_split}
use Rattle.sk_analyse.proofs.KeyList.{key_within}
use Rattle.sk_analyse.proofs.Telling.{place_in}
use Rattle.sk_analyse.proofs.round.raise_all.Goals as goal

pub write-requires : goal.write-requires
write-requires g c =
    let job = c.args.job.now in
    let items = c.as_slice-key-items.result.now in
    let within = key_within job.checked.now job.arena.now.nodes items c.args.list.now c.loop-key.key-index (record { 0 = 0 }, 0) c.as_slice-key-items.ensures c.requires.list c.loop-key-test.true in
    place_in c.loop-key.made.slots c.loop-key.made.hooks (length job.checked.now.hooks) (length job.arena.now.nodes) (get_or items c.loop-key.key-index (record { 0 = 0 }, 0)) c.loop-key.invariant.hooks c.loop-key.invariant.size within.0 within.1

pub loop-key-preserved : goal.loop-key-preserved
loop-key-preserved g c =
    let job = c.args.job.now in
    let items = c.as_slice-key-items.result.now in
    let i = c.loop-key.key-index in
    let walks = walks_of_job g.D.NumDom.domain g.D.NumDom.FINITE job in
    let old = side_of c.args.old.now.hooks c.args.old.now.slots in
    let new = side_of c.args.demanded.now.hooks c.args.demanded.now.slots in
    let key = get_or items i (record { 0 = 0 }, 0) in
    record {
      hooks = c.write.ensures.hooks ∙ c.loop-key.invariant.hooks;
      size = c.write.ensures.size ∙ c.loop-key.invariant.size;
      filled = fills (λ k. raised walks c.args.round (old k) (new k)) (side_of c.loop-key.made.hooks c.loop-key.made.slots) (side_of c.write.new.self.hooks c.write.new.self.slots) key (drop (i + 1) c.args.list.now) c.in_ok-side.side
          c.write.ensures.written
          (c.in_ok-side.ensures (setting_of_job job) job.covers.now ∙ ap₂ (raised walks c.args.round) (c.in_ok-was.ensures ∙ c.side.ensures) (c.in_ok-new.ensures ∙ c.side-in-loop-key.ensures))
          (subst (Filled (λ k. raised walks c.args.round (old k) (new k)) (side_of c.loop-key.made.hooks c.loop-key.made.slots)) (key_split items c.args.list.now i (record { 0 = 0 }, 0) c.as_slice-key-items.ensures c.loop-key-test.true) c.loop-key.invariant.filled);
    }
