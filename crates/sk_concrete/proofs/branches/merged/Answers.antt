use Rattle.std.proofs.Common.{◌∙◌, map, arith}
use Rattle.sk_concrete.specs.declared.worlds.Worlds.{Worlds}
use Rattle.sk_concrete.proofs.Turns.{merged_turn}
use Rattle.sk_concrete.proofs.branches.merged.Goals as goal

pub loop-place-preserved : goal.loop-place-preserved
loop-place-preserved c =
    merged_turn c.args.exports.now (map (λ (end : Worlds). end.list) c.args.ends.now) c.args.before.now c.loop-place.list c.push_joined_ends.new.list c.loop-place.place
    c.index-before-place.result (omega (arith, c.loop-place-test.true)) c.index-before-place.is c.in_ok-push_joined_ends.ensures ∙ c.loop-place.invariant
