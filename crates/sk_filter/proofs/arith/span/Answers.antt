use Rattle.std.proofs.Common.{◌≡◌, length, ap, ◌∙◌, w64, arith}
use Rattle.std.proofs.lemmas.Int.{ints, to_z-of_z}
use Rattle.sk_filter.proofs.Arithmetic.{length-plain, next_is, plain_pushed, plain_finished}
use Rattle.sk_filter.proofs.arith.span.Goals as goal

pub push-requires : goal.push-requires
push-requires c =
    let long : length c.loop-above.results ≡ c.loop-above.above = ap length c.loop-above.invariant ∙ length-plain _ c.loop-above.above in
    omega arith

pub loop-above-preserved : goal.loop-above-preserved
loop-above-preserved c = plain_pushed _ _ c.loop-above.above c.loop-above.results c.push.new.self c.loop-above.invariant c.in_ok-push.ensures.ok
    (next_is c.args.first c.from.result c.loop-above.above c.ranges.first (record { sfits = c.from.type_inv }) c.from.ensures (omega (arith, ints)))

pub returns : goal.returns
returns c = plain_finished c.args.first _ c.args.count c.loop-above.above c.loop-above.results c.ranges.first c.requires.in_range c.loop-above.invariant (to_z-of_z w64 c.args.first c.ranges.first) (omega arith)
