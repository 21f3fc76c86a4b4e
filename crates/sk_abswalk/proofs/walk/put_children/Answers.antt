use Rattle.std.proofs.Common.{◌∙◌, arith}
use Rattle.sk_term.specs.Program.{children_of_point}
use Rattle.sk_abswalk.proofs.Starts.{bind_turn}
use Rattle.sk_abswalk.proofs.walk.put_children.Goals as goal

pub loop-place-preserved : goal.loop-place-preserved
loop-place-preserved g c =
    bind_turn c.loop-place.env c.put_child.new.self c.args.terms.now (children_of_point c.args.arena.now.nodes c.args.point) c.loop-place.place (record { 0 = 0 }) c.child.result
    (omega (arith, c.loop-place-test.true)) c.requires.counted c.child.ensures c.put_child.ensures ∙ c.loop-place.invariant
