use Rattle.std.proofs.Common.{◌∙◌, ap₂, ℕ, Some, arith}
use Rattle.std.specs.List.{slice_set}
use Rattle.sk_value.specs.declared.flow.Flow.{Flow}
use Rattle.sk_deriv.specs.declared.entry.Entry.{Entry}
use Rattle.sk_term.specs.Program.{children_of_point}
use Rattle.sk_concrete.proofs.Turns.{bind_turn}
use Rattle.sk_concrete.proofs.start.bind_children.Goals as goal

pub loop-place-preserved : goal.loop-place-preserved
loop-place-preserved c =
    bind_turn c.loop-place.env c.put.new.self c.args.terms.now (children_of_point c.args.arena.now.nodes c.args.point) c.loop-place.place (record { 0 = 0 }) c.child.result
    (omega (arith, c.loop-place-test.true)) c.requires.counted c.child.ensures
    (c.put.ensures ∙ ap₂ (λ (k : ℕ). λ (e : Entry Flow). slice_set c.loop-place.env k (Some e)) c.from.ensures c.entry_of_child-entry.ensures) ∙ c.loop-place.invariant
