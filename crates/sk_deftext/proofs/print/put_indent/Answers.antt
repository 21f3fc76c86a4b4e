use Rattle.std.proofs.Common.{◌++◌, ◌-◌, ◌+◌, ◌∙◌, ap}
use Rattle.sk_deftext.specs.Canonical.{indent}
use Rattle.sk_deftext.proofs.Lines.{indent_turn}
use Rattle.sk_deftext.proofs.print.put_indent.Goals as goal

pub loop-preserved : goal.loop-preserved
loop-preserved c =
    ap (λ xs. xs ++ indent (c.args.level - (c.loop.counter + 1))) c.in_ok-extend_from_slice.ensures.items
    ∙ indent_turn c.loop.out.items _ c.args.level c.loop.counter c.loop-test.true c.loop.invariant
