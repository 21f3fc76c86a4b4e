use Rattle.std.proofs.Common.{◌+◌, drop}
use Rattle.sk_value.proofs.Texts.{Underway}
use Rattle.sk_deriv.specs.Forest.{tree_at}
use Rattle.sk_deriv.specs.Lines.{derivation_lines}
use Rattle.sk_deriv.proofs.Printing.{lines_of}
use Rattle.sk_deriv.proofs.forest.Forest.+put_below.Given as goal

abbrev pub decreases-put_below : goal.decreases-put_below
decreases-put_below l = l.node

abbrev pub invariant-loop-step : goal.invariant-loop-step
invariant-loop-step l =
    Underway l.fn.out.items l.out.items (lines_of l.def l.names (l.depth + 1) l.self (drop l.step-index l.step-items)) (derivation_lines l.def l.names l.depth (tree_at l.self l.node))
