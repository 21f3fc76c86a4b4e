use Rattle.std.proofs.Common.{◌+◌, drop}
use Rattle.sk_value.proofs.Texts.{Underway}
use Rattle.sk_bench.proofs.Printed.{lines_at}
use Rattle.sk_bench.proofs.print.put_outcomes.Given as goal

abbrev pub invariant-loop-place : goal.invariant-loop-place
invariant-loop-place l =
    Underway l.fn.out.items l.out.items (lines_at l.def l.names l.forest (l.place + 1) (drop l.place l.roots)) (lines_at l.def l.names l.forest 1 l.roots)
