use Rattle.std.specs.Prelude.{◌≡◌, Some, slice_get}
use Rattle.sk_constr.specs.declared.line.KeyLines.{KeyLines}
use Rattle.sk_solve.specs.Climbing.{IsStep, LineHolds}
use Rattle.sk_solve.proofs.Passes.{EachBelow}
use Rattle.sk_solve.proofs.solving.raise_lines.Given as goal

abbrev pub invariant-loop-line : goal.invariant-loop-line
invariant-loop-line g l =
    (key : KeyLines) → slice_get l.list.keys l.at ≡ Some key →
    IsStep g.D.NumDom.domain l.list (λ a. EachBelow l.line-index (λ line. LineHolds g.D.NumDom.domain l.list.names l.at line a) key.lines) l.fn.found l.found l.changed
